use Rattle.std.proofs.Common.{rules, refl, arith}
use Rattle.cm_command.specs.Scripts.{LineFault}
use Rattle.cm_command.proofs.lemmas.scripts.ScriptSteps.{builtin_takes, builtin_fault, builtin_place}
use Rattle.cm_command.proofs.script_reader.Draft.provide.Goals as goal

pub returns-then-self : goal.returns-then-self
returns-then-self c = LineFault.late_builtin c.requires.closed (search rules) (c.args.words.now, refl)

pub fault_behind-requires : goal.fault_behind-requires
fault_behind-requires c = omega (arith, c.requires.short, builtin_place c.args.words.now c.in-Err.fault c.in-Err.ensures.fault)

pub returns-in-Err : goal.returns-in-Err
returns-in-Err c =
    rw c.fault_behind.ensures (builtin_fault c.args.self.now c.args.words.now c.in-Err.fault c.requires.closed (search rules) c.in-Err.ensures.fault)

pub returns-then-is_repeated : goal.returns-then-is_repeated
returns-then-is_repeated c = LineFault.repeated c.requires.closed (search rules) c.in-Ok.ensures.ok (search rules)

pub returns : goal.returns
returns c =
    λ n. builtin_takes n c.args.self.now c.args.words.now c.in-Ok.builtin c.push.new.self c.requires.closed (search rules) c.in-Ok.ensures.ok (search rules) (search rules)
