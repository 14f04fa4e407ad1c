use Rattle.std.proofs.Common.{◌≡◌, ◌+◌, length}
use Rattle.cm_names.specs.Path.{parts_fault}
use Rattle.cm_names.proofs.path.parts_fault.Given as goal

abbrev pub invariant-parts : goal.invariant-parts
invariant-parts l = record { same : parts_fault l.place l.rest ≡ parts_fault l.start l.text; place : l.place + length l.rest ≡ l.start + length l.text }

abbrev pub decreases-parts : goal.decreases-parts
decreases-parts l = length l.rest
