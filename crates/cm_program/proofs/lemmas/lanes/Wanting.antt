-- A script of which no line was run, for lack of memory: each line is answered so.
use Rattle.std.proofs.Common.{◌≡◌, ◌<◌, List, [], ◌∷◌, All, map, refl, sym, ap, ◌∙◌, subst}
use Rattle.std.proofs.lemmas.List.Elements.{All-nil}
use Rattle.cm_world.specs.declared.frame.Frame.{Frame}
use Rattle.cm_world.specs.declared.reply.Entry.{Entry}
use Rattle.cm_world.specs.World.{start}
use Rattle.cm_world.specs.Legal.{Legal}
use Rattle.cm_command.specs.declared.script.Line.{Line}
use Rattle.cm_lanes.specs.Laws.{no_answer}
use Rattle.cm_lanes.specs.Script.{AnsweredLine, answered_lines, ArePhases}
use Rattle.cm_lanes.proofs.lemmas.lines.Parting.{phases_lost}
use Rattle.cm_program.specs.Headline.{MakesHistory}

-- The lines of all phases, each answered for lack of memory.
abbrev pub all_wanting : List (List Line) → List (List AnsweredLine)
all_wanting phases = map (λ lines. map no_answer lines) phases

-- Lines that are answered with nothing are the lines themselves.
lines_back : (lines : List Line) → answered_lines (map no_answer lines) ≡ lines
lines_back [] = refl
lines_back (l ∷ ls) = ap (λ (rest : List Line). l ∷ rest) (lines_back ls)

-- The lines that are answered for lack of memory are those of the phases.
pub phases_back : (phases : List (List Line)) → map answered_lines (all_wanting phases) ≡ phases
phases_back [] = refl
phases_back (p ∷ ps) = ap (λ (q : List Line). q ∷ map answered_lines (all_wanting ps)) (lines_back p) ∙ ap (λ (rest : List (List Line)). p ∷ rest) (phases_back ps)

-- such a script makes an empty history
pub makes_nothing : (f : Frame) (phases : List (List Line)) (history : List Entry) → history ≡ [] → Legal (start f) history → MakesHistory f phases (all_wanting phases) history
makes_nothing f phases history none legal = record {
  lines = phases_back phases;
  legal = legal;
  performed = subst (λ (l : List Entry). ArePhases (λ c. f) (all_wanting phases) [] l) (sym none) (phases_lost (λ c. f) phases []);
  callers = subst (All (λ (e : Entry). e.caller < 16)) (sym none) (All-nil (λ (e : Entry). e.caller < 16));
}
