-- Promised.
-- What the beginner of an action has to ask of the outside.
use Rattle.std.specs.Prelude.{ℕ, List, [], Option, Some, None, filter, filter_map, option_and_then, unwrap_or}
use Rattle.cm_decl.specs.Graph.{static_name}
use Rattle.cm_world.specs.declared.row.Row.{Row}
use Rattle.cm_world.specs.declared.action.ActKind.{ActKind}
use Rattle.cm_world.specs.declared.action.ActKind.TheVariants.{Resolve, Start, Stop}
use Rattle.cm_world.specs.declared.action.Work.{Work}
use Rattle.cm_world.specs.Rows.{row_of, child_of, moniker_of}

-- the absolute URL of a row's parent, by which its own is resolved; empty for the root
abbrev pub base_of : List Row → Row → List ℕ
base_of rows r =
    unwrap_or (option_and_then (λ p. option_and_then (λ q. q.absolute) (row_of rows p)) r.parent) []

-- the incarnations of the children that start together with a row, in the order of its declaration
abbrev pub eager_of : List Row → Row → List ℕ
eager_of rows r =
    elim r.decl as (λ _. List ℕ) [
      | None ↦ []
      | Some d ↦ filter_map (λ k. child_of rows r.inc (static_name k.name)) (filter (λ k. k.eager) d.children)
    ]

-- the runner that a row's declaration names, if it is resolved and names one
abbrev pub runner_of : Row → Option (List ℕ)
runner_of r = option_and_then (λ d. d.runner) r.decl

-- the work of a start or a stop, which is done on the row's program
abbrev pub program_work : List Row → ℕ → Row → List ℕ → Work
program_work rows action r eager = record {
  action = action;
  inc = r.inc;
  moniker = moniker_of rows r.inc;
  base = [];
  url = unwrap_or r.absolute [];
  runner = runner_of r;
  eager = eager;
}

-- the work that the beginner of an action at a row has to do
abbrev pub work_of : List Row → ℕ → ActKind → Row → Work
work_of rows action Resolve r = record {
  action = action;
  inc = r.inc;
  moniker = moniker_of rows r.inc;
  base = base_of rows r;
  url = r.url;
  runner = None;
  eager = [];
}
work_of rows action Start r = program_work rows action r (eager_of rows r)
work_of rows action Stop r = program_work rows action r []
