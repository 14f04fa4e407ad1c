-- Inside.
-- What a run with a journal has to know of its script.
use Rattle.std.specs.Prelude.{◌≡◌, All, true}
use Rattle.cm_reply.specs.LegibleInside.{IsLegibleFrame}
use Rattle.cm_journal.specs.Asked.{AreWritableLines}
use Rattle.cm_program.specs.declared.stock.LoadedScript.{LoadedScript}
use Rattle.cm_call.specs.declared.call.Wanted.{Wanted}
use Rattle.cm_call.specs.declared.call.Wanted.TheVariants.{Answers}

-- a journal can tell of this script: its frame and its commands are within what the journal's texts
-- can say
pub record IsLegibleServed (served : LoadedScript) : Type 0 where
  pub frame : IsLegibleFrame served.frame
  pub phases : All AreWritableLines served.phases

-- where the answers and the journal are wanted, a journal can tell of this script
abbrev pub MayTell : Wanted → LoadedScript → Type 0
MayTell wanted served = wanted ≡ Answers true → IsLegibleServed served
