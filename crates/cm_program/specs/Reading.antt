-- Promised.
-- What a script asks for, or why it is refused.
use Rattle.std.specs.Prelude.{ℕ, Result}
use Rattle.cm_program.specs.declared.fault.ScriptRefusal.{ScriptRefusal}
use Rattle.cm_program.specs.declared.fault.ScriptRefusal.TheVariants.{Unserved}
use Rattle.cm_program.specs.declared.fault.Problem.{Problem}

-- what reading a script gives, or why the script is refused
abbrev pub ReadOutcome : Type 0 → Type 0
ReadOutcome A = Result A ScriptRefusal

-- the refusal of a script for this problem, at this line
abbrev pub bad : ℕ → Problem → ScriptRefusal
bad line problem = Unserved line problem
