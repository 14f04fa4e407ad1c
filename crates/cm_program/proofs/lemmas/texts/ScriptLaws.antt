-- Bytes that are served are not refused, and ask for one thing.
use Rattle.std.proofs.Common.{◌≡◌, ℕ, List, sym, ap, ◌∙◌}
use Rattle.cm_facts.proofs.Options.{Ok_not_Err}
use Rattle.cm_command.proofs.lemmas.scripts.OneScript.{texts_are_one_script_lem, scripts_have_no_fault_lem}
use Rattle.cm_program.specs.Laws.{ServedAreNotRefused, BytesAskForOne}
use Rattle.cm_program.specs.Run.{IsFaulty}
use Rattle.cm_program.specs.Stock.{IsScriptRefusal, LoadsScript, served_script}
use Rattle.cm_program.specs.declared.fault.ScriptRefusal.{ScriptRefusal}
use Rattle.cm_program.specs.declared.fault.ScriptRefusal.TheVariants.{Unread, Unserved, Memory}
use Rattle.cm_program.specs.declared.stock.LoadedScript.{LoadedScript}

-- Bytes that are refused aren't served as a script.
refused_unserved : (bytes : List ℕ) (f : ScriptRefusal) (served : LoadedScript) → IsScriptRefusal bytes f → LoadsScript bytes served → ⊥
refused_unserved bytes (Unread line number at) served f h = scripts_have_no_fault_lem bytes h.script line number at h.reads f
refused_unserved bytes (Unserved line problem) served f h =
    let same = texts_are_one_script_lem bytes f.script h.script f.reads h.reads in
    Ok_not_Err h.asks (sym (ap served_script same) ∙ f.refused)
refused_unserved bytes Memory served f h = absurd f

-- Bytes that are a script without a fault aren't refused.
pub served_are_not_refused_lem : ServedAreNotRefused
served_are_not_refused_lem bytes served h (IsFaulty.refused f g) = refused_unserved bytes f served g h
served_are_not_refused_lem bytes served h (IsFaulty.unserved never) = never served h

-- The same bytes ask for one thing at most.
pub bytes_ask_for_one_lem : BytesAskForOne
bytes_ask_for_one_lem bytes a b h k =
    let same = texts_are_one_script_lem bytes h.script k.script h.reads k.reads in
    let asks : served_script h.script ≡ served_script k.script = ap served_script same in
    cc (h.asks, k.asks, asks)
