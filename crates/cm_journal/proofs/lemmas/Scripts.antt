-- Scripts can be told of.
use Rattle.std.proofs.Common.{ℕ, List, [], ◌∷◌, All, sym, subst}
use Rattle.std.specs.Prelude.{IfSome}
use Rattle.std.proofs.lemmas.List.Elements.{All-cons, All-append, All-nil}
use Rattle.cm_command.specs.declared.script.Line.{Line}
use Rattle.cm_command.specs.declared.script_reader.Draft.{Draft}
use Rattle.cm_command.specs.Grammar.{LineBytes}
use Rattle.cm_command.specs.Words.{IsUrlText}
use Rattle.cm_command.specs.WrittenInside.{IsWritable}
use Rattle.cm_command.specs.Scripts.{TakesScriptLine, ReadsLines, no_draft}
use Rattle.cm_command.proofs.lemmas.written.ReadCommands.{what_is_read_lem}
use Rattle.cm_reply.specs.Legible.{IsLegibleBuiltin}
use Rattle.cm_journal.specs.Asked.{AreWritableLines, ScriptsAreLegible}
use Rattle.cm_audit.proofs.lemmas.Builtins.{legible_by}

-- a draft that can be told of
pub record IsFit (d : Draft) : Type 0 where
  pub builtins : All IsLegibleBuiltin d.builtins
  pub root : IfSome d.root IsUrlText
  pub phases : All AreWritableLines d.phases
  pub phase : AreWritableLines d.phase

-- A line of a script leaves what was read so far fit to be told.
takes : (n : ℕ) (t : LineBytes) (d e : Draft) → TakesScriptLine n t d e → IsFit d → IsFit e
takes n t d e (TakesScriptLine.closes is) h = record { builtins = h.builtins; root = h.root; phases = h.phases; phase = h.phase }
takes n t d e (TakesScriptLine.inner is apart) h = record { builtins = h.builtins; root = h.root; phases = h.phases; phase = h.phase }
takes n t d e (TakesScriptLine.blank is apart) h = h
takes n t d e (TakesScriptLine.opens is early u) h = record { builtins = h.builtins; root = h.root; phases = h.phases; phase = h.phase }
takes n t d e (TakesScriptLine.builtin {b = b} is early words fresh) h = record {
  builtins = All-append IsLegibleBuiltin d.builtins (b ∷ []) h.builtins (All-cons IsLegibleBuiltin b [] (legible_by _ b words) (All-nil IsLegibleBuiltin));
  root = h.root;
  phases = h.phases;
  phase = h.phase;
}
takes n t d e (TakesScriptLine.root is early none u) h = record { builtins = h.builtins; root = u; phases = h.phases; phase = h.phase }
takes n t d e (TakesScriptLine.sync is r) h = record {
  builtins = h.builtins;
  root = h.root;
  phases = All-append AreWritableLines d.phases (d.phase ∷ []) h.phases (All-cons AreWritableLines d.phase [] h.phase (All-nil AreWritableLines));
  phase = All-nil (λ (l : Line). IsWritable l.command);
}
takes n t d e (TakesScriptLine.command {rest = rest} {c = c} is r lane small asks) h = record {
  builtins = h.builtins;
  root = h.root;
  phases = h.phases;
  phase = All-append (λ (l : Line). IsWritable l.command) d.phase _ h.phase (All-cons (λ (l : Line). IsWritable l.command) _ [] (what_is_read_lem rest c asks) (All-nil (λ (l : Line). IsWritable l.command)));
}

-- Lines of a script leave what was read so far fit to be told.
reads : (size place n : ℕ) (d e : Draft) (ts : List LineBytes) → ReadsLines size place n d ts e → IsFit d → IsFit e
reads size place n d e ts ReadsLines.no_more h = h
reads size place n d e ts (ReadsLines.one_more {t = t} {e = x} fits take rest) h = reads _ _ _ x e _ rest (takes n t d x take h)

-- What was read before the first line is fit to be told.
start : IsFit no_draft
start = record { builtins = All-nil IsLegibleBuiltin; root = tt; phases = All-nil AreWritableLines; phase = All-nil (λ (l : Line). IsWritable l.command) }

-- A journal can tell of every script that can be read.
pub scripts_are_legible : ScriptsAreLegible
scripts_are_legible bytes s is =
    let fit : IsFit is.draft = reads _ 0 1 no_draft is.draft _ is.reads start in
    record {
      root = subst (λ o. IfSome o IsUrlText) is.whole.root fit.root;
      builtins = subst (All IsLegibleBuiltin) (sym is.whole.builtins) fit.builtins;
      phases = subst (All AreWritableLines) (sym is.whole.phases) (All-append AreWritableLines is.draft.phases (is.draft.phase ∷ []) fit.phases (All-cons AreWritableLines is.draft.phase [] fit.phase (All-nil AreWritableLines)));
    }
