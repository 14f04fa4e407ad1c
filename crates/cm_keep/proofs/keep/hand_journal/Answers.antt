use Rattle.std.proofs.Common.{◌++◌, ◌∙◌, subst}
use Rattle.std.specs.Io.KnownBytes.{Appends}
use Rattle.cm_reply.specs.Journal.{entries_text}
use Rattle.cm_keep.proofs.lemmas.Passing.{all_handed}
use Rattle.cm_keep.proofs.keep.hand_journal.Goals as goal

pub returns-clause-handed : goal.returns-clause-handed
returns-clause-handed g c =
    let draft = g.P.TextKeeper.draft in
    subst (λ head. Appends (draft c.args.keeper.now) (draft c.hand_over.new.keeper) (head ++ entries_text 1 c.args.entries.now))
    (c.in-Ok-into_string.ensures ∙ c.in-Ok.ensures)
    (all_handed _ _ _ _ _ _ c.in_default-keep_entries.ensures.passes c.in_default-hand_over.ensures.handed)
