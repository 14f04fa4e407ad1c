use Rattle.std.proofs.Common.{length, sym, ap, subst, ◌∙◌, arith}
use Rattle.std.proofs.lemmas.Iterator.Splits.{YieldsList-from_str_split}
use Rattle.std.proofs.lemmas.Iterator.Consumers.{YieldsList-turn, YieldsList-end}
use Rattle.std.proofs.lemmas.List.{length_push, take_all}
use Rattle.std.proofs.lemmas.List.Elements.{All-push}
use Rattle.std.specs.Str.Iter.{split_text, split_has_more, split_pattern}
use Rattle.cm_names.specs.Moniker.{IsChildName}
use Rattle.cm_names.specs.MonikerInside.{IsChildText}
use Rattle.cm_names.specs.Path.{parts_of}
use Rattle.cm_names.proofs.lemmas.texts.MonikerParts.{texts_more}
use Rattle.cm_names.proofs.moniker.read_parts.Goals as goal

pub read_child-requires : goal.read_child-requires
read_child-requires c =
    let turn = YieldsList-turn (YieldsList-from_str_split 47 c.args.text.now (omega arith) (ap split_text c.into_iter-part-iterator.ensures.into_iter_gives ∙ c.split-part-items.ensures.text) (ap split_has_more c.into_iter-part-iterator.ensures.into_iter_gives ∙ c.split-part-items.ensures.has_more) (ap split_pattern c.into_iter-part-iterator.ensures.into_iter_gives ∙ c.split-part-items.ensures.pattern)) c.loop-part.yielded _ c.loop-part.yielded_by _ _ c.in-Some.part c.in-Some.is c.next.ensures.steps in
    subst IsChildText (sym turn.1) (c.requires (length c.loop-part.yielded) c.in-Some.part.now turn.0)

pub loop-part-preserved : goal.loop-part-preserved
loop-part-preserved c =
    let turn = YieldsList-turn (YieldsList-from_str_split 47 c.args.text.now (omega arith) (ap split_text c.into_iter-part-iterator.ensures.into_iter_gives ∙ c.split-part-items.ensures.text) (ap split_has_more c.into_iter-part-iterator.ensures.into_iter_gives ∙ c.split-part-items.ensures.has_more) (ap split_pattern c.into_iter-part-iterator.ensures.into_iter_gives ∙ c.split-part-items.ensures.pattern)) c.loop-part.yielded _ c.loop-part.yielded_by _ _ c.in-Some.part c.in-Some.is c.next.ensures.steps in
    let pushed = c.in_ok-push.ensures.ok in
    record {
      names = rw pushed (All-push IsChildName _ _ c.loop-part.invariant.names c.in_ok-read_child.ensures.is_child);
      texts = rw pushed (rw (length_push c.loop-part.yielded c.in-Some.part) (texts_more _ _ _ _ _ _ turn.0 turn.1 c.in_ok-read_child.ensures.text c.loop-part.invariant.texts));
    }

pub returns-clause-texts : goal.returns-clause-texts
returns-clause-texts c =
    let all = YieldsList-end (YieldsList-from_str_split 47 c.args.text.now (omega arith) (ap split_text c.into_iter-part-iterator.ensures.into_iter_gives ∙ c.split-part-items.ensures.text) (ap split_has_more c.into_iter-part-iterator.ensures.into_iter_gives ∙ c.split-part-items.ensures.has_more) (ap split_pattern c.into_iter-part-iterator.ensures.into_iter_gives ∙ c.split-part-items.ensures.pattern)) c.loop-part.yielded _ c.loop-part.yielded_by _ _ c.in-None.is c.next.ensures.steps in
    c.loop-part.invariant.texts ∙ take_all (length c.loop-part.yielded) (parts_of c.args.text.now) (omega (arith, all.1))
