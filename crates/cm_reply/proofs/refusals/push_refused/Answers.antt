use Rattle.std.proofs.Common.{◌++◌, codes, OnOk, sym, subst}
use Rattle.cm_decl.specs.Words.{node_text}
use Rattle.cm_reply.specs.Lists.{each_behind}
use Rattle.cm_reply.specs.ListsInside.{GainsText}
use Rattle.cm_reply.specs.Refusals.{refusal_words}
use Rattle.cm_reply.proofs.refusals.push_refused.Goals as goal

pub returns-in-OfferCycle : goal.returns-in-OfferCycle
returns-in-OfferCycle c =
    let written = subst (λ nodes. OnOk c.push_cycle.result (GainsText c.args.text.now c.push_cycle.new.text (codes "64 offer-cycle" ++ each_behind (codes " ") node_text nodes))) c.as_slice.ensures c.push_cycle.ensures in
    subst (λ r. OnOk c.push_cycle.result (GainsText c.args.text.now c.push_cycle.new.text (refusal_words r))) (sym c.in-OfferCycle.is) written

pub returns-in-CollectionNotFound : goal.returns-in-CollectionNotFound
returns-in-CollectionNotFound c =
    subst (λ r. OnOk c.push.result (GainsText c.args.text.now c.push.new.text (refusal_words r))) (sym c.in-CollectionNotFound.is) c.push.ensures

pub returns-in-AlreadyExists : goal.returns-in-AlreadyExists
returns-in-AlreadyExists c =
    subst (λ r. OnOk c.push_number.result (GainsText c.args.text.now c.push_number.new.text (refusal_words r))) (sym c.in-AlreadyExists.is) c.push_number.ensures

pub returns-in-DynamicOffersRefused : goal.returns-in-DynamicOffersRefused
returns-in-DynamicOffersRefused c =
    subst (λ r. OnOk c.push-in-DynamicOffersRefused.result (GainsText c.args.text.now c.push-in-DynamicOffersRefused.new.text (refusal_words r))) (sym c.in-DynamicOffersRefused.is) c.push-in-DynamicOffersRefused.ensures

pub returns-in-ParentClosing : goal.returns-in-ParentClosing
returns-in-ParentClosing c =
    subst (λ r. OnOk c.push_number-in-ParentClosing.result (GainsText c.args.text.now c.push_number-in-ParentClosing.new.text (refusal_words r))) (sym c.in-ParentClosing.is) c.push_number-in-ParentClosing.ensures

pub returns-in-Full : goal.returns-in-Full
returns-in-Full c =
    subst (λ r. OnOk c.push-in-Full.result (GainsText c.args.text.now c.push-in-Full.new.text (refusal_words r))) (sym c.in-Full.is) c.push-in-Full.ensures

pub returns-in-NotDynamic : goal.returns-in-NotDynamic
returns-in-NotDynamic c =
    subst (λ r. OnOk c.push-in-NotDynamic.result (GainsText c.args.text.now c.push-in-NotDynamic.new.text (refusal_words r))) (sym c.in-NotDynamic.is) c.push-in-NotDynamic.ensures

pub returns-in-HistoryFull : goal.returns-in-HistoryFull
returns-in-HistoryFull c =
    subst (λ r. OnOk c.push-in-HistoryFull.result (GainsText c.args.text.now c.push-in-HistoryFull.new.text (refusal_words r))) (sym c.in-HistoryFull.is) c.push-in-HistoryFull.ensures

pub returns-in-Gone : goal.returns-in-Gone
returns-in-Gone c =
    subst (λ r. OnOk c.push_number-in-Gone.result (GainsText c.args.text.now c.push_number-in-Gone.new.text (refusal_words r))) (sym c.in-Gone.is) c.push_number-in-Gone.ensures

pub returns-in-Shut : goal.returns-in-Shut
returns-in-Shut c =
    subst (λ r. OnOk c.push_number-in-Shut.result (GainsText c.args.text.now c.push_number-in-Shut.new.text (refusal_words r))) (sym c.in-Shut.is) c.push_number-in-Shut.ensures

pub returns-in-CannotResolve : goal.returns-in-CannotResolve
returns-in-CannotResolve c =
    subst (λ r. OnOk c.push_ended.result (GainsText c.args.text.now c.push_ended.new.text (refusal_words r))) (sym c.in-CannotResolve.is) c.push_ended.ensures

pub returns-in-CannotStart : goal.returns-in-CannotStart
returns-in-CannotStart c =
    subst (λ r. OnOk c.push_ended-in-CannotStart.result (GainsText c.args.text.now c.push_ended-in-CannotStart.new.text (refusal_words r))) (sym c.in-CannotStart.is) c.push_ended-in-CannotStart.ensures

pub returns-in-ClientOff : goal.returns-in-ClientOff
returns-in-ClientOff c =
    subst (λ r. OnOk c.push-in-ClientOff.result (GainsText c.args.text.now c.push-in-ClientOff.new.text (refusal_words r))) (sym c.in-ClientOff.is) c.push-in-ClientOff.ensures

pub returns-in-NoSuchUse : goal.returns-in-NoSuchUse
returns-in-NoSuchUse c =
    subst (λ r. OnOk c.push-in-NoSuchUse.result (GainsText c.args.text.now c.push-in-NoSuchUse.new.text (refusal_words r))) (sym c.in-NoSuchUse.is) c.push-in-NoSuchUse.ensures

pub returns-in-SourceShut : goal.returns-in-SourceShut
returns-in-SourceShut c =
    subst (λ r. OnOk c.push_number-in-SourceShut.result (GainsText c.args.text.now c.push_number-in-SourceShut.new.text (refusal_words r))) (sym c.in-SourceShut.is) c.push_number-in-SourceShut.ensures

pub returns-in-Memory : goal.returns-in-Memory
returns-in-Memory c =
    subst (λ r. OnOk c.push-in-Memory.result (GainsText c.args.text.now c.push-in-Memory.new.text (refusal_words r))) (sym c.in-Memory.is) c.push-in-Memory.ensures

pub returns-in-BadOffer : goal.returns-in-BadOffer
returns-in-BadOffer c =
    subst (λ r. OnOk c.push_bad_offer.result (GainsText c.args.text.now c.push_bad_offer.new.text (refusal_words r))) (sym c.in-BadOffer.is) c.push_bad_offer.ensures
