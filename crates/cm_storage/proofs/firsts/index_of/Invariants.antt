use Rattle.std.proofs.Common.{take}
use Rattle.cm_storage.specs.OfferIndex.{IsIndexOf}
use Rattle.cm_storage.proofs.firsts.index_of.Given as goal

-- the offers so far are laid out
abbrev pub invariant-loop-offer : goal.invariant-loop-offer
invariant-loop-offer l = IsIndexOf (take l.offer-index l.offers) l.index
