-- Promised.
-- How refusals of commands are written.
use Rattle.std.specs.Prelude.{◌++◌, codes, decimal}
use Rattle.cm_names.specs.Moniker.{moniker_text}
use Rattle.cm_decl.specs.Words.{node_text}
use Rattle.cm_world.specs.declared.answer.Refusal.{Refusal}
use Rattle.cm_world.specs.declared.answer.Refusal.TheVariants as refusal
use Rattle.cm_reply.specs.Lists.{TextBytes, each_behind}
use Rattle.cm_reply.specs.Routes.{failure_text, void_text}
use Rattle.cm_reply.specs.States.{incarnation_text, outcome_text}

-- a refusal after the word `refused`: its number, its word and what belongs to it; lack of memory has
-- no number
abbrev pub refusal_words : Refusal → TextBytes
refusal_words refusal.CollectionNotFound = codes "60 collection-not-found"
refusal_words (refusal.AlreadyExists inc) = codes "61 already-exists" ++ incarnation_text inc
refusal_words refusal.DynamicOffersRefused = codes "62 dynamic-offers-refused"
refusal_words (refusal.BadOffer index number) =
    codes "63 bad-offer " ++ (decimal index ++ (codes " " ++ decimal number))
refusal_words (refusal.OfferCycle nodes) = codes "64 offer-cycle" ++ each_behind (codes " ") node_text nodes
refusal_words (refusal.ParentClosing inc) = codes "65 parent-closing" ++ incarnation_text inc
refusal_words refusal.Full = codes "67 full"
refusal_words refusal.NotDynamic = codes "68 not-dynamic"
refusal_words refusal.HistoryFull = codes "69 history-full"
refusal_words (refusal.NotFound moniker) = codes "80 not-found in " ++ moniker_text moniker
refusal_words (refusal.Gone inc) = codes "81 gone" ++ incarnation_text inc
refusal_words (refusal.Shut inc) = codes "82 shut" ++ incarnation_text inc
refusal_words (refusal.CannotResolve action outcome) =
    codes "83 cannot-resolve action " ++ (decimal action ++ (codes " " ++ outcome_text outcome))
refusal_words (refusal.CannotStart action outcome) =
    codes "84 cannot-start action " ++ (decimal action ++ (codes " " ++ outcome_text outcome))
refusal_words refusal.ClientOff = codes "85 client-off"
refusal_words refusal.NoSuchUse = codes "86 no-such-use"
refusal_words (refusal.NoRoute hop reason) = codes "87 " ++ failure_text hop reason
refusal_words (refusal.VoidSource hop) = codes "88 " ++ void_text hop
refusal_words (refusal.SourceShut inc) = codes "89 source-shut" ++ incarnation_text inc
refusal_words refusal.Memory = codes "want-of-memory"

-- the text that tells why a command was refused
abbrev pub refusal_text : Refusal → TextBytes
refusal_text x = codes "refused " ++ refusal_words x
