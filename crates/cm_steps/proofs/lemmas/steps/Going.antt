-- A history that goes on by one entry.
use Rattle.std.proofs.Common.{◌≡◌, ℕ, ◌+◌, List, [], ◌∷◌, ◌++◌, length, false, sym, ◌∙◌, ap, subst, length-append}
use Rattle.cm_world.specs.declared.event.Event.{Event}
use Rattle.cm_world.specs.declared.reply.Reply.{Reply}
use Rattle.cm_world.specs.declared.reply.Entry.{Entry}
use Rattle.cm_world.specs.World.{World, start}
use Rattle.cm_world.specs.After.{moved, counted, after}
use Rattle.cm_world.specs.AfterInside.{moves}
use Rattle.cm_world.specs.Legal.{IsStep, Legal, replay}
use Rattle.cm_world.proofs.lemmas.trees.Histories.{Legal-push, replay-push, moved-quiet}
use Rattle.cm_laws.specs.Story.{Story, world_of, IsLegal, entry_of}
use Rattle.cm_steps.specs.Inside.{LeavesTree}

-- With one entry more that the tree allows, a history is legal and leaves the tree behind that entry.
pub goes_on : (old new : Story) (w v : World) (e : Entry) → LeavesTree old w → new.frame ≡ old.frame → new.entries ≡ old.entries ++ e ∷ [] → IsStep w e → after w e ≡ v → LeavesTree new v
unfolding world_of IsLegal
goes_on old new w v e stands same more step moved = record {
  legal =
      subst (λ f. Legal (start f) new.entries) (sym same)
      (subst (λ es. Legal (start old.frame) es) (sym more)
      (Legal-push (start old.frame) old.entries e stands.legal
      (subst (λ w. IsStep w e) (sym stands.world) step)));
  world =
      ap (λ f. replay (start f) new.entries) same
      ∙ ap (λ es. replay (start old.frame) es) more
      ∙ replay-push (start old.frame) old.entries e
      ∙ ap (λ w. after w e) stands.world
      ∙ moved;
}

-- With an entry at its end a history is longer by one.
pub one_longer : (es fs : List Entry) (e : Entry) → fs ≡ es ++ e ∷ [] → length es + 1 ≡ length fs
one_longer es fs e more = sym (ap length more ∙ length-append es (e ∷ []))

-- An event that moves nothing leaves the tree with one entry more.
pub after-quiet : (w : World) (caller : ℕ) (event : Event) (reply : Reply) → moves event reply ≡ false → after w (entry_of caller event reply) ≡ record w { entries = w.entries + 1 }
unfolding after
after-quiet w caller event reply quiet = ap counted (moved-quiet w caller event reply quiet)
