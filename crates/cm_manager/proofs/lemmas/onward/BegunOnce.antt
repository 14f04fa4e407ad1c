-- A legal history begins each action once.
use Rattle.std.proofs.Common.{◌≡◌, ℕ, List, [], ◌∷◌, ◌++◌, ◌==◌, Option, Some, None, find, refl, sym, ◌∙◌, ap, subst}
use Rattle.std.specs.Prelude.{Contains}
use Rattle.std.specs.List.{cons_option, filter_map}
use Rattle.std.proofs.lemmas.Bool.{cond-false, ne_eqb}
use Rattle.std.proofs.lemmas.List.Elements.{Contains-append_left, Contains-append_right, Contains-push}
use Rattle.std.proofs.lemmas.Option.{none-some, same_Some}
use Rattle.cm_world.specs.declared.action.Work.{Work}
use Rattle.cm_world.specs.declared.frame.Frame.{Frame}
use Rattle.cm_world.specs.declared.reply.Entry.{Entry}
use Rattle.cm_world.specs.declared.reply.Reply.{Reply}
use Rattle.cm_world.specs.declared.reply.Reply.TheVariants as reply
use Rattle.cm_world.specs.World.{start}
use Rattle.cm_world.specs.Legal.{Legal}
use Rattle.cm_laws.specs.Lasting.{begun_by as number_by}
use Rattle.cm_laws.specs.LastingInside.{OutcomesAreOne}
use Rattle.cm_events.specs.Stream.{begun_by, work_of}
use Rattle.cm_events.specs.Wanted.{BeginsOnce}

-- the number that a reply begins is that of its work
numbered : (r : Reply) (w : Work) → begun_by r ≡ Some w → number_by r ≡ Some w.action
numbered (reply.Begun v) w it = ap (λ (x : Work). Some x.action) (same_Some v w it)
numbered (reply.Stopping v) w it = ap (λ (x : Work). Some x.action) (same_Some v w it)
numbered r w it = absurd (none-some w it)

-- where none of these entries begins an action, it has no work
passed : (o : Option Work) (rest : List Work) (a : ℕ) → ((w : Work) → o ≡ Some w → w.action ≡ a → ⊥) → find (λ w. w.action == a) rest ≡ None → find (λ w. w.action == a) (cons_option o rest) ≡ None
passed None rest a other none = none
passed (Some w) rest a other none =
    cond-false (w.action == a) (Some w) (find (λ x. x.action == a) rest) (ne_eqb w.action a (other w refl)) ∙ none

-- An action that no entry of a history was answered to begin has no work in it.
no_work : (es : List Entry) (a : ℕ) → ((x : Entry) → Contains es x → number_by x.reply ≡ Some a → ⊥) → work_of es a ≡ None
no_work [] a other = refl
no_work (e ∷ es) a other =
    passed (begun_by e.reply) (filter_map (λ (x : Entry). begun_by x.reply) es) a
    (λ w it same. other e (Contains-append_left (e ∷ []) es e (Contains-push [] e)) (numbered e.reply w it ∙ ap Some same))
    (no_work es a (λ x there. other x (Contains-append_right (e ∷ []) es x there)))

-- No entry of a legal history begins an action that an earlier one began.
pub begun_once : OutcomesAreOne → (f : Frame) (es told : List Entry) → Legal (start f) es → told ≡ es → BeginsOnce told
begun_once law f es told legal same =
    subst BeginsOnce (sym same) (λ prefix rest e w whole it.
    no_work prefix w.action (λ x there begun. (law f es legal prefix rest e whole).begins_once w.action x (numbered e.reply w it) there begun))
