-- Incarnations have 64 bits, behind every legal history.
use Rattle.std.proofs.Common.{◌≡◌, ℕ, ◌+◌, ◌-◌, ◌<◌, ◌≤◌, ◌^◌, List, [], ◌∷◌, length, Bool, true, false, ◌&&◌, nat_le, Option, Some, None, refl, sym, ap, subst, ◌∙◌, arith, true≢false, if◌then◌else◌, lit≤}
use Rattle.std.proofs.lemmas.Bool.{leb-true}
use Rattle.cm_decl.specs.declared.decl.Decl.{Decl}
use Rattle.cm_decl.specs.declared.rows.Give.{Give}
use Rattle.cm_world.specs.declared.action.Act.{Act}
use Rattle.cm_world.specs.declared.action.Finish.{Finish}
use Rattle.cm_world.specs.declared.action.Finish.TheVariants as finish
use Rattle.cm_world.specs.declared.action.Outcome.{Outcome}
use Rattle.cm_world.specs.declared.action.Outcome.TheVariants as outcome
use Rattle.cm_world.specs.declared.event.Event.{Event}
use Rattle.cm_world.specs.declared.event.Event.TheVariants.{Begin, End, Await, Create, Mark, Pick, Purge, Exited}
use Rattle.cm_world.specs.declared.frame.Frame.{Frame}
use Rattle.cm_world.specs.declared.reply.Entry.{Entry}
use Rattle.cm_world.specs.declared.reply.Reply.{Reply}
use Rattle.cm_world.specs.declared.reply.Reply.TheVariants as reply
use Rattle.cm_world.specs.declared.row.Row.{Row}
use Rattle.cm_world.specs.Rows.{decl_of}
use Rattle.cm_world.specs.World.{World, start, act_of, rows_fit}
use Rattle.cm_world.specs.End.{added_by, outcome_by}
use Rattle.cm_world.specs.Create.{Creates, CreatesUnder, CreatesUnless, IsCreateReply, dynamic_name, dynamic_with, refused_create}
use Rattle.cm_world.specs.Step.{Allowed}
use Rattle.cm_world.specs.After.{after, moved, with_end_of}
use Rattle.cm_world.specs.Legal.{IsStep, Legal, replay}
use Rattle.cm_laws.proofs.lemmas.entries.Answered.{passes_or, PassesRefusals, refused_passes}
use Rattle.cm_laws.proofs.lemmas.sound.Replies.{is_uncreated}
use Rattle.cm_audit.specs.Laws.{IncarnationsFit}

-- no refusal of a creation is one
refusals_uncreated : PassesRefusals is_uncreated
refusals_uncreated = record { gone = λ i. refl; closing = λ i. refl; need = λ i. refl; no_collection = refl; exists = λ i. refl; offers = refl; bad = λ i n. refl }

-- rows that fit leave the next incarnation in 64 bits
fits_next : (limit : ℕ) (rows : List Row) (next n : ℕ) → rows_fit limit rows next n ≡ true → next + n < 2 ^ 64
fits_next limit rows next n fit = by (nat_le (length rows + n) limit) refl
  where
    by : (b : Bool) → nat_le (length rows + n) limit ≡ b → next + n < 2 ^ 64
    by false none = absurd (true≢false (sym fit ∙ ap (λ c. c && nat_le (next + n) (2 ^ 64 - 1)) none))
    by true some =
        let le : next + n ≤ 2 ^ 64 - 1 = leb-true (next + n) (2 ^ 64 - 1) (sym (ap (λ c. c && nat_le (next + n) (2 ^ 64 - 1)) some) ∙ fit) in
        omega (arith, le)

module _ (w : World) (small : w.next_inc < 2 ^ 64) where
  -- The incarnations stay of 64 bits with the rows that an end adds, where its outcome is the world's.
  ended : (f : Finish) (o : Outcome) → o ≡ outcome_by w.frame.limits.rows w.rows w.next_inc f → w.next_inc + added_by f o < 2 ^ 64
  ended (finish.Other x) o is = omega (arith, small)
  ended (finish.Resolved url d) o is = by (rows_fit w.frame.limits.rows w.rows w.next_inc (length d.children)) refl
    where
      by : (b : Bool) → rows_fit w.frame.limits.rows w.rows w.next_inc (length d.children) ≡ b → w.next_inc + added_by (finish.Resolved url d) o < 2 ^ 64
      by true fit =
          let full : o ≡ outcome.Resolved = is ∙ ap (λ b. if b then outcome.Resolved else outcome.Full) fit in
          subst (λ x. w.next_inc + added_by (finish.Resolved url d) x < 2 ^ 64) (sym full) (fits_next w.frame.limits.rows w.rows w.next_inc (length d.children) fit)
      by false fit =
          let full : o ≡ outcome.Full = is ∙ ap (λ b. if b then outcome.Resolved else outcome.Full) fit in
          subst (λ x. w.next_inc + added_by (finish.Resolved url d) x < 2 ^ 64) (sym full) (omega (arith, small))

  -- Behind the end of an action the next incarnation has 64 bits.
  ends_by : (a : ℕ) (f : Finish) (o : Outcome) (x : Option Act) → o ≡ outcome_by w.frame.limits.rows w.rows w.next_inc f → (with_end_of w a f o x).next_inc < 2 ^ 64
  ends_by a f o None is = small
  ends_by a f o (Some x) is = ended f o is

  -- Replies that an action ended are the same only for the same outcome.
  same_outcome : {o x : Outcome} → reply.Ended o ≡ reply.Ended x → o ≡ x
  same_outcome e = cc e

  -- Where a creation below a parent's declaration is answered by a new row, one more fits 64 bits.
  under : (p : ℕ) (coll name : List ℕ) (gives : List Give) (i : ℕ) (o : Option Decl) → CreatesUnder w.frame.limits.rows w.rows w.next_inc o (dynamic_with w.rows p (dynamic_name coll name) gives) (reply.Created i) → w.next_inc + 1 < 2 ^ 64
  under p coll name gives i None it = absurd it
  under p coll name gives i (Some d) it = fits_next w.frame.limits.rows w.rows w.next_inc 1 it.1

  -- Where a creation that may be refused is answered by a new row, one more fits 64 bits.
  created_by : (p : ℕ) (coll name : List ℕ) (gives : List Give) (i : ℕ) (o : Option Reply) → passes_or is_uncreated o ≡ true → CreatesUnless w.frame.limits.rows w.rows w.next_inc p (dynamic_name coll name) gives o (reply.Created i) → w.next_inc + 1 < 2 ^ 64
  created_by p coll name gives i (Some refusal) passes it = absurd (true≢false (sym passes ∙ ap is_uncreated (sym it)))
  created_by p coll name gives i None passes it = under p coll name gives i (decl_of w.rows p) it

  -- Where a creation is answered by a new row, one incarnation more has 64 bits.
  created : (p : ℕ) (coll name : List ℕ) (gives : List Give) (i : ℕ) → IsCreateReply w.frame.limits.rows w.rows w.next_inc p coll name gives (reply.Created i) → w.next_inc + 1 < 2 ^ 64
  created p coll name gives i it =
      created_by p coll name gives i (refused_create w.rows p coll name gives) (refused_passes is_uncreated refusals_uncreated w.rows p coll name gives) it

  -- Behind an event with a reply that it may get, the next incarnation has 64 bits.
  fits_moved : (caller : ℕ) (e : Event) (r : Reply) → Allowed w caller e r → (moved w caller e r).next_inc < 2 ^ 64
  fits_moved caller (Begin kind i) (reply.Begun work) it = small
  fits_moved caller (Begin kind i) (reply.Joined a) it = small
  fits_moved caller (End a f) (reply.Ended o) it = ends_by a f o (act_of w.acts a) (same_outcome it)
  fits_moved caller (Await a) (reply.Ended o) it = small
  fits_moved caller (Create p child) (reply.Created i) it = created p child.coll child.name child.gives i it
  fits_moved caller (Mark doom i) reply.Marked it = small
  fits_moved caller (Pick t) (reply.Stopping work) it = small
  fits_moved caller (Pick t) (reply.ShutDown i) it = small
  fits_moved caller (Purge i) (reply.Purged lost) it = small
  fits_moved caller (Exited i) (reply.Left m) it = small
  fits_moved caller e r it = small

-- Behind an entry that is a step, the next incarnation has 64 bits, where it had before.
fits_after : (w : World) (e : Entry) → w.next_inc < 2 ^ 64 → IsStep w e → (after w e).next_inc < 2 ^ 64
unfolding after
fits_after w e small step = fits_moved w small e.caller e.event e.reply step.allowed

-- Behind a legal history, the next incarnation has 64 bits, where it had before.
fits_from : (w : World) (es : List Entry) → w.next_inc < 2 ^ 64 → Legal w es → (replay w es).next_inc < 2 ^ 64
fits_from w [] small legal = small
fits_from w (e ∷ es) small legal = fits_from (after w e) es (fits_after w e small legal.0) legal.1

-- Each incarnation of a legal history fits in 64 bits.
pub incarnations_fit : IncarnationsFit
incarnations_fit f es legal = fits_from (start f) es (lit≤ tt) legal
