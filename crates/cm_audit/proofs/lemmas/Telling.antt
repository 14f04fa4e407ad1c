-- What the texts of replies tell: of the replies that an event may get no two are written alike.
use Rattle.std.proofs.Common.{◌≡◌, ℕ, ◌+◌, ◌<◌, ◌^◌, List, [], ◌∷◌, ◌++◌, Bool, true, false, true≢false, ◌==◌, Option, Some, None, IsTrue, All, codes, refl, sym, ap, subst, ◌∙◌, arith}
use Rattle.std.specs.Prelude.{decimal}
use Rattle.std.specs.List.{slice_split}
use Rattle.std.proofs.lemmas.Fmt.{decimal_injective}
use Rattle.std.proofs.lemmas.List.{append_cancel_left}
use Rattle.std.proofs.lemmas.List.Splits.{slice_split_at}
use Rattle.cm_world.specs.declared.action.ActKind.TheVariants.{Stop}
use Rattle.cm_world.specs.declared.action.Work.{Work}
use Rattle.cm_world.specs.declared.event.Event.{Event}
use Rattle.cm_world.specs.declared.event.Event.TheVariants as event
use Rattle.cm_world.specs.declared.frame.Frame.{Frame}
use Rattle.cm_world.specs.declared.reply.Entry.{Entry}
use Rattle.cm_world.specs.declared.reply.Reply.{Reply}
use Rattle.cm_world.specs.declared.reply.Reply.TheVariants as reply
use Rattle.cm_world.specs.declared.row.Row.{Row}
use Rattle.cm_world.specs.Laws.{IsPick}
use Rattle.cm_world.specs.Rows.{row_of, is_subtree_shut}
use Rattle.cm_world.specs.Sound.{IsSound}
use Rattle.cm_world.specs.Step.{Allowed, IsPickReply, PicksOn, PicksOff}
use Rattle.cm_world.specs.Work.{work_of}
use Rattle.cm_world.specs.World.{World, start}
use Rattle.cm_world.specs.Legal.{Legal, replay}
use Rattle.cm_world.proofs.lemmas.trees.Once.{replies_once}
use Rattle.cm_world.proofs.lemmas.trees.Finding.{some_same}
use Rattle.cm_world.proofs.lemmas.trees.Walks.{below_next}
use Rattle.cm_command.proofs.lemmas.written.WritesLine.{decimal_is}
use Rattle.cm_command.proofs.lemmas.scripts.Lane.{decimal_lacks}
use Rattle.cm_reply.specs.Lists.{TextBytes}
use Rattle.cm_reply.specs.Replies.{replied_text}
use Rattle.cm_laws.specs.Clients.{picked_by}
use Rattle.cm_laws.proofs.lemmas.sound.Healthy.{IsHealthy, healthy_history}
use Rattle.cm_audit.specs.Laws.{TextsTellReplies}
use Rattle.cm_audit.proofs.lemmas.Fitting.{incarnations_fit}

-- ---- numbers in texts

-- the second byte, which tells `stopping` from `shutdown`
abbrev pub second : TextBytes → ℕ
second (b ∷ c ∷ bs) = c
second _ = 0

-- what stands before the first space
pub one_number : (m n : ℕ) (rest more : TextBytes) → m < 2 ^ 64 → n < 2 ^ 64 → decimal m ++ (codes " " ++ rest) ≡ decimal n ++ (codes " " ++ more) → m ≡ n
one_number m n rest more small few e =
    let a : slice_split (λ b. b == 32) (decimal m ++ (codes " " ++ rest)) ≡ decimal m ∷ slice_split (λ b. b == 32) rest = slice_split_at (λ b. b == 32) (decimal m) 32 rest (decimal_lacks (decimal m) (decimal_is m small).0) refl in
    let c : slice_split (λ b. b == 32) (decimal n ++ (codes " " ++ more)) ≡ decimal n ∷ slice_split (λ b. b == 32) more = slice_split_at (λ b. b == 32) (decimal n) 32 more (decimal_lacks (decimal n) (decimal_is n few).0) refl in
    let both : decimal m ∷ slice_split (λ b. b == 32) rest ≡ decimal n ∷ slice_split (λ b. b == 32) more = sym a ∙ ap (slice_split (λ b. b == 32)) e ∙ c in
    let same : decimal m ≡ decimal n = cc both in
    decimal_injective m n small few same

-- ---- the replies to a pick

-- a legal history's rows have incarnations of 64 bits
pub row_fits : (f : Frame) (es : List Entry) → Legal (start f) es → (i : ℕ) (r : Row) → row_of (replay (start f) es).rows i ≡ Some r → i < 2 ^ 64
row_fits f es legal i r lives =
    let low : i < (replay (start f) es).next_inc = below_next (replay (start f) es).rows (replay (start f) es).next_inc i r (healthy_history f es legal).sound.orderly.increasing lives in
    let few : (replay (start f) es).next_inc < 2 ^ 64 = incarnations_fit f es legal in
    omega (arith, low, few)

-- two stops of one row are one
pub one_stop : (rows : List Row) (next : ℕ) (v w : Work) (r s : Row) → v.inc ≡ w.inc → row_of rows v.inc ≡ Some r → row_of rows w.inc ≡ Some s → v ≡ work_of rows next Stop r → w ≡ work_of rows next Stop s → v ≡ w
one_stop rows next v w r s same lives there is so =
    let one : r ≡ s = some_same r s (sym lives ∙ ap (row_of rows) same ∙ there) in
    is ∙ ap (work_of rows next Stop) one ∙ sym so

module _ (rows : List Row) (next t : ℕ) (fits : (i : ℕ) (r : Row) → row_of rows i ≡ Some r → i < 2 ^ 64) where
  -- Two replies that a pick may get are the same where their texts are, if incarnations have 64 bits.
  pub picks_told : (r q : Reply) → IsPickReply rows next t r → IsPickReply rows next t q → replied_text r ≡ replied_text q → r ≡ q
  picks_told reply.Done reply.Done a b e = refl
  picks_told reply.Done (reply.Stopping w) a b e = absurd (true≢false (sym a ∙ b.undone))
  picks_told reply.Done (reply.ShutDown j) a b e = absurd (true≢false (sym a ∙ b.undone))
  picks_told (reply.Stopping v) reply.Done a b e = absurd (true≢false (sym b ∙ a.undone))
  picks_told (reply.Stopping v) (reply.Stopping w) a b e =
      let texts : decimal v.inc ++ (codes " " ++ decimal v.action) ≡ decimal w.inc ++ (codes " " ++ decimal w.action) = append_cancel_left (codes "stopping ") _ _ e in
      let same : v.inc ≡ w.inc = one_number v.inc w.inc _ _ (fits v.inc a.row a.may.row) (fits w.inc b.row b.may.row) texts in
      ap reply.Stopping (one_stop rows next v w a.row b.row same a.may.row b.may.row a.same b.same)
  picks_told (reply.Stopping v) (reply.ShutDown j) a b e = absurd (let two : 116 ≡ 104 = ap second e in omega (arith, two))
  picks_told (reply.ShutDown i) reply.Done a b e = absurd (true≢false (sym b ∙ a.undone))
  picks_told (reply.ShutDown i) (reply.Stopping w) a b e = absurd (let two : 104 ≡ 116 = ap second e in omega (arith, two))
  picks_told (reply.ShutDown i) (reply.ShutDown j) a b e =
      ap reply.ShutDown (decimal_injective i j (fits i a.row a.may.row) (fits j b.row b.may.row) (append_cancel_left (codes "shutdown ") _ _ e))
  picks_told reply.Done q a b e = absurd b
  picks_told (reply.Stopping v) q a b e = absurd b
  picks_told (reply.ShutDown i) q a b e = absurd b
  picks_told r q a b e = absurd a

-- ---- all events

-- An event that is the pick of no target isn't a pick.
no_pick : (e : Event) → ((t : ℕ) → e ≡ event.Pick t → ⊥) → IsPick e → ⊥
no_pick (event.Pick t) none is = none t refl
no_pick e none is = is

-- No two replies that an event may get after a legal history have the same text.
pub texts_tell_replies : TextsTellReplies
texts_tell_replies f es caller (event.Pick t) r q legal a b same =
    picks_told (replay (start f) es).rows (replay (start f) es).next_action t (row_fits f es legal) r q a b same
texts_tell_replies f es caller e r q legal a b same = replies_once (replay (start f) es) caller e r q (λ is. is) a b
