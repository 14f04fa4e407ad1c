-- The row that the text of a pick's reply tells.
use Rattle.std.proofs.Common.{◌≡◌, ℕ, ◌<◌, ◌^◌, List, [], ◌∷◌, ◌++◌, Bor, Bool, true, false, ◌==◌, Option, Some, None, All, MatchOption, codes, refl, sym, ap, subst, ◌∙◌, arith}
use Rattle.std.specs.Prelude.{decimal}
use Rattle.std.specs.List.{slice_split}
use Rattle.std.proofs.lemmas.List.{append_cancel_left}
use Rattle.std.proofs.lemmas.List.Splits.{slice_split_at, slice_split_none}
use Rattle.cm_world.specs.declared.event.Event.TheVariants as event
use Rattle.cm_world.specs.declared.reply.Reply.{Reply}
use Rattle.cm_world.specs.declared.reply.Reply.TheVariants as reply
use Rattle.cm_world.proofs.lemmas.trees.Finding.{some_same}
use Rattle.cm_command.specs.Numbers.{IsNumberText}
use Rattle.cm_command.specs.NumbersInside.{IsU64Text}
use Rattle.cm_command.proofs.lemmas.written.WritesLine.{decimal_is}
use Rattle.cm_command.proofs.lemmas.scripts.Lane.{decimal_lacks}
use Rattle.cm_reply.specs.Lists.{TextBytes}
use Rattle.cm_reply.specs.Replies.{replied_text}
use Rattle.cm_laws.specs.Clients.{picked_by}
use Rattle.cm_audit.specs.Reading.{TellsRow}
use Rattle.cm_audit.proofs.lemmas.Telling.{second}

-- A number that digits are read as, or none where they are no number of 64 bits.
abbrev pub IsReadAs : TextBytes → Option ℕ → Type 0
IsReadAs digits o = MatchOption o (IsU64Text digits → ⊥) (λ n. IsNumberText digits n)

-- the row of a reply whose number stands there
number_told : (digits : TextBytes) (i : ℕ) → i < 2 ^ 64 → digits ≡ decimal i → IsNumberText digits i
number_told digits i small same = subst (λ t. IsNumberText t i) (sym same) (decimal_is i small)

-- the digits are those of the row that a reply tells, if the text is that of one which tells a row
abbrev pub AreTold : TextBytes → TextBytes → Type 0
AreTold given digits = (t i : ℕ) (r : Reply) → picked_by (event.Pick t) r ≡ Some i → i < 2 ^ 64 → given ≡ replied_text r → digits ≡ decimal i

-- Where digits are those of a pick's reply, what they are read as is the row that its text tells.
pub told_by : (given digits : TextBytes) (o : Option ℕ) → AreTold given digits → IsReadAs digits o → TellsRow given o
told_by given digits None told read = λ t i r picks small same.
    read (i, number_told digits i small (told t i r picks small same), small)
told_by given digits (Some row) told read = λ t i r picks small same.
    sym (number_told digits i small (told t i r picks small same)).1 ∙ read.1

-- Behind `shutdown ` stand the digits of the row that a pick's reply chooses.
pub shut_told : (given digits : TextBytes) → given ≡ codes "shutdown " ++ digits → (t i : ℕ) (r : Reply) → picked_by (event.Pick t) r ≡ Some i → i < 2 ^ 64 → given ≡ replied_text r → digits ≡ decimal i
shut_told given digits is t i (reply.ShutDown j) picks small same =
    append_cancel_left (codes "shutdown ") digits (decimal j) (sym is ∙ same) ∙ ap decimal (some_same j i picks)
shut_told given digits is t i (reply.Stopping w) picks small same = absurd (let two : 104 ≡ 116 = ap second (sym is ∙ same) in omega (arith, two))
shut_told given digits is t i r picks small same = absurd (cc picks)

-- what stands before the first space
prefix_is : (rest digits back : TextBytes) (i : ℕ) (behind : Option (Bor TextBytes)) → i < 2 ^ 64 → All (λ b. (b == 32) ≡ false) digits
    → MatchOption behind (rest ≡ digits) (λ more. rest ≡ digits ++ 32 ∷ more.now)
    → rest ≡ decimal i ++ (codes " " ++ back) → digits ≡ decimal i
prefix_is rest digits back i behind small clean cut whole =
    let a : slice_split (λ b. b == 32) rest ≡ decimal i ∷ slice_split (λ b. b == 32) back = ap (slice_split (λ b. b == 32)) whole ∙ slice_split_at (λ b. b == 32) (decimal i) 32 back (decimal_lacks (decimal i) (decimal_is i small).0) refl in
    by behind cut a
  where
    by : (o : Option (Bor TextBytes)) → MatchOption o (rest ≡ digits) (λ more. rest ≡ digits ++ 32 ∷ more.now) → slice_split (λ b. b == 32) rest ≡ decimal i ∷ slice_split (λ b. b == 32) back → digits ≡ decimal i
    by None is a =
        let c : slice_split (λ b. b == 32) rest ≡ digits ∷ [] = ap (slice_split (λ b. b == 32)) is ∙ slice_split_none (λ b. b == 32) digits clean in
        cc (a, c)
    by (Some more) is a =
        let c : slice_split (λ b. b == 32) rest ≡ digits ∷ slice_split (λ b. b == 32) more.now = ap (slice_split (λ b. b == 32)) is ∙ slice_split_at (λ b. b == 32) digits 32 more.now clean refl in
        cc (a, c)

-- The first word behind `stopping ` has the digits of the row that a pick's reply chooses.
pub stop_told : (given rest digits : TextBytes) (behind : Option (Bor TextBytes)) → given ≡ codes "stopping " ++ rest → All (λ b. (b == 32) ≡ false) digits
    → MatchOption behind (rest ≡ digits) (λ more. rest ≡ digits ++ 32 ∷ more.now) → (t i : ℕ) (r : Reply) → picked_by (event.Pick t) r ≡ Some i → i < 2 ^ 64 → given ≡ replied_text r → digits ≡ decimal i
stop_told given rest digits behind is clean cut t i (reply.Stopping w) picks small same =
    let row : w.inc ≡ i = some_same w.inc i picks in
    let whole : rest ≡ decimal w.inc ++ (codes " " ++ decimal w.action) = append_cancel_left (codes "stopping ") rest (decimal w.inc ++ (codes " " ++ decimal w.action)) (sym is ∙ same) in
    prefix_is rest digits (decimal w.action) i behind small clean cut (whole ∙ ap (λ n. decimal n ++ (codes " " ++ decimal w.action)) row)
stop_told given rest digits behind is clean cut t i (reply.ShutDown j) picks small same = absurd (let two : 116 ≡ 104 = ap second (sym is ∙ same) in omega (arith, two))
stop_told given rest digits behind is clean cut t i r picks small same = absurd (cc picks)
