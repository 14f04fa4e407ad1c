-- The line of a legible entry is read back: the arrow that was written is its last.
use Rattle.std.proofs.Common.{◌≡◌, ◌⊎◌, inl, inr, ℕ, ◌<◌, ◌≤◌, List, [], ◌∷◌, ◌++◌, length, All, refl, sym, ap, subst, ◌∙◌, arith, codes, decimal, append_assoc}
use Rattle.std.proofs.lemmas.Bool.{cases_lt}
use Rattle.std.proofs.lemmas.List.Elements.{All-tail}
use Rattle.cm_world.specs.declared.event.Event.{Event}
use Rattle.cm_reply.specs.Lists.{TextBytes}
use Rattle.cm_reply.specs.Events.{event_text}
use Rattle.cm_reply.specs.Replies.{replied_text}
use Rattle.cm_reply.specs.Journal.{entry_text}
use Rattle.cm_reply.specs.Lines.{arrow, asked_text}
use Rattle.cm_reply.specs.LinesInside.{EntriesAreReadBack}
use Rattle.cm_legible.proofs.lemmas.Lists.{head}
use Rattle.cm_legible.proofs.lemmas.Words.{words, words-append, some_words, NoArrow, Arrowless}
use Rattle.cm_legible.proofs.lemmas.Texts.{IsTold, reply_told}

-- where two cuts of a text stand, if the second is further behind
behind : (a x prefix y : TextBytes) → a ++ x ≡ prefix ++ y → length a < length prefix → (m : TextBytes) × (x ≡ m ++ y) × (0 < length m)
behind [] x prefix y e lt = (prefix, e, lt)
behind (b ∷ bs) x [] y e lt = absurd (omega arith)
behind (b ∷ bs) x (c ∷ cs) y e lt = behind bs x cs y (cc e) (omega arith)

-- what holds of each of these holds of the one in the middle
middle : (ws zs : List TextBytes) (x : TextBytes) → All NoArrow (ws ++ x ∷ zs) → NoArrow x
middle [] zs x h = head NoArrow x zs h
middle (w ∷ ws) zs x h = middle ws zs x (All-tail NoArrow w (ws ++ x ∷ zs) h)

-- The arrow as a word, without the space behind it.
pair : List ℕ
pair = 61 ∷ 62 ∷ []

-- Where no word behind the first arrow is an arrow, there is no second one among the words.
no_second : (ws rs zs : List TextBytes) → pair ∷ rs ≡ ws ++ pair ∷ zs → (ws ≡ [] → ⊥) → All NoArrow rs → ⊥
unfolding pair
no_second [] rs zs e some h = absurd (some refl)
no_second (w ∷ ws) rs zs e some h =
    let more : rs ≡ ws ++ pair ∷ zs = cc e in middle ws zs pair (subst (All NoArrow) more h) refl

-- an arrow behind the first one makes it a word of the reply
second : (r m rest : TextBytes) → arrow ++ r ≡ m ++ (arrow ++ rest) → 0 < length m → Arrowless r → ⊥
unfolding pair
second r [] rest e some h = absurd (omega arith)
second r (b ∷ m) rest e some h =
    let tails : (61 ∷ 62 ∷ 32 ∷ r) ≡ m ++ 32 ∷ (61 ∷ 62 ∷ 32 ∷ rest) = cc e in
    let right : words (m ++ 32 ∷ (61 ∷ 62 ∷ 32 ∷ rest)) ≡ words m ++ (pair ∷ words rest) = words-append m (61 ∷ 62 ∷ 32 ∷ rest) ∙ ap (λ ws. words m ++ ws) (words-append pair rest) in
    no_second (words m) (words r) (words rest) (sym (words-append pair r) ∙ ap words tails ∙ right) (some_words m) h

-- The parts of an entry's line, put together, are what asks, and what stands behind it.
pub entry_whole : (number caller : ℕ) (e : Event) (x : TextBytes) → decimal number ++ (codes " " ++ (decimal caller ++ (codes " " ++ (event_text e ++ x)))) ≡ asked_text number caller e ++ x
entry_whole number caller e x =
    sym (append_assoc (decimal number) (32 ∷ (decimal caller ++ 32 ∷ event_text e)) x
    ∙ ap (λ t. decimal number ++ 32 ∷ t) (append_assoc (decimal caller) (32 ∷ event_text e) x))

-- An arrow before a text of which no word is an arrow is the last one of the whole.
last_arrow : (a r prefix rest : TextBytes) → Arrowless r → a ++ (arrow ++ r) ≡ prefix ++ (arrow ++ rest) → length prefix ≤ length a
last_arrow a r prefix rest h e = by (cases_lt (length a) (length prefix))
  where
    by : (length a < length prefix) ⊎ (length prefix ≤ length a) → length prefix ≤ length a
    by (inr le) = le
    by (inl lt) =
        let cut = behind a (arrow ++ r) prefix (arrow ++ rest) e lt in absurd (second r cut.0 rest cut.1 cut.2 h)

-- The line of a legible entry is read back.
pub entries_are_read_back : EntriesAreReadBack
entries_are_read_back number e small h =
    let told : IsTold (replied_text e.reply) = reply_told e.reply h.reply in
    let whole : entry_text number e ≡ asked_text number e.caller e.event ++ (arrow ++ replied_text e.reply) = entry_whole number e.caller e.event (arrow ++ replied_text e.reply) in
    record {
      of_64_bits = small;
      of_32_bits = h.caller;
      legible = h.event;
      utf8 = told.utf8;
      whole = whole;
      last = λ prefix rest cut. last_arrow (asked_text number e.caller e.event) (replied_text e.reply) prefix rest told.arrowless (sym whole ∙ cut);
    }
