-- Counts of prefixes for kinds of texts that are made of others.
use Rattle.std.proofs.Common.{◌≡◌, ◌≢◌, ◌⊎◌, inl, inr, ⊎_elim, ℕ, ◌+◌, ◌-◌, ◌<◌, ◌≤◌, min, max, List, [], ◌∷◌, ◌++◌, length, take, drop, get_or, map, Bor, All, refl, sym, ap, subst, ◌∙◌, arith, append_assoc, append-nil, length-append}
use Rattle.std.proofs.Math.Seq.{take-append-add, take-append_seam, take-length}
use Rattle.std.specs.List.{Contains}
use Rattle.std.proofs.lemmas.List.Elements.{All-cons, All-nil, All-contains, Contains-append_left, Contains-push, Contains-push_cases}
use Rattle.std.proofs.lemmas.List.{take-append-drop, take-append-le, take-take, length-take-le, get_or-take, get_or_append_left, append_cancel_left, take_more, take_all, get_or-map, length-map}
use Rattle.cm_names.specs.Prefixes.{HasCompletion, IsLongestPrefix}
use Rattle.cm_command.specs.declared.tokens.WordFault.{WordFault}
use Rattle.cm_command.specs.declared.tokens.WordFault.TheVariants.{Bad, Memory}
use Rattle.cm_command.specs.Counts.{CountsPrefixes, IsWordFault, fault_behind, either_fault}
use Rattle.cm_command.proofs.lemmas.counts.Count.{some_prefix}
use Rattle.cm_command.proofs.lemmas.line.Machine.{le_or_past}

-- a prefix of a prefix is one
pub begins_shorter : (P : List ℕ → Type 0) (t : List ℕ) (m n : ℕ) → m ≤ n → HasCompletion P (take n t) → HasCompletion P (take m t)
begins_shorter P t m n le h =
    let cut : take m t ++ drop m (take n t) ≡ take n t = ap (λ x. x ++ drop m (take n t)) (sym (take-take m n t le)) ∙ take-append-drop m (take n t) in
    (drop m (take n t) ++ h.0, subst P (ap (λ x. x ++ h.0) (sym cut) ∙ append_assoc (take m t) (drop m (take n t)) h.0) h.1)

-- What begins a text of one kind begins one of another kind, where each of the one is of both.
begins_as : {P Q : List ℕ → Type 0} (t : List ℕ) → ((x : List ℕ) → P x → Q x) → HasCompletion P t → HasCompletion Q t
begins_as t f h = (h.0, f (t ++ h.0) h.1)

-- two kinds of the same texts have one count
pub counts_same : {P Q : List ℕ → Type 0} (w : List ℕ) (n : ℕ) → ((t : List ℕ) → P t → Q t) → ((t : List ℕ) → Q t → P t) → CountsPrefixes P w n → CountsPrefixes Q w n
counts_same {P} {Q} w n to from h = record {
  within = h.within;
  begins = λ i e. begins_as (take i w) to (h.begins i e);
  stops = λ le more. h.stops le (begins_as (take n w) from more);
}

-- Where no text is of a kind, no prefix of a word begins one.
pub counts_none : {P : List ℕ → Type 0} (w : List ℕ) → ((t : List ℕ) → P t → ⊥) → CountsPrefixes P w 0
counts_none {P} w never = record {
  within = omega arith;
  begins = λ i e. absurd (omega arith);
  stops = λ le more. never (take 0 w ++ more.0) more.1;
}

-- Of a word that is itself of the kind all prefixes begin one.
pub counts_whole : {P : List ℕ → Type 0} (w : List ℕ) → P w → CountsPrefixes P w (length w + 1)
counts_whole {P} w h = record {
  within = omega arith;
  begins = λ i e. let here : length w ≡ i = omega arith in subst (λ j. HasCompletion P (take j w)) here ([], subst P (sym (append-nil (take (length w) w) ∙ take-length w)) h);
  stops = λ le more. absurd (omega arith);
}

-- the longest prefix is one byte shorter than there are prefixes
pub counts_longest : {P : List ℕ → Type 0} (w : List ℕ) (n : ℕ) → IsLongestPrefix P w n → CountsPrefixes P w (n + 1)
counts_longest {P} w n h = record {
  within = omega (arith, h.within);
  begins = λ i e. let here : n ≡ i = omega arith in subst (λ j. HasCompletion P (take j w)) here h.begins;
  stops = λ le more. h.stops (omega arith) more;
}

-- the byte behind the first i is the first that doesn't go on
pub counts_stop : {P : List ℕ → Type 0} (w : List ℕ) (i : ℕ) → i < length w → HasCompletion P (take i w) → (HasCompletion P (take (i + 1) w) → ⊥) → CountsPrefixes P w (i + 1)
counts_stop {P} w i lt prefix never = record {
  within = omega arith;
  begins = λ j e. let here : i ≡ j = omega arith in subst (λ k. HasCompletion P (take k w)) here prefix;
  stops = λ le more. never more;
}

-- Where the whole word can be completed, all its prefixes begin a text of the kind.
pub counts_all : {P : List ℕ → Type 0} (w : List ℕ) (i : ℕ) → i ≡ length w → HasCompletion P (take i w) → CountsPrefixes P w (i + 1)
counts_all {P} w i all prefix = record {
  within = omega arith;
  begins = λ j e. let here : i ≡ j = omega arith in subst (λ k. HasCompletion P (take k w)) here prefix;
  stops = λ le more. absurd (omega arith);
}

-- The greater of two numbers is one of them, and the other is no greater.
which : (k m n : ℕ) → k ≡ max m n → ((k ≡ m) × (n ≤ k)) ⊎ ((k ≡ n) × (m ≤ k))
which k m n e = grind arith

-- a text of one kind or the other
pub counts_either : {P Q R : List ℕ → Type 0} (w : List ℕ) (m n k : ℕ) → ((t : List ℕ) → P t → R t) → ((t : List ℕ) → Q t → R t) → ((t : List ℕ) → R t → P t ⊎ Q t) → k ≡ max m n → CountsPrefixes P w m → CountsPrefixes Q w n → CountsPrefixes R w k
counts_either {P} {Q} {R} w m n k left right parts e g h = record {
  within = omega (arith, g.within, h.within);
  begins = λ i f. ⊎_elim (λ x. begins_as (take i w) left (g.begins i (sym x.0 ∙ f))) (λ x. begins_as (take i w) right (h.begins i (sym x.0 ∙ f))) (which k m n e);
  stops = λ le more. ⊎_elim (λ p. g.stops (omega arith) (begins_shorter P w m k (omega arith) (more.0, p))) (λ q. h.stops (omega arith) (begins_shorter Q w n k (omega arith) (more.0, q))) (parts (take k w ++ more.0) more.1);
}

-- the fault of a word that is of neither kind
pub fault_either : {P Q R : List ℕ → Type 0} (w : List ℕ) (d e f : WordFault) → ((t : List ℕ) → P t → R t) → ((t : List ℕ) → Q t → R t) → ((t : List ℕ) → R t → P t ⊎ Q t) → f ≡ either_fault d e → IsWordFault P w d → IsWordFault Q w e → IsWordFault R w f
fault_either {P} {Q} {R} w (Bad m) (Bad n) f left right parts same g h =
    subst (IsWordFault R w) (sym same) ((λ r. ⊎_elim g.0 h.0 (parts w r)), counts_either w m n (max m n) left right parts refl g.1 h.1)
fault_either {P} {Q} {R} w (Bad m) Memory f left right parts same g h = subst (IsWordFault R w) (sym same) tt
fault_either {P} {Q} {R} w Memory e f left right parts same g h = subst (IsWordFault R w) (sym same) tt

-- The fault of a word by one kind is its fault by another kind of the same texts.
pub fault_same : {P Q : List ℕ → Type 0} (w : List ℕ) (e : WordFault) → ((t : List ℕ) → P t → Q t) → ((t : List ℕ) → Q t → P t) → IsWordFault P w e → IsWordFault Q w e
fault_same w (Bad n) to from h = ((λ q. h.0 (from w q)), counts_same w n to from h.1)
fault_same w Memory to from h = tt

-- ---- literals

-- m first bytes of the word are those of the literal, and no more
pub counts_literal : (l w : List ℕ) (m : ℕ) → m ≤ length l → m ≤ length w → take m l ≡ take m w → (m < length l → m < length w → get_or l m 0 ≢ get_or w m 0) → CountsPrefixes (λ t. t ≡ l) w (m + 1)
counts_literal l w m in_l in_w same differs = record {
  within = omega arith;
  begins = λ i e. let here : m ≡ i = omega arith in subst (λ j. HasCompletion (λ t. t ≡ l) (take j w)) here (drop m l, ap (λ x. x ++ drop m l) (sym same) ∙ take-append-drop m l);
  stops = λ le more. literal_stops l w m le more differs;
}
  where
    literal_stops : (l w : List ℕ) (m : ℕ) → m + 1 ≤ length w → HasCompletion (λ t. t ≡ l) (take (m + 1) w) → (m < length l → m < length w → get_or l m 0 ≢ get_or w m 0) → ⊥
    literal_stops l w m le more differs =
        let len : length (take (m + 1) w) ≡ m + 1 = length-take-le (m + 1) w le in
        let all : length (take (m + 1) w) + length more.0 ≡ length l = sym (length-append (take (m + 1) w) more.0) ∙ ap length more.1 in
        let at : get_or (take (m + 1) w ++ more.0) m 0 ≡ get_or w m 0 = get_or_append_left (take (m + 1) w) more.0 0 m (omega arith) ∙ get_or-take (m + 1) w m 0 (omega arith) in
        differs (omega arith) (omega arith) (sym (ap (λ x. get_or x m 0) more.1) ∙ at)

-- With one literal more, as many prefixes begin one of them as the greater of the two counts.
pub counts_one_more : (ls : List (List ℕ)) (w d : List ℕ) (i m n k : ℕ) → i < length ls → k ≡ max m n → CountsPrefixes (Contains (take i ls)) w m → CountsPrefixes (λ t. t ≡ get_or ls i d) w n → CountsPrefixes (Contains (take (i + 1) ls)) w k
counts_one_more ls w d i m n k lt e g h =
    let more : take (i + 1) ls ≡ take i ls ++ get_or ls i d ∷ [] = take_more ls i d lt in
    counts_either {P = Contains (take i ls)} {Q = λ t. t ≡ get_or ls i d} w m n k (λ t there. subst (λ xs. Contains xs t) (sym more) (Contains-append_left (take i ls) (get_or ls i d ∷ []) t there)) (λ t is. subst (λ xs. Contains xs t) (sym more) (subst (Contains (take i ls ++ get_or ls i d ∷ [])) (sym is) (Contains-push (take i ls) (get_or ls i d)))) (λ t there. ⊎_elim (λ x. inl x) (λ x. inr (sym x)) (Contains-push_cases (take i ls) (get_or ls i d) t (subst (λ xs. Contains xs t) more there))) e g h

-- what the references of a slice refer to
abbrev pub now_of : Bor (List ℕ) → List ℕ
now_of l = l.now

-- What is at a place of the list of what borrowed texts are now is the text borrowed there.
pub now_at : (ls : List (Bor (List ℕ))) (i : ℕ) (d : Bor (List ℕ)) → i < length ls → get_or (map now_of ls) i [] ≡ (get_or ls i d).now
now_at ls i d lt = get_or-map now_of ls i d [] lt

-- A place within the borrowed texts is within the list of what they are now.
pub now_within : (ls : List (Bor (List ℕ))) (i : ℕ) → i < length ls → i < length (map now_of ls)
now_within ls i lt = omega (arith, length-map ls now_of)

-- From their number on, the first items of what borrowed texts are now are all of them.
pub all_now : (ls : List (Bor (List ℕ))) (i : ℕ) → length ls ≤ i → take i (map now_of ls) ≡ map now_of ls
all_now ls i le = take_all i (map now_of ls) (omega (arith, length-map ls now_of))

-- With one literal more, the count of prefixes is the greater of that so far and that literal's.
pub counts_next_literal : (ls : List (Bor (List ℕ))) (w : List ℕ) (d : Bor (List ℕ)) (i m n k : ℕ) → i < length ls → k ≡ max m n → CountsPrefixes (Contains (take i (map (λ l. l.now) ls))) w m → CountsPrefixes (λ t. t ≡ (get_or ls i d).now) w n → CountsPrefixes (Contains (take (i + 1) (map (λ l. l.now) ls))) w k
counts_next_literal ls w d i m n k lt e g h =
    counts_one_more (map now_of ls) w [] i m n k (now_within ls i lt) e g (subst (λ l. CountsPrefixes (λ t. t ≡ l) w n) (sym (now_at ls i d lt)) h)

-- Once all literals are passed, the count of prefixes so far is that by all of them.
pub all_literals : (ls : List (Bor (List ℕ))) (w : List ℕ) (i n : ℕ) → length ls ≤ i → CountsPrefixes (Contains (take i (map (λ l. l.now) ls))) w n → CountsPrefixes (Contains (map (λ l. l.now) ls)) w n
all_literals ls w i n le h = subst (λ xs. CountsPrefixes (Contains xs) w n) (all_now ls i le) h

-- By no literal at all, no prefix of a word can be completed.
pub counts_no_literal : (w : List ℕ) → CountsPrefixes (Contains []) w 0
counts_no_literal w = counts_none w (λ t there. absurd (omega (arith, there.1)))

-- P holds of each of the texts
abbrev pub Each : (List ℕ → Type 0) → List (List ℕ) → Type 0
Each P [] = Unit {0}
Each P (x ∷ xs) = P x × Each P xs

-- What is so of each of a list is so of all.
all_of : (P : List ℕ → Type 0) (xs : List (List ℕ)) → Each P xs → All P xs
all_of P [] h = All-nil P
all_of P (x ∷ xs) h = All-cons P x xs h.0 (all_of P xs h.1)

-- What holds of each text of a list holds of any that it contains.
pub of_each : (P : List ℕ → Type 0) (xs : List (List ℕ)) (x : List ℕ) → Each P xs → Contains xs x → P x
of_each P xs x h there = All-contains P xs x (all_of P xs h) there

-- ---- a text of some kind behind a prefix

-- the texts of the second kind are the prefix and a text of the first
pub record IsBehind (prefix : List ℕ) (P R : List ℕ → Type 0) : Type 0 where
  pub rest : (t : List ℕ) → R t → (x : List ℕ) × P x × (t ≡ prefix ++ x)
  pub whole : (x : List ℕ) → P x → R (prefix ++ x)
  pub some : HasCompletion P []

-- Of a word with the prefix, as many prefixes begin a text as the prefix has bytes and its rest has such
-- ones.
pub counts_behind : {P R : List ℕ → Type 0} (prefix w u : List ℕ) (n : ℕ) → IsBehind prefix P R → w ≡ prefix ++ u → CountsPrefixes P u n → CountsPrefixes R w (length prefix + n)
counts_behind {P} {R} prefix w u n b e h =
    let one : 1 ≤ n = some_prefix u n h b.some in
    let len : length w ≡ length prefix + length u = ap length e ∙ length-append prefix u in
    let cut : (j : ℕ) → take (length prefix + j) w ≡ prefix ++ take j u = λ j. ap (take (length prefix + j)) e ∙ take-append-add prefix u j in
    record {
      within = omega (arith, h.within);
      begins = λ i f. let here : length prefix + (n - 1) ≡ i = omega arith in
          let more = h.begins (n - 1) (omega arith) in
          subst (λ j. HasCompletion R (take j w)) here (more.0, subst R (sym (ap (λ x. x ++ more.0) (cut (n - 1)) ∙ append_assoc prefix (take (n - 1) u) more.0)) (b.whole (take (n - 1) u ++ more.0) more.1));
      stops = λ le more. let r = b.rest (take (length prefix + n) w ++ more.0) more.1 in
          let same : prefix ++ (take n u ++ more.0) ≡ prefix ++ r.0 = sym (append_assoc prefix (take n u) more.0) ∙ sym (ap (λ x. x ++ more.0) (cut n)) ∙ r.2 in
          h.stops (omega arith) (more.0, subst P (sym (append_cancel_left prefix (take n u ++ more.0) r.0 same)) r.1);
    }

-- Of two numbers one is no greater than the other.
short_or_long : (n len : ℕ) → (n ≤ len) ⊎ (len ≤ n)
short_or_long n len = grind arith

-- Where the word doesn't have the prefix, its prefixes count as those of the prefix alone.
pub counts_no_prefix : {P R : List ℕ → Type 0} (prefix w : List ℕ) (n : ℕ) → IsBehind prefix P R → ((x : List ℕ) → w ≡ prefix ++ x → ⊥) → CountsPrefixes (λ t. t ≡ prefix) w n → CountsPrefixes R w n
counts_no_prefix {P} {R} prefix w n b never h = record {
  within = h.within;
  begins = λ i e. let more = h.begins i e in
      let p = b.some in
      (more.0 ++ p.0, subst R (ap (λ x. x ++ p.0) (sym more.1) ∙ append_assoc (take i w) more.0 p.0) (b.whole p.0 p.1));
  stops = λ le more. let r = b.rest (take n w ++ more.0) more.1 in
      let len : length (take n w) ≡ n = length-take-le n w le in
      ⊎_elim (λ short. h.stops le (drop n prefix, inside prefix w more.0 r.0 n len short r.2)) (λ long. never (drop (length prefix) w) (begins_with prefix w more.0 r.0 n le long r.2)) (short_or_long n (length prefix));
}
  where
    inside : (prefix w more x : List ℕ) (n : ℕ) → length (take n w) ≡ n → n ≤ length prefix → take n w ++ more ≡ prefix ++ x → take n w ++ drop n prefix ≡ prefix
    inside prefix w more x n len short e =
        let same : take n w ≡ take n prefix = sym (take-take n n w (omega arith)) ∙ sym (take-append-le n (take n w) more (omega arith)) ∙ ap (take n) e ∙ take-append-le n prefix x short in
        ap (λ y. y ++ drop n prefix) same ∙ take-append-drop n prefix

    begins_with : (prefix w more x : List ℕ) (n : ℕ) → n ≤ length w → length prefix ≤ n → take n w ++ more ≡ prefix ++ x → w ≡ prefix ++ drop (length prefix) w
    begins_with prefix w more x n le long e =
        let len : length (take n w) ≡ n = length-take-le n w le in
        let same : take (length prefix) w ≡ prefix = sym (take-take (length prefix) n w long) ∙ sym (take-append-le (length prefix) (take n w) more (omega arith)) ∙ ap (take (length prefix)) e ∙ take-append_seam prefix x in
        sym (take-append-drop (length prefix) w) ∙ ap (λ y. y ++ drop (length prefix) w) same

-- the fault of what stands behind the prefix
pub fault_of_rest : {P R : List ℕ → Type 0} (prefix w u : List ℕ) (e f : WordFault) → IsBehind prefix P R → w ≡ prefix ++ u → f ≡ fault_behind (length prefix) e → IsWordFault P u e → IsWordFault R w f
fault_of_rest {P} {R} prefix w u (Bad n) f b whole same h =
    subst (IsWordFault R w) (sym same) ((λ r. let x = b.rest w r in h.0 (subst P (sym (append_cancel_left prefix u x.0 (sym whole ∙ x.2))) x.1)), counts_behind prefix w u n b whole h.1)
fault_of_rest {P} {R} prefix w u Memory f b whole same h = subst (IsWordFault R w) (sym same) tt

-- A word that doesn't begin with a prefix has its fault in that prefix, by texts of a kind behind it.
pub fault_no_prefix : {P R : List ℕ → Type 0} (prefix w : List ℕ) (n : ℕ) → IsBehind prefix P R → ((x : List ℕ) → w ≡ prefix ++ x → ⊥) → CountsPrefixes (λ t. t ≡ prefix) w n → IsWordFault R w (Bad n)
fault_no_prefix prefix w n b never h =
    ((λ r. let x = b.rest w r in never x.0 x.2), counts_no_prefix prefix w n b never h)

-- ---- a limit

-- a word's first bytes, as many as a text of the kind may have, have its count
pub counts_limited : {P : List ℕ → Type 0} (limit : ℕ) (w : List ℕ) (m n : ℕ) → ((t : List ℕ) → P t → length t ≤ limit) → m ≡ min (length w) limit → CountsPrefixes P (take m w) n → CountsPrefixes P w n
counts_limited {P} limit w m n short e h =
    let len : length (take m w) ≡ m = length-take-le m w (omega arith) in
    record {
      within = omega (arith, h.within);
      begins = λ i f. subst (HasCompletion P) (take-take i m w (omega (arith, h.within))) (h.begins i f);
      stops = λ le more. ⊎_elim (λ within. h.stops (omega arith) (subst (HasCompletion P) (sym (take-take n m w within)) more)) (λ past. let prefixes : length (take n w) ≡ n = length-take-le n w le in absurd (omega (arith, short (take n w ++ more.0) more.1, length-append (take n w) more.0))) (le_or_past n m (omega (arith, h.within)));
    }
