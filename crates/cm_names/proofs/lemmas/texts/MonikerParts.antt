-- The parts of a moniker's text, cut at the slashes, and a part, cut at its colon.
use Rattle.std.proofs.Common.{◌≡◌, ◌≢◌, ◌⊎◌, inl, inr, ⊎_elim, ℕ, ◌+◌, ◌<◌, List, [], ◌∷◌, ◌++◌, length, map, get_or, take, codes, true, false, true≢false, cond, ◌==◌, IsTrue, IfSome, MatchOption, All, Option, Some, None, refl, sym, ap, subst, ◌∙◌, append_assoc, append-nil, length-append, arith, eqb-true}
use denote.Ref.{Bor}
use Rattle.std.specs.List.{join_with_byte, slice_split}
use Rattle.std.proofs.Math.Seq.{get_or-append_seam}
use Rattle.std.proofs.lemmas.List.{map-append, take_more, take_all, length-map}
use Rattle.std.proofs.lemmas.List.Elements.{All-cons, All-nil, All-append}
use Rattle.std.proofs.lemmas.List.Splits.{slice_split_none, slice_split_at, length-slice_split, join_with_byte-slice_split}
use Rattle.std.proofs.lemmas.Str.Pattern.{IsSplitOnceResult, split_parts, split_after}
use Rattle.cm_names.specs.declared.child.ChildName.{ChildName}
use Rattle.cm_names.specs.Name.{IsName, begins_name, continues_name}
use Rattle.cm_names.specs.Child.{child_text, in_collection}
use Rattle.cm_names.specs.Moniker.{IsChildName, text_of_parts, IsMonikerTextOf}
use Rattle.cm_names.specs.MonikerInside.{IsChildText, IsMonikerText, behind_slash, MonikersReadOneWay, WritesItsText}
use Rattle.cm_names.specs.Path.{parts_of}
use Rattle.cm_names.proofs.lemmas.prefixes.MonikerGrammar.{slashed, joined_is, AreChildren, are_children, not_at}
use Rattle.cm_names.proofs.lemmas.texts.Name.{begins_continues}

-- ---- names

-- Each byte of a name is one that continues names.
continue_all : (b : ℕ) (bs : List ℕ) → IsName (b ∷ bs) → All (λ c. IsTrue (continues_name c)) (b ∷ bs)
continue_all b bs h = All-cons (λ c. IsTrue (continues_name c)) b bs (begins_continues b h.1) h.2

-- a byte that may not stand in a name stands in none
lacks : (k : ℕ) → continues_name k ≡ false → (t : List ℕ) → IsName t → All (λ c. (c == k) ≡ false) t
lacks k e [] h = absurd h
lacks k e (b ∷ bs) h = λ i d lt. not_at (get_or (b ∷ bs) i d) k (continue_all b bs h i d lt) e

-- ---- a part, cut at its colon

-- A child's text cut at its first colon has names before and behind it, or no colon and is a name.
cut_by : (coll : Option (List ℕ)) (name : List ℕ) → IfSome coll IsName → IsName name → (t : List ℕ) → in_collection coll name ≡ t → (r : Option (Bor (List ℕ) × Bor (List ℕ))) → IsSplitOnceResult 58 t r → MatchOption r (IsName t) (λ cut. IsName cut.0.now × IsName cut.1.now × (t ≡ cut.0.now ++ 58 ∷ cut.1.now))
cut_by None name _ h t e None cut = subst IsName e h
cut_by None name _ h t e (Some x) cut =
    let parts = split_parts 58 t (Some x) cut (omega arith) in
    let here : get_or t (length x.0.now) 0 ≡ 58 = ap (λ s. get_or s (length x.0.now) 0) parts.0 ∙ get_or-append_seam x.0.now 58 x.1.now 0 in
    let lt : length x.0.now < length t = omega (arith, ap length parts.0, length-append x.0.now (58 ∷ x.1.now)) in
    absurd (true≢false (sym (ap (λ c. c == 58) here) ∙ lacks 58 refl t (subst IsName e h) (length x.0.now) 0 lt))
cut_by (Some coll) name k h t e None cut =
    absurd (split_after 58 t coll name None cut (omega arith) (sym e) (λ i lt at. true≢false (sym (ap (λ c. c == 58) at) ∙ lacks 58 refl coll k i 0 lt)))
cut_by (Some coll) name k h t e (Some x) cut =
    let parts = split_after 58 t coll name (Some x) cut (omega arith) (sym e) (λ i lt at. true≢false (sym (ap (λ c. c == 58) at) ∙ lacks 58 refl coll k i 0 lt)) in
    (subst IsName (sym parts.0) k, subst IsName (sym parts.1) h, cc)

-- The text of a child, cut at its first colon, is a name, or two names with the colon between.
pub cut_is : (t : List ℕ) → IsChildText t → (r : Option (Bor (List ℕ) × Bor (List ℕ))) → IsSplitOnceResult 58 t r → MatchOption r (IsName t) (λ cut. IsName cut.0.now × IsName cut.1.now × (t ≡ cut.0.now ++ 58 ∷ cut.1.now))
cut_is t h r cut = cut_by h.0.coll h.0.name h.1.1 h.1.0 t h.2 r cut

-- ---- a child's text tells its names

-- The texts of a child's parts: its collection's name, if any, and its own.
as_list : Option (List ℕ) → List ℕ → List (List ℕ)
as_list None name = name ∷ []
as_list (Some coll) name = coll ∷ name ∷ []

-- A child's text, split at its colons, is its collection's name, if any, and its own.
colon_parts : (coll : Option (List ℕ)) (name : List ℕ) → IfSome coll IsName → IsName name → slice_split (λ b. b == 58) (in_collection coll name) ≡ as_list coll name
unfolding as_list
colon_parts None name _ h = slice_split_none (λ b. b == 58) name (lacks 58 refl name h)
colon_parts (Some coll) name k h =
    slice_split_at (λ b. b == 58) coll 58 name (lacks 58 refl coll k) refl ∙ ap (λ ps. coll ∷ ps) (slice_split_none (λ b. b == 58) name (lacks 58 refl name h))

-- The same parts are of the same collection, or none, and of the same name.
same_names : (k l : Option (List ℕ)) (m n : List ℕ) → as_list k m ≡ as_list l n → (k ≡ l) × (m ≡ n)
unfolding as_list
same_names None None m n e = (refl, cc)
same_names None (Some l) m n e = absurd cc
same_names (Some k) None m n e = absurd cc
same_names (Some k) (Some l) m n e = (cc, cc)

-- Two proper names of children that have the same text are the same.
pub same_child : (c d : ChildName) → IsChildName c → IsChildName d → child_text c ≡ child_text d → c ≡ d
same_child c d h k e =
    let same = same_names c.coll d.coll c.name d.name (sym (colon_parts c.coll c.name h.1 h.0) ∙ ap (slice_split (λ b. b == 58)) e ∙ colon_parts d.coll d.name k.1 k.0) in
    ap (λ o. record { coll = o; name = c.name }) same.0 ∙ ap (λ t. record { coll = d.coll; name = t }) same.1

-- Children with the same texts are the same.
same_children : (cs ds : List ChildName) → AreChildren cs → AreChildren ds → map child_text cs ≡ map child_text ds → cs ≡ ds
same_children [] [] h k e = refl
same_children [] (d ∷ ds) h k e = absurd cc
same_children (c ∷ cs) [] h k e = absurd cc
same_children (c ∷ cs) (d ∷ ds) h k e =
    let first : child_text c ≡ child_text d = cc in
    let others : map child_text cs ≡ map child_text ds = cc in
    ap (λ x. x ∷ cs) (same_child c d h.0 k.0 first) ∙ ap (λ xs. d ∷ xs) (same_children cs ds h.1 k.1 others)

-- ---- the parts, cut at the slashes

-- No byte of a child's text, with or without a collection, is a slash.
no_slash : (coll : Option (List ℕ)) (name : List ℕ) → IfSome coll IsName → IsName name → All (λ b. (b == 47) ≡ false) (in_collection coll name)
no_slash None name _ h = lacks 47 refl name h
no_slash (Some coll) name k h =
    All-append (λ b. (b == 47) ≡ false) coll (58 ∷ name) (lacks 47 refl coll k) (All-cons (λ b. (b == 47) ≡ false) 58 name refl (lacks 47 refl name h))

-- The text of a child and others, split at its slashes, is the list of the children's texts.
split_parts_of : (c : ChildName) (cs : List ChildName) → IsChildName c → AreChildren cs → parts_of (child_text c ++ slashed cs) ≡ map child_text (c ∷ cs)
split_parts_of c [] h k = ap parts_of (append-nil (child_text c)) ∙ slice_split_none (λ b. b == 47) (child_text c) (no_slash c.coll c.name h.1 h.0)
split_parts_of c (d ∷ ds) h k =
    slice_split_at (λ b. b == 47) (child_text c) 47 (child_text d ++ slashed ds) (no_slash c.coll c.name h.1 h.0) refl ∙ ap (λ ps. child_text c ∷ ps) (split_parts_of d ds k.0 k.1)

-- a child's text begins like a name
record NameBegins (t : List ℕ) : Type 0 where
  first : ℕ
  rest : List ℕ
  begins : IsTrue (begins_name first)
  is : t ≡ first ∷ rest

-- What begins with a name begins as a name does.
name_begins : (t u : List ℕ) → IsName t → NameBegins (t ++ u)
name_begins [] u h = absurd h
name_begins (b ∷ bs) u h = record { first = b; rest = bs ++ u; begins = h.1; is = refl }

-- What begins with a child's text, with or without a collection, begins as a name does.
begins_by : (coll : Option (List ℕ)) (name u : List ℕ) → IfSome coll IsName → IsName name → NameBegins (in_collection coll name ++ u)
begins_by None name u _ h = name_begins name u h
begins_by (Some coll) name u k h = subst NameBegins (sym (append_assoc coll (58 ∷ name) u)) (name_begins coll ((58 ∷ name) ++ u) k)

-- ---- a text that is neither the dot nor the slash

-- What is left behind a leading slash is the whole text, where its first byte is no slash.
behind_cons : (b : ℕ) (bs : List ℕ) → (b == 47) ≡ false → behind_slash (b ∷ bs) ≡ b ∷ bs
behind_cons b bs e = rw e refl

-- What is left behind a leading slash is the whole text, where it begins as a name does.
behind_name : (t : List ℕ) → NameBegins t → behind_slash t ≡ t
behind_name t h =
    ap behind_slash h.is ∙ behind_cons h.first h.rest (not_at h.first 47 (begins_continues h.first h.begins) refl) ∙ sym h.is

-- the text of children, without the slash in front
pub parts_stand : (t : List ℕ) (c : ChildName) (cs : List ChildName) → IsMonikerTextOf t (record { parts = c ∷ cs }) → behind_slash t ≡ child_text c ++ slashed cs
parts_stand t c cs h =
    let names = are_children (c ∷ cs) h.names in
    ⊎_elim (λ e. ap behind_slash (e ∙ joined_is c cs) ∙ behind_name (child_text c ++ slashed cs) (begins_by c.coll c.name (slashed cs) names.0.1 names.0.0)) (λ e. ap behind_slash (e ∙ ap (λ r. 47 ∷ r) (joined_is c cs))) h.written

-- The text of a moniker with parts, split at its slashes behind a leading one, is those parts' texts.
parts_are : (t : List ℕ) (c : ChildName) (cs : List ChildName) → IsMonikerTextOf t (record { parts = c ∷ cs }) → parts_of (behind_slash t) ≡ map child_text (c ∷ cs)
parts_are t c cs h =
    let names = are_children (c ∷ cs) h.names in
    ap parts_of (parts_stand t c cs h) ∙ split_parts_of c cs names.0 names.1

-- A dot doesn't begin as a name does.
dot_begins : (h : NameBegins (codes ".")) → ⊥
dot_begins h = let first : h.first ≡ 46 = cc h.is in true≢false (sym h.begins ∙ ap begins_name first)

-- The empty text doesn't begin as a name does.
nothing_begins : (h : NameBegins []) → ⊥
nothing_begins h = absurd (cc h.is)

-- the root's texts are no other moniker's
not_root : (t : List ℕ) (c : ChildName) (cs : List ChildName) → IsMonikerTextOf t (record { parts = c ∷ cs }) → (t ≡ codes ".") ⊎ (t ≡ codes "/") → ⊥
not_root t c cs h root =
    let names = are_children (c ∷ cs) h.names in
    let begins : NameBegins (child_text c ++ slashed cs) = begins_by c.coll c.name (slashed cs) names.0.1 names.0.0 in
    let behind : NameBegins (behind_slash t) = subst NameBegins (sym (parts_stand t c cs h)) begins in
    ⊎_elim (λ e. dot_begins (subst (λ s. NameBegins (behind_slash s)) e behind)) (λ e. nothing_begins (subst (λ s. NameBegins (behind_slash s)) e behind)) root

-- A text is that of one list of parts at most.
one_way : (t : List ℕ) (cs ds : List ChildName) → IsMonikerTextOf t (record { parts = cs }) → IsMonikerTextOf t (record { parts = ds }) → cs ≡ ds
one_way t [] [] h k = refl
one_way t [] (d ∷ ds) h k = absurd (not_root t d ds k h.written)
one_way t (c ∷ cs) [] h k = absurd (not_root t c cs h k.written)
one_way t (c ∷ cs) (d ∷ ds) h k =
    same_children (c ∷ cs) (d ∷ ds) (are_children (c ∷ cs) h.names) (are_children (d ∷ ds) k.names) (sym (parts_are t c cs h) ∙ parts_are t d ds k)

-- A text is the text of one moniker at most.
pub reads_one_way_lem : MonikersReadOneWay
reads_one_way_lem t m n h k = ap (λ ps. record { parts = ps }) (one_way t m.parts n.parts h k)

-- What is written of a moniker of proper names is read as it.
pub writes_its_text_lem : WritesItsText
writes_its_text_lem m names = record { names = names; written = inl refl }

-- ---- reading

-- A text with no slash in front is left whole where a slash in front is left out.
pub unslashed : (t : List ℕ) → ((rest : List ℕ) → t ≢ 47 ∷ rest) → t ≡ behind_slash t
unslashed [] h = refl
unslashed (b ∷ bs) h =
    elim (b == 47) as (λ a. (b == 47) ≡ a → b ∷ bs ≡ cond a bs (b ∷ bs)) [
      | true ↦ λ e. absurd (h bs (ap (λ c. c ∷ bs) (eqb-true b 47 e)))
      | false ↦ λ e. refl
    ] refl

-- A text is what is left behind its leading slash, or a slash and that.
slash_or_none : (t : List ℕ) → (t ≡ behind_slash t) ⊎ (t ≡ 47 ∷ behind_slash t)
slash_or_none [] = inl refl
slash_or_none (b ∷ bs) =
    elim (b == 47) as (λ a. (b == 47) ≡ a → (b ∷ bs ≡ cond a bs (b ∷ bs)) ⊎ (b ∷ bs ≡ 47 ∷ cond a bs (b ∷ bs))) [
      | true ↦ λ e. inr (ap (λ c. c ∷ bs) (eqb-true b 47 e))
      | false ↦ λ e. inl refl
    ] refl

-- All texts of children are texts of a child.
all_texts : (cs : List ChildName) → AreChildren cs → All IsChildText (map child_text cs)
all_texts [] h = All-nil IsChildText
all_texts (c ∷ cs) h = All-cons IsChildText (child_text c) (map child_text cs) (c, h.0, refl) (all_texts cs h.1)

-- The pieces of a moniker's text that is neither a dot nor a slash are all texts of a child.
pieces_by : (t : List ℕ) (cs : List ChildName) → IsMonikerTextOf t (record { parts = cs }) → t ≢ codes "." → t ≢ codes "/" → All IsChildText (parts_of (behind_slash t))
pieces_by t [] h dot slash = absurd (⊎_elim dot slash h.written)
pieces_by t (c ∷ cs) h dot slash =
    subst (All IsChildText) (sym (parts_are t c cs h)) (all_texts (c ∷ cs) (are_children (c ∷ cs) h.names))

-- the pieces between the slashes are texts of children
pub pieces : (t : List ℕ) → IsMonikerText t → t ≢ codes "." → t ≢ codes "/" → All IsChildText (parts_of (behind_slash t))
pieces t h dot slash = pieces_by t h.0.parts h.1 dot slash

-- With one piece more that was read, the names' texts are the pieces up to it.
pub texts_more : (texts : List (List ℕ)) (cs : List ChildName) (c : ChildName) (i : ℕ) (t d : List ℕ) → i < length texts → t ≡ get_or texts i d → child_text c ≡ t → map child_text cs ≡ take i texts → map child_text (cs ++ c ∷ []) ≡ take (i + 1) texts
texts_more texts cs c i t d lt at e so_far =
    map-append child_text cs (c ∷ []) ∙ ap (λ ts. ts ++ child_text c ∷ []) so_far ∙ ap (λ s. take i texts ++ s ∷ []) (e ∙ at) ∙ sym (take_more texts i d lt)

-- children whose texts stand between the slashes make the moniker
pub made : (t : List ℕ) (cs : List ChildName) → All IsChildName cs → map child_text cs ≡ parts_of (behind_slash t) → IsMonikerTextOf t (record { parts = cs })
made t [] names e = absurd (omega (arith, ap length e, length-slice_split (λ b. b == 47) (behind_slash t)))
made t (c ∷ cs) names e =
    let text : join_with_byte 47 (map child_text (c ∷ cs)) ≡ behind_slash t = ap (join_with_byte 47) e ∙ join_with_byte-slice_split 47 (behind_slash t) in
    record { names = names; written = ⊎_elim (λ s. inl (s ∙ sym text)) (λ s. inr (s ∙ ap (λ r. 47 ∷ r) (sym text))) (slash_or_none t) }

-- ---- writing

-- Once all names of a list that has any are joined by slashes, their whole text is written.
pub written_whole : (cs : List ChildName) (i : ℕ) (t : List ℕ) → cs ≢ [] → i ≡ length cs → t ≡ join_with_byte 47 (take i (map child_text cs)) → t ≡ text_of_parts cs
written_whole [] i t some e h = absurd (some refl)
written_whole (c ∷ cs) i t some e h =
    h ∙ ap (join_with_byte 47) (take_all i (map child_text (c ∷ cs)) (omega (arith, length-map (c ∷ cs) child_text)))

-- Where the first names of a list are proper, and they are all that there are, all are.
pub names_whole : (cs : List ChildName) (i : ℕ) → i ≡ length cs → All IsChildName (take i cs) → All IsChildName cs
names_whole cs i e h = subst (All IsChildName) (take_all i cs (omega arith)) h
