-- Names of children, and origins.
use Rattle.std.proofs.Common.{◌≡◌, ◌⊎◌, inl, inr, ⊎_elim, ℕ, ◌+◌, List, [], ◌∷◌, ◌++◌, length, codes, true, ◌==◌, Option, Some, None, All, IfSome, refl, sym, ap, subst, ◌∙◌, arith}
use Rattle.std.specs.List.{Contains, slice_split, join_with_byte}
use Rattle.std.proofs.lemmas.List.Elements.{All-nil}
use Rattle.std.proofs.lemmas.List.Splits.{join_with_byte-slice_split, slice_split_none, slice_split_at}
use Rattle.cm_names.specs.declared.child.ChildName.{ChildName}
use Rattle.cm_names.specs.Prefixes.{HasCompletion}
use Rattle.cm_names.specs.Name.{IsName, continues_name}
use Rattle.cm_names.specs.Child.{child_text, in_collection}
use Rattle.cm_names.specs.Moniker.{IsChildName}
use Rattle.cm_names.specs.MonikerInside.{IsChildText}
use Rattle.cm_decl.specs.declared.origin.Origin.{Origin}
use Rattle.cm_decl.specs.declared.origin.Origin.TheVariants.{Parent, Own, Framework, Child, Void}
use Rattle.cm_command.specs.declared.tokens.WordFault.{WordFault}
use Rattle.cm_command.specs.declared.tokens.WordFault.TheVariants.{Bad, Memory}
use Rattle.cm_command.specs.Counts.{CountsPrefixes, IsWordFault, fault_behind, either_fault}
use Rattle.cm_command.specs.Words.{IsOriginText}
use Rattle.cm_command.specs.WordsInside.{IsChildOrigin, origin_words}
use Rattle.cm_command.proofs.lemmas.counts.Kind.{IsBehind, Each, of_each, counts_same, fault_either}
use Rattle.cm_command.proofs.lemmas.line.Machine.{PiecesLead, Wants, SaysText, IsMachine, GoesOn, BeginsWithPiece, pieces, first, word_says, more_says, counts_piece, counts_more}
use Rattle.cm_command.proofs.lemmas.bytes.Pieces.{Lacks}
use Rattle.cm_command.proofs.lemmas.written.Written.{name_lacks}

-- ---- the names of a child, cut at the colon

-- How many names of a child's text came so far: none yet, one, or two.
data Names : Type 0 where
  no_name : Names
  one_name : List ℕ → Names
  two_names : List ℕ → List ℕ → Names

-- Whether a piece of a child's text leads from these names to those.
abbrev steps : Names → List ℕ → Names → Type 0
steps no_name t p = IsName t × (p ≡ one_name t)
steps (one_name a) t p = IsName t × (p ≡ two_names a t)
steps (two_names a b) t p = ⊥

-- Whether a child's text may end at these names, and says this name of a child.
abbrev ends : Names → ChildName → Type 0
ends no_name c = ⊥
ends (one_name a) c = c ≡ record { coll = None; name = a }
ends (two_names a b) c = c ≡ record { coll = Some a; name = b }

-- A piece leads from names to one place alone.
one_way : (s : Names) (t : List ℕ) (a b : Names) → steps s t a → steps s t b → a ≡ b
one_way no_name t a b g h = g.1 ∙ sym h.1
one_way (one_name n) t a b g h = g.1 ∙ sym h.1
one_way (two_names n m) t a b g h = absurd g

-- A piece that leads on has no colon.
clean : (s : Names) (t : List ℕ) (a : Names) → steps s t a → Lacks 58 t
clean no_name t a h = name_lacks 58 refl t h.0
clean (one_name n) t a h = name_lacks 58 refl t h.0
clean (two_names n m) t a h = absurd h

-- Where a piece has led, the text may end or goes on behind a colon.
goes : (s : Names) (t : List ℕ) (a : Names) → steps s t a → GoesOn 58 steps ends a
goes no_name t a h =
    inl (record { coll = None; name = t }, subst (λ p. ends p (record { coll = None; name = t })) (sym h.1) refl)
goes (one_name n) t a h =
    inl (record { coll = Some n; name = t }, subst (λ p. ends p (record { coll = Some n; name = t })) (sym h.1) refl)
goes (two_names n m) t a h = absurd h

-- The pieces between colons that a child's text is made of are read one way.
names : IsMachine 58 steps ends
names = record { one_way = one_way; clean = clean; goes = goes }

-- ---- what they say is a child's text

-- Pieces that lead on from one name make the child's text with that name before them.
second_only : (a : List ℕ) (ps : List (List ℕ)) (v : ChildName) → PiecesLead steps ends (one_name a) ps v → IsName a → IsChildName v × (child_text v ≡ join_with_byte 58 (a ∷ ps))
second_only a [] v h first = subst (λ c. IsChildName c × (child_text c ≡ a)) (sym h) ((first, tt), refl)
second_only a (b ∷ []) v h first =
    let is : v ≡ record { coll = Some a; name = b } = subst (λ p. ends p v) h.1.1 h.2 in
    subst (λ c. IsChildName c × (child_text c ≡ a ++ 58 ∷ b)) (sym is) ((h.1.0, first), refl)
second_only a (b ∷ d ∷ ds) v h first =
    absurd (subst (λ p. PiecesLead steps ends p (d ∷ ds) v) h.1.1 h.2).1

-- Pieces that lead from no name to a child's name make its text.
led_child : (ps : List (List ℕ)) (v : ChildName) → PiecesLead steps ends no_name ps v → IsChildName v × (child_text v ≡ join_with_byte 58 ps)
led_child [] v h = absurd h
led_child (a ∷ ps) v h = second_only a ps v (subst (λ p. PiecesLead steps ends p ps v) h.1.1 h.2) h.1.0

-- A text that says a child's name is the text of one.
says_child : (t : List ℕ) → SaysText 58 steps ends no_name t → IsChildText t
says_child t h =
    let led = led_child (pieces 58 t) h.0 h.1 in
    (h.0, led.0, led.1 ∙ join_with_byte-slice_split 58 t)

-- ---- and the other way

-- A name is one piece.
one_piece : (t : List ℕ) → IsName t → slice_split (λ b. b == 58) t ≡ t ∷ []
one_piece t h = slice_split_none (λ b. b == 58) t (name_lacks 58 refl t h)

-- A name, in a collection or in none, says a child's name.
parts_say : (coll : Option (List ℕ)) (name : List ℕ) → IfSome coll IsName → IsName name → SaysText 58 steps ends no_name (in_collection coll name)
parts_say None name k h = (
  record { coll = None; name = name },
  subst (λ ws. PiecesLead steps ends no_name ws (record { coll = None; name = name })) (sym (one_piece name h)) (one_name name, (h, refl), refl),
)
parts_say (Some a) name k h = (
  record { coll = Some a; name = name },
  subst (λ ws. PiecesLead steps ends no_name ws (record { coll = Some a; name = name })) (sym (slice_split_at (λ b. b == 58) a 58 name (name_lacks 58 refl a k) refl ∙ ap (λ ws. a ∷ ws) (one_piece name h))) (one_name a, (k, refl), (two_names a name, (h, refl), refl)),
)

-- The text of a child's name says one.
child_says : (t : List ℕ) → IsChildText t → SaysText 58 steps ends no_name t
child_says t h =
    subst (SaysText 58 steps ends no_name) h.2 (parts_say h.0.coll h.0.name h.1.1 h.1.0)

-- ---- the first name is none

-- The first piece of a text that says a child's name is a name.
piece_is_name : (w p : List ℕ) → Lacks 58 p → BeginsWithPiece 58 p w → SaysText 58 steps ends no_name w → IsName p
piece_is_name w p lacks begins h =
    ⊎_elim (λ e. (word_says 58 steps ends no_name p lacks (subst (SaysText 58 steps ends no_name) e h)).1.0) (λ m. (more_says 58 steps ends no_name p m.0 lacks (subst (SaysText 58 steps ends no_name) m.1 h)).1.0) begins

-- A text whose part before the colon is no name has the fault of that part as the text of a child.
pub bad_first_name : (w p : List ℕ) (e : WordFault) → Lacks 58 p → BeginsWithPiece 58 p w → IsWordFault IsName p e → IsWordFault IsChildText w e
bad_first_name w p (Bad n) lacks begins h = (
  λ child. h.0 (piece_is_name w p lacks begins (child_says w child)),
  counts_same w n says_child child_says (counts_piece 58 steps ends names no_name p w n lacks (λ some. h.0 some.1.0) (counts_same {P = IsName} {Q = Wants steps no_name} p n (λ t q. (one_name t, (q, refl))) (λ t q. q.1.0) h.1) begins),
)
bad_first_name w p Memory lacks begins h = tt

-- ---- the second name is none

-- Behind two names no text says anything.
nothing_says : (a b t : List ℕ) → SaysText 58 steps ends (two_names a b) t → ⊥
nothing_says a b t h =
    let f = first 58 t in
    ⊎_elim (λ e. (word_says 58 steps ends (two_names a b) f.piece f.clean (subst (SaysText 58 steps ends (two_names a b)) e h)).1) (λ m. (more_says 58 steps ends (two_names a b) f.piece m.0 f.clean (subst (SaysText 58 steps ends (two_names a b)) m.1 h)).1) f.whole

-- A text that says something behind one name is a name.
one_says : (a t : List ℕ) → SaysText 58 steps ends (one_name a) t → IsName t
one_says a t h =
    let f = first 58 t in
    ⊎_elim (λ e. subst IsName (sym e) (word_says 58 steps ends (one_name a) f.piece f.clean (subst (SaysText 58 steps ends (one_name a)) e h)).1.0) (λ m. let led = more_says 58 steps ends (one_name a) f.piece m.0 f.clean (subst (SaysText 58 steps ends (one_name a)) m.1 h) in absurd (nothing_says a f.piece m.0 (subst (λ p. SaysText 58 steps ends p m.0) led.1.1 led.2))) f.whole

-- A name says something behind one name.
says_one : (a t : List ℕ) → IsName t → SaysText 58 steps ends (one_name a) t
says_one a t h = (
  record { coll = Some a; name = t },
  subst (λ ws. PiecesLead steps ends (one_name a) ws (record { coll = Some a; name = t })) (sym (one_piece t h)) (two_names a t, (h, refl), refl),
)

-- What stands behind a name and a colon in a child's text is a name.
second_name : (w a r : List ℕ) → w ≡ a ++ 58 ∷ r → IsName a → IsChildText w → IsName r
second_name w a r e h child =
    let led = more_says 58 steps ends no_name a r (name_lacks 58 refl a h) (subst (SaysText 58 steps ends no_name) e (child_says w child)) in
    one_says a r (subst (λ p. SaysText 58 steps ends p r) led.1.1 led.2)

-- Where what follows a name and a colon is no name, the text of a child has its fault behind these.
pub bad_second_name : (w a r : List ℕ) (e f : WordFault) → w ≡ a ++ 58 ∷ r → IsName a → f ≡ fault_behind (length a + 1) e → IsWordFault IsName r e → IsWordFault IsChildText w f
bad_second_name w a r (Bad n) f is name same h =
    subst (IsWordFault IsChildText w) (sym same) (λ child. h.0 (second_name w a r is name child), subst (λ x. CountsPrefixes IsChildText x (length a + 1 + n)) (sym is) (counts_same (a ++ 58 ∷ r) (length a + 1 + n) says_child child_says (counts_more 58 steps ends names no_name (one_name a) a r n (name, refl) (counts_same {P = IsName} {Q = SaysText 58 steps ends (one_name a)} r n (says_one a) (one_says a) h.1))))
bad_second_name w a r Memory f is name same h = subst (IsWordFault IsChildText w) (sym same) tt

-- ---- origins

-- All of no bytes continue a name.
one_letter : All (λ c. continues_name c ≡ true) []
one_letter = All-nil (λ c. continues_name c ≡ true)

-- Some text of a child begins with nothing.
child_begins : HasCompletion IsChildText []
child_begins =
    (codes "a", (record { coll = None; name = codes "a" }, ((omega arith, refl, one_letter), tt), refl))

-- The text of an origin that is a child is `#` and the text of a child.
origin_rest : (t : List ℕ) → IsChildOrigin t → (x : List ℕ) × IsChildText x × (t ≡ codes "#" ++ x)
origin_rest t h = (child_text h.0, (h.0, h.1.0, refl), h.1.1)

-- The words for a child as a source are exactly `#` and the text of a child.
pub origin_behind : IsBehind (codes "#") IsChildText IsChildOrigin
origin_behind = record {
  rest = origin_rest;
  whole = λ x p. (p.0, (p.1, ap (λ y. 35 ∷ y) (sym p.2)));
  some = child_begins;
}

-- The text of some origin.
abbrev IsSomeOrigin : List ℕ → Type 0
IsSomeOrigin t = (o : Origin) × IsOriginText t o

-- Each of the words for origins is the text of one.
named : Each IsSomeOrigin origin_words
named = ((Parent, refl), ((Own, refl), ((Framework, refl), ((Void, refl), tt))))

-- The text of an origin is one of the words or that of a child.
origin_parts : (t : List ℕ) (o : Origin) → IsOriginText t o → Contains origin_words t ⊎ IsChildOrigin t
origin_parts t Parent h = inl (0, omega arith, sym h)
origin_parts t Own h = inl (1, omega arith, sym h)
origin_parts t Framework h = inl (2, omega arith, sym h)
origin_parts t Void h = inl (3, omega arith, sym h)
origin_parts t (Child c) h = inr (c, h)

-- A word that names no source has the longer fault: by the fixed words, or by those for a child.
pub origin_fault : (w : List ℕ) (d e f : WordFault) → f ≡ either_fault d e → IsWordFault (Contains origin_words) w d → IsWordFault IsChildOrigin w e → IsWordFault (λ t. (o : Origin) × IsOriginText t o) w f
origin_fault w d e f same g h =
    fault_either {P = Contains origin_words} {Q = IsChildOrigin} {R = IsSomeOrigin} w d e f (λ t p. of_each IsSomeOrigin origin_words t named p) (λ t q. (Child q.0, q.1)) (λ t r. origin_parts t r.0 r.1) same g h

-- none of the words
pub no_origin : (w : List ℕ) → (w ≡ codes "parent" → ⊥) → (w ≡ codes "self" → ⊥) → (w ≡ codes "framework" → ⊥) → (w ≡ codes "void" → ⊥) → Contains origin_words w → ⊥
no_origin w a b c d h = of_each (λ t. w ≡ t → ⊥) origin_words w (a, (b, (c, (d, tt)))) h refl
