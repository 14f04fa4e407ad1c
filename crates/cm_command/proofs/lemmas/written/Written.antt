-- The line that a command is written as asks for it.
use Rattle.std.proofs.Common.{◌≡◌, ◌≢◌, inl, ℕ, List, [], ◌∷◌, ◌++◌, length, map, true, false, not, ◌==◌, ◌&&◌, nat_le, filter, Ok, Some, None, IsTrue, refl, sym, ap, subst, ◌∙◌, arith, rules, eqb-true}
use Rattle.std.specs.List.{slice_split, join_with_byte, list_all}
use Rattle.std.proofs.lemmas.Option.{none-some}
use Rattle.std.proofs.lemmas.List.Splits.{slice_split_none, slice_split_at}
use Rattle.std.proofs.lemmas.List.Elements.{All-cons, All-nil, All-append}
use Rattle.cm_names.specs.declared.child.ChildName.{ChildName}
use Rattle.cm_names.specs.declared.moniker.Moniker.{Moniker}
use Rattle.cm_names.specs.declared.grammar.MonikerState.{MonikerState}
use Rattle.cm_names.specs.declared.grammar.MonikerState.TheVariants.{Start, Whole, Root, Part, First, Colon, Second}
use Rattle.cm_names.specs.Name.{IsName, continues_name}
use Rattle.cm_names.specs.Child.{child_text}
use Rattle.cm_names.specs.Moniker.{IsChildName, IsMonikerTextOf}
use Rattle.cm_names.specs.MonikerStates.{next, may_end}
use Rattle.cm_names.proofs.lemmas.prefixes.Prefixes.{Accepts, onward}
use Rattle.cm_names.proofs.lemmas.prefixes.MonikerGrammar.{moniker_accepted, not_at}
use Rattle.cm_names.proofs.lemmas.texts.Name.{begins_continues}
use Rattle.std.proofs.lemmas.Bool.{and_parts}
use Rattle.std.proofs.lemmas.List.Splits.{join_with_byte-slice_split}
use Rattle.cm_names.specs.Path.{is_path, is_subdir, is_relative, is_part, is_part_byte, is_slash, is_dots}
use Rattle.cm_names.specs.declared.rights.Right.{Right}
use Rattle.cm_names.specs.declared.rights.Right.TheVariants.{Connect, Enumerate, Execute, GetAttributes, ModifyDirectory, ReadBytes, Traverse, UpdateAttributes, WriteBytes}
use Rattle.cm_names.specs.Rights.{RightSet, text_of, words_of, word_of, has, all_rights, no_rights, rights_of}
use Rattle.cm_names.proofs.lemmas.sets.Word.{words_are_read_back_lem}
use Rattle.cm_facts.proofs.Numbers.{eq_self}
use Rattle.cm_command.specs.Words.{IsRightsText}
use Rattle.cm_command.proofs.lemmas.bytes.Pieces.{Lacks}

-- ---- words without a separator

-- No text of the list has this byte.
abbrev pub AllLack : ℕ → List (List ℕ) → Type 0
AllLack k [] = Unit {0}
AllLack k (w ∷ ws) = Lacks k w × AllLack k ws

-- words that are joined are found again
pub split_join : (k : ℕ) (w : List ℕ) (ws : List (List ℕ)) → Lacks k w → AllLack k ws → slice_split (λ b. b == k) (join_with_byte k (w ∷ ws)) ≡ w ∷ ws
split_join k w [] h t = slice_split_none (λ b. b == k) w h
split_join k w (v ∷ vs) h t =
    slice_split_at (λ b. b == k) w k (join_with_byte k (v ∷ vs)) h (eq_self k) ∙ ap (λ x. w ∷ x) (split_join k v vs t.0 t.1)

-- Two lists of texts without a byte make one list of such texts.
pub all_lack-append : (k : ℕ) (xs ys : List (List ℕ)) → AllLack k xs → AllLack k ys → AllLack k (xs ++ ys)
all_lack-append k [] ys h t = t
all_lack-append k (x ∷ xs) ys h t = (h.0, all_lack-append k xs ys h.1 t)

-- ---- bytes of words

-- A text that a test finds to be without a byte is without it.
pub lacks_by : (k : ℕ) (t : List ℕ) → list_all (λ b. not (b == k)) t ≡ true → Lacks k t
lacks_by k [] e = All-nil (λ b. (b == k) ≡ false)
lacks_by k (b ∷ bs) e = All-cons (λ b. (b == k) ≡ false) b bs (grind (arith, rules)) (lacks_by k bs (grind (arith, rules)))

-- A name is without each byte by which no name goes on.
pub name_lacks : (k : ℕ) → continues_name k ≡ false → (t : List ℕ) → IsName t → Lacks k t
name_lacks k e [] h = absurd h
name_lacks k e (b ∷ bs) h =
    All-cons (λ c. (c == k) ≡ false) b bs (not_at b k (begins_continues b h.1) e) (λ i d lt. not_at _ k (h.2 i d lt) e)

-- No place in a moniker leads on at a space.
space_stops : (p : MonikerState) → next p 32 ≡ None
space_stops Start = refl
space_stops Whole = refl
space_stops Root = refl
space_stops Part = refl
space_stops (First n) = refl
space_stops Colon = refl
space_stops (Second n) = refl

-- A byte that leads on in a moniker isn't a space.
no_space : (p q : MonikerState) (b : ℕ) → next p b ≡ Some q → (b == 32) ≡ false
no_space p q b h =
    elim (b == 32) as (λ x. (b == 32) ≡ x → x ≡ false) [
      | true ↦ λ e. absurd (none-some q (sym (space_stops p) ∙ sym (ap (next p) (eqb-true b 32 e)) ∙ h))
      | false ↦ λ e. refl
    ] refl

-- A text that is accepted as a moniker has no space.
accepted_lacks : (p : MonikerState) (t : List ℕ) → Accepts next may_end p t → Lacks 32 t
accepted_lacks p [] h = All-nil (λ b. (b == 32) ≡ false)
accepted_lacks p (b ∷ bs) h =
    let on = onward p b bs h in
    All-cons (λ b. (b == 32) ≡ false) b bs (no_space p on.place b on.is) (accepted_lacks on.place bs on.rest)

-- The text of a moniker has no space.
pub moniker_lacks : (t : List ℕ) (m : Moniker) → IsMonikerTextOf t m → Lacks 32 t
moniker_lacks t m h = accepted_lacks Start t (moniker_accepted t m h)

-- The text of a child's name has no space.
pub child_lacks : (c : ChildName) → IsChildName c → Lacks 32 (child_text c)
child_lacks c h =
    moniker_lacks (child_text c) (record { parts = c ∷ [] }) (record { names = All-cons IsChildName c [] h (All-nil IsChildName); written = inl refl })

-- ---- paths and rights

-- A byte that a part of a path may have isn't a space.
part_byte : (b : ℕ) → is_part_byte b ≡ true → (b == 32) ≡ false
part_byte b h = grind (arith, rules)

-- A text all of whose bytes may be in a part of a path has no space.
bytes_lack : (p : List ℕ) → list_all is_part_byte p ≡ true → Lacks 32 p
bytes_lack [] h = All-nil (λ b. (b == 32) ≡ false)
bytes_lack (b ∷ bs) h =
    let both = and_parts (is_part_byte b) (list_all is_part_byte bs) h in
    All-cons (λ c. (c == 32) ≡ false) b bs (part_byte b both.0) (bytes_lack bs both.1)

-- Texts that are parts of paths have no spaces.
parts_lack : (ps : List (List ℕ)) → list_all is_part ps ≡ true → AllLack 32 ps
parts_lack [] h = tt
parts_lack (p ∷ ps) h =
    let both = and_parts (is_part p) (list_all is_part ps) h in
    let inside = and_parts (not (length p == 0) && not (is_dots p)) (list_all is_part_byte p) both.0 in
    (bytes_lack p inside.1, parts_lack ps both.1)

-- Texts without spaces, joined by another byte, have no space.
pub joined_lack : (k : ℕ) → (k == 32) ≡ false → (ps : List (List ℕ)) → AllLack 32 ps → Lacks 32 (join_with_byte k ps)
joined_lack k e [] h = All-nil (λ b. (b == 32) ≡ false)
joined_lack k e (p ∷ []) h = h.0
joined_lack k e (p ∷ q ∷ qs) h =
    All-append (λ b. (b == 32) ≡ false) p (k ∷ join_with_byte k (q ∷ qs)) h.0 (All-cons (λ b. (b == 32) ≡ false) k (join_with_byte k (q ∷ qs)) e (joined_lack k e (q ∷ qs) h.1))

-- A relative path has no space.
relative_lacks : (t : List ℕ) → is_relative t ≡ true → Lacks 32 t
relative_lacks t h =
    subst (Lacks 32) (join_with_byte-slice_split 47 t) (joined_lack 47 refl (slice_split (λ b. b == 47) t) (parts_lack (slice_split (λ b. b == 47) t) h))

-- A path has no space.
pub path_lacks : (t : List ℕ) → IsTrue (is_path t) → Lacks 32 t
path_lacks [] h = All-nil (λ b. (b == 32) ≡ false)
path_lacks (b ∷ bs) h =
    let both = and_parts (nat_le (length (b ∷ bs)) 4096 && is_slash b) (is_relative bs) h in
    let prefix = and_parts (nat_le (length (b ∷ bs)) 4096) (is_slash b) both.0 in
    let slash : b ≡ 47 = eqb-true b 47 prefix.1 in
    All-cons (λ c. (c == 32) ≡ false) b bs (ap (λ c. c == 32) slash) (relative_lacks bs both.1)

-- A subdirectory has no space.
pub subdir_lacks : (t : List ℕ) → IsTrue (is_subdir t) → Lacks 32 t
subdir_lacks t h = relative_lacks t (and_parts (nat_le (length t) 4096) (is_relative t) h).1

-- The word of a right has only bytes that continue names.
right_bytes : (r : Right) → list_all continues_name (word_of r) ≡ true
right_bytes Connect = refl
right_bytes Enumerate = refl
right_bytes Execute = refl
right_bytes GetAttributes = refl
right_bytes ModifyDirectory = refl
right_bytes ReadBytes = refl
right_bytes Traverse = refl
right_bytes UpdateAttributes = refl
right_bytes WriteBytes = refl

-- A text of bytes that continue names lacks each byte that doesn't.
letters_lack : (k : ℕ) → continues_name k ≡ false → (t : List ℕ) → list_all continues_name t ≡ true → Lacks k t
letters_lack k e [] h = All-nil (λ b. (b == k) ≡ false)
letters_lack k e (b ∷ bs) h =
    let both = and_parts (continues_name b) (list_all continues_name bs) h in
    All-cons (λ c. (c == k) ≡ false) b bs (not_at b k both.0 e) (letters_lack k e bs both.1)

-- The words of rights lack each byte that doesn't continue names.
words_lack : (k : ℕ) → continues_name k ≡ false → (rs : List Right) → AllLack k (map word_of rs)
words_lack k e [] = tt
words_lack k e (r ∷ rs) = (letters_lack k e (word_of r) (right_bytes r), words_lack k e rs)

-- The words that rights are written as have no space.
pub rights_lack : (r : RightSet) → Lacks 32 (text_of r)
rights_lack r = joined_lack 44 refl (words_of r) (words_lack 32 refl (filter (has r) all_rights))

-- Words without a comma that state rights state the same when joined by commas and cut again.
rights_joined : (ws : List (List ℕ)) (r : RightSet) → AllLack 44 ws → rights_of ws ≡ Ok r → rights_of (slice_split (λ b. b == 44) (join_with_byte 44 ws)) ≡ Ok r
unfolding rights_of
rights_joined [] r h e = absurd (cc e)
rights_joined (w ∷ ws) r h e = ap rights_of (split_join 44 w ws h.0 h.1) ∙ e

-- The words that rights are written as name these rights, where there are some.
pub rights_read : (r : RightSet) → r ≢ no_rights → IsRightsText (text_of r) r
rights_read r some =
    rights_joined (words_of r) r (words_lack 44 refl (filter (has r) all_rights)) (words_are_read_back_lem r some)
