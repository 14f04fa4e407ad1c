-- Parts between slashes, read one by one.
use Rattle.std.proofs.Common.{◌≡◌, ℕ, ◌==◌, List, [], ◌∷◌, ◌++◌, map, length, true, false, true≢false, refl, sym, ap, subst, arith, rules, Bor, ◌∙◌, append_assoc, append-nil}
use Rattle.std.proofs.lemmas.List.{map-append}
use Rattle.std.proofs.lemmas.List.Splits.{slice_split_none, slice_split_at}
use Rattle.cm_names.specs.declared.child.ChildName.{ChildName}
use Rattle.std.proofs.Common.{Option, Some, None, IfSome}
use Rattle.std.proofs.lemmas.List.Elements.{All-cons, All-append}
use Rattle.cm_names.specs.Child.{child_text, in_collection}
use Rattle.cm_names.specs.Name.{IsName}
use Rattle.cm_names.specs.Moniker.{IsChildName}
use Rattle.cm_names.specs.Path.{parts_of}
use Rattle.cm_command.proofs.lemmas.bytes.Pieces.{Lacks}
use Rattle.cm_command.proofs.lemmas.written.Written.{name_lacks}

-- Where a part is the text of a child, the texts of the children with it more have it more.
pushed_text : (seen : List ChildName) (c : ChildName) (part : List ℕ) → part ≡ child_text c → map child_text (seen ++ c ∷ []) ≡ map child_text seen ++ part ∷ []
pushed_text seen c part text = map-append child_text seen (c ∷ []) ∙ ap (λ t. map child_text seen ++ t ∷ []) (sym text)

-- With one part more that a slash ends, the parts that were read and the rest make the same list.
pub parts_further : (all rest part more : List ℕ) (seen : List ChildName) (c : ChildName) → Lacks 47 part → rest ≡ part ++ 47 ∷ more → part ≡ child_text c → map child_text seen ++ parts_of rest ≡ parts_of all → map child_text (seen ++ c ∷ []) ++ parts_of more ≡ parts_of all
parts_further all rest part more seen c clean cut text so_far =
    ap (λ ts. ts ++ parts_of more) (pushed_text seen c part text)
    ∙ append_assoc (map child_text seen) (part ∷ []) (parts_of more)
    ∙ sym (ap (λ ts. map child_text seen ++ ts) (ap parts_of cut ∙ slice_split_at (λ b. b == 47) part 47 more clean refl))
    ∙ so_far

-- With the last part, which no slash ends, the parts that were read are all of them.
pub parts_ended : (all rest part : List ℕ) (seen : List ChildName) (c : ChildName) → Lacks 47 part → rest ≡ part → part ≡ child_text c → map child_text seen ++ parts_of rest ≡ parts_of all → map child_text (seen ++ c ∷ []) ≡ parts_of all
parts_ended all rest part seen c clean cut text so_far =
    pushed_text seen c part text
    ∙ sym (ap (λ ts. map child_text seen ++ ts) (ap parts_of cut ∙ slice_split_none (λ b. b == 47) part clean))
    ∙ so_far

-- a child's name has no slash
no_slash : (coll : Option (List ℕ)) (name : List ℕ) → IfSome coll IsName → IsName name → Lacks 47 (in_collection coll name)
no_slash None name k h = name_lacks 47 refl name h
no_slash (Some coll) name k h =
    All-append (λ b. (b == 47) ≡ false) coll (58 ∷ name) (name_lacks 47 refl coll k) (All-cons (λ b. (b == 47) ≡ false) 58 name refl (name_lacks 47 refl name h))

-- one name more, which the bytes begin with
pub child_further : (all rest behind more : List ℕ) (seen : List ChildName) (c : ChildName) → IsChildName c → rest ≡ child_text c ++ behind → behind ≡ 47 ∷ more → map child_text seen ++ parts_of rest ≡ parts_of all → map child_text (seen ++ c ∷ []) ++ parts_of more ≡ parts_of all
child_further all rest behind more seen c h cut slash so_far =
    parts_further all rest (child_text c) more seen c (no_slash c.coll c.name h.1 h.0) (cut ∙ ap (λ t. child_text c ++ t) slash) refl so_far

-- the last name, which the bytes are
pub child_ended : (all rest behind : List ℕ) (seen : List ChildName) (c : ChildName) → IsChildName c → rest ≡ child_text c ++ behind → behind ≡ [] → map child_text seen ++ parts_of rest ≡ parts_of all → map child_text (seen ++ c ∷ []) ≡ parts_of all
child_ended all rest behind seen c h cut end so_far =
    parts_ended all rest (child_text c) seen c (no_slash c.coll c.name h.1 h.0) (cut ∙ ap (λ t. child_text c ++ t) end ∙ append-nil (child_text c)) refl so_far

-- what a child's name and the bytes behind it are of some bytes, where they were found
pub child_cut : (rest : List ℕ) (found : Option (ChildName × Bor (List ℕ))) (child : ChildName) (behind : Bor (List ℕ)) → found ≡ Some (child, behind) → IfSome found (λ cut. IsChildName cut.0 × (rest ≡ child_text cut.0 ++ cut.1.now)) → IsChildName child × (rest ≡ child_text child ++ behind.now)
child_cut rest found child behind e h =
    subst (λ found. IfSome found (λ cut. IsChildName cut.0 × (rest ≡ child_text cut.0 ++ cut.1.now))) e h

-- bytes of which there are none
pub nothing : (xs : List ℕ) → true ≡ (length xs == 0) → xs ≡ []
nothing [] h = refl
nothing (x ∷ xs) h =
    let some : (length (x ∷ xs) == 0) ≡ false = grind (arith, rules) in
    absurd (true≢false (h ∙ some))
