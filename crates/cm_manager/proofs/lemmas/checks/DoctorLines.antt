-- What the turns of a check of all routes come to, and the lines that it gathers.
use Rattle.std.proofs.Common.{◌≡◌, ℕ, List, [], ◌∷◌, ◌++◌, Result, Ok, Err, refl, sym, ap, subst, ◌∙◌, inl, inr, append_assoc, ◌<◌, ◌≤◌, ◌+◌, length, get_or, drop}
use Rattle.std.proofs.lemmas.List.{drop_more, drop_all}
use Rattle.cm_world.specs.declared.answer.Checked.{Checked}
use Rattle.cm_world.specs.declared.answer.Refusal.{Refusal}
use Rattle.cm_world.specs.declared.answer.Refusal.TheVariants as refusal
use Rattle.cm_world.specs.declared.frame.Frame.{Frame}
use Rattle.cm_world.specs.declared.reply.Entry.{Entry}
use Rattle.cm_answers.specs.Lines.{in_prefix}
use Rattle.cm_answers.specs.LinesInside.{AddsLines}
use Rattle.cm_manager.specs.Doctor.{Checks, GathersEach}
use Rattle.cm_manager.specs.DoctorInside.{Gathering}

-- ---- lines

-- Lines put before lines put before an end are put before it all together.
in_prefix_twice : (xs ys : List Checked) (end : Result (List Checked) Refusal) → in_prefix (xs ++ ys) end ≡ in_prefix xs (in_prefix ys end)
in_prefix_twice xs ys (Ok zs) = ap Ok (append_assoc xs ys zs)
in_prefix_twice xs ys (Err x) = refl

-- What a gathering came to is the same with no lines before it.
pub prefix_of_none : (end : Result (List Checked) Refusal) → in_prefix [] end ≡ end
prefix_of_none (Ok lines) = refl
prefix_of_none (Err x) = refl

-- Lines with others before them are what adding them comes to, where memory doesn't run out.
pub adds_of : (lines : List Checked) (more end : Result (List Checked) Refusal) → end ≡ in_prefix lines more → AddsLines lines more end
adds_of lines (Ok new) end is = inl is
adds_of lines (Err x) end is = is

-- ---- items in order

-- an item, and those behind it
pub here_next : {A : Type 0} (items xs : List A) (i : ℕ) (x : A) → items ≡ xs → i < length items → x ≡ get_or items i x → drop i xs ≡ x ∷ drop (i + 1) xs
here_next {A} items xs i x same lt is =
    subst (λ (l : List A). drop i l ≡ x ∷ drop (i + 1) l) same
    (drop_more items i x lt ∙ ap (λ (y : A). y ∷ drop (i + 1) items) (sym is))

-- Behind the last item none is left.
pub none_left : {A : Type 0} (items xs : List A) (i : ℕ) → items ≡ xs → length items ≤ i → drop i xs ≡ []
none_left {A} items xs i same past = subst (λ (l : List A). drop i l ≡ []) same (drop_all i items past)

-- an item has its lines, and the others follow
pub next_gathers : {A : Type 0} (Item : A → Checks) (x : A) (xs : List A) (lines next : List Checked) (h₀ h₁ h₂ : List Entry) (more end : Result (List Checked) Refusal) → Item x h₀ h₁ more → AddsLines lines more (Ok next) → Gathering (GathersEach Item xs) next h₁ h₂ end → Gathering (GathersEach Item (x ∷ xs)) lines h₀ h₂ end
next_gathers Item x xs lines next h₀ h₁ h₂ (Ok new) end item (inl is) rest =
    let same : next ≡ lines ++ new = cc is in
    (in_prefix new rest.0, GathersEach.next_item item rest.1, rest.2 ∙ ap (λ (l : List Checked). in_prefix l rest.0) same ∙ in_prefix_twice lines new rest.0)
next_gathers Item x xs lines next h₀ h₁ h₂ (Ok new) end item (inr is) rest = absurd (cc is)
next_gathers Item x xs lines next h₀ h₁ h₂ (Err e) end item is rest = absurd (cc is)

-- the call ends at an item, or memory is wanting behind it
pub cut_gathers : {A : Type 0} (Item : A → Checks) (x : A) (xs : List A) (lines : List Checked) (h₀ h₁ : List Entry) (more : Result (List Checked) Refusal) (e : Refusal) → Item x h₀ h₁ more → AddsLines lines more (Err e) → Gathering (GathersEach Item (x ∷ xs)) lines h₀ h₁ (Err e)
cut_gathers Item x xs lines h₀ h₁ (Ok new) e item (inl is) = absurd (cc is)
cut_gathers Item x xs lines h₀ h₁ (Ok new) e item (inr is) = (Err refusal.Memory, GathersEach.lost_item item, is)
cut_gathers Item x xs lines h₀ h₁ (Err y) e item is = (Err y, GathersEach.cut_item item, is)

-- items by their rules, for each frame and caller
abbrev pub Items : Type 0 → Type 1
Items A = Frame → ℕ → A → Checks
