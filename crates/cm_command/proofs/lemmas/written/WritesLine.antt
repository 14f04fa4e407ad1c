-- A command in the grammar is written as a line that asks for it.
use Rattle.std.proofs.Common.{◌≡◌, ℕ, suc, ◌+◌, ◌-◌, ◌*◌, ◌/◌, ◌%◌, ◌<◌, ◌≤◌, ◌^◌, List, [], ◌∷◌, ◌++◌, flat_map, Bool, true, false, ◌==◌, cond, Option, Some, None, All, IsTrue, codes, decimal, refl, sym, subst, ◌∙◌, arith, rules, append_assoc}
use Rattle.std.specs.Str.{bytes_eq}
use Rattle.std.specs.List.{join_with_byte}
use Rattle.std.proofs.lemmas.Fmt.{decimal_by_steps}
use Rattle.std.proofs.lemmas.Slice.Eq.{bytes_eq-Decides}
use Rattle.std.proofs.lemmas.List.Elements.{All-nil, All-append}
use Rattle.cm_names.specs.declared.availability.Availability.{Availability}
use Rattle.cm_names.specs.declared.availability.Availability.TheVariants as availability
use Rattle.cm_names.specs.declared.dependency.Dependency.{Dependency}
use Rattle.cm_names.specs.declared.dependency.Dependency.TheVariants as dependency
use Rattle.cm_names.specs.Name.{IsName}
use Rattle.cm_names.specs.Rights.{RightSet, text_of}
use Rattle.cm_names.proofs.lemmas.texts.MonikerParts.{writes_its_text_lem}
use Rattle.cm_decl.specs.declared.kind.Kind.{Kind}
use Rattle.cm_decl.specs.declared.kind.Kind.TheVariants as kind
use Rattle.cm_decl.specs.declared.origin.Origin.{Origin}
use Rattle.cm_decl.specs.declared.origin.Origin.TheVariants as origin
use Rattle.cm_decl.specs.declared.rows.Give.{Give}
use Rattle.cm_world.specs.declared.event.Target.{Target}
use Rattle.cm_world.specs.declared.event.Target.TheVariants as target
use Rattle.cm_command.specs.declared.command.Command.{Command}
use Rattle.cm_command.specs.declared.command.Command.TheVariants as command
use Rattle.cm_command.specs.Numbers.{is_digit, IsNumberText, value_behind}
use Rattle.cm_command.specs.Words.{IsTargetText, IsOriginText}
use Rattle.cm_command.specs.Grammar.{LineBytes, CommandText, CommandWords, Groups, HasAdditions, AddsWord, plain_give}
use Rattle.cm_command.specs.Written.{target_text, origin_text, target_word, rights_word, subdir_word, dependency_word, availability_word, give_words, IsTarget, IsWritableOrigin, HasParts, IsWritableGive}
use Rattle.cm_command.specs.WrittenInside.{WritesItsLine}
use Rattle.cm_command.proofs.lemmas.bytes.Pieces.{Lacks, value_snoc}
use Rattle.cm_command.proofs.lemmas.counts.NumberCounts.{decimal_more}
use Rattle.cm_command.proofs.lemmas.scripts.Lane.{decimal_lacks}
use Rattle.cm_command.proofs.lemmas.line.SpacelessWords.{kind_lacks, target_lacks, origin_lacks, url_lacks}
use Rattle.cm_command.proofs.lemmas.written.Written.{AllLack, split_join, all_lack-append, lacks_by, name_lacks, path_lacks, subdir_lacks, rights_lack, rights_read}

-- ---- numbers

-- A byte that stands a number below ten above the first digit is a digit.
digit_of : (n : ℕ) → n < 10 → is_digit (48 + n) ≡ true
digit_of n h = grind (arith, rules)

-- The digit of a number below ten is the text of that number.
one_digit : (n : ℕ) → n < 10 → IsNumberText ((48 + n) ∷ []) n
one_digit n h = ((digit_of n h, All-nil (λ b. IsTrue (is_digit b)), λ e. refl), omega arith)

-- The text of a number's tenth with its last digit more is the text of the number.
more_digits : (n : ℕ) (ds : List ℕ) → 10 ≤ n → IsNumberText ds (n / 10) → IsNumberText (ds ++ (48 + n % 10) ∷ []) n
more_digits n ds large h =
    let rest : n % 10 < 10 = omega arith in
    let value : value_behind 0 ds * 10 + (48 + n % 10 - 48) ≡ n = omega (arith, h.1) in
    (decimal_more ds (48 + n % 10) h.0 (λ e. absurd (omega (arith, h.1, e))) (digit_of (n % 10) rest), value_snoc 0 ds (48 + n % 10) ∙ value)

-- The decimal digits of a number of 64 bits are the text of that number.
pub decimal_is : (n : ℕ) → n < 2 ^ 64 → IsNumberText (decimal n) n
decimal_is n h = decimal_by_steps (λ m ds. IsNumberText ds m) one_digit more_digits n h

-- ---- targets and origins

-- The text of a proper target states that target.
target_reads : (a : Target) → IsTarget a → IsTargetText (target_text a) a
target_reads (target.Named m) h = (writes_its_text_lem m h.0, h.1)
target_reads (target.Inc n) h = (decimal n, refl, decimal_is n h, h)

-- The text of a proper target has no space.
target_text_lacks : (a : Target) → IsTarget a → Lacks 32 (target_text a)
target_text_lacks a h = target_lacks (target_text a) a (target_reads a h)

-- The text of an origin that can be written states that origin.
origin_reads : (o : Origin) → IsWritableOrigin o → IsOriginText (origin_text o) o
origin_reads origin.Parent h = refl
origin_reads origin.Own h = refl
origin_reads origin.Framework h = refl
origin_reads origin.Void h = refl
origin_reads (origin.Child c) h = (h, refl)

-- The text of an origin that can be written has no space.
origin_text_lacks : (o : Origin) → IsWritableOrigin o → Lacks 32 (origin_text o)
origin_text_lacks o h = origin_lacks (origin_text o) o (origin_reads o h)

-- ---- groups: what each addition sets, from the last to the first

-- The offer that is made of these parts.
abbrev give_of : Kind → LineBytes → Origin → LineBytes → Option RightSet → Option LineBytes → Dependency → Availability → Give
give_of k n o t r s d a =
    record { kind = k; source_name = n; from = o; target_name = t; rights = r; subdir = s; dependency = d; availability = a }

-- The word for an availability, if there is one, adds it to an offer that has all else.
with_availability : (m : ℕ) → m ≤ 4 → (k : Kind) (n : LineBytes) (o : Origin) (t : LineBytes) (r : Option RightSet) (s : Option LineBytes) (d : Dependency) (a : Availability) (ws : List LineBytes) (gs : List Give) → Groups ws gs → HasAdditions m (give_of k n o t r s d availability.Required) (availability_word a ++ ws) (give_of k n o t r s d a ∷ gs)
with_availability m le k n o t r s d availability.Required ws gs h = HasAdditions.whole h
with_availability m le k n o t r s d availability.Optional ws gs h = HasAdditions.addition le AddsWord.optional (HasAdditions.whole h)
with_availability m le k n o t r s d availability.Transitional ws gs h = HasAdditions.addition le AddsWord.transitional (HasAdditions.whole h)
with_availability m le k n o t r s d availability.SameAsTarget ws gs h = HasAdditions.addition le AddsWord.same_as_target (HasAdditions.whole h)

-- The words for dependency and availability add both to an offer.
with_dependency : (m : ℕ) → m ≤ 3 → (k : Kind) (n : LineBytes) (o : Origin) (t : LineBytes) (r : Option RightSet) (s : Option LineBytes) (d : Dependency) (a : Availability) (ws : List LineBytes) (gs : List Give) → Groups ws gs → HasAdditions m (give_of k n o t r s dependency.Strong availability.Required) (dependency_word d ++ (availability_word a ++ ws)) (give_of k n o t r s d a ∷ gs)
with_dependency m le k n o t r s dependency.Strong a ws gs h = with_availability m (omega arith) k n o t r s dependency.Strong a ws gs h
with_dependency m le k n o t r s dependency.Weak a ws gs h =
    HasAdditions.addition le AddsWord.weak (with_availability (3 + 1) (omega arith) k n o t r s dependency.Weak a ws gs h)

-- The words for a subdirectory, a dependency and an availability add them to an offer.
with_subdir : (m : ℕ) → m ≤ 2 → (k : Kind) (n : LineBytes) (o : Origin) (t : LineBytes) (r : Option RightSet) (s : Option LineBytes) (d : Dependency) (a : Availability) (ws : List LineBytes) (gs : List Give) → HasParts k r s → Groups ws gs → HasAdditions m (give_of k n o t r None dependency.Strong availability.Required) (subdir_word s ++ (dependency_word d ++ (availability_word a ++ ws))) (give_of k n o t r s d a ∷ gs)
with_subdir m le k n o t r None d a ws gs p h = with_dependency m (omega arith) k n o t r None d a ws gs h
with_subdir m le kind.Protocol n o t r (Some s) d a ws gs p h = absurd (cc p.1)
with_subdir m le kind.Directory n o t r (Some s) d a ws gs p h =
    HasAdditions.addition le (AddsWord.subdir refl p.1) (with_dependency (2 + 1) (omega arith) kind.Directory n o t r (Some s) d a ws gs h)

-- The words for rights, a subdirectory, a dependency and an availability add them to an offer.
with_rights : (m : ℕ) → m ≤ 1 → (k : Kind) (n : LineBytes) (o : Origin) (t : LineBytes) (r : Option RightSet) (s : Option LineBytes) (d : Dependency) (a : Availability) (ws : List LineBytes) (gs : List Give) → HasParts k r s → Groups ws gs → HasAdditions m (give_of k n o t None None dependency.Strong availability.Required) (rights_word r ++ (subdir_word s ++ (dependency_word d ++ (availability_word a ++ ws)))) (give_of k n o t r s d a ∷ gs)
with_rights m le k n o t None s d a ws gs p h = with_subdir m (omega arith) k n o t None s d a ws gs p h
with_rights m le kind.Protocol n o t (Some r) s d a ws gs p h = absurd (cc p.0)
with_rights m le kind.Directory n o t (Some r) s d a ws gs p h =
    HasAdditions.addition le (AddsWord.rights refl (rights_read r p.0)) (with_subdir (1 + 1) (omega arith) kind.Directory n o t (Some r) s d a ws gs p h)

-- Texts that compare as equal are the same.
bytes_eq-true : (t n : LineBytes) → bytes_eq t n ≡ true → t ≡ n
bytes_eq-true t n e = search (rules, bytes_eq-Decides)

-- The word for a target name that differs, and those after it, add what they say to an offer.
with_target : (b : Bool) (k : Kind) (n : LineBytes) (o : Origin) (t : LineBytes) (r : Option RightSet) (s : Option LineBytes) (d : Dependency) (a : Availability) (ws : List LineBytes) (gs : List Give) → bytes_eq t n ≡ b → IsName t → HasParts k r s → Groups ws gs → HasAdditions 0 (give_of k n o n None None dependency.Strong availability.Required) (cond b [] ((codes "as=" ++ t) ∷ []) ++ (rights_word r ++ (subdir_word s ++ (dependency_word d ++ (availability_word a ++ ws))))) (give_of k n o t r s d a ∷ gs)
with_target true k n o t r s d a ws gs e name p h =
    subst (λ x. HasAdditions 0 (give_of k n o x None None dependency.Strong availability.Required) (rights_word r ++ (subdir_word s ++ (dependency_word d ++ (availability_word a ++ ws)))) (give_of k n o t r s d a ∷ gs)) (bytes_eq-true t n e) (with_rights 0 (omega arith) k n o t r s d a ws gs p h)
with_target false k n o t r s d a ws gs e name p h =
    HasAdditions.addition (omega arith) (AddsWord.target name) (with_rights (0 + 1) (omega arith) k n o t r s d a ws gs p h)

-- The words of an offer that can be written are read as a group that tells it.
group_reads : (g : Give) (ws : List LineBytes) (gs : List Give) → IsWritableGive g → Groups ws gs → Groups (give_words g ++ ws) (g ∷ gs)
group_reads g ws gs h rest =
    Groups.group h.source_name (origin_reads g.from h.from) (subst (λ x. HasAdditions 0 (plain_give g.kind g.source_name g.from) x (g ∷ gs)) (sym (simp append_assoc)) (with_target (bytes_eq g.target_name g.source_name) g.kind g.source_name g.from g.target_name g.rights g.subdir g.dependency g.availability ws gs refl h.target_name h.parts rest))

-- The words of offers that can be written are read as groups that tell them.
groups_read : (gs : List Give) → All IsWritableGive gs → Groups (flat_map give_words gs) gs
groups_read [] h = Groups.no_group
groups_read (g ∷ gs) h =
    group_reads g (flat_map give_words gs) gs (h 0 g (omega arith)) (groups_read gs (λ k d lt. h (suc k) d (omega arith)))

-- ---- no word of a group has a space

-- The word for a target name, where there is one, has no space.
target_word_lacks : (b : Bool) (t : LineBytes) → IsName t → AllLack 32 (cond b [] ((codes "as=" ++ t) ∷ []))
target_word_lacks true t h = tt
target_word_lacks false t h =
    (All-append (λ b. (b == 32) ≡ false) (codes "as=") t (lacks_by 32 (codes "as=") refl) (name_lacks 32 refl t h), tt)

-- The word for rights, where there is one, has no space.
rights_word_lacks : (r : Option RightSet) → AllLack 32 (rights_word r)
rights_word_lacks None = tt
rights_word_lacks (Some r) =
    (All-append (λ b. (b == 32) ≡ false) (codes "rights=") (text_of r) (lacks_by 32 (codes "rights=") refl) (rights_lack r), tt)

-- The word for a subdirectory, where there is one, has no space.
subdir_word_lacks : (k : Kind) (r : Option RightSet) (s : Option LineBytes) → HasParts k r s → AllLack 32 (subdir_word s)
subdir_word_lacks k r None h = tt
subdir_word_lacks kind.Protocol r (Some s) h = absurd (cc h.1)
subdir_word_lacks kind.Directory r (Some s) h =
    (All-append (λ b. (b == 32) ≡ false) (codes "subdir=") s (lacks_by 32 (codes "subdir=") refl) (subdir_lacks s h.1), tt)

-- The word for a dependency, where there is one, has no space.
dependency_word_lacks : (d : Dependency) → AllLack 32 (dependency_word d)
dependency_word_lacks dependency.Strong = tt
dependency_word_lacks dependency.Weak = (lacks_by 32 (codes "weak") refl, tt)

-- The word for an availability, where there is one, has no space.
availability_word_lacks : (a : Availability) → AllLack 32 (availability_word a)
availability_word_lacks availability.Required = tt
availability_word_lacks availability.Optional = (lacks_by 32 (codes "optional") refl, tt)
availability_word_lacks availability.Transitional = (lacks_by 32 (codes "transitional") refl, tt)
availability_word_lacks availability.SameAsTarget = (lacks_by 32 (codes "same_as_target") refl, tt)

-- No word of an offer that can be written has a space.
give_lacks : (g : Give) → IsWritableGive g → AllLack 32 (give_words g)
give_lacks g h =
    (lacks_by 32 (codes "+") refl, (kind_lacks g.kind, (name_lacks 32 refl g.source_name h.source_name, (origin_text_lacks g.from h.from, all_lack-append 32 (target_word g) _ (target_word_lacks (bytes_eq g.target_name g.source_name) g.target_name h.target_name) (all_lack-append 32 (rights_word g.rights) _ (rights_word_lacks g.rights) (all_lack-append 32 (subdir_word g.subdir) _ (subdir_word_lacks g.kind g.rights g.subdir h.parts) (all_lack-append 32 (dependency_word g.dependency) (availability_word g.availability) (dependency_word_lacks g.dependency) (availability_word_lacks g.availability))))))))

-- No word of offers that can be written has a space.
gives_lack : (gs : List Give) → All IsWritableGive gs → AllLack 32 (flat_map give_words gs)
gives_lack [] h = tt
gives_lack (g ∷ gs) h =
    all_lack-append 32 (give_words g) (flat_map give_words gs) (give_lacks g (h 0 g (omega arith))) (gives_lack gs (λ k d lt. h (suc k) d (omega arith)))

-- ---- commands

-- words of which none has a space are the words of the line
as_line : (w : LineBytes) (ws : List LineBytes) (c : Command) → Lacks 32 w → AllLack 32 ws → CommandWords (w ∷ ws) c → CommandText (join_with_byte 32 (w ∷ ws)) c
as_line w ws c h t is = subst (λ x. CommandWords x c) (sym (split_join 32 w ws h t)) is

-- The line that a command in the grammar is written as asks for it.
pub writes_its_line_lem : WritesItsLine
writes_its_line_lem (command.Resolve a) h = as_line (codes "resolve") _ _ (lacks_by 32 (codes "resolve") refl) (target_text_lacks a h, tt) (CommandWords.resolve (target_reads a h))
writes_its_line_lem (command.Start a) h = as_line (codes "start") _ _ (lacks_by 32 (codes "start") refl) (target_text_lacks a h, tt) (CommandWords.start (target_reads a h))
writes_its_line_lem (command.Stop a) h = as_line (codes "stop") _ _ (lacks_by 32 (codes "stop") refl) (target_text_lacks a h, tt) (CommandWords.stop (target_reads a h))
writes_its_line_lem (command.Shutdown a) h = as_line (codes "shutdown") _ _ (lacks_by 32 (codes "shutdown") refl) (target_text_lacks a h, tt) (CommandWords.shutdown (target_reads a h))
writes_its_line_lem (command.Create a coll name url gives) h =
    as_line (codes "create") _ _ (lacks_by 32 (codes "create") refl) (target_text_lacks a h.0, (name_lacks 32 refl coll h.1, (name_lacks 32 refl name h.2, (url_lacks url h.3, gives_lack gives h.4)))) (CommandWords.create (target_reads a h.0) h.1 h.2 h.3 (groups_read gives h.4))
writes_its_line_lem (command.Destroy a) h = as_line (codes "destroy") _ _ (lacks_by 32 (codes "destroy") refl) (target_text_lacks a h, tt) (CommandWords.destroy (target_reads a h))
writes_its_line_lem (command.ListChildren a coll) h = as_line (codes "list") _ _ (lacks_by 32 (codes "list") refl) (target_text_lacks a h.0, (name_lacks 32 refl coll h.1, tt)) (CommandWords.list (target_reads a h.0) h.1)
writes_its_line_lem (command.OpenUse a path) h = as_line (codes "open") _ _ (lacks_by 32 (codes "open") refl) (target_text_lacks a h.0, (path_lacks path h.1, tt)) (CommandWords.open_use (target_reads a h.0) h.1)
writes_its_line_lem (command.OpenExposed a name) h = as_line (codes "open-exposed") _ _ (lacks_by 32 (codes "open-exposed") refl) (target_text_lacks a h.0, (name_lacks 32 refl name h.1, tt)) (CommandWords.open_exposed (target_reads a h.0) h.1)
writes_its_line_lem (command.RouteOf a path) h = as_line (codes "route") _ _ (lacks_by 32 (codes "route") refl) (target_text_lacks a h.0, (path_lacks path h.1, tt)) (CommandWords.route_of (target_reads a h.0) h.1)
writes_its_line_lem (command.Doctor a) h = as_line (codes "doctor") _ _ (lacks_by 32 (codes "doctor") refl) (target_text_lacks a h, tt) (CommandWords.doctor (target_reads a h))
writes_its_line_lem (command.Show a) h = as_line (codes "show") _ _ (lacks_by 32 (codes "show") refl) (target_text_lacks a h, tt) (CommandWords.show (target_reads a h))
writes_its_line_lem (command.Survey a) h = as_line (codes "survey") _ _ (lacks_by 32 (codes "survey") refl) (target_text_lacks a h, tt) (CommandWords.survey (target_reads a h))
writes_its_line_lem (command.Exited a) h = as_line (codes "exited") _ _ (lacks_by 32 (codes "exited") refl) (target_text_lacks a h, tt) (CommandWords.exited (target_reads a h))
writes_its_line_lem (command.Events a n) h = as_line (codes "events") _ _ (lacks_by 32 (codes "events") refl) (target_text_lacks a h.0, (decimal_lacks (decimal n) (decimal_is n h.1).0, tt)) (CommandWords.events (target_reads a h.0) (decimal_is n h.1) h.1)
