-- The words of a line: what each says is one thing, none has a space, and each can be followed.
use Rattle.std.proofs.Common.{◌≡◌, inl, inr, ⊎_elim, ℕ, ◌+◌, List, [], ◌∷◌, ◌++◌, drop, get_or, false, true≢false, ◌==◌, if◌then◌else◌, Option, Some, None, IfSome, Result, Ok, Err, IsTrue, codes, refl, sym, ap, subst, ◌∙◌, arith}
use Rattle.std.specs.Str.{bytes_eq}
use Rattle.std.specs.List.{slice_split, find}
use Rattle.std.proofs.lemmas.Option.{none-some}
use Rattle.std.proofs.lemmas.List.Splits.{slice_split_none, slice_split_at}
use Rattle.std.proofs.lemmas.List.Elements.{All-cons, All-nil}
use Rattle.cm_names.specs.declared.availability.Availability.TheVariants as availability
use Rattle.cm_names.specs.declared.dependency.Dependency.TheVariants as dependency
use Rattle.cm_names.specs.declared.child.ChildName.{ChildName}
use Rattle.cm_names.specs.declared.moniker.Moniker.{Moniker}
use Rattle.cm_names.specs.declared.grammar.MonikerState.TheVariants.{Start}
use Rattle.cm_names.specs.declared.rights.RightsFault.{RightsFault}
use Rattle.cm_names.specs.Name.{IsName, continues_name}
use Rattle.cm_names.specs.Child.{in_collection}
use Rattle.cm_names.specs.Moniker.{IsChildName, IsMonikerTextOf}
use Rattle.cm_names.specs.Rights.{RightSet, rights_of, rights_of_word, no_rights, union, reading}
use Rattle.cm_names.proofs.lemmas.prefixes.Prefixes.{onward}
use Rattle.cm_names.proofs.lemmas.prefixes.MonikerGrammar.{moniker_accepted}
use Rattle.cm_names.proofs.lemmas.texts.MonikerParts.{reads_one_way_lem as moniker_one_way}
use Rattle.cm_decl.specs.declared.kind.Kind.{Kind}
use Rattle.cm_decl.specs.declared.kind.Kind.TheVariants as kind
use Rattle.cm_decl.specs.declared.origin.Origin.{Origin}
use Rattle.cm_decl.specs.declared.origin.Origin.TheVariants as origin
use Rattle.cm_decl.specs.declared.rows.Give.{Give}
use Rattle.cm_decl.specs.Words.{kind_word}
use Rattle.cm_world.specs.declared.event.Target.{Target}
use Rattle.cm_world.specs.declared.event.Target.TheVariants as target
use Rattle.cm_command.specs.declared.place.Verb.{Verb}
use Rattle.cm_command.specs.declared.place.Verb.TheVariants as verb
use Rattle.cm_command.specs.declared.place.ParsedLine.{ParsedLine}
use Rattle.cm_command.specs.declared.place.Creation.{Creation}
use Rattle.cm_command.specs.declared.place.LineState.{LineState}
use Rattle.cm_command.specs.declared.place.LineState.TheVariants as place
use Rattle.cm_command.specs.declared.command.Command.TheVariants as command
use Rattle.cm_command.specs.Numbers.{is_digit, IsNumberText, value_behind}
use Rattle.cm_names.specs.Urls.{is_url_byte}
use Rattle.cm_command.specs.Words.{IsUrlText, IsTargetText, IsOriginText, IsRightsText}
use Rattle.cm_command.specs.Grammar.{LineBytes, AddsWord, plain_give}
use Rattle.cm_command.specs.Places.{verb_word, verbs, asks, behind_target, behind_builtin, directory_of, provides, with_give, WordLeads, EndsLine, created}
use Rattle.cm_command.proofs.lemmas.bytes.Pieces.{Lacks}
use Rattle.cm_command.proofs.lemmas.line.Machine.{IsMachine, GoesOn, says_word, says_more}
use Rattle.cm_command.specs.Pieces.{PiecesLead}
use Rattle.cm_command.proofs.lemmas.scripts.Lane.{decimal_lacks}
use Rattle.cm_command.proofs.lemmas.line.SpacelessWords.{lacks_same, lacks_prefix, verb_lacks, kind_lacks, target_lacks, origin_lacks, url_lacks, rights_lack}
use Rattle.cm_command.proofs.lemmas.written.Written.{lacks_by, name_lacks, path_lacks, subdir_lacks}

-- ---- what a word says is a function of it

-- The verb that a word is, or none.
abbrev verb_of : LineBytes → Option Verb
verb_of w = find (λ v. bytes_eq w (verb_word v)) verbs

-- The verb found for a verb's word is that verb.
verb_found : (v : Verb) → verb_of (verb_word v) ≡ Some v
verb_found verb.Resolve = refl
verb_found verb.Start = refl
verb_found verb.Stop = refl
verb_found verb.Shutdown = refl
verb_found verb.Create = refl
verb_found verb.Destroy = refl
verb_found verb.List = refl
verb_found verb.Open = refl
verb_found verb.OpenExposed = refl
verb_found verb.Route = refl
verb_found verb.Doctor = refl
verb_found verb.Show = refl
verb_found verb.Survey = refl
verb_found verb.Exited = refl
verb_found verb.Events = refl

-- No two verbs have the same word.
verb_one : (v u : Verb) → verb_word v ≡ verb_word u → v ≡ u
verb_one v u e =
    let same : Some v ≡ Some u = sym (verb_found v) ∙ ap verb_of e ∙ verb_found u in
    cc same

-- The kind that a word is: a protocol where it says so, a directory otherwise.
abbrev kind_of : LineBytes → Kind
kind_of w = if bytes_eq w (codes "protocol") then kind.Protocol else kind.Directory

-- The kind found for a kind's word is that kind.
kind_found : (k : Kind) → k ≡ kind_of (kind_word k)
kind_found kind.Protocol = refl
kind_found kind.Directory = refl

-- No two kinds have the same word.
kind_one : (k l : Kind) → kind_word k ≡ kind_word l → k ≡ l
kind_one k l e = kind_found k ∙ ap kind_of e ∙ sym (kind_found l)

-- The child that the parts of a word between colons name.
abbrev child_of : List LineBytes → ChildName
child_of [] = record { coll = None; name = [] }
child_of (name ∷ []) = record { coll = None; name = name }
child_of (coll ∷ name ∷ more) = record { coll = Some coll; name = name }

-- The child found for a name, with or without a collection, is the one that was written.
child_found : (coll : Option LineBytes) (name : LineBytes) → IsName name → IfSome coll IsName → child_of (slice_split (λ b. b == 58) (in_collection coll name)) ≡ record { coll = coll; name = name }
child_found None name h g = ap child_of (slice_split_none (λ b. b == 58) name (name_lacks 58 refl name h))
child_found (Some coll) name h g =
    ap child_of (slice_split_at (λ b. b == 58) coll 58 name (name_lacks 58 refl coll g) refl ∙ ap (λ x. coll ∷ x) (slice_split_none (λ b. b == 58) name (name_lacks 58 refl name h)))

-- The origin that a word is.
abbrev origin_of : LineBytes → Origin
origin_of w =
    if bytes_eq w (codes "parent") then origin.Parent
    else if bytes_eq w (codes "self") then origin.Own
    else if bytes_eq w (codes "framework") then origin.Framework
    else if bytes_eq w (codes "void") then origin.Void
    else origin.Child (child_of (slice_split (λ b. b == 58) (drop 1 w)))

-- The origin found for a word that states one is that origin.
origin_found : (w : LineBytes) (o : Origin) → IsOriginText w o → o ≡ origin_of w
origin_found w origin.Parent h = ap origin_of (sym h)
origin_found w origin.Own h = ap origin_of (sym h)
origin_found w origin.Framework h = ap origin_of (sym h)
origin_found w origin.Void h = ap origin_of (sym h)
origin_found w (origin.Child c) h =
    sym (ap origin.Child (child_found c.coll c.name h.0.0 h.0.1)) ∙ ap origin_of (sym h.1)

-- A word states one origin at most.
origin_one : (w : LineBytes) (o p : Origin) → IsOriginText w o → IsOriginText w p → o ≡ p
origin_one w o p h g = origin_found w o h ∙ sym (origin_found w p g)

-- no moniker begins with `@`
no_at : (w digits : LineBytes) (m : Moniker) → w ≡ 64 ∷ digits → IsMonikerTextOf w m → ⊥
no_at w digits m e h =
    let on = onward Start 64 digits (moniker_accepted (64 ∷ digits) m (subst (λ t. IsMonikerTextOf t m) e h)) in
    none-some on.place on.is

-- A word states one target at most.
target_one : (w : LineBytes) (a b : Target) → IsTargetText w a → IsTargetText w b → a ≡ b
target_one w (target.Named m) (target.Named n) h g = ap target.Named (moniker_one_way w m n h.0 g.0)
target_one w (target.Named m) (target.Inc n) h g = absurd (no_at w g.0 m g.1 h.0)
target_one w (target.Inc n) (target.Named m) h g = absurd (no_at w h.0 m h.1 g.0)
target_one w (target.Inc n) (target.Inc k) h g =
    let digits : h.0 ≡ g.0 = ap (drop 1) (sym h.1 ∙ g.1) in
    ap target.Inc (sym h.2.1 ∙ ap (value_behind 0) digits ∙ g.2.1)

-- A word states one set of rights at most.
rights_one : (w : LineBytes) (r s : RightSet) → IsRightsText w r → IsRightsText w s → r ≡ s
rights_one w r s h g =
    let same : Ok r ≡ Ok s = sym h ∙ g in
    cc same

-- the place of an addition in the order of what a group may add, which its second byte tells
abbrev order_of : LineBytes → ℕ
order_of w =
    let b = get_or w 1 0 in
    if b == 115 then 0
    else if b == 105 then 1
    else if b == 117 then 2
    else if b == 101 then 3
    else 4

-- The place of an addition in the order of additions is told by its word.
order_found : {m : ℕ} {w : LineBytes} {g h : Give} → AddsWord m w g h → m ≡ order_of w
order_found (AddsWord.target is) = refl
order_found (AddsWord.rights dir is) = refl
order_found (AddsWord.subdir dir is) = refl
order_found AddsWord.weak = refl
order_found AddsWord.optional = refl
order_found AddsWord.transitional = refl
order_found AddsWord.same_as_target = refl

-- The rights that were read, or none where there is a fault.
abbrev rights_or_none : Result RightSet RightsFault → RightSet
rights_or_none (Ok r) = r
rights_or_none (Err e) = no_rights

-- what an addition makes of a give
abbrev added_to : LineBytes → Give → Give
added_to w g =
    let b = get_or w 1 0 in
    if b == 115 then record g { target_name = drop 3 w }
    else if b == 105 then record g { rights = Some (rights_or_none (rights_of (slice_split (λ b. b == 44) (drop 7 w)))) }
    else if b == 117 then record g { subdir = Some (drop 7 w) }
    else if b == 101 then record g { dependency = dependency.Weak }
    else if b == 112 then record g { availability = availability.Optional }
    else if b == 114 then record g { availability = availability.Transitional }
    else record g { availability = availability.SameAsTarget }

-- An offer with an addition is told by the addition's word and the offer.
added_found : {m : ℕ} {w : LineBytes} {g h : Give} → AddsWord m w g h → h ≡ added_to w g
added_found (AddsWord.target is) = refl
added_found {g = g} (AddsWord.rights dir is) = ap (λ r. record g { rights = Some (rights_or_none r) }) (sym is)
added_found (AddsWord.subdir dir is) = refl
added_found AddsWord.weak = refl
added_found AddsWord.optional = refl
added_found AddsWord.transitional = refl
added_found AddsWord.same_as_target = refl

-- `+` begins no addition
no_plus : {m : ℕ} {w : LineBytes} {g h : Give} → AddsWord m w g h → w ≡ codes "+" → ⊥
no_plus a e = true≢false (sym (ap (λ t. get_or t 0 0 == 43) e) ∙ not_plus a)
  where
    not_plus : {m : ℕ} {w : LineBytes} {g h : Give} → AddsWord m w g h → (get_or w 0 0 == 43) ≡ false
    not_plus (AddsWord.target is) = refl
    not_plus (AddsWord.rights dir is) = refl
    not_plus (AddsWord.subdir dir is) = refl
    not_plus AddsWord.weak = refl
    not_plus AddsWord.optional = refl
    not_plus AddsWord.transitional = refl
    not_plus AddsWord.same_as_target = refl

-- ---- a word leads to one place

-- Among additions, a word leads to one place at most.
additions_one : (c : Creation) (g : Give) (n : ℕ) (w : LineBytes) (a b : LineState) → WordLeads (place.Additions c g n) w a → WordLeads (place.Additions c g n) w b → a ≡ b
additions_one c g n w a b (inl h) (inl k) = h.1 ∙ sym k.1
additions_one c g n w a b (inl h) (inr k) = absurd (no_plus k.3 h.0)
additions_one c g n w a b (inr h) (inl k) = absurd (no_plus h.3 k.0)
additions_one c g n w a b (inr h) (inr k) =
    let order : h.0 ≡ k.0 = order_found h.3 ∙ sym (order_found k.3) in
    let give : h.1 ≡ k.1 = added_found h.3 ∙ sym (added_found k.3) in
    h.4 ∙ ap (λ x. place.Additions c x (h.0 + 1)) give ∙ ap (λ m. place.Additions c k.1 (m + 1)) order ∙ sym k.4

-- From each place of a line, a word leads to one place at most.
steps_one_way : (p : LineState) (w : LineBytes) (a b : LineState) → WordLeads p w a → WordLeads p w b → a ≡ b
steps_one_way place.Start w a b h k = h.2 ∙ ap place.Verb (verb_one h.0 k.0 (sym h.1 ∙ k.1)) ∙ sym k.2
steps_one_way (place.Verb v) w a b h k = h.2 ∙ ap (behind_target v) (target_one w h.0 k.0 h.1 k.1) ∙ sym k.2
steps_one_way (place.Listing t) w a b h k = h.1 ∙ sym k.1
steps_one_way (place.Opening t) w a b h k = h.1 ∙ sym k.1
steps_one_way (place.OpeningExposed t) w a b h k = h.1 ∙ sym k.1
steps_one_way (place.Routing t) w a b h k = h.1 ∙ sym k.1
steps_one_way (place.Streaming t) w a b h k =
    h.3 ∙ ap (λ n. asks (command.Events t n)) (sym h.1.1 ∙ k.1.1) ∙ sym k.3
steps_one_way (place.Creating t) w a b h k = h.1 ∙ sym k.1
steps_one_way (place.CreatingIn t coll) w a b h k = h.1 ∙ sym k.1
steps_one_way (place.CreatingNamed t coll name) w a b h k = h.1 ∙ sym k.1
steps_one_way (place.Groups c) w a b h k = h.1 ∙ sym k.1
steps_one_way (place.GroupKind c) w a b h k = h.2 ∙ ap (place.GroupName c) (kind_one h.0 k.0 (sym h.1 ∙ k.1)) ∙ sym k.2
steps_one_way (place.GroupName c l) w a b h k = h.1 ∙ sym k.1
steps_one_way (place.GroupFrom c l name) w a b h k =
    h.2 ∙ ap (λ o. place.Additions c (plain_give l name o) 0) (origin_one w h.0 k.0 h.1 k.1) ∙ sym k.2
steps_one_way (place.Additions c g n) w a b h k = additions_one c g n w a b h k
steps_one_way place.BuiltinKind w a b h k = h.2 ∙ ap place.BuiltinName (kind_one h.0 k.0 (sym h.1 ∙ k.1)) ∙ sym k.2
steps_one_way (place.BuiltinName l) w a b h k = h.1 ∙ sym k.1
steps_one_way (place.BuiltinPath name) w a b h k = h.1 ∙ sym k.1
steps_one_way (place.BuiltinRights name path) w a b h k =
    h.2 ∙ ap (λ r. provides (directory_of name path r)) (rights_one w h.0 k.0 h.1 k.1) ∙ sym k.2
steps_one_way (place.Whole s) w a b h k = absurd h

-- ---- no word has a space

-- The word of an addition has no space.
adds_lack : {m : ℕ} {w : LineBytes} {g h : Give} → AddsWord m w g h → Lacks 32 w
adds_lack (AddsWord.target {name = name} is) = lacks_prefix (codes "as=") name (lacks_by 32 (codes "as=") refl) (name_lacks 32 refl name is)
adds_lack (AddsWord.rights {w = w} {r = r} dir is) = lacks_prefix (codes "rights=") w (lacks_by 32 (codes "rights=") refl) (rights_lack w r is)
adds_lack (AddsWord.subdir {w = w} dir is) = lacks_prefix (codes "subdir=") w (lacks_by 32 (codes "subdir=") refl) (subdir_lacks w is)
adds_lack AddsWord.weak = lacks_by 32 (codes "weak") refl
adds_lack AddsWord.optional = lacks_by 32 (codes "optional") refl
adds_lack AddsWord.transitional = lacks_by 32 (codes "transitional") refl
adds_lack AddsWord.same_as_target = lacks_by 32 (codes "same_as_target") refl

-- A word that leads on from a place has no space.
steps_clean : (p : LineState) (w : LineBytes) (a : LineState) → WordLeads p w a → Lacks 32 w
steps_clean place.Start w a h = lacks_same w (verb_word h.0) h.1 (verb_lacks h.0)
steps_clean (place.Verb v) w a h = target_lacks w h.0 h.1
steps_clean (place.Listing t) w a h = name_lacks 32 refl w h.0
steps_clean (place.Opening t) w a h = path_lacks w h.0
steps_clean (place.OpeningExposed t) w a h = name_lacks 32 refl w h.0
steps_clean (place.Routing t) w a h = path_lacks w h.0
steps_clean (place.Streaming t) w a h = decimal_lacks w h.1.0
steps_clean (place.Creating t) w a h = name_lacks 32 refl w h.0
steps_clean (place.CreatingIn t coll) w a h = name_lacks 32 refl w h.0
steps_clean (place.CreatingNamed t coll name) w a h = url_lacks w h.0
steps_clean (place.Groups c) w a h = lacks_same w (codes "+") h.0 (lacks_by 32 (codes "+") refl)
steps_clean (place.GroupKind c) w a h = lacks_same w (kind_word h.0) h.1 (kind_lacks h.0)
steps_clean (place.GroupName c k) w a h = name_lacks 32 refl w h.0
steps_clean (place.GroupFrom c k name) w a h = origin_lacks w h.0 h.1
steps_clean (place.Additions c g n) w a (inl h) = lacks_same w (codes "+") h.0 (lacks_by 32 (codes "+") refl)
steps_clean (place.Additions c g n) w a (inr h) = adds_lack h.3
steps_clean place.BuiltinKind w a h = lacks_same w (kind_word h.0) h.1 (kind_lacks h.0)
steps_clean (place.BuiltinName k) w a h = name_lacks 32 refl w h.0
steps_clean (place.BuiltinPath name) w a h = path_lacks w h.0
steps_clean (place.BuiltinRights name path) w a h = rights_lack w h.0 h.1
steps_clean (place.Whole s) w a h = absurd h

-- ---- each place goes on

-- A line may end at this place, or goes on behind a space.
abbrev Goes : LineState → Type 0
Goes p = GoesOn 32 WordLeads EndsLine p

-- A place from which a word leads to one that goes on goes on itself.
goes_by : (p q : LineState) (w : LineBytes) → WordLeads p w q → Goes q → Goes p
goes_by p q w st h =
    let clean = steps_clean p w q st in
    inr (⊎_elim (λ e. (w, says_word 32 WordLeads EndsLine p q w e.0 clean st e.1)) (λ u. (w ++ 32 ∷ u.0, says_more 32 WordLeads EndsLine p q w u.0 clean st u.1)) h)

-- A line that is whole may end.
whole_goes : (s : ParsedLine) → Goes (place.Whole s)
whole_goes s = inl (s, refl)

-- The text `a` is a name.
pub name_a : IsName (codes "a")
name_a = (omega arith, refl, All-nil (λ c. IsTrue (continues_name c)))

-- The text `a` is a URL.
url_a : IsUrlText (codes "a")
url_a = record { some = omega arith; short = omega arith; bytes = All-cons (λ b. IsTrue (is_url_byte b)) 97 [] refl (All-nil (λ b. IsTrue (is_url_byte b))) }

-- The word `r*` states the rights of reading.
rights_r : IsRightsText (codes "r*") (union reading no_rights)
unfolding rights_of rights_of_word
rights_r = refl

-- The root, named by its moniker.
abbrev pub root : Target
root = target.Named (record { parts = [] })

-- The word `.` names the root.
pub root_dot : IsTargetText (codes ".") root
root_dot = (record { names = All-nil IsChildName; written = inl refl }, omega arith)

-- Behind the name of a child to be created a line goes on.
creating_named_goes : (t : Target) (coll name : LineBytes) → Goes (place.CreatingNamed t coll name)
creating_named_goes t coll name =
    let c : Creation = record { parent = t; coll = coll; name = name; url = codes "a"; gives = [] } in
    goes_by (place.CreatingNamed t coll name) (place.Groups c) (codes "a") (url_a, refl) (inl (created c, refl))

-- Behind the collection of a child to be created a line goes on.
creating_in_goes : (t : Target) (coll : LineBytes) → Goes (place.CreatingIn t coll)
creating_in_goes t coll =
    goes_by (place.CreatingIn t coll) (place.CreatingNamed t coll (codes "a")) (codes "a") (name_a, refl) (creating_named_goes t coll (codes "a"))

-- Behind the target of a `create` a line goes on.
creating_goes : (t : Target) → Goes (place.Creating t)
creating_goes t =
    goes_by (place.Creating t) (place.CreatingIn t (codes "a")) (codes "a") (name_a, refl) (creating_in_goes t (codes "a"))

-- Behind the target of a `list` a line goes on.
listing_goes : (t : Target) → Goes (place.Listing t)
listing_goes t = goes_by (place.Listing t) _ (codes "a") (name_a, refl) (whole_goes _)

-- The text `0` is the number zero.
zero_digit : IsNumberText (codes "0") 0
zero_digit = ((refl, All-nil (λ b. IsTrue (is_digit b)), λ e. refl), refl)

-- Behind the target of an `events` a line goes on.
streaming_goes : (t : Target) → Goes (place.Streaming t)
streaming_goes t = goes_by (place.Streaming t) _ (codes "0") (0, zero_digit, omega arith, refl) (whole_goes _)

-- Behind the target of an `open` a line goes on.
opening_goes : (t : Target) → Goes (place.Opening t)
opening_goes t = goes_by (place.Opening t) _ (codes "/a") (refl, refl) (whole_goes _)

-- Behind the target of an `open-exposed` a line goes on.
opening_exposed_goes : (t : Target) → Goes (place.OpeningExposed t)
opening_exposed_goes t = goes_by (place.OpeningExposed t) _ (codes "a") (name_a, refl) (whole_goes _)

-- Behind the target of a `route` a line goes on.
routing_goes : (t : Target) → Goes (place.Routing t)
routing_goes t = goes_by (place.Routing t) _ (codes "/a") (refl, refl) (whole_goes _)

-- Behind each verb's target a line may end or goes on.
behind_target_goes : (v : Verb) (t : Target) → Goes (behind_target v t)
behind_target_goes verb.Resolve t = whole_goes _
behind_target_goes verb.Start t = whole_goes _
behind_target_goes verb.Stop t = whole_goes _
behind_target_goes verb.Shutdown t = whole_goes _
behind_target_goes verb.Create t = creating_goes t
behind_target_goes verb.Destroy t = whole_goes _
behind_target_goes verb.List t = listing_goes t
behind_target_goes verb.Open t = opening_goes t
behind_target_goes verb.OpenExposed t = opening_exposed_goes t
behind_target_goes verb.Route t = routing_goes t
behind_target_goes verb.Doctor t = whole_goes _
behind_target_goes verb.Show t = whole_goes _
behind_target_goes verb.Survey t = whole_goes _
behind_target_goes verb.Exited t = whole_goes _
behind_target_goes verb.Events t = streaming_goes t

-- Behind each verb a line goes on.
verb_goes : (v : Verb) → Goes (place.Verb v)
verb_goes v =
    goes_by (place.Verb v) (behind_target v root) (codes ".") (root, root_dot, refl) (behind_target_goes v root)

-- Behind the name in a group a line goes on.
group_from_goes : (c : Creation) (k : Kind) (name : LineBytes) → Goes (place.GroupFrom c k name)
group_from_goes c k name =
    let g : Give = plain_give k name origin.Parent in
    goes_by (place.GroupFrom c k name) (place.Additions c g 0) (codes "parent") (origin.Parent, refl, refl) (inl (created (with_give c g), refl))

-- Behind the kind in a group a line goes on.
group_name_goes : (c : Creation) (k : Kind) → Goes (place.GroupName c k)
group_name_goes c k =
    goes_by (place.GroupName c k) (place.GroupFrom c k (codes "a")) (codes "a") (name_a, refl) (group_from_goes c k (codes "a"))

-- Behind the `+` of a group a line goes on.
group_kind_goes : (c : Creation) → Goes (place.GroupKind c)
group_kind_goes c =
    goes_by (place.GroupKind c) (place.GroupName c kind.Protocol) (codes "protocol") (kind.Protocol, refl, refl) (group_name_goes c kind.Protocol)

-- Behind the path of a builtin directory a line goes on.
builtin_rights_goes : (name path : LineBytes) → Goes (place.BuiltinRights name path)
builtin_rights_goes name path =
    goes_by (place.BuiltinRights name path) _ (codes "r*") (union reading no_rights, rights_r, refl) (whole_goes _)

-- Behind the name of a builtin directory a line goes on.
builtin_path_goes : (name : LineBytes) → Goes (place.BuiltinPath name)
builtin_path_goes name =
    goes_by (place.BuiltinPath name) (place.BuiltinRights name (codes "/a")) (codes "/a") (refl, refl) (builtin_rights_goes name (codes "/a"))

-- Behind the name of a builtin capability a line may end or goes on.
behind_builtin_goes : (k : Kind) (name : LineBytes) → Goes (behind_builtin k name)
behind_builtin_goes kind.Protocol name = whole_goes _
behind_builtin_goes kind.Directory name = builtin_path_goes name

-- Behind the kind of a builtin capability a line goes on.
builtin_name_goes : (k : Kind) → Goes (place.BuiltinName k)
builtin_name_goes k =
    goes_by (place.BuiltinName k) (behind_builtin k (codes "a")) (codes "a") (name_a, refl) (behind_builtin_goes k (codes "a"))

-- At each place a line may end or goes on.
place_goes : (p : LineState) → Goes p
place_goes place.Start = goes_by place.Start (place.Verb verb.Show) (codes "show") (verb.Show, refl, refl) (verb_goes verb.Show)
place_goes (place.Verb v) = verb_goes v
place_goes (place.Listing t) = listing_goes t
place_goes (place.Opening t) = opening_goes t
place_goes (place.OpeningExposed t) = opening_exposed_goes t
place_goes (place.Routing t) = routing_goes t
place_goes (place.Streaming t) = streaming_goes t
place_goes (place.Creating t) = creating_goes t
place_goes (place.CreatingIn t coll) = creating_in_goes t coll
place_goes (place.CreatingNamed t coll name) = creating_named_goes t coll name
place_goes (place.Groups c) = inl (created c, refl)
place_goes (place.GroupKind c) = group_kind_goes c
place_goes (place.GroupName c k) = group_name_goes c k
place_goes (place.GroupFrom c k name) = group_from_goes c k name
place_goes (place.Additions c g n) = inl (created (with_give c g), refl)
place_goes place.BuiltinKind =
    goes_by place.BuiltinKind (place.BuiltinName kind.Protocol) (codes "protocol") (kind.Protocol, refl, refl) (builtin_name_goes kind.Protocol)
place_goes (place.BuiltinName k) = builtin_name_goes k
place_goes (place.BuiltinPath name) = builtin_path_goes name
place_goes (place.BuiltinRights name path) = builtin_rights_goes name path
place_goes (place.Whole s) = whole_goes s

-- ---- the machine

-- Each word of a line leads one way, has no space, and leads to where the line ends or goes on.
pub line_machine : IsMachine 32 WordLeads EndsLine
line_machine = record {
  one_way = steps_one_way;
  clean = steps_clean;
  goes = λ p w a st. place_goes a;
}

-- A line that ends at a place says one thing at most.
ends_one_way : (p : LineState) (s t : ParsedLine) → EndsLine p s → EndsLine p t → s ≡ t
ends_one_way (place.Groups c) s t h k = h ∙ sym k
ends_one_way (place.Additions c g n) s t h k = h ∙ sym k
ends_one_way (place.Whole u) s t h k = h ∙ sym k
ends_one_way p s t h k = absurd h

-- words lead to one sentence at most
pub leads_one_way : (ws : List LineBytes) (p : LineState) (s t : ParsedLine) → PiecesLead WordLeads EndsLine p ws s → PiecesLead WordLeads EndsLine p ws t → s ≡ t
leads_one_way [] p s t h k = ends_one_way p s t h k
leads_one_way (w ∷ ws) p s t h k =
    leads_one_way ws h.0 s t h.2 (subst (λ q. PiecesLead WordLeads EndsLine q ws t) (steps_one_way p w k.0 h.0 k.1 h.1) k.2)
