-- The places of a moniker's text read the texts of monikers, and no others.
use Rattle.std.proofs.Common.{◌≡◌, ◌⊎◌, inl, inr, ⊎_elim, ℕ, suc, ◌+◌, ◌<◌, ◌≤◌, List, [], ◌∷◌, ◌++◌, length, map, Bool, true, false, true≢false, cond, ◌&&◌, ◌==◌, nat_lt, IsTrue, IfSome, All, Option, Some, None, refl, sym, ap, subst, ◌∙◌, append_assoc, append-nil, arith, rules, eqb-true, ltb-true}
use Rattle.std.specs.List.{join_with_byte}
use Rattle.std.proofs.lemmas.Bool.{and_parts}
use Rattle.std.proofs.lemmas.Option.{none-some}
use Rattle.std.proofs.lemmas.List.Elements.{All-cons, All-nil}
use Rattle.cm_names.specs.declared.child.ChildName.{ChildName}
use Rattle.cm_names.specs.declared.moniker.Moniker.{Moniker}
use Rattle.cm_names.specs.declared.grammar.MonikerState.{MonikerState}
use Rattle.cm_names.specs.declared.grammar.MonikerState.TheVariants.{Start, Whole, Root, Part, First, Colon, Second}
use Rattle.cm_names.specs.Name.{IsName, begins_name, continues_name}
use Rattle.cm_names.specs.Child.{child_text, in_collection}
use Rattle.cm_names.specs.Moniker.{IsChildName, text_of_parts, text_from_root, IsMonikerTextOf}
use Rattle.cm_names.specs.MonikerInside.{IsMonikerText}
use Rattle.cm_names.specs.MonikerStates.{next, may_end, in_name, begin_name}
use Rattle.cm_names.proofs.lemmas.texts.Name.{begins_continues, not_dot}
use Rattle.cm_names.proofs.lemmas.prefixes.Prefixes.{state_after, Accepts, state_after-append, state_after-cons, accepts_from, at_end, onward, IsReadFrom}

-- ---- the parts, each behind its slash

-- The texts of children's names, each behind a slash.
abbrev pub slashed : List ChildName → List ℕ
slashed [] = []
slashed (c ∷ cs) = 47 ∷ (child_text c ++ slashed cs)

-- Names joined by slashes are the text of the first, and those of the others behind slashes.
pub joined_is : (c : ChildName) (cs : List ChildName) → join_with_byte 47 (map child_text (c ∷ cs)) ≡ child_text c ++ slashed cs
joined_is c [] = sym (append-nil (child_text c))
joined_is c (d ∷ ds) = ap (λ t. child_text c ++ 47 ∷ t) (joined_is d ds)

-- each is a child's name
abbrev pub AreChildren : List ChildName → Type 0
AreChildren [] = Unit {0}
AreChildren (c ∷ cs) = IsChildName c × AreChildren cs

-- A list all of whose names are proper ones is a list of children's names.
pub are_children : (cs : List ChildName) → All IsChildName cs → AreChildren cs
are_children [] h = tt
are_children (c ∷ cs) h = (h 0 c (omega arith), are_children cs (λ k d lt. h (suc k) d (omega arith)))

-- All names of a list of children's names are proper ones.
pub all_children : (cs : List ChildName) → AreChildren cs → All IsChildName cs
all_children [] h = All-nil IsChildName
all_children (c ∷ cs) h = All-cons IsChildName c cs h.0 (all_children cs h.1)

-- ---- the bytes of names

-- A byte that may follow in a name is not one that may not.
pub not_at : (b k : ℕ) → IsTrue (continues_name b) → continues_name k ≡ false → (b == k) ≡ false
not_at b k h e = grind (arith, rules)

-- A number below 255 passes the test for being below it.
below_is : (n : ℕ) → n < 255 → nat_lt n 255 ≡ true
below_is n h = grind arith

-- In a name that has room, a byte that continues names leads one place further.
goes_on : (place : ℕ → MonikerState) (n b : ℕ) → IsTrue (continues_name b) → n < 255 → in_name place n b ≡ Some (place (n + 1))
goes_on place n b h lt = rw (not_at b 47 h refl) (rw h (rw (below_is n lt) refl))

-- In a child's first name that has room, a byte that continues names leads one place further.
first_goes_on : (n b : ℕ) → IsTrue (continues_name b) → n < 255 → next (First n) b ≡ Some (First (n + 1))
first_goes_on n b h lt = rw (not_at b 58 h refl) (goes_on First n b h lt)

-- ---- a moniker's text is accepted

-- the rest of a name leads from place to place
rest_leads : (place : ℕ → MonikerState) → ((n b : ℕ) → IsTrue (continues_name b) → n < 255 → next (place n) b ≡ Some (place (n + 1))) → (n : ℕ) (bs : List ℕ) → All (λ c. IsTrue (continues_name c)) bs → n + length bs ≤ 255 → (m : ℕ) × (state_after next (place n) bs ≡ Some (place m))
rest_leads place step n [] h fits = (n, refl)
rest_leads place step n (b ∷ bs) h fits =
    let rest = rest_leads place step (n + 1) bs (λ k d lt. h (suc k) d (omega arith)) (omega arith) in
    (rest.0, state_after-cons next (place n) (place (n + 1)) b bs (step n b (h 0 0 (omega arith)) (omega arith)) ∙ rest.1)

-- A name leads from where one may begin to some place within it.
name_leads : (p : MonikerState) (place : ℕ → MonikerState) → ((b : ℕ) → IsTrue (begins_name b) → next p b ≡ Some (place 1)) → ((n b : ℕ) → IsTrue (continues_name b) → n < 255 → next (place n) b ≡ Some (place (n + 1))) → (t : List ℕ) → IsName t → (m : ℕ) × (state_after next p t ≡ Some (place m))
name_leads p place first step [] h = absurd h
name_leads p place first step (b ∷ bs) h =
    let rest = rest_leads place step 1 bs h.2 (omega arith) in
    (rest.0, state_after-cons next p (place 1) b bs (first b h.1) ∙ rest.1)

-- a child's text leads to a place where a moniker may end or go on behind a slash
record ChildLeads (p : MonikerState) (t : List ℕ) : Type 0 where
  last : MonikerState
  leads : state_after next p t ≡ Some last
  ends : may_end last ≡ true
  goes : next last 47 ≡ Some Part

-- Behind a child's colon, a byte that begins names leads to the first place of the second name.
from_colon : (b : ℕ) → IsTrue (begins_name b) → next Colon b ≡ Some (Second 1)
from_colon b h = rw h refl

-- A name, with or without a collection's, leads as a child's text from where names may begin.
child_leads_by : (p : MonikerState) → ((b : ℕ) → IsTrue (begins_name b) → next p b ≡ Some (First 1)) → (coll : Option (List ℕ)) (name : List ℕ) → IfSome coll IsName → IsName name → ChildLeads p (in_collection coll name)
child_leads_by p first None name _ h =
    let led = name_leads p First first first_goes_on name h in
    record { last = First led.0; leads = led.1; ends = refl; goes = refl }
child_leads_by p first (Some coll) name k h =
    let led = name_leads p First first first_goes_on coll k in
    let more = name_leads Colon Second from_colon (goes_on Second) name h in
    record {
      last = Second more.0;
      leads = state_after-append next p (First led.0) coll (58 ∷ name) led.1 ∙ more.1;
      ends = refl;
      goes = refl;
    }

-- A child's text leads from where names may begin to where a moniker may end or go on.
child_leads : (p : MonikerState) → ((b : ℕ) → IsTrue (begins_name b) → next p b ≡ Some (First 1)) → (c : ChildName) → IsChildName c → ChildLeads p (child_text c)
child_leads p first c h = child_leads_by p first c.coll c.name h.1 h.0

-- Behind a slash, a byte that begins names leads to the first place of a child's first name.
from_part : (b : ℕ) → IsTrue (begins_name b) → next Part b ≡ Some (First 1)
from_part b h = rw h refl

-- Behind the slash of the root, a byte that begins names leads to the first place of a first name.
from_root : (b : ℕ) → IsTrue (begins_name b) → next Root b ≡ Some (First 1)
from_root b h = rw h refl

-- At a text's start, a byte that begins names leads to the first place of a child's first name.
from_start : (b : ℕ) → IsTrue (begins_name b) → next Start b ≡ Some (First 1)
from_start b h = rw (not_dot b h) (rw (not_at b 47 (begins_continues b h) refl) (rw h refl))

-- Children, each behind a slash, are accepted from where a moniker may end or go on at a slash.
slashed_accepted : (p : MonikerState) (cs : List ChildName) → AreChildren cs → may_end p ≡ true → next p 47 ≡ Some Part → Accepts next may_end p (slashed cs)
slashed_accepted p [] h ends goes = record { last = p; leads = refl; ends = ends }
slashed_accepted p (c ∷ cs) h ends goes =
    let led = child_leads Part from_part c h.0 in
    let rest = slashed_accepted led.last cs h.1 led.ends led.goes in
    let whole = accepts_from Part led.last (child_text c) (slashed cs) led.leads rest in
    record {
      last = whole.last;
      leads = state_after-cons next p Part 47 (child_text c ++ slashed cs) goes ∙ whole.leads;
      ends = whole.ends;
    }

-- A child and more, each behind a slash, are accepted from where a name may begin.
parts_accepted : (p : MonikerState) → ((b : ℕ) → IsTrue (begins_name b) → next p b ≡ Some (First 1)) → (c : ChildName) (cs : List ChildName) → IsChildName c → AreChildren cs → Accepts next may_end p (child_text c ++ slashed cs)
parts_accepted p first c cs h k =
    let led = child_leads p first c h in
    accepts_from p led.last (child_text c) (slashed cs) led.leads (slashed_accepted led.last cs k led.ends led.goes)

-- The text of children's parts without a leading slash is accepted from the start.
text_accepted : (cs : List ChildName) → AreChildren cs → Accepts next may_end Start (text_of_parts cs)
text_accepted [] h = record { last = Whole; leads = refl; ends = refl }
text_accepted (c ∷ cs) h =
    subst (Accepts next may_end Start) (sym (joined_is c cs)) (parts_accepted Start from_start c cs h.0 h.1)

-- The text of children's parts behind a leading slash is accepted from the start.
rooted_accepted : (cs : List ChildName) → AreChildren cs → Accepts next may_end Start (text_from_root cs)
rooted_accepted [] h = record { last = Root; leads = refl; ends = refl }
rooted_accepted (c ∷ cs) h =
    let rest : Accepts next may_end Root (text_of_parts (c ∷ cs)) = subst (Accepts next may_end Root) (sym (joined_is c cs)) (parts_accepted Root from_root c cs h.0 h.1) in
    accepts_from Start Root (47 ∷ []) (text_of_parts (c ∷ cs)) refl rest

-- The text of a moniker is accepted from the start.
pub moniker_accepted : (t : List ℕ) (m : Moniker) → IsMonikerTextOf t m → Accepts next may_end Start t
moniker_accepted t m h =
    let names = are_children m.parts h.names in
    ⊎_elim (λ e. subst (Accepts next may_end Start) (sym e) (text_accepted m.parts names)) (λ e. subst (Accepts next may_end Start) (sym e) (rooted_accepted m.parts names)) h.written

-- ---- what is accepted is a moniker's text

-- a child's text and those of further children, each behind a slash
record Parts (t : List ℕ) : Type 0 where
  first : ChildName
  others : List ChildName
  is_child : IsChildName first
  are_children : AreChildren others
  spelled : t ≡ child_text first ++ slashed others

-- further children, each behind a slash
record Others (t : List ℕ) : Type 0 where
  others : List ChildName
  are_children : AreChildren others
  spelled : t ≡ slashed others

-- a name, and further children behind it
record NameAndOthers (t : List ℕ) : Type 0 where
  name : List ℕ
  behind : List ℕ
  is_name : IsName name
  others : Others behind
  spelled : t ≡ name ++ behind

-- at most so many bytes of a name, of which n stand already, and a text that meets P
record More (P : List ℕ → Type 0) (n : ℕ) (t : List ℕ) : Type 0 where
  more : List ℕ
  behind : List ℕ
  continues : All (λ c. IsTrue (continues_name c)) more
  fits : n + length more ≤ 255
  meets : P behind
  spelled : t ≡ more ++ behind

-- what may stand behind a child's first name
abbrev BehindFirst : List ℕ → Type 0
BehindFirst t = Others t ⊎ ((rest : List ℕ) × (t ≡ 58 ∷ rest) × NameAndOthers rest)

-- a moniker has this text
record Monikered (t : List ℕ) : Type 0 where
  moniker : Moniker
  is_text : IsMonikerTextOf t moniker

-- what may stand behind each place
abbrev Holds : MonikerState → List ℕ → Type 0
Holds Start t = Monikered t
Holds Whole t = t ≡ []
Holds Root t = (t ≡ []) ⊎ Parts t
Holds Part t = Parts t
Holds (First n) t = n ≤ 255 → More BehindFirst n t
Holds Colon t = NameAndOthers t
Holds (Second n) t = n ≤ 255 → More Others n t

-- A dot with nothing behind it is the text of a moniker.
dot : (t : List ℕ) → t ≡ [] → Monikered (46 ∷ t)
dot t e = record { moniker = record { parts = [] }; is_text = record { names = All-nil IsChildName; written = inl (ap (λ r. 46 ∷ r) e) } }

-- A slash with nothing behind it is the text of a moniker.
slash : (t : List ℕ) → t ≡ [] → Monikered (47 ∷ t)
slash t e = record { moniker = record { parts = [] }; is_text = record { names = All-nil IsChildName; written = inr (ap (λ r. 47 ∷ r) e) } }

-- A child's text and further ones, each behind a slash, are the text of a moniker.
unrooted : (t : List ℕ) → Parts t → Monikered t
unrooted t h =
    record {
      moniker = record { parts = h.first ∷ h.others };
      is_text = record { names = all_children (h.first ∷ h.others) (h.is_child, h.are_children); written = inl (h.spelled ∙ sym (joined_is h.first h.others)) };
    }

-- A slash, a child's text and further ones, each behind a slash, are the text of a moniker.
rooted : (t : List ℕ) → Parts t → Monikered (47 ∷ t)
rooted t h =
    record {
      moniker = record { parts = h.first ∷ h.others };
      is_text = record { names = all_children (h.first ∷ h.others) (h.is_child, h.are_children); written = inr (ap (λ r. 47 ∷ r) (h.spelled ∙ sym (joined_is h.first h.others))) };
    }

-- the first byte of a name
name_from : (b : ℕ) (more : List ℕ) → IsTrue (begins_name b) → All (λ c. IsTrue (continues_name c)) more → 1 + length more ≤ 255 → IsName (b ∷ more)
name_from b more first rest fits = (omega arith, first, rest)

-- A byte that begins names, and what may stand behind it in a first name, are parts of a moniker.
first_begun : (b : ℕ) (t : List ℕ) → IsTrue (begins_name b) → More BehindFirst 1 t → Parts (b ∷ t)
first_begun b t first h =
    let name = name_from b h.more first h.continues h.fits in
    ⊎_elim
    (λ (o : Others h.behind).
    record {
      first = record { coll = None; name = b ∷ h.more };
      others = o.others;
      is_child = (name, tt);
      are_children = o.are_children;
      spelled = ap (λ r. b ∷ r) (h.spelled ∙ ap (λ r. h.more ++ r) o.spelled);
    })
    (λ (o : (rest : List ℕ) × (h.behind ≡ 58 ∷ rest) × NameAndOthers rest).
    record {
      first = record { coll = Some (b ∷ h.more); name = o.2.name };
      others = o.2.others.others;
      is_child = (o.2.is_name, name);
      are_children = o.2.others.are_children;
      spelled = ap (λ r. b ∷ r) (h.spelled ∙ ap (λ r. h.more ++ r) (o.1 ∙ ap (λ r. 58 ∷ r) (o.2.spelled ∙ ap (λ r. o.2.name ++ r) o.2.others.spelled)) ∙ sym (append_assoc h.more (58 ∷ o.2.name) (slashed o.2.others.others)));
    })
    h.meets

-- A byte that begins names, and what may stand behind it in a second one, are a name and others.
second_begun : (b : ℕ) (t : List ℕ) → IsTrue (begins_name b) → More Others 1 t → NameAndOthers (b ∷ t)
second_begun b t first h =
    record {
      name = b ∷ h.more;
      behind = h.behind;
      is_name = name_from b h.more first h.continues h.fits;
      others = h.meets;
      spelled = ap (λ r. b ∷ r) h.spelled;
    }

-- The empty text is that of no further children.
no_others : Others []
no_others = record { others = []; are_children = tt; spelled = refl }

-- A slash and parts are further children, each behind a slash.
slash_others : (t : List ℕ) → Parts t → Others (47 ∷ t)
slash_others t h =
    record { others = h.first ∷ h.others; are_children = (h.is_child, h.are_children); spelled = ap (λ r. 47 ∷ r) h.spelled }

-- What may stand behind a name may stand where no byte more of the name does, if so many fit.
no_more : (P : List ℕ → Type 0) (n : ℕ) (t : List ℕ) → n ≤ 255 → P t → More P n t
no_more P n t fits h =
    record { more = []; behind = t; continues = All-nil (λ c. IsTrue (continues_name c)); fits = omega (arith, fits); meets = h; spelled = refl }

-- A byte that continues names may stand before the bytes that a name may still have.
one_more_byte : (P : List ℕ → Type 0) (n b : ℕ) (t : List ℕ) → IsTrue (continues_name b) → More P (n + 1) t → More P n (b ∷ t)
one_more_byte P n b t first h =
    record {
      more = b ∷ h.more;
      behind = h.behind;
      continues = All-cons (λ c. IsTrue (continues_name c)) b h.more first h.continues;
      fits = omega (arith, h.fits);
      meets = h.meets;
      spelled = ap (λ r. b ∷ r) h.spelled;
    }

-- a test that is some place goes one way or the other
if_some : (c : Bool) (x y : Option MonikerState) (q : MonikerState) → cond c x y ≡ Some q → ((c ≡ true) × (x ≡ Some q)) ⊎ ((c ≡ false) × (y ≡ Some q))
if_some true x y q h = inl (refl, h)
if_some false x y q h = inr (refl, h)

-- What may stand behind a place may stand behind one that is the same.
moved : (p q : MonikerState) (t : List ℕ) → Some p ≡ Some q → Holds q t → Holds p t
moved p q t e h = let same : q ≡ p = cc in subst (λ r. Holds r t) same h

-- Where a name is begun, the byte begins names, and the place is the first of that name.
begun : (place : ℕ → MonikerState) (b : ℕ) (q : MonikerState) → begin_name place b ≡ Some q → IsTrue (begins_name b) × (Some (place 1) ≡ Some q)
begun place b q e = ⊎_elim (λ h. h) (λ h. absurd (none-some q h.1)) (if_some (begins_name b) (Some (place 1)) None q e)

-- From within a name a slash leads to a new part, and other bytes continue the name within 255.
went : (place : ℕ → MonikerState) (n b : ℕ) (q : MonikerState) → in_name place n b ≡ Some q → ((b ≡ 47) × (Some Part ≡ Some q)) ⊎ (IsTrue (continues_name b) × (n < 255) × (Some (place (n + 1)) ≡ Some q))
went place n b q e =
    ⊎_elim
    (λ h. inl (eqb-true b 47 h.0, h.1))
    (λ h.
    ⊎_elim
    (λ k. let parts = and_parts (continues_name b) (nat_lt n 255) k.0 in inr (parts.0, ltb-true n 255 parts.1, k.1))
    (λ k. absurd (none-some q k.1))
    (if_some (continues_name b && nat_lt n 255) (Some (place (n + 1))) None q h.1))
    (if_some (b == 47) (Some Part) (cond (continues_name b && nat_lt n 255) (Some (place (n + 1))) None) q e)

-- One is at most 255.
small : 1 ≤ 255
small = omega arith

-- one byte more in front, from each place
holds_more : (p : MonikerState) (b : ℕ) (q : MonikerState) (t : List ℕ) → next p b ≡ Some q → Holds q t → Holds p (b ∷ t)
holds_more Start b q t e h =
    ⊎_elim
    (λ k. subst (λ c. Monikered (c ∷ t)) (sym (eqb-true b 46 k.0)) (dot t (moved Whole q t k.1 h)))
    (λ k.
    ⊎_elim
    (λ l. subst (λ c. Monikered (c ∷ t)) (sym (eqb-true b 47 l.0)) (⊎_elim (slash t) (rooted t) (moved Root q t l.1 h)))
    (λ l. let one = begun First b q l.1 in unrooted (b ∷ t) (first_begun b t one.0 (moved (First 1) q t one.1 h small)))
    (if_some (b == 47) (Some Root) (begin_name First b) q k.1))
    (if_some (b == 46) (Some Whole) (cond (b == 47) (Some Root) (begin_name First b)) q e)
holds_more Whole b q t e h = absurd (none-some q e)
holds_more Root b q t e h =
    let one = begun First b q e in inr (first_begun b t one.0 (moved (First 1) q t one.1 h small))
holds_more Part b q t e h =
    let one = begun First b q e in first_begun b t one.0 (moved (First 1) q t one.1 h small)
holds_more (First n) b q t e h =
    λ fits.
    ⊎_elim
    (λ k.
    no_more BehindFirst n (b ∷ t) fits (inr (t, ap (λ c. c ∷ t) (eqb-true b 58 k.0), moved Colon q t k.1 h)))
    (λ k.
    ⊎_elim
    (λ l. no_more BehindFirst n (b ∷ t) fits (inl (subst (λ c. Others (c ∷ t)) (sym l.0) (slash_others t (moved Part q t l.1 h)))))
    (λ l. one_more_byte BehindFirst n b t l.0 (moved (First (n + 1)) q t l.2 h (omega (arith, l.1))))
    (went First n b q k.1))
    (if_some (b == 58) (Some Colon) (in_name First n b) q e)
holds_more Colon b q t e h =
    let one = begun Second b q e in second_begun b t one.0 (moved (Second 1) q t one.1 h small)
holds_more (Second n) b q t e h =
    λ fits.
    ⊎_elim
    (λ l. no_more Others n (b ∷ t) fits (subst (λ c. Others (c ∷ t)) (sym l.0) (slash_others t (moved Part q t l.1 h))))
    (λ l. one_more_byte Others n b t l.0 (moved (Second (n + 1)) q t l.2 h (omega (arith, l.1))))
    (went Second n b q e)

-- Where a moniker may end, nothing more has to stand there.
holds_none : (p : MonikerState) → may_end p ≡ true → Holds p []
holds_none Start e = absurd (true≢false (sym e))
holds_none Whole e = refl
holds_none Root e = inl refl
holds_none Part e = absurd (true≢false (sym e))
holds_none (First n) e = λ fits. no_more BehindFirst n [] fits (inl no_others)
holds_none Colon e = absurd (true≢false (sym e))
holds_none (Second n) e = λ fits. no_more Others n [] fits no_others

-- What is accepted from a place may stand behind that place.
holds : (p : MonikerState) (t : List ℕ) → Accepts next may_end p t → Holds p t
holds p [] h = holds_none p (at_end p [] refl h)
holds p (b ∷ t) h = let on = onward p b t h in holds_more p b on.place t on.is (holds on.place t on.rest)

-- the places read the texts of monikers
pub reads_monikers : IsReadFrom next may_end Start 4096 IsMonikerText
reads_monikers = record {
  accepted = λ t h. moniker_accepted t h.0 h.1;
  short = λ t h. h.2;
  is_kind = λ t h fits. let made = holds Start t h in (made.moniker, made.is_text, fits);
}
