-- The words of a command lead from the first place to that command, and no other words do.
use Rattle.std.proofs.Common.{◌≡◌, inl, inr, ℕ, ◌+◌, List, [], ◌∷◌, ◌++◌, codes, refl, sym, ap, subst, ◌∙◌, IsTrue, append-nil, append_assoc}
use Rattle.cm_names.specs.Name.{IsName}
use Rattle.cm_names.specs.Path.{is_path}
use Rattle.cm_decl.specs.declared.kind.Kind.{Kind}
use Rattle.cm_decl.specs.declared.kind.Kind.TheVariants as kind
use Rattle.cm_decl.specs.declared.rows.Give.{Give}
use Rattle.cm_decl.specs.Words.{kind_word}
use Rattle.cm_world.specs.declared.event.Target.{Target}
use Rattle.cm_world.specs.declared.frame.Builtin.{Builtin}
use Rattle.cm_command.specs.declared.command.Command.{Command}
use Rattle.cm_command.specs.declared.command.Command.TheVariants as command
use Rattle.cm_command.specs.declared.place.Verb.{Verb}
use Rattle.cm_command.specs.declared.place.Verb.TheVariants as verb
use Rattle.cm_command.specs.declared.place.ParsedLine.{ParsedLine}
use Rattle.cm_command.specs.declared.place.ParsedLine.TheVariants as sentence
use Rattle.cm_command.specs.declared.place.Creation.{Creation}
use Rattle.cm_command.specs.declared.place.LineState.{LineState}
use Rattle.cm_command.specs.declared.place.LineState.TheVariants as place
use Rattle.cm_command.specs.Words.{IsTargetText}
use Rattle.cm_command.specs.Grammar.{LineBytes, Groups, HasAdditions, CommandWords, BuiltinWords, LinesReadOneWay, plain_give}
use Rattle.cm_command.specs.Pieces.{PiecesLead}
use Rattle.cm_command.specs.Places.{verb_word, asks, behind_target, behind_builtin, protocol_of, directory_of, provides, with_give, WordLeads, EndsLine, created}
use Rattle.cm_command.proofs.lemmas.line.LineMachine.{leads_one_way}

-- ---- groups

-- a creation with more gives
abbrev with_gives : Creation → List Give → ParsedLine
with_gives c gs = created (record c { gives = gs })

-- a give that is whole stands before the next group
ended : (c : Creation) (g : Give) (n : ℕ) (ws : List LineBytes) (s : ParsedLine) → PiecesLead WordLeads EndsLine (place.Groups (with_give c g)) ws s → PiecesLead WordLeads EndsLine (place.Additions c g n) ws s
ended c g n [] s h = h
ended c g n (w ∷ ws) s h = (h.0, inl h.1, h.2)

mutual
  -- The words of groups lead from where groups may stand to the creation with those offers more.
  groups_lead : {ws : List LineBytes} {gs : List Give} → Groups ws gs → (c : Creation) → PiecesLead WordLeads EndsLine (place.Groups c) ws (with_gives c (c.gives ++ gs))
  groups_lead Groups.no_group c = ap (with_gives c) (append-nil c.gives)
  groups_lead (Groups.group {k = k} {name = name} {origin = origin} is from rest) c =
      (place.GroupKind c, (refl, refl), (place.GroupName c k, (k, refl, refl), (place.GroupFrom c k name, (is, refl), (place.Additions c (plain_give k name origin) 0, (origin, from, refl), behind_leads rest c))))

  -- The additions to an offer and the groups after it lead to the creation with these offers.
  behind_leads : {n : ℕ} {g : Give} {ws : List LineBytes} {gs : List Give} → HasAdditions n g ws gs → (c : Creation) → PiecesLead WordLeads EndsLine (place.Additions c g n) ws (with_gives c (c.gives ++ gs))
  behind_leads (HasAdditions.whole {n = n} {g = g} {ws = ws} {gs = gs} rest) c =
      subst (λ x. PiecesLead WordLeads EndsLine (place.Additions c g n) ws (with_gives c x)) (append_assoc c.gives (g ∷ []) gs) (ended c g n ws (with_gives c ((c.gives ++ g ∷ []) ++ gs)) (groups_lead rest (with_give c g)))
  behind_leads (HasAdditions.addition {m = m} {h = h} le adds rest) c =
      (place.Additions c h (m + 1), inr (m, h, le, adds, refl), behind_leads rest c)

-- what words say from a place inside of the groups
abbrev Said : LineState → List LineBytes → ParsedLine → Type 0
Said (place.Groups c) ws s = (gs : List Give) × Groups ws gs × (s ≡ with_gives c (c.gives ++ gs))
Said (place.GroupKind c) ws s = (gs : List Give) × Groups (codes "+" ∷ ws) gs × (s ≡ with_gives c (c.gives ++ gs))
Said (place.GroupName c k) ws s =
    (gs : List Give) × Groups (codes "+" ∷ kind_word k ∷ ws) gs × (s ≡ with_gives c (c.gives ++ gs))
Said (place.GroupFrom c k name) ws s =
    IsName name → (gs : List Give) × Groups (codes "+" ∷ kind_word k ∷ name ∷ ws) gs × (s ≡ with_gives c (c.gives ++ gs))
Said (place.Additions c g n) ws s = (gs : List Give) × HasAdditions n g ws gs × (s ≡ with_gives c (c.gives ++ gs))
Said _ ws s = Unit {0}

-- words that lead from one place lead from an equal one
at_place : (p q : LineState) (ws : List LineBytes) (s : ParsedLine) → p ≡ q → PiecesLead WordLeads EndsLine p ws s → PiecesLead WordLeads EndsLine q ws s
at_place p q ws s e h = subst (λ x. PiecesLead WordLeads EndsLine x ws s) e h

-- Words that lead from a place to what a line says have the grammar's form for that place.
said : (ws : List LineBytes) (p : LineState) (s : ParsedLine) → PiecesLead WordLeads EndsLine p ws s → Said p ws s
said [] (place.Groups c) s h = ([], Groups.no_group, h ∙ sym (ap (with_gives c) (append-nil c.gives)))
said [] (place.GroupKind c) s h = absurd h
said [] (place.GroupName c k) s h = absurd h
said [] (place.GroupFrom c k name) s h = absurd h
said [] (place.Additions c g n) s h = (g ∷ [], HasAdditions.whole Groups.no_group, h)
said (w ∷ ws) (place.Groups c) s h =
    let rest = said ws (place.GroupKind c) s (at_place h.0 (place.GroupKind c) ws s h.1.1 h.2) in
    (rest.0, subst (λ x. Groups (x ∷ ws) rest.0) (sym h.1.0) rest.1, rest.2)
said (w ∷ ws) (place.GroupKind c) s h =
    let rest = said ws (place.GroupName c h.1.0) s (at_place h.0 (place.GroupName c h.1.0) ws s h.1.2 h.2) in
    (rest.0, subst (λ x. Groups (codes "+" ∷ x ∷ ws) rest.0) (sym h.1.1) rest.1, rest.2)
said (w ∷ ws) (place.GroupName c k) s h =
    said ws (place.GroupFrom c k w) s (at_place h.0 (place.GroupFrom c k w) ws s h.1.1 h.2) h.1.0
said (w ∷ ws) (place.GroupFrom c k name) s h = λ is.
    let behind : LineState = place.Additions c (plain_give k name h.1.0) 0 in
    let rest = said ws (place.Additions c (plain_give k name h.1.0) 0) s (at_place h.0 behind ws s h.1.2 h.2) in
    (rest.0, Groups.group is h.1.1 rest.1, rest.2)
said (w ∷ ws) (place.Additions c g n) s (p, inl h, more) =
    let rest = said ws (place.GroupKind (with_give c g)) s (at_place p (place.GroupKind (with_give c g)) ws s h.1 more) in
    (g ∷ rest.0, HasAdditions.whole (subst (λ x. Groups (x ∷ ws) rest.0) (sym h.0) rest.1), rest.2 ∙ ap (with_gives c) (append_assoc c.gives (g ∷ []) rest.0))
said (w ∷ ws) (place.Additions c g n) s (p, inr h, more) =
    let rest = said ws (place.Additions c h.1 (h.0 + 1)) s (at_place p (place.Additions c h.1 (h.0 + 1)) ws s h.4 more) in
    (rest.0, HasAdditions.addition h.2 h.3 rest.1, rest.2)
said ws p s h = tt

-- ---- commands

-- A verb's word and a target, with what leads on behind them, lead from the start of a line.
verb_leads : (v : Verb) (t : LineBytes) (a : Target) (ws : List LineBytes) (s : ParsedLine) → IsTargetText t a → PiecesLead WordLeads EndsLine (behind_target v a) ws s → PiecesLead WordLeads EndsLine place.Start (verb_word v ∷ t ∷ ws) s
verb_leads v t a ws s h rest = (place.Verb v, (v, refl, refl), (behind_target v a, (a, h, refl), rest))

-- The words of a command lead from the first place of a line to that command.
pub command_leads : {ws : List LineBytes} {c : Command} → CommandWords ws c → PiecesLead WordLeads EndsLine place.Start ws (sentence.Command c)
command_leads (CommandWords.resolve {t = t} {a = a} h) = verb_leads verb.Resolve t a [] (sentence.Command (command.Resolve a)) h refl
command_leads (CommandWords.start {t = t} {a = a} h) = verb_leads verb.Start t a [] (sentence.Command (command.Start a)) h refl
command_leads (CommandWords.stop {t = t} {a = a} h) = verb_leads verb.Stop t a [] (sentence.Command (command.Stop a)) h refl
command_leads (CommandWords.shutdown {t = t} {a = a} h) = verb_leads verb.Shutdown t a [] (sentence.Command (command.Shutdown a)) h refl
command_leads (CommandWords.create {t = t} {coll = coll} {name = name} {url = url} {a = a} {ws = ws} {gives = gives} h is_coll is_name is_url groups) =
    let c : Creation = record { parent = a; coll = coll; name = name; url = url; gives = [] } in
    verb_leads verb.Create t a (coll ∷ name ∷ url ∷ ws) (with_gives c gives) h (place.CreatingIn a coll, (is_coll, refl), (place.CreatingNamed a coll name, (is_name, refl), (place.Groups c, (is_url, refl), groups_lead groups c)))
command_leads (CommandWords.destroy {t = t} {a = a} h) = verb_leads verb.Destroy t a [] (sentence.Command (command.Destroy a)) h refl
command_leads (CommandWords.list {t = t} {coll = coll} {a = a} h is) = verb_leads verb.List t a (coll ∷ []) (sentence.Command (command.ListChildren a coll)) h (asks (command.ListChildren a coll), (is, refl), refl)
command_leads (CommandWords.open_use {t = t} {path = path} {a = a} h is) = verb_leads verb.Open t a (path ∷ []) (sentence.Command (command.OpenUse a path)) h (asks (command.OpenUse a path), (is, refl), refl)
command_leads (CommandWords.open_exposed {t = t} {name = name} {a = a} h is) = verb_leads verb.OpenExposed t a (name ∷ []) (sentence.Command (command.OpenExposed a name)) h (asks (command.OpenExposed a name), (is, refl), refl)
command_leads (CommandWords.route_of {t = t} {path = path} {a = a} h is) = verb_leads verb.Route t a (path ∷ []) (sentence.Command (command.RouteOf a path)) h (asks (command.RouteOf a path), (is, refl), refl)
command_leads (CommandWords.doctor {t = t} {a = a} h) = verb_leads verb.Doctor t a [] (sentence.Command (command.Doctor a)) h refl
command_leads (CommandWords.show {t = t} {a = a} h) = verb_leads verb.Show t a [] (sentence.Command (command.Show a)) h refl
command_leads (CommandWords.survey {t = t} {a = a} h) = verb_leads verb.Survey t a [] (sentence.Command (command.Survey a)) h refl
command_leads (CommandWords.exited {t = t} {a = a} h) = verb_leads verb.Exited t a [] (sentence.Command (command.Exited a)) h refl
command_leads (CommandWords.events {t = t} {from = from} {a = a} {n = n} h is fits) = verb_leads verb.Events t a (from ∷ []) (sentence.Command (command.Events a n)) h (asks (command.Events a n), (n, is, fits, refl), refl)

-- Behind a line that is whole no word follows, and it says what was said.
whole_ends : (t : ParsedLine) (ws : List LineBytes) (s : ParsedLine) → PiecesLead WordLeads EndsLine (place.Whole t) ws s → (ws ≡ []) × (s ≡ t)
whole_ends t [] s h = (refl, h)
whole_ends t (w ∷ ws) s h = absurd h.1

-- The words are those of a command, and this is what the line says.
abbrev IsAsked : List LineBytes → ParsedLine → Type 0
IsAsked ws s = (c : Command) × (s ≡ sentence.Command c) × CommandWords ws c

-- words behind which the command is whole
asked : (prefix ws : List LineBytes) (c : Command) (s : ParsedLine) → CommandWords prefix c → PiecesLead WordLeads EndsLine (asks c) ws s → IsAsked (prefix ++ ws) s
asked prefix ws c s rule h =
    let e = whole_ends (sentence.Command c) ws s h in
    (c, e.1, subst (λ x. CommandWords x c) (sym (append-nil prefix) ∙ ap (λ x. prefix ++ x) (sym e.0)) rule)

-- Words that lead on behind `list` and a target are those of a command.
lists : (t : LineBytes) (a : Target) (ws : List LineBytes) (s : ParsedLine) → IsTargetText t a → PiecesLead WordLeads EndsLine (place.Listing a) ws s → IsAsked (codes "list" ∷ t ∷ ws) s
lists t a [] s h led = absurd led
lists t a (w ∷ ws) s h led =
    asked (codes "list" ∷ t ∷ w ∷ []) ws (command.ListChildren a w) s (CommandWords.list h led.1.0) (at_place led.0 (asks (command.ListChildren a w)) ws s led.1.1 led.2)

-- Words that lead on behind `events` and a target are those of a command.
streams : (t : LineBytes) (a : Target) (ws : List LineBytes) (s : ParsedLine) → IsTargetText t a → PiecesLead WordLeads EndsLine (place.Streaming a) ws s → IsAsked (codes "events" ∷ t ∷ ws) s
streams t a [] s h led = absurd led
streams t a (w ∷ ws) s h led =
    asked (codes "events" ∷ t ∷ w ∷ []) ws (command.Events a led.1.0) s (CommandWords.events h led.1.1 led.1.2) (at_place led.0 (asks (command.Events a led.1.0)) ws s led.1.3 led.2)

-- Words that lead on behind `open` and a target are those of a command.
opens : (t : LineBytes) (a : Target) (ws : List LineBytes) (s : ParsedLine) → IsTargetText t a → PiecesLead WordLeads EndsLine (place.Opening a) ws s → IsAsked (codes "open" ∷ t ∷ ws) s
opens t a [] s h led = absurd led
opens t a (w ∷ ws) s h led =
    asked (codes "open" ∷ t ∷ w ∷ []) ws (command.OpenUse a w) s (CommandWords.open_use h led.1.0) (at_place led.0 (asks (command.OpenUse a w)) ws s led.1.1 led.2)

-- Words that lead on behind `open-exposed` and a target are those of a command.
opens_exposed : (t : LineBytes) (a : Target) (ws : List LineBytes) (s : ParsedLine) → IsTargetText t a → PiecesLead WordLeads EndsLine (place.OpeningExposed a) ws s → IsAsked (codes "open-exposed" ∷ t ∷ ws) s
opens_exposed t a [] s h led = absurd led
opens_exposed t a (w ∷ ws) s h led =
    asked (codes "open-exposed" ∷ t ∷ w ∷ []) ws (command.OpenExposed a w) s (CommandWords.open_exposed h led.1.0) (at_place led.0 (asks (command.OpenExposed a w)) ws s led.1.1 led.2)

-- Words that lead on behind `route` and a target are those of a command.
routes : (t : LineBytes) (a : Target) (ws : List LineBytes) (s : ParsedLine) → IsTargetText t a → PiecesLead WordLeads EndsLine (place.Routing a) ws s → IsAsked (codes "route" ∷ t ∷ ws) s
routes t a [] s h led = absurd led
routes t a (w ∷ ws) s h led =
    asked (codes "route" ∷ t ∷ w ∷ []) ws (command.RouteOf a w) s (CommandWords.route_of h led.1.0) (at_place led.0 (asks (command.RouteOf a w)) ws s led.1.1 led.2)

-- Words that lead on behind `create`, a target, a collection and a name are those of a command.
creates_with : (t coll name : LineBytes) (a : Target) (ws : List LineBytes) (s : ParsedLine) → IsTargetText t a → IsName coll → IsName name → PiecesLead WordLeads EndsLine (place.CreatingNamed a coll name) ws s → IsAsked (codes "create" ∷ t ∷ coll ∷ name ∷ ws) s
creates_with t coll name a [] s h is_coll is_name led = absurd led
creates_with t coll name a (url ∷ ws) s h is_coll is_name led =
    let c : Creation = record { parent = a; coll = coll; name = name; url = url; gives = [] } in
    let gave = said ws (place.Groups c) s (at_place led.0 (place.Groups c) ws s led.1.1 led.2) in
    (command.Create a coll name url gave.0, gave.2, CommandWords.create h is_coll is_name led.1.0 gave.1)

-- Words that lead on behind `create`, a target and a collection are those of a command.
creates_named : (t coll : LineBytes) (a : Target) (ws : List LineBytes) (s : ParsedLine) → IsTargetText t a → IsName coll → PiecesLead WordLeads EndsLine (place.CreatingIn a coll) ws s → IsAsked (codes "create" ∷ t ∷ coll ∷ ws) s
creates_named t coll a [] s h is_coll led = absurd led
creates_named t coll a (w ∷ ws) s h is_coll led =
    creates_with t coll w a ws s h is_coll led.1.0 (at_place led.0 (place.CreatingNamed a coll w) ws s led.1.1 led.2)

-- Words that lead on behind `create` and a target are those of a command.
creates : (t : LineBytes) (a : Target) (ws : List LineBytes) (s : ParsedLine) → IsTargetText t a → PiecesLead WordLeads EndsLine (place.Creating a) ws s → IsAsked (codes "create" ∷ t ∷ ws) s
creates t a [] s h led = absurd led
creates t a (w ∷ ws) s h led = creates_named t w a ws s h led.1.0 (at_place led.0 (place.CreatingIn a w) ws s led.1.1 led.2)

-- Words that lead on behind a verb and its target are those of a command.
behind_verb : (v : Verb) (t : LineBytes) (a : Target) (ws : List LineBytes) (s : ParsedLine) → IsTargetText t a → PiecesLead WordLeads EndsLine (behind_target v a) ws s → IsAsked (verb_word v ∷ t ∷ ws) s
behind_verb verb.Resolve t a ws s h led = asked (codes "resolve" ∷ t ∷ []) ws (command.Resolve a) s (CommandWords.resolve h) led
behind_verb verb.Start t a ws s h led = asked (codes "start" ∷ t ∷ []) ws (command.Start a) s (CommandWords.start h) led
behind_verb verb.Stop t a ws s h led = asked (codes "stop" ∷ t ∷ []) ws (command.Stop a) s (CommandWords.stop h) led
behind_verb verb.Shutdown t a ws s h led = asked (codes "shutdown" ∷ t ∷ []) ws (command.Shutdown a) s (CommandWords.shutdown h) led
behind_verb verb.Create t a ws s h led = creates t a ws s h led
behind_verb verb.Destroy t a ws s h led = asked (codes "destroy" ∷ t ∷ []) ws (command.Destroy a) s (CommandWords.destroy h) led
behind_verb verb.List t a ws s h led = lists t a ws s h led
behind_verb verb.Open t a ws s h led = opens t a ws s h led
behind_verb verb.OpenExposed t a ws s h led = opens_exposed t a ws s h led
behind_verb verb.Route t a ws s h led = routes t a ws s h led
behind_verb verb.Doctor t a ws s h led = asked (codes "doctor" ∷ t ∷ []) ws (command.Doctor a) s (CommandWords.doctor h) led
behind_verb verb.Show t a ws s h led = asked (codes "show" ∷ t ∷ []) ws (command.Show a) s (CommandWords.show h) led
behind_verb verb.Survey t a ws s h led = asked (codes "survey" ∷ t ∷ []) ws (command.Survey a) s (CommandWords.survey h) led
behind_verb verb.Exited t a ws s h led = asked (codes "exited" ∷ t ∷ []) ws (command.Exited a) s (CommandWords.exited h) led
behind_verb verb.Events t a ws s h led = streams t a ws s h led

-- Words that lead on behind a verb are those of a command, with it.
verb_says : (v : Verb) (ws : List LineBytes) (s : ParsedLine) → PiecesLead WordLeads EndsLine (place.Verb v) ws s → IsAsked (verb_word v ∷ ws) s
verb_says v [] s h = absurd h
verb_says v (w ∷ ws) s h = behind_verb v w h.1.0 ws s h.1.1 (at_place h.0 (behind_target v h.1.0) ws s h.1.2 h.2)

-- What words lead to from the first place of a line is a command, and they are its words.
pub leads_command : (ws : List LineBytes) (s : ParsedLine) → PiecesLead WordLeads EndsLine place.Start ws s → IsAsked ws s
leads_command [] s h = absurd h
leads_command (w ∷ ws) s h =
    let rest = verb_says h.1.0 ws s (at_place h.0 (place.Verb h.1.0) ws s h.1.2 h.2) in
    (rest.0, rest.1, subst (λ x. CommandWords (x ∷ ws) rest.0) (sym h.1.1) rest.2)

-- A line asks for one command at most.
pub reads_one_way_lem : LinesReadOneWay
reads_one_way_lem t c d h k =
    let same : sentence.Command c ≡ sentence.Command d = leads_one_way _ place.Start _ _ (command_leads h) (command_leads k) in
    cc same

-- ---- builtin capabilities

-- The words of a builtin lead from the place behind `builtin` to that builtin.
pub builtin_leads : {ws : List LineBytes} {b : Builtin} → BuiltinWords ws b → PiecesLead WordLeads EndsLine place.BuiltinKind ws (sentence.Builtin b)
builtin_leads (BuiltinWords.protocol {name = name} is) =
    (place.BuiltinName kind.Protocol, (kind.Protocol, refl, refl), (behind_builtin kind.Protocol name, (is, refl), refl))
builtin_leads (BuiltinWords.directory {name = name} {path = path} {r = r} is is_dir is_rights) =
    (place.BuiltinName kind.Directory, (kind.Directory, refl, refl), (place.BuiltinPath name, (is, refl), (place.BuiltinRights name path, (is_dir, refl), (provides (directory_of name path r), (r, is_rights, refl), refl))))

-- The words are those of a builtin capability, and this is what the line says.
abbrev IsSaid : List LineBytes → ParsedLine → Type 0
IsSaid ws s = (b : Builtin) × (s ≡ sentence.Builtin b) × BuiltinWords ws b

-- Behind the words of a builtin capability that is whole, what leads on says that capability.
said_whole : (prefix ws : List LineBytes) (b : Builtin) (s : ParsedLine) → BuiltinWords prefix b → PiecesLead WordLeads EndsLine (place.Whole (sentence.Builtin b)) ws s → IsSaid (prefix ++ ws) s
said_whole prefix ws b s rule h =
    let e = whole_ends (sentence.Builtin b) ws s h in
    (b, e.1, subst (λ x. BuiltinWords x b) (sym (append-nil prefix) ∙ ap (λ x. prefix ++ x) (sym e.0)) rule)

-- Words that lead on behind a builtin directory's name and path say a builtin capability.
behind_path : (name path : LineBytes) (ws : List LineBytes) (s : ParsedLine) → IsName name → IsTrue (is_path path) → PiecesLead WordLeads EndsLine (place.BuiltinRights name path) ws s → IsSaid (codes "directory" ∷ name ∷ path ∷ ws) s
behind_path name path [] s is dir h = absurd h
behind_path name path (w ∷ ws) s is dir h =
    said_whole (codes "directory" ∷ name ∷ path ∷ w ∷ []) ws (directory_of name path h.1.0) s (BuiltinWords.directory is dir h.1.1) (at_place h.0 (provides (directory_of name path h.1.0)) ws s h.1.2 h.2)

-- Words that lead on behind a builtin directory's name say a builtin capability.
behind_directory : (name : LineBytes) (ws : List LineBytes) (s : ParsedLine) → IsName name → PiecesLead WordLeads EndsLine (place.BuiltinPath name) ws s → IsSaid (codes "directory" ∷ name ∷ ws) s
behind_directory name [] s is h = absurd h
behind_directory name (w ∷ ws) s is h = behind_path name w ws s is h.1.0 (at_place h.0 (place.BuiltinRights name w) ws s h.1.1 h.2)

-- Words that lead on behind the kind of a builtin capability say one.
behind_kind : (k : Kind) (ws : List LineBytes) (s : ParsedLine) → PiecesLead WordLeads EndsLine (place.BuiltinName k) ws s → IsSaid (kind_word k ∷ ws) s
behind_kind k [] s h = absurd h
behind_kind kind.Protocol (w ∷ ws) s h =
    said_whole (codes "protocol" ∷ w ∷ []) ws (protocol_of w) s (BuiltinWords.protocol h.1.0) (at_place h.0 (behind_builtin kind.Protocol w) ws s h.1.1 h.2)
behind_kind kind.Directory (w ∷ ws) s h = behind_directory w ws s h.1.0 (at_place h.0 (place.BuiltinPath w) ws s h.1.1 h.2)

-- What words lead to from the place behind `builtin` is a builtin, and they are its words.
pub leads_builtin : (ws : List LineBytes) (s : ParsedLine) → PiecesLead WordLeads EndsLine place.BuiltinKind ws s → IsSaid ws s
leads_builtin [] s h = absurd h
leads_builtin (w ∷ ws) s h =
    let rest = behind_kind h.1.0 ws s (at_place h.0 (place.BuiltinName h.1.0) ws s h.1.2 h.2) in
    (rest.0, rest.1, subst (λ x. BuiltinWords (x ∷ ws) rest.0) (sym h.1.1) rest.2)
