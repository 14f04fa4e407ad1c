-- Inside.
-- Where the reader of a line stands after some of its words: which word leads on, and to what state.
use Rattle.std.specs.Prelude.{◌≡◌, ◌⊎◌, ℕ, ◌+◌, ◌-◌, ◌<◌, ◌≤◌, ◌^◌, List, [], ◌∷◌, ◌++◌, codes}
use Rattle.std.specs.Prelude.{Some, None, Result, MatchResult, IsTrue}
use Rattle.cm_names.specs.Name.{IsName}
use Rattle.cm_names.specs.Path.{is_path, service_path}
use Rattle.cm_names.specs.Rights.{RightSet}
use Rattle.cm_decl.specs.declared.kind.Kind.{Kind}
use Rattle.cm_decl.specs.declared.kind.Kind.TheVariants as kind
use Rattle.cm_decl.specs.declared.origin.Origin.{Origin}
use Rattle.cm_decl.specs.declared.rows.Give.{Give}
use Rattle.cm_decl.specs.Words.{kind_word}
use Rattle.cm_world.specs.declared.event.Target.{Target}
use Rattle.cm_world.specs.declared.frame.Builtin.{Builtin}
use Rattle.cm_command.specs.declared.command.Command.{Command}
use Rattle.cm_command.specs.declared.command.Command.TheVariants as command
use Rattle.cm_command.specs.declared.place.Verb.{Verb}
use Rattle.cm_command.specs.declared.place.Verb.TheVariants as verb
use Rattle.cm_command.specs.declared.place.ParsedLine.{ParsedLine}
use Rattle.cm_command.specs.declared.place.ParsedLine.TheVariants as sentence
use Rattle.cm_command.specs.declared.place.Creation.{Creation}
use Rattle.cm_command.specs.declared.place.LineState.{LineState}
use Rattle.cm_command.specs.declared.place.LineState.TheVariants as place
use Rattle.cm_command.specs.declared.tokens.WordFault.{WordFault}
use Rattle.cm_command.specs.declared.tokens.WordFault.TheVariants as word_fault
use Rattle.cm_command.specs.declared.command.CommandFault.{CommandFault}
use Rattle.cm_command.specs.declared.command.CommandFault.TheVariants as command_fault
use Rattle.cm_command.specs.Counts.{IsWordFault}
use Rattle.cm_command.specs.Numbers.{IsNumberText}
use Rattle.cm_command.specs.Pieces.{PiecesLead, Wants}
use Rattle.cm_command.specs.Words.{words_of, IsUrlText, IsTargetText, IsOriginText, IsRightsText}
use Rattle.cm_command.specs.Grammar.{LineBytes, AddsWord, plain_give}

-- the first word of a command, by its kind
abbrev pub verb_word : Verb → LineBytes
verb_word verb.Resolve = codes "resolve"
verb_word verb.Start = codes "start"
verb_word verb.Stop = codes "stop"
verb_word verb.Shutdown = codes "shutdown"
verb_word verb.Create = codes "create"
verb_word verb.Destroy = codes "destroy"
verb_word verb.List = codes "list"
verb_word verb.Open = codes "open"
verb_word verb.OpenExposed = codes "open-exposed"
verb_word verb.Route = codes "route"
verb_word verb.Doctor = codes "doctor"
verb_word verb.Show = codes "show"
verb_word verb.Survey = codes "survey"
verb_word verb.Exited = codes "exited"
verb_word verb.Events = codes "events"

-- all kinds of commands
abbrev pub verbs : List Verb
verbs =
    verb.Resolve ∷ verb.Start ∷ verb.Stop ∷ verb.Shutdown ∷ verb.Create ∷ verb.Destroy ∷ verb.List ∷ verb.Open
    ∷ verb.OpenExposed ∷ verb.Route ∷ verb.Doctor ∷ verb.Show ∷ verb.Survey ∷ verb.Exited ∷ verb.Events ∷ []

-- the word begins some command
abbrev pub IsVerbWord : LineBytes → Type 0
IsVerbWord w = (v : Verb) × (w ≡ verb_word v)

-- the word is `protocol` or `directory`
abbrev pub IsKindWord : LineBytes → Type 0
IsKindWord w = (k : Kind) × (w ≡ kind_word k)

-- the state after all words of a command
abbrev pub asks : Command → LineState
asks c = place.Whole (sentence.Command c)

-- the state after a command's first word and its target
abbrev pub behind_target : Verb → Target → LineState
behind_target verb.Resolve a = asks (command.Resolve a)
behind_target verb.Start a = asks (command.Start a)
behind_target verb.Stop a = asks (command.Stop a)
behind_target verb.Shutdown a = asks (command.Shutdown a)
behind_target verb.Create a = place.Creating a
behind_target verb.Destroy a = asks (command.Destroy a)
behind_target verb.List a = place.Listing a
behind_target verb.Open a = place.Opening a
behind_target verb.OpenExposed a = place.OpeningExposed a
behind_target verb.Route a = place.Routing a
behind_target verb.Doctor a = asks (command.Doctor a)
behind_target verb.Show a = asks (command.Show a)
behind_target verb.Survey a = asks (command.Survey a)
behind_target verb.Exited a = asks (command.Exited a)
behind_target verb.Events a = place.Streaming a

-- a builtin protocol of this name, which has the path of its name
abbrev pub protocol_of : LineBytes → Builtin
protocol_of name = record { kind = kind.Protocol; name = name; path = service_path name; rights = None }

-- a builtin directory with this name, path and rights
abbrev pub directory_of : LineBytes → LineBytes → RightSet → Builtin
directory_of name path r = record { kind = kind.Directory; name = name; path = path; rights = Some r }

-- the state after all words of a builtin
abbrev pub provides : Builtin → LineState
provides b = place.Whole (sentence.Builtin b)

-- the state after the kind and the name of a builtin
abbrev pub behind_builtin : Kind → LineBytes → LineState
behind_builtin kind.Protocol name = provides (protocol_of name)
behind_builtin kind.Directory name = place.BuiltinPath name

-- the state of a `create` after the URL of the child
abbrev pub create : Target → LineBytes → LineBytes → LineBytes → LineState
create parent coll name url =
    place.Groups (record { parent = parent; coll = coll; name = name; url = url; gives = [] })

-- the state of a `create` after the origin of a group; everything else of what it gives is the default
abbrev pub give : Creation → Kind → LineBytes → Origin → LineState
give c kind name origin = place.Additions c (plain_give kind name origin) 0

-- a creation with one more offer to the child
abbrev pub with_give : Creation → Give → Creation
with_give c g = record c { gives = c.gives ++ g ∷ [] }

-- the word leads from the first state to the second
abbrev pub WordLeads : LineState → LineBytes → LineState → Type 0
WordLeads place.Start w p = (v : Verb) × (w ≡ verb_word v) × (p ≡ place.Verb v)
WordLeads (place.Verb v) w p = (a : Target) × IsTargetText w a × (p ≡ behind_target v a)
WordLeads (place.Listing a) w p = IsName w × (p ≡ asks (command.ListChildren a w))
WordLeads (place.Opening a) w p = IsTrue (is_path w) × (p ≡ asks (command.OpenUse a w))
WordLeads (place.OpeningExposed a) w p = IsName w × (p ≡ asks (command.OpenExposed a w))
WordLeads (place.Routing a) w p = IsTrue (is_path w) × (p ≡ asks (command.RouteOf a w))
WordLeads (place.Streaming a) w p = (n : ℕ) × IsNumberText w n × (n < 2 ^ 64)
    × (p ≡ asks (command.Events a n))
WordLeads (place.Creating a) w p = IsName w × (p ≡ place.CreatingIn a w)
WordLeads (place.CreatingIn a coll) w p = IsName w × (p ≡ place.CreatingNamed a coll w)
WordLeads (place.CreatingNamed a coll name) w p = IsUrlText w × (p ≡ create a coll name w)
WordLeads (place.Groups c) w p = (w ≡ codes "+") × (p ≡ place.GroupKind c)
WordLeads (place.GroupKind c) w p = (k : Kind) × (w ≡ kind_word k) × (p ≡ place.GroupName c k)
WordLeads (place.GroupName c k) w p = IsName w × (p ≡ place.GroupFrom c k w)
WordLeads (place.GroupFrom c k name) w p = (o : Origin) × IsOriginText w o × (p ≡ give c k name o)
WordLeads (place.Additions c g n) w p =
    ((w ≡ codes "+") × (p ≡ place.GroupKind (with_give c g)))
    ⊎ ((m : ℕ) × (h : Give) × (n ≤ m) × AddsWord m w g h × (p ≡ place.Additions c h (m + 1)))
WordLeads place.BuiltinKind w p = (k : Kind) × (w ≡ kind_word k) × (p ≡ place.BuiltinName k)
WordLeads (place.BuiltinName k) w p = IsName w × (p ≡ behind_builtin k w)
WordLeads (place.BuiltinPath name) w p = IsTrue (is_path w) × (p ≡ place.BuiltinRights name w)
WordLeads (place.BuiltinRights name path) w p =
    (r : RightSet) × IsRightsText w r × (p ≡ provides (directory_of name path r))
WordLeads (place.Whole s) w p = ⊥

-- the `create` of a creation whose words have all come
abbrev pub created : Creation → ParsedLine
created c = sentence.Command (command.Create c.parent c.coll c.name c.url c.gives)

-- the line may end in this state, and says this
abbrev pub EndsLine : LineState → ParsedLine → Type 0
EndsLine (place.Groups c) s = s ≡ created c
EndsLine (place.Additions c g n) s = s ≡ created (with_give c g)
EndsLine (place.Whole t) s = s ≡ t
EndsLine _ s = ⊥

-- the words of the text lead from this state to the end of that command
abbrev pub LeadsTo : LineState → LineBytes → Command → Type 0
LeadsTo p t c = PiecesLead WordLeads EndsLine p (words_of t) (sentence.Command c)

-- what a step of the reader returns: the state to which the word leads, or the fault of one that leads
-- nowhere
abbrev pub StepsFrom : LineState → LineBytes → Result LineState WordFault → Type 0
StepsFrom p w r = MatchResult r (λ q. WordLeads p w q) (λ e. IsWordFault (Wants WordLeads p) w e)

-- the fault of a line of that length which ends where it may not: all of it can be completed
abbrev pub IsUnended : LineState → ℕ → WordFault → Type 0
IsUnended p len (word_fault.Bad n) = ((s : ParsedLine) → EndsLine p s → ⊥) × (n ≡ len + 1)
IsUnended p len word_fault.Memory = Unit {0}

-- some prefix can be completed, and the count stays in 32 bits
abbrev pub IsShort : WordFault → Type 0
IsShort (word_fault.Bad n) = (1 ≤ n) × (n ≤ 2 ^ 32)
IsShort word_fault.Memory = Unit {0}

-- the fault of a line, by that of its words: it tells the length of the longest prefix that can be
-- completed
abbrev pub line_fault : WordFault → CommandFault
line_fault (word_fault.Bad n) = command_fault.BadCommand (n - 1)
line_fault word_fault.Memory = command_fault.Memory
