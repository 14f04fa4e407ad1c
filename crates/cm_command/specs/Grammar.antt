-- Promised.
-- The grammar of commands: which line asks for which command.
use Rattle.std.specs.Prelude.{◌≡◌, ℕ, ◌+◌, ◌<◌, ◌≤◌, ◌^◌, List, [], ◌∷◌, ◌++◌, codes, Some, None, IsTrue}
use Rattle.cm_names.specs.declared.availability.Availability.TheVariants as availability
use Rattle.cm_names.specs.declared.dependency.Dependency.TheVariants as dependency
use Rattle.cm_names.specs.Name.{IsName}
use Rattle.cm_names.specs.Path.{is_path, is_subdir, service_path}
use Rattle.cm_names.specs.Rights.{RightSet}
use Rattle.cm_names.specs.Prefixes.{IsLongestPrefix}
use Rattle.cm_decl.specs.declared.kind.Kind.{Kind}
use Rattle.cm_decl.specs.declared.kind.Kind.TheVariants as kind
use Rattle.cm_decl.specs.declared.origin.Origin.{Origin}
use Rattle.cm_decl.specs.declared.rows.Give.{Give}
use Rattle.cm_decl.specs.Words.{kind_word}
use Rattle.cm_world.specs.declared.event.Target.{Target}
use Rattle.cm_world.specs.declared.frame.Builtin.{Builtin}
use Rattle.cm_command.specs.declared.command.Command.{Command}
use Rattle.cm_command.specs.declared.command.Command.TheVariants as command
use Rattle.cm_command.specs.declared.command.CommandFault.{CommandFault}
use Rattle.cm_command.specs.declared.command.CommandFault.TheVariants.{BadCommand, Memory}
use Rattle.cm_command.specs.Numbers.{IsNumberText}
use Rattle.cm_command.specs.Words.{words_of, IsUrlText, IsTargetText, IsOriginText, IsRightsText}

-- a line, or a part of one, as its bytes
abbrev pub LineBytes : Type 0
LineBytes = List ℕ

-- what a group of `create` gives without any addition: everything else is the default
abbrev pub plain_give : Kind → LineBytes → Origin → Give
plain_give kind name origin = record {
  kind = kind;
  source_name = name;
  from = origin;
  target_name = name;
  rights = None;
  subdir = None;
  dependency = dependency.Strong;
  availability = availability.Required;
}

-- this word is the n-th of the additions that a group may have, and changes what the group gives to
-- the second
pub data AddsWord : ℕ → LineBytes → Give → Give → Type 0 where
  target : {name : LineBytes} {g : Give} → IsName name
      → AddsWord 0 (codes "as=" ++ name) g (record g { target_name = name })
  rights : {w : LineBytes} {r : RightSet} {g : Give} → g.kind ≡ kind.Directory → IsRightsText w r
      → AddsWord 1 (codes "rights=" ++ w) g (record g { rights = Some r })
  subdir : {w : LineBytes} {g : Give} → g.kind ≡ kind.Directory → IsTrue (is_subdir w)
      → AddsWord 2 (codes "subdir=" ++ w) g (record g { subdir = Some w })
  weak : {g : Give} → AddsWord 3 (codes "weak") g (record g { dependency = dependency.Weak })
  optional : {g : Give} → AddsWord 4 (codes "optional") g (record g { availability = availability.Optional })
  transitional : {g : Give}
      → AddsWord 4 (codes "transitional") g (record g { availability = availability.Transitional })
  same_as_target : {g : Give}
      → AddsWord 4 (codes "same_as_target") g (record g { availability = availability.SameAsTarget })

mutual
  -- these words are groups, each of which begins with `+`, and this is what they give
  pub data Groups : List LineBytes → List Give → Type 0 where
    no_group : Groups [] []
    group : {k : Kind} {name from : LineBytes} {origin : Origin} {ws : List LineBytes} {gs : List Give}
        → IsName name
        → IsOriginText from origin → HasAdditions 0 (plain_give k name origin) ws gs
        → Groups (codes "+" ∷ kind_word k ∷ name ∷ from ∷ ws) gs

  -- what follows a group's origin: additions from the n-th on, each once at most and in their order,
  -- and further groups
  pub data HasAdditions : ℕ → Give → List LineBytes → List Give → Type 0 where
    whole : {n : ℕ} {g : Give} {ws : List LineBytes} {gs : List Give} → Groups ws gs
        → HasAdditions n g ws (g ∷ gs)
    addition : {n m : ℕ} {g h : Give} {w : LineBytes} {ws : List LineBytes} {gs : List Give} → n ≤ m
        → AddsWord m w g h
        → HasAdditions (m + 1) h ws gs → HasAdditions n g (w ∷ ws) gs

-- the grammar of commands: the words of each, and what they ask for
pub data CommandWords : List LineBytes → Command → Type 0 where
  resolve : {t : LineBytes} {a : Target} → IsTargetText t a
      → CommandWords (codes "resolve" ∷ t ∷ []) (command.Resolve a)
  start : {t : LineBytes} {a : Target} → IsTargetText t a
      → CommandWords (codes "start" ∷ t ∷ []) (command.Start a)
  stop : {t : LineBytes} {a : Target} → IsTargetText t a
      → CommandWords (codes "stop" ∷ t ∷ []) (command.Stop a)
  shutdown : {t : LineBytes} {a : Target} → IsTargetText t a
      → CommandWords (codes "shutdown" ∷ t ∷ []) (command.Shutdown a)
  create : {t coll name url : LineBytes} {a : Target} {ws : List LineBytes} {gives : List Give}
      → IsTargetText t a
      → IsName coll → IsName name → IsUrlText url → Groups ws gives
      → CommandWords (codes "create" ∷ t ∷ coll ∷ name ∷ url ∷ ws) (command.Create a coll name url gives)
  destroy : {t : LineBytes} {a : Target} → IsTargetText t a
      → CommandWords (codes "destroy" ∷ t ∷ []) (command.Destroy a)
  list : {t coll : LineBytes} {a : Target} → IsTargetText t a → IsName coll
      → CommandWords (codes "list" ∷ t ∷ coll ∷ []) (command.ListChildren a coll)
  open_use : {t path : LineBytes} {a : Target} → IsTargetText t a → IsTrue (is_path path)
      → CommandWords (codes "open" ∷ t ∷ path ∷ []) (command.OpenUse a path)
  open_exposed : {t name : LineBytes} {a : Target} → IsTargetText t a → IsName name
      → CommandWords (codes "open-exposed" ∷ t ∷ name ∷ []) (command.OpenExposed a name)
  route_of : {t path : LineBytes} {a : Target} → IsTargetText t a → IsTrue (is_path path)
      → CommandWords (codes "route" ∷ t ∷ path ∷ []) (command.RouteOf a path)
  doctor : {t : LineBytes} {a : Target} → IsTargetText t a
      → CommandWords (codes "doctor" ∷ t ∷ []) (command.Doctor a)
  show : {t : LineBytes} {a : Target} → IsTargetText t a
      → CommandWords (codes "show" ∷ t ∷ []) (command.Show a)
  survey : {t : LineBytes} {a : Target} → IsTargetText t a
      → CommandWords (codes "survey" ∷ t ∷ []) (command.Survey a)
  exited : {t : LineBytes} {a : Target} → IsTargetText t a
      → CommandWords (codes "exited" ∷ t ∷ []) (command.Exited a)
  events : {t from : LineBytes} {a : Target} {n : ℕ} → IsTargetText t a → IsNumberText from n → n < 2 ^ 64
      → CommandWords (codes "events" ∷ t ∷ from ∷ []) (command.Events a n)

-- the line asks for this command
abbrev pub CommandText : LineBytes → Command → Type 0
CommandText t c = CommandWords (words_of t) c

-- the line asks for some command
abbrev pub IsCommandText : LineBytes → Type 0
IsCommandText t = (c : Command) × CommandText t c

-- the line asks for no command, and its longest prefix that can be completed to one has n bytes
abbrev pub IsCommandFault : LineBytes → CommandFault → Type 0
IsCommandFault t (BadCommand n) = (IsCommandText t → ⊥) × IsLongestPrefix IsCommandText t n
IsCommandFault t Memory = ⊥

-- the words that follow `builtin` in a script; a protocol's path is /svc/ and its name
pub data BuiltinWords : List LineBytes → Builtin → Type 0 where
  protocol : {name : LineBytes} → IsName name
      → BuiltinWords (codes "protocol" ∷ name ∷ [])
      (record { kind = kind.Protocol; name = name; path = service_path name; rights = None })
  directory : {name path w : LineBytes} {r : RightSet} → IsName name → IsTrue (is_path path)
      → IsRightsText w r
      → BuiltinWords (codes "directory" ∷ name ∷ path ∷ w ∷ [])
      (record { kind = kind.Directory; name = name; path = path; rights = Some r })

-- the text that follows `builtin ` says that there is this capability
abbrev pub BuiltinText : LineBytes → Builtin → Type 0
BuiltinText t b = BuiltinWords (words_of t) b

-- the text that follows `builtin ` says that there is some capability
abbrev pub IsBuiltinText : LineBytes → Type 0
IsBuiltinText t = (b : Builtin) × BuiltinText t b

-- the text says no such thing, and its longest prefix that can be completed to one that does has n
-- bytes
abbrev pub IsBuiltinFault : LineBytes → CommandFault → Type 0
IsBuiltinFault t (BadCommand n) = (IsBuiltinText t → ⊥) × IsLongestPrefix IsBuiltinText t n
IsBuiltinFault t Memory = ⊥

-- ---- laws

-- a line asks for one command at most
abbrev pub LinesReadOneWay : Type 0
LinesReadOneWay = (t : LineBytes) (c d : Command) → CommandText t c → CommandText t d → c ≡ d
