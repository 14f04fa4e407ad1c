-- Promised.
-- The script that a generated workload is: a tree in which each instance has up to four children and uses a
-- protocol of its parent.
use Rattle.std.specs.Prelude.{ℕ, zero, suc, ◌+◌, ◌-◌, ◌*◌, ◌/◌, ◌%◌, ◌^◌, ◌==◌, List, [], ◌∷◌, ◌++◌, codes}
use Rattle.std.specs.Prelude.{decimal, map, filter, nat_lt, false, if◌then◌else◌, Some, None}
use Rattle.std.specs.List.{range_with_len}
use Rattle.cm_names.specs.declared.availability.Availability.TheVariants as availability
use Rattle.cm_names.specs.declared.child.ChildName.{ChildName}
use Rattle.cm_names.specs.declared.dependency.Dependency.TheVariants as dependency
use Rattle.cm_names.specs.declared.moniker.Moniker.{Moniker}
use Rattle.cm_names.specs.Path.{service_path}
use Rattle.cm_decl.specs.Graph.{static_name}
use Rattle.cm_decl.specs.declared.decl.Decl.{Decl}
use Rattle.cm_decl.specs.declared.kind.Kind.TheVariants as kind
use Rattle.cm_decl.specs.declared.origin.Origin.TheVariants as origin
use Rattle.cm_decl.specs.declared.rows.Capability.{Capability}
use Rattle.cm_decl.specs.declared.rows.Child.{Child}
use Rattle.cm_decl.specs.declared.rows.Give.{Give}
use Rattle.cm_decl.specs.declared.rows.Offer.{Offer}
use Rattle.cm_decl.specs.declared.rows.Usage.{Usage}
use Rattle.cm_read.specs.Writing.{decl_text}
use Rattle.cm_world.specs.declared.event.Target.TheVariants as target
use Rattle.cm_command.specs.declared.command.Command.{Command}
use Rattle.cm_command.specs.declared.command.Command.TheVariants as command
use Rattle.cm_command.specs.declared.script.Block.{Block}
use Rattle.cm_command.specs.declared.script.Line.{Line}
use Rattle.cm_command.specs.declared.script.Script.{Script}

-- a text, as its bytes of UTF-8
abbrev pub WordBytes : Type 0
WordBytes = List ℕ

-- ---- instance k of n, counted from 0, which is the root

-- the number of instance k's parent, where k isn't the root
abbrev pub parent_of : ℕ → ℕ
parent_of k = (k - 1) / 4

-- the numbers of instance k's children, of n instances in all
abbrev pub kids_of : ℕ → ℕ → List ℕ
kids_of n k = filter (λ c. nat_lt c n) (range_with_len (k * 4 + 1) 4)

-- the name of instance k, from which its moniker is made
abbrev pub name_of : ℕ → WordBytes
name_of k = codes "i" ++ decimal k

-- the URL of instance k, under which its manifest is found
abbrev pub url_of : ℕ → WordBytes
url_of k = codes "fuchsia-pkg://gen/p#meta/" ++ (decimal k ++ codes ".cm")

-- the name of the protocol that instance k provides, and that its children use
abbrev pub protocol_of : ℕ → WordBytes
protocol_of k = codes "p." ++ decimal k

-- the names from the root to instance k, at most so many
abbrev pub names_to : ℕ → ℕ → List ChildName
names_to zero k = []
names_to (suc most) zero = []
names_to (suc most) (suc k) = names_to most (parent_of (suc k)) ++ static_name (name_of (suc k)) ∷ []

-- the moniker of instance k: the names from the root down to it
abbrev pub moniker_of : ℕ → Moniker
moniker_of k = record { parts = names_to k k }

-- ---- its manifest

-- what its parent declares of instance c
abbrev pub child_row : ℕ → Child
child_row c = record { name = name_of c; url = url_of c; eager = false; environment = None }

-- the protocol of instance k, as it is given to a child
abbrev pub give_row : ℕ → Give
give_row k = record {
  kind = kind.Protocol;
  source_name = protocol_of k;
  from = origin.Own;
  target_name = protocol_of k;
  rights = None;
  subdir = None;
  dependency = dependency.Strong;
  availability = availability.Required;
}

-- the offer of instance k's protocol to child c
abbrev pub offer_row : ℕ → ℕ → Offer
offer_row k c = record { to = name_of c; give = give_row k }

-- the one capability of instance k, which is its protocol
abbrev pub capability_row : ℕ → Capability
capability_row k = record {
  kind = kind.Protocol;
  name = protocol_of k;
  path = service_path (protocol_of k);
  rights = None;
}

-- the use of the protocol of this parent
abbrev pub use_row : ℕ → Usage
use_row parent = record {
  kind = kind.Protocol;
  name = protocol_of parent;
  from = origin.Parent;
  path = service_path (protocol_of parent);
  rights = None;
  subdir = None;
  dependency = dependency.Strong;
  availability = availability.Required;
}

-- what instance k uses: its parent's protocol; nothing at the root
abbrev pub use_rows : ℕ → List Usage
use_rows k = if k == 0 then [] else use_row (parent_of k) ∷ []

-- the declaration of instance k, of n in all
abbrev pub decl_of : ℕ → ℕ → Decl
decl_of n k = record {
  runner = Some (codes "gen");
  children = map child_row (kids_of n k);
  collections = [];
  capabilities = capability_row k ∷ [];
  uses = use_rows k;
  offers = map (offer_row k) (kids_of n k);
  exposes = [];
  environments = [];
  debug_uses = [];
  storages = [];
  storage_uses = [];
  storage_offers = [];
}

-- the manifest of instance k as a block of the script; it has the line 0, since it was read from none
abbrev pub block_of : ℕ → ℕ → Block
block_of n k = record { line = 0; url = url_of k; bytes = decl_text (decl_of n k) }

-- ---- the lines

-- the number that follows x in the sequence of draws
abbrev pub next_of : ℕ → ℕ
next_of x = (x * 1103515245 + 12345) % 2 ^ 31

-- so many instances of n, drawn one after another from x on
abbrev pub drawn : ℕ → ℕ → ℕ → List ℕ
drawn n x zero = []
drawn n x (suc more) = (next_of x / 65536) % n ∷ drawn n (next_of x) more

-- these commands as lines, which go to four lanes in turn; the first has the number j
abbrev pub in_turns : ℕ → List Command → List Line
in_turns j [] = []
in_turns j (c ∷ cs) = record { line = 0; lane = j % 4; command = c } ∷ in_turns (j + 1) cs

-- the command that starts this instance
abbrev pub start_at : Moniker → Command
start_at m = command.Start (target.Named m)

-- the command that starts instance k
abbrev pub start_of : ℕ → Command
start_of k = start_at (moniker_of k)

-- the command that asks something of instance k: the root is shown, every other opens what it uses
abbrev pub ask_of : ℕ → Command
ask_of k = if k == 0 then command.Show (target.Named (moniker_of k))
    else command.OpenUse (target.Named (moniker_of k)) (service_path (protocol_of (parent_of k)))

-- the workload's script: each of n instances is started, and then as many are asked, by draws from g
-- on
abbrev pub script_of : ℕ → ℕ → Script
script_of g n = record {
  manifests = map (block_of n) (range_with_len 0 n);
  builtins = [];
  root = url_of 0;
  phases = in_turns 0 (map start_of (range_with_len 0 n)) ∷ in_turns 0 (map ask_of (drawn n g n)) ∷ [];
}
