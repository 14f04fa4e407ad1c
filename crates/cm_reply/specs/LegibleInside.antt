-- Inside.
-- Which entries and realms a journal can tell of, by their replies and by what the realm was made
-- with.
use Rattle.std.specs.Prelude.{◌≡◌, ℕ, ◌<◌, ◌^◌, List, ◌∷◌, All, IsTrue}
use Rattle.std.specs.List.{list_all}
use Rattle.cm_names.specs.Name.{IsName}
use Rattle.cm_names.specs.Path.{is_path}
use Rattle.cm_names.specs.Moniker.{IsChildName}
use Rattle.cm_names.specs.Urls.{is_url_byte, is_url_text}
use Rattle.cm_names.specs.declared.moniker.Moniker.{Moniker}
use Rattle.cm_decl.specs.declared.node.Node.{Node}
use Rattle.cm_decl.specs.declared.node.Node.TheVariants as node
use Rattle.cm_world.specs.declared.event.Event.TheVariants as event
use Rattle.cm_world.specs.declared.frame.Frame.{Frame}
use Rattle.cm_world.specs.declared.report.SurveyRow.{SurveyRow}
use Rattle.cm_world.specs.declared.reply.Entry.{Entry}
use Rattle.cm_world.specs.declared.reply.Reply.{Reply}
use Rattle.cm_world.specs.declared.reply.Reply.TheVariants as reply
use Rattle.cm_world.specs.declared.route.Provider.{Provider}
use Rattle.cm_world.specs.declared.route.Provider.TheVariants as provider
use Rattle.cm_world.specs.declared.route.Route.{Route}
use Rattle.cm_command.specs.Words.{IsUrlText}
use Rattle.cm_reply.specs.Legible.{IsLegible, IsLegibleBuiltin}

-- all parts of the moniker are names of children
abbrev pub IsOfNames : Moniker → Type 0
IsOfNames m = All IsChildName m.parts

-- the node of a realm graph is the component itself, or a child with a proper name
abbrev pub IsOfName : Node → Type 0
IsOfName node.Own = Unit {0}
IsOfName (node.Child child) = IsChildName child

-- a slash and printing bytes that are no spaces: a path, or one with subdirectories after it, which
-- may be longer than a path may be
abbrev pub IsLongPath : List ℕ → Type 0
IsLongPath t = (rest : List ℕ) × (t ≡ 47 ∷ rest) × IsTrue (list_all is_url_byte rest)

-- a provider that can be told: an instance has a proper moniker
abbrev pub IsLegibleProvider : Provider → Type 0
IsLegibleProvider (provider.Instance inc moniker) = IsOfNames moniker
IsLegibleProvider _ = Unit {0}

-- a route that can be told: its path is one, and its monikers are proper ones
pub record IsLegibleRoute (r : Route) : Type 0 where
  pub path : IsLongPath r.path
  pub provider : IsLegibleProvider r.provider
  pub hops : All (λ h. IsOfNames h.moniker) r.hops

-- a row of a survey that can be told
pub record IsLegibleSurvey (r : SurveyRow) : Type 0 where
  pub moniker : IsOfNames r.moniker
  pub paths : All (λ p. IsTrue (is_path p)) r.paths

-- a reply that can be told: its names, monikers, paths and URLs are in their grammars. All else of it
-- is written in numbers and words
abbrev pub IsLegibleReply : Reply → Type 0
IsLegibleReply (reply.NotFound m) = IsOfNames m
IsLegibleReply (reply.Cycle nodes) = All IsOfName nodes
IsLegibleReply (reply.Failed hop why) = IsOfNames hop.moniker
IsLegibleReply (reply.Void hop) = IsOfNames hop.moniker
IsLegibleReply (reply.Given route) = IsLegibleRoute route
IsLegibleReply (reply.Opened route) = IsLegibleRoute route
IsLegibleReply (reply.Listed kids) = All (λ k. IsName k.name) kids
IsLegibleReply (reply.Shown look) = IsTrue (is_url_text look.url)
IsLegibleReply (reply.Surveyed rows) = All IsLegibleSurvey rows
IsLegibleReply _ = Unit {0}

-- an entry that can be told: its event and its reply can, and its caller has 32 bits
pub record IsLegibleEntry (e : Entry) : Type 0 where
  pub caller : e.caller < 2 ^ 32
  pub event : IsLegible e.event
  pub reply : IsLegibleReply e.reply

-- what a realm was made with can be told, but for its limit of entries: the lines of the root and of
-- builtins say all
pub record IsLegibleFrame (f : Frame) : Type 0 where
  pub root : IsUrlText f.root
  pub builtins : All IsLegibleBuiltin f.builtins
  pub rows : f.limits.rows ≡ 65536
