-- Promised.
-- How routes, their hops, and the reasons why there is none are written.
use Rattle.std.specs.Prelude.{◌++◌, codes, decimal}
use Rattle.cm_names.specs.Moniker.{moniker_text}
use Rattle.cm_names.specs.Rights.{RightSet, text_of}
use Rattle.cm_world.specs.declared.route.StepKind.{StepKind}
use Rattle.cm_world.specs.declared.route.StepKind.TheVariants as step
use Rattle.cm_world.specs.declared.route.Hop.{Hop}
use Rattle.cm_world.specs.declared.route.Provider.{Provider}
use Rattle.cm_world.specs.declared.route.Provider.TheVariants as provider
use Rattle.cm_world.specs.declared.route.Route.{Route}
use Rattle.cm_world.specs.declared.route.Why.{Why}
use Rattle.cm_world.specs.declared.route.Why.TheVariants as why
use Rattle.cm_reply.specs.Lists.{TextBytes, joined_by, when_some}

-- the word for a hop, by its kind
abbrev pub step_word : StepKind → TextBytes
step_word step.UseHop = codes "use"
step_word step.OfferHop = codes "offer"
step_word step.ExposeHop = codes "expose"
step_word step.CapabilityHop = codes "capability"
step_word step.FrameworkHop = codes "framework"
step_word step.BuiltinHop = codes "builtin"

-- a hop: its word, and the moniker of its instance
abbrev pub hop_text : Hop → TextBytes
hop_text h = step_word h.step ++ (codes " " ++ moniker_text h.moniker)

-- the word for the reason why there is no route
abbrev pub why_word : Why → TextBytes
why_word why.NoOffer = codes "no-offer"
why_word why.NoExpose = codes "no-expose"
why_word why.NoInstance = codes "no-instance"
why_word why.NoBuiltin = codes "no-builtin"
why_word (why.AvailabilityTooWeak asked given) = codes "availability-too-weak"
why_word (why.RightsTooWeak asked given) = codes "rights-too-weak"

-- who provides a capability, as routes and places tell it
abbrev pub source_text : Provider → TextBytes
source_text (provider.Instance inc moniker) = moniker_text moniker ++ (codes " incarnation " ++ decimal inc)
source_text provider.Framework = codes "framework"
source_text provider.Builtin = codes "builtin"

-- the rights with which a directory is opened
abbrev pub rights_words : RightSet → TextBytes
rights_words rights = codes " rights " ++ text_of rights

-- where a route leads, and with which rights
abbrev pub place_text : Route → TextBytes
place_text r = r.path ++ (codes " at " ++ (source_text r.provider ++ when_some rights_words r.rights))

-- a whole route: where it leads, and through which hops
abbrev pub route_text : Route → TextBytes
route_text r = place_text r ++ (codes " through " ++ joined_by (codes ", ") hop_text r.hops)

-- why there is no route, and the hop at which it fails
abbrev pub failure_text : Hop → Why → TextBytes
failure_text hop reason = why_word reason ++ (codes " at " ++ hop_text hop)

-- the hop that leaves the capability out on purpose
abbrev pub void_text : Hop → TextBytes
void_text hop = codes "void at " ++ hop_text hop
