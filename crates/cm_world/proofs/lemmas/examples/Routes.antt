-- The worked examples of routes.
use Rattle.std.proofs.Common.{ℕ, [], ◌∷◌, Some, None, take, refl, true≢false, sym, ap}
use Rattle.std.specs.Cmp.{unsigned_Decides}
use Rattle.cm_names.specs.Rights.{reading}
use Rattle.cm_names.specs.declared.availability.Availability.TheVariants.{Required, Optional, Transitional, SameAsTarget}
use Rattle.cm_decl.specs.declared.origin.Origin.TheVariants as origin
use Rattle.cm_decl.specs.Examples.{from_child}
use Rattle.cm_world.specs.declared.route.Start.TheVariants.{UseAt}
use Rattle.cm_world.specs.declared.route.StepKind.TheVariants.{OfferHop, ExposeHop, CapabilityHop}
use Rattle.cm_world.specs.declared.route.Walked.TheVariants as walked
use Rattle.cm_world.specs.declared.route.Why.TheVariants as why
use Rattle.cm_world.specs.declared.event.Event.TheVariants.{Find}
use Rattle.cm_world.specs.declared.reply.Reply.{Reply}
use Rattle.cm_world.specs.declared.reply.Reply.TheVariants.{Found}
use Rattle.cm_world.specs.World.{start}
use Rattle.cm_world.specs.Stations.{Station, end_station}
use Rattle.cm_world.specs.Route.{IsWalked}
use Rattle.cm_world.specs.Step.{Allowed}
use Rattle.cm_world.specs.After.{after}
use Rattle.cm_world.specs.Legal.{Legal, replay}
use Rattle.cm_world.specs.Examples.{frame, offer_hop, expose_hop, capability_hop, no_offer_hop, no_expose_hop, route_entries, unoffered_entries, unexposed_entries, whole_route, s, s_path, l, c, at_root, at_child}
use Rattle.cm_world.specs.RouteExamples.{d, d_path, i_path, reading_writing, subdir_rows, subdir_route, weak_rows, weak_walk, directory_hop, void_rows, voided_rows, void_hop, passing_rows, passed_walk, small_frame, full_entries}
use Rattle.cm_world.specs.Worlds.{more_sure}
use Rattle.cm_world.proofs.lemmas.examples.Declarations.{root_valid, logger_valid, client_valid, no_offer_valid, no_expose_valid, one_child_valid}

-- ---- histories

-- The station of the root's offer to the client, which has s from the logger.
abbrev pub offering : Station
offering = record { hop = offer_hop; source = Some (from_child l); source_name = s; subdir = None; path = [] }

-- The station of the logger's expose of s, which it provides itself.
abbrev pub exposing : Station
exposing = record { hop = expose_hop; source = Some origin.Own; source_name = s; subdir = None; path = [] }

-- each of the eleven entries is allowed where it stands
pub route_is_legal : Legal (start frame) route_entries
unfolding after
route_is_legal = (
  record { enabled = tt; allowed = refl },
  (
    record { enabled = refl; allowed = refl },
    (
      record { enabled = record { act = _; there = refl; pending = refl; own = refl; fitting = refl; valid = root_valid }; allowed = refl },
      (
        record { enabled = tt; allowed = refl },
        (
          record { enabled = tt; allowed = refl },
          (
            record { enabled = refl; allowed = refl },
            (
              record { enabled = record { act = _; there = refl; pending = refl; own = refl; fitting = refl; valid = client_valid }; allowed = refl },
              (
                record { enabled = tt; allowed = (walked.Need 1, record { rest = offering ∷ []; chain = (refl, tt); decided = (refl, refl) }, refl) },
                (
                  record { enabled = refl; allowed = refl },
                  (
                    record { enabled = record { act = _; there = refl; pending = refl; own = refl; fitting = refl; valid = logger_valid }; allowed = refl },
                    (
                      record { enabled = tt; allowed = (walked.Given whole_route, record { rest = offering ∷ exposing ∷ end_station capability_hop s_path ∷ []; chain = (refl, (refl, (refl, tt))); decided = (refl, (refl, (refl, refl))) }, refl) },
                      tt,
                    ),
                  ),
                ),
              ),
            ),
          ),
        ),
      ),
    ),
  ),
)

-- a route that lacks an offer fails at the missing offer of the root
pub unoffered_is_legal : Legal (start frame) unoffered_entries
unfolding after
unoffered_is_legal = (
  record { enabled = tt; allowed = refl },
  (
    record { enabled = refl; allowed = refl },
    (
      record { enabled = record { act = _; there = refl; pending = refl; own = refl; fitting = refl; valid = no_offer_valid }; allowed = refl },
      (
        record { enabled = tt; allowed = refl },
        (
          record { enabled = tt; allowed = refl },
          (
            record { enabled = refl; allowed = refl },
            (
              record { enabled = record { act = _; there = refl; pending = refl; own = refl; fitting = refl; valid = client_valid }; allowed = refl },
              (
                record { enabled = tt; allowed = (walked.Failed no_offer_hop why.NoOffer, record { rest = []; chain = tt; decided = refl }, refl) },
                tt,
              ),
            ),
          ),
        ),
      ),
    ),
  ),
)

-- A history whose route fails at the missing expose of the logger is legal.
pub unexposed_is_legal : Legal (start frame) unexposed_entries
unfolding after
unexposed_is_legal = (
  record { enabled = tt; allowed = refl },
  (
    record { enabled = refl; allowed = refl },
    (
      record { enabled = record { act = _; there = refl; pending = refl; own = refl; fitting = refl; valid = root_valid }; allowed = refl },
      (
        record { enabled = tt; allowed = refl },
        (
          record { enabled = tt; allowed = refl },
          (
            record { enabled = refl; allowed = refl },
            (
              record { enabled = record { act = _; there = refl; pending = refl; own = refl; fitting = refl; valid = client_valid }; allowed = refl },
              (
                record { enabled = tt; allowed = (walked.Need 1, record { rest = offering ∷ []; chain = (refl, tt); decided = (refl, refl) }, refl) },
                (
                  record { enabled = refl; allowed = refl },
                  (
                    record { enabled = record { act = _; there = refl; pending = refl; own = refl; fitting = refl; valid = no_expose_valid }; allowed = refl },
                    (
                      record { enabled = tt; allowed = (walked.Failed no_expose_hop why.NoExpose, record { rest = offering ∷ []; chain = (refl, tt); decided = (refl, refl) }, refl) },
                      tt,
                    ),
                  ),
                ),
              ),
            ),
          ),
        ),
      ),
    ),
  ),
)

-- where the children don't fit, the resolve ends with Full
pub full_is_legal : Legal (start small_frame) full_entries
unfolding after
full_is_legal = (
  record { enabled = tt; allowed = refl },
  (
    record { enabled = refl; allowed = refl },
    (
      record { enabled = record { act = _; there = refl; pending = refl; own = refl; fitting = refl; valid = one_child_valid }; allowed = refl },
      tt,
    ),
  ),
)

-- The incarnation that a look-up's reply has found, or zero.
found_inc : Reply → ℕ
found_inc (Found i) = i
found_inc _ = 0

-- where the client is found, the logger is not
pub finds_no_other : Allowed (replay (start frame) (take 3 route_entries)) 0 (Find (at_child c)) (Found 1) → ⊥
unfolding after found_inc
finds_no_other e = true≢false (sym ((unsigned_Decides 1 2).1 (ap found_inc e)))

-- ---- verdicts

-- the subdirectories stand behind the store's path from the source to the use
pub subdirs_are_joined : IsWalked subdir_rows [] (UseAt 2 i_path) (walked.Given subdir_route)
subdirs_are_joined = record {
  rest =
      record { hop = directory_hop OfferHop 0 at_root (Some reading) (Some Required); source = Some (from_child l); source_name = d; subdir = Some (98 ∷ 47 ∷ 99 ∷ []); path = [] }
      ∷ record { hop = directory_hop ExposeHop 1 (at_child l) None (Some Required); source = Some origin.Own; source_name = d; subdir = Some (97 ∷ []); path = [] }
      ∷ end_station (directory_hop CapabilityHop 1 (at_child l) (Some reading_writing) None) d_path
      ∷ [];
  chain = (refl, (refl, (refl, tt)));
  decided = (refl, (refl, (refl, refl)));
}

-- the rights of the expose are too weak for what the use asks
pub rights_are_weak : IsWalked weak_rows [] (UseAt 2 i_path) weak_walk
rights_are_weak = record {
  rest =
      record { hop = directory_hop OfferHop 0 at_root None (Some Required); source = Some (from_child l); source_name = d; subdir = None; path = [] }
      ∷ record { hop = directory_hop ExposeHop 1 (at_child l) (Some reading) (Some Required); source = Some origin.Own; source_name = d; subdir = None; path = [] }
      ∷ [];
  chain = (refl, (refl, tt));
  decided = (refl, (refl, refl));
}

-- The last station of a walk that comes to a source that is the void.
abbrev leaving_out : Station
leaving_out = record { hop = void_hop; source = Some origin.Void; source_name = s; subdir = None; path = [] }

-- An optional use of what is offered from the void, optionally, comes to the void.
pub optional_meets_void : IsWalked (void_rows Optional) [] (UseAt 1 s_path) (walked.Void void_hop)
optional_meets_void = record { rest = leaving_out ∷ []; chain = (refl, tt); decided = (refl, refl) }

-- A required use of what is offered from the void, optionally, fails, as the offer is too weak.
pub required_fails : IsWalked (void_rows Required) [] (UseAt 1 s_path) (walked.Failed void_hop (why.AvailabilityTooWeak Required Optional))
required_fails = record { rest = leaving_out ∷ []; chain = (refl, tt); decided = (refl, refl) }

-- A transitional use of what is offered from the void, optionally, comes to the void.
pub transitional_meets_void : IsWalked (voided_rows Transitional Optional) [] (UseAt 1 s_path) (walked.Void void_hop)
transitional_meets_void = record { rest = leaving_out ∷ []; chain = (refl, tt); decided = (refl, refl) }

-- An optional use of what is offered from the void, transitionally, fails.
pub optional_fails : IsWalked (voided_rows Optional Transitional) [] (UseAt 1 s_path) more_sure
optional_fails = record { rest = record leaving_out { hop = record void_hop { availability = Some Transitional } } ∷ []; chain = (refl, tt); decided = (refl, refl) }

-- what the use asks stands at the offer, and the expose is too weak for it
pub required_passes : IsWalked (passing_rows Required SameAsTarget) [] (UseAt 2 s_path) passed_walk
required_passes = record {
  rest =
      record { hop = record offer_hop { availability = Some SameAsTarget }; source = Some (from_child l); source_name = s; subdir = None; path = [] }
      ∷ record { hop = record offer_hop { step = ExposeHop; inc = 1; moniker = at_child l; availability = Some Optional }; source = Some origin.Own; source_name = s; subdir = None; path = [] }
      ∷ [];
  chain = (refl, (refl, tt));
  decided = (refl, (refl, refl));
}
