-- Inside.
-- The desks of callers side by side are made of passes, gates and works, and cleared into lists again, which
-- are reserved beforehand.
use Rattle.std.specs.Prelude.{◌≡◌, ℕ, ◌+◌, ◌≤◌, List, [], ◌∷◌, ◌++◌, All, Any, map, length, true, false, Some}
use Rattle.std.specs.Prelude.{vec_capacity}
use Rattle.std.specs.declared.alloc.Global.{Global}
use Rattle.std.specs.declared.vec.Vec.{Vec}
use Rattle.cm_manager.specs.Contract.{RealmPass}
use Rattle.cm_manager.specs.declared.desks.Desk.{Desk}
use Rattle.cm_manager.specs.declared.desks.DeskParts.{DeskParts}
use Rattle.cm_manager.specs.declared.desks.DeskRoom.{DeskRoom}

-- the lists that desks with works of this type are cleared into
abbrev pub DeskLists : Type 0 → Type 0 → Type 0
DeskLists G W = DeskParts G (Vec W Global)

module _ {G W : Type 0} where
  -- a desk for each of these passes, with what stands at its place in the other lists; nothing is lost yet
  pub record AreDesksOf (passes : List RealmPass) (gates : List G) (works : List W)
      (desks : List (Desk G W)) : Type 0 where
    pub passes_are : map (λ d. d.pass) desks ≡ map Some passes
    pub gates_are : map (λ d. d.gates) desks ≡ gates
    pub works_are : map (λ d. d.work) desks ≡ works
    pub well : All (λ d. d.lost ≡ false) desks

  -- the lists have room for the parts of n more desks
  pub record DeskPartsHaveRoom (n : ℕ) (parts : DeskLists G W) : Type 0 where
    pub passes : length parts.passes.items + n ≤ vec_capacity parts.passes
    pub gates : length parts.gates.items + n ≤ vec_capacity parts.gates
    pub works : length parts.works.items + n ≤ vec_capacity parts.works

  -- the lists of parts are empty
  pub record NoDeskParts (parts : DeskLists G W) : Type 0 where
    pub passes : parts.passes.items ≡ []
    pub gates : parts.gates.items ≡ []
    pub works : parts.works.items ≡ []
    pub lost : parts.lost ≡ false

  -- all the memory that n desks need was reserved: for the desks, for their works and for their parts
  pub record DesksHaveRoom (n : ℕ) (room : DeskRoom G W) : Type 0 where
    pub no_desks : room.desks.items ≡ []
    pub desks : n ≤ vec_capacity room.desks
    pub no_works : room.works.items ≡ []
    pub works : n ≤ vec_capacity room.works
    pub no_parts : NoDeskParts room.parts
    pub parts : DeskPartsHaveRoom n room.parts

  -- a desk with its pass there; it has none only within a call
  pub record HasPassIn (desk : Desk G W) : Type 0 where
    pub pass : RealmPass
    pub there : desk.pass ≡ Some pass

  -- the parts of one desk are added to the lists
  pub record PutsDeskParts (desk : Desk G W) (old new : DeskLists G W) : Type 0 where
    pub pass : RealmPass
    pub there : desk.pass ≡ Some pass
    pub passes : new.passes.items ≡ old.passes.items ++ pass ∷ []
    pub gates : new.gates.items ≡ old.gates.items ++ desk.gates ∷ []
    pub works : new.works.items ≡ old.works.items ++ desk.work ∷ []
    pub well : new.lost ≡ false → (old.lost ≡ false) × (desk.lost ≡ false)
    pub lost : new.lost ≡ true → old.lost ≡ false → desk.lost ≡ true
    pub room : (n : ℕ) → DeskPartsHaveRoom (n + 1) old → DeskPartsHaveRoom n new

  -- these are the parts of these desks, in their order; something was lost where it was at one of them
  pub record AreDeskParts (desks : List (Desk G W)) (parts : DeskLists G W) : Type 0 where
    pub passes : map Some parts.passes.items ≡ map (λ d. d.pass) desks
    pub gates : parts.gates.items ≡ map (λ d. d.gates) desks
    pub works : parts.works.items ≡ map (λ d. d.work) desks
    pub well : parts.lost ≡ false → All (λ d. d.lost ≡ false) desks
    pub lost : parts.lost ≡ true → Any (λ d. d.lost ≡ true) desks
