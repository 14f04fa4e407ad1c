-- The changes of one row that an entry may make, each of which leaves the tree sound.
use Rattle.std.proofs.Common.{◌≡◌, ℕ, List, Bool, true, false, Option, Some, None, is_none, is_some, IsTrue, refl, sym, ◌∙◌, ap, subst}
use Rattle.std.specs.Option.{option_map_or}
use Rattle.cm_names.specs.declared.child.ChildName.{ChildName}
use Rattle.cm_world.specs.declared.row.Row.{Row}
use Rattle.cm_world.specs.declared.action.ActKind.{ActKind}
use Rattle.cm_world.specs.declared.action.Outcome.{Outcome}
use Rattle.cm_world.specs.declared.action.Outcome.TheVariants.{Started, Stopped, Killed}
use Rattle.cm_world.specs.Rows.{row_of, is_closing}
use Rattle.cm_world.specs.End.{changed, set_pending, set_on, set_closing, set_doomed, set_shut, end_row}
use Rattle.cm_world.specs.Marks.{is_dynamic}
use Rattle.cm_world.specs.Sound.{IsSound, IsWellShut}
use Rattle.cm_world.proofs.lemmas.trees.Finding.{some_same, row_of-inc}
use Rattle.cm_decl.proofs.lemmas.Sameness.{never}
use Rattle.cm_laws.proofs.lemmas.sound.Rows.{Lasts}
use Rattle.cm_laws.proofs.lemmas.sound.Changes.{is_static_name, sound_changed}

-- ---- whether it is on, and what is pending

-- A change of a row that leaves its incarnation, place, name, declaration, gives and marks as they are.
pub record IsLight (f : Row → Row) : Type 0 where
  pub inc : (r : Row) → (f r).inc ≡ r.inc
  pub parent : (r : Row) → (f r).parent ≡ r.parent
  pub name : (r : Row) → (f r).name ≡ r.name
  pub decl : (r : Row) → (f r).decl ≡ r.decl
  pub gives : (r : Row) → (f r).gives ≡ r.gives
  pub closing : (r : Row) → (f r).closing ≡ r.closing
  pub doomed : (r : Row) → (f r).doomed ≡ r.doomed
  pub shut : (r : Row) → (f r).shut ≡ r.shut

-- To set what is pending at a row leaves its place, declaration, gives and marks as they are.
pub light_pending : (p : Option (ActKind × ℕ)) → IsLight (set_pending p)
light_pending p = record { inc = λ r. refl; parent = λ r. refl; name = λ r. refl; decl = λ r. refl; gives = λ r. refl; closing = λ r. refl; doomed = λ r. refl; shut = λ r. refl }

-- To set whether a row is on leaves its place, declaration, gives and marks as they are.
pub light_on : (on : Bool) → IsLight (set_on on)
light_on on = record { inc = λ r. refl; parent = λ r. refl; name = λ r. refl; decl = λ r. refl; gives = λ r. refl; closing = λ r. refl; doomed = λ r. refl; shut = λ r. refl }

-- The end of an action leaves the place, declaration, gives and marks of its row as they are.
pub light_end : (o : Outcome) → IsLight (end_row o)
light_end Started = record { inc = λ r. refl; parent = λ r. refl; name = λ r. refl; decl = λ r. refl; gives = λ r. refl; closing = λ r. refl; doomed = λ r. refl; shut = λ r. refl }
light_end Stopped = record { inc = λ r. refl; parent = λ r. refl; name = λ r. refl; decl = λ r. refl; gives = λ r. refl; closing = λ r. refl; doomed = λ r. refl; shut = λ r. refl }
light_end Killed = record { inc = λ r. refl; parent = λ r. refl; name = λ r. refl; decl = λ r. refl; gives = λ r. refl; closing = λ r. refl; doomed = λ r. refl; shut = λ r. refl }
light_end _ = record { inc = λ r. refl; parent = λ r. refl; name = λ r. refl; decl = λ r. refl; gives = λ r. refl; closing = λ r. refl; doomed = λ r. refl; shut = λ r. refl }

-- A row behind a change of what is on or pending alone keeps its parent and its marks.
pub light_lasts : (f : Row → Row) → IsLight f → (r : Row) → Lasts r (f r)
light_lasts f light r = record {
  parent = light.parent r;
  closing = λ h. light.closing r ∙ h;
  doomed = λ h. light.doomed r ∙ h;
  shut = λ h. light.shut r ∙ h;
}

-- the tree stays sound where a shut row is left off and idle
pub sound_light : (rows : List Row) (next i : ℕ) (f : Row → Row) → IsSound rows next → IsLight f → ((r : Row) → row_of rows i ≡ Some r → r.shut ≡ true → ((f r).on ≡ false) × ((f r).pending ≡ None)) → IsSound (changed i f rows) next
sound_light rows next i f sound light quiet =
    sound_changed rows next i f sound
    (record { inc = light.inc; parent = light.parent; name = light.name; decl = light.decl; gives = light.gives; doomed = λ r h. light.doomed r ∙ h })
    (record {
      inc = light.inc;
      lasts = light_lasts f light;
      closes = λ r here h. light.closing r ∙ sound.doomed i r here (sym (light.doomed r) ∙ h);
      shuts = λ r here h.
          let shut : r.shut ≡ true = sym (light.shut r) ∙ h in
          let q : ((f r).on ≡ false) × ((f r).pending ≡ None) = quiet r here shut in
          (q.0, q.1, subst (λ j. IsTrue (is_closing rows j)) (row_of-inc rows i r here) (sound.shut i r here shut).closing);
    })
    (record { inc = light.inc; parent = light.parent; name = light.name; gives = light.gives; spares = λ r here named h. light.doomed r ∙ h })

-- ---- marks

-- A row keeps its parent and its marks where it is marked to be shut down.
pub closing_lasting : (r : Row) → Lasts r (set_closing r)
closing_lasting r = record { parent = refl; closing = λ h. refl; doomed = λ h. h; shut = λ h. h }

-- A row keeps its parent and its marks where it is marked to be destroyed.
pub doomed_lasting : (r : Row) → Lasts r (set_doomed r)
doomed_lasting r = record { parent = refl; closing = λ h. refl; doomed = λ h. refl; shut = λ h. h }

-- A row keeps its parent and its marks where it is shut.
pub shut_lasting : (r : Row) → Lasts r (set_shut r)
shut_lasting r = record { parent = refl; closing = λ h. h; doomed = λ h. h; shut = λ h. refl }

module _ (rows : List Row) (next i : ℕ) (sound : IsSound rows next) where
  -- A row that is shut is off, has nothing pending, and is closing.
  still_well : (r : Row) → row_of rows i ≡ Some r → r.shut ≡ true → (r.on ≡ false) × (r.pending ≡ None) × IsTrue (is_closing rows i)
  still_well r here shut =
      let w : IsWellShut rows r = sound.shut i r here shut in
      (w.off, w.idle, subst (λ j. IsTrue (is_closing rows j)) (row_of-inc rows i r here) w.closing)

  -- The tree stays sound where a row is marked to be shut down.
  pub sound_closing : IsSound (changed i set_closing rows) next
  sound_closing =
      sound_changed rows next i set_closing sound
      (record { inc = λ r. refl; parent = λ r. refl; name = λ r. refl; decl = λ r. refl; gives = λ r. refl; doomed = λ r h. h })
      (record { inc = λ r. refl; lasts = closing_lasting; closes = λ r here h. refl; shuts = still_well })
      (record { inc = λ r. refl; parent = λ r. refl; name = λ r. refl; gives = λ r. refl; spares = λ r here named h. h })

  -- A name isn't both a declared one and one in a collection.
  not_both : (o : Option ChildName) → IsTrue (is_static_name o) → IsTrue (option_map_or (λ c. is_some c.coll) o false) → ⊥
  not_both None static dynamic = never static
  not_both (Some c) static dynamic = coll_by c.coll static dynamic where
    coll_by : (o : Option (List ℕ)) → IsTrue (is_none o) → IsTrue (is_some o) → ⊥
    coll_by None static dynamic = never dynamic
    coll_by (Some coll) static dynamic = never static

  -- a child that is declared is never doomed
  pub sound_doomed : (r : Row) → row_of rows i ≡ Some r → is_dynamic r ≡ true → IsSound (changed i set_doomed rows) next
  sound_doomed r lives dynamic =
      sound_changed rows next i set_doomed sound
      (record { inc = λ r. refl; parent = λ r. refl; name = λ r. refl; decl = λ r. refl; gives = λ r. refl; doomed = λ r h. refl })
      (record { inc = λ r. refl; lasts = doomed_lasting; closes = λ r here h. refl; shuts = still_well })
      (record { inc = λ r. refl; parent = λ r. refl; name = λ r. refl; gives = λ r. refl; spares = λ s here named h. absurd (not_both s.name named (ap is_dynamic (some_same s r (sym here ∙ lives)) ∙ dynamic)) })

  -- a row that is off, idle, and at or below a closing one may be shut
  pub sound_shut : (r : Row) → row_of rows i ≡ Some r → r.on ≡ false → r.pending ≡ None → IsTrue (is_closing rows i) → IsSound (changed i set_shut rows) next
  sound_shut r lives off idle closing =
      sound_changed rows next i set_shut sound
      (record { inc = λ r. refl; parent = λ r. refl; name = λ r. refl; decl = λ r. refl; gives = λ r. refl; doomed = λ r h. h })
      (record {
        inc = λ r. refl;
        lasts = shut_lasting;
        closes = λ s here h. sound.doomed i s here h;
        shuts = λ s here h.
            let same : s ≡ r = some_same s r (sym here ∙ lives) in
            (ap (λ z. z.on) same ∙ off, ap (λ z. z.pending) same ∙ idle, closing);
      })
      (record { inc = λ r. refl; parent = λ r. refl; name = λ r. refl; gives = λ r. refl; spares = λ r here named h. h })
