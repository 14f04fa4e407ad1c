-- What a find replies, by where its moniker leads.
use Rattle.std.proofs.Common.{◌≡◌, ℕ, ◌-◌, ◌^◌, ◌<◌, ◌≤◌, List, [], length, take, sym, ap, ◌∙◌, arith}
use Rattle.std.specs.Prelude.{if◌then◌else◌}
use Rattle.cm_names.specs.declared.child.ChildName.{ChildName}
use Rattle.cm_world.specs.declared.row.Row.{Row}
use Rattle.cm_world.specs.declared.reply.Reply.{Reply}
use Rattle.cm_world.specs.declared.reply.Reply.TheVariants as reply
use Rattle.cm_world.specs.declared.store.Located.TheVariants.{Found, Unresolved, Missing}
use Rattle.cm_world.specs.Rows.{is_closed}
use Rattle.cm_world.specs.Find.{found_from}
use Rattle.cm_world.specs.Located.{located_from}
use Rattle.cm_walk.proofs.lemmas.ways.Leading.{find_reply}
use Rattle.cm_walk.proofs.lemmas.routes.Offers.{told_exact}

module _ (rows : List Row) (names : List ChildName) where
  -- Where a moniker leads to a row, the reply to a find is that row.
  pub found_reply : (i : ℕ) → Found i ≡ located_from rows 0 0 names → reply.Found i ≡ found_from rows 0 [] names
  found_reply i led = sym (find_reply rows names (Found i) (sym led))

  -- Where a moniker leads to a row that isn't resolved, a find replies that it is shut, or needs that.
  pub unresolved_reply : (i : ℕ) (r : Reply) → Unresolved i ≡ located_from rows 0 0 names → r ≡ (if is_closed rows i then reply.Shut i else reply.Need i) → r ≡ found_from rows 0 [] names
  unresolved_reply i r led is = is ∙ sym (find_reply rows names (Unresolved i) (sym led))

  -- An exact count of the names that were found before a missing one is no higher than that of all.
  pub names_within : (k : ℕ) → located_from rows 0 0 names ≡ Missing k → k < 2 ^ 32 - 1 → k ≤ length names
  names_within k led few = (let at = find_reply rows names (Missing k) led in less at.0 k (length names) (told_exact at.0 k at.1 few) at.2) where
    less : (n a b : ℕ) → n ≡ a → n < b → a ≤ b
    less n a b same h = omega arith

  -- Where a name is missing, and the count before it is exact, a find replies the names up to there.
  pub missing_reply : (k : ℕ) (r : Reply) → located_from rows 0 0 names ≡ Missing k → k < 2 ^ 32 - 1 → r ≡ reply.NotFound (record { parts = take k names }) → r ≡ found_from rows 0 [] names
  missing_reply k r led few is =
      let at = find_reply rows names (Missing k) led in
      is ∙ ap (λ n. reply.NotFound (record { parts = take n names })) (sym (told_exact at.0 k at.1 few)) ∙ sym at.3
