use Rattle.std.proofs.Common.{[], ◌∷◌, ◌++◌, sym, ◌∙◌, ap, subst, string_bytes}
use Rattle.std.specs.Prelude.{All}
use Rattle.std.proofs.lemmas.List.Elements.{All-nil}
use Rattle.cm_env.specs.Reach.{LooksThere, incs}
use Rattle.cm_env.proofs.lemmas.Visiting.{fewer_ahead}
use Rattle.cm_env.proofs.lemmas.Telling.{told_first, told_more, incs_popped, all_popped, all_more}
use Rattle.cm_env.proofs.report.env_report.Goals as goal

pub next-init : goal.next-init
next-init g c =
    let rows = g.V.View.rows c.args.view.now in record {
      kept = subst (All (LooksThere rows)) (sym c.new-kept.ensures.items) (All-nil (LooksThere rows));
      ahead =
          all_more rows c.new-ahead.result.items c.push.new.self.items c.root.result c.in_ok-push.ensures.items
          (subst (All (LooksThere rows)) (sym c.new-ahead.ensures.items) (All-nil (LooksThere rows))) c.root.ensures.reaches;
      told =
          told_first rows (string_bytes c.new-text.result) (incs c.push.new.self.items) c.new-text.ensures.bytes
          (ap incs (c.in_ok-push.ensures.items ∙ ap (λ l. l ++ c.root.result ∷ []) c.new-ahead.ensures.items)
          ∙ ap (λ i. i ∷ []) c.root.ensures.inc);
    }

pub push_told-requires-clause-ahead : goal.push_told-requires-clause-ahead
push_told-requires-clause-ahead g c =
    (all_popped (g.V.View.rows c.args.view.now) c.next.ahead.items c.pop.new.self.items c.in-Some.stand c.in-Some.ensures.items c.next.invariant.ahead).0

pub next-smaller : goal.next-smaller
next-smaller g c =
    fewer_ahead (g.V.View.rows c.args.view.now) (g.V.View.next_inc c.args.view.now) c.in-Some.stand.inc (incs c.next.ahead.items) (incs c.pop.new.self.items) (incs c.push_told.new.ahead.items) c.push_told.ensures.orderly
    (incs_popped c.next.ahead.items c.pop.new.self.items c.in-Some.stand c.in-Some.ensures.items) c.in_ok-push_told.ensures.below

pub next-preserved : goal.next-preserved
next-preserved g c = record {
  kept = c.in_ok-push_told.ensures.kept;
  ahead = c.in_ok-push_told.ensures.ahead;
  told =
      told_more (g.V.View.rows c.args.view.now) (g.V.View.next_inc c.args.view.now) c.in-Some.stand.inc (string_bytes c.next.text) (string_bytes c.push_told.new.text) _ (incs c.next.ahead.items) (incs c.pop.new.self.items) (incs c.push_told.new.ahead.items) c.push_told.ensures.orderly
      (incs_popped c.next.ahead.items c.pop.new.self.items c.in-Some.stand c.in-Some.ensures.items) c.in_ok-push_told.ensures.below c.in_ok-push_told.ensures.text c.next.invariant.told;
}
