use Rattle.std.proofs.Common.{rules, ◌≡◌, ◌==◌, ◌++◌, ◌∷◌, [], List, true, ap, refl, sym, subst, ◌∙◌, take}
use Rattle.std.proofs.lemmas.List.{take_more, take_all}
use Rattle.cm_command.specs.declared.script.Line.{Line}
use Rattle.cm_manager.proofs.lemmas.callers.CallerRuns.{caller_trans}
use Rattle.cm_lanes.proofs.lemmas.lines.Performing.{Performing, performing_none, performing_next, performing_all}
use Rattle.cm_lanes.proofs.lane.perform_lines.Goals as goal

pub loop-line-init : goal.loop-line-init
loop-line-init g c = record {
  same = record { manager = refl; name = refl };
  performing = performing_none _ _ _ _ c.requires.own;
}

pub loop-line-preserved : goal.loop-line-preserved
loop-line-preserved g c =
    let first = c.args.caller.now in
    let next = c.perform-result.new.self in
    let l = c.line-item.result in
    let i = c.loop-line.line-index in
    let prefix = take_more c.args.lines.now i l c.loop-line-test.true ∙ ap (λ (x : Line). take i c.args.lines.now ++ x ∷ []) (sym c.line-item.is) in
    let own : (l.lane == first.pass.caller) ≡ true = search (rules, c.if-line-number.false, c.requires.number) in
    record {
      same = caller_trans _ _ _ c.loop-line.invariant.same c.perform-result.ensures.performs.caller;
      performing = subst (λ (ls : List Line). Performing first.manager.manifests ls first.pass next.pass first.gates next.gates c.args.said.now.items c.tell-lost.new.said.items c.tell-lost.result) (sym prefix)
          (performing_next (take i c.args.lines.now) l first c.loop-line.caller next c.args.said.now.items c.loop-line.said.items c.tell-lost.new.said.items c.loop-line.lost c.tell-lost.result c.perform-result.result c.loop-line.invariant.same c.loop-line.invariant.performing own c.perform-result.ensures.performs c.tell-lost.ensures);
    }

pub returns : goal.returns
returns g c =
    let first = c.args.caller.now in
    let is = subst (λ (ls : List Line). Performing first.manager.manifests ls first.pass c.loop-line.caller.pass first.gates c.loop-line.caller.gates c.args.said.now.items c.loop-line.said.items c.loop-line.lost) (take_all c.loop-line.line-index c.args.lines.now c.loop-line-test.false) c.loop-line.invariant.performing in
    record {
      same = c.loop-line.invariant.same;
      performed = record {
        keeps = is.keeps;
        answers = is.answers;
        own_lines = is.own_lines;
        follows = performing_all _ _ _ _ _ _ _ _ _ is;
        said = is.said;
      };
    }
