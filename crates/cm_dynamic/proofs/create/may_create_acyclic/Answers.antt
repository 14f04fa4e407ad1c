use Rattle.std.proofs.Common.{Option, None, refl, sym, subst}
use Rattle.std.proofs.lemmas.Result.{IfOk-weaker}
use Rattle.cm_world.specs.Create.{dynamic_name, dynamic_children, dynamic_with, refused_create}
use Rattle.cm_dynamic.specs.Replies.{AnswersCreate, AnswersGraph, RefusesChange}
use Rattle.cm_dynamic.specs.declared.create.MayCreate.{MayCreate}
use Rattle.cm_dynamic.proofs.lemmas.graphs.Further.{created_name, created_names, further_acyclic}
use Rattle.cm_dynamic.proofs.lemmas.graphs.Leading.{onward_acyclic}
use Rattle.cm_dynamic.proofs.lemmas.children.Taking.{unused_name}
use Rattle.cm_dynamic.specs.Onward.{IsOnward}
use Rattle.cm_names.specs.declared.child.ChildName.{ChildName}
use Rattle.cm_dynamic.proofs.lemmas.children.Refusing.{is_refused, is_resolved, is_by_graph}
use Rattle.cm_dynamic.proofs.create.may_create_acyclic.Goals as goal

pub returns-in-Some : goal.returns-in-Some
returns-in-Some g c =
    let rows = g.V.View.rows c.args.view.now in
    is_refused rows c.args.free c.args.parent c.args.coll.now c.args.child.now c.args.gives.now c.in-Some.refusal
    (subst (λ (o : Option MayCreate). RefusesChange o (refused_create rows c.args.parent c.args.coll.now c.args.child.now c.args.gives.now)) c.in-Some.is c.in_ok-refusal.ensures)

pub returns-in_default-decl : goal.returns-in_default-decl
returns-in_default-decl g c =
    let rows = g.V.View.rows c.args.view.now in
    let refuses : RefusesChange None (refused_create rows c.args.parent c.args.coll.now c.args.child.now c.args.gives.now) = subst (λ (o : Option MayCreate). RefusesChange o (refused_create rows c.args.parent c.args.coll.now c.args.child.now c.args.gives.now)) c.in_default.is c.in_ok-refusal.ensures in
    absurd (is_resolved rows c.args.parent c.args.coll.now c.args.child.now c.args.gives.now refuses (sym c.in_default-decl.ensures.decl))

pub returns-then-is_apart : goal.returns-then-is_apart
returns-then-is_apart g c =
    let rows = g.V.View.rows c.args.view.now in
    let d = c.in-Some-decl.decl.now in
    let refuses : RefusesChange None (refused_create rows c.args.parent c.args.coll.now c.args.child.now c.args.gives.now) = subst (λ (o : Option MayCreate). RefusesChange o (refused_create rows c.args.parent c.args.coll.now c.args.child.now c.args.gives.now)) c.in_default.is c.in_ok-refusal.ensures in
    let dynamic = dynamic_with rows c.args.parent (dynamic_name c.args.coll.now c.args.child.now) c.args.gives.now in
    is_by_graph rows c.args.free c.args.parent c.args.coll.now c.args.child.now c.args.gives.now d (dynamic_name c.args.coll.now c.args.child.now) dynamic dynamic c.by_room.result refuses (sym c.in-Some-decl.ensures.decl) refl refl refl
    (c.by_room.ensures d dynamic
    (further_acyclic d (dynamic_children rows c.args.parent) (record { name = dynamic_name c.args.coll.now c.args.child.now; gives = c.args.gives.now })
    (c.is_apart.ensures.offers c.if-is_apart.true) (c.is_apart.ensures.usages c.if-is_apart.true) (created_names rows c.args.parent) (created_name c.args.coll.now c.args.child.now c.args.gives.now) (c.is_apart.ensures.given c.if-is_apart.true) (c.requires d c.in-Some-decl.ensures.decl)))

pub returns-then-branch : goal.returns-then-branch
returns-then-branch g c =
    let rows = g.V.View.rows c.args.view.now in
    let d = c.in-Some-decl.decl.now in
    let refuses : RefusesChange None (refused_create rows c.args.parent c.args.coll.now c.args.child.now c.args.gives.now) = subst (λ (o : Option MayCreate). RefusesChange o (refused_create rows c.args.parent c.args.coll.now c.args.child.now c.args.gives.now)) c.in_default.is c.in_ok-refusal.ensures in
    let name = dynamic_name c.args.coll.now c.args.child.now in
    let dynamic = dynamic_with rows c.args.parent name c.args.gives.now in
    let onward : IsOnward rows c.args.parent name c.args.gives.now = subst (λ (n : ChildName). IsOnward rows c.args.parent n c.args.gives.now) c.in_ok-name.ensures (c.in_ok-is_onward.ensures.ways c.if-branch.true) in
    is_by_graph rows c.args.free c.args.parent c.args.coll.now c.args.child.now c.args.gives.now d name dynamic dynamic c.by_room-then-branch.result refuses (sym c.in-Some-decl.ensures.decl) refl refl refl
    (c.by_room-then-branch.ensures d dynamic
    (onward_acyclic rows (g.V.View.next_inc c.args.view.now) c.args.parent d name c.args.gives.now onward.0 c.in-Some-decl.ensures.orderly
    (c.in_ok-is_onward.ensures.offers c.if-branch.true) (c.in_ok-is_onward.ensures.usages c.if-branch.true) refl (unused_name rows c.args.parent c.args.coll.now c.args.child.now c.args.gives.now (sym (refuses 0))) onward.1 (c.requires d c.in-Some-decl.ensures.decl)))

pub returns : goal.returns
returns g c =
    let rows = g.V.View.rows c.args.view.now in
    let refuses : RefusesChange None (refused_create rows c.args.parent c.args.coll.now c.args.child.now c.args.gives.now) = subst (λ (o : Option MayCreate). RefusesChange o (refused_create rows c.args.parent c.args.coll.now c.args.child.now c.args.gives.now)) c.in_default.is c.in_ok-refusal.ensures in
    IfOk-weaker c.by_graph.result (AnswersGraph c.in-Some-decl.decl.now c.as_slice.result.now c.args.free) (AnswersCreate rows c.args.free c.args.parent c.args.coll.now c.args.child.now c.args.gives.now)
    (λ answer by_graph. is_by_graph rows c.args.free c.args.parent c.args.coll.now c.args.child.now c.args.gives.now c.in-Some-decl.decl.now c.in_ok-name.name c.in_ok-children.children.items c.as_slice.result.now answer refuses (sym c.in-Some-decl.ensures.decl) c.in_ok-name.ensures c.in_ok-children.ensures c.as_slice.ensures.value by_graph) c.by_graph.ensures
