-- A new realm.
use Rattle.std.proofs.Common.{◌≡◌, ℕ, ◌+◌, ◌≤◌, List, [], length, sym, ◌∙◌, ap, subst, arith}
use Rattle.std.specs.List.{count_by}
use Rattle.cm_world.specs.declared.reply.Entry.{Entry}
use Rattle.cm_world.specs.declared.frame.Frame.{Frame}
use Rattle.cm_world.specs.declared.action.Act.{Act}
use Rattle.cm_world.specs.declared.action.Join.{Join}
use Rattle.cm_world.specs.World.{World, start, owed}
use Rattle.cm_world.specs.Legal.{Legal, replay}
use Rattle.cm_book.specs.History.{History}
use Rattle.cm_table.specs.Tree.{Tree, first_tree}
use Rattle.cm_laws.specs.Story.{world_of, IsLegal}
use Rattle.cm_laws.specs.Tasks.{IsNumbered, IsTasked}
use Rattle.cm_steps.specs.Tasks.{is_open_resolve}
use Rattle.cm_order.specs.Plans.{KnowsNone}
use Rattle.cm_steps.specs.Inside.{story_of, world_in, LeavesTree, IsRealmInvariant}
use Rattle.cm_steps.specs.LastTold.{nothing_told}
use Rattle.cm_steps.proofs.lemmas.steps.Telling.{told_none}
use Rattle.cm_steps.specs.declared.realm.Realm.TheInside.{Inside}
use Rattle.cm_laws.proofs.lemmas.actions.Tasks.{tasked_new}
use Rattle.cm_cache.specs.Beside.{nothing_held}
use Rattle.cm_steps.proofs.lemmas.asked.Keepers.{beside_new}
use Rattle.cm_order.proofs.lemmas.searches.Reaching.{plan_none}

-- A realm with the first tree and nothing else has a legal history that leaves that tree.
stands_new : (a : Inside) → a.table ≡ first_tree a.frame.root a.frame.builtins a.frame.limits.rows → a.acts.items ≡ [] → a.joins.items ≡ [] → a.records.book.entries ≡ [] → LeavesTree (story_of a) (world_in a)
unfolding world_of IsLegal
stands_new a table acts joins entries =
    let made : Tree → List Act → List Join → List Entry → World = λ t xs js es. record { frame = a.frame; rows = t.rows; next_inc = t.next_inc; next_action = length xs + 1; acts = xs; joins = js; entries = length es } in
    record {
      legal = subst (Legal (start a.frame)) (sym entries) tt;
      world =
          ap (replay (start a.frame)) entries
          ∙ ap (λ t. made t [] [] []) (sym table)
          ∙ ap (λ xs. made a.table xs [] []) (sym acts)
          ∙ ap (λ js. made a.table a.acts.items js []) (sym joins)
          ∙ ap (made a.table a.acts.items a.joins.items) (sym entries);
    }

-- the fields of a new realm are the tree that no entry leaves
pub kept_new : (a : Inside) (f : Frame) → a.frame ≡ f → a.table ≡ first_tree f.root f.builtins f.limits.rows → a.acts.items ≡ [] → a.resolves ≡ 0 → a.joins.items ≡ [] → a.records.book ≡ record { entries = []; reserved = 0; limit = f.limits.entries } → a.records.keeper ≡ nothing_held → KnowsNone a.records.plan → a.records.last ≡ nothing_told → IsRealmInvariant a
kept_new a f frame first acts resolves joins empty held unknown untold =
    let table : a.table ≡ first_tree a.frame.root a.frame.builtins a.frame.limits.rows =
    first ∙ ap (λ (g : Frame). first_tree g.root g.builtins g.limits.rows) (sym frame) in
    let made : ℕ → History = λ n. record { entries = []; reserved = 0; limit = n } in
    let book : a.records.book ≡ record { entries = []; reserved = 0; limit = a.frame.limits.entries } =
    empty ∙ ap (λ (g : Frame). made g.limits.entries) (sym frame) in
    record {
      stands = stands_new a table acts joins (ap (λ (h : History). h.entries) book);
      owes = ap (λ (h : History). h.reserved) book ∙ sym (ap (λ xs. owed xs a.joins.items) acts ∙ ap (owed []) joins);
      counted = resolves ∙ ap (count_by is_open_resolve) (sym acts);
      spare = subst (λ xs. count_by is_open_resolve xs ≤ a.table.spare) (sym acts) (omega arith);
      rows = ap (λ (t : Tree). t.limit) table;
      entries = ap (λ (h : History). h.limit) book;
      builtins = ap (λ (t : Tree). t.builtins) table;
      numbers = subst (IsNumbered 1) (sym acts) tt;
      tasks = subst (λ xs. IsTasked a.table.rows xs) (sym acts) (subst (λ (t : Tree). IsTasked t.rows []) (sym table) (tasked_new a.frame.root));
      beside = beside_new a.frame a.records.book.entries a.records.keeper (ap (λ (h : History). h.entries) book) held;
      planned = plan_none a.table.rows a.records.plan unknown;
      told = told_none a.table.rows a.records.last untold;
    }
