-- Entries that ask for a use.
use Rattle.std.proofs.Common.{◌≡◌, ℕ, List, Bool, true, false, not, ◌&&◌, cond, true≢false, Option, Some, None, refl, sym, ap, subst}
use Rattle.cm_world.specs.declared.row.Row.{Row}
use Rattle.cm_world.specs.declared.reply.Reply.{Reply}
use Rattle.cm_world.specs.declared.reply.Reply.TheVariants as reply
use Rattle.cm_world.specs.declared.route.Start.TheVariants.{UseAt}
use Rattle.cm_world.specs.declared.route.Walked.{Walked}
use Rattle.cm_world.specs.Rows.{is_gone, is_closed, is_resolved, is_on}
use Rattle.cm_world.specs.World.{World}
use Rattle.cm_world.specs.Route.{IsWalked}
use Rattle.cm_world.specs.Openings.{unready, unopened, routed, opened, WalksUnless}
use Rattle.cm_world.specs.AfterInside.{moves}
use Rattle.cm_world.specs.Legal.{IsStep}
use Rattle.cm_laws.specs.Story.{entry_of}
use Rattle.cm_cache.specs.Keeping.{asked_by, asks_if}
use Rattle.cm_steps.specs.declared.asking.Asking.{Asking}
use Rattle.cm_steps.specs.declared.asking.Asking.TheVariants as asking
use Rattle.cm_steps.specs.Asking.{is_ready, may_ask, event_of, reply_of, refusal_of}

-- ---- what refuses one who asks

-- A row that isn't gone and has a declaration is refused nothing as unready.
unready_by : (g d : Bool) (x y : Option Reply) → (not g && d) ≡ true → cond g x (cond d None y) ≡ None
unready_by true d x y is = absurd (true≢false (sym is))
unready_by false true x y is = refl
unready_by false false x y is = absurd (true≢false (sym is))

-- nothing refuses one that is ready
ready_free : (rows : List Row) (i : ℕ) → is_ready rows i ≡ true → unready rows i ≡ None
ready_free rows i is =
    unready_by (is_gone rows i) (is_resolved rows i) (Some (reply.Gone i)) (cond (is_closed rows i) (Some (reply.Shut i)) (Some (reply.Need i))) is

-- A row that isn't gone, has a declaration and is on is refused nothing as unopened.
unopened_by : (g d on : Bool) (x y : Option Reply) → ((not g && d) && on) ≡ true → cond g x (cond on None y) ≡ None
unopened_by true d on x y is = absurd (true≢false (sym is))
unopened_by false d true x y is = refl
unopened_by false true false x y is = absurd (true≢false (sym is))
unopened_by false false false x y is = absurd (true≢false (sym is))

-- Nothing refuses an opening by a client that is ready and on.
client_free : (rows : List Row) (i : ℕ) → (is_ready rows i && is_on rows i) ≡ true → unopened rows i ≡ None
client_free rows i is =
    unopened_by (is_gone rows i) (is_resolved rows i) (is_on rows i) (Some (reply.Gone i)) (Some reply.ClientOff) is

-- ---- one who asks

-- An event of one who may ask asks for the use at this path of this instance.
pub asks_for : (k : Asking) (w : World) (i : ℕ) (path : List ℕ) → may_ask k w.rows i ≡ true → asked_by w (event_of k i path) ≡ Some (record { inc = i; path = path })
asks_for asking.Route w i path may = ap (λ b. asks_if b i path) may
asks_for asking.Opening w i path may = ap (λ b. asks_if b i path) may

-- An event of one who may not ask asks for no use.
pub asks_none : (k : Asking) (w : World) (i : ℕ) (path : List ℕ) → may_ask k w.rows i ≡ false → asked_by w (event_of k i path) ≡ None
asks_none asking.Route w i path may = ap (λ b. asks_if b i path) may
asks_none asking.Opening w i path may = ap (λ b. asks_if b i path) may

-- One who may ask gets what is made of the walk.
pub asks_step : (k : Asking) (w : World) (caller i : ℕ) (path : List ℕ) (v : Walked) → may_ask k w.rows i ≡ true → IsWalked w.rows w.frame.builtins (UseAt i path) v → IsStep w (entry_of caller (event_of k i path) (reply_of k w.rows v))
asks_step asking.Route w caller i path v may walked = record {
  enabled = tt;
  allowed =
      subst (λ o. WalksUnless w.rows w.frame.builtins (UseAt i path) (routed w.rows) o (routed w.rows v))
      (sym (ready_free w.rows i may)) (v, walked, refl);
}
asks_step asking.Opening w caller i path v may walked = record {
  enabled = tt;
  allowed =
      subst (λ o. WalksUnless w.rows w.frame.builtins (UseAt i path) (opened w.rows) o (opened w.rows v))
      (sym (client_free w.rows i may)) (v, walked, refl);
}

-- The reply that refuses one who may not ask is a step of the tree.
pub refused_step : (k : Asking) (w : World) (caller i : ℕ) (path : List ℕ) (r : Reply) → WalksUnless w.rows w.frame.builtins (UseAt i path) (reply_of k w.rows) (refusal_of k w.rows i) r → IsStep w (entry_of caller (event_of k i path) r)
refused_step asking.Route w caller i path r told = record { enabled = tt; allowed = told }
refused_step asking.Opening w caller i path r told = record { enabled = tt; allowed = told }

-- An event that asks for a use moves nothing, whatever its reply is.
pub asks_quiet : (k : Asking) (i : ℕ) (path : List ℕ) (r : Reply) → moves (event_of k i path) r ≡ false
asks_quiet asking.Route i path r = refl
asks_quiet asking.Opening i path r = refl
