use Rattle.std.proofs.Common.{◌≡◌, ℕ, ◌+◌, ◌-◌, ◌≤◌, Bool, true, false, cond, Option, Some, ap, ap₂, ◌∙◌, arith, add-sub_of_le}
use Rattle.std.specs.Prelude.{option_map}
use Rattle.std.proofs.lemmas.Result.{on_ok_weaker}
use Rattle.cm_names.specs.declared.child.ChildName.{ChildName}
use Rattle.cm_decl.specs.Same.{same_child}
use Rattle.cm_table.specs.declared.slot.ChildIndex.{ChildIndex}
use Rattle.cm_table.specs.ByName.{led_to}
use Rattle.cm_table.specs.Slots.{named_at, named_in, base_of}
use Rattle.cm_table.proofs.links.put_child.Goals as goal

-- one name more leads as far above the base
named_more : (x y : ChildIndex) (was : ChildName → Option ℕ) (name : ChildName) (above inc : ℕ) → y.base ≡ x.base → x.base + above ≡ inc → ((c : ChildName) → named_at x c ≡ was c) → ((c : ChildName) → led_to y.names c ≡ cond (same_child name c) (Some above) (led_to x.names c)) → (c : ChildName) → named_at y c ≡ cond (same_child name c) (Some inc) (was c)
named_more x y was name above inc base sum before puts c =
    ap₂ (λ b o. option_map (λ k. b + k) o) base (puts c) ∙ by (same_child name c) where
      by : (t : Bool) → option_map (λ k. x.base + k) (cond t (Some above) (led_to x.names c)) ≡ cond t (Some inc) (was c)
      by true = ap Some sum
      by false = before c

pub returns-clause-names : goal.returns-clause-names
returns-clause-names c =
    let own : ChildIndex = c.or_new-own.result in
    let le : own.base ≤ c.args.inc = omega (arith, c.or_new-own.ensures.base, ap base_of c.take.ensures.value, c.requires) in
    on_ok_weaker c.put-done.result
    (λ puts n. ap (λ x. named_in x n) c.put.ensures
    ∙ named_more own c.put-done.new.self (named_in c.args.index.now) c.args.name (c.args.inc - own.base) c.args.inc c.put-done.ensures.base (add-sub_of_le le) (λ m. c.or_new-own.ensures.names m ∙ ap (λ x. named_in x m) c.take.ensures.value) puts n)
    c.put-done.ensures.names
