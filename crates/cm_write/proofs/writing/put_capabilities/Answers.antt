use Rattle.std.proofs.Common.{rules, ◌≡◌, map}
use Rattle.serde_json.specs.View.{view}
use Rattle.cm_write.specs.Writing.{capability_items}
use Rattle.cm_write.proofs.writing.put_capabilities.Goals as goal

pub returns : goal.returns
returns c =
    let items : map view c.push_each-2.new.values.items ≡ capability_items c.args.decl.now = search rules in
    rw items at c.put_values.ensures
