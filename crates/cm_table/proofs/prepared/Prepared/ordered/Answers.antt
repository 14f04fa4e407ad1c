use Rattle.cm_table.proofs.prepared.Prepared.ordered.Goals as goal

pub invariant_of-result : goal.invariant_of-result
invariant_of-result c = record {
  valid = c.requires;
  absolute = c.in_ok-made.ensures.absolute;
  decl = c.in_ok-made.ensures.decl;
  children = c.in_ok-made.ensures.rows;
  bare = c.in_ok-made.ensures.bare;
  own = c.in_ok-made.ensures.own;
  kids = c.in_ok-made.ensures.kids;
  names = c.in_ok-made.ensures.names;
}
