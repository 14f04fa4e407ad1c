use Rattle.std.proofs.Common.{◌∙◌, ap, ◌||◌, bytes_eq}
use Rattle.cm_valid.specs.Lookup.{has}
use Rattle.cm_valid.proofs.lemmas.Name.{texts, inserted}
use Rattle.cm_valid.proofs.names.Names.insert.Goals as goal

pub returns : goal.returns
returns c = λ other.
    ap (λ ks. has (texts ks) other) c.in_ok-insert.ensures.keys ∙ inserted other _ c.self.inside.set.keys ∙
    ap (λ names. bytes_eq other c.args.name.now || has names other) c.self.view_is
