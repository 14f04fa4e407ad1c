use Rattle.std.proofs.Common.{refl, ◌-◌}
use Rattle.cm_command.proofs.lemmas.counts.Count.{some_prefix, longest, url_begins}
use Rattle.cm_command.proofs.script_reader.read_url_at.Goals as goal

pub overflow_sub-at : goal.overflow_sub-at
overflow_sub-at c =
    let h = rw c.in-Bad.is at c.in-Err.ensures in some_prefix c.args.url.now c.in-Bad.prefixes h.1 url_begins

pub returns-in-Bad : goal.returns-in-Bad
returns-in-Bad c =
    let h = rw c.in-Bad.is at c.in-Err.ensures in
    let some = some_prefix c.args.url.now c.in-Bad.prefixes h.1 url_begins in
    (h.0, refl, (c.in-Bad.prefixes - 1, refl, longest c.args.url.now c.in-Bad.prefixes h.1 some))
