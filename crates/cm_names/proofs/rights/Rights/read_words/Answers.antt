use Rattle.std.proofs.Common.{rules, ◌∙◌, arith}
use Rattle.cm_names.proofs.lemmas.sets.Rights.{added, all_words, union_of_words}
use Rattle.cm_names.proofs.rights.Rights.read_words.Goals as goal

pub loop-i-preserved : goal.loop-i-preserved
loop-i-preserved c =
    rw c.union-rights.ensures (added c.args.words.now c.loop-i.i c.loop-i.rights c.in-Some.more c.is_among.result c.as_str.result.now _ (omega arith) c.loop-i.invariant (c.as_str.ensures ∙ c.index-words-i.is) (search rules) (search rules) (search rules))

pub returns : goal.returns
returns c =
    let read = all_words c.args.words.now c.loop-i.i c.loop-i.rights (search rules) (search rules) c.loop-i.invariant in
    record { read = read; union = union_of_words c.args.words.now c.loop-i.rights read }
