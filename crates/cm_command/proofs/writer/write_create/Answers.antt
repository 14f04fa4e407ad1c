use Rattle.std.proofs.Common.{rules}
use Rattle.std.specs.List.{flat_map}
use Rattle.cm_command.specs.Written.{give_words, target_text}
use Rattle.cm_command.proofs.lemmas.written.Writer.{create_is}
use Rattle.cm_command.proofs.writer.write_create.Goals as goal

pub returns : goal.returns
returns c =
    create_is (target_text c.args.parent.now) c.args.coll.now c.args.name.now c.args.url.now c.in_ok-text.text c.push_word.new.text c.push_word-2.new.text c.push_gives.new.text (flat_map give_words c.args.gives.now) (search rules) (search rules) (search rules) (search rules)
