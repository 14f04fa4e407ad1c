use Rattle.std.proofs.Common.{rules}
use Rattle.cm_command.proofs.lemmas.written.Writer.{give_is}
use Rattle.cm_command.proofs.writer.push_give.Goals as goal

pub returns : goal.returns
returns c =
    give_is c.args.give.now c.args.text.now c.push_word.new.text c.push.new.self c.push_word-2.new.text c.push_origin.new.text c.push_target.new.text c.push_parts.new.text c.push_words.new.text (search rules) (search rules) (search rules) (search rules) (search rules) (search rules) (search rules)
