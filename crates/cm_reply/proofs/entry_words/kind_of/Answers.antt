use Rattle.cm_reply.proofs.entry_words.kind_of.Goals as goal
