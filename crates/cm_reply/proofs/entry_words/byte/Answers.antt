use Rattle.cm_reply.proofs.entry_words.byte.Goals as goal
