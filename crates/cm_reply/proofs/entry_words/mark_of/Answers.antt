use Rattle.cm_reply.proofs.entry_words.mark_of.Goals as goal
