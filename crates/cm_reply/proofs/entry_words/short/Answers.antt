use Rattle.cm_reply.proofs.entry_words.short.Goals as goal
