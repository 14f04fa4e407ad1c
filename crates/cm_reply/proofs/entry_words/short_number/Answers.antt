use Rattle.cm_reply.proofs.entry_words.short_number.Goals as goal
