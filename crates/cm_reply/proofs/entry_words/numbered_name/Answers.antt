use Rattle.cm_reply.proofs.entry_words.numbered_name.Goals as goal
