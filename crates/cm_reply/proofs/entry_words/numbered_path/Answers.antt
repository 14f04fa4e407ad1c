use Rattle.cm_reply.proofs.entry_words.numbered_path.Goals as goal
