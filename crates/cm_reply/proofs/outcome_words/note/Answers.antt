use Rattle.cm_reply.proofs.outcome_words.note.Goals as goal
