use Rattle.cm_reply.proofs.entries.asked_text.Goals as goal
