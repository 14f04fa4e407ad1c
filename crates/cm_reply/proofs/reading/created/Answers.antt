use Rattle.cm_reply.proofs.reading.created.Goals as goal
