use Rattle.cm_reply.proofs.reading.exited.Goals as goal
