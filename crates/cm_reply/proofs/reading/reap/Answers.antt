use Rattle.cm_reply.proofs.reading.reap.Goals as goal
