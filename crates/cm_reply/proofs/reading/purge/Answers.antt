use Rattle.cm_reply.proofs.reading.purge.Goals as goal
