use Rattle.cm_reply.proofs.reading.open_use.Goals as goal
