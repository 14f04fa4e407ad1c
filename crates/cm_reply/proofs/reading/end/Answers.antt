use Rattle.cm_reply.proofs.reading.end.Goals as goal
