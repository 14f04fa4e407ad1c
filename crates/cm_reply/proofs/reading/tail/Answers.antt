use Rattle.cm_reply.proofs.reading.tail.Goals as goal
