use Rattle.cm_reply.proofs.reading.show.Goals as goal
