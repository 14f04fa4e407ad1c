use Rattle.cm_reply.proofs.reading.find.Goals as goal
