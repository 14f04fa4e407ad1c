use Rattle.cm_reply.proofs.reading.list.Goals as goal
