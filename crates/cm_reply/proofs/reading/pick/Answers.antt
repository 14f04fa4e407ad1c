use Rattle.cm_reply.proofs.reading.pick.Goals as goal
