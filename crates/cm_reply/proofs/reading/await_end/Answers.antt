use Rattle.cm_reply.proofs.reading.await_end.Goals as goal
