use Rattle.cm_reply.proofs.reading.open_exposed.Goals as goal
