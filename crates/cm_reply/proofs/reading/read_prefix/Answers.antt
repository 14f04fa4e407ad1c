use Rattle.cm_reply.proofs.reading.read_prefix.Goals as goal
