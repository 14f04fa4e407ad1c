use Rattle.cm_reply.proofs.reading.route.Goals as goal
