use Rattle.cm_reply.proofs.reading.survey.Goals as goal
