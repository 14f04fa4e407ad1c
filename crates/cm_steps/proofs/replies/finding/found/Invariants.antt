use Rattle.cm_steps.proofs.replies.finding.found.Given as goal

abbrev pub ghosts-located : goal.ghosts-located
ghosts-located a = record { name = a.blank.name; parts = a.blank.parts }
