use Rattle.cm_cache.proofs.lemmas.puts.Putting.{right_answers, puts_stay_right, answers_stay_right}
use Rattle.cm_cache.proofs.laws.answers_stay_right.Goals as goal

pub returns : goal.returns
returns c = record { answers = right_answers; puts = puts_stay_right; stays = answers_stay_right }
