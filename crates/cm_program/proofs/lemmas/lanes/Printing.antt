-- What is printed of answers that stand in the order of their lines.
use Rattle.std.proofs.Common.{◌≡◌, ◌≢◌, ℕ, ◌+◌, List, [], ◌∷◌, ◌++◌, ◌≤◌, All, Bool, cond, map, flat_map, count_by, length, drop, take, Option, Some, None, Result, Err, refl, sym, ap, ◌∙◌, append_assoc, append-nil, rules}
use Rattle.std.proofs.lemmas.List.{drop_all}
use Rattle.std.proofs.lemmas.List.Elements.{All-nil, All-cons, All-head, All-tail}
use Rattle.std.proofs.lemmas.List.Sums.{sum_by-cons}
use Rattle.cm_world.specs.declared.answer.Answer.{Answer}
use Rattle.cm_world.specs.declared.answer.Refusal.{Refusal}
use Rattle.cm_world.specs.declared.answer.Refusal.TheVariants as refusal
use Rattle.cm_command.specs.declared.script.Line.{Line}
use Rattle.cm_lanes.specs.declared.said.Said.{Said}
use Rattle.cm_lanes.specs.Script.{AnsweredLine, answered_lines}
use Rattle.cm_lanes.specs.ScriptInside.{said_of}
use Rattle.cm_program.specs.Headline.{AnsweredWithMemory}
use Rattle.cm_program.specs.Printed.{answered_text, phases_text, results_of}
use Rattle.cm_program.specs.PrintedInside.{texts_of}
use Rattle.cm_program.specs.Written.{AppendsPrefix}
use Rattle.cm_program.proofs.lemmas.lanes.Sixteen.{all_prefix, all_behind}

-- Lines without answers have no text.
no_answers : (lines : List Line) → texts_of lines [] ≡ []
no_answers [] = refl
no_answers (l ∷ ls) = refl

-- where no answer is left, no text is
pub ends_early : (lines more : List Line) (at : ℕ) (said : List Said) (text whole : List ℕ) → length said ≤ at → text ++ texts_of (lines ++ more) (drop at said) ≡ whole → text ++ texts_of more (drop at said) ≡ whole
ends_early lines more at said text whole over is =
    let none : drop at said ≡ [] = drop_all at said over in
    ap (λ (left : List Said). text ++ texts_of more left) none
    ∙ ap (λ (t : List ℕ). text ++ t) (no_answers more ∙ sym (no_answers (lines ++ more)))
    ∙ sym (ap (λ (left : List Said). text ++ texts_of (lines ++ more) left) none)
    ∙ is

-- The texts of answered lines and others are those of the answers and those of the others.
texts_append : (answered : List AnsweredLine) (others : List Line) (more : List Said) → texts_of (answered_lines answered ++ others) (map said_of answered ++ more) ≡ flat_map answered_text answered ++ texts_of others more
texts_append [] others more = refl
texts_append (a ∷ others_answered) others more =
    ap (λ (t : List ℕ). answered_text a ++ t) (texts_append others_answered others more)
    ∙ sym (append_assoc (answered_text a) (flat_map answered_text others_answered) (texts_of others more))

-- the answers in the order of the script are those of its phases
pub texts_all : (answered : List (List AnsweredLine)) → texts_of (flat_map (λ lines. lines) (map answered_lines answered)) (flat_map (λ phase. map said_of phase) answered) ≡ phases_text answered
texts_all [] = refl
texts_all (p ∷ ps) =
    texts_append p (flat_map (λ lines. lines) (map answered_lines ps)) (flat_map (λ phase. map said_of phase) ps)
    ∙ ap (λ (t : List ℕ). flat_map answered_text p ++ t) (texts_all ps)

-- ---- what is counted

-- how many are of a kind
pub counted : (is_one : Result Answer Refusal → Bool) (said : List Said) → count_by is_one (map (λ (s : Said). s.result) said) ≡ count_by (λ (s : Said). is_one s.result) said
counted is_one [] = refl
counted is_one (s ∷ others) =
    sum_by-cons (λ (r : Result Answer Refusal). cond (is_one r) 1 0) s.result (map (λ (x : Said). x.result) others)
    ∙ ap (λ n. cond (is_one s.result) 1 0 + n) (counted is_one others)
    ∙ sym (sum_by-cons (λ (x : Said). cond (is_one x.result) 1 0) s others)

-- The results of answers and more are those of the answers and those of the others.
results_append : (answered : List AnsweredLine) (more : List Said) → map (λ (s : Said). s.result) (map said_of answered ++ more) ≡ map (λ (a : AnsweredLine). a.result) answered ++ map (λ (s : Said). s.result) more
results_append [] more = refl
results_append (a ∷ others_answered) more = ap (λ (l : List (Result Answer Refusal)). a.result ∷ l) (results_append others_answered more)

-- what is handed out has the answers of all phases
pub results_all : (answered : List (List AnsweredLine)) → map (λ (s : Said). s.result) (flat_map (λ phase. map said_of phase) answered) ≡ results_of answered
results_all [] = refl
results_all (p ∷ ps) =
    results_append p (flat_map (λ phase. map said_of phase) ps)
    ∙ ap (λ (l : List (Result Answer Refusal)). map (λ (a : AnsweredLine). a.result) p ++ l) (results_all ps)

-- ---- lack of memory

-- The result of the answer isn't that memory ran out.
abbrev NoWant : Said → Type 0
NoWant s = s.result ≢ Err refusal.Memory

-- Answers of which none is for lack of memory had memory.
no_want_phase : (answered : List AnsweredLine) → All NoWant (map said_of answered) → All AnsweredWithMemory answered
no_want_phase [] none = All-nil AnsweredWithMemory
no_want_phase (a ∷ others_answered) none = All-cons AnsweredWithMemory a others_answered (All-head NoWant (said_of a) (map said_of others_answered) none) (no_want_phase others_answered (All-tail NoWant (said_of a) (map said_of others_answered) none))

-- Where no answer that was handed out lacked memory, no line of any phase was answered so.
pub no_want_all : (answered : List (List AnsweredLine)) → All NoWant (flat_map (λ phase. map said_of phase) answered) → All (λ phase. All AnsweredWithMemory phase) answered
no_want_all [] none = All-nil (λ phase. All AnsweredWithMemory phase)
no_want_all (p ∷ ps) none = All-cons (λ phase. All AnsweredWithMemory phase) p ps (no_want_phase p (all_prefix NoWant (map said_of p) (flat_map (λ phase. map said_of phase) ps) none)) (no_want_all ps (all_behind NoWant (map said_of p) (flat_map (λ phase. map said_of phase) ps) none))

-- ---- what was written

-- Where nothing more was written, the empty prefix of any text was.
pub nothing_written : (out : Option (List ℕ)) (text : List ℕ) → AppendsPrefix out out text
nothing_written None text = (0, tt)
nothing_written (Some xs) text = (0, sym (append-nil xs))

-- The first items of an empty list are none.
take_none : (n : ℕ) → take {A = ℕ} n [] ≡ []
take_none n = search rules

-- a prefix of nothing is a prefix of any text
pub prefix_of_nothing : (old new : Option (List ℕ)) (text : List ℕ) → AppendsPrefix old new [] → AppendsPrefix old new text
prefix_of_nothing None new text prefix = (0, tt)
prefix_of_nothing (Some xs) None text prefix = absurd prefix.1
prefix_of_nothing (Some xs) (Some ys) text prefix = (0, prefix.1 ∙ ap (λ (l : List ℕ). xs ++ l) (take_none prefix.0))
