-- The lanes' answers, merged together in the order of the lines.
use Rattle.std.proofs.Common.{◌≡◌, ℕ, ◌<◌, ◌==◌, List, [], ◌∷◌, All, drop, cond, Bool, true, false, refl, sym, ap, ◌∙◌, subst, arith, rules, suc, eqb-true}
use Rattle.cm_facts.proofs.Numbers.{eq_self}
use Rattle.cm_command.specs.declared.script.Line.{Line}
use Rattle.cm_lanes.specs.Script.{AnsweredLine, answered_lines, answers_of}
use Rattle.cm_lanes.specs.ScriptInside.{lines_of}

-- what each lane answered, of these lines
pub record LaneParts (lines : List Line) (each : ℕ → List AnsweredLine) : Type 0 where
  pub lanes : All (λ (l : Line). l.lane < 16) lines
  pub parts : (c : ℕ) → c < 16 → answered_lines (each c) ≡ lines_of c lines

-- all answers, in the order of the lines
pub record Merged (lines : List Line) (each : ℕ → List AnsweredLine) : Type 0 where
  pub answered : List AnsweredLine
  pub lines_are : answered_lines answered ≡ lines
  pub lanes_are : (c : ℕ) → c < 16 → answers_of c answered ≡ each c

-- what is left of the lanes' answers behind the first line
left : Line → (ℕ → List AnsweredLine) → ℕ → List AnsweredLine
left l each c = cond (l.lane == c) (drop 1 (each c)) (each c)

-- Answers that answer no lines are none.
none_of : (xs : List AnsweredLine) → answered_lines xs ≡ [] → xs ≡ []
none_of [] e = refl
none_of (x ∷ xs) e = absurd (cc e)

-- the first answer of the first line's lane
pub record First (l : Line) (xs : List AnsweredLine) : Type 0 where
  pub answer : AnsweredLine
  pub line_is : answer.line ≡ l
  pub first : xs ≡ answer ∷ drop 1 xs

-- Answers to lines of which there is a first begin with an answer to it.
first_of : (l : Line) (ls : List Line) (xs : List AnsweredLine) → answered_lines xs ≡ l ∷ ls → First l xs
first_of l ls [] e = absurd (cc e)
first_of l ls (x ∷ xs) e = record { answer = x; line_is = cc e; first = refl }

-- What is left of answers without the first answers the lines without the first.
tail_of : (xs : List AnsweredLine) (ls : List Line) → answered_lines xs ≡ ls → answered_lines (drop 1 xs) ≡ drop 1 ls
tail_of [] ls e = ap (drop 1) e
tail_of (x ∷ xs) ls e = ap (drop 1) e

-- The lines of a lane, with one in front, have it in front exactly where it is the lane's.
lines_first : (c : ℕ) (l : Line) (ls : List Line) (b : Bool) → (l.lane == c) ≡ b → lines_of c (l ∷ ls) ≡ cond b (l ∷ lines_of c ls) (lines_of c ls)
lines_first c l ls b is = ap (λ (t : Bool). cond t (l ∷ lines_of c ls) (lines_of c ls)) is

-- The answers of a lane begin with the first of all, where that is its own; else they leave it out.
pub answers_first : (c : ℕ) (x : AnsweredLine) (xs : List AnsweredLine) (b : Bool) → (x.line.lane == c) ≡ b → answers_of c (x ∷ xs) ≡ cond b (x ∷ answers_of c xs) (answers_of c xs)
answers_first c x xs b is = ap (λ (t : Bool). cond t (x ∷ answers_of c xs) (answers_of c xs)) is

-- What is left of the lanes' answers behind the first line answers the lines behind it.
left_parts : (l : Line) (ls : List Line) (each : ℕ → List AnsweredLine) (c : ℕ) (b : Bool) → (l.lane == c) ≡ b → answered_lines (each c) ≡ lines_of c (l ∷ ls) → answered_lines (left l each c) ≡ lines_of c ls
unfolding left
left_parts l ls each c true is parts =
    ap (λ (t : Bool). answered_lines (cond t (drop 1 (each c)) (each c))) is ∙ tail_of (each c) (l ∷ lines_of c ls) (parts ∙ lines_first c l ls true is)
left_parts l ls each c false is parts =
    ap (λ (t : Bool). answered_lines (cond t (drop 1 (each c)) (each c))) is ∙ parts ∙ lines_first c l ls false is

-- The first line's answer before those left gives back the lanes' answers.
put_back : (l : Line) (each : ℕ → List AnsweredLine) (f : First l (each l.lane)) (rest : List AnsweredLine) (c : ℕ) (b : Bool) → (l.lane == c) ≡ b → answers_of c rest ≡ left l each c → answers_of c (f.answer ∷ rest) ≡ each c
unfolding left
put_back l each f rest c true is rest_is =
    let at : (f.answer.line.lane == c) ≡ true = ap (λ (x : Line). x.lane == c) f.line_is ∙ is in
    let here : f.answer ∷ drop 1 (each l.lane) ≡ each l.lane = sym f.first in
    let there : f.answer ∷ drop 1 (each c) ≡ each c = subst (λ (n : ℕ). f.answer ∷ drop 1 (each n) ≡ each n) (eqb-true l.lane c is) here in
    answers_first c f.answer rest true at ∙ ap (λ (xs : List AnsweredLine). f.answer ∷ xs) (rest_is ∙ ap (λ (t : Bool). cond t (drop 1 (each c)) (each c)) is) ∙ there
put_back l each f rest c false is rest_is =
    let at : (f.answer.line.lane == c) ≡ false = ap (λ (x : Line). x.lane == c) f.line_is ∙ is in
    answers_first c f.answer rest false at ∙ rest_is ∙ ap (λ (t : Bool). cond t (drop 1 (each c)) (each c)) is

-- the answers of each lane can be put in the order of the lines
pub merge : (lines : List Line) (each : ℕ → List AnsweredLine) → LaneParts lines each → Merged lines each
merge [] each is = record { answered = []; lines_are = refl; lanes_are = λ c lt. sym (none_of (each c) (is.parts c lt)) }
merge (l ∷ ls) each is =
    let lane : l.lane < 16 = is.lanes 0 l (grind arith) in
    let first = first_of l (lines_of l.lane ls) (each l.lane) (is.parts l.lane lane ∙ lines_first l.lane l ls true (eq_self l.lane)) in
    let rest = merge ls (left l each) (record {
      lanes = λ k d lt. is.lanes (suc k) d (grind (arith, lt));
      parts = λ c lt. left_parts l ls each c (l.lane == c) refl (is.parts c lt);
    }) in
    record {
      answered = first.answer ∷ rest.answered;
      lines_are = cc (first.line_is, rest.lines_are);
      lanes_are = λ c lt. put_back l each first rest.answered c (l.lane == c) refl (rest.lanes_are c lt);
    }
