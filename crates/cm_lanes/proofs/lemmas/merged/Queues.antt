-- Answers moved from the lanes' queues to one list.
use Rattle.std.proofs.Common.{◌≡◌, ◌≢◌, ℕ, ◌+◌, ◌<◌, ◌≤◌, ◌==◌, List, [], ◌∷◌, ◌++◌, map, flat_map, take, drop, length, get_or, Bool, true, false, Some, None, Err, refl, sym, ap, ◌∙◌, subst, append-nil, append_assoc, arith, eqb-true}
use Rattle.std.proofs.lemmas.List.{map-append, take_more, drop_more, take_all, drop_all, get_or-map, length-map}
use Rattle.std.proofs.lemmas.Grind.{flat_map-append}
use Rattle.cm_facts.proofs.Numbers.{eq_self}
use Rattle.cm_world.specs.declared.answer.Refusal.TheVariants as refusal
use Rattle.cm_command.specs.declared.script.Line.{Line}
use Rattle.cm_lanes.specs.Lane.{Queue}
use Rattle.cm_lanes.specs.declared.said.Said.{Said}
use Rattle.cm_lanes.specs.Script.{AnsweredLine, answered_lines, answers_of}
use Rattle.cm_lanes.specs.ScriptInside.{said_of}
use Rattle.cm_lanes.specs.Phases.{told_to}
use Rattle.cm_lanes.specs.Merge.{TakesFirst, QueuesStartWith}
use Rattle.cm_lanes.proofs.lemmas.merged.Weaving.{answers_first}

-- the first n of these answers are moved
pub record Moves (n : ℕ) (answered : List AnsweredLine) (behind : ℕ → List Said) (queues : List Queue) (old all : List Said) : Type 0 where
  pub moved : all ≡ old ++ map said_of (take n answered)
  pub left : (k : ℕ) (d : Queue) → k < 16 → (get_or queues k d).items ≡ map said_of (answers_of k (drop n answered)) ++ behind k

-- the answer to the next line
pub record Next (answered : List AnsweredLine) (n : ℕ) (l : Line) : Type 0 where
  pub answer : AnsweredLine
  pub line_is : answer.line ≡ l
  pub drops : drop n answered ≡ answer ∷ drop (n + 1) answered
  pub takes : take (n + 1) answered ≡ take n answered ++ answer ∷ []

-- The answer to the next line is the next of the answers.
pub next_answer : (lines : List Line) (answered : List AnsweredLine) (n : ℕ) (l : Line) → answered_lines answered ≡ lines → n < length lines → l ≡ get_or lines n l → Next answered n l
next_answer lines answered n l lines_are lt is =
    let d : AnsweredLine = record { line = l; result = Err refusal.Memory } in
    let long : length answered ≡ length lines = sym (length-map answered (λ (a : AnsweredLine). a.line)) ∙ ap (λ (ls : List Line). length ls) lines_are in
    let lt_a : n < length answered = omega (arith, long) in
    record {
      answer = get_or answered n d;
      line_is = sym (get_or-map (λ (a : AnsweredLine). a.line) answered n d l lt_a) ∙ ap (λ (ls : List Line). get_or ls n l) lines_are ∙ sym is;
      drops = drop_more answered n d lt_a;
      takes = take_more answered n d lt_a;
    }

-- what is left for the lane of the next line, and for another
left_here : (c : ℕ) (a : AnsweredLine) (rest : List AnsweredLine) (behind : List Said) → a.line.lane ≡ c → map said_of (answers_of c (a ∷ rest)) ++ behind ≡ said_of a ∷ (map said_of (answers_of c rest) ++ behind)
left_here c a rest behind lane =
    let here : (a.line.lane == c) ≡ true = ap (λ (n : ℕ). n == c) lane ∙ eq_self c in
    ap (λ (xs : List AnsweredLine). map said_of xs ++ behind) (answers_first c a rest true here)

-- Numbers that differ compare as different.
not_same : (n c : ℕ) (b : Bool) → (n == c) ≡ b → n ≢ c → b ≡ false
not_same n c true is other = absurd (other (eqb-true n c is))
not_same n c false is other = refl

-- An answer of another lane in front leaves the answers of this lane as they are.
left_there : (c : ℕ) (a : AnsweredLine) (rest : List AnsweredLine) → a.line.lane ≢ c → answers_of c (a ∷ rest) ≡ answers_of c rest
left_there c a rest other = answers_first c a rest false (not_same a.line.lane c (a.line.lane == c) refl other)

-- Numbers that compare as different differ.
differ : (n c : ℕ) → (n == c) ≡ false → n ≢ c
differ n c is e = absurd (cc (sym is ∙ ap (λ (m : ℕ). n == m) (sym e) ∙ eq_self n))

-- one of the queues
pub some_queue : (queues : List Queue) → length queues ≡ 16 → Queue
some_queue [] e = absurd (cc e)
some_queue (q ∷ qs) e = q

-- where an answer is left, one is taken
pub takes_one : (answered : List AnsweredLine) (behind : ℕ → List Said) (n : ℕ) (l : Line) (queues new : List Queue) (old all : List Said) → l.lane < 16 → Next answered n l → Moves n answered behind queues old all → TakesFirst l.lane queues new None → (d : Queue) → ⊥
takes_one answered behind n l queues new old all lane next moves takes d =
    let whole = moves.left l.lane d lane ∙ ap (λ (xs : List AnsweredLine). map said_of (answers_of l.lane xs) ++ behind l.lane) next.drops ∙ left_here l.lane next.answer (drop (n + 1) answered) (behind l.lane) (ap (λ (l : Line). l.lane) next.line_is) in
    absurd (cc (sym (takes.none d) ∙ whole))

-- Two lists with an item in front are the same only with the same item and the same rest.
tail_same : {A : Type 0} (x y : A) (xs ys : List A) → x ∷ xs ≡ y ∷ ys → (x ≡ y) × (xs ≡ ys)
tail_same x y xs ys e = (cc e, cc e)

-- With one answer more moved out of its lane's queue, what is left in the queues is still right.
pub moves_more : (answered : List AnsweredLine) (behind : ℕ → List Said) (n : ℕ) (l : Line) (queues new : List Queue) (old all all' : List Said) (s : Said) → length queues ≡ 16 → l.lane < 16 → Next answered n l → Moves n answered behind queues old all → TakesFirst l.lane queues new (Some s) → all' ≡ all ++ s ∷ [] → Moves (n + 1) answered behind new old all'
moves_more answered behind n l queues new old all all' s count lane next moves takes push = record {
  moved = push ∙ ap (λ (l : List Said). l ++ s ∷ []) moves.moved ∙ append_assoc old (map said_of (take n answered)) (s ∷ [])
      ∙ ap (λ (x : Said). old ++ (map said_of (take n answered) ++ x ∷ [])) (here (some_queue queues count)).0
      ∙ ap (λ (l : List Said). old ++ l) (sym (map-append said_of (take n answered) (next.answer ∷ [])))
      ∙ ap (λ (l : List AnsweredLine). old ++ map said_of l) (sym next.takes);
  left = λ k e lt. left_at k e lt (k == l.lane) refl;
} where
  here : (d : Queue) → (s ≡ said_of next.answer) × ((get_or new l.lane d).items ≡ map said_of (answers_of l.lane (drop (n + 1) answered)) ++ behind l.lane)
  here d = tail_same _ _ _ _ (sym (takes.here d) ∙ moves.left l.lane d lane ∙ ap (λ (xs : List AnsweredLine). map said_of (answers_of l.lane xs) ++ behind l.lane) next.drops ∙ left_here l.lane next.answer (drop (n + 1) answered) (behind l.lane) (ap (λ (l : Line). l.lane) next.line_is))

  left_at : (k : ℕ) (e : Queue) → k < 16 → (b : Bool) → (k == l.lane) ≡ b → (get_or new k e).items ≡ map said_of (answers_of k (drop (n + 1) answered)) ++ behind k
  left_at k e lt true is = subst (λ (m : ℕ). (get_or new m e).items ≡ map said_of (answers_of m (drop (n + 1) answered)) ++ behind m) (sym (eqb-true k l.lane is)) (here e).1
  left_at k e lt false is =
      let other = differ k l.lane is in
      ap (λ (q : Queue). q.items) (takes.others k e other) ∙ moves.left k e lt ∙ ap (λ (xs : List AnsweredLine). map said_of (answers_of k xs) ++ behind k) next.drops
      ∙ ap (λ (xs : List AnsweredLine). map said_of xs ++ behind k) (left_there k next.answer (drop (n + 1) answered) (λ same. other (sym same ∙ ap (λ (l : Line). l.lane) next.line_is)))

-- the phases up to n are moved
pub record MovesAll (n : ℕ) (answered : List (List AnsweredLine)) (queues : List Queue) (all : List Said) : Type 0 where
  pub moved : all ≡ flat_map (λ p. map said_of p) (take n answered)
  pub left : (k : ℕ) (d : Queue) → k < 16 → (get_or queues k d).items ≡ told_to k (drop n answered)

-- the answers to the next phase
pub record NextPhase (answered : List (List AnsweredLine)) (n : ℕ) (lines : List Line) : Type 0 where
  pub answers : List AnsweredLine
  pub lines_are : answered_lines answers ≡ lines
  pub drops : drop n answered ≡ answers ∷ drop (n + 1) answered
  pub takes : take (n + 1) answered ≡ take n answered ++ answers ∷ []

-- The answers to the next phase are the next of those of all phases.
pub next_phase : (phases : List (List Line)) (answered : List (List AnsweredLine)) (n : ℕ) (lines : List Line) → map answered_lines answered ≡ phases → n < length phases → lines ≡ get_or phases n lines → NextPhase answered n lines
next_phase phases answered n lines lines_are lt is =
    let long : length answered ≡ length phases = sym (length-map answered answered_lines) ∙ ap (λ (ls : List (List Line)). length ls) lines_are in
    let lt_a : n < length answered = omega (arith, long) in
    record {
      answers = get_or answered n [];
      lines_are = sym (get_or-map answered_lines answered n [] lines lt_a) ∙ ap (λ (ls : List (List Line)). get_or ls n lines) lines_are ∙ sym is;
      drops = drop_more answered n [] lt_a;
      takes = take_more answered n [] lt_a;
    }

-- the queues begin with the answers to the next phase
pub phase_begins : (answered : List (List AnsweredLine)) (n : ℕ) (lines : List Line) (queues : List Queue) (all : List Said) → NextPhase answered n lines → MovesAll n answered queues all → QueuesStartWith lines queues
phase_begins answered n lines queues all next moves = record {
  answered = next.answers;
  lines_are = next.lines_are;
  behind = λ k. told_to k (drop (n + 1) answered);
  each = λ k d lt. moves.left k d lt ∙ ap (told_to k) next.drops;
}

-- With the answers to one phase more in the list, the queues hold those of the phases behind it.
pub phases_on : (answered : List (List AnsweredLine)) (n : ℕ) (lines : List Line) (queues new : List Queue) (all all' : List Said) → (next : NextPhase answered n lines) → MovesAll n answered queues all → all' ≡ all ++ map said_of next.answers → ((k : ℕ) (d : Queue) → k < 16 → (get_or new k d).items ≡ told_to k (drop (n + 1) answered)) → MovesAll (n + 1) answered new all'
phases_on answered n lines queues new all all' next moves more left = record {
  moved = more ∙ ap (λ (l : List Said). l ++ map said_of next.answers) moves.moved
      ∙ ap (λ (l : List Said). flat_map (λ (p : List AnsweredLine). map said_of p) (take n answered) ++ l) (sym (append-nil (map said_of next.answers)))
      ∙ sym (flat_map-append (λ (p : List AnsweredLine). map said_of p) (take n answered) (next.answers ∷ []))
      ∙ ap (λ (l : List (List AnsweredLine)). flat_map (λ (p : List AnsweredLine). map said_of p) l) (sym next.takes);
  left = left;
}

-- Where all lines are gone through, all their answers are in the list, and the queues hold the rest.
pub moves_end : (lines : List Line) (answered : List AnsweredLine) (behind : ℕ → List Said) (n : ℕ) (queues : List Queue) (old all : List Said) → answered_lines answered ≡ lines → length lines ≤ n → Moves n answered behind queues old all → (all ≡ old ++ map said_of answered) × ((k : ℕ) (d : Queue) → k < 16 → (get_or queues k d).items ≡ behind k)
moves_end lines answered behind n queues old all lines_are above moves =
    let long : length answered ≡ length lines = sym (length-map answered (λ (a : AnsweredLine). a.line)) ∙ ap (λ (ls : List Line). length ls) lines_are in
    let past : length answered ≤ n = omega (arith, long) in (
      moves.moved ∙ ap (λ (l : List AnsweredLine). old ++ map said_of l) (take_all n answered past),
      λ k d lt. moves.left k d lt ∙ ap (λ (l : List AnsweredLine). map said_of (answers_of k l) ++ behind k) (drop_all n answered past),
    )

-- Where all phases are gone through, the list has all answers in the order of the script.
pub phases_end : (phases : List (List Line)) (answered : List (List AnsweredLine)) (n : ℕ) (queues : List Queue) (all : List Said) → map answered_lines answered ≡ phases → length phases ≤ n → MovesAll n answered queues all → all ≡ flat_map (λ p. map said_of p) answered
phases_end phases answered n queues all lines_are above moves =
    let long : length answered ≡ length phases = sym (length-map answered answered_lines) ∙ ap (λ (ls : List (List Line)). length ls) lines_are in
    let past : length answered ≤ n = omega (arith, long) in
    moves.moved ∙ ap (λ (l : List (List AnsweredLine)). flat_map (λ p. map said_of p) l) (take_all n answered past)
