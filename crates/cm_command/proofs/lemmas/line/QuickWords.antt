-- Lines of a verb, a target and perhaps one word more.
use Rattle.std.proofs.Common.{◌≡◌, [], ◌∷◌, ◌++◌, ◌==◌, Option, Some, None, Result, Ok, Err, IfSome, IfOk, refl, sym, ap, subst, ◌∙◌}
use Rattle.std.proofs.lemmas.List.Splits.{slice_split_none, slice_split_at}
use Rattle.cm_facts.proofs.Numbers.{eq_self}
use Rattle.cm_command.specs.declared.command.Command.{Command}
use Rattle.cm_command.specs.declared.place.LineState.{LineState}
use Rattle.cm_command.specs.declared.place.LineState.TheVariants as place
use Rattle.cm_command.specs.declared.place.ParsedLine.TheVariants as sentence
use Rattle.cm_command.specs.declared.place.Verb.{Verb}
use Rattle.cm_command.specs.Words.{words_of}
use Rattle.cm_command.specs.Grammar.{LineBytes, CommandText}
use Rattle.cm_command.specs.Pieces.{PiecesLead}
use Rattle.cm_command.specs.Places.{WordLeads, EndsLine, LeadsTo, verb_word}
use Rattle.cm_command.proofs.lemmas.bytes.Pieces.{Lacks}
use Rattle.cm_command.proofs.lemmas.line.LineWords.{commands, read}

-- A rest that is a word without a space is that word alone.
alone : (rest word : LineBytes) → Lacks 32 word → rest ≡ word → words_of rest ≡ word ∷ []
alone rest word clean e = ap words_of e ∙ slice_split_none (λ b. b == 32) word clean

-- The words of a word, a space and more are that word and the words of what follows.
further : (rest word more : LineBytes) → Lacks 32 word → rest ≡ word ++ 32 ∷ more → words_of rest ≡ word ∷ words_of more
further rest word more clean e = ap words_of e ∙ slice_split_at (λ b. b == 32) word 32 more clean (eq_self 32)

-- Where the word is the last one, what is read of the line is what ends it behind this word.
pub by_last : (p q : LineState) (rest word : LineBytes) (o : Option Command) → Lacks 32 word → rest ≡ word → WordLeads p word q → IfSome o (λ c. EndsLine q (sentence.Command c)) → IfSome o (LeadsTo p rest)
by_last p q rest word None clean e st is = tt
by_last p q rest word (Some c) clean e st is =
    subst (λ ws. PiecesLead WordLeads EndsLine p ws (sentence.Command c)) (sym (alone rest word clean e)) (q, st, is)

-- A command that a line leads to behind a word is led to from the place before that word.
more_by : (p q : LineState) (rest word more : LineBytes) (o : Option Command) → Lacks 32 word → rest ≡ word ++ 32 ∷ more → WordLeads p word q → IfSome o (LeadsTo q more) → IfSome o (LeadsTo p rest)
more_by p q rest word more None clean e st is = tt
more_by p q rest word more (Some c) clean e st is =
    subst (λ ws. PiecesLead WordLeads EndsLine p ws (sentence.Command c)) (sym (further rest word more clean e)) (q, st, is)

-- What is read behind a word that leads on from a state is what is read from that state with the word.
pub by_more : {E : Type 0} (p q : LineState) (rest word more : LineBytes) (r : Result (Option Command) E) → Lacks 32 word → rest ≡ word ++ 32 ∷ more → WordLeads p word q → IfOk r (λ o. IfSome o (LeadsTo q more)) → IfOk r (λ o. IfSome o (LeadsTo p rest))
by_more p q rest word more (Ok o) clean e st is = more_by p q rest word more o clean e st is
by_more p q rest word more (Err x) clean e st is = is

-- A command that the words of a line lead to from the start is what the line asks for.
asked : (line : LineBytes) (o : Option Command) → IfSome o (LeadsTo place.Start line) → IfSome o (CommandText line)
asked line None is = tt
asked line (Some c) is = read commands line (sentence.Command c) c refl is

-- A command that was found, led to from the start of the line, is what the line asks for.
by_start : {E : Type 0} (line : LineBytes) (r : Result (Option Command) E) → IfOk r (λ o. IfSome o (LeadsTo place.Start line)) → IfOk r (λ o. IfSome o (CommandText line))
by_start line (Ok o) is = asked line o is
by_start line (Err x) is = is

-- What is read behind a verb's word is the command that the whole line is the text of.
pub by_verb : {E : Type 0} (v : Verb) (line word rest : LineBytes) (r : Result (Option Command) E) → Lacks 32 word → line ≡ word ++ 32 ∷ rest → word ≡ verb_word v → IfOk r (λ o. IfSome o (LeadsTo (place.Verb v) rest)) → IfOk r (λ o. IfSome o (CommandText line))
by_verb v line word rest r clean e it is = by_start line r (by_more place.Start (place.Verb v) line word rest r clean e (v, it, refl) is)
