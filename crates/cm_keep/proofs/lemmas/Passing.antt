-- Lemmas on texts that are handed over in pieces.
use Rattle.std.proofs.Common.{◌≡◌, ◌⊎◌, inl, inr, refl, ◌<◌, ℕ, ◌+◌, suc, List, [], ◌∷◌, ◌++◌, length, drop, get_or, Option}
use Rattle.std.proofs.Common.{sym, ap, ◌∙◌, subst, append_assoc, append-nil, drop-cons, add-one}
use Rattle.std.proofs.KnownBytes.{Appends-trans}
use Rattle.std.specs.Io.KnownBytes.{Appends}
use Rattle.cm_reply.specs.Lists.{TextBytes}
use Rattle.cm_world.specs.declared.reply.Entry.{Entry}
use Rattle.cm_reply.specs.Journal.{line, entry_text, entries_text}
use Rattle.std.specs.Prelude.{Err}
use Rattle.cm_keep.specs.declared.keep.KeepFault.TheVariants as fault
use Rattle.cm_keep.specs.Keeping.{IsLeft, Passes}

-- a text comes, and with it what is held back is handed over
pub leaves : (a b : Option TextBytes) (held more new text : TextBytes)
    → more ≡ held ++ text → Appends a b more → new ≡ [] → Passes a b held new text
leaves a b held more new text grown handed empty = record {
  given = more;
  handed = handed;
  all = ap (λ (l : TextBytes). more ++ l) empty ∙ append-nil more ∙ grown;
}

-- what is held back in the end is handed over
pub all_handed : (a b c : Option TextBytes) (held back text : TextBytes)
    → Passes a b held back text → Appends b c back → Appends a c (held ++ text)
all_handed a b c held back text passed handed =
    subst (λ (l : TextBytes). Appends a c l) passed.all (Appends-trans a b c passed.given back passed.handed handed)

-- of what is held back and what is still to come a first part passes
pub goes_on : (a b c : Option TextBytes) (held back new line rest text : TextBytes)
    → Passes a b held (back ++ (line ++ rest)) text
    → Passes b c back new line
    → Passes a c held (new ++ rest) text
goes_on a b c held back new line rest text before passed =
    let g = before.given in
    let k = passed.given in
    record {
      given = g ++ k;
      handed = Appends-trans a b c g k before.handed passed.handed;
      all =
          append_assoc g k (new ++ rest)
          ∙ ap (λ (l : TextBytes). g ++ l) (sym (append_assoc k new rest)
          ∙ ap (λ (l : TextBytes). l ++ rest) passed.all
          ∙ append_assoc back line rest)
          ∙ before.all;
    }

-- the lines of what is left of a history begin with that of its first entry
pub next_line : (es : List Entry) (i : ℕ) (e : Entry) → i < length es → get_or es i e ≡ e
    → entries_text (i + 1) (drop i es) ≡ line (entry_text (i + 1) e) ++ entries_text (i + 1 + 1) (drop (i + 1) es)
next_line es i e inside at =
    ap (entries_text (i + 1)) (drop-cons es i e inside ∙ ap (λ (x : Entry). x ∷ drop (suc i) es) at
    ∙ ap (λ (n : ℕ). e ∷ drop n es) (sym (add-one i)))

-- what couldn't be put into its place was let go, or all of it is held as it was
pub held_whole : {C : Type 0} (a b c : Option TextBytes) (text : TextBytes)
    → Appends a b text → C ⊎ (c ≡ b) → IsLeft C a c text (Err fault.Failed)
held_whole a b c text handed (inl cleared) = inl cleared
held_whole a b c text handed (inr same) = inr (refl, subst (λ d. Appends a d text) (sym same) handed)
