-- What a put of all that is printed writes, by the status.
use Rattle.std.proofs.Common.{◌≡◌, ℕ, List, length, Option, ◌⊎◌, inl, inr, sym, subst, arith, All}
use Rattle.std.specs.Prelude.{◌≢◌, Err}
use Rattle.std.specs.Io.KnownBytes.{Appends}
use Rattle.std.proofs.lemmas.List.{take_all}
use Rattle.cm_io.specs.OutsideInside.{PutsAll}
use Rattle.cm_io.specs.declared.output.Put.{Put}
use Rattle.cm_io.specs.declared.output.Put.TheVariants.{Done, WriteFault}
use Rattle.cm_world.specs.declared.answer.Refusal.TheVariants.{Memory}
use Rattle.cm_lanes.specs.declared.said.Said.{Said}
use Rattle.cm_program.specs.PrintedInside.{IsPrinted}
use Rattle.cm_program.specs.Written.{AppendsPrefix}

-- What a put of all writes is a prefix of the text, whether it went well or not.
put_prefix : (old new : Option (List ℕ)) (text : List ℕ) (p : Put) → PutsAll old new text p → AppendsPrefix old new text
put_prefix old new text Done all = (length text, subst (Appends old new) (sym (take_all (length text) text (omega arith))) all)
put_prefix old new text (WriteFault n) part = (n, part.1)

-- The status six is neither zero nor four.
not_six : {X : Type 0} → ◌≡◌ {A = ℕ} 6 0 ⊎ ◌≡◌ {A = ℕ} 6 4 → X
not_six (inl e) = absurd (omega (arith, e))
not_six (inr e) = absurd (omega (arith, e))

-- Whatever a put of the text came to, what it wrote is what is printed at status 6.
pub printed_wanting : (text : List ℕ) (said : List Said) (old new : Option (List ℕ)) (p : Put) → PutsAll old new text p → IsPrinted text said 6 old new
printed_wanting text said old new p put = record {
  all = λ e. absurd (omega (arith, e));
  had_memory = not_six;
  prefix = put_prefix old new text p put;
}

-- A put that wrote all of the text printed it at status 0, where each answer had memory.
pub printed_done : (text : List ℕ) (said : List Said) (old new : Option (List ℕ)) (p : Put) → p ≡ Done → All (λ s. s.result ≢ Err Memory) said → PutsAll old new text p → IsPrinted text said 0 old new
printed_done text said old new p is none put =
    let whole : Appends old new text = subst (PutsAll old new text) is put in
    record {
      all = λ _. whole;
      had_memory = λ _. none;
      prefix = put_prefix old new text Done whole;
    }
