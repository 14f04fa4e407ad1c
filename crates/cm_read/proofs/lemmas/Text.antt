-- The test for UTF-8, and texts whose JSON reads as a value.
use Rattle.std.proofs.Common.{◌≡◌, ℕ, Bool, true, false, List, Some, refl, ap, ◌∙◌}
use Rattle.std.specs.Str.{IsUtf8, is_utf8}
use Rattle.std.proofs.lemmas.Str.{IsUtf8-from_is_utf8, is_utf8-from_IsUtf8}
use Rattle.cm_names.specs.Steps.{◌>>=◌}
use Rattle.cm_read.specs.Manifest.{decl_of_json, decl_of_text, json_text, of_data}
use Rattle.serde_json.specs.Data.{Data}
use Rattle.cm_plain.specs.Relaxed.{JsonReads}

-- Bytes that are UTF-8 pass the test for it.
pub utf8_test : (bs : List ℕ) → IsUtf8 bs → is_utf8 bs ≡ true
utf8_test bs h = is_utf8-from_IsUtf8 bs h

-- Bytes that aren't UTF-8 fail the test for it.
pub utf8_test_false : (bs : List ℕ) → (IsUtf8 bs → ⊥) → is_utf8 bs ≡ false
utf8_test_false bs h = by (is_utf8 bs) refl
  where
    by : (b : Bool) → is_utf8 bs ≡ b → b ≡ false
    by true e = absurd (h (IsUtf8-from_is_utf8 bs e))
    by false e = refl

-- A text in the relaxed spelling whose JSON reads as a value is read as the value's declaration.
pub relaxed_decl : (text : List ℕ) (d : Data) → JsonReads text d → decl_of_text text ≡ of_data (Some d)
relaxed_decl text d h = ap (λ r. json_text r >>= decl_of_json) h.is_json ∙ ap of_data h.reads
