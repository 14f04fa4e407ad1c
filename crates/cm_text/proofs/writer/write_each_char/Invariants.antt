use Rattle.std.proofs.Common.{◌≡◌, ◌++◌, false, IsTrue, string_bytes}
use Rattle.cm_text.specs.Spelling.{are_chars, chars_json}
use Rattle.cm_text.proofs.writer.write_each_char.Given as goal

abbrev pub invariant-loop-c : goal.invariant-loop-c
invariant-loop-c l = record {
  left : IsTrue (are_chars l.taken l.c-iterator.rest.now);
  written : string_bytes l.json ++ chars_json l.taken l.c-iterator.rest.now ≡ string_bytes l.fn.json ++ chars_json false l.inside;
}
