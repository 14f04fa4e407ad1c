-- How a journal grows.
use Rattle.std.proofs.Common.{◌≡◌, ℕ, ◌+◌, List, [], ◌∷◌, ◌++◌, length, sym, ap, ◌∙◌, append_assoc, append-nil, arith}
use Rattle.cm_world.specs.declared.reply.Entry.{Entry}
use Rattle.cm_reply.specs.Journal.{entry_text, entries_text, header_text, line}
use Rattle.cm_reply.specs.Laws.{JournalBegins, JournalGrows}

-- the lines of one entry more, the first of which has the number n
pub entries_more : (n : ℕ) (es : List Entry) (e : Entry) → entries_text n (es ++ e ∷ []) ≡ entries_text n es ++ line (entry_text (length es + n) e)
entries_more n [] e = append-nil (line (entry_text n e)) ∙ ap (λ k. line (entry_text k e)) (omega arith)
entries_more n (d ∷ es) e =
    ap (λ t. line (entry_text n d) ++ t) (entries_more (n + 1) es e ∙ ap (λ k. entries_text (n + 1) es ++ line (entry_text k e)) (omega arith)) ∙ sym (append_assoc (line (entry_text n d)) (entries_text (n + 1) es) (line (entry_text (length (d ∷ es) + n) e)))

-- A journal without entries is its header.
pub journal_begins_lem : JournalBegins
journal_begins_lem f = append-nil (header_text f)

-- An entry more in a journal is a line more, with the next number.
pub journal_grows_lem : JournalGrows
journal_grows_lem f es e =
    ap (λ t. header_text f ++ t) (entries_more 1 es e) ∙ sym (append_assoc (header_text f) (entries_text 1 es) (line (entry_text (length es + 1) e)))
