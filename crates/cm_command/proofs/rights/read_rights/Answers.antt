use Rattle.std.proofs.Common.{◌≡◌, [], ◌∷◌, ◌++◌, ◌+◌, length, rules, sym, ap, subst, ◌∙◌}
use Rattle.cm_names.specs.Rights.{rights_of}
use Rattle.cm_names.specs.RightsInside.{rights_if_faultless}
use Rattle.cm_command.specs.Counts.{IsWordFault}
use Rattle.cm_command.specs.WordsInside.{IsUnused}
use Rattle.cm_command.proofs.lemmas.counts.RightCounts.{IsOnward, begins, further, stuck, ended, never_faulty}
use Rattle.cm_command.proofs.lemmas.bytes.Cuts.{begins_with_piece, piece_and_rest, piece_alone}
use Rattle.cm_command.proofs.rights.read_rights.Goals as goal

pub pieces-init : goal.pieces-init
pieces-init c =
    subst (λ used. IsOnward c.args.word.now used 0 c.args.word.now) (sym c.new-used.ensures) (begins c.args.word.now)

pub returns-in-Err : goal.returns-in-Err
returns-in-Err c =
    stuck c.args.word.now c.pieces.used c.pieces.place c.pieces.rest.now c.cut.result.0.now c.in-Err.fault c.behind.result c.pieces.invariant c.cut.ensures.clean (begins_with_piece 44 c.cut.result.1 c.pieces.rest.now c.cut.result.0.now c.cut.ensures.whole) c.behind.ensures (subst (λ used. IsWordFault (IsUnused used) c.cut.result.0.now c.in-Err.fault) c.as_slice.ensures c.in-Err.ensures)

pub unreachable-requires : goal.unreachable-requires
unreachable-requires c =
    let grown : c.push.new.self ≡ c.pieces.used ++ c.cut.result.0.now ∷ [] = search rules in
    never_faulty c.args.word.now c.pieces.used c.pieces.place c.pieces.rest.now c.cut.result.0.now c.pieces.invariant (subst (λ used. IsUnused used c.cut.result.0.now) c.as_slice.ensures c.in-Ok.ensures.1) (ap (λ used. rights_if_faultless (rights_of used)) (sym grown ∙ sym c.as_slice-in_default.ensures) ∙ sym c.of_words.ensures ∙ c.in_default-of_words.is)

pub returns-in_default : goal.returns-in_default
returns-in_default c =
    let grown : c.push.new.self ≡ c.pieces.used ++ c.cut.result.0.now ∷ [] = search rules in
    ended c.args.word.now c.pieces.used c.pieces.place c.pieces.rest.now c.cut.result.0.now c.in-Some-of_words.rights c.pieces.invariant c.cut.ensures.clean (subst (λ used. IsUnused used c.cut.result.0.now) c.as_slice.ensures c.in-Ok.ensures.1) (piece_alone 44 c.cut.result.1 c.pieces.rest.now c.cut.result.0.now c.in_default.is c.cut.ensures.whole) (ap (λ used. rights_if_faultless (rights_of used)) (sym grown ∙ sym c.as_slice-in_default.ensures) ∙ sym c.of_words.ensures ∙ c.in-Some-of_words.is)

pub pieces-preserved : goal.pieces-preserved
pieces-preserved c =
    let grown : c.push.new.self ≡ c.pieces.used ++ c.cut.result.0.now ∷ [] = search rules in
    subst (λ used. IsOnward c.args.word.now used (c.pieces.place + length c.cut.result.0.now + 1) c.in-Some.more.now) (sym grown) (further c.args.word.now c.pieces.used c.pieces.place c.pieces.rest.now c.cut.result.0.now c.in-Some.more.now c.pieces.invariant c.cut.ensures.clean (subst (λ used. IsUnused used c.cut.result.0.now) c.as_slice.ensures c.in-Ok.ensures.1) (piece_and_rest 44 c.cut.result.1 c.in-Some.more c.pieces.rest.now c.cut.result.0.now c.in-Some.is c.cut.ensures.whole))
