use Rattle.std.proofs.Common.{◌≡◌, ap, inr, rules, ◌∙◌}
use Rattle.cm_keep.specs.Files.{SaysWhyUnkept}
use Rattle.cm_keep.specs.Asked.{FileNames, IsGoneOrSaysWhere, WasRefused, faulting, names_at}
use Rattle.cm_keep.proofs.lemmas.Asking.{as_told, as_where, at_err, failed_behind, gone_behind, if_err, refused_behind}
use Rattle.cm_keep.proofs.service.keep_service.Goals.{in-Ok-keep_book, in-Err-Memory, in-Err-Failed}
use Rattle.cm_keep.proofs.service.keep_service.Goals as goal

pub returns-clause-failed : goal.returns-clause-failed
returns-clause-failed g c =
    let made = c.in-Ok.ensures in
    let names = names_at c.args.keeping.now.at c.args.number in
    let named : record { beside = c.in-Ok.keeper.beside; place = c.in-Ok.keeper.place } ≡ names = λ i. record { beside = made.beside i; place = made.place i } in
    elim c.match-keep_book.branch [
      | in-Ok-keep_book w ↦ search rules
      | in-Err-Memory w ↦ at_err _ _ w.kept-is (failed_behind names _ _ _ _ _ made.asked w.in-Err-Memory.ensures.unkept named (ap g.F.FilePlace.asked c.into_files.ensures))
      | in-Err-Failed w ↦ at_err _ _ w.kept-is (failed_behind names _ _ _ _ _ made.asked w.in-Err-Failed.ensures.unkept named (ap g.F.FilePlace.asked c.into_files.ensures))
    ]

pub returns-clause-refused : goal.returns-clause-refused
returns-clause-refused g c =
    let made = c.in-Ok.ensures in
    let asked = g.F.FilePlace.asked in
    let names = names_at c.args.keeping.now.at c.args.number in
    let named : record { beside = c.in-Ok.keeper.beside; place = c.in-Ok.keeper.place } ≡ names = λ i. record { beside = made.beside i; place = made.place i } in
    let refused = WasRefused (asked c.args.files) (asked c.into_files.result) (faulting names) in
    elim c.match-keep_book.branch [
      | in-Ok-keep_book w ↦ search rules
      | in-Err-Memory w ↦ if_err refused _ _ w.kept-is tt
      | in-Err-Failed w ↦ if_err refused _ _ w.kept-is (refused_behind names _ _ _ _ _ _ made.asked w.in-Err-Failed.ensures.unkept named (ap asked c.into_files.ensures))
    ]

pub returns-clause-told : goal.returns-clause-told
returns-clause-told g c =
    let made = c.in-Ok.ensures in
    elim c.match-keep_book.branch [
      | in-Ok-keep_book w ↦ search rules
      | in-Err-Memory w ↦ search rules
      | in-Err-Failed w ↦ if_err (SaysWhyUnkept c.args.keeping.now.at) _ _ w.kept-is (as_told _ _ _ _ (ap (λ (n : FileNames). n.place) w.in-Err-Failed.ensures.names ∙ made.place) w.fault_line.ensures.line w.as_unkept.ensures)
    ]

pub returns-clause-left : goal.returns-clause-left
returns-clause-left g c =
    let made = c.in-Ok.ensures in
    let asked = g.F.FilePlace.asked in
    let names = names_at c.args.keeping.now.at c.args.number in
    let named : record { beside = c.in-Ok.keeper.beside; place = c.in-Ok.keeper.place } ≡ names = λ i. record { beside = made.beside i; place = made.place i } in
    let left = IsGoneOrSaysWhere (asked c.args.files) (asked c.into_files.result) names in
    elim c.match-keep_book.branch [
      | in-Ok-keep_book w ↦ search rules
      | in-Err-Memory w ↦ if_err left _ _ w.kept-is (inr tt)
      | in-Err-Failed w ↦ if_err left _ _ w.kept-is (gone_behind names _ _ _ _ _ _ made.asked w.in-Err-Failed.ensures.whole named (ap asked c.into_files.ensures)
          (λ whole. as_where _ names _ _ (w.in-Err-Failed.ensures.names ∙ named) (w.fault_line.ensures.left whole) w.as_unkept.ensures))
    ]
