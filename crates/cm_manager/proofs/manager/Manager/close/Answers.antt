use Rattle.std.proofs.Common.{List, subst, sym}
use Rattle.cm_world.specs.declared.reply.Entry.{Entry}
use Rattle.cm_manager.specs.Closed.{HasEnds}
use Rattle.cm_manager.specs.Managers.{BearsPassesOut}
use Rattle.cm_manager.proofs.lemmas.left.Closings.{book_of}
use Rattle.cm_manager.proofs.manager.Manager.close.Goals as goal

pub returns : goal.returns
returns c =
    let closed = c.close_realm.ensures in
    let book = c.into_book.ensures in
    let same = sym book.entries in
    record {
      closes = subst (λ (h : List Entry). BearsPassesOut h c.args.passes) same closed.closes;
      ended = subst HasEnds same closed.ended;
      book = book_of _ _ _ book.entries book.limit book.reserved closed.frames;
    }
