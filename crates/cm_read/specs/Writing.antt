-- The one text of a declaration.
pub use Rattle.cm_write.specs.Writing.{decl_text}
