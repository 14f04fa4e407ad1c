use Rattle.std.proofs.Common.{◌∙◌, refl}
use Rattle.std.proofs.lemmas.Str.{IsUtf8-append}
use Rattle.cm_names.proofs.lemmas.texts.Short.{both-put, room-stays}
use Rattle.cm_names.proofs.short.Short.join.Goals as goal

pub invariant_of-result : goal.invariant_of-result
invariant_of-result c =
    let prefix = c.copy_from_slice.ensures.after ∙ c.as_bytes.ensures.value in
    let back = c.copy_from_slice-2.ensures.after ∙ c.as_bytes-2.ensures.value in
    rw (prefix, back) (
      c.requires,
      room-stays c.args.prefix.now c.args.back.now _ 14 refl c.requires,
      ∣ rw (both-put c.args.prefix.now c.args.back.now _ _) (IsUtf8-append _ _ c.utf8.prefix c.utf8.back) ∣₁,
    )

pub returns : goal.returns
returns c =
    let prefix = c.copy_from_slice.ensures.after ∙ c.as_bytes.ensures.value in
    let back = c.copy_from_slice-2.ensures.after ∙ c.as_bytes-2.ensures.value in
    rw (prefix, back) (both-put c.args.prefix.now c.args.back.now _ _)
