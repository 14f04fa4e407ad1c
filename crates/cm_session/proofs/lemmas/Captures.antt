-- A closure may be shared with other threads where what it captures may.
use mathlib.Core.List.{[], ◌∷◌}
use mir.Syntax.{Sym}
use denote.Param.Send.{IsSync, recorded_sync, struct_sync}
use denote.RattleType.{RattleType}
use denote.Struct.Declared as struct
use denote.Struct.Tuple.{TupleAt, field_at, type_at}

-- A tuple of five may be shared with other threads where each of its five parts may.
pub five_sync : (ν : Sym) (A B C D E : RattleType) → IsSync A → IsSync B → IsSync C → IsSync D → IsSync E
    → IsSync (TupleAt ν (A ∷ B ∷ C ∷ D ∷ E ∷ []))
five_sync ν A B C D E a b c d e =
    let captured = A ∷ B ∷ C ∷ D ∷ E ∷ [] in
    recorded_sync (field_at ν captured).row _ _ (type_at ν captured).to_one
    (struct_sync (struct.shape (type_at ν captured)) (a, (b, (c, (d, (e, tt))))))
