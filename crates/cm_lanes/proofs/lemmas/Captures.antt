-- A closure may be shared with other threads where what it captures may.
use mathlib.Core.List.{[], ◌∷◌}
use mir.Syntax.{Sym}
use denote.Param.Send.{IsSync, recorded_sync, struct_sync}
use denote.RattleType.{RattleType}
use denote.Struct.Declared as struct
use denote.Struct.Tuple.{TupleAt, field_at, type_at}

-- A closure that captures four things may be shared with other threads where each of them may.
pub four_sync : (ν : Sym) (A B C D : RattleType) → IsSync A → IsSync B → IsSync C → IsSync D
    → IsSync (TupleAt ν (A ∷ B ∷ C ∷ D ∷ []))
four_sync ν A B C D a b c d =
    let captured = A ∷ B ∷ C ∷ D ∷ [] in
    recorded_sync (field_at ν captured).row _ _ (type_at ν captured).to_one
    (struct_sync (struct.shape (type_at ν captured)) (a, (b, (c, (d, tt)))))
