-- The words of a command, put together.
use Rattle.std.proofs.Common.{◌≡◌, List, [], ◌∷◌, ◌++◌, codes, sym, ap, ◌∙◌, append_assoc, append-nil}
use Rattle.std.specs.List.{join_with_byte, flat_map}
use Rattle.std.proofs.lemmas.Grind.{flat_map-append}
use Rattle.cm_decl.specs.declared.rows.Give.{Give}
use Rattle.cm_decl.specs.Words.{kind_word}
use Rattle.cm_command.specs.Grammar.{LineBytes}
use Rattle.cm_command.specs.Written.{spaced, give_words, target_word, rights_word, subdir_word, dependency_word, availability_word, origin_text}

-- words with one space between them are the first one and each other behind its space
pub joined_is : (w : LineBytes) (ws : List LineBytes) → join_with_byte 32 (w ∷ ws) ≡ w ++ flat_map spaced ws
joined_is w [] = sym (append-nil w)
joined_is w (v ∷ vs) = ap (λ t. w ++ 32 ∷ t) (joined_is v vs)

-- the words of a group behind its origin
parts_are : (g : Give) → flat_map spaced (target_word g ++ (rights_word g.rights ++ (subdir_word g.subdir ++ (dependency_word g.dependency ++ availability_word g.availability)))) ≡ flat_map spaced (target_word g) ++ (flat_map spaced (rights_word g.rights) ++ (flat_map spaced (subdir_word g.subdir) ++ (flat_map spaced (dependency_word g.dependency) ++ flat_map spaced (availability_word g.availability))))
parts_are g =
    flat_map-append spaced (target_word g) _ ∙ ap (λ t. flat_map spaced (target_word g) ++ t) (flat_map-append spaced (rights_word g.rights) _ ∙ ap (λ t. flat_map spaced (rights_word g.rights) ++ t) (flat_map-append spaced (subdir_word g.subdir) _ ∙ ap (λ t. flat_map spaced (subdir_word g.subdir) ++ t) (flat_map-append spaced (dependency_word g.dependency) (availability_word g.availability))))

-- The parts of a group, added to a text one by one, add the group's words, each behind a space.
pub give_is : (g : Give) (old a b d e f h i : LineBytes) → a ≡ (old ++ codes " ") ++ codes "+" → b ≡ (a ++ codes " ") ++ kind_word g.kind → d ≡ (b ++ codes " ") ++ g.source_name → e ≡ (d ++ codes " ") ++ origin_text g.from → f ≡ e ++ flat_map spaced (target_word g) → h ≡ (f ++ flat_map spaced (rights_word g.rights)) ++ flat_map spaced (subdir_word g.subdir) → i ≡ (h ++ flat_map spaced (dependency_word g.dependency)) ++ flat_map spaced (availability_word g.availability) → i ≡ old ++ flat_map spaced (give_words g)
give_is g old a b d e f h i ea eb ed ee ef eh ei = rw (parts_are g, ei, eh, ef, ee, ed, eb, ea) (simp append_assoc)

-- The parts of a `create`, put together one by one, are its words with one space between them.
pub create_is : (target coll name url t a b c : LineBytes) (ws : List LineBytes) → t ≡ (((codes "create" ++ codes " ") ++ target) ++ codes " ") ++ coll → a ≡ (t ++ codes " ") ++ name → b ≡ (a ++ codes " ") ++ url → c ≡ b ++ flat_map spaced ws → c ≡ join_with_byte 32 (codes "create" ∷ target ∷ coll ∷ name ∷ url ∷ ws)
create_is target coll name url t a b c ws et ea eb ec =
    rw (ec, eb, ea, et, joined_is (codes "create") (target ∷ coll ∷ name ∷ url ∷ ws)) (simp append_assoc)
