-- What a command says of the texts that a journal shares with it: targets and creations.
use Rattle.std.proofs.Common.{◌≡◌, ℕ, List, [], ◌∷◌, ◌++◌, codes, decimal, ◌==◌, Result, Ok, Err, MatchResult, IfOk, refl, sym, ap, subst, ◌∙◌, append_assoc}
use Rattle.std.specs.List.{flat_map, slice_split, join_with_byte}
use Rattle.cm_names.specs.declared.moniker.Moniker.{Moniker}
use Rattle.cm_decl.specs.declared.rows.Give.{Give}
use Rattle.cm_world.specs.declared.event.Event.{Event}
use Rattle.cm_world.specs.declared.event.Event.TheVariants as event
use Rattle.cm_world.specs.declared.event.Target.{Target}
use Rattle.cm_world.specs.declared.event.Target.TheVariants.{Named, Inc}
use Rattle.cm_world.specs.Create.{child_with}
use Rattle.cm_command.specs.declared.command.Command.{Command}
use Rattle.cm_command.specs.declared.command.Command.TheVariants as command
use Rattle.cm_command.specs.declared.command.CommandFault.{CommandFault}
use Rattle.cm_command.specs.declared.command.CommandFault.TheVariants as command_fault
use Rattle.cm_command.specs.Words.{IsTargetText}
use Rattle.cm_command.specs.Grammar.{CommandText, CommandWords}
use Rattle.cm_command.specs.Written.{target_text, give_words, IsTarget}
use Rattle.cm_command.specs.WrittenInside.{command_text}
use Rattle.cm_command.proofs.lemmas.written.Writer.{joined_is}
use Rattle.cm_command.proofs.lemmas.written.Written.{split_join, lacks_by, moniker_lacks}
use Rattle.cm_command.proofs.lemmas.written.WritesLine.{writes_its_line_lem}
use Rattle.cm_command.proofs.lemmas.written.ReadCommands.{what_is_read_lem}
use Rattle.cm_reply.specs.Lists.{TextBytes}
use Rattle.cm_reply.specs.Legible.{IsLegible}
use Rattle.cm_reply.specs.EventWords.{Told, event_of, told_text}
use Rattle.cm_reply.specs.Reading.{IsCreatedIn, IsOr}
use Rattle.cm_reply.specs.declared.entry_words.EntryFault.{EntryFault}
use Rattle.cm_reply.specs.declared.event_words.EventWord.TheVariants as word

-- the command that creates the child
abbrev pub command_of : Told word.Create → Command
command_of x = command.Create (Inc x.0) x.1.0 x.1.1.0 x.1.1.1.0 x.1.1.1.1

-- What a journal tells of a creation is, behind `create @`, the text of its command.
line_is : (i : ℕ) (coll name url : TextBytes) (gives : List Give) → codes "create @" ++ told_text word.Create (i, (coll, (name, (url, gives)))) ≡ command_text (command.Create (Inc i) coll name url gives)
line_is i coll name url gives =
    rw (joined_is (codes "create") (target_text (Inc i) ∷ coll ∷ name ∷ url ∷ flat_map give_words gives)) (simp append_assoc)

-- The line that tells of a creation is the text of the command that asks for it.
pub told_created : (rest : TextBytes) (x : Told word.Create) → IsLegible (event_of word.Create x) → rest ≡ told_text word.Create x → CommandText (codes "create @" ++ rest) (command_of x)
told_created rest x is e =
    subst (λ t. CommandText t (command_of x)) (sym (ap (λ t. codes "create @" ++ t) e ∙ line_is x.0 x.1.0 x.1.1.0 x.1.1.1.0 x.1.1.1.1)) (writes_its_line_lem (command_of x) is)

-- The fault of a bad command is not lack of memory.
pub not_memory : (f : CommandFault) (n : ℕ) → f ≡ command_fault.BadCommand n → f ≡ command_fault.Memory → ⊥
not_memory f n bad memory = let both : command_fault.BadCommand n ≡ command_fault.Memory = sym bad ∙ memory in absurd (cc both)

-- A creation that a legible command asks for is legible.
pub created_legible : (t : TextBytes) (i : ℕ) (coll name url : TextBytes) (gives : List Give) → CommandText t (command.Create (Inc i) coll name url gives) → IsLegible (event.Create i (child_with coll name url gives))
created_legible t i coll name url gives is = what_is_read_lem t (command.Create (Inc i) coll name url gives) is

-- what was read is legible, where its parent is told by its number
pub created_is_legible : (t : TextBytes) (parent : Target) (coll name url : TextBytes) (gives : List Give) (result : Result Event EntryFault) → MatchResult result (IsCreatedIn parent (child_with coll name url gives)) (λ f. (i : ℕ) → parent ≡ Inc i → ⊥) → CommandText t (command.Create parent coll name url gives) → IfOk result IsLegible
created_is_legible t parent coll name url gives (Err f) h said = tt
created_is_legible t parent coll name url gives (Ok e) h said =
    subst IsLegible (sym h.event) (created_legible t h.inc coll name url gives (subst (λ a. CommandText t (command.Create a coll name url gives)) h.by_number said))

-- The event that a command's text was written for is the creation that is found.
pub created_found : (parent : Target) (coll name url : TextBytes) (gives : List Give) (result : Result Event EntryFault) (x : Told word.Create) → MatchResult result (IsCreatedIn parent (child_with coll name url gives)) (λ f. (i : ℕ) → parent ≡ Inc i → ⊥) → command.Create parent coll name url gives ≡ command_of x → IsOr result (event_of word.Create x)
created_found parent coll name url gives (Err f) x h same = let by_number : parent ≡ Inc x.0 = cc same in absurd (h x.0 by_number)
created_found parent coll name url gives (Ok e) x h same = cc (h.event, h.by_number, same)

-- ---- targets

-- what is read as a moniker is one of at most 4,096 bytes, as that of a command is
pub target_is : (t : TextBytes) (m : Moniker) → IsTargetText t (Named m) → IsTarget (Named m)
target_is t m h =
    let words : slice_split (λ b. b == 32) (join_with_byte 32 (codes "show" ∷ t ∷ [])) ≡ codes "show" ∷ t ∷ [] = split_join 32 (codes "show") (t ∷ []) (lacks_by 32 (codes "show") refl) (moniker_lacks t m h.0, tt) in
    what_is_read_lem (join_with_byte 32 (codes "show" ∷ t ∷ [])) (command.Show (Named m)) (subst (λ ws. CommandWords ws (command.Show (Named m))) (sym words) (CommandWords.show h))
