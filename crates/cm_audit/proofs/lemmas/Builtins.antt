-- The lines of builtin capabilities are read as they are written.
use Rattle.std.proofs.Common.{◌≡◌, ℕ, List, [], ◌∷◌, ◌++◌, Bool, true, false, ◌==◌, Option, Some, None, IsTrue, codes, refl, sym, ap, subst, ◌∙◌}
use Rattle.std.specs.List.{slice_split}
use Rattle.std.proofs.lemmas.List.{append_cancel_left}
use Rattle.cm_names.specs.Name.{IsName}
use Rattle.cm_names.specs.Path.{is_path, service_path}
use Rattle.cm_names.specs.Rights.{RightSet, text_of}
use Rattle.cm_decl.specs.declared.kind.Kind.{Kind}
use Rattle.cm_decl.specs.declared.kind.Kind.TheVariants as kind
use Rattle.cm_world.specs.declared.frame.Builtin.{Builtin}
use Rattle.cm_command.specs.declared.command.CommandFault.{CommandFault}
use Rattle.cm_command.specs.declared.command.CommandFault.TheVariants as fault
use Rattle.cm_command.specs.Grammar.{BuiltinText, BuiltinWords, IsBuiltinFault}
use Rattle.cm_command.proofs.lemmas.written.Written.{split_join, lacks_by, name_lacks, path_lacks, rights_lack, rights_read}
use Rattle.cm_command.proofs.lemmas.written.ReadCommands.{rights_are}
use Rattle.cm_command.proofs.lemmas.scripts.OneScript.{words_one_way}
use Rattle.cm_reply.specs.Journal.{builtin_text, builtin_words, provided_rights}
use Rattle.cm_reply.specs.Legible.{IsLegibleAs, IsLegibleBuiltin}
use Rattle.cm_reply.specs.Lists.{TextBytes, when_some}

-- A builtin that words of a head say is one that a journal can tell of.
pub legible_by : (ws : List TextBytes) (b : Builtin) → BuiltinWords ws b → IsLegibleBuiltin b
legible_by ws b (BuiltinWords.protocol h) = record { name = h; stands = (refl, refl) }
legible_by ws b (BuiltinWords.directory {w = w} {r = r} h p rights) = record { name = h; stands = (p, (r, refl, rights_are w r rights)) }

-- A builtin is the one that is made of its kind, its name, its path and its rights.
made : (b : Builtin) (k : Kind) (path : TextBytes) (rights : Option RightSet) → b.kind ≡ k → b.path ≡ path → b.rights ≡ rights → b ≡ record { kind = k; name = b.name; path = path; rights = rights }
made b k path rights kinds paths same =
    ap (λ x. record { kind = x; name = b.name; path = b.path; rights = b.rights }) kinds
    ∙ ap (λ x. record { kind = k; name = b.name; path = x; rights = b.rights }) paths
    ∙ ap (λ x. record { kind = k; name = b.name; path = path; rights = x }) same

-- The words of a legible builtin capability of a kind, with a proper name, state it.
reads_as : (b : Builtin) (k : Kind) → b.kind ≡ k → IsName b.name → IsLegibleAs k b → BuiltinText (builtin_words k b) b
reads_as b kind.Protocol is name legible =
    let words : slice_split (λ c. c == 32) (codes "protocol " ++ b.name) ≡ codes "protocol" ∷ b.name ∷ [] =
    split_join 32 (codes "protocol") (b.name ∷ []) (lacks_by 32 (codes "protocol") refl) (name_lacks 32 refl b.name name, tt) in
    subst (λ ws. BuiltinWords ws b) (sym words)
    (subst (λ x. BuiltinWords (codes "protocol" ∷ b.name ∷ []) x) (sym (made b kind.Protocol (service_path b.name) None is legible.0 legible.1)) (BuiltinWords.protocol name))
reads_as b kind.Directory is name legible =
    let r : RightSet = legible.1.0 in
    let rights : b.rights ≡ Some r = legible.1.1 in
    let text : builtin_words kind.Directory b ≡ codes "directory " ++ (b.name ++ (codes " " ++ (b.path ++ (codes " " ++ text_of r)))) =
    ap (λ o. codes "directory " ++ (b.name ++ (codes " " ++ (b.path ++ when_some provided_rights o)))) rights in
    let words : slice_split (λ c. c == 32) (codes "directory " ++ (b.name ++ (codes " " ++ (b.path ++ (codes " " ++ text_of r))))) ≡ codes "directory" ∷ b.name ∷ b.path ∷ text_of r ∷ [] =
    split_join 32 (codes "directory") (b.name ∷ b.path ∷ text_of r ∷ []) (lacks_by 32 (codes "directory") refl) (name_lacks 32 refl b.name name, (path_lacks b.path legible.0, (rights_lack r, tt))) in
    subst (λ ws. BuiltinWords ws b) (sym (ap (slice_split (λ c. c == 32)) text ∙ words))
    (subst (λ x. BuiltinWords (codes "directory" ∷ b.name ∷ b.path ∷ text_of r ∷ []) x) (sym (made b kind.Directory b.path (Some r) is refl rights)) (BuiltinWords.directory name legible.0 (rights_read r legible.1.2)))

-- a legible builtin is what its words say
pub is_said : (b : Builtin) → IsLegibleBuiltin b → BuiltinText (builtin_words b.kind b) b
is_said b legible = reads_as b b.kind refl legible.name legible.stands

-- Two builtins that a journal can tell of with one line are the same.
pub one_builtin : (b c : Builtin) → IsLegibleBuiltin b → IsLegibleBuiltin c → builtin_text b ≡ builtin_text c → b ≡ c
one_builtin b c h k same =
    let words : builtin_words b.kind b ≡ builtin_words c.kind c = append_cancel_left (codes "builtin ") _ _ same in
    words_one_way _ b c (subst (λ t. BuiltinText t b) words (is_said b h)) (is_said c k)

-- no legible builtin has a line whose words say none
pub unsaid : (t w : TextBytes) → t ≡ codes "builtin " ++ w → ((b : Builtin) → BuiltinText w b → ⊥) → (b : Builtin) → IsLegibleBuiltin b → t ≡ builtin_text b → ⊥
unsaid t w is none b legible same =
    none b (subst (λ x. BuiltinText x b) (append_cancel_left (codes "builtin ") _ _ (sym same ∙ is)) (is_said b legible))

-- A line whose words say a builtin that is written otherwise is that of no builtin.
pub unwritten : (t w : TextBytes) (b : Builtin) → t ≡ codes "builtin " ++ w → BuiltinText w b → (t ≡ builtin_text b → ⊥) → (c : Builtin) → IsLegibleBuiltin c → t ≡ builtin_text c → ⊥
unwritten t w b is said other c legible same =
    let there : BuiltinText w c = subst (λ x. BuiltinText x c) (append_cancel_left (codes "builtin ") _ _ (sym same ∙ is)) (is_said c legible) in
    let one : b ≡ c = words_one_way _ b c said there in
    other (same ∙ ap builtin_text (sym one))

-- a fault of the words is that they say none
pub fault_unsaid : (w : TextBytes) (e : CommandFault) (n : ℕ) → e ≡ fault.BadCommand n → ((e ≡ fault.Memory → ⊥) → IsBuiltinFault w e) → (b : Builtin) → BuiltinText w b → ⊥
fault_unsaid w (fault.BadCommand m) n is told b said = (told (λ same. cc same)).0 (b, said)
fault_unsaid w fault.Memory n is told b said = absurd (cc is)
