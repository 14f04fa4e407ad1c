-- No word of a line has a space.
use Rattle.std.proofs.Common.{◌≡◌, ℕ, List, [], ◌∷◌, ◌++◌, false, ◌==◌, Ok, codes, refl, sym, subst, rules, arith}
use Rattle.std.specs.List.{slice_split}
use Rattle.std.proofs.lemmas.List.Elements.{All-cons, All-append}
use Rattle.std.proofs.lemmas.List.Splits.{join_with_byte-slice_split}
use Rattle.cm_names.specs.Child.{child_text}
use Rattle.cm_names.specs.Rights.{RightSet, rights_behind, rights_of}
use Rattle.cm_decl.specs.declared.kind.Kind.{Kind}
use Rattle.cm_decl.specs.declared.kind.Kind.TheVariants as kind
use Rattle.cm_decl.specs.declared.origin.Origin.{Origin}
use Rattle.cm_decl.specs.declared.origin.Origin.TheVariants as origin
use Rattle.cm_decl.specs.Words.{kind_word}
use Rattle.cm_world.specs.declared.event.Target.{Target}
use Rattle.cm_world.specs.declared.event.Target.TheVariants as target
use Rattle.cm_command.specs.declared.place.Verb.{Verb}
use Rattle.cm_command.specs.declared.place.Verb.TheVariants as verb
use Rattle.cm_facts.proofs.Rights.{url_byte_no_space}
use Rattle.cm_command.specs.Words.{IsUrlText, IsTargetText, IsOriginText, IsRightsText}
use Rattle.cm_command.specs.WordsInside.{right_words}
use Rattle.cm_command.specs.Grammar.{LineBytes}
use Rattle.cm_command.specs.Places.{verb_word}
use Rattle.cm_command.proofs.lemmas.bytes.Pieces.{Lacks}
use Rattle.cm_command.proofs.lemmas.scripts.Lane.{decimal_lacks}
use Rattle.cm_command.proofs.lemmas.counts.Kind.{Each, of_each}
use Rattle.cm_command.proofs.lemmas.counts.RightCounts.{is_word, first_word}
use Rattle.cm_command.proofs.lemmas.written.Written.{AllLack, lacks_by, moniker_lacks, child_lacks, joined_lack}

-- A text that is the same as one without spaces has none.
pub lacks_same : (w t : LineBytes) → w ≡ t → Lacks 32 t → Lacks 32 w
lacks_same w t e h = subst (Lacks 32) (sym e) h

-- A text without a space behind a prefix without one has none.
pub lacks_prefix : (prefix w : LineBytes) → Lacks 32 prefix → Lacks 32 w → Lacks 32 (prefix ++ w)
lacks_prefix prefix w h k = All-append (λ b. (b == 32) ≡ false) prefix w h k

-- The word that begins a command has no space.
pub verb_lacks : (v : Verb) → Lacks 32 (verb_word v)
verb_lacks verb.Resolve = lacks_by 32 (codes "resolve") refl
verb_lacks verb.Start = lacks_by 32 (codes "start") refl
verb_lacks verb.Stop = lacks_by 32 (codes "stop") refl
verb_lacks verb.Shutdown = lacks_by 32 (codes "shutdown") refl
verb_lacks verb.Create = lacks_by 32 (codes "create") refl
verb_lacks verb.Destroy = lacks_by 32 (codes "destroy") refl
verb_lacks verb.List = lacks_by 32 (codes "list") refl
verb_lacks verb.Open = lacks_by 32 (codes "open") refl
verb_lacks verb.OpenExposed = lacks_by 32 (codes "open-exposed") refl
verb_lacks verb.Route = lacks_by 32 (codes "route") refl
verb_lacks verb.Doctor = lacks_by 32 (codes "doctor") refl
verb_lacks verb.Show = lacks_by 32 (codes "show") refl
verb_lacks verb.Survey = lacks_by 32 (codes "survey") refl
verb_lacks verb.Exited = lacks_by 32 (codes "exited") refl
verb_lacks verb.Events = lacks_by 32 (codes "events") refl

-- The word for a kind has no space.
pub kind_lacks : (k : Kind) → Lacks 32 (kind_word k)
kind_lacks kind.Protocol = lacks_by 32 (codes "protocol") refl
kind_lacks kind.Directory = lacks_by 32 (codes "directory") refl

-- A word that names an instance has no space.
pub target_lacks : (w : LineBytes) (a : Target) → IsTargetText w a → Lacks 32 w
target_lacks w (target.Named m) h = moniker_lacks w m h.0
target_lacks w (target.Inc n) h =
    lacks_same w (64 ∷ h.0) h.1 (All-cons (λ b. (b == 32) ≡ false) 64 h.0 refl (decimal_lacks h.0 h.2.0))

-- A word that names a source has no space.
pub origin_lacks : (w : LineBytes) (o : Origin) → IsOriginText w o → Lacks 32 w
origin_lacks w origin.Parent h = lacks_same w (codes "parent") h (lacks_by 32 (codes "parent") refl)
origin_lacks w origin.Own h = lacks_same w (codes "self") h (lacks_by 32 (codes "self") refl)
origin_lacks w origin.Framework h = lacks_same w (codes "framework") h (lacks_by 32 (codes "framework") refl)
origin_lacks w origin.Void h = lacks_same w (codes "void") h (lacks_by 32 (codes "void") refl)
origin_lacks w (origin.Child c) h =
    lacks_same w (35 ∷ child_text c) h.1 (All-cons (λ b. (b == 32) ≡ false) 35 (child_text c) refl (child_lacks c h.0))

-- A URL has no space.
pub url_lacks : (t : List ℕ) → IsUrlText t → Lacks 32 t
url_lacks t h k d lt = url_byte_no_space _ (h.bytes k d lt)

-- ---- words for rights

-- No word for rights has a space.
spaceless : Each (Lacks 32) right_words
spaceless =
    (lacks_by 32 (codes "connect") refl, (lacks_by 32 (codes "enumerate") refl, (lacks_by 32 (codes "execute") refl, (lacks_by 32 (codes "get_attributes") refl, (lacks_by 32 (codes "modify_directory") refl, (lacks_by 32 (codes "r*") refl, (lacks_by 32 (codes "read_bytes") refl, (lacks_by 32 (codes "rw*") refl, (lacks_by 32 (codes "rx*") refl, (lacks_by 32 (codes "traverse") refl, (lacks_by 32 (codes "update_attributes") refl, (lacks_by 32 (codes "w*") refl, (lacks_by 32 (codes "write_bytes") refl, (lacks_by 32 (codes "x*") refl, tt))))))))))))))

-- Words that state rights behind earlier ones have no spaces.
words_lack : (earlier ws : List LineBytes) (r : RightSet) → rights_behind earlier ws ≡ Ok r → AllLack 32 ws
words_lack earlier [] r h = tt
words_lack earlier (w ∷ ws) r h =
    let first = first_word earlier w ws r h in
    (of_each (Lacks 32) right_words w spaceless (is_word w first.set first.known), words_lack (earlier ++ w ∷ []) ws first.rest first.others)

-- Words that state rights have no spaces.
all_words_lack : (ws : List LineBytes) (r : RightSet) → rights_of ws ≡ Ok r → AllLack 32 ws
unfolding rights_of
all_words_lack [] r h = tt
all_words_lack (w ∷ ws) r h = words_lack [] (w ∷ ws) r h

-- Words for rights have no space.
pub rights_lack : (w : LineBytes) (r : RightSet) → IsRightsText w r → Lacks 32 w
rights_lack w r h =
    subst (Lacks 32) (join_with_byte-slice_split 44 w) (joined_lack 44 refl (slice_split (λ b. b == 44) w) (all_words_lack (slice_split (λ b. b == 44) w) r h))
