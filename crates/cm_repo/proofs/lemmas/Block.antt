-- The blocks that a map's entries stand for, and what is found among them.
use Rattle.std.proofs.Common.{◌≡◌, ◌≢◌, ℕ, Bool, true, false, cond, List, [], ◌∷◌, ◌++◌, Some, None, Ok, Err, Option, All, is_some, string_bytes, String, IsTrue, refl, sym, ap, subst, ◌∙◌, true≢false, if◌then◌else◌}
use Rattle.std.specs.Map.{lookup}
use Rattle.std.specs.Option.{option_map, unwrap_or}
use Rattle.std.specs.Result.{result_map_both, result_unwrap_or}
use Rattle.std.specs.Str.{bytes_eq}
use Rattle.std.specs.String.{string_eq}
use Rattle.std.specs.declared.alloc.Global.{Global}
use Rattle.std.proofs.lemmas.Bool.{false_from_ne_true}
use Rattle.std.proofs.lemmas.Cmp.{nat_list_eq_equiv}
use Rattle.std.proofs.lemmas.List.{map_push}
use Rattle.std.proofs.lemmas.List.Elements.{All-append, All-head, All-tail}
use Rattle.std.proofs.lemmas.Slice.Eq.{bytes_eq-Decides}
use Rattle.indexmap.specs.IndexMap.{IndexMap, insert_entry}
use Rattle.indexmap.proofs.CallerLemmas.{insert_entry-new}
use Rattle.cm_names.specs.Steps.{◌>>=◌}
use Rattle.cm_facts.proofs.Lists.{All_one}
use Rattle.cm_repo.specs.Blocks.{Blocks, blocks_of, block_at, put, added, repo_fault, IsOwnKey}
use Rattle.cm_repo.specs.BlocksInside.{FindsAlso}
use Rattle.cm_repo.specs.Urls.{key_of}
use Rattle.cm_repo.specs.declared.fault.RepoFault.TheVariants.{Repeated}
use Rattle.cm_repo.specs.declared.repository.KeptBlock.{KeptBlock}

-- A look-up among the blocks gives the bytes of what one among the entries gives.
pub block_at-entries : (entries : List (String Global × KeptBlock)) (key : List ℕ) → block_at (blocks_of entries) key ≡ option_map (λ b. b.bytes) (lookup (λ k. bytes_eq key (string_bytes k)) entries)
block_at-entries [] key = refl
block_at-entries (e ∷ es) key = by (bytes_eq key (string_bytes e.0)) (block_at-entries es key)
  where
    by : (same : Bool) → block_at (blocks_of es) key ≡ option_map (λ b. b.bytes) (lookup (λ k. bytes_eq key (string_bytes k)) es)
        → cond same (Some e.1.bytes) (block_at (blocks_of es) key) ≡ option_map (λ b. b.bytes) (cond same (Some e.1) (lookup (λ k. bytes_eq key (string_bytes k)) es))
    by true later = refl
    by false later = later

-- Something is found just where its bytes are.
is_some-bytes : (found : Option KeptBlock) → is_some (option_map (λ b. b.bytes) found) ≡ is_some found
is_some-bytes None = refl
is_some-bytes (Some b) = refl

-- the map's test for a text is the blocks' test for the same bytes
pub is_some-block_at : (entries : List (String Global × KeptBlock)) {blocks : Blocks} (text key : List ℕ) (answer : Bool) → blocks_of entries ≡ blocks → text ≡ key
    → answer ≡ is_some (lookup (λ k. bytes_eq text (string_bytes k)) entries) → is_some (block_at blocks key) ≡ answer
is_some-block_at entries text key answer seen same found =
    ap (λ all. is_some (block_at all key)) (sym seen) ∙ ap (λ k. is_some (block_at (blocks_of entries) k)) (sym same) ∙ ap is_some (block_at-entries entries text) ∙ is_some-bytes _ ∙ sym found

-- Where no bytes are found, nothing is.
none_without : (found : Option KeptBlock) → option_map (λ b. b.bytes) found ≡ None → found ≡ None
none_without None none = refl
none_without (Some b) none = absurd (cc none)

-- Two things that are found alike are the same.
some_one : (x y : KeptBlock) → Some x ≡ Some y → x ≡ y
some_one x y same = ap (λ (found : Option KeptBlock). unwrap_or found x) same

-- A text is its own URL's, where an entry is found by it whose block came under that very text.
pub verbatim_at : (entries : List (String Global × KeptBlock)) (url : List ℕ) (b : KeptBlock) → All IsOwnKey entries
    → lookup (λ k. bytes_eq url (string_bytes k)) entries ≡ Some b → IsTrue b.verbatim → key_of url ≡ Ok url
verbatim_at [] url b all found is = absurd (cc found)
verbatim_at (e ∷ es) url b all found is =
    by (bytes_eq url (string_bytes e.0)) refl found (λ there. verbatim_at es url b (All-tail IsOwnKey e es all) there is)
  where
    by : (same : Bool) → bytes_eq url (string_bytes e.0) ≡ same → cond same (Some e.1) (lookup (λ k. bytes_eq url (string_bytes k)) es) ≡ Some b
        → (lookup (λ k. bytes_eq url (string_bytes k)) es ≡ Some b → key_of url ≡ Ok url) → key_of url ≡ Ok url
    by true test here later =
        let one : url ≡ string_bytes e.0 = (bytes_eq-Decides url (string_bytes e.0)).0 test in
        let own : IsTrue e.1.verbatim = subst (λ (x : KeptBlock). IsTrue x.verbatim) (sym (some_one _ _ here)) is in
        subst (λ text. key_of text ≡ Ok text) (sym one) (All-head IsOwnKey e es all own)
    by false test there later = later there

-- one URL has one key
key_of-one : (url key other : List ℕ) → key_of url ≡ Ok key → key_of url ≡ Ok other → key ≡ other
key_of-one url key other first second = ap (λ given. result_unwrap_or given []) (sym first ∙ second)

-- An entry that goes into a map under a new key is the last one.
entries-insert : {S : Type 0} (m n : IndexMap (String Global) KeptBlock S) (k : String Global) (b : KeptBlock) (key : List ℕ) (blocks : Blocks) → blocks_of m.entries ≡ blocks → string_bytes k ≡ key
    → block_at blocks key ≡ None → n.entries ≡ insert_entry string_eq m.entries k b → n.entries ≡ m.entries ++ (k, b) ∷ []
entries-insert m n k b key blocks seen same absent grown =
    let missing : block_at (blocks_of m.entries) (string_bytes k) ≡ None = ap (block_at (blocks_of m.entries)) same ∙ ap (λ all. block_at all key) seen ∙ absent in
    grown ∙ insert_entry-new string_eq m k b (none_without _ (sym (block_at-entries m.entries (string_bytes k)) ∙ missing))

-- The block of an entry that goes into a map under a new key is the last one.
pub blocks_of-insert : {S : Type 0} (m n : IndexMap (String Global) KeptBlock S) (k : String Global) (b : KeptBlock) (key : List ℕ) (blocks : Blocks) → blocks_of m.entries ≡ blocks → string_bytes k ≡ key
    → block_at blocks key ≡ None → n.entries ≡ insert_entry string_eq m.entries k b → blocks_of n.entries ≡ blocks ++ (key, b.bytes) ∷ []
blocks_of-insert m n k b key blocks seen same absent grown =
    ap blocks_of (entries-insert m n k b key blocks seen same absent grown)
    ∙ map_push _ m.entries (k, b) ∙ ap (λ all. all ++ (string_bytes k, b.bytes) ∷ []) seen ∙ ap (λ text. blocks ++ (text, b.bytes) ∷ []) same

-- Where an entry goes into a map under a new key, the keys stay their own URLs' texts, if the new one is.
pub own-insert : {S : Type 0} (m n : IndexMap (String Global) KeptBlock S) (k : String Global) (b : KeptBlock) (key : List ℕ) (blocks : Blocks) → blocks_of m.entries ≡ blocks → string_bytes k ≡ key
    → block_at blocks key ≡ None → n.entries ≡ insert_entry string_eq m.entries k b → All IsOwnKey m.entries
    → (IsTrue b.verbatim → key_of key ≡ Ok key) → All IsOwnKey n.entries
own-insert m n k b key blocks seen same absent grown all own =
    subst (All IsOwnKey) (sym (entries-insert m n k b key blocks seen same absent grown))
    (All-append IsOwnKey m.entries ((k, b) ∷ []) all (All_one IsOwnKey (k, b) (λ is. subst (λ text. key_of text ≡ Ok text) (sym same) (own is))))

-- A block whose key is among the blocks already is refused as repeated.
pub added-repeated : (blocks : Blocks) (url bytes key : List ℕ) → key_of url ≡ Ok key → is_some (block_at blocks key) ≡ true → added blocks url bytes ≡ Err Repeated
added-repeated blocks url bytes key is there =
    ap (λ given. result_map_both (λ k. k) repo_fault given >>= put blocks bytes) is ∙ ap (λ b. if b then Err Repeated else Ok (blocks ++ (key, bytes) ∷ [])) there

-- A block whose key isn't among the blocks yet is put behind them, under that key.
pub added-new : (blocks : Blocks) (url bytes key : List ℕ) → key_of url ≡ Ok key → block_at blocks key ≡ None → added blocks url bytes ≡ Ok (blocks ++ (key, bytes) ∷ [])
added-new blocks url bytes key is absent =
    ap (λ given. result_map_both (λ k. k) repo_fault given >>= put blocks bytes) is ∙ ap (λ o. if is_some o then Err Repeated else Ok (blocks ++ (key, bytes) ∷ [])) absent

-- the last block is found, where none stood under its key
found_last : (blocks : Blocks) (bytes key : List ℕ) → block_at blocks key ≡ None → block_at (blocks ++ (key, bytes) ∷ []) key ≡ Some bytes
found_last [] bytes key absent = ap (λ same. cond same (Some bytes) None) (nat_list_eq_equiv.refl key)
found_last (b ∷ blocks) bytes key absent = by (bytes_eq key b.0) absent (found_last blocks bytes key)
  where
    by : (same : Bool) → cond same (Some b.1) (block_at blocks key) ≡ None → (block_at blocks key ≡ None → block_at (blocks ++ (key, bytes) ∷ []) key ≡ Some bytes)
        → cond same (Some b.1) (block_at (blocks ++ (key, bytes) ∷ []) key) ≡ Some bytes
    by true none later = absurd (true≢false (ap is_some none))
    by false none later = later none

-- With a block more under another key, what is found under a key is as before.
others_as_before : (blocks : Blocks) (bytes key other : List ℕ) → other ≢ key → block_at (blocks ++ (key, bytes) ∷ []) other ≡ block_at blocks other
others_as_before [] bytes key other apart = ap (λ same. cond same (Some bytes) None) (false_from_ne_true (bytes_eq other key) (λ same. apart ((bytes_eq-Decides other key).0 same)))
others_as_before (b ∷ blocks) bytes key other apart = ap (cond (bytes_eq other b.0) (Some b.1)) (others_as_before blocks bytes key other apart)

-- With a block more, all blocks are found under their keys.
pub FindsAlso-push : (blocks : Blocks) (url bytes key : List ℕ) → key_of url ≡ Ok key → block_at blocks key ≡ None → FindsAlso blocks (blocks ++ (key, bytes) ∷ []) url bytes
FindsAlso-push blocks url bytes key is absent = record {
  found = λ k same. subst (λ q. block_at (blocks ++ (key, bytes) ∷ []) q ≡ Some bytes) (key_of-one url key k is same) (found_last blocks bytes key absent);
  others = λ k apart. others_as_before blocks bytes key k (λ e. apart (is ∙ ap Ok (sym e)));
}
