-- What a line does to a script, step by step of the code.
use Rattle.std.proofs.Common.{◌≡◌, ◌≢◌, ℕ, ◌≤◌, List, [], ◌∷◌, ◌++◌, length, true, false, Option, Some, None, Result, Ok, Err, MatchResult, codes, refl, sym, ap, subst, ◌∙◌, arith, append_assoc, true≢false}
use Rattle.std.specs.Prelude.{is_none}
use Rattle.cm_world.specs.declared.frame.Builtin.{Builtin}
use Rattle.cm_command.specs.declared.command.CommandFault.{CommandFault}
use Rattle.cm_command.specs.declared.command.CommandFault.TheVariants as command_fault
use Rattle.cm_command.specs.declared.script.Block.{Block}
use Rattle.cm_command.specs.declared.script.Line.{Line}
use Rattle.cm_command.specs.declared.script_reader.Draft.{Draft}
use Rattle.cm_command.specs.declared.script_reader.LineFault.{LineFault as Refused}
use Rattle.cm_command.specs.declared.script_reader.LineFault.TheVariants as refused
use Rattle.cm_command.specs.Words.{IsUrlText}
use Rattle.cm_command.specs.Grammar.{LineBytes, BuiltinText, IsBuiltinFault}
use Rattle.cm_command.specs.Scripts.{TakesScriptLine, LineFault, IsRepeated}
use Rattle.cm_command.specs.ScriptsInside.{TakesInside, IsLineFault, IsUrlFault, fault_behind, place_of}

-- Where a test tells that there is no value, there is none.
pub none_of : {A : Type 0} (o : Option A) → is_none o ≡ true → o ≡ None
none_of None e = refl
none_of (Some x) e = absurd (true≢false (sym e))

-- Where a test tells that there is some value, there is one.
pub some_of : {A : Type 0} (o : Option A) → is_none o ≡ false → (x : A) × (o ≡ Some x)
some_of None e = absurd (true≢false e)
some_of (Some x) e = (x, refl)

-- A line `sync` behind the root, outside of blocks, closes the phase and begins an empty one.
pub sync_takes : (n : ℕ) (d : Draft) (ps : List (List Line)) (p : List Line) → d.block ≡ None → is_none d.root ≡ false → ps ≡ d.phases ++ d.phase ∷ [] → p ≡ [] → TakesScriptLine n (codes "sync") d (record d { phases = ps; phase = p; begun = true })
sync_takes n d ps p closed root e f = rw (e, f) (TakesScriptLine.sync closed (some_of d.root root).1)

-- The line `%%` closes the block, which comes to the manifests.
pub inside_ends : (t : LineBytes) (b : Block) (d : Draft) (ms : List Block) → t ≡ codes "%%" → ms ≡ d.manifests ++ b ∷ [] → TakesInside t b d (record d { manifests = ms })
inside_ends t b d ms e f = rw (e, f) TakesInside.ends_block

-- A line of a block other than `%%` is added to the block, with a line feed behind it.
pub inside_adds : (t : LineBytes) (b : Block) (d : Draft) (m bs : List ℕ) → (t ≡ codes "%%" → ⊥) → m ≡ b.bytes ++ t → bs ≡ m ++ 10 ∷ [] → TakesInside t b d (record d { block = Some (record b { bytes = bs }) })
inside_adds t b d m bs never e f =
    let same : bs ≡ b.bytes ++ (t ++ codes "\n") = f ∙ ap (λ x. x ++ 10 ∷ []) e ∙ append_assoc b.bytes t (10 ∷ []) in
    rw same (TakesInside.adds_line never)

-- What a line does inside of the open block is what it does to the script.
pub inside_takes : (n : ℕ) (d : Draft) {t : LineBytes} {b : Block} {d₀ e : Draft} → TakesInside t b d₀ e → d.block ≡ Some b → d₀ ≡ record d { block = None } → TakesScriptLine n t d e
inside_takes n d TakesInside.ends_block at same = rw same (TakesScriptLine.closes at)
inside_takes n d (TakesInside.adds_line never) at same = rw same (TakesScriptLine.inner at never)

-- a draft without an open block stays the same where that is taken out
pub closed_same : (d : Draft) → d.block ≡ None → record d { block = None } ≡ d
closed_same d e = ap (λ o. record d { block = o }) (sym e)

-- Where no block is open, to take the block out of the draft changes nothing of what a line does.
pub outside_takes : (r : Result (Unit {0}) Refused) (n : ℕ) (t : LineBytes) (d d₀ e : Draft) → d.block ≡ None → d₀ ≡ record d { block = None } → MatchResult r (λ _. TakesScriptLine n t d₀ e) (λ x. IsLineFault d₀ t x) → MatchResult r (λ _. TakesScriptLine n t d e) (λ x. IsLineFault d t x)
outside_takes r n t d d₀ e closed same h =
    subst (λ x. MatchResult r (λ _. TakesScriptLine n t x e) (λ y. IsLineFault x t y)) (same ∙ closed_same d closed) h

-- Inside of the open block a line is taken by the script, or memory runs out.
pub inside_result : (r : Result (Unit {0}) Refused) (n : ℕ) (t : LineBytes) (b : Block) (d d₀ e : Draft) → d.block ≡ Some b → d₀ ≡ record d { block = None } → MatchResult r (λ _. TakesInside t b d₀ e) (λ x. x ≡ refused.Memory) → MatchResult r (λ _. TakesScriptLine n t d e) (λ x. IsLineFault d t x)
inside_result (Ok x) n t b d d₀ e at same h = inside_takes n d h at same
inside_result (Err x) n t b d d₀ e at same h = rw h tt

-- ---- header lines

-- A line of `manifest ` and a URL opens a block, where none is open and no command has come.
pub opens_takes : (n : ℕ) (d : Draft) (u v : LineBytes) (bs : List ℕ) → bs ≡ [] → d.block ≡ None → d.begun ≡ false → IsUrlText u → v ≡ u → TakesScriptLine n (codes "manifest " ++ u) d (record d { block = Some (record { line = n; url = v; bytes = bs }) })
opens_takes n d u v bs none closed early url e = rw (e, none) (TakesScriptLine.opens closed early url)

-- The fault of the URL behind `manifest ` is that of the line, before any command.
pub manifest_fault : (d : Draft) (u : LineBytes) (e : Refused) → d.block ≡ None → d.begun ≡ false → IsUrlFault 9 u e → IsLineFault d (codes "manifest " ++ u) e
manifest_fault d u (refused.Bad number at) closed early h = rw (h.1, h.2.1) (LineFault.bad_manifest closed early h.0 h.2.2)
manifest_fault d u refused.Memory closed early h = tt

-- A line of `root ` and a URL tells the root, where none has come, and no command has.
pub root_takes : (n : ℕ) (d : Draft) (u v : LineBytes) → d.block ≡ None → d.begun ≡ false → d.root ≡ None → IsUrlText u → v ≡ u → TakesScriptLine n (codes "root " ++ u) d (record d { root = Some v })
root_takes n d u v closed early never url e = rw e (TakesScriptLine.root closed early never url)

-- The fault of the URL behind `root ` is that of the line, where no root has come, and no command.
pub root_fault : (d : Draft) (u : LineBytes) (e : Refused) → d.block ≡ None → d.begun ≡ false → d.root ≡ None → IsUrlFault 5 u e → IsLineFault d (codes "root " ++ u) e
root_fault d u (refused.Bad number at) closed early never h = rw (h.1, h.2.1) (LineFault.bad_root closed early never h.0 h.2.2)
root_fault d u refused.Memory closed early never h = tt

-- A line of `builtin ` and a builtin that isn't repeated adds it, before any command.
pub builtin_takes : (n : ℕ) (d : Draft) (w : LineBytes) (b : Builtin) (bs : List Builtin) → d.block ≡ None → d.begun ≡ false → BuiltinText w b → (IsRepeated d.builtins b → ⊥) → bs ≡ d.builtins ++ b ∷ [] → TakesScriptLine n (codes "builtin " ++ w) d (record d { builtins = bs })
builtin_takes n d w b bs closed early is new e = rw e (TakesScriptLine.builtin closed early is new)

-- The fault of the text behind `builtin ` is that of the line, before any command.
pub builtin_fault : (d : Draft) (w : LineBytes) (e : CommandFault) → d.block ≡ None → d.begun ≡ false → (e ≢ command_fault.Memory → IsBuiltinFault w e) → IsLineFault d (codes "builtin " ++ w) (fault_behind 8 e)
builtin_fault d w (command_fault.BadCommand at) closed early h =
    let bad = h (λ same. absurd (cc same)) in
    LineFault.bad_builtin closed early bad.0 bad.1
builtin_fault d w command_fault.Memory closed early h = tt

-- The position that the fault of a builtin's text tells is within that text.
pub builtin_place : (w : LineBytes) (e : CommandFault) → (e ≢ command_fault.Memory → IsBuiltinFault w e) → place_of e ≤ length w
builtin_place w (command_fault.BadCommand at) h = let bad = h (λ same. absurd (cc same)) in bad.1.within
builtin_place w command_fault.Memory h = omega arith
