-- What words ask for is one thing.
use Rattle.std.proofs.Common.{◌≡◌, Bool, true, false, Ok, Err, true≢false, sym, ap, subst, ◌∙◌}
use Rattle.cm_call.specs.Calls.{WordsResult}
use Rattle.cm_call.specs.CallsInside.{GivesCall}
use Rattle.cm_call.specs.declared.call.Call.{Call}
use Rattle.cm_call.specs.declared.call.Call.TheVariants as call
use Rattle.cm_call.specs.declared.call.RunOptions.{RunOptions}
use Rattle.cm_call.specs.declared.call.ServeOptions.{ServeOptions}
use Rattle.cm_call.specs.declared.call.Workload.{Workload}
use Rattle.cm_call.specs.declared.call.WordsFault.{WordsFault}
use Rattle.cm_call.specs.declared.call.WordsFault.TheVariants.{Usage}

-- which word a call is
abbrev pub is_run : Call → Bool
is_run (call.Run options) = true
is_run call.Check = false
is_run (call.Generate workload) = false
is_run (call.Serve options) = false
is_run call.Audit = false

-- Whether a call is that of `check`.
abbrev pub is_check : Call → Bool
is_check call.Check = true
is_check (call.Run options) = false
is_check (call.Generate workload) = false
is_check (call.Serve options) = false
is_check call.Audit = false

-- Whether a call is that of `generate`.
abbrev pub is_generate : Call → Bool
is_generate (call.Generate workload) = true
is_generate (call.Run options) = false
is_generate call.Check = false
is_generate (call.Serve options) = false
is_generate call.Audit = false

-- Whether a call is that of `serve`.
abbrev pub is_serve : Call → Bool
is_serve (call.Serve options) = true
is_serve (call.Run options) = false
is_serve call.Check = false
is_serve (call.Generate workload) = false
is_serve call.Audit = false

-- Whether a call is that of `audit`.
abbrev pub is_audit : Call → Bool
is_audit call.Audit = true
is_audit (call.Run options) = false
is_audit call.Check = false
is_audit (call.Generate workload) = false
is_audit (call.Serve options) = false

-- Words that are read as a call are read as one that is the same.
pub asked : {read : WordsResult Call} {found own : Call} → read ≡ Ok found → found ≡ own → read ≡ Ok own
asked is same = is ∙ ap Ok same

-- Two calls that the same words are read as are one.
pub one_call : {read : WordsResult Call} {found own other : Call} → read ≡ Ok found → found ≡ own → read ≡ Ok other → own ≡ other
one_call is same asks = cc (is, same, asks)

-- words that ask for this ask for no other word
pub no_other : {A : Type 0} {read : WordsResult Call} {found own other : Call} (is_own : Call → Bool) → read ≡ Ok found → found ≡ own → read ≡ Ok other → is_own own ≡ true → is_own other ≡ false → A
no_other {own = own} {other = other} is_own is same asks holds fails =
    let one : own ≡ other = one_call is same asks in
    absurd (true≢false (sym holds ∙ ap is_own one ∙ fails))

-- Words that ask for something have no fault.
pub no_fault : {A : Type 0} {read : WordsResult Call} {found own : Call} {fault : WordsFault} → read ≡ Ok found → found ≡ own → read ≡ Err fault → A
no_fault is same asks = absurd (cc (is, asks))

-- The options of two runs that the same words ask for are the same.
pub same_options : {read : WordsResult Call} {found : Call} {mine others : RunOptions} → read ≡ Ok found → found ≡ call.Run mine → read ≡ Ok (call.Run others) → mine ≡ others
same_options is same asks = cc (is, same, asks)

-- Two workloads that the same words ask for are the same.
pub same_workload : {read : WordsResult Call} {found : Call} {mine others : Workload} → read ≡ Ok found → found ≡ call.Generate mine → read ≡ Ok (call.Generate others) → mine ≡ others
same_workload is same asks = cc (is, same, asks)

-- The options of two services that the same words ask for are the same.
pub same_serving : {read : WordsResult Call} {found : Call} {mine others : ServeOptions} → read ≡ Ok found → found ≡ call.Serve mine → read ≡ Ok (call.Serve others) → mine ≡ others
same_serving is same asks = cc (is, same, asks)

-- ---- where nothing is asked for

-- Words for which a function returned that they ask for nothing are read as asking for nothing.
pub unusable : {read : WordsResult Call} (fault : WordsFault) → GivesCall {X = Call} (Err fault) read → fault ≡ Usage → read ≡ Err Usage
unusable {read = read} fault gives is = subst (λ (e : WordsFault). GivesCall {X = Call} (Err e) read) is gives

-- Words for which a function returned that they ask for nothing are read as no call.
pub no_call : {A : Type 0} {read : WordsResult Call} {other : Call} (fault : WordsFault) → GivesCall {X = Call} (Err fault) read → fault ≡ Usage → read ≡ Ok other → A
no_call fault gives is asks = absurd (cc (unusable fault gives is, asks))
