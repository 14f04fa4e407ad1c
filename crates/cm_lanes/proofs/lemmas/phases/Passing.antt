-- The lanes of a phase, and phase after phase.
use Rattle.std.proofs.Common.{◌≡◌, ℕ, ◌<◌, List, Option, Some, length, map, get_or, refl, sym, ap, ◌∙◌, subst, arith}
use Rattle.cm_turn.specs.History.{StartsWith}
use Rattle.cm_turn.specs.Passes.{LockView, seen_up_to}
use Rattle.cm_world.specs.declared.reply.Entry.{Entry}
use Rattle.cm_world.proofs.lemmas.trees.Finding.{some_same}
use Rattle.cm_command.specs.declared.script.Line.{Line}
use Rattle.cm_gate.specs.declared.asked.GateCall.{GateCall}
use Rattle.cm_manager.specs.Asking.{frame_of}
use Rattle.cm_manager.specs.Work.{Manifests}
use Rattle.cm_manager.specs.Contract.{RealmPass}
use Rattle.cm_manager.specs.Kept.{IsOwnPass, KeepsPass, gates_view}
use Rattle.cm_lanes.specs.Lane.{Lane, Met, MetAll, LaneWorked}
use Rattle.cm_lanes.specs.Phases.{Passed, PassedAll}
use Rattle.cm_manager.proofs.lemmas.calling.Keeping.{keeps_met, met_later}
use Rattle.cm_lanes.proofs.lemmas.lines.Performing.{follows_later}

-- ---- one lane in a phase

module _ {G : Type 0} (log_of : G → Option (List GateCall)) (faults_of : G → ℕ) where
  -- A lane that has performed its lines of a phase, and then met the others, has passed the phase.
  pub passed_by : (turn : LockView) (manifests : Manifests) (lines : List Line) (last : List Entry) (x y z : Lane G) → LaneWorked log_of faults_of manifests lines x y → Met last y z → Passed log_of faults_of manifests lines last x z
  passed_by turn manifests lines last x y z w m =
      let p_is : m.pass ≡ w.q = some_same _ _ (sym m.was ∙ w.now) in
      let grows : StartsWith last w.q.seen = subst (λ (p : RealmPass). StartsWith last p.seen) p_is m.grows in
      let own : IsOwnPass (seen_up_to last w.q) = subst (λ (p : RealmPass). IsOwnPass (seen_up_to last p)) p_is m.own in
      let is = w.performed in
      let gates : gates_view log_of faults_of y.gates ≡ gates_view log_of faults_of z.gates = ap (gates_view log_of faults_of) (sym m.gates) in
      let keeps : KeepsPass manifests w.p (seen_up_to last w.q) (gates_view log_of faults_of x.gates) (gates_view log_of faults_of z.gates) =
      subst (λ g. KeepsPass manifests w.p (seen_up_to last w.q) (gates_view log_of faults_of x.gates) g) gates (keeps_met manifests w.p w.q last _ _ is.keeps grows own) in
      let later = subst (λ (c : ℕ). Rattle.cm_manager.specs.Turns.IsLaterHistory c w.q.seen last) is.keeps.caller (met_later w.q last grows (sym is.keeps.own) own) in
      record {
        worked = record {
          p = w.p;
          q = seen_up_to last w.q;
          was = w.was;
          now = m.now ∙ ap (λ (p : RealmPass). Some (seen_up_to last p)) p_is;
          performed = record {
            keeps = keeps;
            answers = is.answers;
            own_lines = is.own_lines;
            follows = follows_later (frame_of w.p) w.p.caller is.answers w.p.seen w.q.seen last is.follows later;
            said = λ kept. ap (λ (q : _). q.items) m.said ∙ is.said (sym m.lost ∙ kept);
          };
          lost = λ kept. w.lost (sym m.lost ∙ kept);
        };
        seen = refl;
        own = own;
      }

  -- Where all lanes have performed their lines of a phase, and then met, all have passed the phase.
  pub passed_all : (turn : LockView) (manifests : Manifests) (lines : List Line) (xs ys zs : List (Lane G)) → length ys ≡ length xs → ((k : ℕ) (d : Lane G) → k < length xs → LaneWorked log_of faults_of manifests lines (get_or xs k d) (get_or ys k d)) → MetAll ys zs → PassedAll log_of faults_of manifests lines xs zs
  passed_all turn manifests lines xs ys zs long worked met = record {
    last = met.seen;
    long = met.long ∙ long;
    each = λ k d lt. passed_by turn manifests lines met.seen (get_or xs k d) (get_or ys k d) (get_or zs k d) (worked k d lt) (met.each k d (omega (arith, long)));
  }
