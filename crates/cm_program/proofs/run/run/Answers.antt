use Rattle.std.proofs.Common.{rules, ◌≡◌, ◌⊎◌, ◌≤◌, ◌∙◌, ℕ, Ok, inl, inr, length, map, refl, sym, ap, subst, add-zero}
use Rattle.std.proofs.KnownBytes.{Keeps-refl}
use Rattle.std.specs.Prelude.{None}
use Rattle.std.specs.Io.KnownBytes.{Keeps}
use Rattle.cm_call.specs.Generated.{script_of}
use Rattle.cm_program.specs.Headline.{RunsNothing, RunsScript}
use Rattle.cm_program.specs.Run.{IsCheckStatus, IsRefusalStatus, RunsAsServed, RunsOwn, RunsSome}
use Rattle.cm_program.specs.Stock.{served_script}
use Rattle.cm_program.specs.Written.{OfKnown, SaysOnErr}
use Rattle.cm_io.specs.Doors.{IsOpenAt}
use Rattle.cm_io.specs.Outside.{Rose}
use Rattle.cm_program.specs.Sessions.{RunsSessions}
use Rattle.cm_call.specs.declared.call.RunOptions.{RunOptions}
use Rattle.cm_call.specs.declared.call.ServeOptions.{ServeOptions}
use Rattle.cm_call.specs.declared.call.Workload.{Workload}
use Rattle.cm_call.specs.declared.call.Wanted.TheVariants.{Summary}
use Rattle.cm_program.specs.Sessions.{served_frame, served_manifests}
use Rattle.cm_session.specs.Links.{view_of}
use Rattle.cm_session.specs.Serving.{back_view}
use Rattle.cm_program.proofs.lemmas.links.Attending.{runs_no_session}
use Rattle.cm_program.proofs.lemmas.whole.Run.{empty_history, known_nothing, of_faulty, own_nothing, some_unread}
use Rattle.cm_program.proofs.lemmas.whole.Handing.{handed_on}
use Rattle.cm_program.proofs.lemmas.whole.Saying.{says_usage, says_want}
use Rattle.cm_program.proofs.lemmas.Statuses.{at_six, at_told, but_told, check_idles, few_given, not_check, not_six, not_two, not_run, not_script, not_serve, run_isnt_idle, script_idles, serve_isnt_idle}
use Rattle.cm_program.proofs.lemmas.Asking.{asked, is_audit, is_check, is_generate, is_run, is_serve, no_call, no_fault, no_other, same_options, same_serving, same_workload, unusable}
use Rattle.cm_program.proofs.run.run.Goals as goal

pub returns-in-Ok-Run : goal.returns-in-Ok-Run
returns-in-Ok-Run g c =
    handed_on c.without_links.result _ c.without_links.ensures
    (record {
      usage = not_script 2 c.run_script-ran.result.status refl c.run_script-ran.ensures.others;
      unusable = no_fault c.in-Ok-Run.ensures.gives c.in-Ok-Run.field-0-is;
      untouched = no_fault c.in-Ok-Run.ensures.gives c.in-Ok-Run.field-0-is;
      unread = λ none. absurd (none (inl (c.in-Ok-Run.options, asked c.in-Ok-Run.ensures.gives c.in-Ok-Run.field-0-is)));
      unwritten = λ none. absurd (none (inl (inl (c.in-Ok-Run.options, asked c.in-Ok-Run.ensures.gives c.in-Ok-Run.field-0-is))));
      read = c.run_script-ran.ensures.read;
      write = c.run_script-ran.ensures.write;
      door = not_script 5 c.run_script-ran.result.status refl c.run_script-ran.ensures.others;
      sound = λ none. refl;
      heard = c.run_script-ran.ensures.heard;
      whole = c.run_script-ran.ensures.whole;
      quiet = c.run_script-ran.ensures.quiet;
      silent = script_idles c.run_script-ran.result.status c.run_script-ran.ensures.others c.run_script-ran.ensures.silent;
      kept = λ none. absurd (none (inl (c.in-Ok-Run.options, asked c.in-Ok-Run.ensures.gives c.in-Ok-Run.field-0-is)));
      err = c.run_script-ran.ensures.err;
      history = c.run_script-ran.ensures.history;
      gates = c.run_script-ran.ensures.gates;
      empty = script_idles c.run_script-ran.result.status c.run_script-ran.ensures.others c.run_script-ran.ensures.empty;
      other = λ none. absurd (none (inl (inl (c.in-Ok-Run.options, asked c.in-Ok-Run.ensures.gives c.in-Ok-Run.field-0-is))));
      unserved = λ no_workload no_door. c.run_script-ran.ensures.unserved;
      given = sym (add-zero (g.D.Door.counts c.args.door).links);
      unopened = λ none. (refl, refl);
      of_run = λ options asks. record {
        status = c.run_script-ran.ensures.others;
        refused = c.run_script-ran.ensures.refused;
        read_out = c.run_script-ran.ensures.ended;
        faulty = c.run_script-ran.ensures.faulty;
        headline = λ ended.
            subst (λ (o : RunOptions). OfKnown (RunsAsServed (λ served. RunsScript g.G.Gates.log g.G.Gates.faults o.wanted o.repository served c.args.gates c.run_script-ran.result.gates c.run_script-ran.result.book.entries c.run_script-ran.result.status (g.K.Sink.written c.args.out.now) (g.K.Sink.written c.run_script-ran.new.out))) (g.S.Source.left c.args.input.now))
            (same_options c.in-Ok-Run.ensures.gives c.in-Ok-Run.field-0-is asks) (c.run_script-ran.ensures.headline ended);
        some = λ ended.
            subst (λ (o : RunOptions). RunsSome (λ served. RunsScript g.G.Gates.log g.G.Gates.faults o.wanted o.repository served c.args.gates c.run_script-ran.result.gates c.run_script-ran.result.book.entries c.run_script-ran.result.status (g.K.Sink.written c.args.out.now) (g.K.Sink.written c.run_script-ran.new.out))
            (RunsNothing c.run_script-ran.result.book.entries c.args.gates c.run_script-ran.result.gates × Keeps (g.K.Sink.written c.args.out.now) (g.K.Sink.written c.run_script-ran.new.out)) c.run_script-ran.result.status (g.S.Source.left c.args.input.now))
            (same_options c.in-Ok-Run.ensures.gives c.in-Ok-Run.field-0-is asks) (c.run_script-ran.ensures.some ended);
      };
      of_check = λ asks. no_other is_run c.in-Ok-Run.ensures.gives c.in-Ok-Run.field-0-is asks refl refl;
      of_audit = λ asks. no_other is_run c.in-Ok-Run.ensures.gives c.in-Ok-Run.field-0-is asks refl refl;
      of_generate = λ w asks. no_other is_run c.in-Ok-Run.ensures.gives c.in-Ok-Run.field-0-is asks refl refl;
      of_serve = λ o asks. no_other is_run c.in-Ok-Run.ensures.gives c.in-Ok-Run.field-0-is asks refl refl;
    })

pub returns-in-Ok-Generate : goal.returns-in-Ok-Generate
returns-in-Ok-Generate g c =
    handed_on c.without_links-in-Ok-Generate.result _ c.without_links-in-Ok-Generate.ensures
    (record {
      usage = not_run 2 c.run_generated-ran.result.status refl c.run_generated-ran.ensures.others;
      unusable = no_fault c.in-Ok-Generate.ensures.gives c.in-Ok-Generate.field-0-is;
      untouched = no_fault c.in-Ok-Generate.ensures.gives c.in-Ok-Generate.field-0-is;
      unread = λ none. refl;
      unwritten = λ none. absurd (none (inr (c.in-Ok-Generate.workload, asked c.in-Ok-Generate.ensures.gives c.in-Ok-Generate.field-0-is)));
      read = not_run 3 c.run_generated-ran.result.status refl c.run_generated-ran.ensures.others;
      write = c.run_generated-ran.ensures.cause;
      door = not_run 5 c.run_generated-ran.result.status refl c.run_generated-ran.ensures.others;
      sound = λ none. refl;
      heard = λ three six. refl;
      whole = c.run_generated-ran.ensures.whole;
      quiet = λ never. refl;
      silent = run_isnt_idle c.run_generated-ran.result.status c.run_generated-ran.ensures.others;
      kept = λ none. absurd (none (inr (c.in-Ok-Generate.workload, asked c.in-Ok-Generate.ensures.gives c.in-Ok-Generate.field-0-is)));
      err = c.run_generated-ran.ensures.err;
      history = c.run_generated-ran.ensures.history;
      gates = c.run_generated-ran.ensures.gates;
      empty = run_isnt_idle c.run_generated-ran.result.status c.run_generated-ran.ensures.others;
      other = λ none. absurd (none (inl (inr (c.in-Ok-Generate.workload, asked c.in-Ok-Generate.ensures.gives c.in-Ok-Generate.field-0-is))));
      unserved = λ no_workload. absurd (no_workload (c.in-Ok-Generate.workload, asked c.in-Ok-Generate.ensures.gives c.in-Ok-Generate.field-0-is));
      given = sym (add-zero (g.D.Door.counts c.args.door).links);
      unopened = λ none. (refl, refl);
      of_run = λ options asks. no_other is_generate c.in-Ok-Generate.ensures.gives c.in-Ok-Generate.field-0-is asks refl refl;
      of_check = λ asks. no_other is_generate c.in-Ok-Generate.ensures.gives c.in-Ok-Generate.field-0-is asks refl refl;
      of_audit = λ asks. no_other is_generate c.in-Ok-Generate.ensures.gives c.in-Ok-Generate.field-0-is asks refl refl;
      of_generate = λ w asks. record {
        status = c.run_generated-ran.ensures.others;
        runs =
            subst (λ (w : Workload). RunsOwn (λ served. RunsScript g.G.Gates.log g.G.Gates.faults (Summary w.size) None served c.args.gates c.run_generated-ran.result.gates c.run_generated-ran.result.book.entries c.run_generated-ran.result.status (g.K.Sink.written c.args.out.now) (g.K.Sink.written c.run_generated-ran.new.out)) (script_of w.seed w.size) c.run_generated-ran.result.status)
            (same_workload c.in-Ok-Generate.ensures.gives c.in-Ok-Generate.field-0-is asks) c.run_generated-ran.ensures.runs;
        unmade = λ none.
            c.run_generated-ran.ensures.unmade (λ served is. none served (subst (λ (x : Workload). served_script (script_of x.seed x.size) ≡ Ok served) (same_workload c.in-Ok-Generate.ensures.gives c.in-Ok-Generate.field-0-is asks) is));
        unread = refl;
      };
      of_serve = λ o asks. no_other is_generate c.in-Ok-Generate.ensures.gives c.in-Ok-Generate.field-0-is asks refl refl;
    })

pub returns-in-Ok-Serve : goal.returns-in-Ok-Serve
returns-in-Ok-Serve g c =
    record {
      usage = not_serve 2 c.run_sessions.result.status refl c.run_sessions.ensures.attended.others;
      unusable = no_fault c.in-Ok-Serve.ensures.gives c.in-Ok-Serve.field-0-is;
      untouched = no_fault c.in-Ok-Serve.ensures.gives c.in-Ok-Serve.field-0-is;
      unread = λ none. refl;
      unwritten = λ none. refl;
      read = not_serve 3 c.run_sessions.result.status refl c.run_sessions.ensures.attended.others;
      write = not_serve 4 c.run_sessions.result.status refl c.run_sessions.ensures.attended.others;
      door = c.run_sessions.ensures.attended.failed;
      sound = c.run_sessions.ensures.attended.sound;
      heard = λ three six. refl;
      whole = λ four six. refl;
      quiet = λ never. refl;
      silent = serve_isnt_idle c.run_sessions.result.status c.run_sessions.ensures.attended.others;
      kept = λ none six. Keeps-refl _;
      err = c.run_sessions.ensures.err;
      history = c.run_sessions.ensures.history;
      gates = c.run_sessions.ensures.attended.sixteen;
      empty = serve_isnt_idle c.run_sessions.result.status c.run_sessions.ensures.attended.others;
      other = λ none. absurd (none (inr (c.in-Ok-Serve.options, asked c.in-Ok-Serve.ensures.gives c.in-Ok-Serve.field-0-is)));
      unserved = λ no_workload no_door. absurd (no_door (c.in-Ok-Serve.options, asked c.in-Ok-Serve.ensures.gives c.in-Ok-Serve.field-0-is));
      given = c.run_sessions.ensures.attended.given;
      unopened = λ none. absurd (none (c.in-Ok-Serve.options, asked c.in-Ok-Serve.ensures.gives c.in-Ok-Serve.field-0-is));
      of_run = λ options asks. no_other is_serve c.in-Ok-Serve.ensures.gives c.in-Ok-Serve.field-0-is asks refl refl;
      of_check = λ asks. no_other is_serve c.in-Ok-Serve.ensures.gives c.in-Ok-Serve.field-0-is asks refl refl;
      of_audit = λ asks. no_other is_serve c.in-Ok-Serve.ensures.gives c.in-Ok-Serve.field-0-is asks refl refl;
      of_generate = λ w asks. no_other is_serve c.in-Ok-Serve.ensures.gives c.in-Ok-Serve.field-0-is asks refl refl;
      of_serve = λ o asks. record {
        status = c.run_sessions.ensures.attended.others;
        sessions =
            subst (λ (x : ServeOptions). RunsSessions g.G.Gates.log g.G.Gates.faults (view_of g.D.Link.Source g.D.Link.Sink) (served_frame x) (served_manifests x) x.workers c.args.gates c.run_sessions.result.gates c.run_sessions.result.book.entries
            (map (back_view (view_of g.D.Link.Source g.D.Link.Sink)) c.run_sessions.result.links) c.run_sessions.result.status)
            (same_serving c.in-Ok-Serve.ensures.gives c.in-Ok-Serve.field-0-is asks) c.run_sessions.ensures.attended.runs;
        few = subst (λ (x : ServeOptions). length c.run_sessions.result.links ≤ x.sessions) (same_serving c.in-Ok-Serve.ensures.gives c.in-Ok-Serve.field-0-is asks) c.run_sessions.ensures.attended.few;
        done =
            subst (λ (x : ServeOptions). c.run_sessions.result.status ≡ 0 → (length c.run_sessions.result.links ≡ x.sessions) ⊎ Rose (g.D.Door.counts c.args.door).closings (g.D.Door.counts c.run_sessions.result.door).closings)
            (same_serving c.in-Ok-Serve.ensures.gives c.in-Ok-Serve.field-0-is asks) c.run_sessions.ensures.attended.done;
        place =
            subst (λ (x : ServeOptions). c.run_sessions.result.status ≡ 0 → IsOpenAt x.socket (g.D.Door.place c.run_sessions.result.door))
            (same_serving c.in-Ok-Serve.ensures.gives c.in-Ok-Serve.field-0-is asks) c.run_sessions.ensures.place;
        nowhere_else =
            subst (λ (x : ServeOptions). (g.D.Door.place c.run_sessions.result.door ≡ g.D.Door.place c.args.door) ⊎ IsOpenAt x.socket (g.D.Door.place c.run_sessions.result.door))
            (same_serving c.in-Ok-Serve.ensures.gives c.in-Ok-Serve.field-0-is asks) c.run_sessions.ensures.nowhere_else;
        untouched = (refl, refl);
      };
    }

pub returns-in-Err-Memory : goal.returns-in-Err-Memory
returns-in-Err-Memory g c =
    record {
      usage = λ is. not_six c.stopped-in-Err-Memory.ensures.status c.out_of_memory.ensures.status is refl;
      unusable = λ asks. inr (at_six c.stopped-in-Err-Memory.ensures.status c.out_of_memory.ensures.status);
      untouched = λ asks. (refl, refl);
      unread = λ none. refl;
      unwritten = λ none. refl;
      read = λ is. not_six c.stopped-in-Err-Memory.ensures.status c.out_of_memory.ensures.status is refl;
      write = λ is. not_six c.stopped-in-Err-Memory.ensures.status c.out_of_memory.ensures.status is refl;
      door = λ is. not_six c.stopped-in-Err-Memory.ensures.status c.out_of_memory.ensures.status is refl;
      sound = λ is. not_six c.stopped-in-Err-Memory.ensures.status c.out_of_memory.ensures.status is refl;
      heard = λ three six. refl;
      whole = λ four six. refl;
      quiet = λ never. refl;
      silent = λ idle. Keeps-refl _;
      kept = λ none six. Keeps-refl _;
      err = says_want g.E.Sink.written g.E.Sink.faults c.args.err.now c.out_of_memory.new.err c.stopped-in-Err-Memory.result.status (at_six c.stopped-in-Err-Memory.ensures.status c.out_of_memory.ensures.status) c.out_of_memory.ensures.said;
      history = empty_history c.stopped-in-Err-Memory.result.book.entries c.stopped-in-Err-Memory.ensures.empty;
      gates = ap length c.stopped-in-Err-Memory.ensures.gates ∙ c.requires.gates;
      empty = λ idle. (c.stopped-in-Err-Memory.ensures.empty, c.stopped-in-Err-Memory.ensures.gates);
      other = λ none. (c.stopped-in-Err-Memory.ensures.empty, c.stopped-in-Err-Memory.ensures.gates);
      unserved = λ no_workload no_door. of_faulty (RunsNothing c.stopped-in-Err-Memory.result.book.entries c.args.gates c.stopped-in-Err-Memory.result.gates) (g.S.Source.left c.args.input.now) (c.stopped-in-Err-Memory.ensures.empty, c.stopped-in-Err-Memory.ensures.gates);
      given = search rules;
      unopened = λ none. (c.stopped-in-Err-Memory.ensures.links, c.stopped-in-Err-Memory.ensures.door);
      of_run = λ options asks. record {
        status = inl (inr (inr (at_six c.stopped-in-Err-Memory.ensures.status c.out_of_memory.ensures.status)));
        refused = λ is. not_six c.stopped-in-Err-Memory.ensures.status c.out_of_memory.ensures.status is refl;
        read_out = λ is. not_six c.stopped-in-Err-Memory.ensures.status c.out_of_memory.ensures.status is refl;
        faulty = of_faulty (IsRefusalStatus c.stopped-in-Err-Memory.result.status) (g.S.Source.left c.args.input.now) (inr (inr (at_six c.stopped-in-Err-Memory.ensures.status c.out_of_memory.ensures.status)));
        headline = λ ran.
            known_nothing g.G.Gates.log g.G.Gates.faults (g.S.Source.left c.args.input.now) options.wanted options.repository c.args.gates c.stopped-in-Err-Memory.result.gates c.stopped-in-Err-Memory.result.book.entries c.stopped-in-Err-Memory.result.status (g.K.Sink.written c.args.out.now)
            c.stopped-in-Err-Memory.ensures.empty c.stopped-in-Err-Memory.ensures.gates (at_six c.stopped-in-Err-Memory.ensures.status c.out_of_memory.ensures.status);
        some = λ ran. some_unread _ _ _ _ (at_six c.stopped-in-Err-Memory.ensures.status c.out_of_memory.ensures.status) ((c.stopped-in-Err-Memory.ensures.empty, c.stopped-in-Err-Memory.ensures.gates), Keeps-refl _);
      };
      of_check = λ asks. record {
        status = inr (inr (inr (inr (at_six c.stopped-in-Err-Memory.ensures.status c.out_of_memory.ensures.status))));
        read_out = λ is. not_six c.stopped-in-Err-Memory.ensures.status c.out_of_memory.ensures.status is refl;
        valid = λ is. not_six c.stopped-in-Err-Memory.ensures.status c.out_of_memory.ensures.status is refl;
        invalid = λ is. not_six c.stopped-in-Err-Memory.ensures.status c.out_of_memory.ensures.status is refl;
        told = λ is. not_six c.stopped-in-Err-Memory.ensures.status c.out_of_memory.ensures.status is refl;
      };
      of_audit = λ asks. record {
        status = inr (inr (inr (inr (at_six c.stopped-in-Err-Memory.ensures.status c.out_of_memory.ensures.status))));
        read_out = λ is. not_six c.stopped-in-Err-Memory.ensures.status c.out_of_memory.ensures.status is refl;
        legal = λ is. not_six c.stopped-in-Err-Memory.ensures.status c.out_of_memory.ensures.status is refl;
        illegal = λ is. not_six c.stopped-in-Err-Memory.ensures.status c.out_of_memory.ensures.status is refl;
        told = λ is. not_six c.stopped-in-Err-Memory.ensures.status c.out_of_memory.ensures.status is refl;
      };
      of_generate = λ w asks. record {
        status = inr (inr (at_six c.stopped-in-Err-Memory.ensures.status c.out_of_memory.ensures.status));
        runs =
            own_nothing g.G.Gates.log g.G.Gates.faults (Summary w.size) None (script_of w.seed w.size) c.args.gates c.stopped-in-Err-Memory.result.gates c.stopped-in-Err-Memory.result.book.entries c.stopped-in-Err-Memory.result.status (g.K.Sink.written c.args.out.now)
            c.stopped-in-Err-Memory.ensures.empty c.stopped-in-Err-Memory.ensures.gates (at_six c.stopped-in-Err-Memory.ensures.status c.out_of_memory.ensures.status);
        unmade = λ none. ((c.stopped-in-Err-Memory.ensures.empty, c.stopped-in-Err-Memory.ensures.gates), refl);
        unread = refl;
      };
      of_serve = λ o asks. record {
        status = inr (inr (at_six c.stopped-in-Err-Memory.ensures.status c.out_of_memory.ensures.status));
        sessions =
            runs_no_session g.G.Gates.log g.G.Gates.faults (view_of g.D.Link.Source g.D.Link.Sink) (served_frame o) (served_manifests o) o.workers c.args.gates c.stopped-in-Err-Memory.result.gates c.stopped-in-Err-Memory.result.book.entries
            (map (back_view (view_of g.D.Link.Source g.D.Link.Sink)) c.stopped-in-Err-Memory.result.links) c.stopped-in-Err-Memory.result.status
            c.stopped-in-Err-Memory.ensures.empty c.stopped-in-Err-Memory.ensures.gates (ap (map (back_view (view_of g.D.Link.Source g.D.Link.Sink))) c.stopped-in-Err-Memory.ensures.links);
        few = few_given c.stopped-in-Err-Memory.result.links o.sessions c.stopped-in-Err-Memory.ensures.links;
        done = λ is. not_six c.stopped-in-Err-Memory.ensures.status c.out_of_memory.ensures.status is refl;
        place = λ is. not_six c.stopped-in-Err-Memory.ensures.status c.out_of_memory.ensures.status is refl;
        nowhere_else = inl (ap g.D.Door.place c.stopped-in-Err-Memory.ensures.door);
        untouched = (refl, refl);
      };
    }

pub returns-in-Err-Usage : goal.returns-in-Err-Usage
returns-in-Err-Usage g c =
    record {
      usage = λ is. unusable c.in-Err-Usage.field-0 c.in-Err-Usage.ensures.gives c.in-Err-Usage.field-0-is;
      unusable = λ asks. inl c.stopped-in-Err-Usage.ensures.status;
      untouched = λ asks. (refl, refl);
      unread = λ none. refl;
      unwritten = λ none. refl;
      read = λ is. not_two c.stopped-in-Err-Usage.ensures.status is refl;
      write = λ is. not_two c.stopped-in-Err-Usage.ensures.status is refl;
      door = λ is. not_two c.stopped-in-Err-Usage.ensures.status is refl;
      sound = λ is. not_two c.stopped-in-Err-Usage.ensures.status is refl;
      heard = λ three six. refl;
      whole = λ four six. refl;
      quiet = λ never. refl;
      silent = λ idle. Keeps-refl _;
      kept = λ none six. Keeps-refl _;
      err = says_usage g.E.Sink.written g.E.Sink.faults c.args.err.now c.tell.new.err c.stopped-in-Err-Usage.result.status c.stopped-in-Err-Usage.ensures.status c.tell.ensures;
      history = empty_history c.stopped-in-Err-Usage.result.book.entries c.stopped-in-Err-Usage.ensures.empty;
      gates = ap length c.stopped-in-Err-Usage.ensures.gates ∙ c.requires.gates;
      empty = λ idle. (c.stopped-in-Err-Usage.ensures.empty, c.stopped-in-Err-Usage.ensures.gates);
      other = λ none. (c.stopped-in-Err-Usage.ensures.empty, c.stopped-in-Err-Usage.ensures.gates);
      unserved = λ no_workload no_door. of_faulty (RunsNothing c.stopped-in-Err-Usage.result.book.entries c.args.gates c.stopped-in-Err-Usage.result.gates) (g.S.Source.left c.args.input.now) (c.stopped-in-Err-Usage.ensures.empty, c.stopped-in-Err-Usage.ensures.gates);
      given = search rules;
      unopened = λ none. (c.stopped-in-Err-Usage.ensures.links, c.stopped-in-Err-Usage.ensures.door);
      of_run = λ options asks. no_call c.in-Err-Usage.field-0 c.in-Err-Usage.ensures.gives c.in-Err-Usage.field-0-is asks;
      of_check = λ asks. no_call c.in-Err-Usage.field-0 c.in-Err-Usage.ensures.gives c.in-Err-Usage.field-0-is asks;
      of_audit = λ asks. no_call c.in-Err-Usage.field-0 c.in-Err-Usage.ensures.gives c.in-Err-Usage.field-0-is asks;
      of_generate = λ w asks. no_call c.in-Err-Usage.field-0 c.in-Err-Usage.ensures.gives c.in-Err-Usage.field-0-is asks;
      of_serve = λ o asks. no_call c.in-Err-Usage.field-0 c.in-Err-Usage.ensures.gives c.in-Err-Usage.field-0-is asks;
    }

pub returns-in-Ok-Check : goal.returns-in-Ok-Check
returns-in-Ok-Check g c =
    record {
      usage = not_check 2 refl c.stopped.ensures.status c.run_verdict-status.ensures.others;
      unusable = no_fault c.in-Ok-Check.ensures.gives c.in-Ok-Check.field-0-is;
      untouched = no_fault c.in-Ok-Check.ensures.gives c.in-Ok-Check.field-0-is;
      unread = λ none. absurd (none (inr (inl (asked c.in-Ok-Check.ensures.gives c.in-Ok-Check.field-0-is))));
      unwritten = λ none. absurd (none (inl (inr (inl (asked c.in-Ok-Check.ensures.gives c.in-Ok-Check.field-0-is)))));
      read = at_told c.stopped.ensures.status c.run_verdict-status.ensures.read;
      write = at_told c.stopped.ensures.status c.run_verdict-status.ensures.write;
      door = not_check 5 refl c.stopped.ensures.status c.run_verdict-status.ensures.others;
      sound = λ none. ap (λ d. (g.D.Door.counts d).faults) c.stopped.ensures.door;
      heard = but_told c.stopped.ensures.status c.run_verdict-status.ensures.heard;
      whole = but_told c.stopped.ensures.status c.run_verdict-status.ensures.whole;
      quiet = c.run_verdict-status.ensures.quiet;
      silent = check_idles c.stopped.ensures.status c.run_verdict-status.ensures.others c.run_verdict-status.ensures.silent;
      kept = λ none six. c.run_verdict-status.ensures.silent (inr (sym c.stopped.ensures.status ∙ six));
      err = subst (λ (s : ℕ). SaysOnErr g.E.Sink.written g.E.Sink.faults c.args.err.now c.run_verdict-status.new.err s) (sym c.stopped.ensures.status) c.run_verdict-status.ensures.err;
      history = empty_history c.stopped.result.book.entries c.stopped.ensures.empty;
      gates = ap length c.stopped.ensures.gates ∙ c.requires.gates;
      empty = λ idle. (c.stopped.ensures.empty, c.stopped.ensures.gates);
      other = λ none. (c.stopped.ensures.empty, c.stopped.ensures.gates);
      unserved = λ no_workload no_door. of_faulty (RunsNothing c.stopped.result.book.entries c.args.gates c.stopped.result.gates) (g.S.Source.left c.args.input.now) (c.stopped.ensures.empty, c.stopped.ensures.gates);
      given = search rules;
      unopened = λ none. (c.stopped.ensures.links, c.stopped.ensures.door);
      of_run = λ options asks. no_other is_check c.in-Ok-Check.ensures.gives c.in-Ok-Check.field-0-is asks refl refl;
      of_check = λ asks. record {
        status = subst IsCheckStatus (sym c.stopped.ensures.status) c.run_verdict-status.ensures.others;
        read_out = at_told c.stopped.ensures.status c.run_verdict-status.ensures.ended;
        valid = at_told c.stopped.ensures.status c.run_verdict-status.ensures.good;
        invalid = at_told c.stopped.ensures.status c.run_verdict-status.ensures.bad;
        told = at_told c.stopped.ensures.status c.run_verdict-status.ensures.prefix;
      };
      of_audit = λ asks. no_other is_check c.in-Ok-Check.ensures.gives c.in-Ok-Check.field-0-is asks refl refl;
      of_generate = λ w asks. no_other is_check c.in-Ok-Check.ensures.gives c.in-Ok-Check.field-0-is asks refl refl;
      of_serve = λ o asks. no_other is_check c.in-Ok-Check.ensures.gives c.in-Ok-Check.field-0-is asks refl refl;
    }

pub returns-in-Ok-Audit : goal.returns-in-Ok-Audit
returns-in-Ok-Audit g c =
    record {
      usage = not_check 2 refl c.stopped-in-Ok-Audit.ensures.status c.run_verdict-status-in-Ok-Audit.ensures.others;
      unusable = no_fault c.in-Ok-Audit.ensures.gives c.in-Ok-Audit.field-0-is;
      untouched = no_fault c.in-Ok-Audit.ensures.gives c.in-Ok-Audit.field-0-is;
      unread = λ none. absurd (none (inr (inr (asked c.in-Ok-Audit.ensures.gives c.in-Ok-Audit.field-0-is))));
      unwritten = λ none. absurd (none (inl (inr (inr (asked c.in-Ok-Audit.ensures.gives c.in-Ok-Audit.field-0-is)))));
      read = at_told c.stopped-in-Ok-Audit.ensures.status c.run_verdict-status-in-Ok-Audit.ensures.read;
      write = at_told c.stopped-in-Ok-Audit.ensures.status c.run_verdict-status-in-Ok-Audit.ensures.write;
      door = not_check 5 refl c.stopped-in-Ok-Audit.ensures.status c.run_verdict-status-in-Ok-Audit.ensures.others;
      sound = λ none. ap (λ d. (g.D.Door.counts d).faults) c.stopped-in-Ok-Audit.ensures.door;
      heard = but_told c.stopped-in-Ok-Audit.ensures.status c.run_verdict-status-in-Ok-Audit.ensures.heard;
      whole = but_told c.stopped-in-Ok-Audit.ensures.status c.run_verdict-status-in-Ok-Audit.ensures.whole;
      quiet = c.run_verdict-status-in-Ok-Audit.ensures.quiet;
      silent = check_idles c.stopped-in-Ok-Audit.ensures.status c.run_verdict-status-in-Ok-Audit.ensures.others c.run_verdict-status-in-Ok-Audit.ensures.silent;
      kept = λ none six. c.run_verdict-status-in-Ok-Audit.ensures.silent (inr (sym c.stopped-in-Ok-Audit.ensures.status ∙ six));
      err = subst (λ (s : ℕ). SaysOnErr g.E.Sink.written g.E.Sink.faults c.args.err.now c.run_verdict-status-in-Ok-Audit.new.err s) (sym c.stopped-in-Ok-Audit.ensures.status) c.run_verdict-status-in-Ok-Audit.ensures.err;
      history = empty_history c.stopped-in-Ok-Audit.result.book.entries c.stopped-in-Ok-Audit.ensures.empty;
      gates = ap length c.stopped-in-Ok-Audit.ensures.gates ∙ c.requires.gates;
      empty = λ idle. (c.stopped-in-Ok-Audit.ensures.empty, c.stopped-in-Ok-Audit.ensures.gates);
      other = λ none. (c.stopped-in-Ok-Audit.ensures.empty, c.stopped-in-Ok-Audit.ensures.gates);
      unserved = λ no_workload no_door. of_faulty (RunsNothing c.stopped-in-Ok-Audit.result.book.entries c.args.gates c.stopped-in-Ok-Audit.result.gates) (g.S.Source.left c.args.input.now) (c.stopped-in-Ok-Audit.ensures.empty, c.stopped-in-Ok-Audit.ensures.gates);
      given = search rules;
      unopened = λ none. (c.stopped-in-Ok-Audit.ensures.links, c.stopped-in-Ok-Audit.ensures.door);
      of_run = λ options asks. no_other is_audit c.in-Ok-Audit.ensures.gives c.in-Ok-Audit.field-0-is asks refl refl;
      of_check = λ asks. no_other is_audit c.in-Ok-Audit.ensures.gives c.in-Ok-Audit.field-0-is asks refl refl;
      of_audit = λ asks. record {
        status = subst IsCheckStatus (sym c.stopped-in-Ok-Audit.ensures.status) c.run_verdict-status-in-Ok-Audit.ensures.others;
        read_out = at_told c.stopped-in-Ok-Audit.ensures.status c.run_verdict-status-in-Ok-Audit.ensures.ended;
        legal = at_told c.stopped-in-Ok-Audit.ensures.status c.run_verdict-status-in-Ok-Audit.ensures.good;
        illegal = at_told c.stopped-in-Ok-Audit.ensures.status c.run_verdict-status-in-Ok-Audit.ensures.bad;
        told = at_told c.stopped-in-Ok-Audit.ensures.status c.run_verdict-status-in-Ok-Audit.ensures.prefix;
      };
      of_generate = λ w asks. no_other is_audit c.in-Ok-Audit.ensures.gives c.in-Ok-Audit.field-0-is asks refl refl;
      of_serve = λ o asks. no_other is_audit c.in-Ok-Audit.ensures.gives c.in-Ok-Audit.field-0-is asks refl refl;
    }
