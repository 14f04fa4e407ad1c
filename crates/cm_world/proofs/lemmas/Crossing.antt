-- These types hold monikers, and may go to other threads or be shared with them.
use denote.Param.Send as send
use denote.Param.Send.{IsSend, IsSync}
use denote.Enum.Declared as enum
use denote.Struct.Declared as struct
use Rattle.cm_names.proofs.lemmas.Crossing.{moniker_field_send, moniker_field_sync}
use Rattle.cm_decl.proofs.kind.Kind.TheSendSync as kind
use Rattle.cm_decl.proofs.node.Node.TheSendSync as node
use Rattle.cm_decl.specs.contracts.node.Node
use Rattle.cm_names.proofs.availability.Availability.TheSendSync as availability
use Rattle.cm_names.proofs.boxed.Boxed.TheSendSync as boxed
use Rattle.cm_names.proofs.list.List.TheSendSync as list
use Rattle.cm_names.proofs.name.Name.TheSendSync as name
use Rattle.cm_names.proofs.path.CapPath.TheSendSync as cap_path
use Rattle.cm_names.proofs.rights.Rights.TheSendSync as rights
use Rattle.cm_names.proofs.shared.Shared.TheSendSync as shared
use Rattle.cm_names.proofs.text.Text.TheSendSync as text
use Rattle.cm_names.specs.contracts.availability.Availability
use Rattle.cm_names.specs.contracts.list.List
use Rattle.cm_names.specs.contracts.name.Name
use Rattle.cm_names.specs.contracts.path.CapPath
use Rattle.cm_names.specs.contracts.rights.Rights
use Rattle.cm_names.specs.contracts.shared.Shared
use Rattle.cm_world.proofs.action.ActKind.TheSendSync as act_kind
use Rattle.cm_world.proofs.action.Finish.TheSendSync as finish
use Rattle.cm_world.proofs.action.Outcome.TheSendSync as outcome
use Rattle.cm_world.proofs.event.NewChild.TheSendSync as new_child
use Rattle.cm_world.proofs.happening.HappenKind.TheSendSync as happen_kind
use Rattle.cm_world.proofs.report.Kid.TheSendSync as kid
use Rattle.cm_world.proofs.report.Look.TheSendSync as look
use Rattle.cm_world.proofs.route.StepKind.TheSendSync as step_kind
use Rattle.cm_world.proofs.route.Why.TheSendSync as why
use Rattle.cm_world.specs.contracts.action.Work
use Rattle.cm_world.specs.contracts.answer.Answer
use Rattle.cm_world.specs.contracts.answer.Checked
use Rattle.cm_world.specs.contracts.answer.Refusal
use Rattle.cm_world.specs.contracts.event.Event
use Rattle.cm_world.specs.contracts.event.NewChild
use Rattle.cm_world.specs.contracts.event.Target
use Rattle.cm_world.specs.contracts.happening.Happening
use Rattle.cm_world.specs.contracts.reply.Entry
use Rattle.cm_world.specs.contracts.reply.Reply
use Rattle.cm_world.specs.contracts.report.Kid
use Rattle.cm_world.specs.contracts.report.Lost
use Rattle.cm_world.specs.contracts.report.SurveyRow
use Rattle.cm_world.specs.contracts.route.Hop
use Rattle.cm_world.specs.contracts.route.Provider
use Rattle.cm_world.specs.contracts.route.Route
use Rattle.cm_world.specs.contracts.route.Walked
use Rattle.std.proofs.option.Option.TheSendSync as option
use Rattle.std.proofs.result.Result.TheSendSync as result
use denote.Builtin

-- A hop of a route may go to other threads, as a field.
pub hop_field_send : IsSend (Hop.the_field).row
hop_field_send = send.struct_send (struct.shape Hop.the_type) (
  step_kind.the_field_send,
  (
    send.plain_send _
        _ _ _ _,
    (
      moniker_field_send,
      (
        kind.the_field_send,
        (
          name.the_send,
          (
            option.the_field_send Rights.the_row
                rights.the_send,
            (
              option.the_field_send Availability.the_row availability.the_send,
              (
                send.plain_send _ _ _
                    _ _,
                tt,
              ),
            ),
          ),
        ),
      ),
    ),
  ),
)

-- A hop of a route may go to other threads.
pub hop_send : IsSend Hop.the_row
hop_send = send.recorded_send (Hop.the_field).row _ _ (Hop.the_type).to_one hop_field_send

-- The provider at the end of a route may go to other threads, as a field.
pub provider_field_send : IsSend (Provider.the_field).row
provider_field_send = send.enum_send (enum.shape Provider.the_type) (
  (
    send.plain_send _ _ _ _ _,
    (moniker_field_send, tt),
  ),
  (tt, (tt, tt)),
)

-- A whole route may go to other threads, as a field.
pub route_field_send : IsSend (Route.the_field).row
route_field_send = send.struct_send (struct.shape Route.the_type) (
  list.the_send Hop.the_row hop_send,
  (text.the_send, (option.the_field_send Rights.the_row rights.the_send, (provider_field_send, tt))),
)

-- A whole route may go to other threads.
pub route_send : IsSend Route.the_row
route_send = send.recorded_send (Route.the_field).row _ _ (Route.the_type).to_one route_field_send

-- A hop of a route may be shared with other threads, as a field.
pub hop_field_sync : IsSync (Hop.the_field).row
hop_field_sync = send.struct_sync (struct.shape Hop.the_type) (
  step_kind.the_field_sync,
  (
    send.plain_sync _
        _ _ _ _,
    (
      moniker_field_sync,
      (
        kind.the_field_sync,
        (
          name.the_sync,
          (
            option.the_field_sync Rights.the_row
                rights.the_sync,
            (
              option.the_field_sync Availability.the_row availability.the_sync,
              (
                send.plain_sync _ _ _
                    _ _,
                tt,
              ),
            ),
          ),
        ),
      ),
    ),
  ),
)

-- A hop of a route may be shared with other threads.
pub hop_sync : IsSync Hop.the_row
hop_sync = send.recorded_sync (Hop.the_field).row _ _ (Hop.the_type).to_one hop_field_sync

-- The provider at the end of a route may be shared with other threads, as a field.
pub provider_field_sync : IsSync (Provider.the_field).row
provider_field_sync = send.enum_sync (enum.shape Provider.the_type) (
  (
    send.plain_sync _ _ _ _ _,
    (moniker_field_sync, tt),
  ),
  (tt, (tt, tt)),
)

-- A whole route may be shared with other threads, as a field.
pub route_field_sync : IsSync (Route.the_field).row
route_field_sync = send.struct_sync (struct.shape Route.the_type) (
  list.the_sync Hop.the_row hop_sync,
  (text.the_sync, (option.the_field_sync Rights.the_row rights.the_sync, (provider_field_sync, tt))),
)

-- A whole route may be shared with other threads.
pub route_sync : IsSync Route.the_row
route_sync = send.recorded_sync (Route.the_field).row _ _ (Route.the_type).to_one route_field_sync

-- An instance of a survey may go to other threads, as a field.
pub survey_row_field_send : IsSend (SurveyRow.the_field).row
survey_row_field_send = send.struct_send (struct.shape SurveyRow.the_type) (
  send.plain_send _ _ _ _ _,
  (
    moniker_field_send,
    (
      send.plain_send _ _ _ _ _,
      (
        send.plain_send _ _ _ _ _,
        (
          send.plain_send _ _ _ _ _,
          (list.the_send CapPath.the_row cap_path.the_send, tt),
        ),
      ),
    ),
  ),
)

-- An instance of a survey may go to other threads.
pub survey_row_send : IsSend SurveyRow.the_row
survey_row_send = send.recorded_send (SurveyRow.the_field).row _ _ (SurveyRow.the_type).to_one
    survey_row_field_send

-- An instance of a survey may be shared with other threads, as a field.
pub survey_row_field_sync : IsSync (SurveyRow.the_field).row
survey_row_field_sync = send.struct_sync (struct.shape SurveyRow.the_type) (
  send.plain_sync _ _ _ _ _,
  (
    moniker_field_sync,
    (
      send.plain_sync _ _ _ _ _,
      (
        send.plain_sync _ _ _ _ _,
        (
          send.plain_sync _ _ _ _ _,
          (list.the_sync CapPath.the_row cap_path.the_sync, tt),
        ),
      ),
    ),
  ),
)

-- An instance of a survey may be shared with other threads.
pub survey_row_sync : IsSync SurveyRow.the_row
survey_row_sync = send.recorded_sync (SurveyRow.the_field).row _ _ (SurveyRow.the_type).to_one
    survey_row_field_sync

-- A shared list of the instances of a survey may go to other threads.
pub survey_rows_send : IsSend (Shared.the_row (List.the_row SurveyRow.the_row))
survey_rows_send = shared.the_send (List.the_row SurveyRow.the_row)
    (list.the_send SurveyRow.the_row survey_row_send)
    (list.the_sync SurveyRow.the_row survey_row_sync)

-- A shared list of children in a collection may go to other threads.
pub kids_send : IsSend (Shared.the_row (List.the_row Kid.the_row))
kids_send = shared.the_send (List.the_row Kid.the_row) (list.the_send Kid.the_row kid.the_send)
    (list.the_sync Kid.the_row kid.the_sync)

-- The refusal of a command may go to other threads, as a field.
pub refusal_field_send : IsSend (Refusal.the_field).row
refusal_field_send = send.enum_send (enum.shape Refusal.the_type) (
  tt,
  (
    (send.plain_send _ _ _ _ _, tt),
    (
      tt,
      (
        (send.plain_send _ _ _ _ _, (send.plain_send _ _ _ _ _, tt)),
        (
          (
            list.the_send Node.the_row
                node.the_send,
            tt,
          ),
          (
            (send.plain_send _ _ _ _ _, tt),
            (
              tt,
              (
                tt,
                (
                  tt,
                  (
                    (moniker_field_send, tt),
                    (
                      (send.plain_send _ _ _ _ _, tt),
                      (
                        (send.plain_send _ _ _ _ _, tt),
                        (
                          (
                            send.plain_send _ _ _ _ _,
                            (outcome.the_field_send, tt),
                          ),
                          (
                            (send.plain_send _ _ _ _ _, (outcome.the_field_send, tt)),
                            (
                              tt,
                              (
                                tt,
                                (
                                  (shared.the_send Hop.the_row hop_send hop_sync, (why.the_field_send, tt)),
                                  (
                                    (
                                      shared.the_send Hop.the_row
                                          hop_send hop_sync,
                                      tt,
                                    ),
                                    ((send.plain_send _ _ _ _ _, tt), (tt, tt)),
                                  ),
                                ),
                              ),
                            ),
                          ),
                        ),
                      ),
                    ),
                  ),
                ),
              ),
            ),
          ),
        ),
      ),
    ),
  ),
)

-- The refusal of a command may go to other threads.
pub refusal_send : IsSend Refusal.the_row
refusal_send = send.recorded_send (Refusal.the_field).row _ _ (Refusal.the_type).to_one refusal_field_send

-- What a check of all routes found out may go to other threads, as a field.
pub checked_field_send : IsSend (Checked.the_field).row
checked_field_send = send.struct_send (struct.shape Checked.the_type) (
  moniker_field_send,
  (
    option.the_field_send CapPath.the_row cap_path.the_send,
    (
      result.the_field_send (Shared.the_row
          Route.the_row) Refusal.the_row (shared.the_send Route.the_row route_send route_sync) refusal_send,
      tt,
    ),
  ),
)

-- What a check of all routes found out may go to other threads.
pub checked_send : IsSend Checked.the_row
checked_send = send.recorded_send (Checked.the_field).row _ _ (Checked.the_type).to_one checked_field_send

-- One thing that happened to an instance may go to other threads, as a field.
pub happening_field_send : IsSend (Happening.the_field).row
happening_field_send = send.struct_send (struct.shape Happening.the_type) (
  send.plain_send _ _ _ _ _,
  (happen_kind.the_field_send, (moniker_field_send, (send.plain_send _ _ _ _ _, tt))),
)

-- One thing that happened to an instance may go to other threads.
pub happening_send : IsSend Happening.the_row
happening_send = send.recorded_send (Happening.the_field).row _ _ (Happening.the_type).to_one
    happening_field_send

-- The answer to a command may go to other threads, as a field.
pub answer_field_send : IsSend (Answer.the_field).row
answer_field_send = send.enum_send (enum.shape Answer.the_type) (
  (
    option.the_field_send Builtin.u64
        (send.plain_send _ _ _ _ _),
    tt,
  ),
  (
    (option.the_field_send Builtin.u64 (send.plain_send _ _ _ _ _), tt),
    (
      (option.the_field_send Builtin.u64 (send.plain_send _ _ _ _ _), (send.plain_send _ _ _ _ _, tt)),
      (
        tt,
        (
          (send.plain_send _ _ _ _ _, tt),
          (
            tt,
            (
              (kids_send, tt),
              (
                (
                  shared.the_send
                      Route.the_row route_send route_sync,
                  tt,
                ),
                (
                  (shared.the_send Route.the_row route_send route_sync, tt),
                  (
                    (look.the_field_send, tt),
                    (
                      (survey_rows_send, tt),
                      (
                        (
                          list.the_send
                              Checked.the_row checked_send,
                          tt,
                        ),
                        (
                          (send.plain_send _ _ _ _ _, tt),
                          (
                            (
                              send.plain_send _ _ _ _ _,
                              (list.the_send Happening.the_row happening_send, tt),
                            ),
                            tt,
                          ),
                        ),
                      ),
                    ),
                  ),
                ),
              ),
            ),
          ),
        ),
      ),
    ),
  ),
)

-- The answer to a command may go to other threads.
pub answer_send : IsSend Answer.the_row
answer_send = send.recorded_send (Answer.the_field).row _ _ (Answer.the_type).to_one answer_field_send

-- An event may go to other threads, as a field.
pub event_field_send : IsSend (Event.the_field).row
event_field_send = send.enum_send (enum.shape Event.the_type) (
  (moniker_field_send, tt),
  (
    (act_kind.the_field_send, (send.plain_send _ _ _ _ _, tt)),
    (
      (
        send.plain_send _ _ _ _ _,
        (finish.the_field_send, tt),
      ),
      (
        (send.plain_send _ _ _ _ _, tt),
        (
          (
            send.plain_send _ _ _ _ _,
            (boxed.the_send NewChild.the_row new_child.the_send, tt),
          ),
          (
            (send.plain_send _ _ _ _ _, (send.plain_send _ _ _ _ _, tt)),
            (
              (send.plain_send _ _ _ _ _, tt),
              (
                (send.plain_send _ _ _ _ _, tt),
                (
                  (send.plain_send _ _ _ _ _, (cap_path.the_send, tt)),
                  (
                    (
                      send.plain_send
                          _ _ _ _ _,
                      (cap_path.the_send, tt),
                    ),
                    (
                      (send.plain_send _ _ _ _ _, (name.the_send, tt)),
                      (
                        (
                          send.plain_send
                              _ _ _ _ _,
                          (name.the_send, tt),
                        ),
                        (
                          (send.plain_send _ _ _ _ _, tt),
                          (
                            (send.plain_send _ _ _ _ _, tt),
                            (
                              (send.plain_send _ _ _ _ _, tt),
                              (
                                (send.plain_send _ _ _ _ _, (send.plain_send _ _ _ _ _, tt)),
                                ((send.plain_send _ _ _ _ _, tt), tt),
                              ),
                            ),
                          ),
                        ),
                      ),
                    ),
                  ),
                ),
              ),
            ),
          ),
        ),
      ),
    ),
  ),
)

-- What the beginner of an action has to do may go to other threads, as a field.
pub work_field_send : IsSend (Work.the_field).row
work_field_send = send.struct_send (struct.shape Work.the_type) (
  send.plain_send _ _ _ _ _,
  (
    send.plain_send
        _ _ _ _ _,
    (
      moniker_field_send,
      (
        text.the_send,
        (
          text.the_send,
          (
            option.the_field_send Name.the_row
                name.the_send,
            (list.the_send Builtin.u64 (send.plain_send _ _ _ _ _), tt),
          ),
        ),
      ),
    ),
  ),
)

-- What the beginner of an action has to do may go to other threads.
pub work_send : IsSend Work.the_row
work_send = send.recorded_send (Work.the_field).row _ _ (Work.the_type).to_one work_field_send

-- An instance that was removed may go to other threads, as a field.
pub lost_field_send : IsSend (Lost.the_field).row
lost_field_send = send.struct_send (struct.shape Lost.the_type) (
  send.plain_send _ _ _ _ _,
  (moniker_field_send, tt),
)

-- An instance that was removed may go to other threads.
pub lost_send : IsSend Lost.the_row
lost_send = send.recorded_send (Lost.the_field).row _ _ (Lost.the_type).to_one lost_field_send

-- The reply to an event may go to other threads, as a field.
pub reply_field_send : IsSend (Reply.the_field).row
reply_field_send = send.enum_send (enum.shape Reply.the_type) (
  (send.plain_send _ _ _ _ _, tt),
  (
    (send.plain_send _ _ _ _ _, tt),
    (
      (send.plain_send _ _ _ _ _, tt),
      (
        (send.plain_send _ _ _ _ _, tt),
        (
          (moniker_field_send, tt),
          (
            (boxed.the_send Work.the_row work_send, tt),
            (
              (send.plain_send _ _ _ _ _, tt),
              (
                tt,
                (
                  (outcome.the_field_send, tt),
                  (
                    (send.plain_send _ _ _ _ _, tt),
                    (
                      (send.plain_send _ _ _ _ _, tt),
                      (
                        tt,
                        (
                          (send.plain_send _ _ _ _ _, tt),
                          (
                            tt,
                            (
                              (send.plain_send _ _ _ _ _, (send.plain_send _ _ _ _ _, tt)),
                              (
                                (list.the_send Node.the_row node.the_send, tt),
                                (
                                  tt,
                                  (
                                    tt,
                                    (
                                      tt,
                                      (
                                        tt,
                                        (
                                          (
                                            boxed.the_send Work.the_row
                                                work_send,
                                            tt,
                                          ),
                                          (
                                            (send.plain_send _ _ _ _ _, tt),
                                            (
                                              (list.the_send Lost.the_row lost_send, tt),
                                              (
                                                tt,
                                                (
                                                  tt,
                                                  (
                                                    tt,
                                                    (
                                                      (send.plain_send _ _ _ _ _, tt),
                                                      (
                                                        (send.plain_send _ _ _ _ _, tt),
                                                        (
                                                          (
                                                            shared.the_send Hop.the_row
                                                                hop_send hop_sync,
                                                            (why.the_field_send, tt),
                                                          ),
                                                          (
                                                            (shared.the_send Hop.the_row hop_send hop_sync, tt),
                                                            (
                                                              (shared.the_send Route.the_row route_send route_sync, tt),
                                                              (
                                                                (
                                                                  shared.the_send Route.the_row route_send
                                                                      route_sync,
                                                                  tt,
                                                                ),
                                                                (
                                                                  (kids_send, tt),
                                                                  (
                                                                    (look.the_field_send, tt),
                                                                    (
                                                                      (survey_rows_send, tt),
                                                                      (
                                                                        (moniker_field_send, tt),
                                                                        (
                                                                          (
                                                                            send.plain_send _ _ _
                                                                                _ _,
                                                                            tt,
                                                                          ),
                                                                          (
                                                                            (list.the_send Builtin.u64 (send.plain_send _ _ _ _ _), tt),
                                                                            tt,
                                                                          ),
                                                                        ),
                                                                      ),
                                                                    ),
                                                                  ),
                                                                ),
                                                              ),
                                                            ),
                                                          ),
                                                        ),
                                                      ),
                                                    ),
                                                  ),
                                                ),
                                              ),
                                            ),
                                          ),
                                        ),
                                      ),
                                    ),
                                  ),
                                ),
                              ),
                            ),
                          ),
                        ),
                      ),
                    ),
                  ),
                ),
              ),
            ),
          ),
        ),
      ),
    ),
  ),
)

-- An entry of a history may go to other threads, as a field.
pub entry_field_send : IsSend (Entry.the_field).row
entry_field_send = send.struct_send (struct.shape Entry.the_type) (
  send.plain_send _ _ _ _ _,
  (event_field_send, (reply_field_send, tt)),
)

-- An entry of a history may go to other threads.
pub entry_send : IsSend Entry.the_row
entry_send = send.recorded_send (Entry.the_field).row _ _ (Entry.the_type).to_one entry_field_send

-- What a walk along a route comes to may go to other threads, as a field.
pub walked_field_send : IsSend (Walked.the_field).row
walked_field_send = send.enum_send (enum.shape Walked.the_type) (
  (
    shared.the_send Route.the_row route_send
        route_sync,
    tt,
  ),
  (
    (shared.the_send Hop.the_row hop_send hop_sync, (why.the_field_send, tt)),
    ((send.plain_send _ _ _ _ _, tt), ((shared.the_send Hop.the_row hop_send hop_sync, tt), (tt, tt))),
  ),
)

-- Which instance a command means may be shared with other threads, as a field.
pub target_field_sync : IsSync (Target.the_field).row
target_field_sync = send.enum_sync (enum.shape Target.the_type) (
  (moniker_field_sync, tt),
  (
    (
      send.plain_sync
          _ _ _ _ _,
      tt,
    ),
    tt,
  ),
)
