use Rattle.cm_reply.specs.declared.event_words.EventWord.TheVariants as word
use Rattle.cm_reply.proofs.lemmas.back.Named.{finds_same}
use Rattle.cm_reply.proofs.reading.behind.Goals as goal

pub returns-in-Find-clause-finds : goal.returns-in-Find-clause-finds
returns-in-Find-clause-finds c = finds_same word.Find c.args.first c.args.rest.now c.find.result c.in-Find.is c.find.ensures.finds

pub returns-in-Begin-clause-finds : goal.returns-in-Begin-clause-finds
returns-in-Begin-clause-finds c = finds_same word.Begin c.args.first c.args.rest.now c.begin.result c.in-Begin.is c.begin.ensures.finds

pub returns-in-End-clause-finds : goal.returns-in-End-clause-finds
returns-in-End-clause-finds c = finds_same word.End c.args.first c.args.rest.now c.end.result c.in-End.is c.end.ensures.finds

pub returns-in-Await-clause-finds : goal.returns-in-Await-clause-finds
returns-in-Await-clause-finds c = finds_same word.Await c.args.first c.args.rest.now c.await_end.result c.in-Await.is c.await_end.ensures.finds

pub returns-in-Create-clause-finds : goal.returns-in-Create-clause-finds
returns-in-Create-clause-finds c = finds_same word.Create c.args.first c.args.rest.now c.create.result c.in-Create.is c.create.ensures.finds

pub returns-in-Mark-clause-finds : goal.returns-in-Mark-clause-finds
returns-in-Mark-clause-finds c = finds_same word.Mark c.args.first c.args.rest.now c.mark.result c.in-Mark.is c.mark.ensures.finds

pub returns-in-Pick-clause-finds : goal.returns-in-Pick-clause-finds
returns-in-Pick-clause-finds c = finds_same word.Pick c.args.first c.args.rest.now c.pick.result c.in-Pick.is c.pick.ensures.finds

pub returns-in-Purge-clause-finds : goal.returns-in-Purge-clause-finds
returns-in-Purge-clause-finds c = finds_same word.Purge c.args.first c.args.rest.now c.purge.result c.in-Purge.is c.purge.ensures.finds

pub returns-in-Route-clause-finds : goal.returns-in-Route-clause-finds
returns-in-Route-clause-finds c = finds_same word.Route c.args.first c.args.rest.now c.route.result c.in-Route.is c.route.ensures.finds

pub returns-in-Open-clause-finds : goal.returns-in-Open-clause-finds
returns-in-Open-clause-finds c = finds_same word.Open c.args.first c.args.rest.now c.open_use.result c.in-Open.is c.open_use.ensures.finds

pub returns-in-OpenExposed-clause-finds : goal.returns-in-OpenExposed-clause-finds
returns-in-OpenExposed-clause-finds c = finds_same word.OpenExposed c.args.first c.args.rest.now c.open_exposed.result c.in-OpenExposed.is c.open_exposed.ensures.finds

pub returns-in-List-clause-finds : goal.returns-in-List-clause-finds
returns-in-List-clause-finds c = finds_same word.List c.args.first c.args.rest.now c.list.result c.in-List.is c.list.ensures.finds

pub returns-in-Show-clause-finds : goal.returns-in-Show-clause-finds
returns-in-Show-clause-finds c = finds_same word.Show c.args.first c.args.rest.now c.show.result c.in-Show.is c.show.ensures.finds

pub returns-in-Survey-clause-finds : goal.returns-in-Survey-clause-finds
returns-in-Survey-clause-finds c = finds_same word.Survey c.args.first c.args.rest.now c.survey.result c.in-Survey.is c.survey.ensures.finds

pub returns-in-Exited-clause-finds : goal.returns-in-Exited-clause-finds
returns-in-Exited-clause-finds c = finds_same word.Exited c.args.first c.args.rest.now c.exited.result c.in-Exited.is c.exited.ensures.finds

pub returns-in-Tail-clause-finds : goal.returns-in-Tail-clause-finds
returns-in-Tail-clause-finds c = finds_same word.Tail c.args.first c.args.rest.now c.tail.result c.in-Tail.is c.tail.ensures.finds

pub returns-in-Reap-clause-finds : goal.returns-in-Reap-clause-finds
returns-in-Reap-clause-finds c = finds_same word.Reap c.args.first c.args.rest.now c.reap.result c.in-Reap.is c.reap.ensures.finds
