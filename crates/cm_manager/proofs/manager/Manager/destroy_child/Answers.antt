use Rattle.cm_command.specs.declared.command.Command.TheVariants as command
use Rattle.cm_manager.specs.Laws.{IsRemoved}
use Rattle.cm_manager.proofs.lemmas.shutdowns.Answering.{leaves_if}
use Rattle.cm_manager.proofs.manager.Manager.destroy_child.Goals as goal

pub returns : goal.returns
returns g c =
    let performs = c.call.ensures.performs in
    record {
      performs = performs;
      removed = leaves_if command.Destroy IsRemoved c.answers_hold.ensures.removed c.args.self.now.manifests c.args.target.now c.args.pass _ _ _ c.call.result.1 performs;
    }
