use Rattle.xa_program.specs.declared.status.Status.TheVariants.{ConfigRead}
use Rattle.xa_program.proofs.Asking.{asks_yard}
use Rattle.xa_program.proofs.Ending.{run_so, ends_as, shelf_kept}
use Rattle.xa_program.proofs.top.obey.Goals as goal

pub returns-in-Ok-clause-ends : goal.returns-in-Ok-clause-ends
returns-in-Ok-clause-ends g c serves =
    run_so _ _ _ _ c.args.command.now c.in-Ok.setup c.in-Ok.form c.in-Ok.most c.serve_script.result.status c.in-Ok.ensures.found c.in-Ok.ensures.writes c.in-Ok.ensures.most c.serve_script.ensures.ends

pub returns-in-Ok-clause-shelf : goal.returns-in-Ok-clause-shelf
returns-in-Ok-clause-shelf g c =
    shelf_kept c.args.command.now c.serve_script.result.status _ _
    (ends_as _ _ c.in-Ok.setup c.in-Ok.most c.in-Ok.form c.serve_script.result.status ConfigRead _ c.serve_script.ensures.ends) c.in-Ok.ensures.quiet c.in-Ok.ensures.asks

pub returns-in-Ok-clause-yard : goal.returns-in-Ok-clause-yard
returns-in-Ok-clause-yard g c = asks_yard _ c.args.command.now c.in-Ok.setup c.serve_script.result.status _ _ c.in-Ok.ensures.found c.serve_script.ensures.yard
