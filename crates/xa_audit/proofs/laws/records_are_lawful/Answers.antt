use Rattle.xa_audit.proofs.Answering.{lawful_where_run}
use Rattle.xa_audit.proofs.laws.records_are_lawful.Goals as goal

pub returns : goal.returns
returns c = lawful_where_run c.runs_are_lawful.ensures
