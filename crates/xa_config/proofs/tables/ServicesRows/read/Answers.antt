use Rattle.toml.specs.View.{view}
use Rattle.xa_config.specs.Tables.{service_faults}
use Rattle.xa_config.proofs.Rows.{service_is}
use Rattle.xa_config.proofs.tables.ServicesRows.read.Goals as goal

pub returns-clause-read : goal.returns-clause-read
unfolding service_faults
returns-clause-read c =
    let name = c.in_ok-name.ensures in
    let routine = c.in_ok-routine.ensures in
    let queues = c.in_ok-queues.ensures in
    let priority = c.in_ok-priority.ensures.read in
    let accepts = c.in_ok-accepts.ensures in
    let conversational = c.in_ok-conversational.ensures in (
      rw (c.in_ok-no_unknown.ensures, name.0, routine.0, queues.0, priority.0, accepts.0, conversational.0),
      service_is c.args.self.now.shapes.now (view c.args.entry.now.table.now) c.in_ok-name.name c.in_ok-routine.routine c.in_ok-queues.queues c.in_ok-priority.priority
          c.in_ok-accepts.accepts c.in_ok-conversational.conversational name.1 routine.1 queues.1 priority.1 accepts.1 conversational.1,
    )
