use Rattle.toml.specs.View.{view}
use Rattle.xa_config.specs.Tables.{server_faults}
use Rattle.xa_config.proofs.Rows.{server_is}
use Rattle.xa_config.proofs.tables.ServersRows.read.Goals as goal

pub returns-clause-read : goal.returns-clause-read
unfolding server_faults
returns-clause-read c =
    let name = c.in_ok-name.ensures in
    let queue = c.in_ok-queue.ensures in
    let program = c.in_ok-program.ensures in
    let restart = c.in_ok-restart.ensures in
    let maxgen = c.in_ok-maxgen.ensures.read in
    let grace = c.in_ok-grace.ensures.read in (
      rw (c.in_ok-no_unknown.ensures, name.0, queue.0, program.0, restart.0, maxgen.0, grace.0),
      server_is (view c.args.entry.now.table.now) c.in_ok-name.name c.in_ok-queue.queue c.in_ok-program.program c.in_ok-restart.restart c.in_ok-maxgen.maxgen c.in_ok-grace.grace
          name.1 queue.1 program.1 restart.1 maxgen.1 grace.1,
    )
