use Rattle.xa_lines.proofs.Events.{line_ok, line_fits, line_refused}
use Rattle.xa_lines.proofs.reading.read_event.Goals as goal

pub returns : goal.returns
returns c = record {
  ok = line_ok c.args.line.now c.event_of.result c.event_of.ensures;
  fits = line_fits c.args.line.now c.event_of.result c.event_of.ensures;
  refused = line_refused c.args.line.now c.event_of.result c.event_of.ensures;
}
