use Rattle.xa_machine.proofs.Rows.{caller_noted}
use Rattle.xa_machine.proofs.caller.CallerRow.note.Goals as goal

pub returns : goal.returns
returns c = caller_noted c.args.clients c.args.caller c.args.event.now c.args.self.now c.note_calls.new.self c.note_requests.new.self c.note_calls.ensures c.note_requests.ensures
