use Rattle.xa_server.proofs.Calls.{began_keeps, full_keeps, took_is_more, cancel_is_more, fill_grows}
use Rattle.xa_server.proofs.fillings.calls_see_more.Goals as goal

pub returns : goal.returns
returns c = record { began = began_keeps; full = full_keeps; took = took_is_more; cancelled = cancel_is_more; filled = fill_grows }
