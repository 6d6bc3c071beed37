use Rattle.std.proofs.Common.{sym, ap}
use Rattle.std.proofs.lemmas.List.Elements.{All-head, All-rest, All-same}
use Rattle.xa_trials_objects.specs.Held.{HasTicket}
use Rattle.xa_trials_objects.proofs.held.is_left.Goals as goal

pub finish-number-requires-clause-ticket : goal.finish-number-requires-clause-ticket
finish-number-requires-clause-ticket c =
    let has = HasTicket c.args.cells.now in
    All-head has c.in-Some.entry c.take.new.self.waiting (All-same has _ _ (sym (ap (λ r. r.waiting) c.in-Some.ensures)) c.loop-entry.invariant.tickets)

pub loop-entry-preserved : goal.loop-entry-preserved
loop-entry-preserved c = record {
  seat = c.finish-number.ensures;
  tickets = All-rest (HasTicket c.args.cells.now) c.in-Some.entry _ _ (ap (λ r. r.waiting) c.in-Some.ensures) c.loop-entry.invariant.tickets;
}
