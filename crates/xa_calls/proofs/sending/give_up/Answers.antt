use Rattle.std.proofs.Common.{◌+◌, refl, sym, subst, arith}
use Rattle.xa_calls.proofs.Going.{wants_of}
use Rattle.xa_calls.specs.Going.{tried_by}
use Rattle.xa_calls.specs.Telling.{TriedNotes}
use Rattle.xa_calls.proofs.Noting.{unsent_notes, may_tried}
use Rattle.xa_calls.proofs.Seating.{unsent_fills}
use Rattle.xa_calls.proofs.Trying.{unsent_same, unsent_tries}
use Rattle.xa_calls.proofs.sending.give_up.Goals as goal

pub returns-clause-goes : goal.returns-clause-goes
returns-clause-goes g c = record {
  leads = c.unsent.ensures.leads;
  fits = c.unsent.ensures.fits c.args.ask.now c.requires.valid refl c.requires.found c.args.apart (wants_of c.args.monitor.now.domain.now.setup c.args.apart c.args.ask.now c.requires.valid);
  same = unsent_same c.args.entry.cargo.ticket.cell c.args.why c.args.ask.now.flags.no_block c.unsent.result c.args.desk.now c.unsent.new.self c.unsent.ensures.unsent;
  fills = unsent_fills c.args.entry.cargo.ticket.cell c.args.why c.args.ask.now.flags.no_block c.unsent.result c.args.desk.now c.unsent.new.self c.unsent.ensures.unsent;
}

pub returns-clause-tries : goal.returns-clause-tries
returns-clause-tries g c =
    let aimed = c.requires.aimed in
    unsent_tries c.args.monitor.now.domain.now c.args.ask.now.payload c.args.entry.cargo.ticket.cell c.args.why c.args.ask.now.flags.no_block c.unsent.result c.args.entry aimed.0 c.args.desk.now c.unsent.new.self aimed.1 c.unsent.ensures.unsent c.unsent.ensures.rest

pub returns-clause-notes : goal.returns-clause-notes
returns-clause-notes g c =
    let old = c.args.desk.now in
    let aimed = c.requires.aimed.1 in
    subst (λ r. TriedNotes (old.caller.op + 1) r old c.unsent.new.self) (sym c.tried_by.ensures)
    (unsent_notes (old.caller.op + 1) c.args.entry.cargo.ticket.cell c.args.why c.args.ask.now.flags.no_block c.unsent.result old c.unsent.new.self aimed.draft (omega arith) aimed.prepared aimed.turn c.unsent.ensures.unsent)

pub returns-clause-active : goal.returns-clause-active
returns-clause-active g c =
    let old = c.args.desk.now in
    let aimed = c.requires.aimed.1 in
    may_tried (old.caller.op + 1) (tried_by c.unsent.result) old c.unsent.new.self
    (unsent_same c.args.entry.cargo.ticket.cell c.args.why c.args.ask.now.flags.no_block c.unsent.result old c.unsent.new.self c.unsent.ensures.unsent)
    (unsent_notes (old.caller.op + 1) c.args.entry.cargo.ticket.cell c.args.why c.args.ask.now.flags.no_block c.unsent.result old c.unsent.new.self aimed.draft (omega arith) aimed.prepared aimed.turn c.unsent.ensures.unsent) c.requires.active
