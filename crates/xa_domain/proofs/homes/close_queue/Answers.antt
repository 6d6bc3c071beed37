use Rattle.std.proofs.Common.{sym, ◌∙◌, ap, subst}
use Rattle.std.specs.List.{All}
use Rattle.std.proofs.lemmas.List.Elements.{All-head, All-rest}
use Rattle.xa_boot.specs.xa_cell.Known.{IsTicketOf}
use Rattle.xa_boot.specs.xa_queue.declared.entry.Entry.{Entry}
use Rattle.xa_boot.specs.xa_queue.Changes.{Remains}
use Rattle.xa_boot.specs.xa_held.declared.cargo.Cargo.{Cargo}
use Rattle.xa_boot.specs.xa_caller.declared.cargo.Filling.{Filling}
use Rattle.xa_domain.proofs.homes.close_queue.Goals as goal

pub let_go-requires-clause-ticket : goal.let_go-requires-clause-ticket
let_go-requires-clause-ticket c =
    All-head (λ (entry : Entry (Cargo Filling)). IsTicketOf c.args.cells.now entry.cargo.ticket) c.in-Some.entry c.take.new.self.waiting
    (subst (All (λ (entry : Entry (Cargo Filling)). IsTicketOf c.args.cells.now entry.cargo.ticket)) (ap (λ (r : Remains (Cargo Filling)). r.waiting) c.in-Some.ensures) c.loop-entry.invariant.tickets)

pub loop-entry-preserved : goal.loop-entry-preserved
loop-entry-preserved c = record {
  silent = c.let_go.ensures;
  tickets = All-rest (λ (entry : Entry (Cargo Filling)). IsTicketOf c.args.cells.now entry.cargo.ticket) c.in-Some.entry c.take.new.self.waiting c.loop-entry.rest.waiting (ap (λ (r : Remains (Cargo Filling)). r.waiting) c.in-Some.ensures) c.loop-entry.invariant.tickets;
  same = sym (ap (λ (r : Remains (Cargo Filling)). r.entries) c.in-Some.ensures) ∙ c.loop-entry.invariant.same;
}

pub returns-clause-closes : goal.returns-clause-closes
returns-clause-closes c = (
  c.close.result,
  record { known = c.close.ensures.known; makers = c.close.ensures.makers; sound = c.drain-rest.ensures.sound; reads = c.drain-rest.ensures.reads },
  c.home.ensures.entries ∙ ap (λ (r : Remains (Cargo Filling)). r.entries) c.in_default.ensures.1 ∙ c.loop-entry.invariant.same ∙ c.drain-rest.ensures.entries,
)
