-- What a desk knows and shows goes on, as its caller sets the priority of its next request.
use Rattle.std.proofs.Common.{◌≡◌, ◌≤◌, ℕ, ℤ, Bool, None, Result, Ok, Err, [], ◌∷◌, refl, sym, ap, subst, arith, ◌<◌}
use Rattle.std.specs.Prelude.{IfOk, OnErr}
use Rattle.xa_server.specs.xa_types.declared.call.Op.TheVariants.{Priority as PriorityOp}
use Rattle.xa_server.specs.xa_types.declared.stamp.Stamp.{Stamp}
use Rattle.xa_server.specs.xa_events.declared.event.Event.TheVariants.{Priority}
use Rattle.xa_server.specs.xa_events.Board.{published}
use Rattle.xa_server.specs.xa_stamp.declared.home.Stamped.{Stamped}
use Rattle.xa_server.specs.xa_worker.Seen.{past_in}
use Rattle.xa_server.specs.xa_cell.Known.{known, IsSeatOf}
use Rattle.xa_server.specs.xa_held.Joins.{changes_at}
use Rattle.xa_server.specs.xa_worker.declared.work.Halt.{Halt}
use Rattle.xa_server.specs.xa_caller.Caller.{CallerState}
use Rattle.xa_server.specs.xa_caller.Changes.{SetsPriority}
use Rattle.xa_server.specs.xa_caller.Phases.{just_in}
use Rattle.xa_desk.specs.declared.domain.Domain.{Domain}
use Rattle.xa_desk.specs.declared.desk.Desk.{Desk}
use Rattle.xa_desk.specs.Desks.{IsDesk, Leads, board_page}
use Rattle.xa_desk.specs.Steps.{FitsOp}
use Rattle.xa_server.proofs.xa_caller.Reading.{is_numbered}
use Rattle.xa_desk.proofs.Fitting.{call_over, one_more_fits}
use Rattle.xa_desk.proofs.Leading.{Grew, grew_one, next_leads}
use Rattle.xa_desk.proofs.Seating.{TakesOn, takes_same}
use Rattle.xa_desk.proofs.Stopping.{same_leads}

module _ (d : Domain) (desk : Desk) (op : ℕ) (absolute : Bool) (amount : ℤ) (is : IsDesk d desk) (above : 0 < op) (none : just_in desk.caller.phase ≡ None) (new : CallerState) where
  abbrev Next : Desk
  Next = record desk { caller = new }

  module _ (stamp : Stamp) (sets : SetsPriority op absolute amount stamp new desk.caller) where
    abbrev One : Stamped
    One = record { stamp = stamp; event = Priority (record { by = desk.caller.work.id; op = op; absolute = absolute; amount = amount }) }

    grew : Grew desk.caller.work new.work (One ∷ [])
    grew = let next = sets.next in grew_one desk.caller.work new.work desk.caller.work.room One (ap (λ (c : CallerState). c.work) sets.made) (omega (arith, next)) tt

    set_leads : Leads d desk Next
    set_leads =
        let made = sets.made in
        next_leads d desk new One grew (ap (λ (c : CallerState). c.work.stamp) made) refl (subst (λ (c : CallerState). IsSeatOf d.cells c.seat) (sym made) is.seat) (subst (λ (c : CallerState). TakesOn (known desk.caller.seat) (known c.seat)) (sym made) (takes_same (known desk.caller.seat))) tt
        (subst (λ (c : CallerState). c.least ≤ published (past_in (changes_at (board_page desk).seen))) (sym made) is.least) tt is sets.next
        (λ whole on. record { saw = tt; told = tt; clears = tt })

    set_fits : FitsOp d op (PriorityOp absolute amount) desk Next
    set_fits = one_more_fits d desk Next One set_leads grew op (PriorityOp absolute amount) refl (is_numbered desk.caller.work.id.0 desk.caller.work.id.0 op refl above) (λ ops its next. call_over d desk ops its none) (λ over ops its. refl) (λ whole on. (refl, refl))

  pub set_goes : (r : Result Stamp Halt) → IfOk r (λ stamp. SetsPriority op absolute amount stamp new desk.caller) → OnErr r (new ≡ desk.caller) → Leads d desk Next × FitsOp d op (PriorityOp absolute amount) desk Next × OnErr r (Next ≡ desk)
  set_goes (Ok stamp) sets kept = (set_leads stamp sets, set_fits stamp sets, tt)
  set_goes (Err halt) sets kept =
      let still = ap (λ (c : CallerState). record desk { caller = c }) kept in
      (subst (Leads d desk) (sym still) (same_leads d desk is), subst (FitsOp d op (PriorityOp absolute amount) desk) (sym still) (λ ops its fits. fits), still)
