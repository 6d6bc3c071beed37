-- What a desk knows and shows goes on, as a call of its caller is refused.
use Rattle.std.proofs.Common.{◌≡◌, ◌≤◌, ◌<◌, ℕ, ◌==◌, ◌||◌, Bool, true, false, [], ◌∷◌, ◌++◌, Option, Some, None, refl, sym, ◌∙◌, ap, subst, arith, ◌+◌}
use Rattle.std.specs.Prelude.{IfSome}
use Rattle.xa_server.specs.xa_types.declared.call.Ask.{Ask}
use Rattle.xa_server.specs.xa_types.declared.call.Op.{Op}
use Rattle.xa_server.specs.xa_types.declared.setup.Setup.{Setup}
use Rattle.xa_server.specs.xa_types.declared.fault.Fault.{Fault}
use Rattle.xa_server.specs.xa_types.declared.stamp.Stamp.{Stamp}
use Rattle.xa_server.specs.xa_events.declared.event.Evidence.{Evidence}
use Rattle.xa_server.specs.xa_events.Board.{published}
use Rattle.xa_server.specs.xa_events.Caller.{version_in, tick_of}
use Rattle.xa_server.specs.xa_events.Calls.{Asking, is_invalid_ask, as_call, as_acall}
use Rattle.xa_server.specs.xa_events.Homes.Home.{CallerHome}
use Rattle.xa_server.specs.xa_stamp.declared.home.Stamped.{Stamped}
use Rattle.xa_server.specs.xa_worker.Calls.{AskRefusedOwn, FitsOwn}
use Rattle.xa_server.specs.xa_worker.Seen.{past_in, SawEvidence, ToldEvidence}
use Rattle.xa_server.specs.xa_cell.Known.{known, IsSeatOf}
use Rattle.xa_server.specs.xa_held.Joins.{changes_at}
use Rattle.xa_server.specs.xa_worker.Work.{WorkState}
use Rattle.xa_server.specs.xa_caller.Caller.{CallerState}
use Rattle.xa_server.specs.xa_caller.Changes.{refused, Refuses}
use Rattle.xa_server.specs.xa_caller.Phases.{just_in, least_by}
use Rattle.xa_desk.specs.declared.domain.Domain.{Domain}
use Rattle.xa_desk.specs.Made.{IsRefusal}
use Rattle.xa_desk.specs.declared.desk.Desk.{Desk}
use Rattle.xa_desk.specs.Whole.{Whole, entries_of}
use Rattle.xa_desk.specs.Desks.{GoesOn, IsDesk, Leads, board_page, shown_to}
use Rattle.xa_desk.proofs.Timely.{if_some_if}
use Rattle.xa_desk.specs.Steps.{FitsOn, FitsOp, WantsReply, ask_by}
use Rattle.xa_server.proofs.xa_caller.Reading.{is_numbered}
use Rattle.xa_desk.proofs.Fitting.{its_events, call_over, one_more_fits}
use Rattle.xa_desk.proofs.Leading.{Grew, grew_one, next_leads}
use Rattle.xa_desk.proofs.Seating.{TakesOn, takes_same}

least_low : (version : Option ℕ) (least seen : ℕ) → least ≤ seen → IfSome version (λ v. v ≤ seen) → least_by version least ≤ seen
least_low None least seen low some = low
least_low (Some version) least seen low some = some

-- the caller as it stood when its call was refused, of the same worker
pub record IsSame (d : Domain) (desk : Desk) (left : CallerState) : Type 0 where
  pub work : left.work ≡ record desk.caller.work { room = left.work.room }
  pub seat : IsSeatOf d.cells left.seat
  pub takes : TakesOn (known desk.caller.seat) (known left.seat)
  pub least : left.least ≡ desk.caller.least

pub same_as : (d : Domain) (desk : Desk) → IsDesk d desk → IsSame d desk desk.caller
same_as d desk is = record { work = refl; seat = is.seat; takes = takes_same (known desk.caller.seat); least = refl }

-- a tpacall that wants a reply asks as a tpcall does
same_asking : (setup : Setup) (ask : Ask) → ask.flags.no_reply ≡ false → as_acall setup ask ≡ as_call setup ask
same_asking setup ask wants = rw wants (ap (λ (b : Bool). record { invalid = b; conversational = false; wants_cell = true }) (sym (or_false (is_invalid_ask setup ask))))
  where
    or_false : (b : Bool) → (b || false) ≡ b
    or_false true = refl
    or_false false = refl

module _ (d : Domain) (desk : Desk) (left new : CallerState) (op : ℕ) (fault : Fault) (evidence : Evidence) (stamp : Stamp) (is : IsDesk d desk) (same : IsSame d desk left) (refuses : Refuses op fault evidence stamp new left)
    (shown : IfSome (version_in evidence) (λ v. v ≤ published (past_in (changes_at (board_page desk).seen)))) (kind : IsRefusal fault evidence) (timely : IfSome (tick_of evidence) (λ tick. tick ≤ shown_to desk)) where
  abbrev One : Stamped
  One = record { stamp = stamp; event = refused op fault evidence left }

  stood : left.work.stamp.0 ≡ desk.caller.work.stamp.0
  stood = ap (λ (w : WorkState). w.stamp.0) same.work

  next : stamp.0 ≡ desk.caller.work.stamp.0 + 1
  next = let above = refuses.next in omega (arith, above, stood)

  grew : Grew desk.caller.work new.work (One ∷ [])
  grew = grew_one desk.caller.work new.work left.work.room One (ap (λ (c : CallerState). c.work) refuses.made ∙ ap (λ (w : WorkState). record w { stamp = stamp; own = w.own ++ One ∷ []; room = left.work.room }) same.work) (omega (arith, next)) kind

  module _ (saw : (whole : Whole) → GoesOn d whole desk → SawEvidence d.setup d.clients (entries_of whole) stamp left.work.id evidence (past_in desk.caller.work.own))
      (told : (whole : Whole) → GoesOn d whole desk → ToldEvidence d.setup d.clients (entries_of whole) stamp left.work.id evidence (its_events d desk)) where
    pub refuse_leads : Leads d desk (record desk { caller = new })
    refuse_leads =
        let made = refuses.made in
        let low = is.least in
        let stays = same.least in
        let shows_least : least_by (version_in evidence) left.least ≤ published (past_in (changes_at (board_page desk).seen)) = least_low (version_in evidence) left.least (published (past_in (changes_at (board_page desk).seen))) (omega (arith, low, stays)) shown in
        next_leads d desk new One grew (ap (λ (c : CallerState). c.work.stamp) made) (ap (λ (w : WorkState). CallerHome w.id.0) same.work) (subst (λ (c : CallerState). IsSeatOf d.cells c.seat) (sym made) same.seat) (subst (λ (c : CallerState). TakesOn (known desk.caller.seat) (known c.seat)) (sym made) same.takes) tt
        (subst (λ (c : CallerState). c.least ≤ published (past_in (changes_at (board_page desk).seen))) (sym made) shows_least) (if_some_if (left.work.id.0 == desk.caller.work.id.0) (tick_of evidence) (λ tick. tick ≤ shown_to desk) timely) is next
        (λ whole on. record { saw = saw whole on; told = told whole on; clears = tt })

    -- and that fits any call that may be refused so
    pub refused_on : (call : Op) → 0 < op → just_in desk.caller.phase ≡ None → ((whole : Whole) → GoesOn d whole desk → FitsOwn d.setup d.clients (entries_of whole) stamp call One.event (its_events d desk)) → FitsOp d op call desk (record desk { caller = new })
    refused_on call above none fits =
        one_more_fits d desk (record desk { caller = new }) One refuse_leads grew op call refl (is_numbered desk.caller.work.id.0 left.work.id.0 op (ap (λ (w : WorkState). w.id.0) same.work) above)
        (λ ops its turn. call_over d desk ops its none) (λ over ops its. refl) (λ whole on. fits whole (refuse_leads.before whole on))

    -- one that asks for a service too
    pub refuse_goes : 0 < op → just_in desk.caller.phase ≡ None → Leads d desk (record desk { caller = new })
        × ((ask : Ask) → ((whole : Whole) → GoesOn d whole desk → AskRefusedOwn d.setup d.clients (entries_of whole) stamp left.work.id.0 (as_call d.setup ask) ask fault evidence (its_events d desk)) → FitsOn d op ask desk (record desk { caller = new }))
    refuse_goes above none = (refuse_leads, λ ask fits apart wants. refused_on (ask_by apart ask) above none (λ whole on. by_ask whole apart ask wants (fits whole on)))
      where
        by_ask : (whole : Whole) (apart : Bool) (ask : Ask) → WantsReply apart ask → AskRefusedOwn d.setup d.clients (entries_of whole) stamp left.work.id.0 (as_call d.setup ask) ask fault evidence (its_events d desk)
            → FitsOwn d.setup d.clients (entries_of whole) stamp (ask_by apart ask) One.event (its_events d desk)
        by_ask whole true ask wants fits = subst (λ (how : Asking). AskRefusedOwn d.setup d.clients (entries_of whole) stamp left.work.id.0 how ask fault evidence (its_events d desk)) (sym (same_asking d.setup ask wants)) fits
        by_ask whole false ask wants fits = fits
