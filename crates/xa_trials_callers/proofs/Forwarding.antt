-- A server that forwards its request goes from one standing to the next.
use Rattle.std.proofs.Common.{◌≡◌, ℕ, ◌+◌, ◌-◌, ◌⊎◌, ◌<◌, ◌≤◌, Bool, true, List, [], Option, Some, None, Result, Ok, Err, zero, suc, inl, inr, ⊎_elim, refl, sym, ◌∙◌, ap, subst, arith}
use Rattle.std.specs.Prelude.{ℤ, nat_lt, IfSome, IsSomeAnd}
use Rattle.std.proofs.lemmas.Bool.{and_from, lt-ltb}
use Rattle.xa_types.specs.declared.data.Data.{Data}
use Rattle.xa_types.specs.declared.row.Row.{Row}
use Rattle.xa_types.specs.declared.setup.Setup.{Setup}
use Rattle.xa_types.specs.declared.setup.ServerSetup.{ServerSetup}
use Rattle.xa_types.specs.declared.stamp.Stamp.{Stamp}
use Rattle.xa_types.specs.Found.{FoundRows}
use Rattle.xa_types.specs.Setup.{numbered}
use Rattle.xa_events.specs.declared.event.Doing.{Doing}
use Rattle.xa_events.specs.declared.event.Doing.TheVariants.{Busy, Off}
use Rattle.xa_events.specs.declared.event.Event.{Event}
use Rattle.xa_events.specs.declared.event.Event.TheVariants.{Priority}
use Rattle.xa_events.specs.declared.event.Outcome.TheVariants.{BadForward}
use Rattle.xa_events.specs.declared.event.Prioritized.{Prioritized}
use Rattle.xa_events.specs.declared.event.StopCause.{StopCause}
use Rattle.xa_events.specs.Caller.{ticks}
use Rattle.xa_events.specs.Server.{doing, is_busy}
use Rattle.xa_cell.specs.declared.cells.Cells.{Cells}
use Rattle.xa_cell.specs.Known.{IsSeatOf, IsTicketOf}
use Rattle.xa_queue.specs.declared.entry.Entry.{Entry}
use Rattle.xa_stamp.specs.declared.home.Stamped.{Stamped}
use Rattle.xa_worker.specs.Work.{WorkState, theirs, noted}
use Rattle.xa_caller.specs.declared.cargo.Filling.{Filling}
use Rattle.xa_caller.specs.declared.outcomes.Aimed.{Aimed}
use Rattle.xa_caller.specs.declared.outcomes.Aimed.TheVariants.{At, Past}
use Rattle.xa_caller.specs.Caller.{CallerState, MayCall, AreRowsOf}
use Rattle.xa_caller.specs.Changes.{SetsPriority}
use Rattle.xa_caller.specs.Drafts.{Cargo}
use Rattle.xa_restart.specs.Rule.{RestartState, IsRuleOf, IsLast, may_start_by}
use Rattle.xa_server.specs.declared.closing.Closing.{Closing}
use Rattle.xa_server.specs.declared.forwarding.Forwarding.{Forwarding}
use Rattle.xa_server.specs.declared.forwarding.Forwarding.TheVariants.{On, Failed}
use Rattle.xa_server.specs.declared.slot.ServerSlot.{ServerSlot}
use Rattle.xa_server.specs.Changes.{new_slot, MayStart, DiesFrom}
use Rattle.xa_server.specs.declared.slot.Last.TheVariants as lasts
use Rattle.xa_server.specs.Doings.{IsBusy, IsIdle, life_in}
use Rattle.xa_server.specs.Forwarding.{Fails, ForwardsAs, LeftBy, IsOnWay, AimsOn, StaysOnWay}
use Rattle.xa_server.specs.Slot.{Stands}
use Rattle.xa_server.proofs.Beginning.{new_stands}
use Rattle.xa_server.proofs.Reading.{IsServers, stand-more}
use Rattle.xa_trials_callers.specs.Forwards.{IsBetween, Holds, IsOut, IsSettled, IsOver, LeavesOut, AreFor, IsClosed, ticket_in}
use Rattle.xa_trials_callers.proofs.Serving.{busy_dies, finish_closed, death_closed}

-- ---- a server that was never started

module _ (setup : Setup) (server : ServerSetup) (restarts : RestartState) (w : WorkState) (is : w ≡ record { setup = setup; clients = 1; id = record { 0 = 2 }; stamp = record { 0 = 0 }; own = []; room = 0 })
    (fresh : restarts ≡ record { restart = server.restart; maxgen = server.maxgen; grace = server.grace; starts = [] }) (slot : ServerSlot) (new : slot ≡ new_slot (record { 0 = 1 }) restarts) where
  pub first_stands : numbered 1 setup.servers ≡ Some server → Stands slot w
  first_stands first =
      subst (λ u. Stands u w) (sym (new ∙ ap (new_slot (record { 0 = 1 })) fresh)) (subst (Stands _) (sym is)
      (new_stands (record { 0 = 1 }) (record { restart = server.restart; maxgen = server.maxgen; grace = server.grace; starts = [] }) _ refl
      (subst (λ o. IsSomeAnd o (λ (s : ServerSetup). IsRuleOf s server.restart server.maxgen server.grace)) (sym first) (record { restart = refl; maxgen = refl; grace = refl })) refl refl))

  pub first_may : (may : Bool) → (IsLast 0 slot.restarts.starts → may ≡ may_start_by slot.restarts 0) → may ≡ true → MayStart 0 slot w
  unfolding ticks
  first_may may test passes =
      let none : slot.restarts.starts ≡ [] = ap (λ (u : ServerSlot). u.restarts.starts) new ∙ ap (λ (r : RestartState). r.starts) fresh in
      subst (MayStart 0 slot) (sym is) (record {
        off = ap (λ (u : ServerSlot). u.doing) new;
        left = ap (λ (u : ServerSlot). u.gone) new;
        up = ap (λ (u : ServerSlot). u.shut) new;
        floor = omega arith;
        may = sym (test (subst (IsLast 0) (sym none) (omega arith))) ∙ passes;
      })

-- ---- the priority of its next request

some_number : {X : Type 0} (n : ℕ) (xs : List X) (P : X → Type 0) → IsSomeAnd (numbered n xs) P → 0 < n
some_number zero xs P holds = absurd holds
some_number (suc n) xs P holds = omega arith

busy_is : (d : Doing) → IsBusy d → is_busy d ≡ true
busy_is (Busy life request) busy = refl
busy_is _ busy = absurd busy

-- its caller may make a call while it has a request in hand
pub may_call : (slot : ServerSlot) (c : CallerState) → Stands slot c.work → IsBusy slot.doing → MayCall c
unfolding doing
may_call slot c stands busy =
    let w : WorkState = c.work in
    let number = stands.tables.worker.number in
    let some = some_number slot.server.0 w.setup.servers _ stands.tables.worker.rule in
    let server : w.id.0 - w.clients ≡ slot.server.0 = omega (arith, number) in
    inr (and_from (nat_lt w.clients w.id.0) (is_busy (doing (w.id.0 - w.clients) (theirs w))) (lt-ltb w.clients w.id.0 (omega (arith, number, some)))
    (subst (λ n. is_busy (doing n (theirs w)) ≡ true) (sym server) (ap is_busy stands.tables.reads.moved ∙ busy_is slot.doing busy)))

of_priority : (clients server : ℕ) (p : Prioritized) → p.by.0 ≡ clients + server → IsServers (record { 0 = server }) clients (Priority p)
of_priority clients server p its = record { its = its; opens = λ caller. refl; closes = λ caller. refl; connects = λ caller. refl; disconnects = λ caller. refl }

prioritized_stands : (slot : ServerSlot) (w : WorkState) (p : Prioritized) (stamp : Stamp) → Stands slot w → p.by ≡ w.id → w.stamp.0 ≤ stamp.0 → Stands slot (noted (record { stamp = stamp; event = Priority p }) w)
prioritized_stands slot w p stamp stands by later =
    let t = stands.tables in
    let r = t.reads in
    let few = t.few in
    record {
      tables = stand-more slot.server slot.restarts slot.restarts w (record { stamp = stamp; event = Priority p }) w.room t.worker refl refl refl
          (of_priority w.clients slot.server.0 p (ap (λ id. id.0) by ∙ sym t.worker.number)) slot.made slot.doing slot.last slot.gone slot.shut
          (record { moved = r.moved; ended = r.ended; started = r.started; count = r.count; given_up = r.given_up; stopped = r.stopped })
          (omega (arith, few, later)) t.ready;
      hand = stands.hand;
    }

module _ (setup : Setup) (cells : Cells Filling) where
  between_work : (c c' : CallerState) → c' ≡ record c { work = c'.work } → c'.work.setup ≡ c.work.setup → IsBetween setup cells c → IsBetween setup cells c'
  between_work c c' rest same b = record {
    its = same ∙ b.its;
    idle = ap (λ (k : CallerState). k.phase) rest ∙ b.idle;
    seat = subst (IsSeatOf cells) (sym (ap (λ (k : CallerState). k.seat) rest)) b.seat;
    low = subst (λ n. n ≤ 256) (sym (ap (λ (k : CallerState). k.least) rest)) b.low;
  }

  pub taken : (entry : Entry Cargo) (x : Stamped) (slot slot' : ServerSlot) (c c' : CallerState) → IsBetween setup cells c → IsTicketOf cells entry.cargo.ticket → slot' ≡ record slot { doing = Busy (life_in slot.doing) entry.request; hand = Some entry; last = lasts.Nothing }
      → c'.work ≡ noted x c.work → Stands slot' c'.work → c' ≡ record c { work = c'.work } → Holds setup cells slot' c'
  taken entry x slot slot' c c' b ticket left made stands rest = record {
    between = between_work c c' rest (ap (λ (w : WorkState). w.setup) made) b;
    stands = stands;
    busy = subst IsBusy (sym (ap (λ (u : ServerSlot). u.doing) left)) tt;
    ticket = subst (λ o. IfSome o (λ (e : Entry Cargo). IsTicketOf cells e.cargo.ticket)) (sym (ap (λ (u : ServerSlot). u.hand) left)) ticket;
  }

  pub priority_set : (op : ℕ) (absolute : Bool) (amount : ℤ) (stamp : Stamp) (slot : ServerSlot) (new old : CallerState) → Holds setup cells slot old → SetsPriority op absolute amount stamp new old → Holds setup cells slot new
  priority_set op absolute amount stamp slot new old h s =
      let p : Prioritized = record { by = old.work.id; op = op; absolute = absolute; amount = amount } in
      let next = s.next in
      subst (Holds setup cells slot) (sym s.made) (record {
        between = record { its = h.between.its; idle = h.between.idle; seat = h.between.seat; low = h.between.low };
        stands = prioritized_stands slot old.work p stamp h.stands refl (omega (arith, next));
        busy = h.busy;
        ticket = h.ticket;
      })

  -- ---- a forward

  ticket_held : (hand : Option (Entry Cargo)) → IfSome hand (λ entry. IsTicketOf cells entry.cargo.ticket) → IfSome (ticket_in hand) (IsTicketOf cells)
  ticket_held None held = tt
  ticket_held (Some entry) held = held

  closed_over : (hand : Option (Entry Cargo)) (closing : Closing) (slot : ServerSlot) (c : CallerState) → IfSome hand (λ entry. IsTicketOf cells entry.cargo.ticket) → IsClosed hand closing c → IsSettled cells slot c → IsOver cells closing slot c
  closed_over hand closing slot c held closed settled =
      record { settled = settled; ticket = subst (λ o. IfSome o (IsTicketOf cells)) (sym closed.ticket) (ticket_held hand held); later = closed.later }

  pub fails_over : (version : ℕ) (closing : Closing) (slot' slot : ServerSlot) (new old : CallerState) → IsBetween setup cells old → IfSome slot.hand (λ entry. IsTicketOf cells entry.cargo.ticket) → Fails version closing slot' slot new old → Stands slot' new.work
      → IsOver cells closing slot' new
  fails_over version closing slot' slot new old b held f stands =
      closed_over slot.hand closing slot' new held (finish_closed (BadForward version) closing slot' slot new old.work f.finishes) (record {
        stands = stands;
        doing = inl (subst IsIdle (sym (ap (λ (u : ServerSlot). u.doing) f.finishes.left ∙ ap (λ (u : ServerSlot). u.doing) f.finishes.ends.left)) tt);
        free = ap (λ (u : ServerSlot). u.hand) f.finishes.left;
        idle = ap (λ (k : CallerState). k.phase) f.rest ∙ b.idle;
        seat = subst (IsSeatOf cells) (sym (ap (λ (k : CallerState). k.seat) f.rest)) b.seat;
      })

  ticket_of : (hand : Option (Entry Cargo)) (held : Entry Cargo) → hand ≡ Some held → IfSome hand (λ entry. IsTicketOf cells entry.cargo.ticket) → IsTicketOf cells held.cargo.ticket
  ticket_of hand held is all = subst (λ o. IfSome o (λ entry. IsTicketOf cells entry.cargo.ticket)) is all

  pub leaves_out : (version : ℕ) (payload : Data) (way : Result Row ℕ) (f : Forwarding) (slot' slot : ServerSlot) (new old : CallerState) → Holds setup cells slot old → ForwardsAs version payload way f slot' slot new old → LeftBy (Ok f) slot' new → LeavesOut setup cells f slot' new
  leaves_out version payload (Ok row) (On entry event) slot' slot new old h p left = record {
    between = subst (IsBetween setup cells) (sym p.same) h.between;
    way = left;
    ticket = subst (λ (e : Entry Cargo). IsTicketOf cells e.cargo.ticket) (sym p.goes.entered) (ticket_of slot.hand p.held p.in_hand h.ticket);
  }
  leaves_out version payload (Err named) (Failed closing) slot' slot new old h f left = fails_over named closing slot' slot new old h.between h.ticket f left
  leaves_out version payload (Ok row) (Failed closing) slot' slot new old h f left = absurd f
  leaves_out version payload (Err named) (On entry event) slot' slot new old h f left = absurd f

  -- ---- another aim

  module _ (named : List ℕ) (found : FoundRows) (entry : Entry Cargo) (event : Event) (slot : ServerSlot) (c : CallerState) (out : IsOut setup cells entry event slot c) (rows : AreFor setup named found) where
    on_way : (aimed : Aimed) → ((e : Event) (service : List ℕ) → IsOnWay entry e slot c → AreRowsOf c.work.setup service found.rows → c.least ≤ found.version → StaysOnWay e slot c aimed) → StaysOnWay event slot c aimed
    on_way aimed stays =
        let version = rows.version in
        let low = out.between.low in
        stays event rows.service out.way (subst (λ s. AreRowsOf s rows.service found.rows) (sym out.between.its) rows.rows) (omega (arith, version, low))

    pub aimed_out : (attempt : ℕ) (next : Entry Cargo) (anew : Event) → AimsOn found.version c.priority entry found.rows attempt slot (At next anew)
        → ((e : Event) (service : List ℕ) → IsOnWay entry e slot c → AreRowsOf c.work.setup service found.rows → c.least ≤ found.version → StaysOnWay e slot c (At next anew)) → IsOut setup cells next anew slot c
    aimed_out attempt next anew aim stays =
        record { between = out.between; way = on_way (At next anew) stays; ticket = subst (λ (e : Entry Cargo). IsTicketOf cells e.cargo.ticket) (sym aim.2.entered) out.ticket }

    pub back_out : (attempt : ℕ) (back : Entry Cargo) → AimsOn found.version c.priority entry found.rows attempt slot (Past back)
        → ((e : Event) (service : List ℕ) → IsOnWay entry e slot c → AreRowsOf c.work.setup service found.rows → c.least ≤ found.version → StaysOnWay e slot c (Past back)) → IsOut setup cells back event slot c
    back_out attempt back aim stays = record { between = out.between; way = on_way (Past back) stays; ticket = subst (λ (e : Entry Cargo). IsTicketOf cells e.cargo.ticket) (sym aim.1) out.ticket }

  -- ---- a death

  -- the request was taken in hand again, and the life ended
  pub death_over : (cause : StopCause) (entry : Entry Cargo) (event : Event) (closing : Closing) (slot'' slot' slot : ServerSlot) (new old : CallerState) → IsOut setup cells entry event slot old → slot' ≡ record slot { hand = Some entry } → new ≡ record old { work = new.work } → Stands slot'' new.work
      → DiesFrom slot'.doing cause closing slot'' slot' new.work old.work → IsOver cells closing slot'' new
  death_over cause entry event closing slot'' slot' slot new old out back rest stands dies =
      let busy : IsBusy slot'.doing = subst IsBusy (sym (ap (λ (u : ServerSlot). u.doing) back ∙ out.way.busy)) tt in
      let held = subst (λ o. IfSome o (λ (e : Entry Cargo). IsTicketOf cells e.cargo.ticket)) (sym (ap (λ (u : ServerSlot). u.hand) back)) out.ticket in
      let d = busy_dies slot'.doing cause closing slot'' slot' new.work old.work busy dies in
      closed_over slot'.hand closing slot'' new held (death_closed cause closing slot'' slot' new old.work d) (record {
        stands = stands;
        doing = inr (ap (λ (u : ServerSlot). u.doing) d.stops.left);
        free = ap (λ (u : ServerSlot). u.hand) d.stops.left;
        idle = ap (λ (k : CallerState). k.phase) rest ∙ out.between.idle;
        seat = subst (IsSeatOf cells) (sym (ap (λ (k : CallerState). k.seat) rest)) out.between.seat;
      })

-- a life that is under way behind a request waits for the next
pub waits_then : (doing : Doing) → IsIdle doing ⊎ (doing ≡ Off) → ((life_in doing).0 ≡ 0 → ⊥) → IsIdle doing
waits_then doing settled alive = ⊎_elim (λ (idle : IsIdle doing). idle) (λ (off : doing ≡ Off). absurd (alive (ap (λ (d : Doing). (life_in d).0) off))) settled
