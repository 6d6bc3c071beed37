-- What workers are behind their work, from how they began.
use Rattle.std.proofs.Common.{◌≡◌, ℕ, suc, ◌+◌, ◌<◌, ◌≤◌, List, [], ◌∷◌, length, get_or, Option, Some, None, refl, sym, ◌∙◌, ap, subst, arith}
use Rattle.xa_boot.specs.xa_caller.declared.phase.Phase.TheVariants.{Idle, Prepared, Sent, Lost}
use Rattle.xa_boot.specs.xa_caller.declared.phase.Phase.{Phase}
use Rattle.xa_boot.specs.xa_worker.Seen.{past_in}
use Rattle.xa_boot.specs.xa_events.Local.{worker_events}
use Rattle.xa_boot.specs.xa_events.Calls.{awaits_answer}
use Rattle.xa_boot.specs.xa_events.Caller.{newest_call}
use Rattle.std.specs.List.{All}
use Rattle.std.proofs.lemmas.List.Elements.{All-weaker}
use Rattle.xa_boot.specs.xa_types.declared.call.Op.{Op}
use Rattle.xa_boot.specs.xa_types.declared.ids.CallerId.{CallerId}
use Rattle.xa_boot.specs.xa_types.declared.stamp.Stamp.{Stamp}
use Rattle.xa_boot.specs.xa_types.Setup.{queue_of}
use Rattle.xa_boot.specs.xa_events.declared.event.Event.{Event}
use Rattle.xa_boot.specs.xa_events.declared.event.Event.TheVariants.{Advertise}
use Rattle.xa_boot.specs.xa_events.Homes.{home_of}
use Rattle.xa_boot.specs.xa_events.Words.{EachNumbered}
use Rattle.xa_boot.specs.xa_stamp.declared.home.Stamped.{Stamped}
use Rattle.xa_boot.specs.xa_lock.declared.pass.LockPass.{LockPass}
use Rattle.xa_boot.specs.xa_worker.Going.{FitEach}
use Rattle.xa_boot.specs.xa_held.declared.kept_board.BoardNote.{BoardNote}
use Rattle.xa_boot.specs.xa_held.Joins.{changes_at}
use Rattle.xa_history.specs.xa_script.declared.script.Client.{Client}
use Rattle.xa_boot.specs.xa_server.Served.{StarterShows}
use Rattle.xa_boot.specs.xa_desk.declared.domain.Domain.{Domain}
use Rattle.xa_boot.specs.xa_desk.declared.desk.Desk.{Desk}
use Rattle.xa_boot.specs.xa_desk.Desks.{FitsCalls, IsThere, IsBoardPass, IsAmong, page_in, IsOver as HasNone}
use Rattle.xa_boot.specs.xa_desk.Made.{IsMade}
use Rattle.xa_boot.specs.xa_desk.Whole.{entries_of}
use Rattle.xa_boot.specs.xa_client_worker.declared.working.ClientWorker.{ClientWorker}
use Rattle.xa_boot.specs.xa_client_worker.declared.working.ClientWorker.TheVariants as workers
use Rattle.xa_boot.specs.xa_client_worker.Ending.{MayWork, HasWorked}
use Rattle.xa_boot.specs.xa_server_worker.declared.working.ServerWorker.{ServerWorker}
use Rattle.xa_boot.specs.xa_server_worker.Lives.{ServerShows}
use Rattle.xa_boot.specs.xa_server_worker.Working.{HasServed, cut_in}
use Rattle.xa_boot.specs.declared.closer.Closer.{Closer}
use Rattle.xa_boot.specs.Booting.{IsNewClient, IsNewServer, IsNewCloser, IsBoots, work_of}
use Rattle.xa_domain.specs.Working.{IsDone, EachDone, IsOver}
use Rattle.xa_domain.specs.Closing.{IsCloser, ShowsFor}

-- none is made so far
none_newest : (caller : ℕ) → newest_call caller [] ≡ None
unfolding newest_call
none_newest caller = refl

no_call : (phase : Phase) (ops : List Op) {newest : Option Event} → newest ≡ None → HasNone phase ops newest
no_call Idle ops none = ap (awaits_answer ops) none
no_call (Prepared draft) ops none = ap (awaits_answer ops) none
no_call (Sent sent) ops none = tt
no_call (Lost request) ops none = tt

module _ (d : Domain) where
  pub may_work : (client : ℕ) (worker : ClientWorker) → IsNewClient d client worker → MayWork d worker
  may_work client (workers.Ready desk) is = is.0
  may_work client workers.Working is = is
  may_work client (workers.Left ended) is = is

  -- where nothing was noted, it fits any calls
  fits_none : (ops : List Op) (desk : Desk) → desk.caller.work.own ≡ [] → FitsCalls d ops desk
  fits_none ops desk none = record {
    each = λ whole on. subst (FitEach d.setup d.clients (entries_of whole) desk.caller.work.id.0 ops) (sym none) tt;
    over = no_call desk.caller.phase ops (subst (λ (l : List Stamped). newest_call desk.caller.work.id.0 (worker_events d.clients desk.caller.work.id.0 (past_in l)) ≡ None) (sym {A = List Stamped} none) (none_newest desk.caller.work.id.0));
  }

  pub is_done : (client : ℕ) (ops : List Op) (old new : ClientWorker) → IsNewClient d client old → HasWorked d ops (length ops) old new → IsDone d client ops new
  is_done client ops (workers.Ready desk) (workers.Left ended) is worked =
      let same = worked.same in
      let leads = worked.leads in
      record {
        desk = worked.ended;
        left = worked.left;
        is = leads.desk;
        id = ap (λ (i : CallerId). i.0) same.id ∙ is.1;
        clients = same.clients ∙ is.2;
        all = λ whole. record { made = worked.all whole; fits = worked.fits (fits_none ops desk is.3) };
        halts = worked.halts;
      }
  is_done client ops (workers.Ready desk) (workers.Ready other) is worked = absurd worked
  is_done client ops (workers.Ready desk) workers.Working is worked = absurd worked
  is_done client ops workers.Working new is worked = absurd is
  is_done client ops (workers.Left ended) new is worked = absurd is

  pub each_done : (n : ℕ) (scripts : List Client) (old new : List ClientWorker) → length scripts ≡ length old → length new ≡ length old → EachNumbered (IsNewClient d) n old
      → ((k : ℕ) (w : ClientWorker) (script : Client) → k < length old → script ≡ get_or scripts k script → HasWorked d script.ops (length script.ops) (get_or old k w) (get_or new k w)) → EachDone d n scripts new
  each_done n [] [] [] count same each went = tt
  each_done n [] [] (y ∷ new) count same each went = absurd (omega (arith, same))
  each_done n [] (x ∷ old) new count same each went = absurd (omega (arith, count))
  each_done n (s ∷ scripts) [] new count same each went = absurd (omega (arith, count))
  each_done n (s ∷ scripts) (x ∷ old) [] count same each went = absurd (omega (arith, same))
  each_done n (s ∷ scripts) (x ∷ old) (y ∷ new) count same each went = (
    is_done n s.ops x y each.0 (went 0 x s (omega arith) refl),
    each_done (n + 1) scripts old new (omega (arith, count)) (omega (arith, same)) each.1 (λ k w script within is. went (suc k) w script (omega (arith, within)) is),
  )

  -- ---- the domain itself

  boots_made : (e : Event) → IsBoots e → IsMade e
  boots_made (Advertise a) is = tt
  boots_made _ is = absurd is

  boots_among : (n : ℕ) (e : Event) → IsBoots e → IsAmong n (home_of d.setup d.clients e)
  boots_among n (Advertise a) is = tt
  boots_among n _ is = absurd is

  -- what its pass of the board saw is no later than what it saw
  until : (closer : Closer) (pass : Option (LockPass BoardNote)) → closer.seen ≡ d.booted → IsThere (IsBoardPass d (work_of d closer)) pass → All (λ (x : Stamped). x.stamp.0 ≤ d.booted.0) (changes_at (page_in pass).seen)
  until closer None seen is = absurd is
  until closer (Some pass) seen is = subst (λ (s : Stamp). All (λ (x : Stamped). x.stamp.0 ≤ s.0) (changes_at (page_in (Some pass)).seen)) seen is.reached

  pub is_closer : (closer : Closer) → IsNewCloser d closer → IsCloser d closer
  is_closer closer new =
      let Boots : Stamped → Type 0 = λ (x : Stamped). IsBoots x.event in
      let seen = new.seen in
      record {
        seat = new.seat;
        fresh = new.fresh;
        board = new.board;
        until = until closer closer.board new.seen new.board;
        count = new.count;
        queues = new.queues;
        clock = new.clock;
        work = new.work;
        made = All-weaker Boots (λ (x : Stamped). IsMade x.event) (λ x is. boots_made x.event is) closer.own new.boots;
        among = All-weaker Boots (λ (x : Stamped). IsAmong (length d.queues.items) (home_of d.setup d.clients x.event)) (λ x is. boots_among (length d.queues.items) x.event is) closer.own new.boots;
        reached = new.reached;
        booted = subst (λ (s : Stamp). s.0 ≤ closer.seen.0) seen (omega arith);
        bound = new.bound;
      }

  pub shows_for : (clients : List ClientWorker) (closer : Closer) → IsNewCloser d closer → ShowsFor d clients closer
  shows_for clients closer new whole on = (new.known whole on.sound on.board, new.shows whole on.sound on.board)

-- ---- a server

module _ {L T : Type 0} (d : Domain) (shows : T → StarterShows) where
  pub is_over : (server : ℕ) (old new : ServerWorker L T) → IsNewServer d shows server old → HasServed d shows old new → IsOver d shows server new
  is_over server old new is served =
      let leads = served.leads in
      let may = is.may in
      let serving = may.serving in
      let Shown : List ℕ → ℕ → ℕ → Type 0 = λ name queue number. ServerShows d name queue number new.desk new.served.lives.items (cut_in new.cut) (shows new.served.starter) (new.stopped ≡ None) in
      record {
        is = leads.desk;
        id = ap (λ (i : CallerId). i.0) served.id ∙ is.id;
        clients = served.clients ∙ is.clients;
        out = served.out;
        hand = served.hand;
        shown = subst (λ n. Shown ((shows new.served.starter).name) (queue_of d.setup n) n) is.number
            (subst (λ q. Shown ((shows new.served.starter).name) q old.served.slot.server.0) (sym serving.its)
            (subst (λ name. Shown name old.queue.0 old.served.slot.server.0) (sym served.starter) served.shown));
        halts = served.halts;
      }
