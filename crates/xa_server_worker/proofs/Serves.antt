-- All of a server's worker's work: how it begins, and what it leaves.
use Rattle.std.proofs.Common.{◌≡◌, ◌≤◌, ℕ, ◌+◌, false, true, List, [], ◌++◌, Option, None, refl, sym, ◌∙◌, ap, subst}
use Rattle.xa_server_worker.proofs.Keeping.{desk_over}
use Rattle.std.specs.List.{All}
use Rattle.std.proofs.lemmas.List.Elements.{All-nil}
use Rattle.xa_desk.specs.xa_events.declared.event.Event.{Event}
use Rattle.xa_desk.specs.xa_events.Caller.{newest_call, last_op, just_accepted}
use Rattle.xa_desk.specs.xa_events.Local.{worker_events}
use Rattle.xa_desk.specs.xa_stamp.declared.home.Stamped.{Stamped}
use Rattle.xa_desk.specs.xa_worker.Seen.{past_in}
use Rattle.xa_desk.specs.xa_worker.Work.{theirs}
use Rattle.xa_desk.specs.xa_pipe.Standing.{Ending}
use Rattle.xa_desk.specs.xa_pipe.Following.{is_of, due_in_life}
use Rattle.xa_desk.specs.xa_server.declared.slot.ServerSlot.{ServerSlot}
use Rattle.xa_desk.specs.xa_server.Served.{StarterShows}
use Rattle.xa_desk.specs.declared.domain.Domain.{Domain}
use Rattle.xa_desk.specs.declared.desk.Desk.{Desk}
use Rattle.xa_desk.specs.Whole.{entries_of}
use Rattle.xa_desk.specs.xa_worker.Going.{FitEach}
use Rattle.xa_desk.specs.declared.stopped.Stopped.{Stopped}
use Rattle.xa_server_worker.specs.declared.working.ServerWorker.{ServerWorker}
use Rattle.xa_server_worker.specs.Lives.{failed_starts, lives_in, calls_of_all, IsLived, ServerShows}
use Rattle.xa_server_worker.specs.Working.{MayServe, HasServed, cut_in}
use Rattle.xa_server_worker.specs.Standing.{Goes, HasLived, HasCalled, IsUntried, HasEnded}
use Rattle.xa_server_worker.proofs.Behind.{first_told}
use Rattle.xa_server_worker.proofs.Lasting.{started_on}

none_noted : (clients caller : ℕ) (own : List Stamped) → own ≡ [] → worker_events clients caller (past_in own) ≡ []
none_noted clients caller own none = ap (λ (l : List Stamped). worker_events clients caller (past_in l)) none

-- and made no call
none_called : {d : Domain} (desk : Desk) → desk.caller.work.clients ≡ d.clients → desk.caller.work.own ≡ [] → HasCalled d [] desk
unfolding newest_call
none_called {d} desk clients none =
    let own : theirs desk.caller.work ≡ [] = none_noted desk.caller.work.clients desk.caller.work.id.0 desk.caller.work.own none in
    record {
      last = ap (last_op desk.caller.work.id.0) own;
      over = ap (just_accepted desk.caller.work.id.0) own;
      fits = λ more. record {
        each = λ whole on. subst (FitEach d.setup d.clients (entries_of whole) desk.caller.work.id.0 more) (sym {A = List Stamped} none) tt;
        over = desk_over d desk more clients (ap (just_accepted desk.caller.work.id.0) own);
      };
    }

-- why it stopped is noted
pub goes_stopped : {L T : Type 0} {d : Domain} (old w : ServerWorker L T) (why : Option Stopped) → Goes d old w → Goes d old (record w { stopped = why })
goes_stopped old w why goes = record { leads = goes.leads; id = goes.id; clients = goes.clients; server = goes.server; name = goes.name; queue = goes.queue }

module _ {L T : Type 0} {d : Domain} {shows : T → StarterShows} where
  -- a worker that has done nothing may start its server
  pub begins : (w : ServerWorker L T) → MayServe d shows w → IsUntried d shows w
  begins w may =
      let own : List Event = theirs w.desk.caller.work in
      let none : own ≡ [] = none_noted w.desk.caller.work.clients w.desk.caller.work.id.0 w.desk.caller.work.own may.own in
      let s : ℕ = w.served.slot.server.0 in
      let made : w.served.slot.made ≡ 0 = ap (λ (x : ServerSlot). x.made) may.fresh in
      let lived : HasLived d w.name w.queue.0 s w.served.slot.made w.desk [] [] = record {
        are = sym (ap (lives_in s) none);
        each = All-nil (IsLived d w.name w.queue.0 s w.desk);
        earlier = All-nil (λ (over : Ending). over.life.generation.0 + 0 ≤ w.served.slot.made);
        unborn = λ g above. subst (All (λ (e : Event). is_of s g e ≡ false)) (sym {A = List Event} none) (All-nil (λ (e : Event). is_of s g e ≡ false));
        untold = λ g above. ap (due_in_life d.clients s g) none;
      } in
      record {
        off = record {
          at = record {
            is = may.is;
            serving = may.serving;
            named_so = may.name_is;
            started = started_on made (ap (failed_starts s) none) refl may.unasked;
            lived = subst (λ (l : List Ending). HasLived d w.name w.queue.0 s w.served.slot.made w.desk l []) (sym {A = List Ending} may.lives) lived;
            called = subst (λ (l : List Ending). HasCalled d (calls_of_all l ++ []) w.desk) (sym {A = List Ending} may.lives) (none_called w.desk may.is.clients may.own);
            left = ap (λ (x : ServerSlot). x.gone) may.fresh;
            cut = may.cut;
            told = first_told w.desk may.own may.is.filled;
          };
          off = ap (λ (x : ServerSlot). x.doing) may.fresh;
          up = ap (λ (x : ServerSlot). x.shut) may.fresh;
        };
        none = ap (λ (x : ServerSlot). x.restarts.starts) may.fresh ∙ may.none;
      }

  -- what is left of it shows how the server lived
  pub served_by : (old w other : ServerWorker L T) → Goes d old w → HasEnded d shows w.stopped w → w.served.slot.hand ≡ None → other ≡ record w { counted = other.counted } → other.counted ≡ true → HasServed d shows old other
  served_by old w other goes ended hand rest counted = subst (HasServed d shows old) (sym rest) (record {
    leads = goes.leads;
    id = goes.id;
    clients = goes.clients;
    idle = ended.idle;
    out = ended.out;
    hand = hand;
    counted = counted;
    server = goes.server;
    starter = ended.named_so ∙ goes.name;
    shown = subst (λ (n : List ℕ). Shown n old.queue.0 old.served.slot.server.0) goes.name (subst (λ (q : ℕ). Shown w.name q old.served.slot.server.0) (ap (λ q. q.0) goes.queue) (subst (λ (s : ℕ). Shown w.name w.queue.0 s) (ap (λ s. s.0) goes.server) ended.shown));
    halts = ended.halts;
  })
    where
      Shown : List ℕ → ℕ → ℕ → Type 0
      Shown n q s = ServerShows d n q s w.desk w.served.lives.items (cut_in w.cut) (shows w.served.starter) (w.stopped ≡ None)
