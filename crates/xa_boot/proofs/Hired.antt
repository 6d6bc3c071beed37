-- The workers of servers and of clients, and the domain itself.
use Rattle.std.proofs.Common.{◌≡◌, ℕ, zero, suc, ◌+◌, ◌<◌, ◌&&◌, true, List, [], length, Some, None, refl, sym, ◌∙◌, ap, ap₂, subst, arith, add-one, le-leb}
use Rattle.std.specs.Prelude.{slice_get, nat_le, IsSomeAnd}
use Rattle.std.specs.List.{All}
use Rattle.std.proofs.lemmas.Option.{get_or_from_slice_get, slice_get_within}
use Rattle.std.proofs.lemmas.List.Elements.{All-nil}
use Rattle.xa_client_worker.specs.xa_types.declared.ids.ServerId.{ServerId}
use Rattle.xa_client_worker.specs.xa_types.declared.setup.Setup.{Setup}
use Rattle.xa_client_worker.specs.xa_types.declared.setup.ServerSetup.{ServerSetup}
use Rattle.xa_client_worker.specs.xa_types.Configured.{is_among, queue_names}
use Rattle.xa_client_worker.specs.xa_types.Setup.{numbered, queue_named, queue_in, queue_of}
use Rattle.xa_client_worker.specs.xa_held.Notes.{IsOther}
use Rattle.xa_client_worker.specs.xa_restart.Rule.{RestartState, IsRuleOf}
use Rattle.xa_client_worker.specs.xa_server.Changes.{new_slot}
use Rattle.xa_client_worker.specs.xa_server.declared.slot.ServerSlot.{ServerSlot}
use Rattle.xa_client_worker.specs.xa_server.Served.{StarterShows}
use Rattle.xa_client_worker.proofs.xa_server.Beginning.{new_stands}
use Rattle.xa_client_worker.specs.declared.working.ClientWorker.TheVariants.{Ready}
use Rattle.xa_server_worker.specs.declared.working.ServerWorker.{ServerWorker}
use Rattle.xa_server_worker.specs.Lives.{HasStarted}
use Rattle.xa_client_worker.specs.xa_desk.declared.domain.Domain.{Domain}
use Rattle.xa_client_worker.specs.xa_desk.declared.desk.Desk.{Desk}
use Rattle.xa_client_worker.specs.xa_desk.Desks.{IsDomain, IsDesk, queue_page}
use Rattle.xa_client_worker.specs.xa_desk.Serving.{IsServing}
use Rattle.xa_boot.specs.Booting.{IsNewClient, IsNewServer}
use Rattle.xa_boot.specs.Staffing.{IsNewDesk}
use Rattle.xa_boot.specs.Supplies.{restarts_of}
use Rattle.xa_boot.proofs.Settings.{placed, good}

-- what holds of each entry holds of the one at a place
pub all-at : {X : Type 0} (P : X → Type 0) (xs : List X) (i : ℕ) (x : X) → slice_get xs i ≡ Some x → All P xs → P x
all-at P xs i x is all = subst P (get_or_from_slice_get xs i x x is) (all i x (slice_get_within xs i x is))

-- ---- a server

module _ (d : Domain) (domain : IsDomain d) (place : ℕ) (configured : ServerSetup) (stands : slice_get d.setup.servers place ≡ Some configured) (desk : Desk) (new : IsNewDesk d (d.clients + place + 1) desk) where
  numbered_is : numbered (place + 1) d.setup.servers ≡ Some configured
  numbered_is = ap (λ n. numbered n d.setup.servers) (add-one place) ∙ stands

  pub its_queue : queue_of d.setup (place + 1) ≡ queue_named d.setup configured.queue
  its_queue = ap (queue_in d.setup) numbered_is

  its_rule : IsSomeAnd (numbered (place + 1) desk.caller.work.setup.servers) (λ (server : ServerSetup). IsRuleOf server configured.restart configured.maxgen configured.grace)
  its_rule =
      let here : IsSomeAnd (numbered (place + 1) d.setup.servers) (λ (server : ServerSetup). IsRuleOf server configured.restart configured.maxgen configured.grace) =
      subst (λ o. IsSomeAnd o (λ (server : ServerSetup). IsRuleOf server configured.restart configured.maxgen configured.grace)) (sym numbered_is) (record { restart = refl; maxgen = refl; grace = refl }) in
      subst (λ (setup : Setup). IsSomeAnd (numbered (place + 1) setup.servers) (λ (server : ServerSetup). IsRuleOf server configured.restart configured.maxgen configured.grace)) (sym new.is.setup) here

  left_none : (server : ServerId) (queue : ℕ) → 0 < queue → queue < length d.setup.queues + 1 → All (IsOther server) (queue_page desk queue).own
  left_none server zero some least = absurd (omega (arith, some))
  left_none server (suc k) some least =
      let count = domain.queues in
      let none : (queue_page desk (suc k)).own ≡ [] = ap (λ n. (queue_page desk n).own) (sym (add-one k)) ∙ new.queues k (omega (arith, least, count)) in
      subst (All (IsOther server)) (sym none) (All-nil (IsOther server))

  pub is_serving : (queue : ℕ) → queue ≡ queue_named d.setup configured.queue → IsServing d queue (new_slot (record { 0 = place + 1 }) (restarts_of configured)) desk
  is_serving queue is =
      let server : ServerId = record { 0 = place + 1 } in
      let known : is_among (queue_names d.setup) configured.queue ≡ true = all-at (λ (server : ServerSetup). is_among (queue_names d.setup) server.queue ≡ true) d.setup.servers place configured stands (good d.setup domain.configured).servers in
      let on = placed d.setup configured.queue known in
      let count = domain.queues in
      let id = new.id in
      let clients = new.clients in
      record {
        stands = new_stands server (restarts_of configured) desk.caller.work (omega (arith, id, clients)) its_rule refl new.none;
        idle = new.idle;
        its = its_queue ∙ sym is;
        some = omega (arith, on.0, is);
        least = omega (arith, on.1, is, count);
        left = λ up. left_none server queue (omega (arith, on.0, is)) (omega (arith, on.1, is));
        hand = tt;
      }

  pub new_server : {L T : Type 0} (shows : T → StarterShows) (worker : ServerWorker L T) (lives : RestartState) → worker.desk ≡ desk → worker.served.slot ≡ new_slot (record { 0 = place + 1 }) lives → lives ≡ restarts_of configured
      → (shows worker.served.starter).name ≡ configured.name → HasStarted (shows worker.served.starter).name 0 0 (shows worker.served.starter) → worker.name ≡ configured.name → worker.queue.0 ≡ queue_named d.setup configured.queue
      → worker.served.lives.items ≡ [] → worker.cut ≡ None → worker.stopped ≡ None → IsNewServer d shows (place + 1) worker
  new_server shows worker lives at slot rule starter unasked name queue none uncut unstopped =
      let is : worker.served.slot ≡ new_slot (record { 0 = place + 1 }) (restarts_of configured) = slot ∙ ap (new_slot (record { 0 = place + 1 })) rule in
      record {
        may = record {
          is = subst (IsDesk d) (sym at) new.is;
          serving = subst (IsServing d worker.queue.0 worker.served.slot) (sym at) (subst (λ (s : ServerSlot). IsServing d worker.queue.0 s desk) (sym is) (is_serving worker.queue.0 queue));
          restarts = restarts_of configured;
          fresh = is ∙ ap (λ (s : ServerSlot). new_slot s.server (restarts_of configured)) (sym is);
          none = refl;
          own = ap (λ (k : Desk). k.caller.work.own) at ∙ new.none;
          lives = none;
          cut = uncut;
          stopped = unstopped;
          name_is = starter ∙ sym name;
          unasked = subst (λ n. HasStarted n 0 0 (shows worker.served.starter)) (starter ∙ sym name) unasked;
        };
        number = ap (λ (s : ServerSlot). s.server.0) is;
        id = ap (λ (k : Desk). k.caller.work.id.0) at ∙ new.id ∙ omega arith;
        clients = ap (λ (k : Desk). k.caller.work.clients) at ∙ new.clients;
      }

-- ---- a client

pub new_client : (d : Domain) (client : ℕ) (desk : Desk) → 0 < client → client < d.clients + 1 → IsNewDesk d client desk → IsNewClient d client (Ready desk)
new_client d client desk some least new =
    let id = new.id in
    let clients = new.clients in
    let first : nat_le 1 desk.caller.work.id.0 ≡ true = le-leb 1 desk.caller.work.id.0 (omega (arith, id, some)) in
    let last : nat_le desk.caller.work.id.0 desk.caller.work.clients ≡ true = le-leb desk.caller.work.id.0 desk.caller.work.clients (omega (arith, id, clients, least)) in
    (record { is = new.is; client = ap₂ (λ a b. a && b) first last; idle = new.idle; made = new.made }, new.id, new.clients, new.none)
