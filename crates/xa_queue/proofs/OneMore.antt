-- A queue reads as its events do also once one more is noted.
use Rattle.std.proofs.Common.{◌≡◌, ℕ, ◌==◌, [], ◌∷◌, map, reverse, sym, ◌∙◌, ap, subst}
use Rattle.std.specs.List.{All, list_any, IsDistinct}
use Rattle.std.proofs.lemmas.List.{map-append, reverse-append}
use Rattle.xa_types.specs.declared.ids.CallerId.{CallerId}
use Rattle.xa_types.specs.declared.stamp.Stamp.{Stamp}
use Rattle.xa_types.specs.declared.setup.Setup.{Setup}
use Rattle.xa_types.specs.Setup.{queue_of, capacity_of}
use Rattle.xa_events.specs.declared.event.Event.{Event}
use Rattle.xa_events.specs.Words.{AtEach, same_request}
use Rattle.xa_events.specs.Request.{priority_at}
use Rattle.xa_events.specs.Order.{TakesNext}
use Rattle.xa_events.specs.Homes.{home_of}
use Rattle.xa_events.specs.Homes.Home.{QueueHome}
use Rattle.xa_events.specs.Cases.{HomePart}
use Rattle.xa_events.specs.Views.{queue_view, queue_after}
use Rattle.xa_events.proofs.Owns.{queue_more}
use Rattle.xa_stamp.specs.declared.home.Stamped.{Stamped}
use Rattle.xa_lock.specs.declared.makers.Made.{Made}
use Rattle.xa_lock.specs.Makers.{noted_in}
use Rattle.xa_queue.specs.Queue.{QueueState, past_of}
use Rattle.xa_queue.specs.Changes.{noted}
use Rattle.xa_queue.specs.Reading.{IsNew, AllNew, MetIfNew, Fits, IsRead, ReadsAsNoted, view_of}

module _ {C : Type 0} where
  pub past-noted : (stamp : Stamp) (maker : CallerId) (e : Event) (left : QueueState C) → past_of (noted stamp maker e left) ≡ e ∷ past_of left
  past-noted stamp maker e left =
      let event : Stamped → Event = λ noted. noted.event in
      let bare : Made → Stamped = λ entry. entry.noted in
      let x : Stamped = record { stamp = stamp; event = e } in
      ap (λ l. reverse (map event l)) (map-append bare left.entries (record { maker = maker; noted = x } ∷ [])) ∙ ap reverse (map-append event (noted_in left.entries) (x ∷ [])) ∙ reverse-append (map event (noted_in left.entries)) (e ∷ [])

  -- what one event more asks for, which leaves the queue so
  pub record Parts (setup : Setup) (e : Event) (q left : QueueState C) : Type 0 where
    pub view : view_of left ≡ queue_after setup q.id.0 e (view_of q)
    pub stand : (clients : ℕ) → home_of setup clients e ≡ QueueHome q.id.0
    pub met : HomePart setup e (past_of q)
    pub ordered : TakesNext setup e (past_of q)
    pub priorities : All (λ entry. priority_at (e ∷ past_of q) entry.request ≡ entry.priority) left.waiting
    pub once : IsDistinct same_request (map (λ entry. entry.request) left.waiting)

  -- the same queue, but for its tables
  pub record SameQueue (q left : QueueState C) : Type 0 where
    pub id : left.id ≡ q.id
    pub capacity : left.capacity ≡ q.capacity
    pub servers : left.servers ≡ q.servers
    pub first : left.first ≡ q.first
    pub entries : left.entries ≡ q.entries

  pub past-left : (stamp : Stamp) (maker : CallerId) (e : Event) (q left : QueueState C) → SameQueue q left → past_of (noted stamp maker e left) ≡ e ∷ past_of q
  past-left stamp maker e q left same = past-noted stamp maker e left ∙ ap (λ entries. e ∷ reverse (map (λ noted. noted.event) (noted_in entries))) same.entries

  read-noted : (setup : Setup) (stamp : Stamp) (maker : CallerId) (e : Event) (q left : QueueState C) → SameQueue q left → IsRead setup q → Parts setup e q left → IsRead setup (noted stamp maker e left)
  read-noted setup stamp maker e q left same read parts =
      let past : past_of (noted stamp maker e left) ≡ e ∷ past_of q = past-left stamp maker e q left same in
      record {
        view = parts.view ∙ ap (queue_after setup q.id.0 e) read.view ∙ sym (queue_more setup q.id.0 e (past_of q)) ∙ ap (λ id. queue_view setup id.0 (e ∷ past_of q)) (sym same.id) ∙ ap (queue_view setup left.id.0) (sym past);
        stand = λ clients. subst (λ events. AtEach (λ e _. home_of setup clients e ≡ QueueHome left.id.0) events) (sym past)
            (subst (λ id. AtEach (λ e _. home_of setup clients e ≡ QueueHome id.0) (e ∷ past_of q)) (sym same.id) (parts.stand clients, read.stand clients));
        priorities = subst (λ events. All (λ entry. priority_at events entry.request ≡ entry.priority) left.waiting) (sym past) parts.priorities;
        once = parts.once;
      }

  module _ (stamp : Stamp) (maker : CallerId) (e : Event) (q left : QueueState C) (same : SameQueue q left) (reads : ReadsAsNoted q) (parts : (setup : Setup) → Fits setup q → IsNew setup q.id.0 e (past_of q) → IsRead setup q → Parts setup e q left) where
    abbrev now : QueueState C
    now = noted stamp maker e left

    past : past_of now ≡ e ∷ past_of q
    past = past-left stamp maker e q left same

    fitted : (setup : Setup) → Fits setup now → Fits setup q
    fitted setup fits = record {
      capacity = ap (λ id. capacity_of setup id.0) (sym same.id) ∙ fits.capacity ∙ same.capacity;
      servers = λ server. ap (λ id. queue_of setup server == id.0) (sym same.id) ∙ fits.servers server ∙ ap (list_any (λ own. server == own.0)) same.servers;
    }

    its : (setup : Setup) → Fits setup q → AllNew setup q.id.0 (e ∷ past_of q) → Parts setup e q left
    its setup fits new = parts setup fits new.0 (reads.reads setup fits new.1)

    here : (setup : Setup) → Fits setup q → MetIfNew setup q.id.0 e (past_of q)
    here setup fits new = let its_parts = its setup fits new in (its_parts.met, its_parts.ordered)

    pub reads-noted : ReadsAsNoted now
    reads-noted = record {
      met = λ setup fits. subst (λ id. AtEach (MetIfNew setup id.0) (past_of now)) (sym same.id) (subst (AtEach (MetIfNew setup q.id.0)) (sym past) (here setup (fitted setup fits), reads.met setup (fitted setup fits)));
      reads = λ setup fits new.
          let new' : AllNew setup q.id.0 (e ∷ past_of q) = subst (AllNew setup q.id.0) past (subst (λ id. AllNew setup id.0 (past_of now)) same.id new) in
          read-noted setup stamp maker e q left same (reads.reads setup (fitted setup fits) new'.1) (its setup (fitted setup fits) new');
    }
