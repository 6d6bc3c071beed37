-- An entry comes in: the queue reads as its events do with an accept or a forward more.
use Rattle.std.proofs.Common.{◌≡◌, ◌<◌, ◌≤◌, ◌^◌, ◌==◌, inl, inr, Bool, true, false, cond, List, [], ◌∷◌, ◌++◌, length, get_or, map, Some, None, refl, sym, ◌∙◌, ap, subst, arith, eq-eqb}
use Rattle.std.specs.Prelude.{if◌then◌else◌, IfSome}
use Rattle.std.specs.List.{All, list_any, IsDistinct}
use Rattle.std.proofs.lemmas.Bool.{cases_Bool, eqb-false}
use Rattle.std.proofs.lemmas.List.{map-append, length-map}
use Rattle.std.proofs.lemmas.List.Elements.{All-push}
use Rattle.xa_types.specs.declared.stamp.Stamp.{Stamp}
use Rattle.xa_types.specs.declared.ids.RequestId.{RequestId}
use Rattle.xa_types.specs.declared.ids.QueueId.{QueueId}
use Rattle.xa_types.specs.declared.setup.Setup.{Setup}
use Rattle.xa_events.specs.declared.event.Event.{Event}
use Rattle.xa_events.specs.declared.event.Event.TheVariants.{Accept, Forward}
use Rattle.xa_events.specs.Words.{has, same_request, latest, added}
use Rattle.xa_events.specs.Queue.{waiting}
use Rattle.xa_events.specs.Request.{is_entry_of, priority_in, priority_at}
use Rattle.xa_events.specs.Homes.Home.{QueueHome}
use Rattle.xa_events.specs.Cases.{EntryHome}
use Rattle.xa_events.specs.Views.{QueueView}
use Rattle.xa_events.proofs.WordsLemmas.{same_request_of}
use Rattle.xa_queue.specs.declared.entry.Entry.{Entry}
use Rattle.xa_queue.specs.Queue.{QueueState, past_of}
use Rattle.xa_queue.specs.declared.queue.Refusal.TheVariants as refusals
use Rattle.xa_queue.specs.Changes.{IsEntry, larger, put_refused, with_entry}
use Rattle.xa_queue.specs.Reading.{IsNew, Fits, IsRead, view_of}
use Rattle.xa_queue.proofs.Waiting.{same_request-flips, none_of, list_any-map, IsDistinct-one_more}
use Rattle.xa_queue.proofs.OneMore.{Parts}

module _ {C : Type 0} where
  abbrev request_of : Entry C → RequestId
  request_of entry = entry.request

  -- the queue takes one more
  pub record IsOpen (q : QueueState C) : Type 0 where
    pub up : q.down ≡ false
    pub open' : q.closed ≡ false
    pub room : length q.waiting < q.capacity

  enter_home : (setup : Setup) (q : QueueState C) (queue : QueueId) → queue ≡ q.id → Fits setup q → IsOpen q → IsRead setup q → EntryHome setup queue.0 (past_of q)
  enter_home setup q queue same fits free read =
      let waits : length (waiting setup q.id.0 (past_of q)) ≡ length q.waiting = ap (λ view. length view.waiting) (sym read.view) ∙ length-map q.waiting request_of in
      subst (λ id. EntryHome setup id.0 (past_of q)) (sym same) (record {
        not_down = ap (λ view. view.down) (sym read.view) ∙ free.up;
        not_closed = ap (λ view. view.closed) (sym read.view) ∙ free.open';
        room = let room = free.room in let fit = fits.capacity in omega (arith, waits, room, fit);
      })

  -- the others wait with the same priorities, and the new one with its own
  enter_priorities : (past : List Event) (e : Event) (entry : Entry C) (waits : List (Entry C)) → ((r : RequestId) → is_entry_of r e ≡ same_request entry.request r) → priority_in (Some e) ≡ entry.priority
      → All (λ x. same_request entry.request x.request ≡ false) waits → All (λ x. priority_at past x.request ≡ x.priority) waits → All (λ x. priority_at (e ∷ past) x.request ≡ x.priority) (waits ++ entry ∷ [])
  unfolding priority_at
  enter_priorities past e entry waits enters own apart priorities =
      let P : Entry C → Type 0 = λ x. priority_in (latest (is_entry_of x.request) (e ∷ past)) ≡ x.priority in
      let old : All P waits = λ k d within.
      let other = apart k d within in
      let is = priorities k d within in
      ap (λ b. priority_in (cond b (Some e) (latest (is_entry_of (get_or waits k d).request) past))) (enters (get_or waits k d).request ∙ other) ∙ is in
      let new : P entry = ap (λ b. priority_in (cond b (Some e) (latest (is_entry_of entry.request) past))) (enters entry.request ∙ same_request_of entry.request entry.request refl) ∙ own in
      All-push P waits entry old new

  apart_of : (setup : Setup) (q : QueueState C) (request : RequestId) → IsRead setup q → has request (waiting setup q.id.0 (past_of q)) ≡ false → list_any (same_request request) (map request_of q.waiting) ≡ false
  apart_of setup q request read new = ap (λ view. has request view.waiting) read.view ∙ new

  -- one request more in the view
  enter_view : (q : QueueState C) (entry : Entry C) (request : RequestId) (queue : QueueId) → request ≡ entry.request → queue ≡ q.id
      → view_of (with_entry entry q) ≡ record (view_of q) { waiting = added (if queue.0 == q.id.0 then Some request else None) (map request_of q.waiting) }
  enter_view q entry request queue same here =
      let view : List RequestId → QueueView = λ waits. record (view_of q) { waiting = waits } in
      let on : (queue.0 == q.id.0) ≡ true = eq-eqb queue.0 q.id.0 (ap (λ id. id.0) here) in
      ap view (map-append request_of q.waiting (entry ∷ []) ∙ ap (λ r. map request_of q.waiting ++ r ∷ []) (sym same))
      ∙ ap (λ b. view (added (if b then Some request else None) (map request_of q.waiting))) (sym on)

  -- the request is new
  is_new : (setup : Setup) (q : QueueState C) (entry : Entry C) (request : RequestId) (queue : QueueId) → request ≡ entry.request → queue ≡ q.id → IsRead setup q
      → IfSome (if queue.0 == q.id.0 then Some request else None) (λ r. has r (waiting setup q.id.0 (past_of q)) ≡ false) → list_any (same_request entry.request) (map request_of q.waiting) ≡ false
  is_new setup q entry request queue same here read new =
      let on : (queue.0 == q.id.0) ≡ true = eq-eqb queue.0 q.id.0 (ap (λ id. id.0) here) in
      let N : RequestId → Type 0 = λ r. has r (waiting setup q.id.0 (past_of q)) ≡ false in
      let fresh : N request = subst (λ b. IfSome (if b then Some request else None) N) on new in
      apart_of setup q entry.request read (subst N same fresh)

  pub entered : (setup : Setup) (q : QueueState C) (e : Event) (entry : Entry C) → IsEntry q.id entry e → Fits setup q → IsOpen q → IsNew setup q.id.0 e (past_of q) → IsRead setup q → Parts setup e q (with_entry entry q)
  entered setup q (Accept a) entry its fits free new read =
      let none = is_new setup q entry a.request a.queue its.0 its.1 read new in
      record {
        view = enter_view q entry a.request a.queue its.0 its.1;
        stand = λ clients. ap (λ id. QueueHome id.0) its.1;
        met = enter_home setup q a.queue its.1 fits free read;
        ordered = tt;
        priorities = enter_priorities (past_of q) (Accept a) entry q.waiting (λ r. ap (λ x. same_request x r) its.0) its.2 (none_of (λ x. same_request entry.request x.request) q.waiting (sym (list_any-map (same_request entry.request) request_of q.waiting) ∙ none)) read.priorities;
        once = subst (IsDistinct same_request) (sym (map-append request_of q.waiting (entry ∷ []))) (IsDistinct-one_more same_request same_request-flips (map request_of q.waiting) entry.request read.once none);
      }
  entered setup q (Forward f) entry its fits free new read =
      let none = is_new setup q entry f.request f.queue its.0 its.1 read new in
      record {
        view = enter_view q entry f.request f.queue its.0 its.1;
        stand = λ clients. ap (λ id. QueueHome id.0) its.1;
        met = enter_home setup q f.queue its.1 fits free read;
        ordered = tt;
        priorities = enter_priorities (past_of q) (Forward f) entry q.waiting (λ r. ap (λ x. same_request x r) its.0) its.2 (none_of (λ x. same_request entry.request x.request) q.waiting (sym (list_any-map (same_request entry.request) request_of q.waiting) ∙ none)) read.priorities;
        once = subst (IsDistinct same_request) (sym (map-append request_of q.waiting (entry ∷ []))) (IsDistinct-one_more same_request same_request-flips (map request_of q.waiting) entry.request read.once none);
      }
  entered setup q _ entry its fits free new read = absurd its

  -- where a put isn't refused
  pub is_open : (seen : Stamp) (q : QueueState C) → length q.waiting ≤ q.capacity → put_refused seen q ≡ None → IsOpen q
  is_open seen q few allowed = by seen q few q.down refl q.closed refl allowed
    where
      by : (seen : Stamp) (q : QueueState C) → length q.waiting ≤ q.capacity → (b : Bool) → q.down ≡ b → (d : Bool) → q.closed ≡ d
          → (if b then Some refusals.Down else (if d then Some refusals.Closed else (if length q.waiting == q.capacity then Some (refusals.Full (length q.waiting)) else (if larger seen q == 2 ^ 63 then Some (refusals.Worn (record { 0 = 2 ^ 63 })) else None)))) ≡ None
          → IsOpen q
      by seen q few true is d is' allowed = absurd (cc allowed)
      by seen q few false is true is' allowed = absurd (cc allowed)
      by seen q few false is false is' allowed =
          elim (cases_Bool (length q.waiting == q.capacity)) [
            | inl full ↦
                let some = sym (ap (λ b. if b then Some (refusals.Full (length q.waiting)) else (if larger seen q == 2 ^ 63 then Some (refusals.Worn (record { 0 = 2 ^ 63 })) else None)) full) ∙ allowed in
                absurd (cc some)
            | inr room ↦ record { up = is; open' = is'; room = let apart = eqb-false (length q.waiting) q.capacity room in grind (arith, apart, few) }
          ]
