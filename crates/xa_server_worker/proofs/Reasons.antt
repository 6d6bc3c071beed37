-- Why a forward fails, by what its server's worker saw.
use Rattle.std.proofs.Common.{◌≡◌, ◌⊎◌, ◌<◌, ◌≤◌, ℕ, ◌+◌, Bool, true, false, if◌then◌else◌, List, [], ◌∷◌, ◌++◌, take, append_assoc, Option, Some, None, Err, inl, inr, refl, sym, ◌∙◌, ap, subst, arith, ltb-false}
use Rattle.std.specs.Prelude.{IsSomeAnd, nat_lt, ◌&&◌, slice_get}
use Rattle.std.specs.List.{All, find}
use Rattle.std.proofs.lemmas.Bool.{and_parts}
use Rattle.std.proofs.lemmas.List.{take_all, take-take}
use Rattle.std.proofs.lemmas.List.Elements.{All-take, All-more, All-weaker}
use Rattle.std.proofs.lemmas.Option.{slice_get_cases, slice_get_within, get_or_from_slice_get}
use Rattle.xa_desk.specs.xa_types.declared.data.Data.{Data}
use Rattle.xa_desk.specs.xa_types.declared.ids.RequestId.{RequestId}
use Rattle.xa_desk.specs.xa_types.declared.ids.ServerId.{ServerId}
use Rattle.xa_desk.specs.xa_types.declared.row.Row.{Row}
use Rattle.xa_desk.specs.xa_types.declared.stamp.Stamp.{Stamp}
use Rattle.xa_desk.specs.xa_types.Found.{FoundRows}
use Rattle.xa_desk.specs.xa_types.Kind.{is_accepted, kind_of, is_sound}
use Rattle.xa_desk.specs.xa_types.Name.{is_name}
use Rattle.xa_desk.specs.xa_types.Setup.{queue_of}
use Rattle.xa_desk.specs.xa_events.declared.event.Event.{Event}
use Rattle.xa_desk.specs.xa_events.declared.event.Event.TheVariants.{Accept, Forward, End}
use Rattle.xa_desk.specs.xa_events.declared.event.Ended.{Ended}
use Rattle.xa_desk.specs.xa_events.declared.event.Outcome.{Outcome}
use Rattle.xa_desk.specs.xa_events.declared.event.Outcome.TheVariants.{BadForward}
use Rattle.xa_desk.specs.xa_events.Calls.{IsShutOut, is_accepted_by}
use Rattle.xa_desk.specs.xa_events.Homes.{is_own_at, is_take_by, of_worker}
use Rattle.xa_desk.specs.xa_events.Local.{worker_events}
use Rattle.xa_desk.specs.xa_events.Request.{is_entry_of}
use Rattle.xa_desk.specs.xa_events.State.{caller_of}
use Rattle.xa_desk.specs.xa_events.Words.{latest, count}
use Rattle.xa_desk.specs.xa_board.declared.reader.Reader.{Reader}
use Rattle.xa_desk.specs.xa_stamp.declared.home.Stamped.{Stamped}
use Rattle.xa_desk.specs.xa_worker.Finishing.{IsSpent, ForwardEndsOwn}
use Rattle.xa_desk.specs.xa_worker.Seen.{past_in, IfNew, SawSince, SawInHand}
use Rattle.xa_desk.proofs.xa_worker.Before.{take_by_worker}
use Rattle.xa_desk.proofs.xa_worker.Lists.{count_part}
use Rattle.xa_desk.specs.xa_held.Kept.{Brings}
use Rattle.xa_desk.specs.xa_queue.declared.entry.Entry.{Entry}
use Rattle.xa_desk.specs.xa_queue.declared.queue.Refusal.{Refusal}
use Rattle.xa_desk.specs.xa_queue.declared.queue.Refusal.TheVariants as refusals
use Rattle.xa_desk.specs.xa_worker.Work.{theirs}
use Rattle.xa_desk.specs.xa_caller.Drafts.{Cargo}
use Rattle.xa_desk.specs.xa_server.Forwarding.{row_or, way_of}
use Rattle.xa_desk.specs.declared.domain.Domain.{Domain}
use Rattle.xa_desk.specs.declared.desk.Desk.{Desk}
use Rattle.xa_desk.specs.Desks.{GoesOn, IsDesk, Leads}
use Rattle.xa_desk.specs.Found.{SawItsOwnAt, SawInHandAt, HasFound, ShowsWhy}
use Rattle.xa_desk.specs.Passing.{forwarded_to}
use Rattle.xa_desk.specs.Whole.{Whole, entries_of}
use Rattle.xa_desk.proofs.Preparing.{none_passes, weaker_front, listed_shows}
use Rattle.xa_desk.proofs.Staying.{itself_stays}
use Rattle.xa_server_worker.specs.Passing.{IsBy, TookNothing, WereTried, halt_by}
use Rattle.xa_server_worker.specs.Reasons.{ShowsReason}

-- a reason that was shown stays so
pub reason_led : (d : Domain) (old new : Desk) → Leads d old new → (service : List ℕ) (payload : Data) (e : Ended) (own : List Event) → ShowsReason d old service payload e own → ShowsReason d new service payload e own
reason_led d old new leads service payload e own is = record {
  front = is.front;
  stamp = is.stamp;
  rest = is.rest ++ leads.own.0;
  noted = leads.own.1 ∙ ap (λ (l : List Stamped). l ++ leads.own.0) is.noted ∙ append_assoc is.front (record { stamp = is.stamp; event = End e } ∷ is.rest) leads.own.0;
  before = is.before;
  shows = λ whole on. is.shows whole (leads.before whole on);
}

-- ---- queues that were tried

module _ (d : Domain) (old new : Desk) (leads : Leads d old new) (id : new.caller.work.id ≡ old.caller.work.id) (own : new.caller.work.own ≡ old.caller.work.own) where
  took_stays : (rows : List Row) → TookNothing d old rows → TookNothing d new rows
  took_stays rows none = All-weaker (λ (row : Row). SawItsOwnAt d row.queue.0 old (IsShutOut d.setup row.queue.0)) (λ (row : Row). SawItsOwnAt d row.queue.0 new (IsShutOut d.setup row.queue.0))
      (λ row. itself_stays d old new leads row.queue.0 (IsShutOut d.setup row.queue.0) id own) rows none

  pub tried_stays : new.reader ≡ old.reader → (n : ℕ) → WereTried d old n → WereTried d new n
  tried_stays same n tried = subst (λ (r : Reader). TookNothing d new (take n r.found.rows)) (sym same) (took_stays (take n old.reader.found.rows) tried)

pub by_stays : (old new : Desk) → new.reader ≡ old.reader → (n : ℕ) (event : Event) → IsBy old n event → IsBy new n event
by_stays old new same n event by = (by.0, ap (λ (r : Reader). slice_get r.found.rows n) same ∙ by.1, by.2)

-- a queue that refused, but not for want of memory or stamps, took nothing
shut_out : (d : Domain) (queue : ℕ) (why : Refusal) (desk : Desk) → halt_by why ≡ None → ShowsWhy d queue why desk → SawItsOwnAt d queue desk (IsShutOut d.setup queue)
shut_out d queue refusals.Down desk none shows = λ whole on stamp less. weaker_front _ stamp _ _ (λ past both. (λ new. inl (both.0 new), both.1)) (shows whole on stamp less)
shut_out d queue refusals.Closed desk none shows = λ whole on stamp less. weaker_front _ stamp _ _ (λ past both. (λ new. inr (inl (both.0 new)), both.1)) (shows whole on stamp less)
shut_out d queue (refusals.Full n) desk none shows = λ whole on stamp less. weaker_front _ stamp _ _ (λ past both. (λ new. inr (inr (both.0 new ∙ shows.1)), both.1)) (shows.2 whole on stamp less)
shut_out d queue (refusals.Worn stamp) desk none shows = absurd (cc none)
shut_out d queue refusals.NoMemory desk none shows = absurd (cc none)

-- the row at that attempt was tried, too
pub tried_more : (d : Domain) (desk : Desk) (n next : ℕ) (event : Event) (why : Refusal) → next ≤ n + 1 → IsBy desk n event → halt_by why ≡ None → ShowsWhy d (forwarded_to event) why desk → WereTried d desk n → WereTried d desk next
tried_more d desk n next event why le by none shows tried =
    let rows = desk.reader.found.rows in
    let P : Row → Type 0 = λ row. SawItsOwnAt d row.queue.0 desk (IsShutOut d.setup row.queue.0) in
    let here : P by.0 = subst (λ (k : ℕ). SawItsOwnAt d k desk (IsShutOut d.setup k)) (sym by.2) (shut_out d (forwarded_to event) why desk none shows) in
    let all : All P (take (n + 1) rows) = All-more P rows n by.0 (slice_get_within rows n by.0 by.1) tried (subst P (sym (get_or_from_slice_get rows n by.0 by.0 by.1)) here) in
    subst (All P) (take-take next (n + 1) rows le) (All-take P next (take (n + 1) rows) all)

-- all were, where there is none at that attempt
pub all_tried : (d : Domain) (desk : Desk) (n : ℕ) → slice_get desk.reader.found.rows n ≡ None → WereTried d desk n → TookNothing d desk desk.reader.found.rows
all_tried d desk n none tried =
    let rows = desk.reader.found.rows in
    subst (TookNothing d desk) (take_all n rows (elim (slice_get_cases rows n).1 [ inl low ↦ absurd (cc (sym none ∙ low.2)) | inr past ↦ past.0 ])) tried

-- ---- an end that is noted with a reason

module _ (d : Domain) (old new : Desk) (is : IsDesk d old) (leads : Leads d old new) (server : ServerId) (number : old.caller.work.clients + server.0 ≡ old.caller.work.id.0) where
  worker_is : caller_of d.clients server.0 ≡ old.caller.work.id.0
  worker_is = ap (λ n. n + server.0) (sym is.clients) ∙ number

  theirs_are : theirs old.caller.work ≡ worker_events d.clients (caller_of d.clients server.0) (past_in old.caller.work.own)
  theirs_are = ap (λ n. worker_events n old.caller.work.id.0 (past_in old.caller.work.own)) is.clients ∙ ap (λ n. worker_events d.clients n (past_in old.caller.work.own)) (sym worker_is)

  -- what was seen of a queue with all that the worker noted there was seen with all events of its own
  saw_theirs : (queue : ℕ) (P : List Event → Type 0) → SawItsOwnAt d queue old P → (whole : Whole) → GoesOn d whole old → (stamp : Stamp) → old.caller.work.stamp.0 < stamp.0
      → SawSince d.setup d.clients (entries_of whole) stamp (caller_of d.clients server.0) queue P (theirs old.caller.work)
  saw_theirs queue P saw whole on stamp less =
      let worker = caller_of d.clients server.0 in
      let past = past_in old.caller.work.own in
      let p = is_own_at d.setup d.clients worker queue in
      let same : count p past ≡ count p (theirs old.caller.work) = sym (ap (count p) theirs_are ∙ count_part p (of_worker d.clients worker) (λ e at. (and_parts _ (of_worker d.clients worker e) at).1) past) in
      weaker_front _ stamp (λ moment. IfNew d.setup queue P moment × (count p moment ≡ count p past)) (λ moment. IfNew d.setup queue P moment × (count p moment ≡ count p (theirs old.caller.work))) (λ moment both. (both.0, both.1 ∙ same))
      (subst (λ n. SawSince d.setup d.clients (entries_of whole) stamp n queue P past) (sym worker_is) (saw whole on stamp less))

  -- and so what was seen of the server's queue, with its last take
  hand_theirs : (P : List Event → Type 0) → SawInHandAt d server.0 old P → (whole : Whole) → GoesOn d whole old → (stamp : Stamp) → old.caller.work.stamp.0 < stamp.0 → SawInHand d.setup d.clients (entries_of whole) stamp server.0 P (theirs old.caller.work)
  hand_theirs P saw whole on stamp less =
      let past = past_in old.caller.work.own in
      let queue = queue_of d.setup server.0 in
      let p = is_take_by server.0 in
      let same : count p past ≡ count p (theirs old.caller.work) = sym (ap (count p) theirs_are ∙ count_part p (of_worker d.clients (caller_of d.clients server.0)) (take_by_worker d.clients server.0) past) in
      weaker_front _ stamp (λ moment. IfNew d.setup queue P moment × (count p moment ≡ count p past)) (λ moment. IfNew d.setup queue P moment × (count p moment ≡ count p (theirs old.caller.work))) (λ moment both. (both.0, both.1 ∙ same))
      (saw whole on stamp less)

  abbrev Shown : List ℕ → Data → Ended → Outcome → Type 0
  Shown service payload e outcome = (whole : Whole) → GoesOn d whole old → (stamp : Stamp) → old.caller.work.stamp.0 < stamp.0 → ForwardEndsOwn d.setup d.clients (entries_of whole) stamp service payload e outcome (theirs old.caller.work)

  pub shows_reason : (service : List ℕ) (payload : Data) (e : Ended) (outcome : Outcome) (stamp : Stamp) → e.server ≡ server → e.outcome ≡ outcome → old.caller.work.stamp.0 < stamp.0 → new.caller.work.own ≡ old.caller.work.own ++ record { stamp = stamp; event = End e } ∷ []
      → Shown service payload e outcome → ShowsReason d new service payload e (theirs old.caller.work)
  shows_reason service payload e outcome stamp its ends less noted shown = record {
    front = old.caller.work.own;
    stamp = stamp;
    rest = [];
    noted = noted;
    before = theirs_are ∙ ap (λ (s : ServerId). worker_events d.clients (caller_of d.clients s.0) (past_in old.caller.work.own)) (sym its);
    shows = λ whole on. subst (λ (o : Outcome). ForwardEndsOwn d.setup d.clients (entries_of whole) stamp service payload e o (theirs old.caller.work)) (sym ends) (shown whole (leads.before whole on) stamp less);
  }

  module _ (service : List ℕ) (payload : Data) (e : Ended) (its : e.server ≡ server) where
    caller_is : caller_of d.clients server.0 ≡ caller_of d.clients e.server.0
    caller_is = ap (λ (s : ServerId). caller_of d.clients s.0) (sym its)

    -- each queue took nothing
    pub shut_shown : HasFound d service old.reader.found old → TookNothing d old old.reader.found.rows → Shown service payload e (BadForward old.reader.found.version)
    shut_shown has none whole on stamp less =
        let P : ℕ → Row → Type 0 = λ worker row. SawSince d.setup d.clients (entries_of whole) stamp worker row.queue.0 (IsShutOut d.setup row.queue.0) (theirs old.caller.work) in
        let rows = old.reader.found.rows in
        let all : All (P (caller_of d.clients server.0)) rows = All-weaker (λ (row : Row). SawItsOwnAt d row.queue.0 old (IsShutOut d.setup row.queue.0)) (P (caller_of d.clients server.0)) (λ row saw. saw_theirs row.queue.0 (IsShutOut d.setup row.queue.0) saw whole on stamp less) rows none in
        inr (has.booted, listed_shows d old.reader.found service old (λ rows. (is_accepted_by d.setup payload rows ≡ false) ⊎ All (P (caller_of d.clients e.server.0)) rows) has (inr (subst (λ n. All (P n) rows) caller_is all)) whole on stamp less)

    -- none accepts the data, or the frame or the request decided
    pub way_shown : (entry : Entry Cargo) (named : ℕ) → e.request ≡ entry.request → SawInHandAt d server.0 old (λ past. IsSomeAnd (latest (is_entry_of entry.request) past) (Brings entry.request entry.cargo.invocation))
        → (is_name service ≡ true → HasFound d service old.reader.found old) → way_of d.setup service payload entry.cargo.invocation.hop old.reader.found ≡ Err named → Shown service payload e (BadForward named)
    way_shown entry named request last has way =
        by (is_name service) (is_sound d.setup payload) (nat_lt entry.cargo.invocation.hop 32) refl refl refl way
      where
        found : FoundRows
        found = old.reader.found

        at_least : nat_lt entry.cargo.invocation.hop 32 ≡ false → 32 ≤ entry.cargo.invocation.hop
        at_least few = ltb-false entry.cargo.invocation.hop 32 few

        by_row : (row : Option Row) → find (λ (r : Row). is_accepted d.setup r.accepts (kind_of payload)) found.rows ≡ row → is_name service ≡ true → row_or found.version row ≡ Err named → Shown service payload e (BadForward named)
        by_row (Some row) here name is = absurd (cc is)
        by_row None here name is = λ whole on stamp less.
            let it = has name in
            let P : List Row → Type 0 = λ rows. (is_accepted_by d.setup payload rows ≡ false) ⊎ All (λ (row : Row). SawSince d.setup d.clients (entries_of whole) stamp (caller_of d.clients e.server.0) row.queue.0 (IsShutOut d.setup row.queue.0) (theirs old.caller.work)) rows in
            let same : found.version ≡ named = cc is in
            subst (λ v. ForwardEndsOwn d.setup d.clients (entries_of whole) stamp service payload e (BadForward v) (theirs old.caller.work)) same
            (inr (it.booted, listed_shows d found service old P it (inl (none_passes (λ (r : Row). is_accepted d.setup r.accepts (kind_of payload)) found.rows here)) whole on stamp less))

        spent : (o : Option Event) → 32 ≤ entry.cargo.invocation.hop → IsSomeAnd o (Brings entry.request entry.cargo.invocation) → IsSomeAnd o IsSpent
        spent None many brings = absurd brings
        spent (Some (Accept a)) many brings = absurd (omega (arith, many, brings.5))
        spent (Some (Forward f)) many brings = omega (arith, many, brings.4)
        spent (Some _) many brings = absurd brings

        saw_spent : 32 ≤ entry.cargo.invocation.hop → (whole : Whole) → GoesOn d whole old → (stamp : Stamp) → old.caller.work.stamp.0 < stamp.0
            → SawInHand d.setup d.clients (entries_of whole) stamp e.server.0 (λ past. IsSomeAnd (latest (is_entry_of e.request) past) IsSpent) (theirs old.caller.work)
        saw_spent many whole on stamp less =
            let Saw : ServerId → RequestId → Type 0 = λ s request. SawInHand d.setup d.clients (entries_of whole) stamp s.0 (λ past. IsSomeAnd (latest (is_entry_of request) past) IsSpent) (theirs old.caller.work) in
            let here : Saw server entry.request = weaker_front _ stamp _ _ (λ past both. (λ new. spent (latest (is_entry_of entry.request) past) many (both.0 new), both.1)) (hand_theirs _ last whole on stamp less) in
            subst (λ s. Saw s e.request) (sym its) (subst (Saw server) (sym request) here)

        by : (name sound few : Bool) → is_name service ≡ name → is_sound d.setup payload ≡ sound → nat_lt entry.cargo.invocation.hop 32 ≡ few
            → (if name && sound && few then row_or found.version (find (λ (r : Row). is_accepted d.setup r.accepts (kind_of payload)) found.rows) else Err 0) ≡ Err named → Shown service payload e (BadForward named)
        by true true true name sound few is = by_row (find (λ (r : Row). is_accepted d.setup r.accepts (kind_of payload)) found.rows) refl name is
        by false sounds low name sound few is = λ whole on stamp less. inl (cc is, inl (inl name))
        by true false low name sound few is = λ whole on stamp less. inl (cc is, inl (inr (inl sound)))
        by true true false name sound few is = λ whole on stamp less. inl (cc is, inr (saw_spent (at_least few) whole on stamp less))
