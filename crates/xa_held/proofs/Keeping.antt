-- A queue under a lock stays as it is kept.
use Rattle.std.proofs.Common.{if◌then◌else◌, ◌≡◌, ℕ, ◌+◌, ◌<◌, ◌==◌, ◌||◌, Bool, true, false, cond, List, [], ◌∷◌, ◌++◌, map, length, get_or, Result, Ok, Err, Option, Some, None, IfOk, IfErr, OnErr, MatchOption, inl, inr, refl, sym, ap, ◌∙◌, subst, append-nil, eq-eqb, ne_eqb}
use Rattle.std.specs.Prelude.{IsSomeAnd, IfSome}
use Rattle.std.specs.List.{All, flat_map}
use Rattle.std.proofs.lemmas.Bool.{cases_Bool, true≢false}
use Rattle.std.proofs.lemmas.List.Elements.{All-push, All-head, All-tail, All-weaker, Contains-push, Contains-append_left}
use Rattle.std.proofs.lemmas.List.Folds.{list_any-append}
use Rattle.xa_types.specs.declared.ids.CallerId.{CallerId}
use Rattle.xa_types.specs.declared.ids.QueueId.{QueueId}
use Rattle.xa_types.specs.declared.ids.RequestId.{RequestId}
use Rattle.xa_types.specs.declared.ids.ServerId.{ServerId}
use Rattle.xa_types.specs.declared.ids.Generation.{Generation}
use Rattle.xa_types.specs.declared.stamp.Stamp.{Stamp}
use Rattle.xa_types.specs.declared.stamp.Worn.{Worn}
use Rattle.xa_types.specs.declared.setup.Setup.{Setup}
use Rattle.xa_events.specs.declared.event.Event.{Event}
use Rattle.xa_events.specs.declared.event.Event.TheVariants.{Accept, Forward, Gone}
use Rattle.xa_events.specs.Words.{has, latest, same_request}
use Rattle.xa_events.specs.Queue.{comes_in, waiting}
use Rattle.xa_events.specs.Request.{is_entry_of}
use Rattle.xa_events.proofs.WordsLemmas.{latest_yes, latest_no, same_request_of}
use Rattle.xa_stamp.specs.declared.home.Stamped.{Stamped}
use Rattle.xa_stamp.specs.declared.told.Noted.{Noted}
use Rattle.xa_lock.specs.declared.makers.Made.{Made}
use Rattle.xa_lock.specs.Pages.{entries_by}
use Rattle.xa_lock.specs.Makers.{noted_in}
use Rattle.xa_queue.specs.declared.entry.Entry.{Entry}
use Rattle.xa_queue.specs.declared.told.GivenUp.{GivenUp}
use Rattle.xa_queue.specs.declared.told.Outgoing.{Outgoing}
use Rattle.xa_queue.specs.declared.queue.PutRefused.{PutRefused}
use Rattle.xa_queue.specs.declared.queue.Taken.{Taken}
use Rattle.xa_queue.specs.declared.queue.Taken.TheVariants.{Request, Empty, Closed}
use Rattle.xa_queue.specs.Queue.{QueueState, IsSound, gives_up, has_server, past_of}
use Rattle.xa_queue.specs.Reading.{AllNew, Fits, IsNew, IsRead, ReadsAsNoted}
use Rattle.xa_queue.specs.Changes.{noted, Notes, NotesAs, IsWorn, IsEntry, with_entry, with_gone, TakesAs, Sweeps, IsSwept}
use Rattle.xa_queue.proofs.Keeping.{All-without}
use Rattle.xa_queue.proofs.OneMore.{past-noted}
use Rattle.xa_queue.proofs.Waiting.{none_of, list_any-map}
use Rattle.xa_held.specs.declared.cargo.Cargo.{Cargo}
use Rattle.xa_held.specs.declared.kept_queue.QueueNote.{QueueNote}
use Rattle.xa_held.specs.declared.kept_queue.QueueNote.TheVariants.{By}
use Rattle.xa_held.specs.declared.kept_queue.KeptQueue.TheInside.{Inside}
use Rattle.xa_held.specs.Notes.{one, maker_of, gives_itself_up, IsOwn, IsOther}
use Rattle.xa_held.specs.Kept.{Kept, IsRight, Brings, IsBrought, IsSentLast, setting_of, notes_of, Becomes}
use Rattle.xa_held.specs.Inner.{kept_of, IsKept}
use Rattle.xa_held.specs.Steps.{TookAs}

abbrev note : {A : Type 0} → Made → QueueNote A
note {A} = λ m. By m

-- ---- a server that its own worker didn't give up is left

All-cond : {X : Type 0} (P : X → Type 0) (b : Bool) (x : X) (xs : List X) → All P (cond b (x ∷ xs) xs) → All P xs
All-cond P true x xs all = All-tail P x xs all
All-cond P false x xs all = all

module _ (clients : ℕ) (server : ServerId) (maker : ℕ) (ours : maker ≡ clients + server.0) where
  -- an event of another worker gives another server up, or none
  other_maker : (other : ℕ) (e : Event) → (other ≡ maker → ⊥) → gives_itself_up clients other e → has_server server (gives_up e) ≡ false
  other_maker other (Gone s) apart its = ap (λ b. b || false) (ne_eqb server.0 s.0 (λ (same : server.0 ≡ s.0). apart (its ∙ ap (λ n. clients + n) (sym same) ∙ sym ours)))
  other_maker other _ apart its = refl

  module _ {A : Type 0} where
    not_given_up : (entries : List Made) → All (IsOwn clients) entries → All (IsOther server) (entries_by maker_of maker (map (note {A = A}) entries))
        → has_server server (flat_map gives_up (map (λ (noted : Stamped). noted.event) (noted_in entries))) ≡ false
    not_given_up [] own others = refl
    not_given_up (m ∷ rest) own others =
        let P : QueueNote A → Type 0 = IsOther server in
        let e = m.noted.event in
        let behind : List (QueueNote A) = entries_by maker_of maker (map (note {A = A}) rest) in
        let later = not_given_up rest (All-tail (IsOwn clients) m rest own) (All-cond P (m.maker.0 == maker) (note {A = A} m) behind others) in
        let here : has_server server (gives_up e) ≡ false = elim (cases_Bool (m.maker.0 == maker)) [
          | inl so ↦ All-head P (note {A = A} m) behind (subst (λ (b : Bool). All P (cond b (note {A = A} m ∷ behind) behind)) so others)
          | inr not_so ↦ other_maker m.maker.0 e (λ (same : m.maker.0 ≡ maker). true≢false (sym (eq-eqb m.maker.0 maker same) ∙ not_so)) (All-head (IsOwn clients) m rest own)
        ] in
        list_any-append (λ (s : ServerId). server.0 == s.0) (gives_up e) (flat_map gives_up (map (λ (noted : Stamped). noted.event) (noted_in rest))) ∙ ap (λ b. b || has_server server (flat_map gives_up (map (λ (noted : Stamped). noted.event) (noted_in rest)))) here ∙ later

module _ {A : Type 0} where
  -- a server is left at the queue, by what stands there
  pub is_left : (k : Kept A) (server : ServerId) (maker : ℕ) → maker ≡ k.clients + server.0 → All (IsOwn k.clients) k.queue.entries → IsSound k.queue → All (IsOther server) (entries_by maker_of maker (notes_of k)) → has_server server k.queue.gone ≡ false
  is_left k server maker ours own sound others =
      ap (has_server server) sound.given_up ∙ not_given_up k.clients server maker ours k.queue.entries own (All-cond (IsOther server) (0 == maker) _ (entries_by maker_of maker (map (note {A = A}) k.queue.entries)) others)

  module _ (k : Inside A) where
    abbrev inside : QueueState (Cargo A) → Inside A
    inside q = record { queue = q; clients = k.clients; cells = k.cells }

    abbrev Right : Entry (Cargo A) → Type 0
    Right entry = IsRight k.cells.value entry

    abbrev Brought : Entry (Cargo A) → Type 0
    Brought entry = IsBrought k.queue.entries entry

    same_kept : (new : QueueState (Cargo A)) → new ≡ k.queue → IsKept k → IsKept (inside new)
    same_kept new same i = subst (λ (q : QueueState (Cargo A)). IsKept (inside q)) (sym same) (record { right = i.right; brought = i.brought; last = i.last; owners = i.owners })

    stays : (new : QueueState (Cargo A)) {Holds : Kept A → Type 0} → new ≡ k.queue → Holds (kept_of k) → Becomes (kept_of k) (kept_of (inside new)) [] (λ old new. (new ≡ old) × Holds old)
    stays new {Holds} same holds =
        let whole : QueueState (Cargo A) → Kept A = λ q. kept_of (inside q) in
        record { setting = ap (λ q. setting_of (whole q)) same; entries = ap (λ (q : QueueState (Cargo A)). q.entries) same ∙ sym (append-nil k.queue.entries); how = (ap whole same, holds) }

    module _ (seen : Stamp) (maker : CallerId) where
      -- what stood there before an event stands there behind it
      still : (stamp : Stamp) (event : Event) (waiting : List (Entry (Cargo A))) → All Brought waiting → All (IsBrought (k.queue.entries ++ one maker stamp event)) waiting
      still stamp event waiting all = All-weaker Brought (IsBrought (k.queue.entries ++ one maker stamp event))
          (λ entry b. record { entry_is = b.entry_is; stands = Contains-append_left k.queue.entries (one maker stamp event) b.entry_is b.stands; brings = b.brings }) waiting all

      -- the queue with what is left of it
      abbrev moved : QueueState (Cargo A) → QueueState (Cargo A)
      moved left = record k.queue { waiting = left.waiting; takes = left.takes; down = left.down; closed = left.closed; gone = left.gone }

      -- what a setup says behind one more event, by what it says of the queue before
      behind : (stamp : Stamp) (e : Event) (left : QueueState (Cargo A)) (x : Entry (Cargo A))
          → ((setup : Setup) → Fits setup k.queue → AllNew setup k.queue.id.0 (e ∷ past_of k.queue) → IsSomeAnd (latest (is_entry_of x.request) (e ∷ past_of k.queue)) (Brings x.request x.cargo.invocation)) → IsSentLast (noted stamp maker e (moved left)) x
      behind stamp e left x says setup fits new =
          let past : past_of (noted stamp maker e (moved left)) ≡ e ∷ past_of k.queue = past-noted stamp maker e (moved left) in
          subst (λ (p : List Event). IsSomeAnd (latest (is_entry_of x.request) p) (Brings x.request x.cargo.invocation)) (sym past) (says setup (record { capacity = fits.capacity; servers = fits.servers }) (subst (AllNew setup k.queue.id.0) past new))

      -- an event that doesn't send its request leaves an entry as it was sent last
      still_last : (stamp : Stamp) (e : Event) (left : QueueState (Cargo A)) (x : Entry (Cargo A)) → ((setup : Setup) → Fits setup k.queue → AllNew setup k.queue.id.0 (e ∷ past_of k.queue) → is_entry_of x.request e ≡ false) → IsSentLast k.queue x
          → IsSentLast (noted stamp maker e (moved left)) x
      still_last stamp e left x other last = behind stamp e left x (λ setup fits new. subst (λ (o : Option Event). IsSomeAnd o (Brings x.request x.cargo.invocation)) (sym (latest_no (is_entry_of x.request) e (past_of k.queue) (other setup fits new))) (last setup fits new.1))

      all_last : (stamp : Stamp) (e : Event) (left : QueueState (Cargo A)) → ((r : RequestId) → is_entry_of r e ≡ false) → All (IsSentLast k.queue) left.waiting → All (IsSentLast (noted stamp maker e (moved left))) left.waiting
      all_last stamp e left other last = All-weaker (IsSentLast k.queue) (IsSentLast (noted stamp maker e (moved left))) (λ x was. still_last stamp e left x (λ setup fits new. other x.request) was) left.waiting last

      one_kept : (stamp : Stamp) (event : Event) (left new : QueueState (Cargo A)) → Notes seen maker stamp event left new k.queue → left ≡ moved left → All Right left.waiting → All (IsBrought (k.queue.entries ++ one maker stamp event)) left.waiting → All (IsSentLast (noted stamp maker event (moved left))) left.waiting
          → gives_itself_up k.clients maker.0 event → IsKept k → IsKept (inside new)
      one_kept stamp event left new n same right brought last own i = subst (λ (q : QueueState (Cargo A)). IsKept (inside q)) (sym n.made) (subst (λ (l : QueueState (Cargo A)). IsKept (inside (noted stamp maker event l))) (sym same) (record {
        right = right;
        brought = brought;
        last = last;
        owners = All-push (IsOwn k.clients) k.queue.entries (record { maker = maker; noted = record { stamp = stamp; event = event } }) i.owners own;
      }))

      -- where none comes and none leaves
      pub quiet_kept : (noted : Noted) (event : Event) (left new : QueueState (Cargo A)) → NotesAs seen maker noted event left new k.queue → left ≡ moved left → left.waiting ≡ k.queue.waiting → ((r : RequestId) → is_entry_of r event ≡ false) → gives_itself_up k.clients maker.0 event → IsKept k → IsKept (inside new)
      quiet_kept noted event left new n same waits other own i =
          one_kept noted.stamp event left new n.notes same (subst (All Right) (sym waits) i.right) (still noted.stamp event left.waiting (subst (All Brought) (sym waits) i.brought)) (all_last noted.stamp event left other (subst (All (IsSentLast k.queue)) (sym waits) i.last)) own i

      -- which request the event of an entry sends, and that it gives no server up
      enters : (id : QueueId) (entry : Entry (Cargo A)) (e : Event) → IsEntry id entry e → (comes_in id.0 e ≡ Some entry.request) × ((r : RequestId) → is_entry_of r e ≡ same_request entry.request r) × gives_itself_up k.clients maker.0 e
      enters id entry (Accept a) its = (ap (λ (b : Bool). if b then Some a.request else None) (eq-eqb a.queue.0 id.0 (ap (λ (q : QueueId). q.0) its.1)) ∙ ap Some its.0, λ r. ap (λ (s : RequestId). same_request s r) its.0, tt)
      enters id entry (Forward f) its = (ap (λ (b : Bool). if b then Some f.request else None) (eq-eqb f.queue.0 id.0 (ap (λ (q : QueueId). q.0) its.1)) ∙ ap Some its.0, λ r. ap (λ (s : RequestId). same_request s r) its.0, tt)
      enters id entry _ its = absurd its

      -- a new request is that of no entry that waits
      apart : (setup : Setup) (entry : Entry (Cargo A)) (e : Event) → IsEntry k.queue.id entry e → IsRead setup k.queue → IsNew setup k.queue.id.0 e (past_of k.queue) → All (λ (x : Entry (Cargo A)). is_entry_of x.request e ≡ false) k.queue.waiting
      apart setup entry e its read new =
          let sends = enters k.queue.id entry e its in
          let none : has entry.request (map (λ (x : Entry (Cargo A)). x.request) k.queue.waiting) ≡ false =
          ap (λ view. has entry.request view.waiting) read.view ∙ subst (λ (o : Option RequestId). IfSome o (λ r. has r (waiting setup k.queue.id.0 (past_of k.queue)) ≡ false)) sends.0 new in
          All-weaker (λ (x : Entry (Cargo A)). same_request entry.request x.request ≡ false) (λ (x : Entry (Cargo A)). is_entry_of x.request e ≡ false) (λ x far. sends.1 x.request ∙ far) k.queue.waiting
          (none_of (λ (x : Entry (Cargo A)). same_request entry.request x.request) k.queue.waiting (sym (list_any-map (same_request entry.request) (λ (x : Entry (Cargo A)). x.request) k.queue.waiting) ∙ none))

      put_last : (stamp : Stamp) (event : Event) (entry : Entry (Cargo A)) → IsEntry k.queue.id entry event → Brings entry.request entry.cargo.invocation event → ReadsAsNoted k.queue → All (IsSentLast k.queue) k.queue.waiting
          → All (IsSentLast (noted stamp maker event (with_entry entry k.queue))) (k.queue.waiting ++ entry ∷ [])
      put_last stamp event entry its brings reads last =
          let left = with_entry entry k.queue in
          let here = (enters k.queue.id entry event its).1 entry.request ∙ same_request_of entry.request entry.request refl in
          All-push (IsSentLast (noted stamp maker event left)) k.queue.waiting entry
          (λ n d within. still_last stamp event left (get_or k.queue.waiting n d) (λ setup fits new. apart setup entry event its (reads.reads setup fits new.1) new.0 n d within) (last n d within))
          (behind stamp event left entry (λ setup fits new. subst (λ (o : Option Event). IsSomeAnd o (Brings entry.request entry.cargo.invocation)) (sym (latest_yes (is_entry_of entry.request) event (past_of k.queue) here)) brings))

      pub put_kept : (event : Event) (entry : Entry (Cargo A)) (r : Result Stamp (PutRefused (Cargo A))) (new : QueueState (Cargo A)) → IsEntry k.queue.id entry event → Right entry → Brings entry.request entry.cargo.invocation event → ReadsAsNoted k.queue
          → IfOk r (λ stamp. Notes seen maker stamp event (with_entry entry k.queue) new k.queue) → OnErr r (new ≡ k.queue) → IsKept k → IsKept (inside new)
      put_kept event entry (Ok stamp) new its right brings reads n same i =
          let m : Made = record { maker = maker; noted = record { stamp = stamp; event = event } } in
          one_kept stamp event (with_entry entry k.queue) new n refl (All-push Right k.queue.waiting entry i.right right)
          (All-push (IsBrought (k.queue.entries ++ one maker stamp event)) k.queue.waiting entry (still stamp event k.queue.waiting i.brought) (record { entry_is = m; stands = Contains-push k.queue.entries m; brings = brings }))
          (put_last stamp event entry its brings reads i.last) (enters k.queue.id entry event its).2 i
      put_kept event entry (Err back) new its right brings reads n same i = same_kept new same i

      module _ (server : ServerId) (generation : Generation) where
        pub take_kept : (r : Result (Taken (Cargo A)) Worn) (new : QueueState (Cargo A)) → IfOk r (λ taken. TakesAs seen maker server generation taken new k.queue) → IfErr r (λ worn. IsWorn seen worn new k.queue) → IsKept k → IsKept (inside new)
        take_kept (Ok (Request out)) new n w i = one_kept out.noted.stamp _ (record k.queue { waiting = n.front ++ n.back; takes = k.queue.takes + 1 }) new n.noted.notes refl (All-without Right n.front out.entry n.back (subst (All Right) n.waited i.right)) (still out.noted.stamp _ (n.front ++ n.back) (All-without Brought n.front out.entry n.back (subst (All Brought) n.waited i.brought)))
            (all_last out.noted.stamp _ (record k.queue { waiting = n.front ++ n.back; takes = k.queue.takes + 1 }) (λ r. refl) (All-without (IsSentLast k.queue) n.front out.entry n.back (subst (All (IsSentLast k.queue)) n.waited i.last))) tt i
        take_kept (Ok Empty) new n w i = same_kept new n.same i
        take_kept (Ok Closed) new n w i = same_kept new n.same i
        take_kept (Err worn) new n w i = same_kept new w.same i

        middle : (P : Entry (Cargo A) → Type 0) (front : List (Entry (Cargo A))) (x : Entry (Cargo A)) (back : List (Entry (Cargo A))) → All P (front ++ x ∷ back) → P x
        middle P [] x back all = All-head P x back all
        middle P (y ∷ front) x back all = middle P front x back (All-tail P y (front ++ x ∷ back) all)

        pub took : (r : Result (Taken (Cargo A)) Worn) (new : QueueState (Cargo A)) → IfOk r (λ taken. TakesAs seen maker server generation taken new k.queue) → IfErr r (λ worn. IsWorn seen worn new k.queue) → OnErr r (0 < length k.queue.waiting) → IsKept k
            → TookAs (Becomes (kept_of k) (kept_of (inside new))) seen maker server generation r
        took (Ok (Request out)) new n w some i =
            let q = k.queue in
            let x : Event → Made = λ e. record { maker = maker; noted = record { stamp = out.noted.stamp; event = e } } in
            record {
              setting = ap (λ (z : QueueState (Cargo A)). record { id = z.id; capacity = z.capacity; servers = z.servers; first = z.first; clients = k.clients; cells = k.cells.value }) n.noted.notes.made;
              entries = ap (λ (z : QueueState (Cargo A)). z.entries) n.noted.notes.made ∙ ap (λ e. q.entries ++ x e ∷ []) (sym n.noted.event_is);
              how = (n, middle Right n.front out.entry n.back (subst (All Right) n.waited i.right), middle Brought n.front out.entry n.back (subst (All Brought) n.waited i.brought), middle (IsSentLast q) n.front out.entry n.back (subst (All (IsSentLast q)) n.waited i.last));
            }
        took (Ok Empty) new n w some i = stays new n.same (n.none, n.closed)
        took (Ok Closed) new n w some i = stays new n.same (n.none, n.closed)
        took (Err worn) new n w some i = stays new w.same (record { larger = w.larger; told = w.told; same = refl }, some)

      pub gone_kept : (server : ServerId) (r : Result GivenUp Worn) (new : QueueState (Cargo A)) → maker.0 ≡ k.clients + server.0 → IfOk r (λ done. NotesAs seen maker done.noted (Gone server) (with_gone server k.queue) new k.queue) → IfErr r (λ worn. IsWorn seen worn new k.queue) → IsKept k → IsKept (inside new)
      gone_kept server (Ok done) new ours n w i = quiet_kept done.noted (Gone server) (with_gone server k.queue) new n refl refl (λ r. refl) ours i
      gone_kept server (Err worn) new ours n w i = same_kept new w.same i

      pub sweep_kept : (r : Result (Option (Outgoing (Cargo A))) Worn) (new : QueueState (Cargo A)) → IfOk r (λ swept. MatchOption swept (IsSwept new k.queue) (λ out. Sweeps seen maker out new k.queue)) → IfErr r (λ worn. IsWorn seen worn new k.queue) → IsKept k → IsKept (inside new)
      sweep_kept (Ok None) new n w i = same_kept new n.same i
      sweep_kept (Ok (Some out)) new n w i = one_kept out.noted.stamp _ (record k.queue { waiting = n.rest }) new n.noted.notes refl (All-tail Right out.entry n.rest (subst (All Right) n.waited i.right)) (still out.noted.stamp _ n.rest (All-tail Brought out.entry n.rest (subst (All Brought) n.waited i.brought)))
          (all_last out.noted.stamp _ (record k.queue { waiting = n.rest }) (λ r. refl) (All-tail (IsSentLast k.queue) out.entry n.rest (subst (All (IsSentLast k.queue)) n.waited i.last))) tt i
      sweep_kept (Err worn) new n w i = same_kept new w.same i
