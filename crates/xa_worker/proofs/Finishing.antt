-- The returns and forwards of a server, on the merge.
use Rattle.std.proofs.Common.{◌≡◌, ◌⊎◌, ℕ, ◌+◌, ◌≤◌, true, false, List, ◌∷◌, ◌++◌, reverse, Option, Some, None, inl, inr, refl, sym, ◌∙◌, ap, subst, arith, eqb-true, eq-eqb}
use mathlib.Core.Path.{fun_ext}
use Rattle.std.specs.Prelude.{IsSomeAnd}
use Rattle.std.specs.List.{All, filter}
use Rattle.std.proofs.lemmas.List.Elements.{All-weaker}
use Rattle.xa_types.specs.declared.data.Data.{Data}
use Rattle.xa_types.specs.declared.ids.RequestId.{RequestId}
use Rattle.xa_types.specs.declared.row.Row.{Row}
use Rattle.xa_types.specs.declared.setup.Setup.{Setup}
use Rattle.xa_types.specs.declared.stamp.Stamp.{Stamp}
use Rattle.xa_types.specs.Setup.{numbered}
use Rattle.xa_events.specs.declared.event.Event.{Event}
use Rattle.xa_events.specs.declared.event.Event.TheVariants.{Accept, Forward, End}
use Rattle.xa_events.specs.declared.event.Ended.{Ended}
use Rattle.xa_events.specs.declared.event.Outcome.{Outcome}
use Rattle.xa_events.specs.declared.event.Outcome.TheVariants.{BadForward, Starved}
use Rattle.xa_events.specs.declared.event.Doing.TheVariants.{Busy}
use Rattle.xa_events.specs.Words.{latest, count, AtEach}
use Rattle.xa_events.specs.State.{caller_of}
use Rattle.xa_events.specs.Homes.{Home, at_home, of_worker, HeldSince}
use Rattle.xa_events.specs.Homes.Home.{QueueHome}
use Rattle.xa_events.specs.Board.{listed_in}
use Rattle.xa_events.specs.Server.{doing}
use Rattle.xa_events.specs.Caller.{is_conversational}
use Rattle.xa_events.specs.Request.{is_entry_of, SentAs, sent_as}
use Rattle.xa_events.specs.Conversation.{connections}
use Rattle.xa_events.specs.Local.{Local, worker_events}
use Rattle.xa_events.specs.Calls.{IsShutOut, is_accepted_by}
use Rattle.xa_events.specs.Cases.{Case}
use Rattle.xa_events.specs.Finishing.{Finish, return_by, FailsItself, FailsByRequest, FailsByBoard, ForwardEnds, FitsFinish, FitsFinishes, finishes}
use Rattle.xa_events.specs.Finishing.Finish.{Returns, Forwards, Loses}
use Rattle.xa_events.proofs.LastEntry.{Shows}
use Rattle.xa_events.proofs.Merge.{state, AllCases, all_cases, known_from, connections_own}
use Rattle.xa_events.proofs.WordsLemmas.{some_weaker}
use Rattle.xa_stamp.specs.declared.home.Stamped.{Stamped}
use Rattle.xa_lock.specs.declared.makers.Made.{Made}
use Rattle.xa_lock.specs.Makers.{noted_in}
use Rattle.xa_worker.specs.Seen.{past_in, SawSince, IsNew}
use Rattle.xa_worker.specs.Orders.{AllNew}
use Rattle.xa_worker.specs.Finishing.{IsSpent, SawSpent, SawFailing, ForwardEndsOwn, FitsFinishOwn, FinishedOwn}
use Rattle.xa_worker.proofs.Lists.{past_in-filter, count_part}
use Rattle.xa_worker.proofs.Placed.{IsMergeOf}
use Rattle.xa_worker.proofs.Before.{NewIn, new_before, since, since_take, listed_now}
use Rattle.xa_worker.proofs.Workers.{AtEach-from}
use Rattle.xa_worker.proofs.Booted.{boot_some}
use Rattle.xa_worker.proofs.Owned.{twice, own_events, own_at, cases_at, last_seen}

-- the event that sent the request last says that it may not be forwarded
spent_from : (r : RequestId) (past : List Event) (o : Option Event) → Shows r past o → IsSomeAnd o IsSpent → FailsByRequest r past
spent_from r past None shows so = absurd so
spent_from r past (Some (Accept a)) shows so =
    inr (some_weaker (λ (sent : SentAs). sent.mode ≡ a.mode) (λ (sent : SentAs). is_conversational sent.mode ≡ true) (λ sent is. ap is_conversational is ∙ so) (sent_as r past) shows.1)
spent_from r past (Some (Forward f)) shows so = inl (subst (λ (n : ℕ). 32 ≤ n) (sym shows.0) so)
spent_from r past (Some _) shows so = absurd shows

-- what finishes a server's request is its own event
finish_of_worker : (clients server : ℕ) (e : Event) → finishes server e ≡ true → of_worker clients (caller_of clients server) e ≡ true
finish_of_worker clients server (End e) h = eq-eqb (caller_of clients e.server.0) (caller_of clients server) (ap (caller_of clients) (eqb-true e.server.0 server h))
finish_of_worker clients server (Forward f) h = eq-eqb (caller_of clients f.server.0) (caller_of clients server) (ap (caller_of clients) (eqb-true f.server.0 server h))
finish_of_worker clients server _ h = absurd (cc h)

-- ---- what is asked of the merge below, and where homes are the same

-- each event of the merge had its case, and each request was new where it was sent
pub cases_of : (setup : Setup) (clients : ℕ) (held : Home → List Stamped) (merged : List Stamped) (events : List Event) → IsMergeOf setup clients held merged events → Local setup clients (reverse events) → AllCases setup clients (past_in merged)
cases_of setup clients held merged events m local = all_cases setup clients (past_in merged) (subst (λ (es : List Event). Local setup clients (reverse es)) (sym m.events) local)

pub news_of : (setup : Setup) (clients : ℕ) (kept : Home → List Made) (merged : List Stamped) (events : List Event) → IsMergeOf setup clients (λ home. noted_in (kept home)) merged events → AllNew setup kept → NewIn setup clients (past_in merged)
news_of setup clients kept merged events m news queue =
    let here = past_in-filter (at_home setup clients (QueueHome queue)) merged ∙ ap past_in (m.theirs (QueueHome queue)) in
    subst (AtEach (IsNew setup queue)) (sym here) (news queue)

pub ends_at : (setup : Setup) (clients : ℕ) (entries held : Home → List Stamped) → ((home : Home) → entries home ≡ held home) → (stamp : Stamp) (service : List ℕ) (payload : Data) (e : Ended) (outcome : Outcome) (own : List Event)
    → ForwardEndsOwn setup clients entries stamp service payload e outcome own → ForwardEndsOwn setup clients held stamp service payload e outcome own
ends_at setup clients entries held same stamp service payload e outcome own =
    subst (λ (homes : Home → List Stamped). ForwardEndsOwn setup clients homes stamp service payload e outcome own) (fun_ext same)

-- ---- one entry of a server

module _ (setup : Setup) (clients : ℕ) (held : Home → List Stamped) (merged : List Stamped) (events : List Event) (m : IsMergeOf setup clients held merged events)
    (cases : AllCases setup clients (past_in merged)) (news : NewIn setup clients (past_in merged)) (server : ℕ) (before after : List Stamped) (x : Stamped) (split : merged ≡ before ++ x ∷ after) where
  abbrev past : List Event
  past = past_in before

  new_here : NewIn setup clients past
  new_here = new_before setup clients merged before after x split news

  cases_here : AllCases setup clients (x.event ∷ past)
  cases_here = cases_at setup clients merged before after x split cases

  abbrev caller : ℕ
  caller = caller_of clients server

  abbrev its : List Event
  its = worker_events clients caller past

  its_connections : (other : ℕ) → other ≡ server → connections (caller_of clients other) its ≡ connections (caller_of clients other) past
  its_connections other is = subst (λ (n : ℕ). connections (caller_of clients n) its ≡ connections (caller_of clients n) past) (sym is) (connections_own setup clients past caller)

  its_twice : (other : ℕ) → other ≡ server → worker_events clients (caller_of clients other) its ≡ worker_events clients (caller_of clients other) past
  its_twice other is = subst (λ (n : ℕ). worker_events clients (caller_of clients n) its ≡ worker_events clients (caller_of clients n) past) (sym is) (twice (of_worker clients caller) past)

  fails_itself : (other : ℕ) → other ≡ server → (service : List ℕ) (payload : Data) → FailsItself setup (caller_of clients other) service payload its → FailsItself setup (caller_of clients other) service payload past
  fails_itself other is service payload (inl no_name) = inl no_name
  fails_itself other is service payload (inr (inl unsound)) = inr (inl unsound)
  fails_itself other is service payload (inr (inr connected)) = inr (inr (λ none. connected (its_connections other is ∙ none)))

  -- where it ends a request its server is busy
  ends_busy : (e : Ended) → End e ≡ x.event → doing e.server.0 past ≡ Busy e.generation e.request
  ends_busy e here = let case = subst (Case (state setup clients past)) (sym here) cases_here.0 in case.worker.busy

  spent : (e : Ended) → End e ≡ x.event → e.server.0 ≡ server → SawSpent setup clients held x.stamp e its → FailsByRequest e.request past
  spent e here is saw =
      let P : List Event → Type 0 = λ moment. IsSomeAnd (latest (is_entry_of e.request) moment) IsSpent in
      let held_so = since_take setup clients held merged events m before after x split new_here e.server.0 P its (its_twice e.server.0 is) saw in
      let known = known_from setup clients past cases_here.1 in
      spent_from e.request past (latest (is_entry_of e.request) past) (known.shows e.request) (last_seen setup clients past known e.server.0 e.generation e.request (ends_busy e here) IsSpent held_so)

  failing : (other : ℕ) → other ≡ server → (service : List ℕ) (payload : Data) (v : ℕ) → SawFailing setup clients held x.stamp (caller_of clients other) service payload v its → FailsByBoard setup clients (caller_of clients other) service payload v past
  failing other is service payload v saw =
      let P : Row → Type 0 = λ row. SawSince setup clients held x.stamp (caller_of clients other) row.queue.0 (IsShutOut setup row.queue.0) its in
      let Q : Row → Type 0 = λ row. HeldSince setup clients (caller_of clients other) row.queue.0 (IsShutOut setup row.queue.0) past in
      let k = (listed_now setup clients held merged events m before after x split v service false (λ rows. (is_accepted_by setup payload rows ≡ false) ⊎ All P rows) saw).1 in
      elim k [
        | inl none ↦ inl none
        | inr full ↦ inr (All-weaker P Q (λ row seen. since setup clients held merged events m before after x split new_here (caller_of clients other) row.queue.0 (IsShutOut setup row.queue.0) its (its_twice other is) seen) (listed_in setup past v service false) full)
      ]

  -- the worker knows that the version is not older than the boot's, and a server that is busy shows that the boot's is not 0
  pub forward_ends : (service : List ℕ) (payload : Data) (e : Ended) (outcome : Outcome) → End e ≡ x.event → e.server.0 ≡ server → ForwardEndsOwn setup clients held x.stamp service payload e outcome its → ForwardEnds setup clients service payload e outcome past
  forward_ends service payload e (BadForward v) here is (inl h) = elim h.1 [
    | inl itself ↦ inl (h.0, inl (fails_itself e.server.0 is service payload itself))
    | inr saw ↦ inl (h.0, inr (spent e here is saw))
  ]
  forward_ends service payload e (BadForward v) here is (inr h) =
      let some = boot_some setup clients past cases_here.1 e.server.0 e.generation e.request (ends_busy e here) in
      inr (omega (arith, some, h.0), failing e.server.0 is service payload v h.1)
  forward_ends service payload e Starved here is h = tt
  forward_ends service payload e _ here is h = absurd h

  finish_whole : (finish : Finish) (e : Event) → e ≡ x.event → finishes server e ≡ true → FitsFinishOwn setup clients held x.stamp finish e its → FitsFinish setup clients finish e past
  finish_whole (Returns value code payload) (End e) here is (inl outcome) = inl (outcome ∙ ap (λ cs. return_by setup cs value code payload) (its_connections e.server.0 (eqb-true e.server.0 server is)))
  finish_whole (Returns value code payload) (End e) here is (inr starved) = inr starved
  finish_whole (Returns value code payload) (Forward f) here is fits = absurd fits
  finish_whole (Returns value code payload) _ here is fits = absurd (cc is)
  finish_whole (Forwards service payload) (End e) here is fits = forward_ends service payload e e.outcome here (eqb-true e.server.0 server is) fits
  finish_whole (Forwards service payload) (Forward f) here is fits = fits
  finish_whole (Forwards service payload) _ here is fits = absurd (cc is)
  finish_whole Loses (End e) here is fits = fits
  finish_whole Loses (Forward f) here is fits = absurd fits
  finish_whole Loses _ here is fits = absurd (cc is)

-- ---- all that it noted

module _ (setup : Setup) (clients : ℕ) (held : Home → List Stamped) (merged : List Stamped) (events : List Event) (m : IsMergeOf setup clients held merged events)
    (cases : AllCases setup clients (past_in merged)) (news : NewIn setup clients (past_in merged)) (server : ℕ) (all : List Finish) (noted : List Stamped)
    (own : filter (λ (x : Stamped). of_worker clients (caller_of clients server) x.event) merged ≡ filter (λ (x : Stamped). of_worker clients (caller_of clients server) x.event) noted) (made : FinishedOwn setup clients held server all noted) where
  -- the event fits the finish of its number
  finished_here : (before after : List Stamped) (x : Stamped) → merged ≡ before ++ x ∷ after → finishes server x.event ≡ true
      → IsSomeAnd (numbered (count (finishes server) (past_in before) + 1) all) (λ finish. FitsFinish setup clients finish x.event (past_in before))
  finished_here before after x split is =
      let before_it : List Event = past_in before in
      let its_own : List Event = worker_events clients (caller_of clients server) before_it in
      let at = own_at clients merged (caller_of clients server) noted own before after x split (finish_of_worker clients server x.event is)
      (λ (y : Stamped) own. finishes server y.event ≡ true → IsSomeAnd (numbered (count (finishes server) own + 1) all) (λ finish. FitsFinishOwn setup clients held y.stamp finish y.event own)) made.each is in
      let same : count (finishes server) its_own ≡ count (finishes server) before_it = count_part (finishes server) (of_worker clients (caller_of clients server)) (finish_of_worker clients server) before_it in
      subst (λ (n : ℕ). IsSomeAnd (numbered (n + 1) all) (λ finish. FitsFinish setup clients finish x.event before_it)) same
      (some_weaker (λ finish. FitsFinishOwn setup clients held x.stamp finish x.event its_own) (λ finish. FitsFinish setup clients finish x.event before_it)
      (λ finish fits. finish_whole setup clients held merged events m cases news server before after x split finish x.event refl is fits) (numbered (count (finishes server) its_own + 1) all) at)

  pub finished : FitsFinishes setup clients server all (past_in merged)
  finished =
      let its_own : worker_events clients (caller_of clients server) (past_in merged) ≡ worker_events clients (caller_of clients server) (past_in noted) = own_events clients merged (caller_of clients server) noted own in
      record {
        each = AtEach-from (λ e before. finishes server e ≡ true → IsSomeAnd (numbered (count (finishes server) before + 1) all) (λ finish. FitsFinish setup clients finish e before)) merged (λ before after x split is. finished_here before after x split is);
        whole = sym (count_part (finishes server) (of_worker clients (caller_of clients server)) (finish_of_worker clients server) (past_in merged)) ∙ (ap (count (finishes server)) its_own ∙ made.whole);
      }
