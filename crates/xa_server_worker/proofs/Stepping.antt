-- What steps of a server's worker leave at its desk.
use Rattle.std.proofs.Common.{◌≡◌, ◌<◌, ◌≤◌, ℕ, Bool, true, false, List, [], ◌∷◌, ◌++◌, Option, Some, None, Result, Ok, Err, refl, sym, ◌∙◌, ap, subst, arith}
use Rattle.std.specs.Prelude.{IfSome}
use Rattle.std.specs.List.{All, filter}
use Rattle.std.proofs.lemmas.List.{append_assoc}
use Rattle.std.proofs.lemmas.List.Elements.{All-weaker, filter-append}
use Rattle.xa_desk.specs.xa_types.declared.stamp.Stamp.{Stamp}
use Rattle.xa_desk.specs.xa_types.declared.stamp.Worn.{Worn}
use Rattle.xa_desk.specs.xa_events.declared.event.Event.{Event}
use Rattle.xa_desk.specs.xa_events.declared.event.Event.TheVariants.{Take}
use Rattle.xa_desk.specs.xa_events.declared.event.Taken.{Taken}
use Rattle.xa_desk.specs.xa_events.Homes.{worker_of, of_worker}
use Rattle.xa_desk.specs.xa_events.Local.{worker_events}
use Rattle.xa_desk.specs.xa_stamp.declared.home.Stamped.{Stamped}
use Rattle.xa_desk.specs.xa_worker.Seen.{past_in}
use Rattle.xa_desk.specs.xa_worker.Crew.{IsOfDomain}
use Rattle.xa_desk.proofs.Falling.{gave_on}
use Rattle.xa_desk.proofs.xa_worker.Lists.{filter-none, past_in-append, past_in-filter}
use Rattle.xa_desk.specs.xa_worker.Work.{WorkState, theirs}
use Rattle.xa_desk.proofs.xa_worker.Noting.{theirs-more, not_theirs}
use Rattle.xa_desk.specs.xa_caller.Caller.{CallerState}
use Rattle.xa_desk.specs.xa_caller.Serving.{noted_off}
use Rattle.xa_desk.specs.xa_server.declared.slot.ServerSlot.{ServerSlot}
use Rattle.xa_desk.specs.xa_server.Doings.{life_in}
use Rattle.xa_desk.specs.xa_server.Noting.{Notes, HaltsWith}
use Rattle.xa_desk.specs.xa_server.Told.{IsBacked}
use Rattle.xa_desk.proofs.xa_server.Telling.{closings_stay}
use Rattle.xa_desk.specs.xa_worker.declared.work.Halt.{Halt}
use Rattle.xa_desk.specs.xa_worker.declared.work.Halt.TheVariants.{NoMemory, Worn as WornOut}
use Rattle.xa_desk.specs.xa_stamp.Home.{Rises, last_stamp}
use Rattle.xa_desk.specs.xa_worker.Crew.{no_stamp}
use Rattle.xa_desk.specs.declared.domain.Domain.{Domain}
use Rattle.xa_desk.specs.declared.desk.Desk.{Desk}
use Rattle.xa_desk.specs.declared.serving.Took.{Took}
use Rattle.xa_desk.specs.declared.serving.Took.TheVariants as takes
use Rattle.xa_desk.specs.declared.stopped.Stopped.{Stopped}
use Rattle.xa_desk.specs.declared.stopped.Stopped.TheVariants.{Here}
use Rattle.xa_desk.specs.xa_held.Notes.{is_down_in}
use Rattle.xa_desk.specs.Desks.{Leads, queue_page}
use Rattle.xa_desk.specs.Ticking.{ReadsClock}
use Rattle.xa_desk.specs.Serving.{Sees, TakesAs, OfDomain, IsServing, IsFallen, IsToTell}
use Rattle.xa_desk.proofs.Leading.{leads_trans}
use Rattle.xa_desk.specs.xa_server.declared.closing.Closing.{Closing}
use Rattle.xa_desk.specs.Halting.{IsHaltAt, IsStopAt}
use Rattle.xa_server_worker.specs.Steps.{Steps, Serves, Tells, Waits, TakesFrom, NextFrom, OfDomainAt}

-- why the worker ends where the stamps did
abbrev pub stop_by : Worn → Stopped
stop_by worn = Here (WornOut worn.0)

-- what it noted for the domain isn't its own
none_theirs : (clients worker : ℕ) → 0 < worker → (more : List Stamped) → All (λ (x : Stamped). IsOfDomain x.event) more → worker_events clients worker (past_in more) ≡ []
none_theirs clients worker some more domain = past_in-filter (of_worker clients worker) more
    ∙ ap past_in (filter-none (λ (x : Stamped). of_worker clients worker x.event) more (All-weaker (λ (x : Stamped). IsOfDomain x.event) (λ (x : Stamped). of_worker clients worker x.event ≡ false) (λ x is. not_theirs clients worker x.event some is) more domain))

last_low : (before : Stamp) (xs : List Stamped) → Rises before xs → before.0 ≤ last_stamp before xs
last_low before [] rises = omega arith
last_low before (x ∷ xs) rises = let less = rises.0 in let low = last_low x.stamp xs rises.1 in omega (arith, less, low)

last_more : (before : Stamp) (own rest : List Stamped) → Rises before (own ++ rest) → last_stamp before own ≤ last_stamp before (own ++ rest)
last_more before [] rest rises = last_low before rest rises
last_more before (x ∷ own) rest rises = last_more x.stamp own rest rises.1

not_empty : (own rest : List Stamped) → (own ≡ [] → ⊥) → own ++ rest ≡ [] → ⊥
not_empty [] rest some none = some refl
not_empty (x ∷ own) rest some none = cc none

pub halted_at : (old new : Desk) (n : ℕ) (halt : Halt) → HaltsWith n new.caller.work old.caller.work halt → IsHaltAt new halt
halted_at old new n NoMemory same = tt
halted_at old new n (WornOut last) worn = (worn.2, ap (λ (w : WorkState). w.stamp.0) worn.0 ∙ worn.1)

-- nothing was noted then
pub halted_own : (old new : Desk) (n : ℕ) (halt : Halt) → HaltsWith n new.caller.work old.caller.work halt → new.caller.work.own ≡ old.caller.work.own
halted_own old new n NoMemory same = ap (λ (w : WorkState). w.own) same
halted_own old new n (WornOut last) worn = ap (λ (w : WorkState). w.own) worn.0

module _ {d : Domain} where
  -- ---- the worker's own events

  -- its own are the same where it noted none
  pub still_steps : {old new : Desk} → Leads d old new → new.caller.work.id ≡ old.caller.work.id → new.caller.work.clients ≡ old.caller.work.clients → new.caller.work.own ≡ old.caller.work.own → Steps d [] old new
  still_steps {old} {new} leads id clients own = record {
    leads = leads;
    id = id;
    clients = clients;
    own = ap (λ n. worker_events n new.caller.work.id.0 (past_in new.caller.work.own)) clients ∙ ap (λ i. worker_events old.caller.work.clients i.0 (past_in new.caller.work.own)) id
        ∙ ap (λ (l : List Stamped). worker_events old.caller.work.clients old.caller.work.id.0 (past_in l)) own;
  }

  -- and have an event more of its server's
  pub one_steps : {old new : Desk} (stamp : Stamp) (e : Event) (room : ℕ) → Leads d old new → worker_of old.caller.work.clients e ≡ old.caller.work.id.0
      → new.caller.work ≡ record old.caller.work { stamp = stamp; own = old.caller.work.own ++ record { stamp = stamp; event = e } ∷ []; room = room } → Steps d (e ∷ []) old new
  one_steps {old} {new} stamp e room leads its made = record {
    leads = leads;
    id = ap (λ (w : WorkState). w.id) made;
    clients = ap (λ (w : WorkState). w.clients) made;
    own = ap theirs made ∙ theirs-more old.caller.work (record { stamp = stamp; event = e }) its;
  }

  pub noted_steps : {old new : Desk} (stamp : Stamp) (e : Event) (room : ℕ) → Leads d old new → worker_of old.caller.work.clients e ≡ old.caller.work.id.0 → Notes stamp e new.caller.work (record old.caller.work { room = room }) → Steps d (e ∷ []) old new
  noted_steps stamp e room leads its notes = one_steps stamp e _ leads its notes.made

  pub off_steps : {old new : Desk} (stamp : Stamp) (e : Event) → Leads d old new → worker_of old.caller.work.clients e ≡ old.caller.work.id.0 → new.caller ≡ noted_off stamp e old.caller → Steps d (e ∷ []) old new
  off_steps {old} stamp e leads its caller = one_steps stamp e old.caller.work.room leads its (ap (λ (c : CallerState). c.work) caller)

  pub seen_steps : {old new : Desk} → Leads d old new → Sees old.caller new.caller → Steps d [] old new
  seen_steps leads sees = still_steps leads (ap (λ (c : CallerState). c.work.id) sees.1) (ap (λ (c : CallerState). c.work.clients) sees.1) (ap (λ (c : CallerState). c.work.own) sees.1)

  pub domain_steps : {old new : Desk} → Leads d old new → 0 < old.caller.work.id.0 → OfDomain old new → OfDomainAt d old new
  domain_steps {old} {new} leads some of =
      let w : WorkState = old.caller.work in
      let ours : List Stamped → List Event = λ l. worker_events w.clients w.id.0 (past_in l) in
      let id = ap (λ (c : CallerState). c.work.id) of.rest in
      let clients = ap (λ (c : CallerState). c.work.clients) of.rest in
      record {
        steps = record {
          leads = leads;
          id = id;
          clients = clients;
          own = ap (λ n. worker_events n new.caller.work.id.0 (past_in new.caller.work.own)) clients ∙ ap (λ i. worker_events w.clients i.0 (past_in new.caller.work.own)) id ∙ ap ours of.own
              ∙ ap (filter (of_worker w.clients w.id.0)) (past_in-append w.own of.more) ∙ filter-append (of_worker w.clients w.id.0) (past_in of.more) (past_in w.own)
              ∙ ap (λ (l : List Event). l ++ ours w.own) (none_theirs w.clients w.id.0 some of.more of.theirs);
        };
        idle = ap (λ (c : CallerState). c.phase) of.rest;
      }

  pub told_steps : {closing : Option Closing} {old new : Desk} → Tells d closing old new → Steps d [] old new
  told_steps {closing} {old} tells = still_steps tells.leads (ap (λ (desk : Desk). desk.caller.work.id) tells.rest) (ap (λ (desk : Desk). desk.caller.work.clients) tells.rest) (ap (λ (desk : Desk). desk.caller.work.own) tells.rest)

  -- nor as the clock was read
  pub read_steps : {tick : ℕ} {old new : Desk} → ReadsClock d tick old new → Steps d [] old new
  read_steps reads = seen_steps reads.moves.leads reads.sees

  -- nothing was noted at a halt
  pub halted_steps : {old new : Desk} (n : ℕ) (halt : Halt) → Leads d old new → HaltsWith n new.caller.work old.caller.work halt → Steps d [] old new
  halted_steps {old} {new} n NoMemory leads same = still_steps leads (ap (λ (w : WorkState). w.id) same) (ap (λ (w : WorkState). w.clients) same) (halted_own old new n NoMemory same)
  halted_steps {old} {new} n (WornOut last) leads worn = still_steps leads (ap (λ (w : WorkState). w.id) worn.0) (ap (λ (w : WorkState). w.clients) worn.0) (halted_own old new n (WornOut last) worn)

  pub still_serves : {queue : ℕ} {slot slot' : ServerSlot} {old new : Desk} → Steps d [] old new → IsServing d queue slot' new → slot' ≡ slot → Serves d queue [] slot slot' old new
  still_serves steps serving same = record { steps = steps; serving = serving; server = ap (λ (s : ServerSlot). s.server) same; made = ap (λ (s : ServerSlot). s.made) same; gone = ap (λ (s : ServerSlot). s.gone) same }

  -- what the worker of a server has goes on as somebody is told
  pub serving_told : {queue : ℕ} {slot : ServerSlot} {closing : Option Closing} {old new : Desk} → Tells d closing old new → IsServing d queue slot old → IsServing d queue slot new
  serving_told {queue} {slot} {closing} {old} {new} tells is = subst (IsServing d queue slot) (sym tells.rest) (record { stands = is.stands; idle = is.idle; its = is.its; some = is.some; least = is.least; left = is.left; hand = is.hand })

  -- ---- what is to be told stays so

  pub told_on : {old new : Desk} → Leads d old new → Rises no_stamp new.caller.work.own → (closing : Option Closing) → IfSome closing (IsToTell d old) → IfSome closing (IsToTell d new)
  told_on leads rises None is = tt
  told_on {old} {new} leads rises (Some closing) is =
      let own : List Stamped = old.caller.work.own in
      let rest : List Stamped = leads.own.0 in
      let same : new.caller.work.own ≡ own ++ rest = leads.own.1 in
      let reached = is.reached in
      let more = last_more no_stamp own rest (subst (Rises no_stamp) same rises) in
      record {
        backed = subst (λ (l : List Stamped). IsBacked l closing) (sym {A = List Stamped} same) (closings_stay own rest closing is.backed);
        ticket = is.ticket;
        reached = subst (λ (l : List Stamped). closing.stamp.0 ≤ last_stamp no_stamp l) (sym {A = List Stamped} same) (omega (arith, reached, more));
        noted = λ answered none. not_empty own rest (is.noted answered) (sym same ∙ none);
      }

  -- nor does it change as the clock is read
  pub told_read : {tick : ℕ} {old new : Desk} → ReadsClock d tick old new → (closing : Option Closing) → IfSome closing (IsToTell d old) → IfSome closing (IsToTell d new)
  told_read reads None is = tt
  told_read {tick} {old} {new} reads (Some closing) is =
      let same : new.caller.work.own ≡ old.caller.work.own = ap (λ (c : CallerState). c.work.own) reads.sees.1 in
      record {
        backed = subst (λ (l : List Stamped). IsBacked l closing) (sym {A = List Stamped} same) is.backed;
        ticket = is.ticket;
        reached = subst (λ (l : List Stamped). closing.stamp.0 ≤ last_stamp no_stamp l) (sym {A = List Stamped} same) is.reached;
        noted = λ answered none. is.noted answered (sym {A = List Stamped} same ∙ none);
      }

  -- ---- one behind another

  pub steps_trans : {a b c : Desk} (first second : List Event) → Steps d first a b → Steps d second b c → Steps d (second ++ first) a c
  steps_trans {a} {b} {c} first second ab bc = record {
    leads = leads_trans d a b c ab.leads bc.leads;
    id = bc.id ∙ ab.id;
    clients = bc.clients ∙ ab.clients;
    own = bc.own ∙ ap (λ (l : List Event). second ++ l) ab.own ∙ sym (append_assoc second first (theirs a.caller.work));
  }

  pub serves_trans : {queue : ℕ} {p q r : ServerSlot} {a b c : Desk} (first second : List Event) → Serves d queue first p q a b → Serves d queue second q r b c → Serves d queue (second ++ first) p r a c
  serves_trans first second ab bc = record { steps = steps_trans first second ab.steps bc.steps; serving = bc.serving; server = bc.server ∙ ab.server; made = bc.made ∙ ab.made; gone = bc.gone ∙ ab.gone }

  pub domain_trans : {a b c : Desk} → OfDomainAt d a b → OfDomainAt d b c → OfDomainAt d a c
  domain_trans ab bc = record { steps = steps_trans [] [] ab.steps bc.steps; idle = bc.idle ∙ ab.idle }

  pub domain_tells : {closing : Option Closing} {a b : Desk} → Tells d closing a b → OfDomainAt d a b
  domain_tells tells = record { steps = told_steps tells; idle = ap (λ (desk : Desk). desk.caller.phase) tells.rest }

  pub domain_none : {desk : Desk} → Leads d desk desk → OfDomainAt d desk desk
  domain_none leads = record { steps = record { leads = leads; id = refl; clients = refl; own = refl }; idle = refl }

  pub domain_seen : {a b : Desk} → Leads d a b → Sees a.caller b.caller → OfDomainAt d a b
  domain_seen leads sees = record { steps = seen_steps leads sees; idle = ap (λ (c : CallerState). c.phase) sees.1 }

  pub id_kept : {a b : Desk} → OfDomainAt d a b → 0 < a.caller.work.id.0 → 0 < b.caller.work.id.0
  id_kept goes some = let same = ap (λ i. i.0) goes.steps.id in omega (arith, same, some)

  pub fallen_told : (queue : ℕ) {closing : Option Closing} {a b : Desk} → Tells d closing a b → IsFallen d queue a → IsFallen d queue b
  fallen_told queue {closing} {a} {b} tells is =
      let same : queue_page b queue ≡ queue_page a queue = ap (λ (desk : Desk). queue_page desk queue) tells.rest in
      record { down = subst (λ page. is_down_in queue page.seen ≡ true) (sym same) is.down; last = gave_on tells.leads is.last }

  -- ---- taking

  module _ {queue : ℕ} where
    pub waits_none : {slot : ServerSlot} {desk : Desk} → Leads d desk desk → IsServing d queue slot desk → Waits d queue slot slot desk desk
    waits_none leads serving = record { serves = record { steps = record { leads = leads; id = refl; clients = refl; own = refl }; serving = serving; server = refl; made = refl; gone = refl }; same = refl; noted = refl; seat = refl }

    waits_same : {slot slot' : ServerSlot} {old new : Desk} → slot' ≡ slot → Leads d old new → Sees old.caller new.caller → IsServing d queue slot' new → Waits d queue slot slot' old new
    waits_same same leads sees serving = record { serves = still_serves (seen_steps leads sees) serving same; same = same; noted = ap (λ (c : CallerState). c.work.own) sees.1; seat = ap (λ (c : CallerState). c.seat) sees.1 }

    -- what a take comes to
    took_from : {slot slot' : ServerSlot} {old new : Desk} (took : Took) → Leads d old new → IsServing d queue slot old → IsServing d queue slot' new → TakesAs d queue (Ok took) slot slot' old new → TakesFrom d queue (Ok took) slot slot' old new
    took_from takes.Nothing leads was serving (same, sees, nothing) = (waits_same same leads sees serving, nothing)
    took_from takes.Closed leads was serving (same, sees, shut) = (waits_same same leads sees serving, shut)
    took_from {slot} {slot'} {old} takes.Request leads was serving (entry, stamp, k, is, later, caller, taken) =
        let t : Taken = record { request = entry.request; server = slot.server; generation = life_in slot.doing; k = k } in
        record {
          t = t;
          entry = entry;
          serves = record {
            steps = off_steps stamp (Take t) leads was.stands.tables.worker.number caller;
            serving = serving;
            server = ap (λ (s : ServerSlot). s.server) is;
            made = ap (λ (s : ServerSlot). s.made) is;
            gone = ap (λ (s : ServerSlot). s.gone) is;
          };
          busy = ap (λ (s : ServerSlot). s.doing) is;
          hand = ap (λ (s : ServerSlot). s.hand) is;
          taken = taken;
          server = refl;
          generation = refl;
          stamp = stamp;
          noted = ap (λ (c : CallerState). c.work.own) caller;
          seat = ap (λ (c : CallerState). c.seat) caller;
        }

    pub takes_from : {slot slot' : ServerSlot} {old new : Desk} (r : Result Took Worn) (took : Took) → r ≡ Ok took → Leads d old new → IsServing d queue slot old → IsServing d queue slot' new → TakesAs d queue r slot slot' old new → TakesFrom d queue (Ok took) slot slot' old new
    takes_from {slot} {slot'} {old} {new} r took is leads was serving taken = took_from took leads was serving (subst (λ x. TakesAs d queue x slot slot' old new) is taken)

    pub takes_worn : {slot slot' : ServerSlot} {old new : Desk} (r : Result Took Worn) (worn : Worn) (stopped : Stopped) → r ≡ Err worn → stopped ≡ stop_by worn → Leads d old new → IsServing d queue slot' new → TakesAs d queue r slot slot' old new → TakesFrom d queue (Err stopped) slot slot' old new
    takes_worn {slot} {slot'} {old} {new} r worn stopped is by leads serving taken =
        let end = subst (λ x. TakesAs d queue x slot slot' old new) is taken in
        (waits_same end.0 leads end.1.caller serving, subst (IsStopAt new) (sym by) (end.1.last, end.1.at))

    -- what comes behind a wait
    pub waits_trans : {p q r : ServerSlot} {a b c : Desk} → Waits d queue p q a b → Waits d queue q r b c → Waits d queue p r a c
    waits_trans ab bc = record { serves = serves_trans [] [] ab.serves bc.serves; same = bc.same ∙ ab.same; noted = bc.noted ∙ ab.noted; seat = bc.seat ∙ ab.seat }

    pub waits_next : {p q : ServerSlot} (r : ServerSlot) {a b : Desk} (c : Desk) (took : Result Bool Stopped) → Waits d queue p q a b → NextFrom d queue took q r b c → NextFrom d queue took p r a c
    waits_next r c (Ok true) ab bc = record {
      t = bc.t;
      entry = bc.entry;
      serves = serves_trans [] (Take bc.t ∷ []) ab.serves bc.serves;
      busy = bc.busy;
      hand = bc.hand;
      taken = bc.taken;
      server = bc.server ∙ ab.serves.server;
      generation = bc.generation ∙ ap (λ (s : ServerSlot). life_in s.doing) ab.same;
      stamp = bc.stamp;
      noted = bc.noted ∙ ap (λ (l : List Stamped). l ++ record { stamp = bc.stamp; event = Take bc.t } ∷ []) ab.noted;
      seat = bc.seat ∙ ab.seat;
    }
    waits_next r c (Ok false) ab bc = (waits_trans ab bc.0, bc.1)
    waits_next r c (Err stopped) ab bc = (waits_trans ab bc.0, bc.1)
