-- A server is given up.
use Rattle.std.proofs.Common.{◌≡◌, ◌<◌, ℕ, zero, suc, ◌+◌, ◌||◌, Bool, true, List, [], ◌∷◌, ◌++◌, map, length, Option, Result, Ok, Err, None, inl, inr, refl, sym, ◌∙◌, ap, subst, arith, eq-eqb}
use Rattle.std.specs.Prelude.{OnOk, IfErr, IsSomeAnd, IfSome, ⊤}
use Rattle.std.specs.List.{All, Contains}
use Rattle.std.proofs.lemmas.List.Elements.{All-nil, All-cons, All-weaker, Contains-push}
use Rattle.xa_desk.specs.xa_types.declared.stamp.Worn.{Worn}
use Rattle.xa_desk.specs.xa_types.declared.setup.ServerSetup.{ServerSetup}
use Rattle.xa_desk.specs.xa_types.Setup.{numbered}
use Rattle.xa_desk.specs.xa_events.declared.event.Event.{Event}
use Rattle.xa_desk.specs.xa_events.declared.event.Event.TheVariants.{Gone, Sweep}
use Rattle.xa_desk.specs.xa_events.declared.event.Doing.{Doing}
use Rattle.xa_desk.specs.xa_events.declared.event.Doing.TheVariants.{Off}
use Rattle.xa_desk.specs.xa_events.Server.{start_in, starts, is_gone}
use Rattle.xa_desk.specs.xa_stamp.declared.home.Stamped.{Stamped}
use Rattle.xa_desk.specs.xa_pipe.Standing.{LifeState}
use Rattle.xa_desk.specs.xa_restart.Rule.{IsRuleOf}
use Rattle.xa_desk.specs.xa_worker.Work.{theirs}
use Rattle.xa_desk.specs.xa_caller.Caller.{CallerState}
use Rattle.xa_desk.specs.xa_server.declared.slot.ServerSlot.{ServerSlot}
use Rattle.xa_desk.specs.xa_server.Doings.{InHand}
use Rattle.xa_desk.specs.xa_server.Served.{StarterShows}
use Rattle.xa_desk.specs.xa_server.Told.{HasStamp}
use Rattle.xa_desk.specs.declared.domain.Domain.{Domain}
use Rattle.xa_desk.specs.declared.desk.Desk.{Desk}
use Rattle.xa_desk.specs.declared.stopped.Stopped.{Stopped}
use Rattle.xa_desk.specs.Desks.{Leads}
use Rattle.xa_desk.specs.Found.{SawAtQueue}
use Rattle.xa_desk.specs.xa_server.declared.closing.Closing.{Closing}
use Rattle.xa_desk.specs.xa_held.Kept.{IsRight}
use Rattle.xa_desk.specs.Serving.{IsServing, Sees, LeavesAs, OfDomain, Sweeps, IsSwept}
use Rattle.xa_server_worker.specs.declared.working.ServerWorker.{ServerWorker}
use Rattle.xa_desk.specs.Halting.{IsStopAt}
use Rattle.xa_server_worker.specs.Lives.{failed_starts, calls_of_all, HasStarted, IsDone, HandsOn, IsCut, ServerShows}
use Rattle.xa_server_worker.specs.Working.{cut_in}
use Rattle.xa_server_worker.specs.Steps.{Retires, RetiresAs, OfDomainAt}
use Rattle.xa_server_worker.specs.Standing.{IsOff, HasEnded, why_of}
use Rattle.xa_desk.proofs.Leading.{leads_trans}
use Rattle.xa_server_worker.specs.Behind.{TellsLast, ToldBefore}
use Rattle.xa_server_worker.proofs.Behind.{still_behind, leads_behind, push_behind, told_last}
use Rattle.xa_server_worker.proofs.Stepping.{off_steps, seen_steps, steps_trans, domain_steps}
use Rattle.xa_server_worker.proofs.Keeping.{OfLife, Adds, life_adds, no_calls, called_still, lives_off, failed_same, skip_map}
use Rattle.xa_server_worker.proofs.Lasting.{at_desk, number_of, starts_count, started_on, lives_hand, none_cut, none_off, made_all, idle_out}

-- a server's worker isn't the domain
some_number : (n : ℕ) (servers : List ServerSetup) (P : ServerSetup → Type 0) → IsSomeAnd (numbered n servers) P → 0 < n
some_number zero servers P rule = absurd rule
some_number (suc n) servers P rule = omega arith

pub server_some : {d : Domain} {queue : ℕ} {slot : ServerSlot} {desk : Desk} → IsServing d queue slot desk → 0 < desk.caller.work.id.0
server_some {d} {queue} {slot} {desk} serving =
    let number = number_of serving in
    let some = some_number slot.server.0 desk.caller.work.setup.servers (λ configured. IsRuleOf configured slot.restarts.restart slot.restarts.maxgen slot.restarts.grace) serving.stands.tables.worker.rule in
    omega (arith, number, some)

-- ---- whoever was told was told behind an end

pub swept_last : {queue : ℕ} {closing : Closing} {old new : Desk} → Sweeps queue closing old new → TellsLast old → TellsLast new
swept_last {queue} {closing} {old} {new} sweeps = push_behind old new ⊤ ⊤ (record { stamp = sweeps.stamp; event = Sweep (record { request = sweeps.request; queue = record { 0 = queue } }) }) (ap (λ (c : CallerState). c.work.own) sweeps.noted) (ap (λ (c : CallerState). c.seat) sweeps.noted) tt

pub seen_last : (old new : Desk) → Sees old.caller new.caller → TellsLast old → TellsLast new
seen_last old new sees = still_behind old new ⊤ (ap (λ (c : CallerState). c.work.own) sees.1) (ap (λ (c : CallerState). c.seat) sees.1)

pub domain_seat : {old new : Desk} → OfDomain old new → new.caller.seat ≡ old.caller.seat
domain_seat of = ap (λ (c : CallerState). c.seat) of.rest

-- ---- as it leaves its queue

only_gone : (slot slot' : ServerSlot) (b : Bool) → slot' ≡ record slot { gone = b } → slot' ≡ record slot { gone = slot'.gone }
only_gone slot slot' b is = is ∙ ap (λ (x : Bool). record slot { gone = x }) (sym (ap (λ (s : ServerSlot). s.gone) is))

module _ {d : Domain} {queue : ℕ} {slot slot' : ServerSlot} {old new : Desk} (leads : Leads d old new) (serving : IsServing d queue slot old) where
  pub left_seat : (last : Bool) → LeavesAs d queue (Ok last) slot slot' old new → new.caller.seat ≡ old.caller.seat
  left_seat last leaves = ap (λ (c : CallerState). c.seat) leaves.1.2

  pub left_retires : (last : Bool) → LeavesAs d queue (Ok last) slot slot' old new → Retires d slot slot' old new
  left_retires last leaves = record {
    more = Gone slot.server ∷ [];
    gone = All-cons (λ (e : Event). e ≡ Gone slot.server) (Gone slot.server) [] refl (All-nil (λ (e : Event). e ≡ Gone slot.server));
    steps = off_steps leaves.1.0 (Gone slot.server) leads (number_of serving) leaves.1.2;
    slot_is = only_gone slot slot' true leaves.0;
    idle = ap (λ (c : CallerState). c.phase) leaves.1.2 ∙ serving.idle;
    told = λ told. told_last ⊥ new (leads_behind old new leads (left_seat last leaves) told);
  }

  pub worn_retires : (worn : Worn) → LeavesAs d queue (Err worn) slot slot' old new → Retires d slot slot' old new
  worn_retires worn leaves = record {
    more = [];
    gone = All-nil (λ (e : Event). e ≡ Gone slot.server);
    steps = seen_steps leads leaves.1.caller;
    slot_is = only_gone slot slot' slot.gone leaves.0;
    idle = ap (λ (c : CallerState). c.phase) leaves.1.caller.1 ∙ serving.idle;
    told = λ told. told_last ⊥ new (leads_behind old new leads (ap (λ (c : CallerState). c.seat) leaves.1.caller.1) told);
  }

  pub left_latest : (last : Bool) → LeavesAs d queue (Ok last) slot slot' old new → HasStamp new.caller.work.own new.caller.work.stamp
  left_latest last leaves =
      let x : Stamped = record { stamp = leaves.1.0; event = Gone slot.server } in
      (x, subst (λ (l : List Stamped). Contains l x) (sym {A = List Stamped} (ap (λ (c : CallerState). c.work.own) leaves.1.2)) (Contains-push old.caller.work.own x), sym (ap (λ (c : CallerState). c.work.stamp) leaves.1.2))

  pub left_gone : (last : Bool) → LeavesAs d queue (Ok last) slot slot' old new → is_gone slot.server.0 (theirs new.caller.work) ≡ true
  unfolding is_gone
  left_gone last leaves =
      let steps = off_steps leaves.1.0 (Gone slot.server) leads (number_of serving) leaves.1.2 in
      ap (is_gone slot.server.0) steps.own ∙ ap (λ (b : Bool). b || is_gone slot.server.0 (theirs old.caller.work)) (eq-eqb slot.server.0 slot.server.0 refl)

-- and what comes behind that
pub retires_on : {d : Domain} {slot slot' : ServerSlot} {a b c : Desk} → Retires d slot slot' a b → OfDomainAt d b c → (ToldBefore a → TellsLast c) → Retires d slot slot' a c
retires_on retires goes told = record { more = retires.more; gone = retires.gone; steps = steps_trans retires.more [] retires.steps goes.steps; slot_is = retires.slot_is; idle = goes.idle ∙ retires.idle; told = told }

-- its queue was swept behind that
pub retires_swept : {d : Domain} {slot slot' : ServerSlot} {a b c : Desk} → Retires d slot slot' a b → b.caller.seat ≡ a.caller.seat → OfDomainAt d b c → (TellsLast b → TellsLast c) → Retires d slot slot' a c
retires_swept {d} {slot} {slot'} {a} {b} retires seat goes told = retires_on retires goes (λ all. told (told_last ⊥ b (leads_behind a b retires.steps.leads seat all)))

pub retires_domain : {d : Domain} {slot slot' : ServerSlot} {a b c : Desk} → 0 < a.caller.work.id.0 → Retires d slot slot' a b → Leads d b c → OfDomain b c → c.caller.seat ≡ a.caller.seat → Retires d slot slot' a c
retires_domain {d} {slot} {slot'} {a} {b} {c} some retires leads of seat = let same = ap (λ i. i.0) retires.steps.id in retires_on retires (domain_steps leads (omega (arith, same, some)) of) (λ told. told_last ⊥ c (leads_behind a c (leads_trans d a b c retires.steps.leads leads) seat told))

-- with its queue, which was cleared, taken down and swept
pub swept_retires : {d : Domain} (queue : ℕ) {slot slot' : ServerSlot} {a b c e f : Desk} → 0 < a.caller.work.id.0 → Retires d slot slot' a b → is_gone slot.server.0 (theirs b.caller.work) ≡ true → Leads d b c → OfDomain b c → Leads d c e → OfDomain c e → OfDomainAt d e f
    → (r : Result Unit Stopped) → OnOk r (SawAtQueue d queue f (IsSwept d queue)) → IfErr r (IsStopAt f) → RetiresAs d queue r slot f
swept_retires {d} queue {slot} {slot'} {a} {b} {c} {e} {f} some left gone clears cleared falls fell sweeps r saw stopped =
    let same = ap (λ i. i.0) left.steps.id in
    let first = domain_steps clears (omega (arith, same, some)) cleared in
    let still = ap (λ i. i.0) first.steps.id in
    let second = domain_steps falls (omega (arith, same, still, some)) fell in
    by r (sweeps.steps.own ∙ second.steps.own ∙ first.steps.own) saw stopped
  where
    by : (x : Result Unit Stopped) → theirs f.caller.work ≡ theirs b.caller.work → OnOk x (SawAtQueue d queue f (IsSwept d queue)) → IfErr x (IsStopAt f) → RetiresAs d queue x slot f
    by (Ok none) own seen why = (ap (is_gone slot.server.0) own ∙ gone, inr seen)
    by (Err halt) own seen why = why

-- ---- the worker's work is over

of_gone : (s : ServerSlot) (g : ℕ) (e : Event) → e ≡ Gone s.server → OfLife g e
of_gone s g e is = subst (OfLife g) (sym is) tt

no_more_starts : (server : ℕ) (s : ServerSlot) (more own : List Event) → All (λ (e : Event). e ≡ Gone s.server) more → starts server (more ++ own) ≡ starts server own
unfolding starts
no_more_starts server s more own gone = skip_map (start_in server) more own (All-weaker (λ (e : Event). e ≡ Gone s.server) (λ (e : Event). start_in server e ≡ None) (λ e is. ap (start_in server) is) more gone)

module _ {L T : Type 0} {d : Domain} {shows : T → StarterShows} where
  pub retired_ended : (w : ServerWorker L T) (slot' : ServerSlot) (desk' : Desk) (r : Result Unit Stopped) → IsOff d shows w → ToldBefore w.desk → Retires d w.served.slot slot' w.desk desk' → RetiresAs d w.queue.0 r w.served.slot desk' → HasEnded d shows (why_of r) (at_desk w slot' desk')
  retired_ended w slot' desk' r off told retires result =
      let slot : ServerSlot = w.served.slot in
      let s : ℕ = slot.server.0 in
      let own : List Event = theirs w.desk.caller.work in
      let steps = retires.steps in
      let its : (g : ℕ) → All (OfLife g) retires.more = λ g. All-weaker (λ (e : Event). e ≡ Gone slot.server) (OfLife g) (of_gone slot g) retires.more retires.gone in
      let server : slot'.server ≡ slot.server = ap (λ (x : ServerSlot). x.server) retires.slot_is in
      let hand : slot'.hand ≡ None = ap (λ (x : ServerSlot). x.hand) retires.slot_is ∙ off_hand slot.doing off.off off.at.serving.stands.hand in
      let adds : (g : ℕ) → Adds d s g retires.more w.desk desk' = λ g. life_adds steps s g (number_of off.at.serving) (its g) in
      let lived = lives_off adds w.name w.queue.0 slot.made w.served.lives.items off.at.lived in
      let count : length (starts s (theirs desk'.caller.work)) ≡ slot.made = ap (λ (l : List Event). length (starts s l)) steps.own ∙ ap length (no_more_starts s slot retires.more own retires.gone) ∙ starts_count off.at.serving in
      let failed : failed_starts s (theirs desk'.caller.work) ≡ failed_starts s own = failed_same (adds 0) in
      let started : HasStarted w.name (length (starts s (theirs desk'.caller.work))) (failed_starts s (theirs desk'.caller.work)) (shows w.served.starter) = started_on count failed refl off.at.started in
      let shown : ServerShows d w.name w.queue.0 s desk' w.served.lives.items (cut_in w.cut) (shows w.served.starter) (why_of r ≡ None) = record {
        lives_are = ap (λ (o : Option LifeState). map (λ over. over.life.generation) w.served.lives.items ++ map (λ (life : LifeState). life.generation) (cut_in o)) off.at.cut ∙ lived.are;
        taken = none_cut (HandsOn d w.queue.0 s desk') (map (λ over. over.life) w.served.lives.items) w.cut off.at.cut (lives_hand w.served.lives.items lived.each);
        cut_off = none_off (IsCut w.name s (theirs desk'.caller.work)) w.cut off.at.cut;
        so_far = inl started;
        told = retires.told told;
        none_cut = λ whole. ap cut_in off.at.cut;
        lived = λ whole. lived.each;
        called = λ whole. made_all (calls_of_all w.served.lives.items) (called_still steps _ (no_calls w.desk.caller.work.id.0 0 retires.more (its 0)) off.at.called);
        started = λ whole. started;
        done = done_by r result;
      } in
      record {
        is = steps.leads.desk;
        number = ap (λ n. n + slot'.server.0) steps.clients ∙ ap (λ x. w.desk.caller.work.clients + x.0) server ∙ number_of off.at.serving ∙ ap (λ i. i.0) (sym steps.id);
        named_so = off.at.named_so;
        idle = λ whole. retires.idle;
        out = idle_out desk' retires.idle;
        hand = subst (λ h. IfSome h (IsRight d.cells)) (sym hand) tt;
        shown = subst (λ (x : ℕ). ServerShows d w.name w.queue.0 x desk' w.served.lives.items (cut_in w.cut) (shows w.served.starter) (why_of r ≡ None)) (ap (λ x. x.0) (sym server)) shown;
        halts = halts_by r result;
      }
    where
      off_hand : (doing : Doing) → doing ≡ Off → InHand doing w.served.slot.hand → w.served.slot.hand ≡ None
      off_hand doing is_off in_hand = subst (λ (x : Doing). InHand x w.served.slot.hand) is_off in_hand

      done_by : (x : Result Unit Stopped) → RetiresAs d w.queue.0 x w.served.slot desk' → why_of x ≡ None → IsDone d w.queue.0 w.served.slot.server.0 desk'
      done_by (Ok none) is whole = inr is
      done_by (Err stopped) is whole = absurd (cc whole)

      halts_by : (x : Result Unit Stopped) → RetiresAs d w.queue.0 x w.served.slot desk' → IfSome (why_of x) (IsStopAt desk')
      halts_by (Ok none) is = tt
      halts_by (Err stopped) is = is
