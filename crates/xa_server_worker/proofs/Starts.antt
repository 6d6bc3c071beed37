-- A server is started.
use Rattle.std.proofs.Common.{◌≡◌, ◌<◌, ◌≤◌, ℕ, ◌+◌, ◌==◌, Bool, true, false, cond, List, [], ◌∷◌, ◌++◌, map, length, Option, Some, None, inl, inr, refl, sym, ◌∙◌, ap, subst, append-nil, add-one, arith, eq-eqb, if◌then◌else◌}
use Rattle.std.specs.Prelude.{IfSome, ⊤, reverse, vec_len, vec_capacity}
use Rattle.std.specs.List.{All, cons_option, filter_map, flat_map}
use Rattle.std.proofs.lemmas.List.{reverse-append}
use Rattle.std.proofs.lemmas.List.Elements.{All-nil, All-cons, All-head, All-tail, All-weaker}
use Rattle.xa_desk.specs.xa_types.declared.ids.Generation.{Generation}
use Rattle.xa_desk.specs.xa_types.declared.call.Op.{Op}
use Rattle.xa_desk.specs.xa_events.declared.event.Event.{Event}
use Rattle.xa_desk.specs.xa_events.declared.event.Event.TheVariants.{Take, Forward, End, Start, StartFailed}
use Rattle.xa_desk.specs.xa_events.declared.event.Started.{Started}
use Rattle.xa_desk.specs.xa_events.declared.event.Doing.TheVariants.{Idle}
use Rattle.xa_desk.specs.xa_events.Words.{AtEach, count}
use Rattle.xa_desk.specs.xa_events.State.{caller_of}
use Rattle.xa_desk.specs.xa_events.Caller.{is_call_of}
use Rattle.xa_desk.specs.xa_link.Starts.{AsksFor}
use Rattle.xa_desk.specs.xa_link.Told.{Rose}
use Rattle.xa_desk.specs.xa_worker.Work.{WorkState, theirs}
use Rattle.xa_desk.specs.xa_worker.declared.work.Halt.{Halt}
use Rattle.xa_desk.specs.xa_pipe.declared.turn.Turn.TheVariants.{AwaitsReady}
use Rattle.xa_desk.specs.xa_pipe.Frames.{is_take_in}
use Rattle.xa_desk.specs.xa_pipe.Life.{Occurrence, stops_life, came_at, came_in, finishes_in}
use Rattle.xa_desk.specs.xa_pipe.Standing.{LifeState, Ending, invokes_of, calls_of}
use Rattle.xa_desk.specs.xa_pipe.Following.{is_of, due_in_life, Follows}
use Rattle.xa_desk.proofs.xa_pipe.Followed.{follows_begun}
use Rattle.xa_desk.proofs.xa_pipe.Dues.{due_beside}
use Rattle.xa_desk.specs.xa_server.declared.slot.ServerSlot.{ServerSlot}
use Rattle.xa_desk.specs.xa_server.declared.served.Served.{Served}
use Rattle.xa_desk.specs.xa_server.Served.{StarterShows, Begins, Halts}
use Rattle.xa_desk.specs.xa_server.Noting.{HaltsWith}
use Rattle.xa_desk.specs.xa_server.Changes.{FailsToStart, next_life}
use Rattle.xa_desk.specs.declared.domain.Domain.{Domain}
use Rattle.xa_desk.specs.declared.desk.Desk.{Desk}
use Rattle.xa_desk.specs.declared.stopped.Stopped.TheVariants.{Here}
use Rattle.xa_desk.specs.Desks.{Leads}
use Rattle.xa_desk.specs.Serving.{IsServing, IsSentFor}
use Rattle.xa_server_worker.specs.declared.working.ServerWorker.{ServerWorker}
use Rattle.xa_server_worker.specs.Lives.{generation_in, lives_in, failed_starts, calls_of_all, starts_of, HasStarted, HasStartedSoFar, IsHanded, IsLived, HandsOn, IsCut}
use Rattle.xa_server_worker.specs.Working.{cut_in}
use Rattle.xa_server_worker.specs.Steps.{Steps}
use Rattle.xa_server_worker.specs.Standing.{Goes, HasLived, HasCalled, IsAtWork, IsOff, IsIn, HasEnded}
use Rattle.xa_server_worker.specs.Behind.{ToldBefore, ToldBy}
use Rattle.xa_server_worker.proofs.Behind.{still_behind, push_behind, start_calm, told_last}
use Rattle.xa_server_worker.proofs.Stepping.{noted_steps, halted_own, halted_steps, halted_at}
use Rattle.xa_server_worker.proofs.Keeping.{handed_more, lived_one, spares_by, called_still, stops_none, skip_count}
use Rattle.xa_server_worker.proofs.Lasting.{number_of, starts_count, idle_out, lives_moved, started_on, lives_hand, none_cut, none_off, halts, goes_by}
use Rattle.xa_server_worker.specs.Reasons.{ShowsReason}

-- ---- what the starter shows

asked_more : (name : List ℕ) (n : ℕ) (asked asked' : Option (List (List ℕ × Generation))) → AsksFor asked asked' name (record { 0 = n + 1 }) → IfSome asked (λ all. all ≡ starts_of name n) → IfSome asked' (λ all. all ≡ starts_of name (n + 1))
asked_more name n None asked' asks is = subst (λ o. IfSome o (λ all. all ≡ starts_of name (n + 1))) (sym asks) tt
asked_more name n (Some all) asked' asks is =
    subst (λ o. IfSome o (λ l. l ≡ starts_of name (n + 1))) (sym asks)
    (ap (λ (l : List (List ℕ × Generation)). l ++ (name, record { 0 = n + 1 }) ∷ []) is ∙ ap (λ (m : ℕ). starts_of name n ++ (name, record { 0 = m }) ∷ []) (add-one n) ∙ ap (starts_of name) (sym (add-one n)))

-- one start more
started_more : (name : List ℕ) (n failed : ℕ) (shows' shown : StarterShows) → AsksFor shown.asked shows'.asked name (record { 0 = n + 1 }) → shows'.faults ≡ shown.faults → HasStarted name n failed shown → HasStarted name (n + 1) failed shows'
started_more name n failed shows' shown asks faults is = record { asked = asked_more name n shown.asked shows'.asked asks is.asked; counts = faults ∙ is.counts }

-- which failed
failed_more : (name : List ℕ) (n failed : ℕ) (shows' shown : StarterShows) → AsksFor shown.asked shows'.asked name (record { 0 = n + 1 }) → Rose shown.faults shows'.faults → HasStarted name n failed shown → HasStarted name (n + 1) (failed + 1) shows'
failed_more name n failed shows' shown asks rose is = record { asked = asked_more name n shown.asked shows'.asked asks is.asked; counts = let counts = is.counts in omega (arith, rose, counts) }

-- ---- a start among the events

-- of a life that isn't begun nothing was noted
takes_none : (server g : ℕ) (e : Event) → is_of server g e ≡ false → is_take_in server g e ≡ false
takes_none server g (Take t) other = other
takes_none server g _ other = refl

comes_none : (server g : ℕ) (e : Event) (past : List Event) → is_of server g e ≡ false → came_at server g e past ≡ []
comes_none server g (End e) past other = rw other refl
comes_none server g (Forward f) past other = rw other refl
comes_none server g _ past other = refl

came_none : (server g : ℕ) (own : List Event) → All (λ (e : Event). is_of server g e ≡ false) own → came_in server g own ≡ []
came_none server g [] none = refl
came_none server g (e ∷ own) none =
    ap (λ (os : List Occurrence). os ++ came_at server g e own) (came_none server g own (All-tail (λ (x : Event). is_of server g x ≡ false) e own none)) ∙ comes_none server g e own (All-head (λ (x : Event). is_of server g x ≡ false) e own none)

counts_none : (p : Event → Bool) (own : List Event) → All (λ (e : Event). p e ≡ false) own → count p own ≡ 0
counts_none p own none = sym (ap (count p) (append-nil own)) ∙ skip_count p own [] none

-- the worker with what it served there
abbrev pub served_at : {L T : Type 0} → ServerWorker L T → Served L T → Desk → ServerWorker L T
served_at w served desk = record w { desk = desk; served = served }

module _ {L T : Type 0} {d : Domain} {shows : T → StarterShows} (w : ServerWorker L T) (off : IsOff d shows w) (served' : Served L T) (desk' : Desk) (leads : Leads d w.desk desk') (seat : desk'.caller.seat ≡ w.desk.caller.seat) (serving : IsServing d w.queue.0 served'.slot desk')
    (name : (shows served'.starter).name ≡ (shows w.served.starter).name) (lives : served'.lives.items ≡ w.served.lives.items) where
  -- lives that ended stay so behind an event that is of none
  ended_still : {more : List Event} → Steps d more w.desk desk' → ((g : ℕ) → All (λ (e : Event). is_of w.served.slot.server.0 g e ≡ false) more) → All (λ (e : Event). is_call_of (caller_of d.clients w.served.slot.server.0) e ≡ false) more
      → All (IsLived d w.name w.queue.0 w.served.slot.server.0 desk') served'.lives.items
  ended_still steps none idle =
      subst (All (IsLived d w.name w.queue.0 w.served.slot.server.0 desk')) (sym {A = List Ending} lives)
      (All-weaker (IsLived d w.name w.queue.0 w.served.slot.server.0 w.desk) (IsLived d w.name w.queue.0 w.served.slot.server.0 desk') (λ over is. lived_one (spares_by steps w.served.slot.server.0 (over.life.generation.0 + 1) (number_of off.at.serving) (λ g apart. none g) idle) w.name w.queue.0 over (λ same. absurd (omega (arith, same))) is) w.served.lives.items off.at.lived.each)

  work_behind : {more : List Event} {going : List LifeState} {n f : ℕ} → Steps d more w.desk desk' → HasStarted w.name n f (shows served'.starter) → served'.slot.made ≡ n → failed_starts w.served.slot.server.0 (theirs desk'.caller.work) ≡ f → HasLived d w.name w.queue.0 w.served.slot.server.0 n desk' served'.lives.items (map (λ (life : LifeState). life.generation) going)
      → HasCalled d (calls_of_all served'.lives.items ++ flat_map calls_of going) desk'
      → served'.slot.server ≡ w.served.slot.server → served'.slot.gone ≡ w.served.slot.gone → ToldBy going desk' → IsAtWork d shows (served_at w served' desk') going
  work_behind steps started made failed lived called same gone told = record {
    is = leads.desk;
    serving = serving;
    named_so = name ∙ off.at.named_so;
    started = started_on made (ap (λ s. failed_starts s.0 (theirs desk'.caller.work)) same ∙ failed) refl started;
    lived = lives_moved (ap (λ s. s.0) same) made lived;
    called = called;
    left = gone ∙ off.at.left;
    cut = off.at.cut;
    told = told;
  }

  -- an event of no life and of no call tells nothing in a life that isn't begun
  still_untold : (e : Event) (h : ℕ) → is_of w.served.slot.server.0 h e ≡ false → is_call_of (caller_of d.clients w.served.slot.server.0) e ≡ false → w.served.slot.made < h → due_in_life d.clients w.served.slot.server.0 h (e ∷ theirs w.desk.caller.work) ≡ []
  still_untold e h other idle above =
      due_beside d.clients w.served.slot.server.0 h (e ∷ []) (theirs w.desk.caller.work) (All-cons (λ (x : Event). is_of w.served.slot.server.0 h x ≡ false) e [] other (All-nil (λ (x : Event). is_of w.served.slot.server.0 h x ≡ false)))
      (All-cons (λ (x : Event). is_call_of (caller_of d.clients w.served.slot.server.0) x ≡ false) e [] idle (All-nil (λ (x : Event). is_call_of (caller_of d.clients w.served.slot.server.0) x ≡ false))) ∙ off.at.lived.untold h above

  -- its calls are what they were
  called_off : {more : List Event} → Steps d more w.desk desk' → All (λ (e : Event). is_call_of w.desk.caller.work.id.0 e ≡ false) more → HasCalled d (calls_of_all served'.lives.items ++ []) desk'
  called_off steps idle = subst (λ (l : List Ending). HasCalled d (calls_of_all l ++ []) desk') (sym {A = List Ending} lives) (called_still steps _ idle off.at.called)

  called_by : (life : LifeState) → calls_of life ≡ [] → {more : List Event} → Steps d more w.desk desk' → All (λ (e : Event). is_call_of w.desk.caller.work.id.0 e ≡ false) more → HasCalled d (calls_of_all served'.lives.items ++ (calls_of life ++ [])) desk'
  called_by life none steps idle = subst (λ (ops : List Op). HasCalled d (calls_of_all served'.lives.items ++ (ops ++ [])) desk') (sym none) (called_off steps idle)

  -- ---- it starts

  pub starts_in : (tick : ℕ) (life : LifeState) → Begins w.name tick life served'.slot w.served.slot desk'.caller.work w.desk.caller.work → AsksFor (shows w.served.starter).asked (shows served'.starter).asked w.name (next_life w.served.slot) → (shows served'.starter).faults ≡ (shows w.served.starter).faults
      → vec_len served'.lives < vec_capacity served'.lives → IsIn d shows (Idle life.generation) AwaitsReady 0 life (served_at w served' desk')
  starts_in tick life begins asks faults room =
      let starts = begins.starts in
      let b : Started = record { server = w.served.slot.server; generation = next_life w.served.slot; tick = tick } in
      let steps : Steps d (Start b ∷ []) w.desk desk' = noted_steps starts.stamp (Start b) _ leads (number_of off.at.serving) starts.noted in
      let g : ℕ = w.served.slot.made + 1 in
      let gen : life.generation ≡ next_life w.served.slot = ap (λ (l : LifeState). l.generation) begins.is in
      let here : (b.server.0 == w.served.slot.server.0) ≡ true = eq-eqb w.served.slot.server.0 w.served.slot.server.0 refl in
      let unborn : (h : ℕ) → w.served.slot.made < h → All (λ (e : Event). is_of w.served.slot.server.0 h e ≡ false) (theirs desk'.caller.work) =
      λ h above. subst (All (λ (e : Event). is_of w.served.slot.server.0 h e ≡ false)) (sym {A = List Event} steps.own) (All-cons (λ (e : Event). is_of w.served.slot.server.0 h e ≡ false) (Start b) (theirs w.desk.caller.work) refl (off.at.lived.unborn h above)) in
      let untold : (h : ℕ) → w.served.slot.made < h → due_in_life d.clients w.served.slot.server.0 h (theirs desk'.caller.work) ≡ [] = λ h above. ap (due_in_life d.clients w.served.slot.server.0 h) steps.own ∙ still_untold (Start b) h refl refl above in
      let none = unborn g (omega arith) in
      let lived : HasLived d w.name w.queue.0 w.served.slot.server.0 g desk' served'.lives.items (life.generation ∷ []) = record {
        are = ap (λ (l : List Ending). map (λ (over : Ending). over.life.generation) l ++ life.generation ∷ []) lives
            ∙ ap (λ (gs : List Generation). gs ++ life.generation ∷ []) (sym (append-nil (map (λ (over : Ending). over.life.generation) w.served.lives.items)) ∙ off.at.lived.are)
            ∙ ap (λ (h : Generation). lives_in w.served.slot.server.0 (theirs w.desk.caller.work) ++ h ∷ []) gen
            ∙ sym (ap (lives_in w.served.slot.server.0) steps.own ∙ ap (λ (y : Bool). reverse (cons_option (if y then Some b.generation else None) (filter_map (generation_in w.served.slot.server.0) (theirs w.desk.caller.work)))) here ∙ reverse-append (b.generation ∷ []) (filter_map (generation_in w.served.slot.server.0) (theirs w.desk.caller.work)));
        each = ended_still steps (λ h. All-cons (λ (e : Event). is_of w.served.slot.server.0 h e ≡ false) (Start b) [] refl (All-nil (λ (e : Event). is_of w.served.slot.server.0 h e ≡ false))) (All-cons (λ (e : Event). is_call_of (caller_of d.clients w.served.slot.server.0) e ≡ false) (Start b) [] refl (All-nil (λ (e : Event). is_call_of (caller_of d.clients w.served.slot.server.0) e ≡ false)));
        earlier = subst (All (λ (over : Ending). over.life.generation.0 + 1 ≤ g)) (sym {A = List Ending} lives) (All-weaker (λ (over : Ending). over.life.generation.0 + 0 ≤ w.served.slot.made) (λ (over : Ending). over.life.generation.0 + 1 ≤ g) (λ over low. omega (arith, low)) w.served.lives.items off.at.lived.earlier);
        unborn = λ h above. unborn h (omega (arith, above));
        untold = λ h above. untold h (omega (arith, above));
      } in
      let made : served'.slot.made ≡ g = ap (λ (s : ServerSlot). s.made) starts.left in
      let follows : Follows d.setup d.clients (ShowsReason d desk') life (theirs desk'.caller.work) = subst (λ (l : LifeState). Follows d.setup d.clients (ShowsReason d desk') l (theirs desk'.caller.work)) (sym begins.is)
      (follows_begun d.setup d.clients w.name w.served.slot.server (next_life w.served.slot) life.link (theirs desk'.caller.work)
      (counts_none (stops_life w.served.slot.server.0 g) (theirs desk'.caller.work) (All-weaker (λ (e : Event). is_of w.served.slot.server.0 g e ≡ false) (λ (e : Event). stops_life w.served.slot.server.0 g e ≡ false) (stops_none w.served.slot.server.0 g) (theirs desk'.caller.work) none))
      (counts_none (is_take_in w.served.slot.server.0 g) (theirs desk'.caller.work) (All-weaker (λ (e : Event). is_of w.served.slot.server.0 g e ≡ false) (λ (e : Event). is_take_in w.served.slot.server.0 g e ≡ false) (takes_none w.served.slot.server.0 g) (theirs desk'.caller.work) none))
      (untold g (omega arith))
      (came_none w.served.slot.server.0 g (theirs desk'.caller.work) none)) in
      record {
        at = work_behind steps (started_more w.name w.served.slot.made (failed_starts w.served.slot.server.0 (theirs w.desk.caller.work)) (shows served'.starter) (shows w.served.starter) asks faults off.at.started) made (ap (failed_starts w.served.slot.server.0) steps.own) lived
            (called_by life (ap calls_of begins.is) steps (All-cons (λ (e : Event). is_call_of w.desk.caller.work.id.0 e ≡ false) (Start b) [] refl (All-nil (λ (e : Event). is_call_of w.desk.caller.work.id.0 e ≡ false))))
            (ap (λ (s : ServerSlot). s.server) starts.left) (ap (λ (s : ServerSlot). s.gone) starts.left)
            (start_calm w.desk desk' (record { stamp = starts.stamp; event = Start b }) (ap (λ (v : WorkState). v.own) starts.noted.made) seat tt refl off.at.told);
        last = record {
          server = ap (λ (l : LifeState). l.server) begins.is ∙ ap (λ (s : ServerSlot). s.server) (sym starts.left);
          named = ap (λ (l : LifeState). l.name) begins.is;
          number = ap (λ h. h.0) gen ∙ sym made;
        };
        going = record {
          follows = follows;
          handed = subst (λ (l : LifeState). AtEach (IsHanded l.server.0 l.generation.0 (invokes_of l) (IsSentFor d w.queue.0 desk')) (theirs desk'.caller.work)) (sym begins.is)
              (subst (AtEach (IsHanded w.served.slot.server.0 g [] (IsSentFor d w.queue.0 desk'))) (append-nil (theirs desk'.caller.work)) (handed_more w.served.slot.server.0 g [] (IsSentFor d w.queue.0 desk') (theirs desk'.caller.work) [] none tt));
        };
        does = ap (λ (s : ServerSlot). s.doing) starts.left ∙ ap Idle (sym gen);
        turns = ap (λ (l : LifeState). l.turn) begins.is;
        asked = ap (λ (l : LifeState). length (invokes_of l)) begins.is ∙ ap (λ (l : LifeState). length (finishes_in l.said) + 0) (sym begins.is);
        room = room;
      }

  pub starts_goes : (tick : ℕ) (life : LifeState) → Begins w.name tick life served'.slot w.served.slot desk'.caller.work w.desk.caller.work → Goes d w (served_at w served' desk')
  starts_goes tick life begins =
      let b : Started = record { server = w.served.slot.server; generation = next_life w.served.slot; tick = tick } in
      goes_by w (served_at w served' desk') (Start b ∷ []) (noted_steps begins.starts.stamp (Start b) _ leads (number_of off.at.serving) begins.starts.noted) (ap (λ (s : ServerSlot). s.server) begins.starts.left) refl refl

  -- its start fails

  pub fails_off : (tick : ℕ) → FailsToStart tick (next_life w.served.slot) served'.slot w.served.slot desk'.caller.work w.desk.caller.work → AsksFor (shows w.served.starter).asked (shows served'.starter).asked w.name (next_life w.served.slot) → Rose (shows w.served.starter).faults (shows served'.starter).faults
      → IsOff d shows (served_at w served' desk') × ToldBefore desk'
  fails_off tick fails asks rose =
      let b : Started = record { server = w.served.slot.server; generation = next_life w.served.slot; tick = tick } in
      let steps : Steps d (StartFailed b ∷ []) w.desk desk' = noted_steps fails.stamp (StartFailed b) _ leads (number_of off.at.serving) fails.noted in
      let g : ℕ = w.served.slot.made + 1 in
      let here : (b.server.0 == w.served.slot.server.0) ≡ true = eq-eqb w.served.slot.server.0 w.served.slot.server.0 refl in
      let told : ToldBefore desk' = push_behind w.desk desk' ⊥ ⊥ (record { stamp = fails.stamp; event = StartFailed b }) (ap (λ (v : WorkState). v.own) fails.noted.made) seat tt off.at.told in (
        record {
          at = work_behind {going = []} steps (failed_more w.name w.served.slot.made (failed_starts w.served.slot.server.0 (theirs w.desk.caller.work)) (shows served'.starter) (shows w.served.starter) asks rose off.at.started) (ap (λ (s : ServerSlot). s.made) fails.left)
              (ap (failed_starts w.served.slot.server.0) steps.own ∙ ap (λ (y : Bool). cond y (failed_starts w.served.slot.server.0 (theirs w.desk.caller.work) + 1) (failed_starts w.served.slot.server.0 (theirs w.desk.caller.work))) here)
              (record {
                are = ap (λ (l : List Ending). map (λ (over : Ending). over.life.generation) l ++ []) lives ∙ off.at.lived.are ∙ ap (lives_in w.served.slot.server.0) (sym steps.own);
                each = ended_still steps (λ h. All-cons (λ (e : Event). is_of w.served.slot.server.0 h e ≡ false) (StartFailed b) [] refl (All-nil (λ (e : Event). is_of w.served.slot.server.0 h e ≡ false)))
                    (All-cons (λ (e : Event). is_call_of (caller_of d.clients w.served.slot.server.0) e ≡ false) (StartFailed b) [] refl (All-nil (λ (e : Event). is_call_of (caller_of d.clients w.served.slot.server.0) e ≡ false)));
                earlier = subst (All (λ (over : Ending). over.life.generation.0 + 0 ≤ g)) (sym {A = List Ending} lives) (All-weaker (λ (over : Ending). over.life.generation.0 + 0 ≤ w.served.slot.made) (λ (over : Ending). over.life.generation.0 + 0 ≤ g) (λ over low. omega (arith, low)) w.served.lives.items off.at.lived.earlier);
                unborn = λ h above. subst (All (λ (e : Event). is_of w.served.slot.server.0 h e ≡ false)) (sym {A = List Event} steps.own) (All-cons (λ (e : Event). is_of w.served.slot.server.0 h e ≡ false) (StartFailed b) (theirs w.desk.caller.work) refl (off.at.lived.unborn h (omega (arith, above))));
                untold = λ h above. ap (due_in_life d.clients w.served.slot.server.0 h) steps.own ∙ still_untold (StartFailed b) h refl refl (omega (arith, above));
              })
              (called_off steps (All-cons (λ (e : Event). is_call_of w.desk.caller.work.id.0 e ≡ false) (StartFailed b) [] refl (All-nil (λ (e : Event). is_call_of w.desk.caller.work.id.0 e ≡ false))))
              (ap (λ (s : ServerSlot). s.server) fails.left) (ap (λ (s : ServerSlot). s.gone) fails.left) (told_last ⊥ desk' told);
          off = ap (λ (s : ServerSlot). s.doing) fails.left ∙ off.off;
          up = ap (λ (s : ServerSlot). s.shut) fails.left ∙ off.up;
        },
        told,
      )

  -- or the worker halts

  halts_with : (n : ℕ) (halt : Halt) → served'.slot ≡ w.served.slot → HaltsWith n desk'.caller.work w.desk.caller.work halt → HasStartedSoFar w.name w.served.slot.made (failed_starts w.served.slot.server.0 (theirs w.desk.caller.work)) (shows served'.starter) → HasEnded d shows (Some (Here halt)) (served_at w served' desk')
  halts_with n halt same noted so_far =
      let still = halted_steps n halt leads noted in
      let own_same : theirs desk'.caller.work ≡ theirs w.desk.caller.work = still.own in
      halts (served_at w served' desk') (Here halt) leads.desk (number_of serving) (idle_out desk' serving.idle) serving.hand (starts_count serving) (name ∙ off.at.named_so)
      (ap (λ (l : List Ending). map (λ (over : Ending). over.life.generation) l ++ map (λ (life : LifeState). life.generation) (cut_in w.cut)) lives ∙ ap (λ (o : Option LifeState). map (λ (over : Ending). over.life.generation) w.served.lives.items ++ map (λ (life : LifeState). life.generation) (cut_in o)) off.at.cut ∙ off.at.lived.are
      ∙ sym (ap (λ (s : ServerSlot). lives_in s.server.0 (theirs desk'.caller.work)) same ∙ ap (lives_in w.served.slot.server.0) own_same))
      (subst (λ (s : ServerSlot). All (HandsOn d w.queue.0 s.server.0 desk') (map (λ (over : Ending). over.life) served'.lives.items ++ cut_in w.cut)) (sym same)
      (none_cut (HandsOn d w.queue.0 w.served.slot.server.0 desk') (map (λ (over : Ending). over.life) served'.lives.items) w.cut off.at.cut
      (lives_hand served'.lives.items (ended_still still (λ g. All-nil (λ (e : Event). is_of w.served.slot.server.0 g e ≡ false)) (All-nil (λ (e : Event). is_call_of (caller_of d.clients w.served.slot.server.0) e ≡ false))))))
      (none_off (IsCut w.name served'.slot.server.0 (theirs desk'.caller.work)) w.cut off.at.cut)
      (subst (λ (s : ServerSlot). HasStartedSoFar w.name s.made (failed_starts s.server.0 (theirs desk'.caller.work)) (shows served'.starter)) (sym same) (subst (λ (l : List Event). HasStartedSoFar w.name w.served.slot.made (failed_starts w.served.slot.server.0 l) (shows served'.starter)) (sym {A = List Event} own_same) so_far))
      (still_behind w.desk desk' ⊤ (halted_own w.desk desk' n halt noted) seat off.at.told) (halted_at w.desk desk' n halt noted)

  pub start_halts : (halt : Halt) → served'.slot ≡ w.served.slot → Halts w.name (next_life w.served.slot) (shows served'.starter) (shows w.served.starter) desk'.caller.work w.desk.caller.work halt → HasEnded d shows (Some (Here halt)) (served_at w served' desk')
  start_halts halt same (inl unasked) = halts_with 3 halt same (subst (HaltsWith 3 desk'.caller.work w.desk.caller.work) (sym unasked.starved) unasked.noted) (inl (started_on refl refl unasked.starter off.at.started))
  start_halts halt same (inr (inl begun_so)) = halts_with 3 halt same begun_so.halts (inr (inl (started_more w.name w.served.slot.made (failed_starts w.served.slot.server.0 (theirs w.desk.caller.work)) (shows served'.starter) (shows w.served.starter) begun_so.asked begun_so.faults off.at.started)))
  start_halts halt same (inr (inr failed)) = halts_with 1 halt same failed.halts (inr (inr (failed_more w.name w.served.slot.made (failed_starts w.served.slot.server.0 (theirs w.desk.caller.work)) (shows served'.starter) (shows w.served.starter) failed.asked failed.faults off.at.started)))
