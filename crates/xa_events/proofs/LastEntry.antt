-- How a request was sent last is known at the queue where it waits, or from which its server took it.
use Rattle.std.proofs.Common.{◌≡◌, ℕ, ◌+◌, Bool, true, false, cond, List, [], ◌∷◌, Option, Some, None, inl, inr, refl, sym, ◌∙◌, ap, subst, arith, eq-eqb, eqb-true, option_map}
use Rattle.std.specs.Prelude.{IsSomeAnd}
use Rattle.std.proofs.lemmas.Bool.{cases_Bool, cond_both}
use Rattle.xa_types.specs.declared.ids.RequestId.{RequestId}
use Rattle.xa_types.specs.declared.ids.Generation.{Generation}
use Rattle.xa_types.specs.declared.setup.Setup.{Setup}
use Rattle.xa_types.specs.Setup.{queue_of}
use Rattle.xa_events.specs.declared.event.Event.{Event}
use Rattle.xa_events.specs.declared.event.Event.TheVariants.{Accept, Take, Forward, End}
use Rattle.xa_events.specs.declared.event.Accepted.{Accepted}
use Rattle.xa_events.specs.declared.event.Forwarded.{Forwarded}
use Rattle.xa_events.specs.declared.event.Outcome.{Outcome}
use Rattle.xa_events.specs.declared.event.Outcome.TheVariants.{Died}
use Rattle.xa_events.specs.declared.event.Doing.TheVariants.{Busy}
use Rattle.xa_events.specs.Words.{latest, count, IsEarlier}
use Rattle.xa_events.specs.State.{State, noted, opening}
use Rattle.xa_events.specs.Homes.{Home, at_home, is_take_by}
use Rattle.xa_events.specs.Homes.Home.{QueueHome}
use Rattle.xa_events.specs.Server.{moves_server, doing, doing_after}
use Rattle.xa_events.specs.Caller.{is_conversational}
use Rattle.xa_events.specs.Request.{is_entry_of, is_forward_of, SentAs, sent_as, sent_after}
use Rattle.xa_events.specs.Cases.{Case, ForwardBefore, RowStands, RowAdmits}
use Rattle.xa_events.specs.Local.{home_events, Forwardable}
use Rattle.xa_events.proofs.WordsLemmas.{same_request_is, latest_yes, latest_no, count_yes, count_no, count_grows, counts_earlier}
use Rattle.xa_events.proofs.Servers.{doing_both}
use Rattle.xa_events.proofs.Stages.{Stage, stage, stage_by, moves, Found, found, Agree, agree_none, agree_more}
use Rattle.xa_events.proofs.Stages.Stage.{Unknown, Waits, Held, Over}

-- ---- the last entry, by its home

-- where a request waits, the queue's own events show how it was sent last; at first nothing does
abbrev pub Placed : Setup → ℕ → RequestId → List Event → Stage → Type 0
Placed setup clients r past Unknown = latest (is_entry_of r) past ≡ None
Placed setup clients r past (Waits queue) = latest (is_entry_of r) (home_events setup clients (QueueHome queue) past) ≡ latest (is_entry_of r) past
Placed setup clients r past (Held server) = Unit {0}
Placed setup clients r past Over = Unit {0}

-- the last entry of the request says how often it was forwarded, and whether it begins a conversation
abbrev pub Shows : RequestId → List Event → Option Event → Type 0
Shows r past None = count (is_forward_of r) past ≡ 0
Shows r past (Some (Accept a)) = (count (is_forward_of r) past ≡ 0) × IsSomeAnd (sent_as r past) (λ (sent : SentAs). sent.mode ≡ a.mode)
Shows r past (Some (Forward f)) = (count (is_forward_of r) past ≡ f.hop) × IsSomeAnd (sent_as r past) (λ (sent : SentAs). is_conversational sent.mode ≡ false)
Shows r past _ = ⊥

-- what is known of each state of a run
pub record IsKnown (s : State) : Type 0 where
  pub agree : Agree s
  pub placed : (r : RequestId) → Placed s.setup s.clients r s.past (stage r s.past)
  pub seen : (server : ℕ) (generation : Generation) (r : RequestId) → doing server s.past ≡ Busy generation r → (moment : List Event) → IsEarlier moment s.past
      → count (is_take_by server) moment ≡ count (is_take_by server) s.past
      → latest (is_entry_of r) (home_events s.setup s.clients (QueueHome (queue_of s.setup server)) moment) ≡ latest (is_entry_of r) s.past
  pub shows : (r : RequestId) → Shows r s.past (latest (is_entry_of r) s.past)

pub known_none : (setup : Setup) (clients : ℕ) → IsKnown (opening setup clients)
unfolding doing stage
known_none setup clients = record { agree = agree_none setup clients; placed = λ r. refl; seen = λ server generation r h. cc h; shows = λ r. refl }

-- ---- one event more

-- an entry of a request moves it
entry_moves : (r : RequestId) (e : Event) → is_entry_of r e ≡ true → moves r e ≡ true
entry_moves r (Accept a) h = h
entry_moves r (Forward f) h = h
entry_moves r _ h = absurd (cc h)

-- what moves a request, and leaves it waiting at a queue, is an entry there
waits_by : (setup : Setup) (clients : ℕ) (r : RequestId) (e : Event) (queue : ℕ) → moves r e ≡ true → stage_by e ≡ Waits queue → (is_entry_of r e ≡ true) × (at_home setup clients (QueueHome queue) e ≡ true)
waits_by setup clients r (Accept a) queue m is = (m, eq-eqb a.queue.0 queue (cc is))
waits_by setup clients r (Forward f) queue m is = (m, eq-eqb f.queue.0 queue (cc is))
waits_by setup clients r _ queue m is = absurd (cc is)

not_unknown : (e : Event) → stage_by e ≡ Unknown → ⊥
not_unknown (Accept a) h = cc h
not_unknown (Take t) h = cc h
not_unknown (Forward f) h = cc h
not_unknown _ h = cc h

-- the last entry at a home, where the event is none
same_last : (setup : Setup) (clients : ℕ) (home : Home) (r : RequestId) (e : Event) (past : List Event) → is_entry_of r e ≡ false → latest (is_entry_of r) (home_events setup clients home (e ∷ past)) ≡ latest (is_entry_of r) (home_events setup clients home past)
same_last setup clients home r e past none =
    cond_both (at_home setup clients home e) (e ∷ home_events setup clients home past) (home_events setup clients home past) (λ es. latest (is_entry_of r) es ≡ latest (is_entry_of r) (home_events setup clients home past))
    (λ y. latest_no (is_entry_of r) e (home_events setup clients home past) none) (λ n. refl)

unmoved : (r : RequestId) (e : Event) → moves r e ≡ false → is_entry_of r e ≡ false
unmoved r e n = elim (cases_Bool (is_entry_of r e)) [ inl y ↦ let m = entry_moves r e y in absurd (cc (m, n)) | inr k ↦ k ]

module _ (s : State) (e : Event) (case : Case s e) (known : IsKnown s) where
  abbrev past : List Event
  past = s.past

  abbrev home : ℕ → List Event → List Event
  home queue es = home_events s.setup s.clients (QueueHome queue) es

  placed_moved : (r : RequestId) (new : Stage) → moves r e ≡ true → stage_by e ≡ new → Placed s.setup s.clients r (e ∷ past) new
  placed_moved r Unknown m is = absurd (not_unknown e is)
  placed_moved r (Waits queue) m is =
      let w = waits_by s.setup s.clients r e queue m is in
      let here : home queue (e ∷ past) ≡ e ∷ home queue past = ap (λ b. cond b (e ∷ home queue past) (home queue past)) w.1 in
      ap (latest (is_entry_of r)) here ∙ (latest_yes (is_entry_of r) e (home queue past) w.0 ∙ sym (latest_yes (is_entry_of r) e past w.0))
  placed_moved r (Held server) m is = tt
  placed_moved r Over m is = tt

  placed_still : (r : RequestId) (old : Stage) → moves r e ≡ false → Placed s.setup s.clients r past old → Placed s.setup s.clients r (e ∷ past) old
  placed_still r Unknown n h = latest_no (is_entry_of r) e past (unmoved r e n) ∙ h
  placed_still r (Waits queue) n h =
      let none = unmoved r e n in
      same_last s.setup s.clients (QueueHome queue) r e past none ∙ (h ∙ sym (latest_no (is_entry_of r) e past none))
  placed_still r (Held server) n h = tt
  placed_still r Over n h = tt

  placed_more : (r : RequestId) → Placed s.setup s.clients r (e ∷ past) (stage r (e ∷ past))
  unfolding stage
  placed_more r =
      cond_both (moves r e) (stage_by e) (stage r past) (λ x. Placed s.setup s.clients r (e ∷ past) x) (λ m. placed_moved r (stage_by e) m refl) (λ n. placed_still r (stage r past) n (known.placed r))

  -- ---- what a busy server has seen

  itself : (es : List Event) → IsEarlier es es
  itself [] = refl
  itself (x ∷ es) = inl refl

  module _ (server : ℕ) (generation : Generation) (r : RequestId) where
    abbrev taken : Event → Bool
    taken = is_take_by server

    abbrev queue : ℕ
    queue = queue_of s.setup server

    -- the take that makes it busy: a moment that has all of its takes has this one
    by_take : (moment : List Event) → is_entry_of r e ≡ false → taken e ≡ true → stage r past ≡ Waits queue → IsEarlier moment (e ∷ past) → count taken moment ≡ count taken (e ∷ past)
        → latest (is_entry_of r) (home queue moment) ≡ latest (is_entry_of r) (e ∷ past)
    by_take moment none mine waits (inl is) same =
        let there = subst (Placed s.setup s.clients r past) waits (known.placed r) in
        ap (λ es. latest (is_entry_of r) (home queue es)) is ∙ (same_last s.setup s.clients (QueueHome queue) r e past none ∙ (there ∙ sym (latest_no (is_entry_of r) e past none)))
    by_take moment none mine waits (inr older) same = absurd (omega (arith, counts_earlier taken moment past older, count_yes taken e past mine, same))

    by_other : (moment : List Event) → is_entry_of r e ≡ false → doing server past ≡ Busy generation r → IsEarlier moment (e ∷ past) → count taken moment ≡ count taken (e ∷ past)
        → latest (is_entry_of r) (home queue moment) ≡ latest (is_entry_of r) (e ∷ past)
    by_other moment none busy (inl is) same =
        ap (λ es. latest (is_entry_of r) (home queue es)) is ∙ (same_last s.setup s.clients (QueueHome queue) r e past none ∙ (known.seen server generation r busy past (itself past) refl ∙ sym (latest_no (is_entry_of r) e past none)))
    by_other moment none busy (inr older) same =
        let all : count taken moment ≡ count taken past = omega (arith, counts_earlier taken moment past older, count_grows taken e past, same) in
        known.seen server generation r busy moment older all ∙ sym (latest_no (is_entry_of r) e past none)

    busy_by : (x : Event) → x ≡ e → moves_server server x ≡ true → doing_after (Some x) ≡ Busy generation r → (is_entry_of r e ≡ false) × (taken e ≡ true) × (stage r past ≡ Waits queue)
    busy_by (Take t) same of is =
        let its : t.server.0 ≡ server = eqb-true t.server.0 server of in
        let case : Case s (Take t) = subst (λ x. Case s x) (sym same) case in
        let waits = subst (λ (q : RequestId). stage q past ≡ Waits (queue_of s.setup t.server.0)) (cc is) (known.agree.waits (queue_of s.setup t.server.0) t.request case.home.waits) in
        subst (λ x. (is_entry_of r x ≡ false) × (taken x ≡ true) × (stage r past ≡ Waits queue)) same (
          refl,
          of,
          waits ∙ ap (λ n. Waits (queue_of s.setup n)) its,
        )
    busy_by (End x) same of is = absurd (not_busy_after x.outcome x.generation is)
      where
        not_busy_after : (outcome : Outcome) (g : Generation) → doing_after (Some (End (record x { outcome = outcome; generation = g }))) ≡ Busy generation r → ⊥
        not_busy_after Died g h = cc h
        not_busy_after _ g h = cc h
    busy_by _ same of is = absurd (cc is)

    no_entry : doing server past ≡ Busy generation r → moves_server server e ≡ false → is_entry_of r e ≡ false
    no_entry busy n = elim (cases_Bool (is_entry_of r e)) [
      | inl y ↦ absurd (held e refl y)
      | inr k ↦ k
    ]
      where
        held : (x : Event) → x ≡ e → is_entry_of r e ≡ true → ⊥
        held (Accept a) same y =
            let f = subst (Found s.setup e) (known.agree.busy server generation r busy) (found s e r case known.agree (entry_moves r e y)) in
            let g = subst (λ x. Found s.setup x (Held server)) (sym same) f in absurd g
        held (Forward x) same y =
            let f = subst (Found s.setup e) (known.agree.busy server generation r busy) (found s e r case known.agree (entry_moves r e y)) in
            let g : x.server.0 ≡ server = subst (λ x. Found s.setup x (Held server)) (sym same) f in
            let m : moves_server server e ≡ true = subst (λ x. moves_server server x ≡ true) same (eq-eqb x.server.0 server g) in
            cc (m, n)
        held x same y = let z = subst (λ w. is_entry_of r w ≡ true) (sym same) y in cc z

    pub seen_more : doing server (e ∷ past) ≡ Busy generation r → (moment : List Event) → IsEarlier moment (e ∷ past) → count taken moment ≡ count taken (e ∷ past) → latest (is_entry_of r) (home queue moment) ≡ latest (is_entry_of r) (e ∷ past)
    seen_more = doing_both server e past (λ d. d ≡ Busy generation r → (moment : List Event) → IsEarlier moment (e ∷ past) → count taken moment ≡ count taken (e ∷ past) → latest (is_entry_of r) (home queue moment) ≡ latest (is_entry_of r) (e ∷ past))
        (λ y is moment. let b = busy_by e refl y is in by_take moment b.0 b.1 b.2)
        (λ n is moment. by_other moment (no_entry is n) is)

-- ---- what the last entry shows

some_map : {X Y : Type 0} (f : X → Y) (P : X → Type 0) (Q : Y → Type 0) → ((x : X) → P x → Q (f x)) → (o : Option X) → IsSomeAnd o P → IsSomeAnd (option_map f o) Q
some_map f P Q g None h = absurd h
some_map f P Q g (Some x) h = g x h

not_forward : (r : RequestId) (e : Event) → is_entry_of r e ≡ false → is_forward_of r e ≡ false
not_forward r (Forward f) h = h
not_forward r _ h = refl

not_sent : (r : RequestId) (e : Event) (before : Option SentAs) → is_entry_of r e ≡ false → sent_after r e before ≡ before
not_sent r (Accept a) before h = rw h refl
not_sent r (Forward f) before h = rw h refl
not_sent r _ before h = refl

shows_still : (r : RequestId) (e : Event) (earlier : List Event) (o : Option Event) → count (is_forward_of r) (e ∷ earlier) ≡ count (is_forward_of r) earlier → sent_as r (e ∷ earlier) ≡ sent_as r earlier → Shows r earlier o → Shows r (e ∷ earlier) o
shows_still r e earlier None count sent h = count ∙ h
shows_still r e earlier (Some (Accept a)) count sent h = (count ∙ h.0, subst (λ (o : Option SentAs). IsSomeAnd o (λ (sent : SentAs). sent.mode ≡ a.mode)) (sym sent) h.1)
shows_still r e earlier (Some (Forward f)) count sent h = (count ∙ h.0, subst (λ (o : Option SentAs). IsSomeAnd o (λ (sent : SentAs). is_conversational sent.mode ≡ false)) (sym sent) h.1)
shows_still r e earlier (Some _) count sent h = absurd h

shows_new : (s : State) (e : Event) (r : RequestId) → Case s e → IsKnown s → is_entry_of r e ≡ true → Shows r (e ∷ s.past) (Some e)
unfolding sent_as
shows_new s (Accept a) r case known y =
    let f = found s (Accept a) r case known.agree y in
    let none : latest (is_entry_of r) s.past ≡ None = at_first (stage r s.past) f (known.placed r) in
    let zero_times : count (is_forward_of r) s.past ≡ 0 = subst (Shows r s.past) none (known.shows r) in
    (zero_times, rw y refl)
  where
    at_first : (x : Stage) → Found s.setup (Accept a) x → Placed s.setup s.clients r s.past x → latest (is_entry_of r) s.past ≡ None
    at_first Unknown f p = p
    at_first _ f p = absurd f
shows_new s (Forward f) r case known y =
    let same = same_request_is f.request r y in
    let hop : f.hop ≡ count (is_forward_of r) s.past + 1 = subst (λ (q : RequestId). f.hop ≡ count (is_forward_of q) s.past + 1) same case.before.named.hop in
    let mode = subst (λ (q : RequestId). IsSomeAnd (sent_as q s.past) (λ (sent : SentAs). is_conversational sent.mode ≡ false)) same case.before.named.mode in (
      count_yes (is_forward_of r) (Forward f) s.past y ∙ sym hop,
      rw y (some_map (λ (sent : SentAs). record { service = f.service; queue = f.queue; routine = f.routine; priority = f.priority; mode = sent.mode; payload = f.payload; hop = f.hop })
          (λ (sent : SentAs). is_conversational sent.mode ≡ false) (λ (sent : SentAs). is_conversational sent.mode ≡ false) (λ sent h. h) (sent_as r s.past) mode),
    )
shows_new s _ r case known y = absurd (cc y)

shows_more : (s : State) (e : Event) (r : RequestId) → Case s e → IsKnown s → Shows r (e ∷ s.past) (latest (is_entry_of r) (e ∷ s.past))
unfolding sent_as
shows_more s e r case known =
    cond_both (is_entry_of r e) (Some e) (latest (is_entry_of r) s.past) (λ o. Shows r (e ∷ s.past) o) (λ y. shows_new s e r case known y)
    (λ n. shows_still r e s.past (latest (is_entry_of r) s.past) (count_no (is_forward_of r) e s.past (not_forward r e n)) (not_sent r e (sent_as r s.past) n) (known.shows r))

pub known_more : (s : State) (e : Event) → Case s e → IsKnown s → IsKnown (noted s e)
known_more s e case known = record {
  agree = agree_more s e case known.agree;
  placed = placed_more s e case known;
  seen = seen_more s e case known;
  shows = λ r. shows_more s e r case known;
}

-- ---- so a forward's mode and hop are what its server saw

pub shown_forwardable : (setup : Setup) (f : Forwarded) (past : List Event) → RowStands setup f.version f.service f.queue.0 (RowAdmits setup false f.routine f.payload) past → Shows f.request past (latest (is_entry_of f.request) past)
    → IsSomeAnd (latest (is_entry_of f.request) past) (Forwardable f.hop) → ForwardBefore setup f past
shown_forwardable setup f past row shows may = from (latest (is_entry_of f.request) past) shows may
  where
    as_accepted : (a : Accepted) → is_conversational a.mode ≡ false → (o : Option SentAs) → IsSomeAnd o (λ (sent : SentAs). sent.mode ≡ a.mode) → IsSomeAnd o (λ (sent : SentAs). is_conversational sent.mode ≡ false)
    as_accepted a none None h = absurd h
    as_accepted a none (Some sent) h = ap is_conversational h ∙ none

    from : (o : Option Event) → Shows f.request past o → IsSomeAnd o (Forwardable f.hop) → ForwardBefore setup f past
    from None shows may = absurd may
    from (Some (Accept a)) shows may = record { row = row; mode = as_accepted a may.0 (sent_as f.request past) shows.1; hop = may.1 ∙ sym (ap (λ n. n + 1) shows.0) }
    from (Some (Forward g)) shows may = record { row = row; mode = shows.1; hop = may ∙ sym (ap (λ n. n + 1) shows.0) }
    from (Some _) shows may = absurd may
