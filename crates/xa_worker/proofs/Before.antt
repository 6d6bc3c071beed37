-- What was seen with smaller stamps stands before in the merge.
use Rattle.std.proofs.Common.{◌≡◌, ◌⊎◌, ℕ, suc, ◌-◌, if◌then◌else◌, ◌<◌, ◌≤◌, ◌==◌, Bool, true, false, cond, List, [], ◌∷◌, ◌++◌, length, drop, Option, Some, None, inl, inr, refl, sym, ◌∙◌, ap, subst, arith, append_assoc, eq-eqb, eqb-true, leb-true, leb-false, if◌then◌else◌}
use Rattle.std.specs.Prelude.{IsSomeAnd, ◌&&◌, nat_le}
use Rattle.std.specs.List.{All, filter, list_any, cons_option}
use Rattle.std.proofs.lemmas.Bool.{cases_Bool, or_left, or_right, or_cases, and_parts}
use Rattle.std.proofs.lemmas.List.Elements.{All-nil, All-cons, All-head, All-tail, All-append, All-filter, All-weaker, All-contains, filter-append}
use Rattle.xa_types.specs.declared.setup.Setup.{Setup}
use Rattle.xa_types.specs.declared.stamp.Stamp.{Stamp}
use Rattle.xa_types.specs.declared.ids.RequestId.{RequestId}
use Rattle.xa_types.specs.declared.row.Row.{Row}
use Rattle.xa_types.specs.Rows.{Change, rows, rows_at, row_of, listed, same_truth}
use Rattle.std.specs.Str.{bytes_eq}
use Rattle.xa_types.specs.Setup.{queue_of}
use Rattle.xa_events.specs.declared.event.Event.{Event}
use Rattle.xa_events.specs.declared.event.Event.TheVariants.{Advertise, Withdraw, Accept, Take, Forward, Sweep, Gone, Down, Close, Tick, Start, StartFailed, End, Stop, Answer, Cancel, Lapse, NotYet, Refuse, Leave, Priority, Send, Receive, Break}
use Rattle.xa_events.specs.declared.event.Evidence.{Evidence}
use Rattle.xa_events.specs.declared.event.Evidence.TheVariants.{Version, AllDown, Clock as ClockShown, Queue, Deadline, Rows, Routine, NoRow, Conversation, Ended}
use Rattle.xa_events.specs.Words.{latest, count, AtEach, IsEarlier, Was, greatest}
use Rattle.xa_events.specs.State.{caller_of}
use Rattle.xa_events.specs.Homes.{Home, worker_of, at_home, of_worker, is_own_at, is_take_by, HeldSince, HeldInHand, home_of}
use Rattle.xa_events.specs.Homes.Home.{BoardHome, QueueHome, ClockHome, CallerHome}
use Rattle.xa_events.specs.Board.{change_in, changes, published, boot, rows_of_version, listed_in}
use Rattle.xa_events.specs.Queue.{waiting}
use Rattle.xa_events.specs.Server.{is_gone, is_gone_of, AllGone}
use Rattle.xa_events.specs.Caller.{is_leave_of, has_left, is_conversational, versions}
use Rattle.xa_events.specs.Request.{Settlement, settlement_in, is_entry_of, WasSettled}
use Rattle.xa_events.specs.Clock.{is_tick_to, is_shown}
use Rattle.xa_events.specs.Answers.{IsAnswerTo}
use Rattle.xa_events.specs.Cases.{RowStands, RowAdmits, IsShut, WereShown, WasSeen, IsBooted as IsBootedAt, named_by, BeganAt, StandsIn, HasControl, FindsNext, IsToldEvidence, queue_by, Shows, ShowsAt, NoRows, Began}
use Rattle.xa_events.specs.Local.{home_events, worker_events, SeenBefore, SeenPart, SawNoRows, Forwardable}
use Rattle.xa_events.proofs.Merge.{changes_own, all_gone, published_own, rows_own, versions_own, side_own, in_hand_own}
use Rattle.xa_events.specs.Conversation.{Side, other_side, begins_with, is_begun, side_from, side_of, end_done, TurnIs, IsSent, Told, IsClosing, Finds, ControlIs, NextIs, EndedIs}
use Rattle.xa_events.specs.Conversation.Side.{Originator, Service}
use Rattle.xa_events.specs.Views.{EndView, end_view}
use Rattle.xa_events.specs.declared.event.Item.{Item}
use Rattle.xa_events.specs.declared.event.Item.TheVariants.{Message, Ending}
use Rattle.xa_types.specs.declared.data.Data.{Data}
use Rattle.xa_types.specs.declared.ids.CallerId.{CallerId}
use Rattle.xa_events.proofs.Owns.{end_own, end_here}
use Rattle.xa_events.proofs.WordsLemmas.{some_weaker}
use Rattle.xa_stamp.specs.declared.home.Stamped.{Stamped}
use Rattle.xa_lock.specs.Pages.{StartsWith}
use Rattle.xa_worker.specs.Seen.{past_in, SawFront, IsNew, SawQueue, SawEntry, SawSince, SawInHand, SawEvidence, SawFronts, WasTold, IsBehind, SawLast, SawDeserted, SawRows, SawBegan, SawSome, ToldEvidence}
use Rattle.xa_worker.specs.Crew.{IsBooted, IsOfDomain, stands_at}
use Rattle.xa_worker.proofs.Lists.{filter-yes, past_in-append, past_in-filter, AtEach-later, earlier_behind, count_part, earlier_whole, filter-no, same_home-is}
use Rattle.xa_worker.proofs.Placed.{Climbs, IsMergeOf}
use Rattle.xa_worker.proofs.Workers.{climbs-above}

-- ---- what stays so as events come

still : (P : List Event → Type 0) → ((e : Event) (past : List Event) → P past → P (e ∷ past)) → (seen now : List Event) → IsEarlier seen now → P seen → P now
still P more seen [] is h = subst P is h
still P more seen (e ∷ now) (inl is) h = subst P is h
still P more seen (e ∷ now) (inr older) h = more e now (still P more seen now older h)

pub option_cases : {X : Type 0} (o : Option X) → (o ≡ None) ⊎ ((x : X) × (o ≡ Some x))
option_cases None = inl refl
option_cases (Some x) = inr (x, refl)

published_more : (n : ℕ) (e : Event) (past : List Event) → n ≤ published past → n ≤ published (e ∷ past)
unfolding published changes
published_more n e past h =
    elim (option_cases (change_in e)) [
      | inl none ↦ subst (λ (o : Option Change). n ≤ length (cons_option o (changes past))) (sym none) h
      | inr some ↦ subst (λ (o : Option Change). n ≤ length (cons_option o (changes past))) (sym some.1) (omega (arith, h))
    ]

-- the rows of a version that was published stay
pub drop_more : (setup : Setup) (c : Change) (cs : List Change) (v : ℕ) → v ≤ length cs → rows_at setup (c ∷ cs) v ≡ rows_at setup cs v
drop_more setup c cs v h =
    let on : length (c ∷ cs) - v ≡ suc (length cs - v) = omega (arith, h) in
    ap (λ n. rows setup (drop n (c ∷ cs))) on

rows_more : (setup : Setup) (v : ℕ) (e : Event) (past : List Event) → v ≤ published past → rows_of_version setup (e ∷ past) v ≡ rows_of_version setup past v
unfolding published changes rows_of_version
rows_more setup v e past h =
    elim (option_cases (change_in e)) [
      | inl none ↦ ap (λ o. rows_at setup (cons_option o (changes past)) v) none
      | inr some ↦ ap (λ o. rows_at setup (cons_option o (changes past)) v) some.1 ∙ drop_more setup some.0 (changes past) v h
    ]

row_more : (setup : Setup) (v : ℕ) (service : List ℕ) (queue : ℕ) (P : Row → Type 0) (e : Event) (past : List Event) → RowStands setup v service queue P past → RowStands setup v service queue P (e ∷ past)
row_more setup v service queue P e past h = record {
  version = published_more v e past h.version;
  row = subst (λ (rs : List Row). IsSomeAnd (row_of service queue rs) P) (sym (rows_more setup v e past h.version)) h.row;
}

-- ---- what a version lists stays

listed_more : (setup : Setup) (v : ℕ) (service : List ℕ) (conversational : Bool) (e : Event) (past : List Event) → v ≤ published past → listed_in setup (e ∷ past) v service conversational ≡ listed_in setup past v service conversational
unfolding published changes listed_in
listed_more setup v service conversational e past h =
    elim (option_cases (change_in e)) [
      | inl none ↦ ap (λ o. listed setup (cons_option o (changes past)) v service conversational) none
      | inr some ↦ ap (λ o. listed setup (cons_option o (changes past)) v service conversational) some.1 ∙ ap (λ (rs : List Row). filter (λ (row : Row). bytes_eq row.service service && same_truth row.conversational conversational) rs) (drop_more setup some.0 (changes past) v h)
    ]

listed_whole : (setup : Setup) (clients : ℕ) (v : ℕ) (service : List ℕ) (conversational : Bool) (past : List Event) → listed_in setup (home_events setup clients BoardHome past) v service conversational ≡ listed_in setup past v service conversational
unfolding listed_in
listed_whole setup clients v service conversational past = ap (λ (cs : List Change). listed setup cs v service conversational) (changes_own setup clients past)

gone_more : (setup : Setup) (queue : ℕ) (e : Event) (past : List Event) → AllGone setup queue past → AllGone setup queue (e ∷ past)
unfolding is_gone
gone_more setup queue e past gone server low high of = or_right (is_gone_of server e) (is_gone server past) (gone server low high of)

left_more : (client : ℕ) (e : Event) (past : List Event) → has_left client past ≡ true → has_left client (e ∷ past) ≡ true
unfolding has_left
left_more client e past h = or_right (is_leave_of client e) (has_left client past) h

left_here : (client : ℕ) (e : Event) (past : List Event) → is_leave_of client e ≡ true → has_left client (e ∷ past) ≡ true
unfolding has_left
left_here client e past h = or_left (is_leave_of client e) (has_left client past) h

shown_more : (tick : ℕ) (e : Event) (past : List Event) → is_shown tick past ≡ true → is_shown tick (e ∷ past) ≡ true
unfolding is_shown
shown_more tick e past h =
    elim (or_cases (tick == 0) (list_any (is_tick_to tick) past) h) [
      | inl begun ↦ or_left (tick == 0) (list_any (is_tick_to tick) (e ∷ past)) begun
      | inr there ↦ or_right (tick == 0) (list_any (is_tick_to tick) (e ∷ past)) (or_right (is_tick_to tick e) (list_any (is_tick_to tick) past) there)
    ]

pub any_whole : (p q : Event → Bool) (past : List Event) → list_any p (filter q past) ≡ true → list_any p past ≡ true
any_whole p q [] h = h
any_whole p q (e ∷ past) h =
    elim (cases_Bool (q e)) [
      | inl y ↦
          elim (or_cases (p e) (list_any p (filter q past)) (sym (ap (list_any p) (filter-yes q e past y)) ∙ h)) [
            | inl now ↦ or_left (p e) (list_any p past) now
            | inr earlier ↦ or_right (p e) (list_any p past) (any_whole p q past earlier)
          ]
      | inr n ↦ or_right (p e) (list_any p past) (any_whole p q past (sym (ap (λ b. list_any p (cond b (e ∷ filter q past) (filter q past))) n) ∙ h))
    ]

shown_whole : (tick : ℕ) (q : Event → Bool) (past : List Event) → is_shown tick (filter q past) ≡ true → is_shown tick past ≡ true
unfolding is_shown
shown_whole tick q past h =
    elim (or_cases (tick == 0) (list_any (is_tick_to tick) (filter q past)) h) [
      | inl begun ↦ or_left (tick == 0) (list_any (is_tick_to tick) past) begun
      | inr there ↦ or_right (tick == 0) (list_any (is_tick_to tick) past) (any_whole (is_tick_to tick) q past there)
    ]

begun_more : (side : Side) (request : RequestId) (e : Event) (past : List Event) → is_begun side request past ≡ true → is_begun side request (e ∷ past) ≡ true
unfolding is_begun
begun_more side request e past h = or_right (begins_with side request e) (is_begun side request past) h

begun_here : (side : Side) (request : RequestId) (e : Event) (past : List Event) → begins_with side request e ≡ true → is_begun side request (e ∷ past) ≡ true
unfolding is_begun
begun_here side request e past h = or_left (begins_with side request e) (is_begun side request past) h

-- the last of a front of a part stands in the whole, and those before it are the part of those before
was_whole : (q : Event → Bool) (Q : Event → List Event → Type 0) (e : Event) (front past : List Event) → IsEarlier (e ∷ front) (filter q past) → ((before : List Event) → q e ≡ true → front ≡ filter q before → Q e before) → Was Q past
was_whole q Q e front [] is shows = absurd (cc is)
was_whole q Q e front (x ∷ past) is shows =
    elim (cases_Bool (q x)) [
      | inl y ↦
          elim (subst (IsEarlier (e ∷ front)) (filter-yes q x past y) is) [
            | inl now ↦
                let same : e ≡ x = cc now in
                let those : front ≡ filter q past = cc now in
                inl (subst (λ (z : Event). Q z past) same (shows past (subst (λ (z : Event). q z ≡ true) (sym same) y) those))
            | inr older ↦ inr (was_whole q Q e front past older shows)
          ]
      | inr n ↦ inr (was_whole q Q e front past (subst (IsEarlier (e ∷ front)) (filter-no q x past n) is) shows)
    ]

turn_told : (control : Bool) (side : Side) (turn : Option Bool) (Saw Began : Side → Type 0) → ((end : Side) → Saw end → Began end) → TurnIs control side turn Saw → TurnIs control side turn Began
turn_told control side turn Saw Began tells (inl last) = inl last
turn_told control side turn Saw Began tells (inr first) = inr (first.0, tells _ first.1)

-- ---- fronts, cut where stamps grow

-- a front whose stamps are below those of the later part is one of the earlier part
cut : (s : ℕ) (xs ys front rest : List Stamped) → xs ++ ys ≡ front ++ rest → All (λ (x : Stamped). s ≤ x.stamp.0) ys → All (λ (x : Stamped). x.stamp.0 < s) front → StartsWith xs front
cut s xs ys [] rest is late early = (xs, refl)
cut s [] ys (f ∷ front) rest is late early =
    let low = All-head (λ (x : Stamped). x.stamp.0 < s) f front early in
    let high = All-head (λ (x : Stamped). s ≤ x.stamp.0) f (front ++ rest) (subst (All (λ (x : Stamped). s ≤ x.stamp.0)) is late) in
    absurd (omega (arith, low, high))
cut s (x ∷ xs) ys (f ∷ front) rest is late early =
    let first : x ≡ f = cc is in
    let more : xs ++ ys ≡ front ++ rest = cc is in
    let tail = cut s xs ys front rest more late (All-tail (λ (x : Stamped). x.stamp.0 < s) f front early) in
    (tail.0, ap (λ z. z ∷ xs) first ∙ ap (λ zs. f ∷ zs) tail.1)

climbs-split : (low : ℕ) (before after : List Stamped) (x : Stamped) → Climbs low (before ++ x ∷ after) → Climbs x.stamp.0 (x ∷ after)
climbs-split low [] after x h = (omega arith, h.1)
climbs-split low (y ∷ before) after x h = climbs-split y.stamp.0 before after x h.1

-- what holds of each entry by where it stands
pub All-on : (P : Stamped → Type 0) (front rest : List Stamped) → ((before after : List Stamped) (x : Stamped) → front ++ rest ≡ before ++ x ∷ after → P x) → All P rest
All-on P front [] split = All-nil P
All-on P front (x ∷ rest) split =
    let moved : (front ++ x ∷ []) ++ rest ≡ front ++ x ∷ rest = append_assoc front (x ∷ []) rest in
    All-cons P x rest (split front rest x refl) (All-on P (front ++ x ∷ []) rest (λ before after y is. split before after y (sym moved ∙ is)))

climbs_front : (low : ℕ) (before after : List Stamped) → Climbs low (before ++ after) → Climbs low before
climbs_front low [] after h = tt
climbs_front low (x ∷ before) after h = (h.0, climbs_front x.stamp.0 before after h.1)

-- entries whose stamps don't fall are parted by a stamp
record Parted (reach : ℕ) (xs : List Stamped) : Type 0 where
  pub early : List Stamped
  pub late : List Stamped
  pub whole : xs ≡ early ++ late
  pub reached : All (λ (y : Stamped). y.stamp.0 ≤ reach) early
  pub later : All (λ (y : Stamped). reach < y.stamp.0) late

part_at : (reach low : ℕ) (xs : List Stamped) → Climbs low xs → Parted reach xs
part_at reach low [] h = record { early = []; late = []; whole = refl; reached = All-nil (λ (y : Stamped). y.stamp.0 ≤ reach); later = All-nil (λ (y : Stamped). reach < y.stamp.0) }
part_at reach low (x ∷ xs) h =
    elim (cases_Bool (nat_le x.stamp.0 reach)) [
      | inl y ↦
          let rest = part_at reach x.stamp.0 xs h.1 in
          let first = leb-true x.stamp.0 reach y in
          record { early = x ∷ rest.early; late = rest.late; whole = ap (λ ys. x ∷ ys) rest.whole; reached = All-cons (λ (y : Stamped). y.stamp.0 ≤ reach) x rest.early first rest.reached; later = rest.later }
      | inr n ↦
          let above = leb-false x.stamp.0 reach n in
          record {
            early = [];
            late = x ∷ xs;
            whole = refl;
            reached = All-nil (λ (y : Stamped). y.stamp.0 ≤ reach);
            later = All-cons (λ (y : Stamped). reach < y.stamp.0) x xs above (All-weaker (λ (y : Stamped). x.stamp.0 ≤ y.stamp.0) (λ (y : Stamped). reach < y.stamp.0) (λ y high. omega (arith, high, above)) xs (climbs-above x.stamp.0 xs h.1));
          }
    ]

-- a stamp parts a list in one way
one_part : (reach : ℕ) (xs ys us vs : List Stamped) → xs ++ ys ≡ us ++ vs → All (λ (y : Stamped). y.stamp.0 ≤ reach) xs → All (λ (y : Stamped). reach < y.stamp.0) ys
    → All (λ (y : Stamped). y.stamp.0 ≤ reach) us → All (λ (y : Stamped). reach < y.stamp.0) vs → xs ≡ us
one_part reach [] ys [] vs is a b c d = refl
one_part reach [] ys (u ∷ us) vs is a b c d =
    let high = All-head (λ (y : Stamped). reach < y.stamp.0) u (us ++ vs) (subst (All (λ (y : Stamped). reach < y.stamp.0)) is b) in
    let low = All-head (λ (y : Stamped). y.stamp.0 ≤ reach) u us c in
    absurd (omega (arith, high, low))
one_part reach (x ∷ xs) ys [] vs is a b c d =
    let high = All-head (λ (y : Stamped). reach < y.stamp.0) x (xs ++ ys) (subst (All (λ (y : Stamped). reach < y.stamp.0)) (sym is) d) in
    let low = All-head (λ (y : Stamped). y.stamp.0 ≤ reach) x xs a in
    absurd (omega (arith, high, low))
one_part reach (x ∷ xs) ys (u ∷ us) vs is a b c d =
    let first : x ≡ u = cc is in
    let more : xs ++ ys ≡ us ++ vs = cc is in
    let same = one_part reach xs ys us vs more (All-tail (λ (y : Stamped). y.stamp.0 ≤ reach) x xs a) b (All-tail (λ (y : Stamped). y.stamp.0 ≤ reach) u us c) d in
    ap (λ z. z ∷ xs) first ∙ ap (λ zs. u ∷ zs) same

-- ---- requests that are new

-- no request was sent to a queue while it waited there
abbrev pub NewIn : Setup → ℕ → List Event → Type 0
NewIn setup clients past = (queue : ℕ) → AtEach (IsNew setup queue) (home_events setup clients (QueueHome queue) past)

-- so it was before each event
pub new_before : (setup : Setup) (clients : ℕ) (merged before after : List Stamped) (x : Stamped) → merged ≡ before ++ x ∷ after → NewIn setup clients (past_in merged) → NewIn setup clients (past_in before)
new_before setup clients merged before after x split news queue =
    let at = at_home setup clients (QueueHome queue) in
    let whole : filter at (past_in merged) ≡ filter at (past_in (x ∷ after)) ++ filter at (past_in before) = ap (filter at) (ap past_in split ∙ past_in-append before (x ∷ after)) ∙ filter-append at (past_in (x ∷ after)) (past_in before) in
    AtEach-later (IsNew setup queue) (filter at (past_in (x ∷ after))) (filter at (past_in before)) (subst (AtEach (IsNew setup queue)) whole (news queue))

pub earlier_each : (P : Event → List Event → Type 0) (seen now : List Event) → IsEarlier seen now → AtEach P now → AtEach P seen
earlier_each P seen [] is all = subst (AtEach P) (sym is) all
earlier_each P seen (e ∷ now) (inl is) all = subst (AtEach P) (sym is) all
earlier_each P seen (e ∷ now) (inr older) all = earlier_each P seen now older all.1

-- ---- a server's takes

-- each stands at its queue
pub take_at_queue : (setup : Setup) (clients server : ℕ) (e : Event) → is_take_by server e ≡ true → at_home setup clients (QueueHome (queue_of setup server)) e ≡ true
take_at_queue setup clients server (Take t) h = eq-eqb (queue_of setup t.server.0) (queue_of setup server) (ap (queue_of setup) (eqb-true t.server.0 server h))
take_at_queue setup clients server _ h = absurd (cc h)

-- and is its own worker's
pub take_by_worker : (clients server : ℕ) (e : Event) → is_take_by server e ≡ true → of_worker clients (caller_of clients server) e ≡ true
take_by_worker clients server (Take t) h = eq-eqb (caller_of clients t.server.0) (caller_of clients server) (ap (caller_of clients) (eqb-true t.server.0 server h))
take_by_worker clients server _ h = absurd (cc h)

-- ---- one event of the merge

module _ (setup : Setup) (clients : ℕ) (held : Home → List Stamped) (merged : List Stamped) (events : List Event) (m : IsMergeOf setup clients held merged events)
    (before after : List Stamped) (x : Stamped) (split : merged ≡ before ++ x ∷ after) where
  abbrev at : Home → Stamped → Bool
  at home = stands_at setup clients home

  -- the events before it
  abbrev past : List Event
  past = past_in before

  late : All (λ (y : Stamped). x.stamp.0 ≤ y.stamp.0) (x ∷ after)
  late = climbs-above x.stamp.0 (x ∷ after) (climbs-split 0 before after x (subst (Climbs 0) split m.climbs))

  -- what stands before it at a home
  abbrev here : Home → List Stamped
  here home = filter (at home) before

  parts : (home : Home) → held home ≡ here home ++ filter (at home) (x ∷ after)
  parts home = sym (m.theirs home) ∙ (ap (filter (at home)) split ∙ filter-append (at home) before (x ∷ after))

  here_events : (home : Home) → home_events setup clients home past ≡ past_in (here home)
  here_events home = past_in-filter (at_home setup clients home) before

  -- a front with smaller stamps was there before it
  stood : (home : Home) (front : List Stamped) → StartsWith (held home) front → All (λ (y : Stamped). y.stamp.0 < x.stamp.0) front → IsEarlier (past_in front) (home_events setup clients home past)
  stood home front starts early =
      let late_here = All-filter (at home) (λ (y : Stamped). x.stamp.0 ≤ y.stamp.0) (x ∷ after) late in
      let c = cut x.stamp.0 (here home) (filter (at home) (x ∷ after)) front starts.0 (sym (parts home) ∙ starts.1) late_here early in
      let whole : home_events setup clients home past ≡ past_in c.0 ++ past_in front = here_events home ∙ (ap past_in c.1 ∙ past_in-append front c.0) in
      subst (IsEarlier (past_in front)) (sym whole) (earlier_behind (past_in c.0) (past_in front))

  -- what was seen there holds of the home's events before it, where it stays so
  pub now : (home : Home) (P : List Event → Type 0) → ((e : Event) (past : List Event) → P past → P (e ∷ past)) → SawFront (held home) x.stamp P → P (home_events setup clients home past)
  now home P more saw = still P more (past_in saw.front) (home_events setup clients home past) (stood home saw.front saw.stands saw.before) saw.shows

  -- no request was sent to the queue in a front of it, where none was before it
  new_front : NewIn setup clients past → (queue : ℕ) (front : List Stamped) → StartsWith (held (QueueHome queue)) front → All (λ (y : Stamped). y.stamp.0 < x.stamp.0) front → AtEach (IsNew setup queue) (past_in front)
  new_front news queue front starts early = earlier_each (IsNew setup queue) (past_in front) (home_events setup clients (QueueHome queue) past) (stood (QueueHome queue) front starts early) (news queue)

  -- so what was seen of the queue held of that front
  pub saw_new : NewIn setup clients past → (queue : ℕ) (P : List Event → Type 0) → SawQueue setup queue (held (QueueHome queue)) x.stamp P → SawFront (held (QueueHome queue)) x.stamp P
  saw_new news queue P saw = record { front = saw.front; stands = saw.stands; before = saw.before; shows = saw.shows (new_front news queue saw.front saw.stands saw.before) }

  -- an entry with a smaller stamp stands before it
  held_before : (home : Home) (P : Event → Type 0) (G : List Event → Type 0) → ((e : Event) (past : List Event) → P e → G (e ∷ past)) → ((e : Event) (past : List Event) → G past → G (e ∷ past)) → SawEntry (held home) x.stamp P → G past
  held_before home P G begins more saw =
      let T : Stamped → Type 0 = λ y. y.stamp.0 < x.stamp.0 → P y.event → G past in
      let early : All T before = All-on T [] before (λ front rest y is low p.
      let whole : past ≡ past_in rest ++ (y.event ∷ past_in front) = ap past_in (is ∙ sym (append_assoc front (y ∷ []) rest)) ∙ (past_in-append (front ++ y ∷ []) rest ∙ ap (λ es. past_in rest ++ es) (past_in-append front (y ∷ []))) in
      subst G (sym whole) (still G more (y.event ∷ past_in front) (past_in rest ++ (y.event ∷ past_in front)) (earlier_behind (past_in rest) (y.event ∷ past_in front)) (begins y.event (past_in front) p))) in
      let all : All T merged = subst (All T) (sym split) (All-append T before (x ∷ after) early (All-weaker (λ (y : Stamped). x.stamp.0 ≤ y.stamp.0) T (λ y high low p. absurd (omega (arith, high, low))) (x ∷ after) late)) in
      let there : All T (held home) = subst (All T) (m.theirs home) (All-filter (at home) T merged all) in
      All-contains T (held home) saw.entry there saw.stands saw.before saw.shows

  -- ---- kind by kind

  abbrev board : List Event
  board = home_events setup clients BoardHome past

  published_whole : (n : ℕ) → n ≤ published board → n ≤ published past
  published_whole n h = subst (λ k. n ≤ k) (published_own setup clients past) h

  behind_boot : (last : Stamp) → IsBooted setup last (held BoardHome) → last.0 < x.stamp.0 → boot setup ≤ published past
  behind_boot last booted later =
      let saw : SawFront (held BoardHome) x.stamp (λ past. boot setup ≤ published past) = record {
        front = booted.front;
        stands = booted.stands;
        before = All-weaker (λ (y : Stamped). y.stamp.0 ≤ last.0) (λ (y : Stamped). y.stamp.0 < x.stamp.0) (λ y low. omega (arith, low, later)) booted.front booted.until;
        shows = booted.whole;
      } in
      published_whole (boot setup) (now BoardHome (λ past. boot setup ≤ published past) (published_more (boot setup)) saw)

  deserted : (queue : ℕ) → SawFront (held (QueueHome queue)) x.stamp (AllGone setup queue) → AllGone setup queue past
  deserted queue saw = all_gone setup clients queue past (now (QueueHome queue) (AllGone setup queue) (gone_more setup queue) saw)

  -- the moment at which no row of the queue stood and each of its servers was gone
  no_rows : (queue : ℕ) → SawDeserted setup queue (held BoardHome) (held (QueueHome queue)) x.stamp → SawNoRows setup clients queue past
  no_rows queue saw =
      let High : Stamped → Type 0 = λ y. saw.reach.0 < y.stamp.0 in
      let low_climbs : Climbs 0 before = climbs_front 0 before (x ∷ after) (subst (Climbs 0) split m.climbs) in
      let parted = part_at saw.reach.0 0 before low_climbs in
      let behind : (home : Home) → All High (filter (at home) parted.late ++ filter (at home) (x ∷ after)) = λ home.
      let reach_below = saw.earlier in
      All-append High (filter (at home) parted.late) (filter (at home) (x ∷ after)) (All-filter (at home) High parted.late parted.later)
      (All-filter (at home) High (x ∷ after) (All-weaker (λ (y : Stamped). x.stamp.0 ≤ y.stamp.0) High (λ y high. omega (arith, high, reach_below)) (x ∷ after) late)) in
      let whole : (home : Home) → filter (at home) parted.early ++ (filter (at home) parted.late ++ filter (at home) (x ∷ after)) ≡ held home = λ home.
      sym (append_assoc (filter (at home) parted.early) (filter (at home) parted.late) (filter (at home) (x ∷ after)))
      ∙ (ap (λ zs. zs ++ filter (at home) (x ∷ after)) (sym (filter-append (at home) parted.early parted.late) ∙ ap (filter (at home)) (sym parted.whole)) ∙ sym (parts home)) in
      let then_held : (home : Home) → home_events setup clients home (past_in parted.early) ≡ past_in (filter (at home) parted.early) = λ home. past_in-filter (at_home setup clients home) parted.early in
      let same : filter (at BoardHome) parted.early ≡ saw.front = one_part saw.reach.0 (filter (at BoardHome) parted.early) (filter (at BoardHome) parted.late ++ filter (at BoardHome) (x ∷ after)) saw.front saw.rest (whole BoardHome ∙ saw.stands)
      (All-filter (at BoardHome) (λ (y : Stamped). y.stamp.0 ≤ saw.reach.0) parted.early parted.reached) (behind BoardHome) saw.reached saw.later in
      let board_then : home_events setup clients BoardHome (past_in parted.early) ≡ past_in saw.front = then_held BoardHome ∙ ap past_in same in
      let c = cut (suc saw.reach.0) (filter (at (QueueHome queue)) parted.early) (filter (at (QueueHome queue)) parted.late ++ filter (at (QueueHome queue)) (x ∷ after)) saw.gone saw.left.0 (whole (QueueHome queue) ∙ saw.left.1) (All-weaker High (λ (y : Stamped). suc saw.reach.0 ≤ y.stamp.0) (λ y high. omega (arith, high)) (filter (at (QueueHome queue)) parted.late ++ filter (at (QueueHome queue)) (x ∷ after)) (behind (QueueHome queue)))
      (All-weaker (λ (y : Stamped). y.stamp.0 ≤ saw.reach.0) (λ (y : Stamped). y.stamp.0 < suc saw.reach.0) (λ y low. omega (arith, low)) saw.gone saw.in_reach) in
      let queue_then : home_events setup clients (QueueHome queue) (past_in parted.early) ≡ past_in c.0 ++ past_in saw.gone = then_held (QueueHome queue) ∙ (ap past_in c.1 ∙ past_in-append saw.gone c.0) in
      record {
        moment = past_in parted.early;
        stood = subst (IsEarlier (past_in parted.early)) (sym (ap past_in parted.whole ∙ past_in-append parted.early parted.late)) (earlier_behind (past_in parted.late) (past_in parted.early));
        gone = subst (AllGone setup queue) (sym queue_then) (still (AllGone setup queue) (gone_more setup queue) (past_in saw.gone) (past_in c.0 ++ past_in saw.gone) (earlier_behind (past_in c.0) (past_in saw.gone)) saw.all);
        booted = subst (λ (es : List Event). boot setup ≤ published es) (sym board_then) saw.booted;
        none = subst (NoRows setup queue) (sym board_then) saw.none;
      }

  stands_now : (v : ℕ) (service : List ℕ) (queue : ℕ) (P : Row → Type 0) → SawFront (held BoardHome) x.stamp (RowStands setup v service queue P) → RowStands setup v service queue P past
  stands_now v service queue P saw =
      let h = now BoardHome (RowStands setup v service queue P) (row_more setup v service queue P) saw in
      record {
        version = published_whole v h.version;
        row = subst (λ (rs : List Row). IsSomeAnd (row_of service queue rs) P) (rows_own setup clients past v) h.row;
      }

  -- what was seen of the rows that a version lists
  pub listed_now : (v : ℕ) (service : List ℕ) (conversational : Bool) (P : List Row → Type 0) → SawFront (held BoardHome) x.stamp (λ past. (v ≤ published past) × P (listed_in setup past v service conversational)) → (v ≤ published past) × P (listed_in setup past v service conversational)
  listed_now v service conversational P saw =
      let h = now BoardHome (λ past. (v ≤ published past) × P (listed_in setup past v service conversational)) (λ e past h. (published_more v e past h.0, subst P (sym (listed_more setup v service conversational e past h.0)) h.1)) saw in
      (published_whole v h.0, subst P (listed_whole setup clients v service conversational past) h.1)

  -- what was seen of a queue where all stood that the worker had noted there
  pub since : NewIn setup clients past → (worker queue : ℕ) (P : List Event → Type 0) (own : List Event) → worker_events clients worker own ≡ worker_events clients worker past → SawSince setup clients held x.stamp worker queue P own → HeldSince setup clients worker queue P past
  since news worker queue P own same saw =
      let mine = is_own_at setup clients worker queue in
      let at_queue : (e : Event) → mine e ≡ true → at_home setup clients (QueueHome queue) e ≡ true = λ e h. (and_parts (at_home setup clients (QueueHome queue) e) (of_worker clients worker e) h).0 in
      let by_it : (e : Event) → mine e ≡ true → of_worker clients worker e ≡ true = λ e h. (and_parts (at_home setup clients (QueueHome queue) e) (of_worker clients worker e) h).1 in
      let w = earlier_whole (at_home setup clients (QueueHome queue)) (past_in saw.front) past (stood (QueueHome queue) saw.front saw.stands saw.before) in
      record {
        moment = w.0;
        stood = w.1;
        own = sym (count_part mine (at_home setup clients (QueueHome queue)) at_queue w.0) ∙ (ap (count mine) w.2 ∙ (saw.shows.1
            ∙ (sym (count_part mine (of_worker clients worker) by_it own) ∙ (ap (count mine) same ∙ count_part mine (of_worker clients worker) by_it past))));
        held = subst P (sym w.2) (saw.shows.0 (new_front news queue saw.front saw.stands saw.before));
      }

  -- what was seen of a server's queue where its last take of a request stood
  pub since_take : NewIn setup clients past → (server : ℕ) (P : List Event → Type 0) (own : List Event) → worker_events clients (caller_of clients server) own ≡ worker_events clients (caller_of clients server) past
      → SawInHand setup clients held x.stamp server P own → HeldInHand setup clients server P past
  since_take news server P own same saw =
      let its = is_take_by server in
      let queue = queue_of setup server in
      let at_queue = at_home setup clients (QueueHome queue) in
      let by_it = of_worker clients (caller_of clients server) in
      let w = earlier_whole at_queue (past_in saw.front) past (stood (QueueHome queue) saw.front saw.stands saw.before) in
      record {
        moment = w.0;
        stood = w.1;
        taken = sym (count_part its at_queue (take_at_queue setup clients server) w.0) ∙ (ap (count its) w.2 ∙ (saw.shows.1
            ∙ (sym (count_part its by_it (take_by_worker clients server) own) ∙ (ap (count its) same ∙ count_part its by_it (take_by_worker clients server) past))));
        held = subst P (sym w.2) (saw.shows.0 (new_front news queue saw.front saw.stands saw.before));
      }

  shown : (tick : ℕ) → SawFront (held ClockHome) x.stamp (λ past. is_shown tick past ≡ true) → is_shown tick past ≡ true
  shown tick saw = shown_whole tick (at_home setup clients ClockHome) past (now ClockHome (λ past. is_shown tick past ≡ true) (shown_more tick) saw)

  were_shown : (tick deadline : ℕ) → SawFront (held ClockHome) x.stamp (WereShown setup tick deadline) → WereShown setup tick deadline past
  were_shown tick deadline saw =
      let both = now ClockHome (WereShown setup tick deadline) (λ e past h. (shown_more tick e past h.0, shown_more (deadline - setup.block_time) e past h.1)) saw in
      (shown_whole tick (at_home setup clients ClockHome) past both.0, shown_whole (deadline - setup.block_time) (at_home setup clients ClockHome) past both.1)

  evidence_now : NewIn setup clients past → (caller : CallerId) (evidence : Evidence) (own : List Event) → worker_events clients caller.0 own ≡ worker_events clients caller.0 past → SawEvidence setup clients held x.stamp caller evidence own → WasSeen setup clients caller.0 evidence past
  evidence_now news caller (Version v) own is saw = published_whole v (now BoardHome (λ past. v ≤ published past) (published_more v) saw)
  evidence_now news caller (AllDown v) own is saw = published_whole v (now BoardHome (λ past. v ≤ published past) (published_more v) saw)
  evidence_now news caller (ClockShown tick) own is saw = shown tick saw
  evidence_now news caller (Queue queue n) own is saw = since news caller.0 queue.0 (λ moment. length (waiting setup queue.0 moment) ≡ n) own is saw
  evidence_now news caller (Deadline tick deadline) own is saw = were_shown tick deadline saw
  evidence_now news caller _ own is saw = tt

  pub settled : (request : RequestId) (P : Settlement → Type 0) (home : Home) → SawEntry (held home) x.stamp (λ e. IsSomeAnd (settlement_in request e) P) → WasSettled request P past
  settled request P home saw = held_before home (λ e. IsSomeAnd (settlement_in request e) P) (WasSettled request P) (λ e past p. inl p) (λ e past h. inr h) saw

  -- ---- conversations

  -- the end's own view, off its home and off its worker
  done_here : (caller : ℕ) (side : Side) (request : RequestId) (older : List Event) → end_view caller side request (home_events setup clients (CallerHome caller) older) ≡ end_view caller side request older
  done_here caller side request older = end_here setup clients caller side request older

  began : (request : RequestId) (side : Side) → SawBegan held x.stamp request side → BeganAt request past side
  began request side saw = held_before saw.0 (λ e. begins_with side request e ≡ true) (λ past. is_begun side request past ≡ true) (begun_here side request) (begun_more side request) saw.1

  -- what was seen last of a home stands before
  stands_in : (home : Home) (P Q : Event → List Event → Type 0) → ((e : Event) (older : List Event) → home_of setup clients e ≡ home → P e (home_events setup clients home older) → Q e older) → SawLast (held home) x.stamp P → Was Q past
  stands_in home P Q tells saw =
      let there : IsEarlier (saw.entry.event ∷ past_in saw.front) (home_events setup clients home past) =
      subst (λ (es : List Event). IsEarlier es (home_events setup clients home past)) (past_in-append saw.front (saw.entry ∷ [])) (stood home (saw.front ++ saw.entry ∷ []) saw.stands saw.before) in
      was_whole (at_home setup clients home) Q saw.entry.event (past_in saw.front) past there (λ older at is.
      tells saw.entry.event older (same_home-is (home_of setup clients saw.entry.event) home at) (subst (P saw.entry.event) is saw.shows))

  sent_told : (home : Home) (side : Side) (request : RequestId) (n : ℕ) (payload : Data) (passes : Bool) (e : Event) (older : List Event) → home_of setup clients e ≡ home
      → IsSent side request n payload passes e (home_events setup clients home older) → IsSent side request n payload passes e older
  sent_told home side request n payload passes (Send s) older is h =
      let k = subst (λ (at : Home). IsSent side request n payload passes (Send s) (home_events setup clients at older)) (sym is) h in
      let view = done_here s.by.0 side request older in
      (k.0, sym (ap (λ (v : EndView). side_from s.by.0 request v.broken) view) ∙ k.1, sym (ap (λ (v : EndView). v.done.sent) view) ∙ k.2, k.3, k.4)
  sent_told home side request n payload passes _ older is h = absurd h

  closing_told : (home : Home) (side : Side) (request : RequestId) (n : ℕ) (P : Told → Type 0) (e : Event) (older : List Event) → home_of setup clients e ≡ home
      → IsClosing clients side request n (SawBegan held x.stamp request) P e (home_events setup clients home older) → IsClosing clients side request n (BeganAt request past) P e older
  closing_told home Service request n P (End e) older is h =
      let k = subst (λ (at : Home). IsClosing clients Service request n (SawBegan held x.stamp request) P (End e) (home_events setup clients at older)) (sym is) h in
      let view = done_here (caller_of clients e.server.0) Service request older in
      let turn = λ (control : Bool) (t : TurnIs control Service (end_done (caller_of clients e.server.0) Service request (home_events setup clients (CallerHome (caller_of clients e.server.0)) older)).turn (SawBegan held x.stamp request)).
      subst (λ (v : EndView). TurnIs control Service v.done.turn (BeganAt request past)) view (turn_told control Service _ (SawBegan held x.stamp request) (BeganAt request past) (began request) t) in
      (k.0, sym (ap (λ (v : EndView). v.done.sent) view) ∙ k.1, elim k.2 [ inl y ↦ inl (turn true y.0, y.1) | inr n ↦ inr (turn false n.0, n.1) ])
  closing_told home Service request n P (Sweep y) older is h = h
  closing_told home Originator request n P (Break b) older is h =
      let k = subst (λ (at : Home). IsClosing clients Originator request n (SawBegan held x.stamp request) P (Break b) (home_events setup clients at older)) (sym is) h in
      (k.0, sym (ap (λ (v : EndView). v.done.sent) (done_here b.by.0 Originator request older)) ∙ k.1, k.2)
  closing_told home _ request n P _ older is h = absurd h

  closed_told : (side : Side) (request : RequestId) (n : ℕ) (P : Told → Type 0) → SawSome held x.stamp (IsClosing clients side request n (SawBegan held x.stamp request) P) → Was (IsClosing clients side request n (BeganAt request past) P) past
  closed_told side request n P saw =
      stands_in saw.0 (IsClosing clients side request n (SawBegan held x.stamp request) P) (IsClosing clients side request n (BeganAt request past) P) (λ e older is h. closing_told saw.0 side request n P e older is h) saw.1

  finds_told : (side : Side) (request : RequestId) (n : ℕ) (item : Item) → Finds clients side request n (SawBegan held x.stamp request) (SawSome held x.stamp) item → Finds clients side request n (BeganAt request past) (StandsIn past) item
  finds_told side request n (Message payload passes) saw =
      stands_in saw.0 (IsSent side request n payload passes) (IsSent side request n payload passes) (λ e older is h. sent_told saw.0 side request n payload passes e older is h) saw.1
  finds_told side request n (Ending event code payload) saw =
      closed_told side request n (λ told. told ≡ (event, code, payload)) saw

  -- what the worker's own events say
  abbrev its : ℕ → List Event
  its worker = worker_events clients worker past

  pub control_told : (control : Bool) (caller : ℕ) (request : RequestId) → ControlIs control caller request (its caller) (SawBegan held x.stamp request) → HasControl control caller request past
  control_told control caller request h =
      let same = side_own setup clients past caller request in
      let k = subst (λ (side : Side). TurnIs control side (end_done caller side request (its caller)).turn (SawBegan held x.stamp request)) same h in
      let turn = turn_told control (side_of caller request past) _ (SawBegan held x.stamp request) (BeganAt request past) (began request) k in
      subst (λ (v : EndView). TurnIs control (side_of caller request past) v.done.turn (BeganAt request past)) (end_own clients caller (side_of caller request past) request past) turn

  -- what holds by the side that the worker's events name and what it received there holds by all events
  by_all : (caller : ℕ) (request : RequestId) (F : Side → ℕ → Type 0) → F (side_of caller request (its caller)) (end_done caller (side_of caller request (its caller)) request (its caller)).received
      → F (side_of caller request past) (end_done caller (side_of caller request past) request past).received
  by_all caller request F h =
      let k = subst (λ (side : Side). F side (end_done caller side request (its caller)).received) (side_own setup clients past caller request) h in
      subst (λ (v : EndView). F (side_of caller request past) v.done.received) (end_own clients caller (side_of caller request past) request past) k

  next_told : (caller : ℕ) (request : RequestId) (item : Item) → NextIs clients caller request (its caller) (SawBegan held x.stamp request) (SawSome held x.stamp) item → FindsNext clients caller request item past
  next_told caller request item h =
      finds_told (other_side (side_of caller request past)) request _ item
      (by_all caller request (λ side n. Finds clients (other_side side) request n (SawBegan held x.stamp request) (SawSome held x.stamp) item) h)

  -- the rows of a version that was seen, by all that the caller had noted
  pub rows_seen : (caller : CallerId) (P : List Row → Type 0) (own : List Event) → worker_events clients caller.0 own ≡ worker_events clients caller.0 past → SawRows setup clients held x.stamp caller P own → ShowsAt setup clients caller P past
  rows_seen caller P own is (v, older, saw) =
      let Q : List Event → Type 0 = λ past. (v ≤ published past) × P (rows_of_version setup past v) in
      let h = now BoardHome Q (λ e past h. (published_more v e past h.0, subst P (sym (rows_more setup v e past h.0)) h.1)) saw in
      let same : versions clients caller.0 own ≡ versions clients caller.0 past = sym (versions_own setup clients own caller.0) ∙ (ap (versions clients caller.0) is ∙ versions_own setup clients past caller.0) in
      (v, subst (λ (vs : List ℕ). greatest (boot setup) vs ≤ v) same older, published_whole v h.0, subst P (rows_own setup clients past v) h.1)

  evidence_told : (caller : CallerId) (evidence : Evidence) (own : List Event) → worker_events clients caller.0 own ≡ worker_events clients caller.0 past
      → SawEvidence setup clients held x.stamp caller evidence own → ToldEvidence setup clients held x.stamp caller evidence (its caller.0) → IsToldEvidence setup clients caller evidence past
  evidence_told caller (Rows n) own is saw h = rows_seen caller (Shows (queue_by setup clients caller.0) (Rows n)) own is saw
  evidence_told caller (Routine routine) own is saw h = rows_seen caller (Shows (queue_by setup clients caller.0) (Routine routine)) own is saw
  evidence_told caller NoRow own is saw h = rows_seen caller (Shows (queue_by setup clients caller.0) NoRow) own is saw
  evidence_told caller (Conversation descriptor) own is saw h =
      let same : named_by clients caller descriptor (its caller.0) ≡ named_by clients caller descriptor past = ap (λ o. if descriptor == 0 then o else Some (record { caller = caller; number = descriptor })) (in_hand_own setup clients past caller.0) in
      let P : RequestId → Type 0 = λ request. Began (SawBegan held x.stamp request) in
      some_weaker P (λ request. Began (BeganAt request past)) (λ request k. elim k [ inl o ↦ inl (began request Originator o) | inr v ↦ inr (began request Service v) ])
      (named_by clients caller descriptor past) (subst (λ (o : Option RequestId). IsSomeAnd o P) same h)
  evidence_told caller (Ended descriptor event code) own is saw h =
      let same : named_by clients caller descriptor (its caller.0) ≡ named_by clients caller descriptor past = ap (λ o. if descriptor == 0 then o else Some (record { caller = caller; number = descriptor })) (in_hand_own setup clients past caller.0) in
      let P : RequestId → Type 0 = λ request. EndedIs clients caller.0 request event (its caller.0) (SawBegan held x.stamp request) (SawSome held x.stamp) in
      some_weaker P (λ request. EndedIs clients caller.0 request event past (BeganAt request past) (StandsIn past))
      (λ request k. (
        control_told true caller.0 request k.0,
        closed_told (other_side (side_of caller.0 request past)) request _ (λ told. told.0 ≡ event)
            (by_all caller.0 request (λ side n. SawSome held x.stamp (IsClosing clients (other_side side) request n (SawBegan held x.stamp request) (λ told. told.0 ≡ event))) k.1),
      ))
      (named_by clients caller descriptor past) (subst (λ (o : Option RequestId). IsSomeAnd o P) same h)
  evidence_told caller _ own is saw h = tt

  -- own are all events that the event's worker had noted
  abbrev IsOwn : Event → List Event → Type 0
  IsOwn e own = worker_events clients (worker_of clients e) own ≡ worker_events clients (worker_of clients e) past

  seen_so : NewIn setup clients past → (e : Event) (own : List Event) → IsOwn e own ⊎ IsOfDomain e → SawFronts setup clients held x.stamp e own → WasTold setup clients held x.stamp (its (worker_of clients e)) e → SeenBefore setup clients e past
  seen_so news (Advertise a) own is saw told = tt
  seen_so news (Withdraw w) own is saw told = λ domain. deserted w.queue.0 (saw domain)
  seen_so news (Accept a) own is saw told = stands_now a.version a.service a.queue.0 (RowAdmits setup (is_conversational a.mode) a.routine a.payload) saw
  seen_so news (Forward f) own (inr domain) saw told = absurd domain
  seen_so news (Forward f) own (inl is) saw told = record {
    row = stands_now f.version f.service f.queue.0 (RowAdmits setup false f.routine f.payload) saw.row;
    sent = since_take news f.server.0 (λ moment. IsSomeAnd (latest (is_entry_of f.request) moment) (Forwardable f.hop)) own is saw.sent;
  }
  seen_so news (Take t) own is saw told = tt
  seen_so news (Gone server) own is saw told = tt
  seen_so news (Down queue) own is saw told = no_rows queue.0 told
  seen_so news (Close queue) own is saw told = λ client low high. held_before (CallerHome client) (λ e. is_leave_of client e ≡ true) (λ past. has_left client past ≡ true) (left_here client) (left_more client) (told client low high)
  seen_so news (Start b) own is saw told = shown b.tick saw
  seen_so news (StartFailed b) own is saw told = shown b.tick saw
  seen_so news (End e) own is saw told = λ version shown. published_whole version (now BoardHome (λ past. version ≤ published past) (published_more version) (saw version shown))
  seen_so news (Stop y) own is saw told = λ cause. let queue = queue_of setup y.server.0 in let s = saw_new news queue (IsShut setup queue) (saw cause) in record { seen = past_in s.front; stood = stood (QueueHome queue) s.front s.stands s.before; shut = s.shows }
  seen_so news (Answer a) own is saw told = settled a.request (IsAnswerTo a.answer) told.0 told.1
  seen_so news (Refuse r) own (inl is) saw told = record { seen = evidence_now news r.by r.evidence own is saw; told = evidence_told r.by r.evidence own is saw told }
  seen_so news (Refuse r) own (inr domain) saw told = absurd domain
  seen_so news (Tick t) own is saw told = tt
  seen_so news (Cancel c) own is saw told = tt
  seen_so news (Lapse l) own is saw told = were_shown l.now l.deadline saw
  seen_so news (NotYet n) own is saw told = tt
  seen_so news (Leave client) own is saw told = tt
  seen_so news (Sweep y) own is saw told = tt
  seen_so news (Priority p) own is saw told = tt
  seen_so news (Send s) own is saw told = control_told true s.by.0 s.request told
  seen_so news (Receive r) own is saw told = record { control = control_told false r.by.0 r.request told.0; item = next_told r.by.0 r.request r.item told.1 }
  seen_so news (Break b) own is saw told = tt

  booted_so : (e : Event) (last : Stamp) → IsBooted setup last (held BoardHome) → IsBehind last x.stamp e → IsBootedAt setup e past
  booted_so (Advertise a) last booted behind = tt
  booted_so _ last booted behind = behind_boot last booted behind

  pub seen_part : NewIn setup clients past → (last : Stamp) (own : List Event) → IsBooted setup last (held BoardHome) → IsBehind last x.stamp x.event → IsOwn x.event own ⊎ IsOfDomain x.event
      → SawFronts setup clients held x.stamp x.event own → WasTold setup clients held x.stamp (its (worker_of clients x.event)) x.event → SeenPart setup clients x.event past
  seen_part news last own booted behind is saw told = record { booted = booted_so x.event last booted behind; named = seen_so news x.event own is saw told }
