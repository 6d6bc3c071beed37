-- How the work of one worker goes on: what it has seen grows, it notes one event more, and it leaves a lock.
use Rattle.std.proofs.Common.{Option, Some, None, ◌≡◌, ◌≢◌, ℕ, Bool, true, false, List, [], ◌∷◌, ◌++◌, length, drop, map, reverse, inl, inr, refl, sym, ◌∙◌, ap, subst, append_assoc}
use Rattle.std.specs.List.{All, filter}
use Rattle.std.proofs.lemmas.Bool.{cases_Bool}
use Rattle.std.proofs.lemmas.List.{map-append, append-nil, reverse-append}
use Rattle.std.proofs.lemmas.List.Elements.{All-nil, All-cons, All-push, All-weaker, All-head, All-tail, filter-append}
use Rattle.xa_types.specs.declared.setup.Setup.{Setup}
use Rattle.xa_types.specs.declared.stamp.Stamp.{Stamp}
use Rattle.xa_types.specs.declared.ids.CallerId.{CallerId}
use Rattle.xa_events.specs.declared.event.Event.{Event}
use Rattle.xa_events.specs.declared.event.Event.TheVariants.{Advertise, Withdraw, Accept, Take, Forward, Sweep, Gone, Down, Close, Tick, Start, StartFailed, End, Stop, Answer, Cancel, Lapse, Refuse, NotYet, Leave, Send, Receive, Break, Priority}
use Rattle.xa_events.specs.Words.{AtEach}
use Rattle.xa_events.specs.Homes.{Home, worker_of, of_worker, at_home}
use Rattle.xa_events.specs.Homes.Home.{CallerHome}
use Rattle.xa_events.specs.Cases.{WorkerPart, queue_by, Shows}
use Rattle.xa_events.specs.Local.{worker_events}
use Rattle.xa_stamp.specs.declared.home.Stamped.{Stamped}
use Rattle.xa_stamp.proofs.Stamps.{Rises-push}
use Rattle.xa_lock.specs.declared.makers.Made.{Made}
use Rattle.xa_lock.specs.declared.pass.Page.{Page}
use Rattle.xa_lock.specs.Pages.{StartsWith, page_seeing, page_leaving}
use Rattle.xa_worker.specs.Entering.{Enters, stamped_with}
use Rattle.xa_lock.specs.Makers.{maker_of, noted_in, made_by}
use Rattle.xa_worker.specs.Seen.{past_in, SawFront, SawRows, SawEvidence, SawFronts, IsBehind}
use Rattle.xa_types.specs.declared.row.Row.{Row}
use Rattle.xa_events.specs.declared.event.Evidence.{Evidence}
use Rattle.xa_events.specs.declared.event.Evidence.TheVariants.{Version, AllDown, Clock as ClockShown, Queue, Deadline, Rows, Routine, NoRow}
use Rattle.xa_worker.specs.Crew.{no_stamp, MayNote, stands_at, IsWork, IsNextWork}
use Rattle.xa_worker.proofs.Lists.{filter-yes, filter-no, filter-none, past_in-append, map-reverse}
use Rattle.std.specs.List.{All}
use Rattle.std.proofs.Common.{eqb-true}

-- ---- what was seen stands as more is seen

front_stays : (now seen : List Stamped) (stamp : Stamp) (P : List Event → Type 0) → StartsWith now seen → SawFront seen stamp P → SawFront now stamp P
front_stays now seen stamp P grew saw = record {
  front = saw.front;
  stands = (saw.stands.0 ++ grew.0, grew.1 ∙ (ap (λ xs. xs ++ grew.0) saw.stands.1 ∙ append_assoc saw.front saw.stands.0 grew.0));
  before = saw.before;
  shows = saw.shows;
}

module _ (setup : Setup) (clients : ℕ) (seen now : Home → List Stamped) (grew : (home : Home) → StartsWith (now home) (seen home)) where
  rows_stay : (stamp : Stamp) (caller : CallerId) (P : List Row → Type 0) (own : List Event) → SawRows setup clients seen stamp caller P own → SawRows setup clients now stamp caller P own
  rows_stay stamp caller P own (version, floor, saw) = (version, floor, front_stays _ _ stamp _ (grew _) saw)

  evidence_stays : (stamp : Stamp) (caller : CallerId) (evidence : Evidence) (own : List Event) → SawEvidence setup clients seen stamp caller evidence own → SawEvidence setup clients now stamp caller evidence own
  evidence_stays stamp caller (Version v) own saw = front_stays _ _ stamp _ (grew _) saw
  evidence_stays stamp caller (AllDown v) own saw = front_stays _ _ stamp _ (grew _) saw
  evidence_stays stamp caller (ClockShown tick) own saw = front_stays _ _ stamp _ (grew _) saw
  evidence_stays stamp caller (Queue queue n) own saw = front_stays _ _ stamp _ (grew _) saw
  evidence_stays stamp caller (Deadline tick deadline) own saw = front_stays _ _ stamp _ (grew _) saw
  evidence_stays stamp caller (Rows n) own saw = rows_stay stamp caller (Shows (queue_by setup clients caller.0) (Rows n)) own saw
  evidence_stays stamp caller (Routine routine) own saw = rows_stay stamp caller (Shows (queue_by setup clients caller.0) (Routine routine)) own saw
  evidence_stays stamp caller NoRow own saw = rows_stay stamp caller (Shows (queue_by setup clients caller.0) NoRow) own saw
  evidence_stays stamp caller _ own saw = tt

  fronts_stay : (stamp : Stamp) (e : Event) (own : List Event) → SawFronts setup clients seen stamp e own → SawFronts setup clients now stamp e own
  fronts_stay stamp (Advertise a) own saw = tt
  fronts_stay stamp (Withdraw w) own saw = λ domain. front_stays _ _ stamp _ (grew _) (saw domain)
  fronts_stay stamp (Accept a) own saw = front_stays _ _ stamp _ (grew _) saw
  fronts_stay stamp (Take t) own saw = tt
  fronts_stay stamp (Forward f) own saw = record { row = front_stays _ _ stamp _ (grew _) saw.row; sent = front_stays _ _ stamp _ (grew _) saw.sent }
  fronts_stay stamp (Sweep x) own saw = tt
  fronts_stay stamp (Gone server) own saw = tt
  fronts_stay stamp (Down queue) own saw = tt
  fronts_stay stamp (Close queue) own saw = tt
  fronts_stay stamp (Start b) own saw = front_stays _ _ stamp _ (grew _) saw
  fronts_stay stamp (StartFailed b) own saw = front_stays _ _ stamp _ (grew _) saw
  fronts_stay stamp (End e) own saw = λ version shown. front_stays _ _ stamp _ (grew _) (saw version shown)
  fronts_stay stamp (Stop x) own saw = λ cause. front_stays _ _ stamp _ (grew _) (saw cause)
  fronts_stay stamp (Answer a) own saw = tt
  fronts_stay stamp (Tick t) own saw = tt
  fronts_stay stamp (Cancel c) own saw = tt
  fronts_stay stamp (Lapse l) own saw = front_stays _ _ stamp _ (grew _) saw
  fronts_stay stamp (NotYet n) own saw = tt
  fronts_stay stamp (Refuse r) own saw = evidence_stays stamp r.by r.evidence own saw
  fronts_stay stamp (Leave client) own saw = tt
  fronts_stay stamp (Priority p) own saw = tt
  fronts_stay stamp (Send s) own saw = tt
  fronts_stay stamp (Receive r) own saw = tt
  fronts_stay stamp (Break b) own saw = tt

  each_stays : (newest : List Stamped) → AtEach (λ (x : Stamped) older. SawFronts setup clients seen x.stamp x.event (map (λ (y : Stamped). y.event) older)) newest
      → AtEach (λ (x : Stamped) older. SawFronts setup clients now x.stamp x.event (map (λ (y : Stamped). y.event) older)) newest
  each_stays [] saw = tt
  each_stays (x ∷ older) saw = (fronts_stay x.stamp x.event (map (λ (y : Stamped). y.event) older) saw.0, each_stays older saw.1)

  pub work_stays : (last : Stamp) (worker : ℕ) (noted : List Stamped) → IsWork setup clients last seen worker noted → IsWork setup clients last now worker noted
  work_stays last worker noted work = record {
    rises = work.rises;
    may = work.may;
    met = work.met;
    behind = work.behind;
    saw = each_stays (reverse noted) work.saw;
  }

-- ---- one event more

pub work_goes_on : (setup : Setup) (clients : ℕ) (last : Stamp) (seen : Home → List Stamped) (worker : ℕ) (noted : List Stamped) (x : Stamped) → IsWork setup clients last seen worker noted → IsNextWork setup clients last seen worker noted x
    → IsWork setup clients last seen worker (noted ++ x ∷ [])
work_goes_on setup clients last seen worker noted x work next = record {
  rises = Rises-push no_stamp noted x work.rises next.later next.bound;
  may = All-push (λ (y : Stamped). MayNote clients worker y.event) noted x work.may next.may;
  met = subst (λ (past : List Event). AtEach (WorkerPart setup clients) (worker_events clients worker past)) (sym (past_in-append noted (x ∷ []))) more;
  behind = All-push (λ (y : Stamped). IsBehind last y.stamp y.event) noted x work.behind next.behind;
  saw = subst (AtEach (λ (y : Stamped) older. SawFronts setup clients seen y.stamp y.event (map (λ (z : Stamped). z.event) older))) (sym (reverse-append noted (x ∷ [])))
      (subst (SawFronts setup clients seen x.stamp x.event) (sym (map-reverse (λ (y : Stamped). y.event) noted)) next.saw, work.saw);
}
  where
    more : AtEach (WorkerPart setup clients) (worker_events clients worker (x.event ∷ past_in noted))
    more =
        elim (cases_Bool (of_worker clients worker x.event)) [
          | inl y ↦ subst (AtEach (WorkerPart setup clients)) (sym (filter-yes (of_worker clients worker) x.event (past_in noted) y)) (next.met (eqb-true (worker_of clients x.event) worker y), work.met)
          | inr n ↦ subst (AtEach (WorkerPart setup clients)) (sym (filter-no (of_worker clients worker) x.event (past_in noted) n)) work.met
        ]

-- ---- a lock that is left

pub noted_made : (maker : CallerId) (more : List Stamped) → noted_in (made_by maker more) ≡ more
noted_made maker [] = refl
noted_made maker (x ∷ more) = ap (λ xs. x ∷ xs) (noted_made maker more)

drop_front : {X : Type 0} (xs ys : List X) → drop (length xs) (xs ++ ys) ≡ ys
drop_front [] ys = refl
drop_front (x ∷ xs) ys = drop_front xs ys

pub filter_all : {X : Type 0} (p : X → Bool) (xs : List X) → All (λ x. p x ≡ true) xs → filter p xs ≡ xs
filter_all p [] h = refl
filter_all p (x ∷ xs) h = filter-yes p x xs (All-head (λ x. p x ≡ true) x xs h) ∙ ap (λ ys. x ∷ ys) (filter_all p xs (All-tail (λ x. p x ≡ true) x xs h))

-- the page of the home has what was noted there
pub page_goes_on : (setup : Setup) (clients : ℕ) (home : Home) (maker : CallerId) (page : Page Made) (entries : List Made) (noted more : List Stamped) → noted_in page.own ≡ filter (stands_at setup clients home) noted
    → entries ≡ page.seen ++ made_by maker more → All (λ x. stands_at setup clients home x ≡ true) more → noted_in (page_leaving page entries).own ≡ filter (stands_at setup clients home) (noted ++ more)
page_goes_on setup clients home maker page entries noted more own grew stand =
    let at = stands_at setup clients home in
    let new : drop (length page.seen) entries ≡ made_by maker more = ap (drop (length page.seen)) grew ∙ drop_front page.seen (made_by maker more) in
    map-append (λ (entry : Made). entry.noted) page.own (drop (length page.seen) entries)
    ∙ (ap (λ xs. noted_in page.own ++ noted_in xs) new
    ∙ (ap (λ xs. noted_in page.own ++ xs) (noted_made maker more ∙ sym (filter_all at more stand))
    ∙ (ap (λ xs. xs ++ filter at more) own ∙ sym (filter-append at noted more))))

-- that of another home has what it had
pub page_stays : (setup : Setup) (clients : ℕ) (home : Home) (own : List Made) (noted more : List Stamped) → noted_in own ≡ filter (stands_at setup clients home) noted
    → All (λ x. stands_at setup clients home x ≡ false) more → noted_in own ≡ filter (stands_at setup clients home) (noted ++ more)
page_stays setup clients home own noted more is other =
    let at = stands_at setup clients home in
    is ∙ (sym (append-nil (filter at noted)) ∙ (ap (λ xs. filter at noted ++ xs) (sym (filter-none at more other)) ∙ sym (filter-append at noted more)))

-- what a page has seen is a front of what was noted
pub seen_noted : (entries seen : List Made) → StartsWith entries seen → StartsWith (noted_in entries) (noted_in seen)
seen_noted entries seen starts = (noted_in starts.0, ap noted_in starts.1 ∙ map-append (λ (entry : Made). entry.noted) seen starts.0)

-- ---- at the home of a caller no other worker notes anything

caller_is : (clients : ℕ) (setup : Setup) (caller worker : ℕ) (e : Event) → MayNote clients worker e → at_home setup clients (CallerHome caller) e ≡ true → worker ≡ caller
caller_is clients setup caller worker (Start b) (inl own) here = sym own.1 ∙ eqb-true _ caller here
caller_is clients setup caller worker (StartFailed b) (inl own) here = sym own.1 ∙ eqb-true _ caller here
caller_is clients setup caller worker (End e) (inl own) here = sym own.1 ∙ eqb-true _ caller here
caller_is clients setup caller worker (Stop x) (inl own) here = sym own.1 ∙ eqb-true _ caller here
caller_is clients setup caller worker (Answer a) (inl own) here = sym own.1 ∙ eqb-true _ caller here
caller_is clients setup caller worker (Cancel c) (inl own) here = sym own.1 ∙ eqb-true _ caller here
caller_is clients setup caller worker (Lapse l) (inl own) here = sym own.1 ∙ eqb-true _ caller here
caller_is clients setup caller worker (Refuse r) (inl own) here = sym own.1 ∙ eqb-true _ caller here
caller_is clients setup caller worker (NotYet n) (inl own) here = sym own.1 ∙ eqb-true _ caller here
caller_is clients setup caller worker (Leave client) (inl own) here = sym own.1 ∙ eqb-true _ caller here
caller_is clients setup caller worker (Send s) (inl own) here = sym own.1 ∙ eqb-true _ caller here
caller_is clients setup caller worker (Receive r) (inl own) here = sym own.1 ∙ eqb-true _ caller here
caller_is clients setup caller worker (Break b) (inl own) here = sym own.1 ∙ eqb-true _ caller here
caller_is clients setup caller worker (Priority p) (inl own) here = sym own.1 ∙ eqb-true _ caller here
caller_is clients setup caller worker (Advertise a) may here = absurd (cc here)
caller_is clients setup caller worker (Withdraw w) may here = absurd (cc here)
caller_is clients setup caller worker (Sweep x) may here = absurd (cc here)
caller_is clients setup caller worker (Down queue) may here = absurd (cc here)
caller_is clients setup caller worker (Close queue) may here = absurd (cc here)
caller_is clients setup caller worker _ (inl own) here = absurd (cc here)
caller_is clients setup caller worker _ (inr d) here = absurd d

pub others_note_nothing : (setup : Setup) (clients caller worker : ℕ) (noted : List Stamped) → worker ≢ caller → All (λ (x : Stamped). MayNote clients worker x.event) noted → filter (stands_at setup clients (CallerHome caller)) noted ≡ []
others_note_nothing setup clients caller worker noted apart may =
    let at = stands_at setup clients (CallerHome caller) in
    filter-none at noted (All-weaker (λ (x : Stamped). MayNote clients worker x.event) (λ x. at x ≡ false) (λ x m. elim (cases_Bool (at x)) [ inl y ↦ absurd (apart (caller_is clients setup caller worker x.event m y)) | inr n ↦ n ]) noted may)

-- ---- entries of one maker

pub all_of_maker : (maker : CallerId) (number : ℕ) (xs : List Stamped) → maker.0 ≡ number → All (λ (entry : Made). maker_of entry ≡ number) (made_by maker xs)
all_of_maker maker number [] is = All-nil (λ (entry : Made). maker_of entry ≡ number)
all_of_maker maker number (x ∷ xs) is = All-cons (λ (entry : Made). maker_of entry ≡ number) (record { maker = maker; noted = x }) (made_by maker xs) is (all_of_maker maker number xs is)

-- ---- one enter

stamped_there : (setup : Setup) (clients : ℕ) (home : Home) (stamp : Option Stamp) (event : Event) → at_home setup clients home event ≡ true → All (λ (x : Stamped). stands_at setup clients home x ≡ true) (stamped_with stamp event)
stamped_there setup clients home None event is = All-nil (λ (x : Stamped). stands_at setup clients home x ≡ true)
stamped_there setup clients home (Some stamp) event is = All-cons (λ (x : Stamped). stands_at setup clients home x ≡ true) (record { stamp = stamp; event = event }) [] is (All-nil (λ (x : Stamped). stands_at setup clients home x ≡ true))

pub enters_own : (setup : Setup) (clients : ℕ) (home : Home) (old new : Page Made) (maker : CallerId) (seen : Stamp) (stamp : Option Stamp) (event : Event) (noted : List Stamped) → Enters old new maker seen stamp event → at_home setup clients home event ≡ true
    → noted_in old.own ≡ filter (stands_at setup clients home) noted → noted_in new.own ≡ filter (stands_at setup clients home) (noted ++ stamped_with stamp event)
enters_own setup clients home old new maker seen stamp event noted e is own =
    let more = stamped_with stamp event in
    ap (λ (p : Page Made). noted_in p.own) e.page ∙ page_goes_on setup clients home maker (page_seeing old e.found) (e.found ++ made_by maker more) noted more own refl (stamped_there setup clients home stamp event is)

pub enters_seen : (old new : Page Made) (maker : CallerId) (seen : Stamp) (stamp : Option Stamp) (event : Event) → Enters old new maker seen stamp event → StartsWith new.seen old.seen
enters_seen old new maker seen stamp event e =
    let starts = e.knows.1 in
    let more = made_by maker (stamped_with stamp event) in
    (starts.0 ++ more, ap (λ (p : Page Made). p.seen) e.page ∙ (ap (λ es. es ++ more) starts.1 ∙ append_assoc old.seen starts.0 more))
