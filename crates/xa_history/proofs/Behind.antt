-- Each answer tells what befell its request, behind the end of a life that ended with that.
use Rattle.std.proofs.Common.{◌≡◌, ℕ, zero, suc, ◌+◌, ◌<◌, ◌≤◌, ◌||◌, Bool, true, false, List, [], ◌∷◌, ◌++◌, map, Option, Some, None, inl, inr, refl, sym, ◌∙◌, ap, subst, append_assoc, append-nil, arith, if◌then◌else◌, eq-eqb}
use Rattle.std.specs.Prelude.{IfSome, IsSomeAnd, ⊤}
use Rattle.std.specs.List.{All, Contains, flat_map}
use Rattle.std.proofs.lemmas.Bool.{cases_Bool}
use Rattle.std.proofs.lemmas.List.{map-append}
use Rattle.std.proofs.lemmas.Option.{get_or_from_slice_get, slice_get_within}
use Rattle.std.proofs.lemmas.List.Elements.{All-nil, All-cons, All-head, All-tail, All-weaker, All-map, All-contains, All-contains_itself, Contains-append_left, Contains-append_right, Contains-append_cases}
use Rattle.xa_client_worker.specs.xa_types.declared.setup.Setup.{Setup}
use Rattle.xa_client_worker.specs.xa_types.declared.stamp.Stamp.{Stamp}
use Rattle.xa_client_worker.specs.xa_types.declared.ids.RequestId.{RequestId}
use Rattle.xa_client_worker.specs.xa_types.declared.ids.ServerId.{ServerId}
use Rattle.xa_client_worker.specs.xa_types.declared.reply.Answer.{Answer as Reply}
use Rattle.xa_client_worker.specs.xa_types.Setup.{numbered, queue_of}
use Rattle.xa_client_worker.specs.xa_events.declared.event.Event.{Event}
use Rattle.xa_client_worker.specs.xa_events.declared.event.Event.TheVariants.{Withdraw, Sweep, Gone, Down, Start, StartFailed, End, Stop, Answer}
use Rattle.xa_client_worker.specs.xa_events.declared.event.Replied.{Replied}
use Rattle.xa_client_worker.specs.xa_events.Cases.{HomePart}
use Rattle.xa_client_worker.specs.xa_events.Server.{AllGone, is_gone}
use Rattle.xa_client_worker.specs.xa_events.Homes.Home.{QueueHome}
use Rattle.xa_client_worker.specs.xa_events.Homes.{Home, home_of, worker_of, same_home}
use Rattle.xa_client_worker.specs.xa_events.State.{caller_of}
use Rattle.xa_client_worker.specs.xa_events.Request.{Settlement, settlement_in}
use Rattle.xa_client_worker.specs.xa_events.Answers.{reply_of}
use Rattle.xa_client_worker.specs.xa_events.Words.{AtEach, count}
use Rattle.xa_client_worker.proofs.xa_events.There.{known_server}
use Rattle.xa_client_worker.proofs.xa_events.WordsLemmas.{count_no}
use Rattle.xa_client_worker.specs.xa_stamp.declared.home.Stamped.{Stamped}
use Rattle.xa_client_worker.specs.xa_stamp.Home.{Notes, Rises, last_stamp}
use Rattle.xa_client_worker.specs.xa_lock.declared.makers.Made.{Made}
use Rattle.xa_client_worker.specs.xa_lock.Makers.{maker_of, noted_in}
use Rattle.xa_client_worker.specs.xa_worker.Crew.{MayNote, no_stamp}
use Rattle.xa_client_worker.specs.xa_worker.Ending.{workers_of}
use Rattle.xa_client_worker.specs.xa_worker.Seen.{past_in}
use Rattle.xa_client_worker.proofs.xa_worker.Before.{All-on}
use Rattle.xa_client_worker.proofs.xa_worker.Lists.{past_in-append, same_home-is, AtEach-cut}
use Rattle.xa_client_worker.specs.xa_cell.declared.tokens.Seat.{Seat}
use Rattle.xa_client_worker.specs.xa_cell.declared.view.Fill.{Fill}
use Rattle.xa_client_worker.specs.xa_cell.declared.view.Part.{Part}
use Rattle.xa_client_worker.specs.xa_cell.Known.{known}
use Rattle.xa_client_worker.specs.xa_cell.Views.{at}
use Rattle.xa_client_worker.specs.xa_cell.Law.{parts_of}
use Rattle.xa_client_worker.specs.xa_worker.Work.{WorkState}
use Rattle.xa_client_worker.proofs.xa_worker.Noting.{not_theirs}
use Rattle.xa_client_worker.specs.xa_caller.declared.cargo.Filling.{Filling}
use Rattle.xa_client_worker.specs.xa_server.Told.{Settles, IsEnded, EndedFor}
use Rattle.xa_client_worker.specs.xa_server.Fillings.{TookFor, WasTaken}
use Rattle.xa_client_worker.proofs.xa_server.Joining.{each_seat, all_seats, shown}
use Rattle.xa_client_worker.proofs.xa_server.Standing.{crew_stands}
use Rattle.xa_client_worker.specs.xa_desk.Deserted.{ClearsBehind, GaveUpLast as GaveUpThere}
use Rattle.xa_client_worker.specs.xa_desk.declared.domain.Domain.{Domain}
use Rattle.xa_client_worker.specs.xa_desk.declared.desk.Desk.{Desk}
use Rattle.xa_server_worker.specs.Behind.{is_lost, ends_by, is_ending, SweepsOr, OnlySweeps, stops_by_exit, exits_next, NoExitNext, IsBehindEnd, FilledBehind, TellsLast}
use Rattle.xa_server_worker.specs.Lives.{ServerShows}
use Rattle.xa_history.specs.Joined.{Back, kept_of, noted_of, AllLeft}
use Rattle.xa_history.specs.Ended.{ServerEnd, Ends}
use Rattle.xa_history.specs.Told.{all_noted, is_start, is_sweep, to_start, IsOverBefore, LostBefore, TellsAfter, GaveUpLast, ClearsLast, AreTold}
use Rattle.xa_history.specs.Served.{IsRecorded}
use Rattle.xa_history.proofs.Listed.{all_numbered, one_there}
use Rattle.xa_history.proofs.Going.{among}
use Rattle.xa_history.proofs.Callers.{noted_is}
use Rattle.xa_history.proofs.History.{each_at, is_some}
use Rattle.xa_history.proofs.Left.{each_worker, has_left, each_left}
use Rattle.xa_history.proofs.Standing.{at_makers}
use Rattle.xa_history.proofs.Deserting.{gone_longer}
use Rattle.xa_history.proofs.Crew.{whole_is, each_shown, desks_are_crew}
use Rattle.xa_history.proofs.Homes.{homes_met}
use Rattle.xa_history.proofs.Recorded.{held, names, names_are, recorded}

-- ---- the end of a life, in what a worker noted

or_true : (b : Bool) → (b || true) ≡ true
or_true true = refl
or_true false = refl

-- what starts no life leaves an end an end
ends_on : (e : Event) → is_start e ≡ false → ends_by e true ≡ true
ends_on (Start b) same = cc same
ends_on (StartFailed b) same = cc same
ends_on (Stop x) same = refl
ends_on (End e) same = or_true (is_lost e.outcome)
ends_on _ same = refl

module _ (stamp : Stamp) where
  abbrev Low : Stamped → Type 0
  Low x = is_sweep x.event ≡ false → x.stamp.0 < stamp.0

  sweep_first : (x : Stamped) (rest : List Stamped) (e : Event) → x.event ≡ e → SweepsOr e (OnlySweeps ⊤ rest) → (OnlySweeps ⊤ rest → All Low (to_start rest)) → All Low (if is_start e then [] else x ∷ to_start rest)
  sweep_first x rest (Start b) is sweeps on = All-nil Low
  sweep_first x rest (StartFailed b) is sweeps on = All-nil Low
  sweep_first x rest (Sweep s) is sweeps on = All-cons Low x (to_start rest) (λ plain. cc (ap is_sweep is, plain)) (on sweeps)
  sweep_first x rest _ is sweeps on = absurd sweeps

  sweeps_low : (rest : List Stamped) → OnlySweeps ⊤ rest → All Low (to_start rest)
  sweeps_low [] sweeps = All-nil Low
  sweeps_low (x ∷ rest) sweeps = sweep_first x rest x.event refl sweeps (sweeps_low rest)

  -- from an end on, over what came before the stamp, and then over sweeps alone
  end_low : (front mid rest : List Stamped) → is_ending (past_in front) ≡ true → All (λ (x : Stamped). x.stamp.0 < stamp.0) mid → (is_ending (past_in (front ++ mid)) ≡ true → OnlySweeps ⊤ rest) → All Low (to_start (mid ++ rest))
  end_low front [] rest ending low quiet = sweeps_low rest (quiet (ap (λ (l : List Stamped). is_ending (past_in l)) (append-nil front) ∙ ending))
  end_low front (x ∷ mid) rest ending low quiet = elim (cases_Bool (is_start x.event)) [
    | inl y ↦ subst (λ b. All Low (if b then [] else x ∷ to_start (mid ++ rest))) (sym y) (All-nil Low)
    | inr n ↦
        let P : Stamped → Type 0 = λ z. z.stamp.0 < stamp.0 in
        let first = All-head P x mid low in
        let again : is_ending (past_in (front ++ x ∷ [])) ≡ true = ap is_ending (past_in-append front (x ∷ [])) ∙ ap (ends_by x.event) ending ∙ ends_on x.event n in
        let same : (front ++ x ∷ []) ++ mid ≡ front ++ x ∷ mid = append_assoc front (x ∷ []) mid in
        subst (λ b. All Low (if b then [] else x ∷ to_start (mid ++ rest))) (sym n)
        (All-cons Low x (to_start (mid ++ rest)) (λ plain. first) (end_low (front ++ x ∷ []) mid rest again (All-tail P x mid low) (λ is. quiet (ap (λ (l : List Stamped). is_ending (past_in l)) (sym same) ∙ is))))
  ]

-- what rises lies above where it begins
above : (low : Stamp) (front : List Stamped) (x : Stamped) (rest : List Stamped) → Rises low (front ++ x ∷ rest) → low.0 < x.stamp.0
above low [] x rest rises = rises.0
above low (y ∷ front) x rest rises = let first = rises.0 in let later = above y.stamp front x rest rises.1 in omega (arith, first, later)

last_low : (low : Stamp) (own rest : List Stamped) → Rises low (own ++ rest) → low.0 ≤ last_stamp low own
last_low low [] rest rises = omega arith
last_low low (x ∷ own) rest rises = let first = rises.0 in let later = last_low x.stamp own rest rises.1 in omega (arith, first, later)

all_low : (low : Stamp) (own rest : List Stamped) → Rises low (own ++ rest) → All (λ (x : Stamped). x.stamp.0 ≤ last_stamp low own) own
all_low low [] rest rises = All-nil (λ (x : Stamped). x.stamp.0 ≤ last_stamp low [])
all_low low (x ∷ own) rest rises = All-cons (λ (y : Stamped). y.stamp.0 ≤ last_stamp x.stamp own) x own (last_low x.stamp own rest rises.1) (all_low x.stamp own rest rises.1)

-- an entry that is no later than the last of a front stands in it
stands_in : (low : Stamp) (before after front rest : List Stamped) (x : Stamped) → before ++ x ∷ after ≡ front ++ rest → Rises low (front ++ rest) → x.stamp.0 ≤ last_stamp low front → (mid : List Stamped) × (front ≡ before ++ x ∷ mid) × (after ≡ mid ++ rest)
stands_in low before after [] rest x same rises le =
    let high = above low before x after (subst (Rises low) (sym {A = List Stamped} same) rises) in absurd (omega (arith, high, le))
stands_in low [] after (y ∷ front) rest x same rises le =
    let first : x ≡ y = cc same in
    let more : after ≡ front ++ rest = cc same in
    (front, ap (λ (z : Stamped). z ∷ front) (sym first), more)
stands_in low (z ∷ before) after (y ∷ front) rest x same rises le =
    let first : z ≡ y = cc same in
    let more : before ++ x ∷ after ≡ front ++ rest = cc same in
    let is = stands_in y.stamp before after front rest x more rises.1 le in
    (is.0, ap (λ (w : Stamped). w ∷ front) (sym first) ∙ ap (λ (l : List Stamped). z ∷ l) is.1, is.2)

-- an end of a life ends it, whatever came before
exit_ends : (e : Event) (before : Bool) → stops_by_exit e ≡ true → ends_by e before ≡ true
exit_ends (Stop x) before is = refl
exit_ends _ before is = absurd (cc is)

exit_no_start : (e : Event) → stops_by_exit e ≡ true → is_start e ≡ false
exit_no_start (Stop x) is = refl
exit_no_start _ is = absurd (cc is)

-- where a life ends by TPEXIT behind a front, that end isn't what comes next behind the stamp
exit_low : (stamp : Stamp) (front mid rest : List Stamped) → exits_next (mid ++ rest) ≡ true → NoExitNext ⊤ rest → All (λ (x : Stamped). x.stamp.0 < stamp.0) mid → (is_ending (past_in (front ++ mid)) ≡ true → OnlySweeps ⊤ rest)
    → All (Low stamp) (to_start (mid ++ rest))
exit_low stamp front [] [] exits stays low quiet = absurd (cc exits)
exit_low stamp front [] (x ∷ rest) exits stays low quiet = absurd (cc (exits, stays))
exit_low stamp front (x ∷ mid) rest exits stays low quiet =
    let P : Stamped → Type 0 = λ z. z.stamp.0 < stamp.0 in
    let first = All-head P x mid low in
    let ending : is_ending (past_in (front ++ x ∷ [])) ≡ true = ap is_ending (past_in-append front (x ∷ [])) ∙ exit_ends x.event (is_ending (past_in front)) exits in
    let same : (front ++ x ∷ []) ++ mid ≡ front ++ x ∷ mid = append_assoc front (x ∷ []) mid in
    subst (λ b. All (Low stamp) (if b then [] else x ∷ to_start (mid ++ rest))) (sym (exit_no_start x.event exits))
    (All-cons (Low stamp) x (to_start (mid ++ rest)) (λ plain. first) (end_low stamp (front ++ x ∷ []) mid rest ending (All-tail P x mid low) (λ is. quiet (ap (λ (l : List Stamped). is_ending (past_in l)) (sym same) ∙ is))))

-- an end that was told with a stamp was over by then
over_by : (own : List Stamped) (stamp later : Stamp) (entry : Stamped) (lost : Bool) → Rises no_stamp own → IsBehindEnd ⊤ ⊤ own stamp → entry.stamp.0 ≤ stamp.0 → stamp.0 < later.0 → (lost ≡ true → (b : Bool) → ends_by entry.event b ≡ true) → IsOverBefore own entry lost later
over_by own stamp later entry lost rises is le less always before after same ends =
    let last = is.last in
    let risen : Rises no_stamp (is.before ++ is.after) = subst (Rises no_stamp) is.parts rises in
    let mid = stands_in no_stamp before after is.before is.after entry (sym {A = List Stamped} same ∙ is.parts) risen (omega (arith, le, last)) in
    let front : List Stamped = before ++ entry ∷ [] in
    let whole : is.before ≡ front ++ mid.0 = mid.1 ∙ sym (append_assoc before (entry ∷ []) mid.0) in
    let P : Stamped → Type 0 = λ x. x.stamp.0 ≤ last_stamp no_stamp is.before in
    let low : All (λ (x : Stamped). x.stamp.0 < later.0) mid.0 =
    All-weaker P (λ (x : Stamped). x.stamp.0 < later.0) (λ x most. omega (arith, most, last, less)) mid.0 (All-part P front mid.0 (subst (All P) whole (all_low no_stamp is.before is.after risen))) in
    let quiet : is_ending (past_in (front ++ mid.0)) ≡ true → OnlySweeps ⊤ is.after = λ at_end. is.quiet (ap (λ (l : List Stamped). is_ending (past_in l)) whole ∙ at_end) in
    subst (λ (l : List Stamped). All (Low later) (to_start l)) (sym {A = List Stamped} mid.2) (
    elim (cases_Bool lost) [
      | inl y ↦ end_low later front mid.0 is.after (ap is_ending (past_in-append before (entry ∷ [])) ∙ always y (is_ending (past_in before))) low quiet
      | inr n ↦ exit_low later front mid.0 is.after (ap exits_next (sym {A = List Stamped} mid.2) ∙ (ap (λ (b : Bool). b || exits_next after) (sym n) ∙ ends)) is.stays low quiet
    ])
  where
    All-part : (P : Stamped → Type 0) (xs ys : List Stamped) → All P (xs ++ ys) → All P ys
    All-part P [] ys all = all
    All-part P (x ∷ xs) ys all = All-part P xs ys (All-tail P x (xs ++ ys) all)

-- ---- a queue whose servers were all given up

-- no other is given up there
none_later : (setup : Setup) (queue : ℕ) (front rest : List Stamped) → AllGone setup queue (past_in front) → AtEach (HomePart setup) (past_in (front ++ rest)) → (x : Stamped) (other : ServerId) → Contains rest x → x.event ≡ Gone other → queue_of setup other.0 ≡ queue → ⊥
none_later setup queue front [] gone met x other here is of = let empty = here.1 in absurd (omega (arith, empty))
none_later setup queue front (y ∷ rest) gone met x other here is of = elim (Contains-append_cases (y ∷ []) rest x here) [
  | inl first ↦
      let same : x ≡ y = only y x first in
      let part : HomePart setup y.event (past_in front) =
      AtEach-cut (HomePart setup) (map (λ (z : Stamped). z.event) (front ++ y ∷ rest)) (map (λ (z : Stamped). z.event) front) (map (λ (z : Stamped). z.event) rest) y.event met (map-append (λ (z : Stamped). z.event) front (y ∷ rest)) in
      let its = subst (λ (e : Event). HomePart setup e (past_in front)) (ap (λ (z : Stamped). z.event) (sym same) ∙ is) part in
      let there = known_server setup other.0 its.known in
      cc (its.not_gone, gone other.0 there.0 there.1 of)
  | inr later ↦ none_later setup queue (front ++ y ∷ []) rest (λ server some within its. gone_on server (gone server some within its)) (subst (λ (l : List Stamped). AtEach (HomePart setup) (past_in l)) (sym (append_assoc front (y ∷ []) rest)) met) x other later is of
]
  where
    only : (z w : Stamped) → Contains (z ∷ []) w → w ≡ z
    only z w one = All-contains (λ (v : Stamped). v ≡ z) (z ∷ []) w (All-cons (λ (v : Stamped). v ≡ z) z [] refl (All-nil (λ (v : Stamped). v ≡ z))) one

    gone_on : (server : ℕ) → is_gone server (past_in front) ≡ true → is_gone server (past_in (front ++ y ∷ [])) ≡ true
    gone_on server before = ap (is_gone server) (past_in-append front (y ∷ [])) ∙ gone_longer server (y.event ∷ []) (past_in front) before

-- ---- where entries stand

-- the entries of all homes are those of each
at_home : (held_at : Home → List Stamped) (x : Stamped) (homes : List Notes) (those : List Home) → map (λ (h : Notes). h.entries) homes ≡ map held_at those → Contains (all_noted homes) x → (home : Home) × Contains (held_at home) x
at_home held_at x [] those are here = absurd (let low = here.1 in omega (arith, low))
at_home held_at x (h ∷ homes) [] are here = absurd (cc are)
at_home held_at x (h ∷ homes) (n ∷ those) are here =
    let same : h.entries ≡ held_at n = cc are in
    let more : map (λ (h : Notes). h.entries) homes ≡ map held_at those = cc are in
    elim (Contains-append_cases h.entries (all_noted homes) x here) [
      | inl first ↦ (n, subst (λ (l : List Stamped). Contains l x) same first)
      | inr later ↦ at_home held_at x homes those more later
    ]

among_all : (held_at : Home → List Stamped) (home : Home) (x : Stamped) → Contains (held_at home) x → (homes : List Notes) (those : List Home) → map (λ (h : Notes). h.entries) homes ≡ map held_at those → (count (same_home home) those ≡ 0 → ⊥) → Contains (all_noted homes) x
among_all held_at home x here [] [] are some = absurd (some refl)
among_all held_at home x here [] (n ∷ those) are some = absurd (cc are)
among_all held_at home x here (h ∷ homes) [] are some = absurd (some refl)
among_all held_at home x here (h ∷ homes) (n ∷ those) are some =
    let same : h.entries ≡ held_at n = cc are in
    let more : map (λ (h : Notes). h.entries) homes ≡ map held_at those = cc are in
    elim (cases_Bool (same_home home n)) [
      | inl y ↦ Contains-append_left h.entries (all_noted homes) x (subst (λ (xs : List Stamped). Contains xs x) (ap held_at (same_home-is home n y) ∙ sym same) here)
      | inr off ↦ Contains-append_right h.entries (all_noted homes) x (among_all held_at home x here homes those more (λ none. some (count_no (same_home home) n those off ∙ none)))
    ]

-- what holds of each by its number holds of all
all_by_number : {X : Type 0} (P : X → Type 0) (xs : List X) → ((number : ℕ) (x : X) → numbered number xs ≡ Some x → P x) → All P xs
all_by_number P xs each k default low = let one = one_there xs k low in subst P (sym (get_or_from_slice_get xs k one.0 default one.1)) (each (suc k) one.0 one.1)

-- the settlement that a filling tells is what the answer tells
same_request : (a : Replied) (request : RequestId) (entry : Event) (reply : Reply) → request ≡ a.request → IsSomeAnd (settlement_in request entry) (λ (s : Settlement). reply ≡ reply_of s) → IsSomeAnd (settlement_in a.request entry) (λ (s : Settlement). reply ≡ reply_of s)
same_request a request entry reply is tells = subst (λ (r : RequestId). IsSomeAnd (settlement_in r entry) (λ (s : Settlement). reply ≡ reply_of s)) is tells

module _ {W : Type 0} (d : Domain) (b : Back) (domain : WorkState) (desks : List Desk) (servers : List ServerEnd) (homes : List Notes) (ends : Ends d b domain desks servers homes W) where
  abbrev all : AllLeft d b domain desks
  all = ends.left

  abbrev workers : ℕ
  workers = workers_of d.setup d.clients

  abbrev noted : ℕ → List Stamped
  noted = noted_of domain desks

  abbrev at_homes : Home → List Stamped
  at_homes = held d b domain desks all

  abbrev IsBy : ℕ → Stamped → Type 0
  IsBy worker x = (worker < workers) × Contains (noted worker) x × MayNote d.clients worker x.event

  abbrev HasMaker : Stamped → Type 0
  HasMaker x = (worker : ℕ) × IsBy worker x

  -- each entry of a home is its maker's
  by_maker : (home : Home) → All HasMaker (at_homes home)
  by_maker home =
      All-map HasMaker (λ (entry : Made). entry.noted) (kept_of b home)
      (All-weaker (λ (entry : Made). IsBy (maker_of entry) entry.noted) (λ (entry : Made). HasMaker entry.noted) (λ entry is. (maker_of entry, is)) (kept_of b home)
      (at_makers d b domain desks all IsBy home (λ worker low. All-weaker (Contains (noted worker)) (IsBy worker) (λ x here. (low, here, All-contains (λ (y : Stamped). MayNote d.clients worker y.event) (noted worker) x (each_left d b domain desks all worker low).work.may here)) (noted worker) (All-contains_itself (noted worker)))))

  maker_in : (x : Stamped) → Contains (all_noted homes) x → HasMaker x
  maker_in x here =
      let are = names_are d b domain desks all homes ends.homes_are in
      let its = at_home at_homes x homes (names d b domain desks all) are.are here in
      All-contains HasMaker (at_homes its.0) x (by_maker its.0) its.1

  stands_all : (worker : ℕ) → worker < workers → (x : Stamped) → Contains (noted worker) x → Contains (all_noted homes) x
  stands_all worker low x here =
      let are = names_are d b domain desks all homes ends.homes_are in
      let home : Home = home_of d.setup d.clients x.event in
      let there = crew_stands d.setup d.clients workers (kept_of b) noted (desks_are_crew d b domain desks all) worker low x here in
      among_all at_homes home x there homes (names d b domain desks all) are.are (λ none. let empty : Contains [] x = subst (λ (l : List Made). Contains (noted_in l) x) (are.rest home none) there in absurd (let none_there = empty.1 in omega (arith, none_there)))

  -- ---- what seats filled

  -- the filling tells how its request was settled, and whoever takes it later is told behind the end of a life that ended with it
  record IsLate (request : RequestId) (stamp : Stamp) (answer : Reply) : Type 0 where
    pub entry : Stamped
    pub stands : Contains (all_noted homes) entry
    pub settles : Settles request answer stamp entry
    pub over : (later : Stamp) → stamp.0 < later.0 → LostBefore d.clients noted entry later entry.event

  abbrev Late : Fill Filling → Type 0
  Late fill = IfSome fill.answer.answer (IsLate fill.opening.request fill.answer.stamp)

  -- at a worker's desk
  module _ (worker : ℕ) (desk : Desk) (there : numbered worker desks ≡ Some desk) (low : worker < workers) where
    abbrev its_own : List Stamped
    its_own = desk.caller.work.own

    its_noted : noted worker ≡ its_own
    its_noted = noted_is domain desks worker desk there

    may_note : (x : Stamped) → Contains its_own x → MayNote d.clients worker x.event
    may_note x here = All-contains (λ (y : Stamped). MayNote d.clients worker y.event) (noted worker) x (each_left d b domain desks all worker low).work.may (subst (λ (l : List Stamped). Contains l x) (sym {A = List Stamped} its_noted) here)

    -- a server's worker told behind the ends of its server's lives
    server_told : (server : ℕ) → 0 < server → caller_of d.clients server ≡ worker → TellsLast desk
    server_told server some is =
        let Shows : ServerEnd → ℕ → Desk → Type 0 = λ x k desk. ServerShows d x.shown.name (queue_of d.setup k) k desk x.lives x.cut x.shown W in
        let one = each_at (λ k (x : ServerEnd). IsSomeAnd (numbered (d.clients + k) desks) (Shows x k)) 1 servers ends.each server (omega (arith, some)) (let count = ends.count in omega (arith, is, low, count)) in
        let its = is_some (Shows one.0 server) (numbered (d.clients + server) desks) one.1 in
        let same : its.0 ≡ desk = cc (sym its.1 ∙ ap (λ n. numbered n desks) is ∙ there) in
        subst TellsLast same its.2.told

    module _ (k : ℕ) (f : Fill Filling) (here : Contains (at k (known desk.caller.seat)).filled f) where
      lost_before : (answer : Reply) → f.answer.answer ≡ Some answer → (ended : IsEnded its_own f.opening.request f.answer.stamp answer) → (later : Stamp) → f.answer.stamp.0 < later.0 → (e : Event) → ended.entry.event ≡ e → LostBefore d.clients noted ended.entry later e
      lost_before answer says ended later less (End e) is = λ some.
          elim (subst (MayNote d.clients worker) is (may_note ended.entry ended.stands)) [
            | inl its ↦
                let behind : IsBehindEnd ⊤ ⊤ its_own f.answer.stamp = subst (λ (o : Option Reply). IfSome o (λ a. IsBehindEnd ⊤ ⊤ its_own f.answer.stamp)) says (All-contains (FilledBehind ⊤ ⊤ its_own) (at k (known desk.caller.seat)).filled f (server_told e.server.0 some its.1 k) here) in
                let rises : Rises no_stamp its_own = subst (Rises no_stamp) its_noted (each_left d b domain desks all worker low).work.rises in
                subst (λ (l : List Stamped). IsOverBefore l ended.entry (is_lost e.outcome) later) (sym {A = List Stamped} (ap noted its.1 ∙ its_noted))
                (over_by its_own f.answer.stamp later ended.entry (is_lost e.outcome) rises behind ended.settles.by less (λ lost past. ap (λ (x : Event). ends_by x past) is ∙ ap (λ (c : Bool). c || past) lost))
            | inr of ↦ absurd of
          ]
      lost_before answer says ended later less _ is = tt

      late : (o : Option Reply) → f.answer.answer ≡ o → IfSome o (IsEnded its_own f.opening.request f.answer.stamp) → IfSome o (IsLate f.opening.request f.answer.stamp)
      late None says ended = tt
      late (Some answer) says ended = record {
        entry = ended.entry;
        stands = stands_all worker low ended.entry (subst (λ (l : List Stamped). Contains l ended.entry) (sym {A = List Stamped} its_noted) ended.stands);
        settles = ended.settles;
        over = λ later less. lost_before answer says ended later less ended.entry.event refl;
      }

    desk_late : (k : ℕ) → All Late (at k (known desk.caller.seat)).filled
    desk_late k =
        let filled = (at k (known desk.caller.seat)).filled in
        All-weaker (Contains filled) Late (λ f here. late k f here f.answer.answer refl (All-contains (EndedFor its_own) filled f ((has_left d b domain desks all worker desk there).is.filled k) here)) filled (All-contains_itself filled)

  number_low : (worker : ℕ) (desk : Desk) → numbered worker desks ≡ Some desk → worker < workers
  number_low zero desk there = omega arith
  number_low (suc k) desk there = let low = slice_get_within desks k desk there in let count = all.count in omega (arith, low, count)

  none_late : (f : Fill Filling) → f.answer.answer ≡ None → Late f
  none_late f none = subst (λ (o : Option Reply). IfSome o (IsLate f.opening.request f.answer.stamp)) (sym none) tt

  all_late : (k : ℕ) → All (λ (s : Seat Filling). All Late (at k (known s)).filled) b.seats
  all_late k =
      let P : Seat Filling → Type 0 = λ s. All Late (at k (known s)).filled in
      subst (All P) (sym all.seats) (All-cons P all.seat (map (λ (desk : Desk). desk.caller.seat) desks)
      (All-weaker (λ (f : Fill Filling). f.answer.answer ≡ None) Late none_late (at k (known all.seat)).filled (all.silent k))
      (All-map P (λ (desk : Desk). desk.caller.seat) desks (all_by_number (λ (desk : Desk). P desk.caller.seat) desks (λ worker desk there. desk_late worker desk there (number_low worker desk there) k))))

  -- ---- what callers were told

  abbrev WasTook : Stamped → Type 0
  WasTook x = (a : Replied) → x.event ≡ Answer a → (seat : Seat Filling) × Contains b.seats seat × TookFor (known seat) x.stamp a

  all_took : (worker : ℕ) → worker < workers → All WasTook (noted worker)
  all_took =
      each_worker d b domain desks all (λ worker own. All WasTook own)
      (All-weaker (λ (x : Stamped). MayNote d.clients 0 x.event) WasTook (λ x may a is. elim (subst (MayNote d.clients 0) is may) [ inl its ↦ absurd (let some = its.0 in omega (arith, some)) | inr of ↦ absurd of ]) domain.own all.itself.work.may)
      (λ worker desk there.
      let among_them = all_numbered (λ (x : Desk). Contains b.seats x.caller.seat) worker desks desk (among d b domain desks all) there in
      All-weaker (λ (x : Stamped). WasTaken (known desk.caller.seat) x.stamp x.event) WasTook (λ x took a is. (desk.caller.seat, among_them, subst (WasTaken (known desk.caller.seat) x.stamp) is took)) desk.caller.work.own (has_left d b domain desks all worker desk there).is.took)

  told_after : (x : Stamped) (a : Replied) → Contains (all_noted homes) x → x.event ≡ Answer a → TellsAfter d.clients homes noted x.stamp a
  told_after x a here is =
      let maker = maker_in x here in
      let its = All-contains WasTook (noted maker.0) x (all_took maker.0 maker.1.0) maker.1.1 a is in
      let took = its.2 in
      let k = took.cell in
      let each : Part Filling → List (Fill Filling) = λ p. p.filled in
      let filled : Contains (flat_map each (parts_of k b.seats)) took.fill = each_seat (λ (p : Part Filling). p.taken) (Contains (flat_map each (parts_of k b.seats))) k b.seats took.fill its.0 (all.answered k).taken its.1 took.taken in
      let late : IsLate took.fill.opening.request took.fill.answer.stamp took.reply =
      subst (λ (o : Option Reply). IfSome o (IsLate took.fill.opening.request took.fill.answer.stamp)) took.says (All-contains Late (flat_map each (parts_of k b.seats)) took.fill (all_seats each Late k b.seats (all_late k)) filled) in
      let by = late.settles.by in
      let less = took.before in
      record {
        entry = late.entry;
        stands = late.stands;
        before = omega (arith, by, less);
        tells = shown (settlement_in a.request late.entry.event) a.answer took.expect took.reply took.told (same_request a took.fill.opening.request late.entry.event took.reply took.request late.settles.tells);
        over = late.over x.stamp less;
      }

  its_worker : (x : Stamped) → Contains (all_noted homes) x → 0 < worker_of d.clients x.event → Contains (noted (worker_of d.clients x.event)) x
  its_worker x here some =
      let maker = maker_in x here in
      elim maker.1.2 [
        | inl its ↦ subst (λ (n : ℕ). Contains (noted n) x) (sym its.1) maker.1.1
        | inr of ↦ let off = not_theirs d.clients (worker_of d.clients x.event) x.event some of in let same = eq-eqb (worker_of d.clients x.event) (worker_of d.clients x.event) refl in absurd (cc (off, same))
      ]

  -- ---- what clears a queue

  gave_last : (worker : ℕ) → worker < workers → (own : List Stamped) → ((x : Stamped) → Contains own x → Contains (noted worker) x) → (queue : ℕ) (stamp : Stamp)
      → GaveUpThere d.setup queue (at_homes (QueueHome queue)) own stamp → GaveUpLast d.setup d.clients homes worker (noted worker) queue stamp
  gave_last worker low own within queue stamp gave = record {
    server = gave.server;
    its = gave.its;
    by = elim (All-contains (λ (x : Stamped). MayNote d.clients worker x.event) (noted worker) (record { stamp = gave.reach; event = Gone gave.server }) (each_left d b domain desks all worker low).work.may (within _ gave.stands)) [ inl its ↦ its.1 | inr of ↦ absurd of ];
    reach = gave.reach;
    stands = within _ gave.stands;
    before = gave.before;
    last = λ x other here is of.
        let maker = maker_in x here in
        let home : home_of d.setup d.clients x.event ≡ QueueHome queue = ap (home_of d.setup d.clients) is ∙ ap QueueHome of in
        let there : Contains (at_homes (QueueHome queue)) x = subst (λ (h : Home). Contains (at_homes h) x) home (crew_stands d.setup d.clients workers (kept_of b) noted (desks_are_crew d b domain desks all) maker.0 maker.1.0 x maker.1.1) in
        let parts = gave.begins.1 in
        elim (Contains-append_cases gave.front gave.begins.0 x (subst (λ (l : List Stamped). Contains l x) parts there)) [
          | inl early ↦ All-contains (λ (y : Stamped). y.stamp.0 ≤ gave.reach.0) gave.front x gave.until early
          | inr late ↦ absurd (none_later d.setup queue gave.front gave.begins.0 gave.all (subst (λ (l : List Stamped). AtEach (HomePart d.setup) (past_in l)) parts ((homes_met d b domain desks all).queues queue)) x other late is of)
        ];
  }

  clears_last : (worker : ℕ) → worker < workers → (own : List Stamped) → ((x : Stamped) → Contains own x → Contains (noted worker) x) → (stamp : Stamp) (e : Event) → ClearsBehind d.setup at_homes own stamp e → ClearsLast d.setup d.clients homes worker (noted worker) stamp e
  clears_last worker low own within stamp (Withdraw w) clears = λ zero. gave_last worker low own within w.queue.0 stamp (clears zero)
  clears_last worker low own within stamp (Sweep x) clears = gave_last worker low own within x.queue.0 stamp clears
  clears_last worker low own within stamp (Down queue) clears = gave_last worker low own within queue.0 stamp clears
  clears_last worker low own within stamp _ clears = tt

  are_told : AreTold d.setup d.clients homes
  are_told = record {
    noted = noted;
    rises = λ worker low. (each_left d b domain desks all worker low).work.rises;
    stand = λ worker low. All-weaker (Contains (noted worker)) (Contains (all_noted homes)) (λ x here. stands_all worker low x here) (noted worker) (All-contains_itself (noted worker));
    all = λ x here. let maker = maker_in x here in (maker.0, maker.1.0, maker.1.1);
    own = its_worker;
    clears = λ worker low. All-on (λ (x : Stamped). ClearsLast d.setup d.clients homes worker (noted worker) x.stamp x.event) [] (noted worker) (λ before after x at.
        let shown = each_shown d b domain desks all worker low before after x at in
        clears_last worker low before (λ y here. subst (λ (l : List Stamped). Contains l y) (sym {A = List Stamped} at) (Contains-append_left before (x ∷ after) y here)) x.stamp x.event
        (subst (λ (entries : Home → List Stamped). ClearsBehind d.setup entries before x.stamp x.event) (whole_is d b domain desks all) shown.grounds.clears));
    told = told_after;
  }

  pub ends_recorded : IsRecorded d.setup d.clients homes
  ends_recorded = recorded d b domain desks homes all ends.homes_are are_told
