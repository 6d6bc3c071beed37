-- What a caller reads of the board never gets older, and is never of the future.
use Rattle.std.specs.List.{filter_map, cons_option}
use Rattle.std.proofs.Common.{◌≡◌, ℕ, ◌+◌, ◌≤◌, ◌==◌, true, List, [], ◌∷◌, Some, inl, inr, ◌⊎◌, refl, sym, ap, subst, ◌∙◌, arith, eqb-true, le_trans}
use Rattle.std.proofs.lemmas.Option.{cond_some}
use Rattle.xa_types.specs.declared.setup.Setup.{Setup}
use Rattle.xa_types.specs.declared.fault.Fault.{Fault}
use Rattle.xa_types.specs.declared.fault.Fault.TheVariants.{NoEnt, IType, System}
use Rattle.xa_events.specs.declared.event.Event.{Event}
use Rattle.xa_events.specs.declared.event.Event.TheVariants.{Advertise, Withdraw, Accept, Forward, End, Refuse}
use Rattle.xa_events.specs.declared.event.Evidence.{Evidence}
use Rattle.xa_events.specs.declared.event.Evidence.TheVariants.{Version, AllDown}
use Rattle.xa_events.specs.Words.{count, greatest}
use Rattle.xa_events.specs.State.{State, noted, caller_of}
use Rattle.xa_events.specs.Board.{changes, published, boot}
use Rattle.xa_events.specs.Caller.{reads, versions, least_version, version_in, version_of}
use Rattle.xa_events.specs.Cases.{Case, ShowsItself, WasSeen}
use Rattle.xa_events.specs.Laws.{is_change, names_version, ReadsForward}
use Rattle.xa_events.proofs.WordsLemmas.{if_some, count_yes, count_grows, greatest_rises, greatest_one_more}

pub published_is : (past : List Event) → published past ≡ count is_change past
unfolding published changes
published_is [] = refl
published_is (Advertise a ∷ past) = omega (arith, published_is past)
published_is (Withdraw w ∷ past) = omega (arith, published_is past)
published_is (_ ∷ past) = published_is past

-- what is read is no older than the floor, and stands, or it is made by this event
abbrev pub Reads : State → Event → ℕ → ℕ → Type 0
Reads s e caller version = ((least_version s.setup s.clients caller s.past ≤ version) × (version ≤ published s.past)) ⊎ ((is_change e ≡ true) × (version ≡ published s.past + 1))

shown_version : (setup : Setup) (clients caller : ℕ) (past : List Event) (evidence : Evidence) (version : ℕ) → WasSeen setup clients caller evidence past → version_in evidence ≡ Some version → version ≤ published past
shown_version setup clients caller past (Version v) version h e = rw (← (cond_some true v version e).1) h
shown_version setup clients caller past (AllDown v) version h e = rw (← (cond_some true v version e).1) h
shown_version setup clients caller past _ version h e = cc e

floor_version : (setup : Setup) (clients caller : ℕ) (past : List Event) (fault : Fault) (evidence : Evidence) (version : ℕ) → ShowsItself setup clients caller fault evidence past → version_in evidence ≡ Some version
    → least_version setup clients caller past ≤ version
floor_version setup clients caller past NoEnt (Version v) version h e = rw (← (cond_some true v version e).1) h
floor_version setup clients caller past IType (Version v) version h e = rw (← (cond_some true v version e).1) h
floor_version setup clients caller past System (AllDown v) version h e = rw (← (cond_some true v version e).1) h
floor_version setup clients caller past _ (Version v) version h e = absurd h
floor_version setup clients caller past _ (AllDown v) version h e = absurd h
floor_version setup clients caller past _ _ version h e = cc e

pub reads_so : (s : State) (e : Event) (caller version : ℕ) → Case s e → reads s.clients caller e ≡ Some version → Reads s e caller version
reads_so s (Advertise a) caller version case h = rw (← (cond_some (a.by.0 == caller) a.version version h).1) (inr (refl, elim case.home [ inl boot ↦ boot.version | inr put ↦ put.version ]))
reads_so s (Withdraw w) caller version case h = rw (← (cond_some (w.by.0 == caller) w.version version h).1) (inr (refl, case.home.version))
reads_so s (Accept a) caller version case h =
    let i = cond_some (a.by.0 == caller) a.version version h in
    rw (← eqb-true a.by.0 caller i.0, ← i.1) (inl (case.worker.not_older, case.before.named.version))
reads_so s (Forward f) caller version case h =
    let i = cond_some (caller_of s.clients f.server.0 == caller) f.version version h in
    rw (← eqb-true (caller_of s.clients f.server.0) caller i.0, ← i.1) (inl (case.worker.not_older, case.before.named.row.version))
reads_so s (End e) caller version case h =
    let i = if_some (caller_of s.clients e.server.0 == caller) (version_of e.outcome) version h in
    rw (← eqb-true (caller_of s.clients e.server.0) caller i.0) (inl (case.worker.not_older version i.1, case.before.named version i.1))
reads_so s (Refuse r) caller version case h =
    let i = if_some (r.by.0 == caller) (version_in r.evidence) version h in
    rw (← eqb-true r.by.0 caller i.0) (inl (floor_version s.setup s.clients r.by.0 s.past r.fault r.evidence version case.worker.shows i.1, shown_version s.setup s.clients r.by.0 s.past r.evidence version case.before.named.seen i.1))
reads_so s _ caller version case h = cc h

-- the law and the cases name the same versions
named_so : (clients caller : ℕ) (e : Event) → names_version clients caller e ≡ reads clients caller e
named_so clients caller (Advertise a) = refl
named_so clients caller (Withdraw w) = refl
named_so clients caller (Accept a) = refl
named_so clients caller (Forward f) = refl
named_so clients caller (End e) = refl
named_so clients caller (Refuse r) = refl
named_so clients caller _ = refl

named_all : (clients caller : ℕ) (past : List Event) → filter_map (names_version clients caller) past ≡ versions clients caller past
unfolding versions
named_all clients caller [] = refl
named_all clients caller (e ∷ past) = ap (λ o. cons_option o (filter_map (names_version clients caller) past)) (named_so clients caller e) ∙ ap (cons_option (reads clients caller e)) (named_all clients caller past)

-- all that was read is at most the version of the board
abbrev pub ReadStands : State → Type 0
ReadStands s = (caller : ℕ) → greatest 0 (versions s.clients caller s.past) ≤ count is_change s.past

read_law : (s : State) (e : Event) (caller version : ℕ) → Case s e → ReadStands s → reads s.clients caller e ≡ Some version
    → (greatest 0 (versions s.clients caller s.past) ≤ version) × (version ≤ count is_change (e ∷ s.past))
read_law s e caller version case stood h = elim (reads_so s e caller version case h) [
  | inl k ↦ (le_trans (greatest_rises 0 (boot s.setup) (versions s.clients caller s.past) (omega arith)) k.0, omega (arith, published_is s.past, count_grows is_change e s.past, k.1))
  | inr k ↦ (omega (arith, stood caller, published_is s.past, k.1), omega (arith, published_is s.past, count_yes is_change e s.past k.0, k.1))
]

pub version_law : (s : State) (e : Event) → Case s e → ReadStands s → ReadsForward s.clients e s.past
version_law s e case stood = record {
  rises = λ caller version h. subst (λ ns. greatest 0 ns ≤ version) (sym (named_all s.clients caller s.past)) (read_law s e caller version case stood (sym (named_so s.clients caller e) ∙ h)).0;
  stands = λ caller version h. (read_law s e caller version case stood (sym (named_so s.clients caller e) ∙ h)).1;
}

pub stood_more : (s : State) (e : Event) → Case s e → ReadStands s → ReadStands (noted s e)
unfolding versions
stood_more s e case stood = λ caller.
    greatest_one_more (versions s.clients caller s.past) (reads s.clients caller e) 0 (count is_change (e ∷ s.past)) (λ n h. (read_law s e caller n case stood h).1)
    (le_trans (stood caller) (count_grows is_change e s.past))
