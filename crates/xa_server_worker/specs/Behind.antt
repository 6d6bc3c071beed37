-- When callers are told, beside the end of a life (after Tuxedo, where a server is restarted or given up; the order is this project's own). What a
-- worker noted has the oldest first, and lists of events the newest.
use Rattle.std.specs.Prelude.{◌≡◌, ℕ, Bool, true, false, ◌||◌, List, [], ◌∷◌, ◌++◌, IfSome, ⊤}
use Rattle.std.specs.List.{All}
use Rattle.xa_desk.specs.xa_types.declared.stamp.Stamp.{Stamp}
use Rattle.xa_desk.specs.xa_events.declared.event.Event.{Event}
use Rattle.xa_desk.specs.xa_events.declared.event.Event.TheVariants.{Sweep, Start, StartFailed, End, Stop}
use Rattle.xa_desk.specs.xa_events.declared.event.Outcome.{Outcome}
use Rattle.xa_desk.specs.xa_events.declared.event.Outcome.TheVariants.{Died, Starved}
use Rattle.xa_desk.specs.xa_events.declared.event.StopCause.{StopCause}
use Rattle.xa_desk.specs.xa_events.declared.event.StopCause.TheVariants.{Exit}
use Rattle.xa_desk.specs.xa_stamp.declared.home.Stamped.{Stamped}
use Rattle.xa_desk.specs.xa_stamp.Home.{last_stamp}
use Rattle.xa_desk.specs.xa_worker.Crew.{no_stamp}
use Rattle.xa_desk.specs.xa_worker.Seen.{past_in}
use Rattle.xa_desk.specs.xa_cell.declared.view.Fill.{Fill}
use Rattle.xa_desk.specs.xa_cell.declared.view.View.{View}
use Rattle.xa_desk.specs.xa_cell.Known.{known}
use Rattle.xa_desk.specs.xa_cell.Views.{at}
use Rattle.xa_desk.specs.xa_caller.declared.cargo.Filling.{Filling}
use Rattle.xa_desk.specs.declared.desk.Desk.{Desk}

-- a request ended so is lost with the life of its server
abbrev pub is_lost : Outcome → Bool
is_lost Died = true
is_lost Starved = true
is_lost outcome = false

abbrev pub ends_by : Event → Bool → Bool
ends_by (Start s) before = false
ends_by (StartFailed s) before = false
ends_by (Stop x) before = true
ends_by (End e) before = is_lost e.outcome || before
ends_by e before = before

-- a life came to its end, and no other start was tried since: it lost its request, or stopped
abbrev pub is_ending : List Event → Bool
is_ending [] = false
is_ending (e ∷ past) = ends_by e (is_ending past)

abbrev pub SweepsOr : Event → Type 0 → Type 0
SweepsOr (Start s) Rest = ⊤
SweepsOr (StartFailed s) Rest = ⊤
SweepsOr (Sweep x) Rest = Rest
SweepsOr e Rest = ⊥

-- only sweeps come, up to the next start that was tried; where none was, that Rest
abbrev pub OnlySweeps : Type 0 → List Stamped → Type 0
OnlySweeps Rest [] = Rest
OnlySweeps Rest (x ∷ later) = SweepsOr x.event (OnlySweeps Rest later)

abbrev pub is_by_exit : StopCause → Bool
is_by_exit Exit = true
is_by_exit cause = false

-- the life ends by TPEXIT, with the request that was returned so
abbrev pub stops_by_exit : Event → Bool
stops_by_exit (Stop x) = is_by_exit x.cause
stops_by_exit e = false

-- such an end comes next
abbrev pub exits_next : List Stamped → Bool
exits_next [] = false
exits_next (x ∷ later) = stops_by_exit x.event

-- what comes next is no such end; where nothing came yet, that Last
abbrev pub NoExitNext : Type 0 → List Stamped → Type 0
NoExitNext Last [] = Last
NoExitNext Last (x ∷ later) = stops_by_exit x.event ≡ false

-- who was told with that stamp was told behind the whole end of a life, if there was one: what the worker noted behind that is of no end, but for
-- requests that it swept, and no life ended next by TPEXIT
pub record IsBehindEnd (Rest Last : Type 0) (own : List Stamped) (stamp : Stamp) : Type 0 where
  pub before : List Stamped
  pub after : List Stamped
  pub parts : own ≡ before ++ after
  pub last : last_stamp no_stamp before ≡ stamp.0
  pub quiet : is_ending (past_in before) ≡ true → OnlySweeps Rest after
  pub stays : NoExitNext Last after

-- so it is with the filling, if that has an answer
abbrev pub FilledBehind : Type 0 → Type 0 → List Stamped → Fill Filling → Type 0
FilledBehind Rest Last own fill = IfSome fill.answer.answer (λ answer. IsBehindEnd Rest Last own fill.answer.stamp)

-- and with each that the worker's seat made
abbrev pub AllBehind : Type 0 → Type 0 → List Stamped → View Filling → Type 0
AllBehind Rest Last own view = (k : ℕ) → All (FilledBehind Rest Last own) (at k view).filled

-- whoever the worker told it told behind the end of a life
abbrev pub TellsLast : Desk → Type 0
TellsLast desk = AllBehind ⊤ ⊤ desk.caller.work.own (known desk.caller.seat)

-- and a start was tried behind each end of which it told
abbrev pub ToldAll : Desk → Type 0
ToldAll desk = AllBehind ⊥ ⊤ desk.caller.work.own (known desk.caller.seat)

-- and nobody was told since the worker's last event was noted
abbrev pub ToldBefore : Desk → Type 0
ToldBefore desk = AllBehind ⊥ ⊥ desk.caller.work.own (known desk.caller.seat)

-- so it is in a life, which isn't at its end
abbrev pub IsCalm : Desk → Type 0
IsCalm desk = ToldAll desk × (is_ending (past_in desk.caller.work.own) ≡ false)

-- by the life that goes on, if one does
abbrev pub ToldBy : {X : Type 0} → List X → Desk → Type 0
ToldBy [] desk = TellsLast desk
ToldBy (life ∷ more) desk = IsCalm desk
