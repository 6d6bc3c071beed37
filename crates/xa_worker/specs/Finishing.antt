-- What a server shows of its returns and forwards by its own events and by what it saw (this project's own).
use Rattle.std.specs.Prelude.{◌≡◌, ◌⊎◌, ℕ, ◌+◌, ◌≤◌, true, false, List, length, IsSomeAnd, map, reverse}
use Rattle.std.specs.List.{All}
use Rattle.xa_types.specs.declared.data.Data.{Data}
use Rattle.xa_types.specs.declared.row.Row.{Row}
use Rattle.xa_types.specs.declared.setup.Setup.{Setup}
use Rattle.xa_types.specs.declared.stamp.Stamp.{Stamp}
use Rattle.xa_types.specs.Setup.{numbered}
use Rattle.xa_events.specs.declared.event.Event.{Event}
use Rattle.xa_events.specs.declared.event.Event.TheVariants.{Accept, Forward, End}
use Rattle.xa_events.specs.declared.event.Ended.{Ended}
use Rattle.xa_events.specs.declared.event.Outcome.{Outcome}
use Rattle.xa_events.specs.declared.event.Outcome.TheVariants.{BadForward}
use Rattle.xa_events.specs.Words.{latest, count, AtEach}
use Rattle.xa_events.specs.State.{caller_of}
use Rattle.xa_events.specs.Caller.{is_conversational}
use Rattle.xa_events.specs.Request.{is_entry_of}
use Rattle.xa_events.specs.Board.{boot}
use Rattle.xa_events.specs.Homes.{Home}
use Rattle.xa_events.specs.Local.{worker_events}
use Rattle.xa_events.specs.Calls.{IsShutOut, is_accepted_by}
use Rattle.xa_events.specs.Finishing.{Finish, FitsFinish, FailsItself, ForwardEnds, finishes}
use Rattle.xa_events.specs.Finishing.Finish.{Forwards}
use Rattle.xa_stamp.specs.declared.home.Stamped.{Stamped}
use Rattle.xa_worker.specs.Seen.{past_in, SawSince, SawInHand}
use Rattle.xa_worker.specs.Calls.{SawListed}

-- a request that was sent so may not be forwarded: it began a conversation, or was forwarded 32 times
abbrev pub IsSpent : Event → Type 0
IsSpent (Accept a) = is_conversational a.mode ≡ true
IsSpent (Forward f) = 32 ≤ f.hop
IsSpent _ = ⊥

-- an event with that stamp, where the homes have these entries
module _ (setup : Setup) (clients : ℕ) (entries : Home → List Stamped) (stamp : Stamp) where
  -- the server saw at its own queue, where it took the request, that this may not be forwarded
  abbrev pub SawSpent : Ended → List Event → Type 0
  SawSpent e own = SawInHand setup clients entries stamp e.server.0 (λ past. IsSomeAnd (latest (is_entry_of e.request) past) IsSpent) own

  -- no row that the version lists accepts the kind of the data, or each queue that it lists was seen to take no request, since the server's last event
  -- there
  abbrev pub SawFailing : ℕ → List ℕ → Data → ℕ → List Event → Type 0
  SawFailing caller service payload v own = SawListed setup clients entries stamp v service false (λ rows. (is_accepted_by setup payload rows ≡ false)
      ⊎ All (λ (row : Row). SawSince setup clients entries stamp caller row.queue.0 (IsShutOut setup row.queue.0) own) rows)

  abbrev pub ForwardEndsOwn : List ℕ → Data → Ended → Outcome → List Event → Type 0
  ForwardEndsOwn service payload e (BadForward v) own =
      ((v ≡ 0) × (FailsItself setup (caller_of clients e.server.0) service payload own ⊎ SawSpent e own))
      ⊎ ((boot setup ≤ v) × SawFailing (caller_of clients e.server.0) service payload v own)
  ForwardEndsOwn service payload e outcome own = ForwardEnds setup clients service payload e outcome own

  -- the event may be what became of it, behind these events of the server's own: but for what is named, the server knows it itself
  abbrev pub FitsFinishOwn : Finish → Event → List Event → Type 0
  FitsFinishOwn (Forwards service payload) (End e) own = ForwardEndsOwn service payload e e.outcome own
  FitsFinishOwn finish e own = FitsFinish setup clients finish e own

-- the server was done with so many requests as there are finishes, and with each as the finish of its number says; noted is what the server noted
pub record FinishedOwn (setup : Setup) (clients : ℕ) (entries : Home → List Stamped) (server : ℕ) (all : List Finish) (noted : List Stamped) : Type 0 where
  pub each : AtEach (λ (x : Stamped) older. finishes server x.event ≡ true
      → IsSomeAnd (numbered (count (finishes server) (worker_events clients (caller_of clients server) (map (λ (y : Stamped). y.event) older)) + 1) all)
      (λ finish. FitsFinishOwn setup clients entries x.stamp finish x.event (worker_events clients (caller_of clients server) (map (λ (y : Stamped). y.event) older)))) (reverse noted)
  pub whole : count (finishes server) (worker_events clients (caller_of clients server) (past_in noted)) ≡ length all
