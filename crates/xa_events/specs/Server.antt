-- A server, read off the events: what it does, its starts, whether it is gone or was shut down (after Tuxedo, RESTART, MAXGEN and GRACE of
-- UBBCONFIG; that GRACE counts ticks is this project's own).
use Rattle.std.specs.Prelude.{◌≡◌, ℕ, ◌+◌, ◌-◌, ◌==◌, ◌<◌, ◌&&◌, nat_lt, Bool, true, false, List, [], ◌∷◌, length, Option, Some, None, if◌then◌else◌}
use Rattle.std.specs.List.{list_any, filter_map}
use Rattle.xa_types.specs.declared.ids.Generation.{Generation}
use Rattle.xa_types.specs.declared.ids.RequestId.{RequestId}
use Rattle.xa_types.specs.declared.setup.Setup.{Setup}
use Rattle.xa_types.specs.declared.setup.ServerSetup.{ServerSetup}
use Rattle.xa_types.specs.Setup.{numbered, queue_of}
use Rattle.xa_events.specs.declared.event.Event.{Event}
use Rattle.xa_events.specs.declared.event.Event.TheVariants.{Take, Forward, Gone, Start, StartFailed, End, Stop}
use Rattle.xa_events.specs.declared.event.Outcome.{Outcome}
use Rattle.xa_events.specs.declared.event.Outcome.TheVariants.{Returned, Failed, BadReturn, BadForward, Died, Starved}
use Rattle.xa_events.specs.declared.event.StopCause.{StopCause}
use Rattle.xa_events.specs.declared.event.StopCause.TheVariants.{Shutdown}
use Rattle.xa_events.specs.declared.event.Doing.{Doing}
use Rattle.xa_events.specs.declared.event.Doing.TheVariants.{Off, Idle, Busy, Dying}
use Rattle.xa_events.specs.Words.{latest, count}

-- the event changes what this server does
abbrev pub moves_server : ℕ → Event → Bool
moves_server server (Take t) = t.server.0 == server
moves_server server (Forward f) = f.server.0 == server
moves_server server (Start s) = s.server.0 == server
moves_server server (StartFailed s) = s.server.0 == server
moves_server server (End e) = e.server.0 == server
moves_server server (Stop x) = x.server.0 == server
moves_server server _ = false

-- after a death or want of memory a server can only stop
abbrev pub after_end : Outcome → Generation → Doing
after_end (Returned code payload) g = Idle g
after_end (Failed code payload) g = Idle g
after_end BadReturn g = Idle g
after_end (BadForward version) g = Idle g
after_end Died g = Dying g
after_end Starved g = Dying g

abbrev pub doing_after : Option Event → Doing
doing_after (Some (Take t)) = Busy t.generation t.request
doing_after (Some (Forward f)) = Idle f.generation
doing_after (Some (Start s)) = Idle s.generation
doing_after (Some (End e)) = after_end e.outcome e.generation
doing_after _ = Off

-- what the server does
unfoldable pub doing : ℕ → List Event → Doing
doing server past = doing_after (latest (moves_server server) past)

abbrev pub is_busy : Doing → Bool
is_busy (Busy generation request) = true
is_busy _ = false

abbrev pub held_in : Doing → Option RequestId
held_in (Busy generation request) = Some request
held_in _ = None

-- the request that the caller's server is busy with; callers behind the clients are the servers'
abbrev pub in_hand : ℕ → ℕ → List Event → Option RequestId
in_hand clients caller past = if nat_lt clients caller then held_in (doing (caller - clients) past) else None

abbrev pub start_in : ℕ → Event → Option ℕ
start_in server (Start s) = if s.server.0 == server then Some s.tick else None
start_in server (StartFailed s) = if s.server.0 == server then Some s.tick else None
start_in server _ = None

-- the ticks of the server's starts, of those that failed too, the newest first
unfoldable pub starts : ℕ → List Event → List ℕ
starts server past = filter_map (start_in server) past

abbrev pub is_gone_of : ℕ → Event → Bool
is_gone_of server (Gone s) = s.0 == server
is_gone_of server _ = false

-- whether the server is given up: it takes no more, and isn't started again
unfoldable pub is_gone : ℕ → List Event → Bool
is_gone server past = list_any (is_gone_of server) past

abbrev pub stops_server : ℕ → Event → Bool
stops_server server (Stop x) = x.server.0 == server
stops_server server _ = false

abbrev pub is_shutdown : StopCause → Bool
is_shutdown Shutdown = true
is_shutdown _ = false

abbrev pub is_shutdown_stop : Option Event → Bool
is_shutdown_stop (Some (Stop x)) = is_shutdown x.cause
is_shutdown_stop _ = false

-- whether the server was shut down: its last stop was a shutdown
unfoldable pub was_shut_down : ℕ → List Event → Bool
was_shut_down server past = is_shutdown_stop (latest (stops_server server) past)

abbrev pub outcome_in : Option Event → Option Outcome
outcome_in (Some (End e)) = Some e.outcome
outcome_in _ = None

-- how the request ended that the server ended last, where it has done nothing since
unfoldable pub last_outcome : ℕ → List Event → Option Outcome
last_outcome server past = outcome_in (latest (moves_server server) past)

abbrev pub may_start_as : Option ServerSetup → List ℕ → ℕ → Bool
may_start_as None made now = false
may_start_as (Some server) [] now = true
may_start_as (Some server) (last ∷ earlier) now =
    server.restart && nat_lt (count (λ tick. nat_lt (now - tick) server.grace) (last ∷ earlier)) server.maxgen

-- a server may start where no start was made, or where it is restarted and fewer than MAXGEN of its starts lie within GRACE
abbrev pub may_start : Setup → ℕ → List ℕ → ℕ → Bool
may_start setup server made now = may_start_as (numbered server setup.servers) made now

-- no server of the queue is left
abbrev pub AllGone : Setup → ℕ → List Event → Type 0
AllGone setup queue past = (server : ℕ) → 0 < server → server < length setup.servers + 1 → queue_of setup server ≡ queue → is_gone server past ≡ true
