-- The events of a server that its caller notes (this project's own).
use Rattle.std.specs.Prelude.{◌≡◌, ℕ, max, Option, Some, None}
use Rattle.xa_types.specs.declared.stamp.Stamp.{Stamp}
use Rattle.xa_events.specs.declared.event.Event.{Event}
use Rattle.xa_events.specs.declared.event.Event.TheVariants.{Take, Forward, Gone, Start, StartFailed, End, Stop}
use Rattle.xa_events.specs.Caller.{version_of}
use Rattle.xa_worker.specs.Work.{noted, noted_here}
use Rattle.xa_caller.specs.Caller.{CallerState}

-- it is of the server's lives and of its requests' ends, and stands at its caller's own home
abbrev pub IsOfServer : Event → Type 0
IsOfServer (Start b) = Unit {0}
IsOfServer (StartFailed b) = Unit {0}
IsOfServer (End e) = Unit {0}
IsOfServer (Stop x) = Unit {0}
IsOfServer _ = ⊥

-- it is of the server, and stands at its queue
abbrev pub IsAtQueue : Event → Type 0
IsAtQueue (Take t) = Unit {0}
IsAtQueue (Gone server) = Unit {0}
IsAtQueue _ = ⊥

-- it forwards a request, by that version of the board
abbrev pub IsForwardBy : ℕ → Event → Type 0
IsForwardBy version (Forward f) = f.version ≡ version
IsForwardBy version _ = ⊥

-- the version of the board that the end of a request says to have been read
abbrev pub version_ended : Event → Option ℕ
version_ended (End e) = version_of e.outcome
version_ended _ = None

abbrev pub raised : Option ℕ → ℕ → ℕ
raised None least = least
raised (Some version) least = max least version

-- the event is noted at the caller's own home
abbrev pub noted_own : Stamp → Event → CallerState → CallerState
noted_own stamp event c = record c { work = noted_here (record { stamp = stamp; event = event }) c.work; least = raised (version_ended event) c.least }

-- the event was noted at another home
abbrev pub noted_off : Stamp → Event → CallerState → CallerState
noted_off stamp event c = record c { work = noted (record { stamp = stamp; event = event }) c.work }

-- a forward by that version was noted at a queue, and what was set for the next request's priority is set no more
abbrev pub forwarded_off : Stamp → ℕ → Event → CallerState → CallerState
forwarded_off stamp version event c = record c { work = noted (record { stamp = stamp; event = event }) c.work; least = version; priority = None }
