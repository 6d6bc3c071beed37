-- The state of the machine (this project's own): the setup, the number of clients, and the events so far, the newest first. All else is read
-- off the events.
use Rattle.std.specs.Prelude.{ℕ, ◌+◌, List, [], ◌∷◌}
use Rattle.xa_types.specs.declared.setup.Setup.{Setup}
use Rattle.xa_events.specs.declared.event.Event.{Event}

pub record State : Type 0 where
  pub setup : Setup
  pub clients : ℕ
  pub past : List Event

-- before any event
abbrev pub opening : Setup → ℕ → State
opening setup clients = record { setup = setup; clients = clients; past = [] }

-- the state with one more event
abbrev pub noted : State → Event → State
noted s e = record { setup = s.setup; clients = s.clients; past = e ∷ s.past }

-- callers are numbered: 0 is the domain itself, then come the clients, and then the servers
abbrev pub caller_of : ℕ → ℕ → ℕ
caller_of clients server = clients + server
