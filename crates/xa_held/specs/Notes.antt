-- The entries of a queue's home as its lock knows them: first what the queue is, then its events with their makers (this project's own).
use Rattle.std.specs.Prelude.{◌≡◌, ℕ, ◌+◌, Bool, false, List, [], ◌∷◌, reverse}
use Rattle.std.specs.List.{flat_map}
use Rattle.xa_types.specs.declared.ids.CallerId.{CallerId}
use Rattle.xa_types.specs.declared.ids.ServerId.{ServerId}
use Rattle.xa_types.specs.declared.stamp.Stamp.{Stamp}
use Rattle.xa_events.specs.declared.event.Event.{Event}
use Rattle.xa_events.specs.declared.event.Event.TheVariants.{Gone}
use Rattle.xa_events.specs.Queue.{is_down}
use Rattle.xa_lock.specs.declared.makers.Made.{Made}
use Rattle.xa_lock.specs.declared.pass.Page.{Page}
use Rattle.xa_lock.specs.Pages.{page}
use Rattle.xa_stamp.specs.declared.told.Noted.{Noted}
use Rattle.xa_queue.specs.Queue.{gives_up, has_server}
use Rattle.xa_held.specs.declared.kept_queue.QueueNote.{QueueNote}
use Rattle.xa_held.specs.declared.kept_queue.QueueNote.TheVariants.{Opened, By}

-- one event in the work of that maker
abbrev pub one : CallerId → Stamp → Event → List Made
one maker stamp event = record { maker = maker; noted = record { stamp = stamp; event = event } } ∷ []

-- the event that was told of
abbrev pub told : CallerId → Noted → List Made
told maker noted = one maker noted.stamp noted.event.value

-- a server is given up in its own work alone
abbrev pub gives_itself_up : ℕ → ℕ → Event → Type 0
gives_itself_up clients maker (Gone server) = maker ≡ clients + server.0
gives_itself_up clients maker _ = Unit {0}

abbrev pub IsOwn : ℕ → Made → Type 0
IsOwn clients made = gives_itself_up clients made.maker.0 made.noted.event

module _ {A : Type 0} where
  -- the maker of an entry; what the queue is, is maker 0's
  abbrev pub maker_of : QueueNote A → ℕ
  maker_of (Opened setting) = 0
  maker_of (By made) = made.maker.0

  abbrev pub made_of : QueueNote A → List Made
  made_of (Opened setting) = []
  made_of (By made) = made ∷ []

  -- the events of a pass's page with their makers
  abbrev pub made_page : Page (QueueNote A) → Page Made
  made_page p = page p.maker (flat_map made_of p.own) (flat_map made_of p.seen)

  abbrev pub event_in : QueueNote A → List Event
  event_in (Opened setting) = []
  event_in (By made) = made.noted.event ∷ []

  -- the events of these entries, in order
  abbrev pub events_in : List (QueueNote A) → List Event
  events_in notes = flat_map event_in notes

  -- the servers that they give up
  abbrev pub gone_in : List (QueueNote A) → List ServerId
  gone_in notes = flat_map gives_up (events_in notes)

  -- they take the queue down
  abbrev pub is_down_in : ℕ → List (QueueNote A) → Bool
  is_down_in queue notes = is_down queue (reverse (events_in notes))

  -- the entry doesn't give the server up
  abbrev pub IsOther : ServerId → QueueNote A → Type 0
  IsOther server (Opened setting) = Unit {0}
  IsOther server (By made) = has_server server (gives_up made.noted.event) ≡ false
