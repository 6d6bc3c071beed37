-- That a line is one event's at most.
use Rattle.std.specs.Prelude.{◌≡◌}
use Rattle.xa_events.specs.declared.event.Event.{Event}
use Rattle.xa_lines.specs.Line.{line_of, IsEvent}

-- events with the same line are the same
abbrev pub OneEvent : Type 0
OneEvent = (event other : Event) → IsEvent event → IsEvent other → line_of event ≡ line_of other → event ≡ other
