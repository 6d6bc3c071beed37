-- What is read off the events of one home or one worker, in one record each, and what one event changes of it (this project's own).
-- Tables are compared with these; no public contract of a run rests on this file.
use Rattle.std.specs.Prelude.{ℕ, ◌+◌, ◌||◌, ◌==◌, Bool, cond, List, Option, Some, None, if◌then◌else◌}
use Rattle.std.specs.List.{filter_map, cons_option}
use Rattle.xa_types.specs.declared.ids.RequestId.{RequestId}
use Rattle.xa_types.specs.declared.setup.Setup.{Setup}
use Rattle.xa_types.specs.Rows.{Change}
use Rattle.xa_types.specs.Setup.{queue_of}
use Rattle.xa_events.specs.declared.event.Event.{Event}
use Rattle.xa_events.specs.declared.event.Event.TheVariants.{Gone}
use Rattle.xa_events.specs.Words.{latest, added, without}
use Rattle.xa_events.specs.Board.{change_in, changes}
use Rattle.xa_events.specs.Queue.{comes_in, goes_out, waiting, takes_from, takes, is_down_of, is_down, is_close_of, is_closed}
use Rattle.xa_events.specs.Server.{moves_server, start_in, starts, is_gone_of, is_gone, stops_server}
use Rattle.xa_events.specs.Clock.{is_tick}
use Rattle.xa_events.specs.Caller.{is_call_of, newest_call, accepts_for, accepted, opens_descriptor, closes_descriptor, open_descriptors, answers_request, unanswered, reads, versions, tick_in, ticks, is_leave_of, has_left, gives_up, is_leaving, changes_priority}
use Rattle.xa_events.specs.Conversation.{Side, EndDone, opens_connection, closes_connection, connections, break_in, broken, hand_after, is_hand_closed, done_after, end_done}

-- the newer of both, where there is one
abbrev pub newer : Bool → Event → Option Event → Option Event
newer here e older = cond here (Some e) older

-- ---- the board

pub record BoardView : Type 0 where
  pub changes : List Change

abbrev pub board_view : List Event → BoardView
board_view past = record { changes = changes past }

abbrev pub board_after : Event → BoardView → BoardView
board_after e view = record { changes = cons_option (change_in e) view.changes }

-- ---- the clock

pub record ClockView : Type 0 where
  pub ticked : Option Event

abbrev pub clock_view : List Event → ClockView
clock_view past = record { ticked = latest is_tick past }

abbrev pub clock_after : Event → ClockView → ClockView
clock_after e view = record { ticked = newer (is_tick e) e view.ticked }

-- ---- a queue

pub record QueueView : Type 0 where
  pub waiting : List RequestId
  pub takes : ℕ
  pub down : Bool
  pub closed : Bool
  pub gone : List ℕ

-- the server of the queue that is given up
abbrev pub gone_from : Setup → ℕ → Event → Option ℕ
gone_from setup queue (Gone server) = if queue_of setup server.0 == queue then Some server.0 else None
gone_from setup queue _ = None

abbrev pub queue_view : Setup → ℕ → List Event → QueueView
queue_view setup queue past = record {
  waiting = waiting setup queue past;
  takes = takes setup queue past;
  down = is_down queue past;
  closed = is_closed queue past;
  gone = filter_map (gone_from setup queue) past;
}

abbrev pub queue_after : Setup → ℕ → Event → QueueView → QueueView
queue_after setup queue e view = record {
  waiting = added (comes_in queue e) (without (goes_out setup queue e) view.waiting);
  takes = cond (takes_from setup queue e) (view.takes + 1) view.takes;
  down = is_down_of queue e || view.down;
  closed = is_close_of queue e || view.closed;
  gone = cons_option (gone_from setup queue e) view.gone;
}

-- ---- a server

pub record ServerView : Type 0 where
  pub moved : Option Event
  pub starts : List ℕ
  pub gone : Bool
  pub stopped : Option Event

abbrev pub server_view : ℕ → List Event → ServerView
server_view server past = record {
  moved = latest (moves_server server) past;
  starts = starts server past;
  gone = is_gone server past;
  stopped = latest (stops_server server) past;
}

abbrev pub server_after : ℕ → Event → ServerView → ServerView
server_after server e view = record {
  moved = newer (moves_server server e) e view.moved;
  starts = cons_option (start_in server e) view.starts;
  gone = is_gone_of server e || view.gone;
  stopped = newer (stops_server server e) e view.stopped;
}

-- ---- a caller

pub record CallerView : Type 0 where
  pub called : Option Event
  pub accepted : ℕ
  pub descriptors : List RequestId
  pub unanswered : List RequestId
  pub versions : List ℕ
  pub ticks : List ℕ
  pub left : Bool
  pub leaving : Bool
  pub set : Option Event
  pub connections : List RequestId
  pub broken : List RequestId
  pub hand_closed : Bool

abbrev pub caller_view : ℕ → ℕ → List Event → CallerView
caller_view clients caller past = record {
  called = newest_call caller past;
  accepted = accepted caller past;
  descriptors = open_descriptors caller past;
  unanswered = unanswered caller past;
  versions = versions clients caller past;
  ticks = ticks clients caller past;
  left = has_left caller past;
  leaving = is_leaving caller past;
  set = latest (changes_priority clients caller) past;
  connections = connections caller past;
  broken = broken caller past;
  hand_closed = is_hand_closed clients caller past;
}

abbrev pub caller_after : ℕ → ℕ → Event → CallerView → CallerView
caller_after clients caller e view = record {
  called = newer (is_call_of caller e) e view.called;
  accepted = cond (accepts_for caller e) (view.accepted + 1) view.accepted;
  descriptors = added (opens_descriptor caller e) (without (closes_descriptor caller e) view.descriptors);
  unanswered = added (opens_descriptor caller e) (without (answers_request caller e) view.unanswered);
  versions = cons_option (reads clients caller e) view.versions;
  ticks = cons_option (tick_in clients caller e) view.ticks;
  left = is_leave_of caller e || view.left;
  leaving = gives_up caller e || view.leaving;
  set = newer (changes_priority clients caller e) e view.set;
  connections = added (opens_connection caller e) (without (closes_connection caller e) view.connections);
  broken = cons_option (break_in caller e) view.broken;
  hand_closed = hand_after clients caller e view.broken view.hand_closed;
}

-- ---- an end of a conversation

pub record EndView : Type 0 where
  pub done : EndDone
  pub broken : List RequestId

abbrev pub end_view : ℕ → Side → RequestId → List Event → EndView
end_view caller side request past = record { done = end_done caller side request past; broken = broken caller past }

abbrev pub end_after : ℕ → Side → RequestId → Event → EndView → EndView
end_after caller side request e view = record {
  done = done_after caller side request e view.broken view.done;
  broken = cons_option (break_in caller e) view.broken;
}
