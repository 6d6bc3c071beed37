-- A queue, read off the events: what waits there, how often a request was taken, and whether it is down or closed (after Tuxedo, UBBCONFIG: servers
-- that share a queue).
use Rattle.std.specs.Prelude.{ℕ, ◌==◌, Bool, false, List, Option, Some, None, if◌then◌else◌}
use Rattle.std.specs.List.{list_any}
use Rattle.xa_types.specs.declared.ids.RequestId.{RequestId}
use Rattle.xa_types.specs.declared.setup.Setup.{Setup}
use Rattle.xa_types.specs.Setup.{queue_of}
use Rattle.xa_events.specs.declared.event.Event.{Event}
use Rattle.xa_events.specs.declared.event.Event.TheVariants.{Accept, Take, Forward, Sweep, Down, Close}
use Rattle.xa_events.specs.Words.{count, kept}

abbrev pub comes_in : ℕ → Event → Option RequestId
comes_in queue (Accept a) = if a.queue.0 == queue then Some a.request else None
comes_in queue (Forward f) = if f.queue.0 == queue then Some f.request else None
comes_in queue _ = None

abbrev pub goes_out : Setup → ℕ → Event → Option RequestId
goes_out setup queue (Take t) = if queue_of setup t.server.0 == queue then Some t.request else None
goes_out setup queue (Sweep x) = if x.queue.0 == queue then Some x.request else None
goes_out setup queue _ = None

-- the requests that wait at the queue, the oldest first
unfoldable pub waiting : Setup → ℕ → List Event → List RequestId
waiting setup queue past = kept (comes_in queue) (goes_out setup queue) past

abbrev pub takes_from : Setup → ℕ → Event → Bool
takes_from setup queue (Take t) = queue_of setup t.server.0 == queue
takes_from setup queue _ = false

-- how many requests were taken from the queue
unfoldable pub takes : Setup → ℕ → List Event → ℕ
takes setup queue past = count (takes_from setup queue) past

abbrev pub is_down_of : ℕ → Event → Bool
is_down_of queue (Down q) = q.0 == queue
is_down_of queue _ = false

-- whether the queue is down: it has no server left
unfoldable pub is_down : ℕ → List Event → Bool
is_down queue past = list_any (is_down_of queue) past

abbrev pub is_close_of : ℕ → Event → Bool
is_close_of queue (Close q) = q.0 == queue
is_close_of queue _ = false

-- whether the queue is closed: it accepts no more
unfoldable pub is_closed : ℕ → List Event → Bool
is_closed queue past = list_any (is_close_of queue) past
