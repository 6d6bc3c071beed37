-- The order in which a queue is taken (after Tuxedo, tpsprio and PRIO of UBBCONFIG, by which every tenth request is taken first in, first out).
use Rattle.std.specs.Prelude.{◌≡◌, ℕ, ◌%◌, ◌==◌, nat_le, List, Option, Some, if◌then◌else◌}
use Rattle.std.specs.List.{find, list_all, slice_get}
use Rattle.xa_types.specs.declared.ids.RequestId.{RequestId}
use Rattle.xa_types.specs.declared.setup.Setup.{Setup}
use Rattle.xa_types.specs.Setup.{queue_of}
use Rattle.xa_events.specs.declared.event.Event.{Event}
use Rattle.xa_events.specs.declared.event.Event.TheVariants.{Take}
use Rattle.xa_events.specs.Words.{AtEach}
use Rattle.xa_events.specs.Queue.{waiting}
use Rattle.xa_events.specs.Request.{priority_at}

-- the first request whose priority no other exceeds
abbrev pub first_of_highest : (RequestId → ℕ) → List RequestId → Option RequestId
first_of_highest priority requests = find (λ request. list_all (λ other. nat_le (priority other) (priority request)) requests) requests

-- the request that the k-th take gives: every tenth time the one that waits longest
abbrev pub next_of : (RequestId → ℕ) → List RequestId → ℕ → Option RequestId
next_of priority requests k = if k % 10 == 0 then slice_get requests 0 else first_of_highest priority requests

abbrev pub TakesNext : Setup → Event → List Event → Type 0
TakesNext setup (Take t) before = next_of (priority_at before) (waiting setup (queue_of setup t.server.0) before) t.k ≡ Some t.request
TakesNext setup _ before = Unit {0}

-- each take gives the request that `next_of` says
abbrev pub TakesInOrder : Setup → List Event → Type 0
TakesInOrder setup past = AtEach (TakesNext setup) past
