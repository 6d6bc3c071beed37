-- A caller as it stands: its work, and what it keeps of it (XATMI, tpcall; that a caller has a number and stamps is this project's own).
use Rattle.std.specs.Prelude.{◌≡◌, ◌⊎◌, ℕ, ℤ, ◌<◌, ◌≤◌, Bool, true, false, List, [], ◌∷◌, Option}
use Rattle.xa_types.specs.declared.ids.RequestId.{RequestId}
use Rattle.std.specs.List.{All}
use Rattle.xa_types.specs.declared.row.Row.{Row}
use Rattle.xa_types.specs.declared.setup.Setup.{Setup}
use Rattle.xa_types.specs.Rows.{row_for}
use Rattle.xa_events.specs.Words.{greatest}
use Rattle.xa_events.specs.Board.{boot}
use Rattle.xa_events.specs.Caller.{op_of, accepted_in, priority_asked, is_client, is_serving}
use Rattle.xa_events.specs.Views.{CallerView, caller_view}
use Rattle.xa_cell.specs.declared.tokens.Seat.{Seat}
use Rattle.xa_worker.specs.Work.{WorkState, theirs}
use Rattle.xa_caller.specs.declared.cargo.Filling.{Filling}
use Rattle.xa_caller.specs.declared.phase.Open.{Open}
use Rattle.xa_caller.specs.declared.phase.Phase.{Phase}
use Rattle.xa_caller.specs.Phases.{JustIs, Describes}

-- what a caller is, a client or the caller of a server: its work, its seat among the reply cells, the number of its last call, how many requests of it were accepted, the least
-- version of the board that it may still read, the priority that it set for its next request, absolute or to be added to the service's own, if it set one,
-- the requests that are out, whose descriptors its tpacalls gave, in ascending order, and where its call stands; it hasn't left and begun no conversation
pub record CallerState : Type 0 where
  pub work : WorkState
  pub seat : Seat Filling
  pub op : ℕ
  pub sent : ℕ
  pub least : ℕ
  pub priority : Option (Bool × ℤ)
  pub out : List Open
  pub phase : Phase

-- the numbers of these requests rise behind the first number, and none is above the last
abbrev pub Ascends : ℕ → List RequestId → ℕ → Type 0
Ascends low [] high = low ≤ high
Ascends low (r ∷ rs) high = (low < r.number) × Ascends r.number rs high

-- the tables are what is read off the caller's events
pub record Reads (setup : Setup) (view : CallerView) (op sent least : ℕ) (priority : Option (Bool × ℤ)) (out : List Open) (phase : Phase) : Type 0 where
  pub called : op_of view.called ≡ op
  pub just : JustIs out phase (accepted_in view.called)
  pub accepted : view.accepted ≡ sent
  pub descriptors : Describes out phase view.descriptors
  pub floor : greatest (boot setup) view.versions ≤ least
  pub stands : view.left ≡ false
  pub stays : view.leaving ≡ false
  pub set : priority_asked view.set ≡ priority
  pub unconnected : view.connections ≡ []
  pub ascend : Ascends 0 view.unanswered sent

-- what is read off all that a worker noted
abbrev pub view_of : WorkState → CallerView
view_of w = caller_view w.clients w.id.0 (theirs w)

-- what holds of each caller: its tables are what its events say; and that of a server has nothing out between its calls
pub record IsSound (c : CallerState) : Type 0 where
  pub reads : Reads c.work.setup (view_of c.work) c.op c.sent c.least c.priority c.out c.phase
  pub served : is_client c.work.clients c.work.id.0 ≡ false → c.out ≡ []

-- it may make a call: it is a client, or its server has a request in hand
abbrev pub MayCall : CallerState → Type 0
MayCall c = (is_client c.work.clients c.work.id.0 ≡ true) ⊎ (is_serving c.work.clients c.work.id.0 (theirs c.work) ≡ true)

-- for how many events the caller's own home has room before a request is sent: for the answer, and beside it for the end of a request and of a life,
-- which the worker of a server that calls must be able to note whatever becomes of the call
abbrev pub room_to_send : ℕ
room_to_send = 3

-- these are rows of the service, as the setup gives them
abbrev pub AreRowsOf : Setup → List ℕ → List Row → Type 0
AreRowsOf setup service rows = All (λ (row : Row). row ≡ row_for setup service row.queue.0 row.routine) rows
