-- What a service's tpreturn or tpforward may become: the end of the request in hand, or its way to another service (XATMI, tpreturn; tpforward after
-- Tuxedo; when a forward fails, and that want of memory ends a request, are this project's own).
use Rattle.std.specs.Prelude.{◌≡◌, ◌⊎◌, ℕ, ℤ, ◌+◌, ◌<◌, ◌≤◌, ◌==◌, ◌&&◌, Bool, true, false, List, [], ◌∷◌, length, IsSomeAnd, if◌then◌else◌}
use Rattle.std.specs.List.{All}
use Rattle.xa_types.specs.declared.call.Rval.{Rval}
use Rattle.xa_types.specs.declared.call.Rval.TheVariants.{Success}
use Rattle.xa_types.specs.declared.data.Data.{Data}
use Rattle.xa_types.specs.declared.ids.RequestId.{RequestId}
use Rattle.xa_types.specs.declared.row.Row.{Row}
use Rattle.xa_types.specs.declared.setup.Setup.{Setup}
use Rattle.xa_types.specs.Name.{is_name}
use Rattle.xa_types.specs.Kind.{is_sound}
use Rattle.xa_types.specs.Setup.{numbered}
use Rattle.xa_events.specs.declared.event.Event.{Event}
use Rattle.xa_events.specs.declared.event.Event.TheVariants.{Forward, End}
use Rattle.xa_events.specs.declared.event.Ended.{Ended}
use Rattle.xa_events.specs.declared.event.Outcome.{Outcome}
use Rattle.xa_events.specs.declared.event.Outcome.TheVariants.{Returned, Failed, BadReturn, BadForward, Died, Starved}
use Rattle.xa_events.specs.Words.{count, AtEach}
use Rattle.xa_events.specs.State.{caller_of}
use Rattle.xa_events.specs.Homes.{HeldSince}
use Rattle.xa_events.specs.Board.{listed_in}
use Rattle.xa_events.specs.Request.{is_forward_of}
use Rattle.xa_events.specs.Conversation.{connections}
use Rattle.xa_events.specs.Calls.{IsShutOut, is_accepted_by, HasBegun}

-- how a server is done with a request: its service returns or forwards it, or the life ends with the request in hand
pub data Finish : Type 0 where
  Returns : (value : Rval) → (code : ℤ) → (payload : Data) → Finish
  Forwards : (service : List ℕ) → (payload : Data) → Finish
  Loses : Finish

-- ---- tpreturn

-- how a request ends by a return that stands: TPEXIT fails as TPFAIL does
abbrev pub returned : Rval → ℤ → Data → Outcome
returned Success code payload = Returned code payload
returned value code payload = Failed code payload

abbrev pub is_empty : {X : Type 0} → List X → Bool
is_empty [] = true
is_empty (x ∷ xs) = false

-- a return stands where its data is sound and the service has broken or heard to their end all conversations that it began
abbrev pub return_by : Setup → List RequestId → Rval → ℤ → Data → Outcome
return_by setup open_connections value code payload = if is_sound setup payload && is_empty open_connections then returned value code payload else BadReturn

-- the request ends so, or for want of memory
abbrev pub ReturnEnds : Setup → ℕ → Rval → ℤ → Data → Ended → List Event → Type 0
ReturnEnds setup clients value code payload e own = (e.outcome ≡ return_by setup (connections (caller_of clients e.server.0) own) value code payload) ⊎ (e.outcome ≡ Starved)

-- ---- tpforward

-- it fails by itself: its service is no name, its data isn't sound, or the service left a conversation open that it began
abbrev pub FailsItself : Setup → ℕ → List ℕ → Data → List Event → Type 0
FailsItself setup caller service payload own = (is_name service ≡ false) ⊎ (is_sound setup payload ≡ false) ⊎ (connections caller own ≡ [] → ⊥)

-- it fails by its request: that was forwarded 32 times, or began a conversation
abbrev pub FailsByRequest : RequestId → List Event → Type 0
FailsByRequest request before = (32 ≤ count (is_forward_of request) before) ⊎ HasBegun true request before

-- it fails by the version that was looked up: no row that it lists accepts the kind of the data, or each queue that it lists took no request at a
-- moment not before the server's last event there
abbrev pub FailsByBoard : Setup → ℕ → ℕ → List ℕ → Data → ℕ → List Event → Type 0
FailsByBoard setup clients caller service payload v before = (is_accepted_by setup payload (listed_in setup before v service false) ≡ false)
    ⊎ All (λ (row : Row). HeldSince setup clients caller row.queue.0 (IsShutOut setup row.queue.0) before) (listed_in setup before v service false)

-- with which outcome it ends its request where it isn't forwarded: as a forward that fails, which names the version where that decided and else 0, or
-- for want of memory
abbrev pub ForwardEnds : Setup → ℕ → List ℕ → Data → Ended → Outcome → List Event → Type 0
ForwardEnds setup clients service payload e (BadForward v) before =
    ((v ≡ 0) × (FailsItself setup (caller_of clients e.server.0) service payload before ⊎ FailsByRequest e.request before))
    ⊎ ((0 < v) × FailsByBoard setup clients (caller_of clients e.server.0) service payload v before)
ForwardEnds setup clients service payload e Starved before = Unit {0}
ForwardEnds setup clients service payload e outcome before = ⊥

-- ---- both

-- the event may be what became of it
abbrev pub FitsFinish : Setup → ℕ → Finish → Event → List Event → Type 0
FitsFinish setup clients (Returns value code payload) (End e) before = ReturnEnds setup clients value code payload e before
FitsFinish setup clients (Forwards service payload) (Forward f) before = (f.service ≡ service) × (f.payload ≡ payload)
FitsFinish setup clients (Forwards service payload) (End e) before = ForwardEnds setup clients service payload e e.outcome before
FitsFinish setup clients Loses (End e) before = (e.outcome ≡ Died) ⊎ (e.outcome ≡ Starved)
FitsFinish setup clients finish e before = ⊥

-- the event takes the request out of the server's hand
abbrev pub finishes : ℕ → Event → Bool
finishes server (End e) = e.server.0 == server
finishes server (Forward f) = f.server.0 == server
finishes server _ = false

-- the server was done with so many requests as there are finishes, and with each as the finish of its number says
pub record FitsFinishes (setup : Setup) (clients server : ℕ) (all : List Finish) (past : List Event) : Type 0 where
  pub each : AtEach (λ e before. finishes server e ≡ true → IsSomeAnd (numbered (count (finishes server) before + 1) all) (λ finish. FitsFinish setup clients finish e before)) past
  pub whole : count (finishes server) past ≡ length all
