-- What the row of a server, of a queue and of a caller tells.
use Rattle.std.specs.Prelude.{◌≡◌, ℕ, List, reverse, Option, Some, None}
use Rattle.xa_types.specs.declared.ids.RequestId.{RequestId}
use Rattle.xa_types.specs.declared.setup.Setup.{Setup}
use Rattle.xa_events.specs.declared.event.Event.{Event}
use Rattle.xa_events.specs.declared.event.Outcome.{Outcome}
use Rattle.xa_events.specs.Words.{has}
use Rattle.xa_events.specs.Queue.{waiting, takes, is_down, is_closed}
use Rattle.xa_events.specs.Server.{doing, starts, is_gone, was_shut_down, last_outcome}
use Rattle.xa_events.specs.Caller.{last_op, just_accepted, accepted, open_descriptors, unanswered, least_version, tick_floor, has_left, is_leaving, next_priority}
use Rattle.xa_events.specs.Conversation.{connections, broken, is_hand_closed}
use Rattle.xa_machine.specs.declared.served.Last.{Last}
use Rattle.xa_machine.specs.declared.served.Last.TheVariants as lasts
use Rattle.xa_machine.specs.declared.served.ServerRow.{ServerRow}
use Rattle.xa_machine.specs.declared.queued.QueueRow.{QueueRow}
use Rattle.xa_machine.specs.declared.caller.CallerRow.{CallerRow}
use Rattle.xa_machine.specs.Tables.{last_of}

-- how the request ended that the server ended last, where it has done nothing since
abbrev pub last_as : Option Outcome → Last
last_as None = lasts.Nothing
last_as (Some outcome) = last_of outcome

pub record ServerReads (server : ℕ) (past : List Event) (row : ServerRow) : Type 0 where
  pub doing : row.doing ≡ doing server past
  pub last : row.last ≡ last_as (last_outcome server past)
  pub starts : reverse row.starts.items ≡ starts server past
  pub gone : row.gone ≡ is_gone server past
  pub shut : row.shut ≡ was_shut_down server past

pub record QueueReads (setup : Setup) (queue : ℕ) (past : List Event) (row : QueueRow) : Type 0 where
  pub waiting : row.waiting.items ≡ waiting setup queue past
  pub takes : row.takes ≡ takes setup queue past
  pub down : row.down ≡ is_down queue past
  pub closed : row.closed ≡ is_closed queue past

pub record CallerReads (setup : Setup) (clients caller : ℕ) (past : List Event) (row : CallerRow) : Type 0 where
  pub op : row.op ≡ last_op caller past
  pub just : row.just ≡ just_accepted caller past
  pub accepted : row.accepted ≡ accepted caller past
  pub descriptors : row.descriptors.items ≡ open_descriptors caller past
  pub unanswered : row.unanswered.items ≡ unanswered caller past
  pub version : row.version ≡ least_version setup clients caller past
  pub tick : row.tick ≡ tick_floor clients caller past
  pub left : row.left ≡ has_left caller past
  pub leaving : row.leaving ≡ is_leaving caller past
  pub asked : row.asked ≡ next_priority clients caller past
  pub connections : row.connections.items ≡ connections caller past
  pub broken : (request : RequestId) → has request row.broken.items ≡ has request (broken caller past)
  pub hand_closed : row.hand_closed ≡ is_hand_closed clients caller past
