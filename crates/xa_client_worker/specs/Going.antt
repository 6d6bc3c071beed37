-- A client's desk between its calls (this project's own).
use Rattle.std.specs.Prelude.{◌≡◌, ℕ, true, List}
use Rattle.std.specs.List.{All}
use Rattle.xa_desk.specs.xa_types.declared.call.Op.{Op}
use Rattle.xa_desk.specs.xa_events.Caller.{is_client}
use Rattle.xa_desk.specs.xa_caller.declared.phase.Phase.TheVariants.{Idle}
use Rattle.xa_desk.specs.declared.domain.Domain.{Domain}
use Rattle.xa_desk.specs.declared.desk.Desk.{Desk}
use Rattle.xa_desk.specs.Desks.{IsDesk}
pub use Rattle.xa_calls.specs.Going.{IsCall}

abbrev pub IsClient : Desk → Type 0
IsClient desk = is_client desk.caller.work.clients desk.caller.work.id.0 ≡ true

-- between its calls: op of them were made
pub record IsReady (d : Domain) (op : ℕ) (desk : Desk) : Type 0 where
  pub is : IsDesk d desk
  pub client : IsClient desk
  pub idle : desk.caller.phase ≡ Idle
  pub made : desk.caller.op ≡ op

-- ---- all calls of a client

abbrev pub AllCalls : List Op → Type 0
AllCalls ops = All (IsCall true) ops
