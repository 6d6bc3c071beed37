-- What a worker leaves behind, as its desk is then (this project's own).
use Rattle.std.specs.Prelude.{◌≡◌, List}
use Rattle.xa_server.specs.xa_types.declared.call.Op.{Op}
use Rattle.xa_server.specs.xa_cell.Places.{IsShut}
use Rattle.xa_desk.specs.declared.domain.Domain.{Domain}
use Rattle.xa_desk.specs.declared.desk.Desk.{Desk}
use Rattle.xa_desk.specs.declared.departure.Done.{Done}
use Rattle.xa_desk.specs.Desks.{FitsCalls}

-- that is what the desk has left: its passes, its seat, of which no place is open, and its caller's work
pub record IsLeft (done : Done) (desk : Desk) : Type 0 where
  pub work : done.left.work ≡ desk.caller.work
  pub seat : done.left.seat ≡ desk.caller.seat
  pub shut : IsShut desk.caller.seat
  pub board : done.board ≡ desk.board
  pub queues : done.queues ≡ desk.queues
  pub clock : done.clock ≡ desk.clock
  pub reader : done.reader ≡ desk.reader

-- each event of a call that the worker noted is one of these calls still
abbrev pub FitsStill : Domain → Desk → Desk → Type 0
FitsStill d old new = (ops : List Op) → FitsCalls d ops old → FitsCalls d ops new
