-- A domain whose workers are still to get their desks (this project's own).
use Rattle.std.specs.Prelude.{◌≡◌, ℕ, ◌+◌, ◌≤◌, List, [], length, map, vec_capacity}
use Rattle.std.specs.List.{All}
use Rattle.xa_client_worker.specs.xa_types.declared.setup.Setup.{Setup}
use Rattle.xa_client_worker.specs.xa_cell.declared.cells.Cells.{Cells}
use Rattle.xa_client_worker.specs.xa_cell.declared.tokens.Seat.{Seat}
use Rattle.xa_client_worker.specs.xa_cell.Known.{known, IsSeatOf, IsNew, callers_of}
use Rattle.xa_client_worker.specs.xa_caller.declared.cargo.Filling.{Filling}
use Rattle.xa_client_worker.specs.xa_desk.Desks.{IsDomain}
use Rattle.xa_boot.specs.declared.founding.Founded.{Founded}
use Rattle.xa_boot.specs.declared.booting.Workers.{Workers}
use Rattle.xa_boot.specs.Booting.{IsDealt}
use Rattle.xa_boot.specs.Hiring.{AreLeft}
use Rattle.xa_boot.specs.Supplies.{restarts_of}

-- the seats of these cells, of which none has done anything, one for each limit
pub record AreSeats (cells : Cells Filling) (limits : List ℕ) (seats : List (Seat Filling)) : Type 0 where
  pub callers : callers_of cells ≡ length limits
  pub table : All (IsSeatOf cells) seats
  pub counts : map (λ (s : Seat Filling). s.count) seats ≡ limits
  pub fresh : All (λ (s : Seat Filling). IsNew s.first s.count (known s)) seats

-- the domain is by that setup, with so many clients, and all its workers are left
pub record IsFounded (setup : Setup) (clients : ℕ) (f : Founded) : Type 0 where
  pub domain : IsDomain f.domain
  pub setup_is : f.domain.setup ≡ setup
  pub clients_are : f.domain.clients ≡ clients
  pub dealt : IsDealt f.domain
  pub left : AreLeft f.domain (clients + length setup.servers + 1) f.staff
  pub lives : f.lives.items ≡ map restarts_of setup.servers

-- there is room for so many workers, and none
pub record AreRooms {L T : Type 0} (clients servers : ℕ) (w : Workers L T) : Type 0 where
  pub no_client : w.clients.items ≡ []
  pub no_server : w.servers.items ≡ []
  pub clients_room : clients ≤ vec_capacity w.clients
  pub servers_room : servers ≤ vec_capacity w.servers
