-- How a server changes the board for its queue (XATMI, tpadvertise and tpunadvertise).
use Rattle.std.specs.Prelude.{◌≡◌, ◌⊎◌, ℕ, ◌&&◌, true, false, List, length, Option, Some, None, IfSome, IsSomeAnd}
use Rattle.std.specs.Str.{bytes_eq}
use Rattle.xa_server.specs.xa_types.declared.fault.Fault.{Fault}
use Rattle.xa_server.specs.xa_types.declared.fault.Fault.TheVariants as faults
use Rattle.xa_server.specs.xa_types.declared.row.Row.{Row}
use Rattle.xa_server.specs.xa_types.Rows.{row_of}
use Rattle.xa_server.specs.xa_events.declared.event.Evidence.{Evidence}
use Rattle.xa_server.specs.xa_events.declared.event.Evidence.TheVariants.{Role, Argument, Routine, Rows, NoRow}
use Rattle.xa_server.specs.xa_types.declared.call.Op.{Op}
use Rattle.xa_server.specs.xa_types.declared.call.Op.TheVariants.{Advertise, Unadvertise}
use Rattle.xa_server.specs.xa_types.Name.{is_name}
use Rattle.xa_server.specs.xa_events.Caller.{is_client}
use Rattle.xa_server.specs.xa_events.Cases.{row_limit, rows_now, queue_by}
use Rattle.xa_server.specs.xa_worker.Seen.{past_in}
use Rattle.xa_server.specs.xa_held.Joins.{changes_at}
use Rattle.xa_server.specs.xa_lock.Pages.{StartsWith}
use Rattle.xa_board.specs.declared.board.BoardRefused.{BoardRefused}
use Rattle.xa_board.specs.declared.board.BoardRefused.TheVariants as refusals
use Rattle.xa_server.specs.xa_types.declared.stamp.Stamp.{Stamp}
use Rattle.xa_server.specs.xa_events.declared.event.Event.{Event}
use Rattle.xa_server.specs.xa_worker.Work.{seeing}
use Rattle.xa_server.specs.xa_caller.Caller.{CallerState}
use Rattle.xa_server.specs.xa_caller.Changes.{IsChangeBy, Refuses, changed_by}
use Rattle.xa_desk.specs.declared.domain.Domain.{Domain}
use Rattle.xa_desk.specs.declared.desk.Desk.{Desk}
use Rattle.xa_desk.specs.Desks.{Leads, board_page}

-- the rows that stood as the desk's pass saw the board last
abbrev pub rows_seen : Domain → Desk → List Row
rows_seen d desk = rows_now d.setup (past_in (changes_at (board_page desk).seen))

-- the worker went on, and visited nothing but the board
pub record MovesAtBoard (d : Domain) (old new : Desk) : Type 0 where
  pub leads : Leads d old new
  pub board : StartsWith (board_page new).seen (board_page old).seen
  pub queues : new.queues ≡ old.queues
  pub reader : new.reader ≡ old.reader

-- these rows bar a row of that service and queue, for that reason
abbrev pub BarsPut : List ℕ → ℕ → List ℕ → BoardRefused → List Row → Type 0
BarsPut service queue routine (refusals.Match found) rows = (bytes_eq found routine ≡ false) × IsSomeAnd (row_of service queue rows) (λ row. row.routine ≡ found)
BarsPut service queue routine refusals.Full rows = (length rows ≡ row_limit) × (row_of service queue rows ≡ None)
BarsPut service queue routine refusals.NoEnt rows = ⊥
BarsPut service queue routine why rows = Unit {0}

-- they have none that could be withdrawn
abbrev pub BarsWithdrawal : List ℕ → ℕ → BoardRefused → List Row → Type 0
BarsWithdrawal service queue refusals.NoEnt rows = row_of service queue rows ≡ None
BarsWithdrawal service queue (refusals.Match found) rows = ⊥
BarsWithdrawal service queue refusals.Full rows = ⊥
BarsWithdrawal service queue why rows = Unit {0}

-- how a caller is told of it
abbrev pub refusal_by : BoardRefused → Option (Fault × Evidence)
refusal_by (refusals.Match found) = Some (faults.Match, Routine found)
refusal_by refusals.Full = Some (faults.Limit, Rows row_limit)
refusal_by refusals.NoEnt = Some (faults.NoEnt, NoRow)
refusal_by why = None

-- the call of the desk's caller is refused by itself, as a client's, or by the rows that stood as its pass saw the board last (XATMI, tpadvertise)
abbrev pub AdvertiseRefusedBy : Domain → Desk → List ℕ → List ℕ → Fault → Evidence → Type 0
AdvertiseRefusedBy d desk service routine faults.Proto Role = is_client d.clients desk.caller.work.id.0 ≡ true
AdvertiseRefusedBy d desk service routine faults.Inval Argument = (is_client d.clients desk.caller.work.id.0 ≡ false) × ((is_name service && is_name routine) ≡ false)
AdvertiseRefusedBy d desk service routine faults.Match (Routine found) = (is_client d.clients desk.caller.work.id.0 ≡ false) × ((is_name service && is_name routine) ≡ true)
    × BarsPut service (queue_by d.setup d.clients desk.caller.work.id.0) routine (refusals.Match found) (rows_seen d desk)
AdvertiseRefusedBy d desk service routine faults.Limit (Rows n) = (is_client d.clients desk.caller.work.id.0 ≡ false) × ((is_name service && is_name routine) ≡ true)
    × (n ≡ row_limit) × BarsPut service (queue_by d.setup d.clients desk.caller.work.id.0) routine refusals.Full (rows_seen d desk)
AdvertiseRefusedBy d desk service routine fault evidence = ⊥

-- so is one that would withdraw (XATMI, tpunadvertise)
abbrev pub UnadvertiseRefusedBy : Domain → Desk → List ℕ → Fault → Evidence → Type 0
UnadvertiseRefusedBy d desk service faults.Proto Role = is_client d.clients desk.caller.work.id.0 ≡ true
UnadvertiseRefusedBy d desk service faults.Inval Argument = (is_client d.clients desk.caller.work.id.0 ≡ false) × (is_name service ≡ false)
UnadvertiseRefusedBy d desk service faults.NoEnt NoRow = (is_client d.clients desk.caller.work.id.0 ≡ false) × (is_name service ≡ true)
    × BarsWithdrawal service (queue_by d.setup d.clients desk.caller.work.id.0) refusals.NoEnt (rows_seen d desk)
UnadvertiseRefusedBy d desk service fault evidence = ⊥

-- these are the calls by which the board would change
abbrev pub IsChange : Op → Type 0
IsChange (Advertise service routine) = Unit {0}
IsChange (Unadvertise service) = Unit {0}
IsChange op = ⊥

-- either
abbrev pub ChangeRefusedBy : Domain → Desk → Op → Fault → Evidence → Type 0
ChangeRefusedBy d desk (Advertise service routine) fault evidence = AdvertiseRefusedBy d desk service routine fault evidence
ChangeRefusedBy d desk (Unadvertise service) fault evidence = UnadvertiseRefusedBy d desk service fault evidence
ChangeRefusedBy d desk change fault evidence = ⊥

-- such a refusal is one of these
abbrev pub IsChangeRefusal : Fault → Evidence → Type 0
IsChangeRefusal faults.Proto Role = Unit {0}
IsChangeRefusal faults.Inval Argument = Unit {0}
IsChangeRefusal faults.Match (Routine found) = Unit {0}
IsChangeRefusal faults.Limit (Rows n) = Unit {0}
IsChangeRefusal faults.NoEnt NoRow = Unit {0}
IsChangeRefusal fault evidence = ⊥

abbrev pub RefusesChange : ℕ → Fault → Evidence → Stamp → CallerState → CallerState → Type 0
RefusesChange op fault evidence stamp new old = Refuses op fault evidence stamp new old × IsChangeRefusal fault evidence

-- a caller that saw a stamp, or none
abbrev pub HasSeen : CallerState → CallerState → Type 0
HasSeen new old = (new ≡ old) ⊎ ((seen : Stamp) × (new ≡ record old { work = seeing seen old.work }))

-- its call changed the board, or was refused with that error, behind what was seen there
abbrev pub ChangesAs : ℕ → Option Fault → CallerState → CallerState → Type 0
ChangesAs op None new old = (stamp : Stamp) × (version : ℕ) × (event : Event) × IsChangeBy old op version event × (new ≡ changed_by stamp op version event old)
ChangesAs op (Some fault) new old = (mid : CallerState) × HasSeen mid old × (evidence : Evidence) × (stamp : Stamp) × RefusesChange op fault evidence stamp new mid

-- the board refused the change, and its caller is told so, or isn't
abbrev pub RefusedBy : Domain → Desk → Op → BoardRefused → Type 0
RefusedBy d desk change why = IfSome (refusal_by why) (λ told. ChangeRefusedBy d desk change told.0 told.1)
