-- How a worker reads the clock, and a client moves it on (this project's own).
use Rattle.std.specs.Prelude.{◌≡◌, ℕ, ◌+◌, ◌<◌, ◌^◌, true, false, Result, Ok, Err}
use Rattle.xa_server.specs.xa_types.declared.fault.Fault.{Fault}
use Rattle.xa_server.specs.xa_types.declared.fault.Fault.TheVariants as faults
use Rattle.xa_server.specs.xa_types.declared.stamp.Stamp.{Stamp}
use Rattle.xa_server.specs.xa_events.declared.event.Evidence.{Evidence}
use Rattle.xa_server.specs.xa_events.declared.event.Evidence.TheVariants.{Role, Clock}
use Rattle.xa_server.specs.xa_events.Caller.{is_client}
use Rattle.xa_server.specs.xa_lock.Pages.{StartsWith}
use Rattle.xa_server.specs.xa_worker.declared.work.Halt.{Halt}
use Rattle.xa_server.specs.xa_worker.declared.work.Halt.TheVariants as halts
use Rattle.xa_server.specs.xa_caller.Caller.{CallerState}
use Rattle.xa_server.specs.xa_caller.Changes.{Refuses, ticked_by}
use Rattle.xa_ticks.specs.declared.clock.TickRefused.{TickRefused}
use Rattle.xa_ticks.specs.declared.clock.TickRefused.TheVariants as refusals
use Rattle.xa_desk.specs.declared.domain.Domain.{Domain}
use Rattle.xa_desk.specs.declared.desk.Desk.{Desk}
use Rattle.xa_desk.specs.Advertising.{HasSeen}
use Rattle.xa_desk.specs.Serving.{Sees}
use Rattle.xa_desk.specs.Desks.{Leads, clock_page, shown_to}

-- the worker went on, and visited nothing but the clock
pub record MovesAtClock (d : Domain) (old new : Desk) : Type 0 where
  pub leads : Leads d old new
  pub clock : StartsWith (clock_page new).seen (clock_page old).seen
  pub board : new.board ≡ old.board
  pub queues : new.queues ≡ old.queues
  pub reader : new.reader ≡ old.reader

-- the clock showed that tick, and nothing was noted
pub record ReadsClock (d : Domain) (tick : ℕ) (old new : Desk) : Type 0 where
  pub moves : MovesAtClock d old new
  pub shows : tick ≡ shown_to new
  pub sees : Sees old.caller new.caller

-- a clock that shows that tick isn't moved on by so many
abbrev pub BarsTick : ℕ → TickRefused → ℕ → Type 0
BarsTick n (refusals.Past tick) shown = (tick ≡ shown) × (2 ^ 62 < tick + n)
BarsTick n why shown = Unit {0}

-- how the worker halts then, where its caller isn't told
abbrev pub tick_halt : TickRefused → Halt
tick_halt (refusals.Worn stamp) = halts.Worn stamp
tick_halt why = halts.NoMemory

-- the tick of the desk's caller is refused: it is a server, or the sum with what the clock showed its pass last would pass 2^62
abbrev pub TickRefusedBy : Domain → Desk → ℕ → Fault → Evidence → Type 0
TickRefusedBy d desk n faults.Proto Role = is_client d.clients desk.caller.work.id.0 ≡ false
TickRefusedBy d desk n faults.Limit (Clock tick) = (is_client d.clients desk.caller.work.id.0 ≡ true) × (2 ^ 62 < tick + n) × (tick ≡ shown_to desk)
TickRefusedBy d desk n fault evidence = ⊥

-- so a server's is refused, and so a client's
abbrev pub IsTickRefusal : CallerState → Fault → Evidence → Type 0
IsTickRefusal c faults.Proto Role = is_client c.work.clients c.work.id.0 ≡ false
IsTickRefusal c faults.Limit (Clock tick) = is_client c.work.clients c.work.id.0 ≡ true
IsTickRefusal c fault evidence = ⊥

abbrev pub RefusesTick : ℕ → Fault → Evidence → Stamp → CallerState → CallerState → Type 0
RefusesTick op fault evidence stamp new old = Refuses op fault evidence stamp new old × IsTickRefusal old fault evidence

-- its call, that of a client, moved the clock on to that tick, or was refused with that error, behind what was seen there
abbrev pub TicksAs : ℕ → Result ℕ Fault → CallerState → CallerState → Type 0
TicksAs op (Ok tick) new old = (is_client old.work.clients old.work.id.0 ≡ true) × (stamp : Stamp) × (new ≡ ticked_by stamp op tick old)
TicksAs op (Err fault) new old = (mid : CallerState) × HasSeen mid old × (evidence : Evidence) × (stamp : Stamp) × RefusesTick op fault evidence stamp new mid
