-- The events that the workers of a domain make: those of tpcall, tpacall, tpgetrply and tpcancel, of tpadvertise and tpunadvertise, of tpsprio and tpforward
-- (after Tuxedo), of ticks, and of servers' lives. The machine has others, of which none is made here (this project's own).
use Rattle.std.specs.Prelude.{◌≡◌}
use Rattle.xa_server.specs.xa_types.declared.call.Mode.TheVariants.{Reply}
use Rattle.xa_server.specs.xa_types.declared.fault.Fault.{Fault}
use Rattle.xa_server.specs.xa_types.declared.fault.Fault.TheVariants.{Inval, NoEnt, IType, Limit, System, Block, Proto, Match, BadDesc}
use Rattle.xa_server.specs.xa_events.declared.event.Event.{Event}
use Rattle.xa_server.specs.xa_events.declared.event.Event.TheVariants.{Advertise, Withdraw, Accept, Take, Forward, Sweep, Gone, Down, Close, Tick, Start, StartFailed, End, Stop, Answer, Cancel, NotYet, Refuse, Leave, Priority}
use Rattle.xa_server.specs.xa_events.declared.event.Evidence.{Evidence}
use Rattle.xa_server.specs.xa_events.declared.event.Evidence.TheVariants.{Argument, Version, Cells, Clock, AllDown, Queue, Role, Routine, Rows, NoRow, Descriptor}

-- a call is refused by itself or by who makes it, by a version of the board, for want of a cell, by queues that are down, closed or full, by a descriptor, or by
-- a tick
abbrev pub IsRefusal : Fault → Evidence → Type 0
IsRefusal Inval Argument = Unit {0}
IsRefusal NoEnt (Version v) = Unit {0}
IsRefusal IType (Version v) = Unit {0}
IsRefusal Limit (Cells n) = Unit {0}
IsRefusal System (AllDown v) = Unit {0}
IsRefusal Block (Queue queue n) = Unit {0}
IsRefusal Proto Role = Unit {0}
IsRefusal BadDesc (Descriptor d) = Unit {0}
IsRefusal Limit (Clock tick) = Unit {0}
IsRefusal Match (Routine routine) = Unit {0}
IsRefusal Limit (Rows n) = Unit {0}
IsRefusal NoEnt NoRow = Unit {0}
IsRefusal fault evidence = ⊥

-- each request wants a reply, and none is waited for in vain
abbrev pub IsMade : Event → Type 0
IsMade (Advertise a) = Unit {0}
IsMade (Withdraw w) = Unit {0}
IsMade (Accept a) = a.mode ≡ Reply
IsMade (Take t) = Unit {0}
IsMade (Forward f) = Unit {0}
IsMade (Sweep x) = Unit {0}
IsMade (Gone server) = Unit {0}
IsMade (Down queue) = Unit {0}
IsMade (Close queue) = Unit {0}
IsMade (Tick t) = Unit {0}
IsMade (Start b) = Unit {0}
IsMade (StartFailed b) = Unit {0}
IsMade (End e) = Unit {0}
IsMade (Stop x) = Unit {0}
IsMade (Answer a) = Unit {0}
IsMade (Cancel c) = Unit {0}
IsMade (NotYet n) = Unit {0}
IsMade (Refuse r) = IsRefusal r.fault r.evidence
IsMade (Leave client) = Unit {0}
IsMade (Priority p) = Unit {0}
IsMade _ = ⊥
