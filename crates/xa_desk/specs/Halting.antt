-- Why a worker halts, by its desk (this project's own).
use Rattle.std.specs.Prelude.{◌≡◌, ◌^◌}
use Rattle.xa_server.specs.xa_worker.declared.work.Halt.{Halt}
use Rattle.xa_server.specs.xa_worker.declared.work.Halt.TheVariants.{NoMemory, Worn}
use Rattle.xa_desk.specs.declared.desk.Desk.{Desk}
use Rattle.xa_desk.specs.declared.stopped.Stopped.{Stopped}
use Rattle.xa_desk.specs.declared.stopped.Stopped.TheVariants.{Here, Elsewhere}

-- memory ran out, or the worker's stamp came to its end
abbrev pub IsHaltAt : Desk → Halt → Type 0
IsHaltAt desk NoMemory = Unit {0}
IsHaltAt desk (Worn stamp) = (stamp.0 ≡ 2 ^ 63) × (desk.caller.work.stamp.0 ≡ 2 ^ 63)

-- it came to a halt itself, or saw that another did, of which nothing is said
abbrev pub IsStopAt : Desk → Stopped → Type 0
IsStopAt desk (Here halt) = IsHaltAt desk halt
IsStopAt desk Elsewhere = Unit {0}
