-- Which calls a domain serves so far.
use Rattle.std.specs.Prelude.{Bool, true, false, not}
use Rattle.xa_types.specs.declared.call.Op.{Op}
use Rattle.xa_types.specs.declared.call.Op.TheVariants as ops

-- a tpcall, a tpacall that wants a reply, a tpgetrply or a tpcancel, a call that sets the priority of the next request, or one that would change the board or the clock
abbrev pub is_served : Op → Bool
is_served (ops.Call ask) = true
is_served (ops.Acall ask) = not ask.flags.no_reply
is_served (ops.Get descriptor flags expect) = true
is_served (ops.GetAny flags expect) = true
is_served (ops.Cancel descriptor) = true
is_served (ops.Priority absolute amount) = true
is_served (ops.Advertise service routine) = true
is_served (ops.Unadvertise service) = true
is_served (ops.Tick n) = true
is_served op = false
