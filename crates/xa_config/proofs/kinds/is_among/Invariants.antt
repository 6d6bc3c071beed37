use Rattle.std.proofs.Common.{◌≡◌, drop}
use Rattle.xa_types.specs.Configured.{is_among}
use Rattle.xa_config.proofs.kinds.is_among.Given as goal

abbrev pub invariant-loop-name : goal.invariant-loop-name
invariant-loop-name l = is_among (drop l.name-index l.names) l.octets ≡ is_among l.names l.octets
