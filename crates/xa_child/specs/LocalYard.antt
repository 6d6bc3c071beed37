-- What the yard of programs in memory tells.
use Rattle.std.specs.Prelude.{List}
use Rattle.xa_types.specs.declared.setup.Setup.{Setup}
use Rattle.xa_child.specs.declared.local.LocalYard.{LocalYard}

-- for which setups it was asked for starters
abbrev pub yard_asked : LocalYard → List Setup
yard_asked y = y.asked.items
