use Rattle.std.proofs.Common.{◌≡◌, take}
use Rattle.std.specs.List.{list_all}
use Rattle.xa_script.specs.Words.{is_printed}
use Rattle.xa_script.proofs.words.all_printed.Given as goal

abbrev pub invariant-loop-octet : goal.invariant-loop-octet
invariant-loop-octet l = l.all ≡ list_all is_printed (take l.octet-index l.octets)
