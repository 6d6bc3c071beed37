use Rattle.std.proofs.Common.{◌≡◌, ◌||◌, ◌==◌, drop}
use Rattle.std.specs.List.{list_all}
use Rattle.xa_types.specs.Name.{is_letter, is_digit}
use Rattle.xa_config.proofs.field.all_plain.Given as goal

abbrev pub invariant-loop-octet : goal.invariant-loop-octet
invariant-loop-octet l =
    list_all (λ octet. (is_letter octet || is_digit octet) || (octet == 95)) (drop l.octet-index l.octets)
    ≡ list_all (λ octet. (is_letter octet || is_digit octet) || (octet == 95)) l.octets
