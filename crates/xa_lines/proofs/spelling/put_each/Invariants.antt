use Rattle.std.proofs.Common.{◌≡◌, ◌++◌, drop, map}
use Rattle.std.specs.List.{flat_map, AllWithin}
use Rattle.xa_lines.specs.Line.{spaced, request_word, IsRequest}
use Rattle.xa_lines.proofs.spelling.put_each.Given as goal

abbrev pub invariant-loop-request : goal.invariant-loop-request
invariant-loop-request l =
    (l.out.items ++ flat_map spaced (map request_word (drop l.request-index l.requests)) ≡ l.fn.out.items ++ flat_map spaced (map request_word l.requests)) × AllWithin IsRequest l.requests 0 l.request-index
