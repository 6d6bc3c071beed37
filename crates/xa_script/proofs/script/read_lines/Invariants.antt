use Rattle.std.proofs.Common.{◌+◌, ◌≤◌, length}
use Rattle.std.specs.Str.Lines.{lines}
use Rattle.xa_script.proofs.ReadLines.{IsReadTo}
use Rattle.xa_script.proofs.script.read_lines.Given as goal

abbrev pub invariant-loop-text : goal.invariant-loop-text
invariant-loop-text l = IsReadTo l.setup l.most (lines l.octets) l.line l.draft (lines l.rest) × (l.line + length l.rest ≤ length l.octets)

abbrev pub decreases-loop-text : goal.decreases-loop-text
decreases-loop-text l = length l.rest
