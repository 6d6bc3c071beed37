use Rattle.std.proofs.Common.{◌≡◌, ◌≤◌, List, length}
use Rattle.xa_frame.specs.declared.frame.Frame.{Frame}
use Rattle.xa_pipe.specs.Pipe.{HasRead}
use Rattle.xa_pipe.proofs.pipe.Pipe.read.Given as goal

abbrev pub invariant-loop : goal.invariant-loop
invariant-loop g l = record {
  took : l.self.took ≡ l.fn.self.took;
  reads : l.self.reads ≡ l.fn.self.reads;
  writes : l.self.writes ≡ l.fn.self.writes;
  program : l.self.program ≡ l.fn.self.program;
  read : (frames : List Frame) → HasRead l.fn.self frames → HasRead l.self frames;
  counted : l.counter ≤ length l.self.rest;
  few : l.counter ≤ 74_203;
}
