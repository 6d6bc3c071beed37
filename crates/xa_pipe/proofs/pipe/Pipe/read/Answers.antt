use Rattle.std.proofs.Common.{rules, subst, ◌<◌, length, arith}
use Rattle.xa_pipe.proofs.NoFrame.{partial_few, reads_next, refused_reads}
use Rattle.xa_pipe.proofs.pipe.Pipe.read.Goals as goal

pub returns-in-Ok-Some-clause-frame : goal.returns-in-Ok-Some-clause-frame
returns-in-Ok-Some-clause-frame g c frames read =
    let took = rw c.in-Ok-Some.field-0-is at c.in-Ok-Some.ensures.answered in
    let seen = rw (← c.self.view_is) at (c.loop.invariant.read frames read) in
    reads_next (g.L.Link.shows c.self.inside.link) c.self.inside.reader c.next.new.self frames c.in-Ok-Some.frame
    took.begins.whole took.place seen

pub pull-requires-clause-few : goal.pull-requires-clause-few
pull-requires-clause-few g c =
    let found = rw c.in-Ok-None.field-0-is at c.in-Ok-None.ensures.answered in
    rw found.0 (partial_few _ found.1)

pub returns-in-Err-clause-kept : goal.returns-in-Err-clause-kept
returns-in-Err-clause-kept g c frames read =
    let seen = rw (← c.self.view_is) at (c.loop.invariant.read frames read) in
    rw c.ended_by.ensures (refused_reads (g.L.Link.shows c.self.inside.link) c.self.inside.reader c.next.new.self frames c.in-Err.refused c.in-Err.ensures.answered seen).0

pub returns-in-Err-clause-why : goal.returns-in-Err-clause-why
returns-in-Err-clause-why g c frames read =
    let seen = rw (← c.self.view_is) at (c.loop.invariant.read frames read) in
    rw c.ended_by.ensures (refused_reads (g.L.Link.shows c.self.inside.link) c.self.inside.reader c.next.new.self frames c.in-Err.refused c.in-Err.ensures.answered seen).1

pub loop-preserved : goal.loop-preserved
loop-preserved g c =
    let found = rw c.in-Ok-None.field-0-is at c.in-Ok-None.ensures.answered in
    record {
      took = search rules;
      reads = search rules;
      writes = search rules;
      program = search rules;
      read = λ frames read.
          let seen = rw (← c.self.view_is) at (c.loop.invariant.read frames read) in
          c.in_ok-pull-in-Ok-None.ensures.grew frames (rw found.0 seen);
      counted = search rules;
      few =
          let short : length c.loop.self.rest < 66_012 = subst (λ p. length p.rest < 66_012) c.self.view_is (partial_few _ found.1) in
          omega (arith, short, c.loop.invariant.counted);
    }
