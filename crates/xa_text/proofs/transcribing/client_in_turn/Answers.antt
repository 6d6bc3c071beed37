use Rattle.std.proofs.Common.{rules, ◌<◌, length, reverse, take, sym, arith}
use Rattle.xa_text.proofs.Passing.{none_yet, turn_at, turn_more, last_more}
use Rattle.xa_text.proofs.transcribing.client_in_turn.Goals as goal

pub loop-event-init : goal.loop-event-init
loop-event-init c = record { last = sym (none_yet c.args.client); turn = tt }

pub returns-in_default : goal.returns-in_default
returns-in_default c =
    let low : c.loop-event.event-index < length c.args.history.now = omega arith in (
      λ no. absurd (search rules),
      λ all. absurd (c.in_default.ensures (reverse (take c.loop-event.event-index c.args.history.now)) c.loop-event.invariant.last
          (turn_at c.args.client c.args.history.now c.loop-event.event-index c.event-item.result c.event-item.is low all)),
    )

pub loop-event-preserved : goal.loop-event-preserved
loop-event-preserved c =
    let history = c.args.history.now in
    let i = c.loop-event.event-index in
    let low : i < length history = omega arith in
    let now = c.in-Some.ensures (reverse (take i history)) c.loop-event.invariant.last in
    record {
      last = last_more c.args.client history i c.event-item.result c.in-Some.now c.event-item.is low now.1;
      turn = turn_more c.args.client history i c.event-item.result c.event-item.is low c.loop-event.invariant.turn now.0;
    }
