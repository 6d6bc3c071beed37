use Rattle.std.proofs.Common.{◌≡◌, ◌+◌, ℕ, List, ap, sym, ◌∙◌, arith, subst}
use Rattle.xa_types.specs.declared.stamp.Stamp.{Stamp}
use Rattle.xa_stamp.specs.declared.home.Stamped.{Stamped}
use Rattle.xa_stamp.specs.Home.{last_stamp, with_event}
use Rattle.xa_stamp.proofs.Stamps.{last_stamp-push}
use Rattle.xa_events.specs.Clock.{now}
use Rattle.xa_worker.specs.Crew.{no_stamp}
use Rattle.xa_worker.specs.Seen.{past_in}
use Rattle.xa_ticks.specs.Clock.{ClockState, ReadsAsNoted, tick_by}
use Rattle.xa_ticks.specs.Kept.{standing_of}
use Rattle.xa_ticks.proofs.Ticking.{past-push, now-tick, reads-ticked}
use Rattle.xa_ticks.proofs.clock.Clock.advance.Goals as goal

pub invariant_of-self-2 : goal.invariant_of-self-2
invariant_of-self-2 c =
    let s : ClockState = standing_of c.self.inside in
    let i = c.self.invariant in
    let stamp = c.in-Ok.stamp in
    let tick : ℕ = c.self.inside.moment.now + c.from.result in
    let x : Stamped = record { stamp = stamp; event = tick_by c.args.by c.args.op tick } in
    let entries = c.add.ensures.entries in
    let first = c.add.ensures.first ∙ c.reserve.ensures.first in
    let all : c.add.new.self.entries ≡ with_event stamp (tick_by c.args.by c.args.op tick) s.entries = entries ∙ ap (with_event stamp (tick_by c.args.by c.args.op tick)) c.reserve.ensures.entries in
    let next = c.in-Ok.ensures in
    let begins = ap (λ (f : Stamp). last_stamp f c.self.inside.home.entries) i.begins in
    let shows = i.shows in
    let most = c.if-now-gt-LAST.false in
    let n = c.from.ensures in
    let sound : ReadsAsNoted (record { entries = with_event stamp (tick_by c.args.by c.args.op tick) s.entries }) =
    reads-ticked s stamp c.args.by c.args.op c.from.result tick i.reads (let above = next.0 in omega (arith, above, begins)) next.1 (omega (arith, shows)) (let small = c.ranges.n.fits in omega (arith, n, small)) most in
    record {
      begins = first ∙ i.begins;
      reads = subst (λ (l : List Stamped). ReadsAsNoted (record { entries = l })) (sym all) sound;
      shows = sym (ap (λ (l : List Stamped). now (past_in l)) all ∙ ap now (past-push s.entries x) ∙ now-tick (record { by = c.args.by; op = c.args.op; now = tick }) (past_in s.entries));
      last = sym (ap (λ (l : List Stamped). last_stamp no_stamp l) all ∙ last_stamp-push no_stamp s.entries x);
    }
