use Rattle.std.proofs.Common.{inr, refl, sym, ◌∙◌, ap, subst}
use Rattle.xa_desk.specs.xa_server.declared.slot.ServerSlot.{ServerSlot}
use Rattle.xa_desk.specs.Desks.{shown_to}
use Rattle.xa_desk.proofs.Starting.{floor_shown}
use Rattle.xa_server_worker.specs.Standing.{OffAs}
use Rattle.xa_server_worker.proofs.Stepping.{told_on, told_read}
use Rattle.xa_server_worker.proofs.Lasting.{at_desk, at_read, off_read, off_told, before_read, first_may, last_shown, ended_tells, goes_read, goes_tells, goes_by, goes_trans}
use Rattle.xa_server_worker.proofs.Leaves.{retired_ended}
use Rattle.xa_server_worker.proofs.working.ServerWorker.live_all.Goals as goal

pub loop-init : goal.loop-init
loop-init g c =
    let w = c.args.self.now in
    let desk = c.read_clock-tick.new.self in
    let reads = c.read_clock-tick.ensures.reads in
    let untried = c.requires.off in
    record {
      goes = goes_read w desk reads;
      off = record {
        off = off_read w desk reads (c.read_clock-tick.ensures.serving w.queue.0 w.served.slot untried.off.at.serving) untried.off;
        shown = reads.shows;
        may = first_may w.served.slot.restarts c.read_clock-tick.result untried.none;
      };
    }

pub returns-in_err-live-clause-goes : goal.returns-in_err-live-clause-goes
returns-in_err-live-clause-goes g c =
    goes_trans c.args.self.now c.loop.self c.live.new.self c.loop.invariant.goes c.in_err-live.ensures.goes

pub returns-in-Shut-clause-goes : goal.returns-in-Shut-clause-goes
returns-in-Shut-clause-goes g c =
    goes_trans c.args.self.now c.loop.self c.live.new.self c.loop.invariant.goes c.in_ok-live.ensures.goes

pub tell_if-requires-clause-told : goal.tell_if-requires-clause-told
tell_if-requires-clause-told g c κs within =
    let d = c.args.monitor.now.domain.now in
    let over = subst (λ o. OffAs d g.T.Starter.shows o c.live.new.self) c.in-Dead.is c.in_ok-live.ensures.off in
    told_read c.read_clock-tick-in-loop.ensures.reads c.in-Dead.closing over.1

pub loop-preserved : goal.loop-preserved
loop-preserved g c =
    let d = c.args.monitor.now.domain.now in
    let l = c.live.new.self in
    let over = subst (λ o. OffAs d g.T.Starter.shows o l) c.in-Dead.is c.in_ok-live.ensures.off in
    let reads = c.read_clock-tick-in-loop.ensures.reads in
    let read = at_read l c.read_clock-tick-in-loop.new.self in
    let off = off_read l c.read_clock-tick-in-loop.new.self reads (c.read_clock-tick-in-loop.ensures.serving l.queue.0 l.served.slot over.0.at.serving) over.0 in
    let lives = goes_trans c.args.self.now l read (goes_trans c.args.self.now c.loop.self l c.loop.invariant.goes c.in_ok-live.ensures.goes) (goes_read l c.read_clock-tick-in-loop.new.self reads) in
    record {
      goes = goes_trans c.args.self.now read (at_read read c.tell_if.new.desk) lives (goes_tells read c.tell_if.new.desk c.tell_if.ensures);
      off = record {
        off = off_told read c.tell_if.new.desk c.tell_if.ensures off;
        shown = reads.shows ∙ sym (ap shown_to c.tell_if.ensures.rest);
        may = sym (c.may_start.ensures (last_shown read c.read_clock-tick-in-loop.result off reads.shows)) ∙ c.if-may_start.true;
      };
    }

pub retire-retired-requires-clause-serving : goal.retire-retired-requires-clause-serving
retire-retired-requires-clause-serving g c κs within =
    let d = c.args.monitor.now.domain.now in
    let l = c.live.new.self in
    let over = subst (λ o. OffAs d g.T.Starter.shows o l) c.in-Dead.is c.in_ok-live.ensures.off in
    c.read_clock-tick-in-loop.ensures.serving l.queue.0 l.served.slot over.0.at.serving

pub retire-retired-requires-clause-may : goal.retire-retired-requires-clause-may
retire-retired-requires-clause-may g c κs within =
    let d = c.args.monitor.now.domain.now in
    let l = c.live.new.self in
    let over = subst (λ o. OffAs d g.T.Starter.shows o l) c.in-Dead.is c.in_ok-live.ensures.off in
    let reads = c.read_clock-tick-in-loop.ensures.reads in
    let read = at_read l c.read_clock-tick-in-loop.new.self in
    let off = off_read l c.read_clock-tick-in-loop.new.self reads (c.read_clock-tick-in-loop.ensures.serving l.queue.0 l.served.slot over.0.at.serving) over.0 in
    record { off = off.off; up = off.up; floor = floor_shown off.at.is reads.shows; no_restart = sym (c.may_start.ensures (last_shown read c.read_clock-tick-in-loop.result off reads.shows)) ∙ c.if-may_start.false }

pub tell_if-requires-in-loop-clause-told : goal.tell_if-requires-in-loop-clause-told
tell_if-requires-in-loop-clause-told g c κs within =
    let d = c.args.monitor.now.domain.now in
    let over = subst (λ o. OffAs d g.T.Starter.shows o c.live.new.self) c.in-Dead.is c.in_ok-live.ensures.off in
    told_on c.retire-retired.ensures.retires.steps.leads c.latest-rises.ensures.rises c.in-Dead.closing (told_read c.read_clock-tick-in-loop.ensures.reads c.in-Dead.closing over.1)

pub returns-in-loop-clause-goes : goal.returns-in-loop-clause-goes
returns-in-loop-clause-goes g c =
    let l = c.live.new.self in
    let read = at_read l c.read_clock-tick-in-loop.new.self in
    let retired = at_desk read c.retire-retired.new.slot c.retire-retired.new.desk in
    let retires = c.retire-retired.ensures.retires in
    let lives = goes_trans c.args.self.now l read (goes_trans c.args.self.now c.loop.self l c.loop.invariant.goes c.in_ok-live.ensures.goes) (goes_read l c.read_clock-tick-in-loop.new.self c.read_clock-tick-in-loop.ensures.reads) in
    let gone = goes_trans c.args.self.now read retired lives (goes_by read retired retires.more retires.steps (ap (λ (s : ServerSlot). s.server) retires.slot_is) refl refl) in
    goes_trans c.args.self.now retired (at_read retired c.tell_if-in-loop.new.desk) gone (goes_tells retired c.tell_if-in-loop.new.desk c.tell_if-in-loop.ensures)

pub returns-in-loop-clause-ended : goal.returns-in-loop-clause-ended
returns-in-loop-clause-ended g c =
    let d = c.args.monitor.now.domain.now in
    let l = c.live.new.self in
    let over = subst (λ o. OffAs d g.T.Starter.shows o l) c.in-Dead.is c.in_ok-live.ensures.off in
    let reads = c.read_clock-tick-in-loop.ensures.reads in
    let read = at_read l c.read_clock-tick-in-loop.new.self in
    let off = off_read l c.read_clock-tick-in-loop.new.self reads (c.read_clock-tick-in-loop.ensures.serving l.queue.0 l.served.slot over.0.at.serving) over.0 in
    let retired = at_desk read c.retire-retired.new.slot c.retire-retired.new.desk in
    ended_tells retired c.retire-retired.new.slot c.tell_if-in-loop.new.desk _ refl (inr refl) c.tell_if-in-loop.ensures
    (retired_ended read c.retire-retired.new.slot c.retire-retired.new.desk c.retire-retired.result off (before_read reads over.2) c.retire-retired.ensures.retires c.retire-retired.ensures.result)
