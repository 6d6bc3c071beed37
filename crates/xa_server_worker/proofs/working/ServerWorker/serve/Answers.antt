use Rattle.std.proofs.Common.{[], ◌∷◌, Ok, refl, ap, subst}
use Rattle.xa_desk.specs.xa_events.declared.event.Event.TheVariants.{Take}
use Rattle.xa_server_worker.specs.Steps.{NextFrom}
use Rattle.xa_server_worker.specs.Standing.{ExchangedAs}
use Rattle.xa_desk.proofs.xa_pipe.Courses.{cut_sound}
use Rattle.xa_server_worker.proofs.Behind.{still_calm}
use Rattle.xa_server_worker.proofs.Lasting.{at_desk, in_on, in_hands, in_alive, cut_ends, goes_by, goes_trans, goes_cut}
use Rattle.xa_server_worker.proofs.Exchanges.{taken_in}
use Rattle.xa_server_worker.proofs.working.ServerWorker.serve.Goals as goal

pub shut_down-requires-clause-free : goal.shut_down-requires-clause-free
shut_down-requires-clause-free g c =
    let l = c.loop.self in
    let shut = subst (λ b. NextFrom c.args.monitor.now.domain.now l.queue.0 (Ok b) l.served.slot c.next-in-loop.new.slot l.desk c.next-in-loop.new.desk) c.in-Ok-false.field-0-test c.in-Ok-false.ensures in
    in_on l c.next-in-loop.new.slot c.next-in-loop.new.desk _ _ 0 c.loop.life shut.0.serves shut.0.same (still_calm l.desk c.next-in-loop.new.desk shut.0.noted shut.0.seat) c.loop.invariant.free

pub returns-in-Ok-false-clause-goes : goal.returns-in-Ok-false-clause-goes
returns-in-Ok-false-clause-goes g c =
    let l = c.loop.self in
    let shut = subst (λ b. NextFrom c.args.monitor.now.domain.now l.queue.0 (Ok b) l.served.slot c.next-in-loop.new.slot l.desk c.next-in-loop.new.desk) c.in-Ok-false.field-0-test c.in-Ok-false.ensures in
    let waited = at_desk l c.next-in-loop.new.slot c.next-in-loop.new.desk in
    goes_trans c.args.self.now waited c.shut_down.new.self (goes_trans c.args.self.now l waited c.loop.invariant.goes (goes_by l waited [] shut.0.serves.steps shut.0.serves.server refl refl)) c.shut_down.ensures.goes

pub returns-in-Err-clause-goes : goal.returns-in-Err-clause-goes
returns-in-Err-clause-goes g c =
    let l = c.loop.self in
    let waits = c.in-Err.ensures.0.serves in
    let waited = at_desk l c.next-in-loop.new.slot c.next-in-loop.new.desk in
    goes_cut waited c.args.self.now c.cut.new.self c.cut.ensures.rest (goes_trans c.args.self.now l waited c.loop.invariant.goes (goes_by l waited [] waits.steps waits.server refl refl))

pub returns-in-Err-clause-halted : goal.returns-in-Err-clause-halted
returns-in-Err-clause-halted g c =
    let l = c.loop.self in
    let waits = c.in-Err.ensures.0 in
    let is = in_on l c.next-in-loop.new.slot c.next-in-loop.new.desk _ _ 0 c.loop.life waits.serves waits.same (still_calm l.desk c.next-in-loop.new.desk waits.noted waits.seat) c.loop.invariant.free in
    cut_ends (at_desk l c.next-in-loop.new.slot c.next-in-loop.new.desk) c.cut.new.self c.loop.life c.in-Err.stopped is.at c.cut.ensures.rest (in_hands is) (record { cut_off = cut_sound c.loop.life c.cut.ensures.sound; its = ap (λ s. s.0) is.last.server; named = is.last.named; alive = in_alive is }) c.in-Err.ensures.1

pub exchange-requires-clause-taken : goal.exchange-requires-clause-taken
exchange-requires-clause-taken g c κs within =
    let l = c.loop.self in
    let took = subst (λ b. NextFrom c.args.monitor.now.domain.now l.queue.0 (Ok b) l.served.slot c.next-in-loop.new.slot l.desk c.next-in-loop.new.desk) c.in-Ok-true.field-0-test c.in-Ok-true.ensures in
    taken_in l c.next-in-loop.new.slot c.next-in-loop.new.desk c.loop.life took c.loop.invariant.free

pub returns-in_err-next-clause-goes : goal.returns-in_err-next-clause-goes
returns-in_err-next-clause-goes g c =
    let l = c.loop.self in
    let took = subst (λ b. NextFrom c.args.monitor.now.domain.now l.queue.0 (Ok b) l.served.slot c.next-in-loop.new.slot l.desk c.next-in-loop.new.desk) c.in-Ok-true.field-0-test c.in-Ok-true.ensures in
    let taken = at_desk l c.next-in-loop.new.slot c.next-in-loop.new.desk in
    goes_trans c.args.self.now taken c.exchange.new.self (goes_trans c.args.self.now l taken c.loop.invariant.goes (goes_by l taken (Take took.t ∷ []) took.serves.steps took.serves.server refl refl)) c.in_err-next.ensures.goes

pub loop-preserved : goal.loop-preserved
loop-preserved g c =
    let l = c.loop.self in
    let took = subst (λ b. NextFrom c.args.monitor.now.domain.now l.queue.0 (Ok b) l.served.slot c.next-in-loop.new.slot l.desk c.next-in-loop.new.desk) c.in-Ok-true.field-0-test c.in-Ok-true.ensures in
    let taken = at_desk l c.next-in-loop.new.slot c.next-in-loop.new.desk in
    record {
      goes = goes_trans c.args.self.now taken c.exchange.new.self (goes_trans c.args.self.now l taken c.loop.invariant.goes (goes_by l taken (Take took.t ∷ []) took.serves.steps took.serves.server refl refl)) c.in_ok-next.ensures.goes;
      free = subst (λ e. ExchangedAs c.args.monitor.now.domain.now g.T.Starter.shows e c.exchange.new.self) c.in-Going.is c.in_ok-next.ensures.exchanged;
    }

pub returns-in-Over-clause-goes : goal.returns-in-Over-clause-goes
returns-in-Over-clause-goes g c =
    let l = c.loop.self in
    let took = subst (λ b. NextFrom c.args.monitor.now.domain.now l.queue.0 (Ok b) l.served.slot c.next-in-loop.new.slot l.desk c.next-in-loop.new.desk) c.in-Ok-true.field-0-test c.in-Ok-true.ensures in
    let taken = at_desk l c.next-in-loop.new.slot c.next-in-loop.new.desk in
    goes_trans c.args.self.now taken c.exchange.new.self (goes_trans c.args.self.now l taken c.loop.invariant.goes (goes_by l taken (Take took.t ∷ []) took.serves.steps took.serves.server refl refl)) c.in_ok-next.ensures.goes
