use Rattle.std.proofs.Common.{◌<◌, Some, refl, sym, ◌∙◌, ap, subst, arith}
use Rattle.xa_server.specs.xa_types.declared.ids.CallerId.{CallerId}
use Rattle.xa_server.specs.xa_types.declared.stamp.Stamp.{Stamp}
use Rattle.xa_server.specs.xa_lock.Known.{known as page_of}
use Rattle.xa_server.specs.xa_worker.Work.{seeing}
use Rattle.xa_server.specs.xa_caller.Phases.{just_in}
use Rattle.xa_ticks.specs.Visits.{TickedAs}
use Rattle.xa_desk.specs.declared.desk.Desk.{Desk}
use Rattle.xa_desk.proofs.Clocks.{ClockStep, clock_pass, tick_stamp, tick_goes, tick_fits, barred_goes, barred_by, barred_halts}
use Rattle.xa_desk.proofs.desk.Desk.move_clock.Goals as goal

pub tick_at-pass-requires-clause-lock : goal.tick_at-pass-requires-clause-lock
tick_at-pass-requires-clause-lock g c = (clock_pass c.requires.desk c.take_out.ensures.was).lock

pub tick_at-pass-requires-clause-maker : goal.tick_at-pass-requires-clause-maker
tick_at-pass-requires-clause-maker g c = (clock_pass c.requires.desk c.take_out.ensures.was).maker ∙ ap (λ (i : CallerId). i.0) (sym c.id-by.ensures.value)

pub ticked-requires-clause-later : goal.ticked-requires-clause-later
ticked-requires-clause-later g c =
    let v = subst (TickedAs (page_of c.take_out.result) (page_of c.tick_at-pass.result.pass) c.stamp-seen.result c.id-by.result c.args.op c.args.n) c.in-Ok.is c.tick_at-pass.ensures.ticked in
    subst (λ (s : Stamp). s.0 < c.in-Ok.moment.stamp.0) c.stamp-seen.ensures.value (tick_stamp _ _ c.stamp-seen.result c.id-by.result c.args.op c.args.n c.in-Ok.moment v).0

pub ticked-requires-clause-bound : goal.ticked-requires-clause-bound
ticked-requires-clause-bound g c =
    let v = subst (TickedAs (page_of c.take_out.result) (page_of c.tick_at-pass.result.pass) c.stamp-seen.result c.id-by.result c.args.op c.args.n) c.in-Ok.is c.tick_at-pass.ensures.ticked in
    (tick_stamp _ _ c.stamp-seen.result c.id-by.result c.args.op c.args.n c.in-Ok.moment v).1

pub returns-in-Ok-clause-moves : goal.returns-in-Ok-clause-moves
returns-in-Ok-clause-moves g c =
    let d = c.args.domain.now in
    let desk = c.args.self.now in
    let v = subst (TickedAs (page_of c.take_out.result) (page_of c.tick_at-pass.result.pass) c.stamp-seen.result c.id-by.result c.args.op c.args.n) c.in-Ok.is c.tick_at-pass.ensures.ticked in
    let new : Desk = record desk { caller = c.ticked.new.self; clock = Some c.tick_at-pass.result.pass } in
    let step : ClockStep d desk new c.take_out.result c.tick_at-pass.result.pass = record { is = c.requires.desk; was = c.take_out.ensures.was; now = refl; board = refl; queues = refl; lock = c.tick_at-pass.ensures.lock } in
    tick_goes step c.stamp-seen.result c.stamp-seen.ensures.value c.id-by.result c.id-by.ensures.value c.args.op c.args.n c.in-Ok.moment c.tick_at-pass.result.last v c.tick_at-pass.ensures.reached c.ticked.ensures refl

pub returns-in-Ok-clause-made : goal.returns-in-Ok-clause-made
returns-in-Ok-clause-made g c = (c.requires.client, c.in-Ok.moment.stamp, c.ticked.ensures)

pub returns-in-Ok-clause-fits : goal.returns-in-Ok-clause-fits
returns-in-Ok-clause-fits g c =
    let d = c.args.domain.now in
    let desk = c.args.self.now in
    let v = subst (TickedAs (page_of c.take_out.result) (page_of c.tick_at-pass.result.pass) c.stamp-seen.result c.id-by.result c.args.op c.args.n) c.in-Ok.is c.tick_at-pass.ensures.ticked in
    let new : Desk = record desk { caller = c.ticked.new.self; clock = Some c.tick_at-pass.result.pass } in
    let step : ClockStep d desk new c.take_out.result c.tick_at-pass.result.pass = record { is = c.requires.desk; was = c.take_out.ensures.was; now = refl; board = refl; queues = refl; lock = c.tick_at-pass.ensures.lock } in
    tick_fits step c.stamp-seen.result c.stamp-seen.ensures.value c.id-by.result c.id-by.ensures.value c.args.op c.args.n c.in-Ok.moment c.tick_at-pass.result.last v c.tick_at-pass.ensures.reached c.ticked.ensures
    (let turn = c.requires.turn in omega (arith, turn)) (ap just_in c.requires.idle)

pub returns-in-Err-clause-moves : goal.returns-in-Err-clause-moves
returns-in-Err-clause-moves g c =
    let d = c.args.domain.now in
    let desk = c.args.self.now in
    let v = subst (TickedAs (page_of c.take_out.result) (page_of c.tick_at-pass.result.pass) c.stamp-seen.result c.id-by.result c.args.op c.args.n) c.in-Err.is c.tick_at-pass.ensures.ticked in
    let new : Desk = record desk { caller = c.saw.new.self; clock = Some c.tick_at-pass.result.pass } in
    let step : ClockStep d desk new c.take_out.result c.tick_at-pass.result.pass = record { is = c.requires.desk; was = c.take_out.ensures.was; now = refl; board = refl; queues = refl; lock = c.tick_at-pass.ensures.lock } in
    let caller = c.saw.ensures ∙ ap (λ (s : Stamp). record desk.caller { work = seeing s desk.caller.work }) c.seen_at.ensures in
    barred_goes step c.stamp-seen.result c.stamp-seen.ensures.value c.stamp-seen.ensures.bound c.id-by.result c.args.op c.args.n c.in-Err.refused c.tick_at-pass.result.last v c.tick_at-pass.ensures.reached caller refl

pub returns-in-Err-clause-kept : goal.returns-in-Err-clause-kept
returns-in-Err-clause-kept g c = (c.seen_at.result, c.saw.ensures)

pub returns-in-Err-clause-barred : goal.returns-in-Err-clause-barred
returns-in-Err-clause-barred g c =
    let d = c.args.domain.now in
    let desk = c.args.self.now in
    let v = subst (TickedAs (page_of c.take_out.result) (page_of c.tick_at-pass.result.pass) c.stamp-seen.result c.id-by.result c.args.op c.args.n) c.in-Err.is c.tick_at-pass.ensures.ticked in
    let new : Desk = record desk { caller = c.saw.new.self; clock = Some c.tick_at-pass.result.pass } in
    let step : ClockStep d desk new c.take_out.result c.tick_at-pass.result.pass = record { is = c.requires.desk; was = c.take_out.ensures.was; now = refl; board = refl; queues = refl; lock = c.tick_at-pass.ensures.lock } in
    let caller = c.saw.ensures ∙ ap (λ (s : Stamp). record desk.caller { work = seeing s desk.caller.work }) c.seen_at.ensures in
    barred_by step c.stamp-seen.result c.stamp-seen.ensures.value c.stamp-seen.ensures.bound c.id-by.result c.args.op c.args.n c.in-Err.refused c.tick_at-pass.result.last v c.tick_at-pass.ensures.reached caller

pub returns-in-Err-clause-halts : goal.returns-in-Err-clause-halts
returns-in-Err-clause-halts g c =
    let d = c.args.domain.now in
    let desk = c.args.self.now in
    let v = subst (TickedAs (page_of c.take_out.result) (page_of c.tick_at-pass.result.pass) c.stamp-seen.result c.id-by.result c.args.op c.args.n) c.in-Err.is c.tick_at-pass.ensures.ticked in
    let new : Desk = record desk { caller = c.saw.new.self; clock = Some c.tick_at-pass.result.pass } in
    let step : ClockStep d desk new c.take_out.result c.tick_at-pass.result.pass = record { is = c.requires.desk; was = c.take_out.ensures.was; now = refl; board = refl; queues = refl; lock = c.tick_at-pass.ensures.lock } in
    let caller = c.saw.ensures ∙ ap (λ (s : Stamp). record desk.caller { work = seeing s desk.caller.work }) c.seen_at.ensures in
    barred_halts step c.stamp-seen.result c.stamp-seen.ensures.value c.stamp-seen.ensures.bound c.id-by.result c.args.op c.args.n c.in-Err.refused c.tick_at-pass.result.last v c.tick_at-pass.ensures.reached caller
