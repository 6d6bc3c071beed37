use Rattle.std.proofs.Common.{inl, inr, refl}
use Rattle.xa_server.specs.xa_events.declared.event.Evidence.TheVariants.{Role, Clock}
use Rattle.xa_desk.proofs.Clocks.{clock_alone, clock_trans}
use Rattle.xa_desk.proofs.Refusals.{seen_fits}
use Rattle.xa_desk.proofs.desk.Desk.tick.Goals as goal

pub returns-then-caller-domain-clause-made : goal.returns-then-caller-domain-clause-made
returns-then-caller-domain-clause-made g c = (c.args.self.now.caller, inl refl, Role, c.in_ok-refuse_tick.field-0, c.in_ok-refuse_tick.ensures.refused)

pub returns-in_err-refuse_tick-in-Err-Past-clause-moves : goal.returns-in_err-refuse_tick-in-Err-Past-clause-moves
returns-in_err-refuse_tick-in-Err-Past-clause-moves g c =
    let mid = c.move_clock.new.self in
    let new = c.refuse_tick-in-Err-Past.new.self in
    clock_trans c.args.domain.now c.args.self.now mid new c.in-Err-Past.ensures.moves (clock_alone c.args.domain.now mid new c.refuse_tick-in-Err-Past.ensures.leads c.refuse_tick-in-Err-Past.ensures.rest)

pub returns-in_ok-refuse_tick-in-Err-Past-clause-moves : goal.returns-in_ok-refuse_tick-in-Err-Past-clause-moves
returns-in_ok-refuse_tick-in-Err-Past-clause-moves g c =
    let mid = c.move_clock.new.self in
    let new = c.refuse_tick-in-Err-Past.new.self in
    clock_trans c.args.domain.now c.args.self.now mid new c.in-Err-Past.ensures.moves (clock_alone c.args.domain.now mid new c.refuse_tick-in-Err-Past.ensures.leads c.refuse_tick-in-Err-Past.ensures.rest)

pub returns-in_ok-refuse_tick-in-Err-Past-clause-fits : goal.returns-in_ok-refuse_tick-in-Err-Past-clause-fits
returns-in_ok-refuse_tick-in-Err-Past-clause-fits g c ops is fits =
    let mid = c.move_clock.new.self in
    let kept = c.in-Err-Past.ensures.kept in
    c.refuse_tick-in-Err-Past.ensures.fits ops is (seen_fits c.args.domain.now c.args.self.now mid c.in-Err-Past.ensures.moves.leads kept.0 kept.1 ops fits)

pub returns-in_ok-refuse_tick-in-Err-Past-clause-made : goal.returns-in_ok-refuse_tick-in-Err-Past-clause-made
returns-in_ok-refuse_tick-in-Err-Past-clause-made g c =
    let kept = c.in-Err-Past.ensures.kept in
    (c.move_clock.new.self.caller, inr (kept.0, kept.1), Clock c.in-Err-Past.tick, c.in_ok-refuse_tick-in-Err-Past.field-0, c.in_ok-refuse_tick-in-Err-Past.ensures.refused)
