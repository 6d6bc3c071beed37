use Rattle.std.proofs.Common.{◌≡◌, ℕ, ◌+◌, ◌-◌, ◌^◌, ◌≤◌, min, refl, sym, ◌∙◌, subst, arith}
use Rattle.std.proofs.lemmas.List.Elements.{All-nil}
use Rattle.xa_desk.specs.xa_types.declared.row.Row.{Row}
use Rattle.xa_desk.specs.xa_events.Calls.{IsShutOut}
use Rattle.xa_desk.specs.Found.{SawItsOwnAt}
use Rattle.xa_desk.specs.xa_server.declared.slot.ServerSlot.{ServerSlot}
use Rattle.xa_desk.specs.Passing.{IsPassing}
use Rattle.xa_server_worker.specs.declared.passing.Tried.TheVariants as tries
use Rattle.xa_server_worker.specs.Passing.{its_queue}
use Rattle.xa_server_worker.proofs.Onward.{back_none, back_trans, tried_from}
use Rattle.xa_server_worker.proofs.passing.pass_on.Goals as goal

no_more : (a n : ℕ) → n ≡ min (a + 1) (2 ^ 32 - 1) → n ≤ a + 1
no_more a n is = omega (arith, is)

pub loop-init : goal.loop-init
loop-init g c = record { same = refl; passing = c.requires.passing; back = back_none c.args.desk.now c.requires.desk; payload = refl; by = c.requires.first; tried = All-nil (λ (row : Row). SawItsOwnAt c.args.monitor.now.domain.now row.queue.0 c.args.desk.now (IsShutOut c.args.monitor.now.domain.now.setup row.queue.0)) }

pub try_to_pass-requires-clause-passing : goal.try_to_pass-requires-clause-passing
try_to_pass-requires-clause-passing g c =
    let i = c.loop.invariant in
    subst (λ (s : ServerSlot). IsPassing c.args.monitor.now.domain.now (its_queue c.args.monitor.now.domain.now s) c.loop.entry c.loop.event c.loop.slot c.loop.desk) (sym i.same) i.passing

pub try_to_pass-requires-clause-tried : goal.try_to_pass-requires-clause-tried
try_to_pass-requires-clause-tried g c = let i = c.loop.invariant in (c.loop.attempt, no_more c.loop.attempt c.saturating_add-attempt.result c.saturating_add-attempt.ensures, i.by, i.tried)

pub loop-preserved : goal.loop-preserved
loop-preserved g c =
    let d = c.args.monitor.now.domain.now in
    let i = c.loop.invariant in
    let tried = c.in-Again.ensures i.passing.service i.passing.found in
    record {
      same = tried.1 ∙ i.same;
      passing = subst (λ (s : ServerSlot). IsPassing d (its_queue d s) c.in-Again.next c.in-Again.next_event c.try_to_pass.new.slot c.try_to_pass.new.desk) i.same tried.0;
      back = back_trans i.back tried.2;
      payload = tried.3 ∙ i.payload;
      by = tried.4;
      tried = tried.5;
    }

pub returns-in-Passed : goal.returns-in-Passed
returns-in-Passed g c =
    let d = c.args.monitor.now.domain.now in
    let i = c.loop.invariant in
    λ service has. tried_from d c.args.slot.now c.loop.slot c.try_to_pass.new.slot c.args.desk.now c.loop.desk c.try_to_pass.new.desk i.same i.back service c.args.first.cargo.invocation.payload c.loop.entry.cargo.invocation.payload c.saturating_add-attempt.result (tries.Passed c.in-Passed.closing) i.payload
    (c.in-Passed.ensures service (i.back.found service has))

pub returns-in-Halted : goal.returns-in-Halted
returns-in-Halted g c =
    let d = c.args.monitor.now.domain.now in
    let i = c.loop.invariant in
    λ service has. tried_from d c.args.slot.now c.loop.slot c.try_to_pass.new.slot c.args.desk.now c.loop.desk c.try_to_pass.new.desk i.same i.back service c.args.first.cargo.invocation.payload c.loop.entry.cargo.invocation.payload c.saturating_add-attempt.result (tries.Halted c.in-Halted.halt) i.payload
    (c.in-Halted.ensures service (i.back.found service has))
