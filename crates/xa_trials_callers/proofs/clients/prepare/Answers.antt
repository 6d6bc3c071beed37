use Rattle.std.proofs.Common.{◌≡◌, ◌≤◌, false, sym, subst, arith}
use Rattle.xa_types.specs.declared.setup.Setup.{Setup}
use Rattle.xa_events.specs.Calls.{is_invalid_call}
use Rattle.xa_caller.specs.Caller.{CallerState}
use Rattle.xa_caller.proofs.Next.{sound_ask}
use Rattle.xa_caller.proofs.Sound.{sound_is_data}
use Rattle.xa_trials_callers.specs.Callers.{Stands}
use Rattle.xa_trials_callers.proofs.Calling.{drafted}
use Rattle.xa_trials_callers.proofs.clients.prepare.Goals as goal

pub returns-in-Ok-prepare : goal.returns-in-Ok-prepare
returns-in-Ok-prepare g c =
    let setup = c.args.setup.now in
    let ask = c.args.ask.now in
    let last = c.args.client.now.last in
    let found = c.in-Some.found in
    let valid = subst (λ (s : Setup). is_invalid_call s ask ≡ false) c.requires.rests.1.configured c.in-Ok.ensures.ok.0 in
    let version = c.in-Some.ensures.version in
    let low : found.version ≤ 256 = omega (arith, version) in
    let s = subst (λ (k : CallerState). Stands setup last k) (sym c.in-Ok.ensures.kept) c.requires.rests.1 in
    drafted setup c.args.cells.now c.next_op-op.result last c.in-Ok.service ask.payload found c.in-Ok-prepare.prepared c.prepare.new.self c.check-checked.new.self
    c.next_op-op.ensures low (sound_ask setup ask valid) (sound_is_data setup ask.payload c.requires.configured (sound_ask setup ask valid)) c.in-Some.ensures.rows c.prepare.ensures.cells.0 s c.in-Ok-prepare.ensures.ok
