use Rattle.std.proofs.Common.{◌∙◌, ◌+◌, ℕ, ap, sym}
use Rattle.xa_server_worker.proofs.Lasting.{at_desk, goes_cut}
use Rattle.xa_server_worker.proofs.Calling.{may_call_now, may_be_made, tells_it, starved_dies, wanted, replied_in, unsaid_dies, goes_called, halted_in}
use Rattle.xa_server_worker.proofs.working.ServerWorker.call.Goals as goal

pub perform-performed-requires-clause-active : goal.perform-performed-requires-clause-active
perform-performed-requires-clause-active g c κs within =
    let its = c.requires.calling in
    may_call_now c.args.self.now c.args.op.now its.0 c.args.life its.1 c.id-before.ensures.sound

pub perform-performed-requires-clause-kind : goal.perform-performed-requires-clause-kind
perform-performed-requires-clause-kind g c κs within =
    let its = c.requires.calling in
    may_be_made c.args.self.now c.args.op.now its.0 c.args.life its.1 c.id-before.ensures.sound

pub reply-requires-clause-told : goal.reply-requires-clause-told
reply-requires-clause-told g c =
    let its = c.requires.calling in
    let of = c.in-Ok.ensures in
    tells_it c.args.self.now c.args.op.now its.0 c.args.life its.1 c.id-before.ensures.sound _ (ap (λ (n : ℕ). n + 1) c.op-number.ensures.value) c.perform-performed.new.desk of.goes c.id-behind.ensures.sound of.fresh c.in-Ok.told of.made of.told

pub returns-then-is_want-clause-attended : goal.returns-then-is_want-clause-attended
returns-then-is_want-clause-attended g c =
    let its = c.requires.calling in
    let of = c.in-Err.ensures in
    let turn = ap (λ (n : ℕ). n + 1) c.op-number.ensures.value in
    let quiet = wanted c.args.self.now c.args.op.now its.0 c.args.life its.1 c.id-before.ensures.sound _ turn c.perform-performed.new.desk of.goes c.id-behind.ensures.sound of.fresh c.in-Err.stopped of.stopped of.within (sym c.is_want.ensures ∙ c.if-is_want.true) in
    (its.0, starved_dies c.args.self.now c.args.op.now its.0 c.args.life its.1 c.id-before.ensures.sound _ turn c.perform-performed.new.desk of.goes c.id-behind.ensures.sound of.fresh quiet.0 quiet.1 c.starve.result c.starve.ensures)

pub returns-in-Ok-reply-clause-attended : goal.returns-in-Ok-reply-clause-attended
returns-in-Ok-reply-clause-attended g c =
    let its = c.requires.calling in
    let of = c.in-Ok.ensures in
    let turn = ap (λ (n : ℕ). n + 1) c.op-number.ensures.value in
    let says = tells_it c.args.self.now c.args.op.now its.0 c.args.life its.1 c.id-before.ensures.sound _ turn c.perform-performed.new.desk of.goes c.id-behind.ensures.sound of.fresh c.in-Ok.told of.made of.told in
    (its.0, replied_in c.args.self.now c.args.op.now its.0 c.args.life its.1 c.id-before.ensures.sound _ turn c.perform-performed.new.desk of.goes c.id-behind.ensures.sound of.fresh c.in-Ok.told of.made of.told says.0 says.1 c.in-Ok-reply.life (c.in-Ok-reply.ensures.sent says.0 says.1))

pub returns-in-Err-reply-clause-attended : goal.returns-in-Err-reply-clause-attended
returns-in-Err-reply-clause-attended g c =
    let its = c.requires.calling in
    let of = c.in-Ok.ensures in
    let turn = ap (λ (n : ℕ). n + 1) c.op-number.ensures.value in
    let says = tells_it c.args.self.now c.args.op.now its.0 c.args.life its.1 c.id-before.ensures.sound _ turn c.perform-performed.new.desk of.goes c.id-behind.ensures.sound of.fresh c.in-Ok.told of.made of.told in
    (its.0, unsaid_dies c.args.self.now c.args.op.now its.0 c.args.life its.1 c.id-before.ensures.sound _ turn c.perform-performed.new.desk of.goes c.id-behind.ensures.sound of.fresh c.in-Ok.told of.made of.told says.0 says.1 c.in-Err-reply.over (c.in-Err-reply.ensures.over says.0 says.1))

pub returns-else-is_want-clause-goes : goal.returns-else-is_want-clause-goes
returns-else-is_want-clause-goes g c =
    let its = c.requires.calling in
    let of = c.in-Err.ensures in
    let w = c.args.self.now in
    goes_cut (at_desk w w.served.slot c.perform-performed.new.desk) w c.cut.new.self c.cut.ensures.rest
    (goes_called w c.args.op.now its.0 c.args.life its.1 c.id-before.ensures.sound _ (ap (λ (n : ℕ). n + 1) c.op-number.ensures.value) c.perform-performed.new.desk of.goes c.id-behind.ensures.sound of.fresh)

pub returns-else-is_want-clause-halted : goal.returns-else-is_want-clause-halted
returns-else-is_want-clause-halted g c =
    let its = c.requires.calling in
    let of = c.in-Err.ensures in
    halted_in c.args.self.now c.args.op.now its.0 c.args.life its.1 c.id-before.ensures.sound _ (ap (λ (n : ℕ). n + 1) c.op-number.ensures.value) c.perform-performed.new.desk of.goes c.id-behind.ensures.sound of.fresh c.in-Err.stopped of.stopped of.within c.cut.new.self c.cut.ensures.rest c.cut.ensures.sound
