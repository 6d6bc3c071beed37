use Rattle.std.proofs.Common.{[], inr, refl}
use Rattle.xa_server_worker.proofs.Stepping.{told_steps}
use Rattle.xa_server_worker.proofs.Lasting.{at_desk, in_told, goes_by, goes_trans}
use Rattle.xa_server_worker.proofs.Exchanges.{next_in, falls_idle}
use Rattle.xa_server_worker.proofs.working.ServerWorker.go_on.Goals as goal

pub died-requires-clause-may : goal.died-requires-clause-may
died-requires-clause-may g c =
    let w = c.args.self.now in
    let free = in_told w c.tell_if.new.desk _ _ 0 c.args.life c.tell_if.ensures c.requires.life in
    falls_idle (at_desk w w.served.slot c.tell_if.new.desk) c.args.life c.in-Err.over _ (inr refl) c.in-Err.ensures.over free

pub returns-in_err-died-in-Err-clause-goes : goal.returns-in_err-died-in-Err-clause-goes
returns-in_err-died-in-Err-clause-goes g c =
    let w = c.args.self.now in
    let told = at_desk w w.served.slot c.tell_if.new.desk in
    goes_trans w told c.died.new.self (goes_by w told [] (told_steps c.tell_if.ensures) refl refl refl) c.in_err-died-in-Err.ensures.goes

pub returns-in-Ok-clause-goes : goal.returns-in-Ok-clause-goes
returns-in-Ok-clause-goes g c =
    let w = c.args.self.now in
    goes_by w (at_desk w w.served.slot c.tell_if.new.desk) [] (told_steps c.tell_if.ensures) refl refl refl

pub returns-in-Ok-clause-exchanged : goal.returns-in-Ok-clause-exchanged
returns-in-Ok-clause-exchanged g c =
    let w = c.args.self.now in
    let free = in_told w c.tell_if.new.desk _ _ 0 c.args.life c.tell_if.ensures c.requires.life in
    next_in (at_desk w w.served.slot c.tell_if.new.desk) c.in-Ok.life c.args.life c.in-Ok.ensures.next free

pub returns-in_ok-died-in-Err-clause-goes : goal.returns-in_ok-died-in-Err-clause-goes
returns-in_ok-died-in-Err-clause-goes g c =
    let w = c.args.self.now in
    let told = at_desk w w.served.slot c.tell_if.new.desk in
    goes_trans w told c.died.new.self (goes_by w told [] (told_steps c.tell_if.ensures) refl refl refl) c.in_ok-died-in-Err.ensures.goes
