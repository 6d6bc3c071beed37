use Rattle.std.proofs.Common.{[], map, Option, ap, subst}
use Rattle.xa_desk.specs.xa_pipe.Standing.{LifeState}
use Rattle.xa_desk.specs.xa_worker.Work.{theirs}
use Rattle.xa_desk.specs.xa_server.Served.{Tries, Counts}
use Rattle.xa_desk.specs.declared.stopped.Stopped.TheVariants.{Elsewhere}
use Rattle.xa_server_worker.specs.Lives.{HandsOn, IsCut}
use Rattle.xa_server_worker.proofs.Lasting.{none_off, halts_at, in_counted, goes_counted, goes_trans}
use Rattle.xa_server_worker.specs.Working.{cut_in}
use Rattle.xa_server_worker.proofs.Exchanges.{greeted_in, falls_greeting}
use Rattle.xa_server_worker.proofs.Starts.{served_at, starts_in, starts_goes, fails_off, start_halts}
use Rattle.xa_server_worker.proofs.working.ServerWorker.live.Goals as goal

pub returns-then-is_some-clause-halted : goal.returns-then-is_some-clause-halted
returns-then-is_some-clause-halted g c =
    let w = c.args.self.now in
    let at = c.requires.off.off.at in
    halts_at w w.cut [] Elsewhere at (ap (λ (o : Option LifeState). map (λ (life : LifeState). life.generation) (cut_in o)) at.cut) (none_off (HandsOn c.args.monitor.now.domain.now w.queue.0 w.served.slot.server.0 w.desk) w.cut at.cut) (none_off (IsCut w.name w.served.slot.server.0 (theirs w.desk.caller.work)) w.cut at.cut) tt

pub returns-in-Ok-None-clause-off : goal.returns-in-Ok-None-clause-off
returns-in-Ok-None-clause-off g c =
    let w = c.args.self.now in
    let off = c.requires.off.off in
    let served' = c.start-started.new.served in
    let desk' = c.start-started.new.self in
    let s = c.start-started.ensures in
    let fails = subst (λ o. Tries w.name c.args.tick o served'.slot w.served.slot desk'.caller.work w.desk.caller.work) c.in-Ok-None.field-0-is c.in-Ok-None.ensures.tried in
    let rose = subst (λ o. Counts o (g.T.Starter.shows w.served.starter).faults (g.T.Starter.shows served'.starter).faults) c.in-Ok-None.field-0-is c.in-Ok-None.ensures.counted in
    let dead = fails_off w off served' desk' s.leads s.rest.2 (s.serving w.queue.0 off.at.serving) s.same s.rest.1 c.args.tick fails c.in-Ok-None.ensures.asked rose in
    (dead.0, tt, dead.1)

pub returns-in-Err-clause-halted : goal.returns-in-Err-clause-halted
returns-in-Err-clause-halted g c =
    let w = c.args.self.now in
    let off = c.requires.off.off in
    let served' = c.start-started.new.served in
    let desk' = c.start-started.new.self in
    let s = c.start-started.ensures in
    start_halts w off served' desk' s.leads s.rest.2 (s.serving w.queue.0 off.at.serving) s.same s.rest.1 c.in-Err.halt c.in-Err.ensures.kept c.in-Err.ensures.halted

pub serve-requires-clause-free : goal.serve-requires-clause-free
serve-requires-clause-free g c κs within =
    let w = c.args.self.now in
    let off = c.requires.off.off in
    let served' = c.start-started.new.served in
    let desk' = c.start-started.new.self in
    let s = c.start-started.ensures in
    let begins = subst (λ o. Tries w.name c.args.tick o served'.slot w.served.slot desk'.caller.work w.desk.caller.work) c.in-Ok-Some.field-0-is c.in-Ok-Some.ensures.tried in
    let faults = subst (λ o. Counts o (g.T.Starter.shows w.served.starter).faults (g.T.Starter.shows served'.starter).faults) c.in-Ok-Some.field-0-is c.in-Ok-Some.ensures.counted in
    let is = starts_in w off served' desk' s.leads s.rest.2 (s.serving w.queue.0 off.at.serving) s.same s.rest.1 c.args.tick c.in-Ok-Some.life begins c.in-Ok-Some.ensures.asked faults c.in-Ok-Some.ensures.room in
    in_counted (served_at w served' desk') c.count_up.new.self c.count_up.ensures.rest (greeted_in (served_at w served' desk') c.in-Ok.life c.in-Ok-Some.life c.in-Ok.ensures.greeted is)

pub died-requires-clause-may : goal.died-requires-clause-may
died-requires-clause-may g c =
    let w = c.args.self.now in
    let off = c.requires.off.off in
    let served' = c.start-started.new.served in
    let desk' = c.start-started.new.self in
    let s = c.start-started.ensures in
    let begins = subst (λ o. Tries w.name c.args.tick o served'.slot w.served.slot desk'.caller.work w.desk.caller.work) c.in-Ok-Some.field-0-is c.in-Ok-Some.ensures.tried in
    let faults = subst (λ o. Counts o (g.T.Starter.shows w.served.starter).faults (g.T.Starter.shows served'.starter).faults) c.in-Ok-Some.field-0-is c.in-Ok-Some.ensures.counted in
    let is = starts_in w off served' desk' s.leads s.rest.2 (s.serving w.queue.0 off.at.serving) s.same s.rest.1 c.args.tick c.in-Ok-Some.life begins c.in-Ok-Some.ensures.asked faults c.in-Ok-Some.ensures.room in
    falls_greeting (served_at w served' desk') c.in-Ok-Some.life c.in-Err-greet.over c.in-Err-greet.ensures.over is

pub returns-in_err-died-in-Err-greet-clause-goes : goal.returns-in_err-died-in-Err-greet-clause-goes
returns-in_err-died-in-Err-greet-clause-goes g c =
    let w = c.args.self.now in
    let off = c.requires.off.off in
    let served' = c.start-started.new.served in
    let desk' = c.start-started.new.self in
    let s = c.start-started.ensures in
    let begins = subst (λ o. Tries w.name c.args.tick o served'.slot w.served.slot desk'.caller.work w.desk.caller.work) c.in-Ok-Some.field-0-is c.in-Ok-Some.ensures.tried in
    let goes = starts_goes w off served' desk' s.leads s.rest.2 (s.serving w.queue.0 off.at.serving) s.same s.rest.1 c.args.tick c.in-Ok-Some.life begins in
    goes_trans w (served_at w served' desk') c.died.new.self goes c.in_err-died-in-Err-greet.ensures.goes

pub returns-in-Ok-clause-goes : goal.returns-in-Ok-clause-goes
returns-in-Ok-clause-goes g c =
    let w = c.args.self.now in
    let off = c.requires.off.off in
    let served' = c.start-started.new.served in
    let desk' = c.start-started.new.self in
    let s = c.start-started.ensures in
    let begins = subst (λ o. Tries w.name c.args.tick o served'.slot w.served.slot desk'.caller.work w.desk.caller.work) c.in-Ok-Some.field-0-is c.in-Ok-Some.ensures.tried in
    let goes = starts_goes w off served' desk' s.leads s.rest.2 (s.serving w.queue.0 off.at.serving) s.same s.rest.1 c.args.tick c.in-Ok-Some.life begins in
    goes_trans w c.count_up.new.self c.serve.new.self (goes_counted (served_at w served' desk') w c.count_up.new.self c.count_up.ensures.rest goes) c.serve.ensures.goes

pub returns-in_ok-died-in-Err-greet-clause-goes : goal.returns-in_ok-died-in-Err-greet-clause-goes
returns-in_ok-died-in-Err-greet-clause-goes g c =
    let w = c.args.self.now in
    let off = c.requires.off.off in
    let served' = c.start-started.new.served in
    let desk' = c.start-started.new.self in
    let s = c.start-started.ensures in
    let begins = subst (λ o. Tries w.name c.args.tick o served'.slot w.served.slot desk'.caller.work w.desk.caller.work) c.in-Ok-Some.field-0-is c.in-Ok-Some.ensures.tried in
    let goes = starts_goes w off served' desk' s.leads s.rest.2 (s.serving w.queue.0 off.at.serving) s.same s.rest.1 c.args.tick c.in-Ok-Some.life begins in
    goes_trans w (served_at w served' desk') c.died.new.self goes c.in_ok-died-in-Err-greet.ensures.goes
