use Rattle.std.proofs.Common.{[], ◌∷◌, refl, sym, ◌∙◌, ap}
use Rattle.std.proofs.lemmas.List.Elements.{All-nil}
use Rattle.xa_desk.specs.xa_events.declared.event.Event.TheVariants.{End}
use Rattle.xa_desk.specs.xa_server.declared.slot.ServerSlot.{ServerSlot}
use Rattle.xa_desk.specs.xa_pipe.declared.hearing.Finish.TheVariants.{Returns}
use Rattle.xa_desk.specs.xa_pipe.Life.{is_acting}
use Rattle.xa_server_worker.proofs.Behind.{still_calm}
use Rattle.xa_server_worker.proofs.Stepping.{halted_own, halted_steps, halted_at, still_serves}
use Rattle.xa_server_worker.proofs.Keeping.{OfLife}
use Rattle.xa_server_worker.proofs.Lasting.{at_desk, cut_ends, work_on, goes_by, goes_trans}
use Rattle.xa_server_worker.proofs.Exchanges.{finish_becomes, at_still, heard_hands, heard_cut, return_done, returned_in, in_turn, exits_turn, stays_turn}
use Rattle.xa_server_worker.proofs.working.ServerWorker.returned.Goals as goal

pub returns-in-Err-clause-halted : goal.returns-in-Err-clause-halted
returns-in-Err-clause-halted g c =
    let w = c.args.self.now in
    let b = c.requires.finished.1 in
    let is = b.served.busy.is in
    let slot' = c.finish-finished.new.slot in
    let desk' = c.finish-finished.new.self in
    let leads = c.finish-finished.ensures.leads in
    let serving = c.finish-finished.ensures.serving w.queue.0 is.at.serving in
    let kept = c.in-Err.ensures.kept in
    let still = halted_steps 3 c.in-Err.halt leads c.in-Err.ensures.halted in
    let at = work_on w slot' desk' [] b.old (still_serves still serving kept) (All-nil (OfLife w.served.slot.made)) (still_calm w.desk desk' (halted_own w.desk desk' 3 c.in-Err.halt c.in-Err.ensures.halted) c.finish-finished.ensures.rest.1) is.at in
    let server = ap (λ (s : ServerSlot). s.server) kept in
    let becomes = finish_becomes (Returns c.args.back) b.heard (ap is_acting is.turns ∙ b.served.acts) in
    cut_ends (at_desk w slot' desk') c.cut.new.self c.args.life _ (at_still b.old.asked becomes at) c.cut.ensures.rest (heard_hands w c.args.life b.old _ slot' desk' b.heard is still server) (heard_cut w c.args.life b.old _ slot' desk' b.heard is still server c.cut.ensures.sound) (halted_at w.desk desk' 3 c.in-Err.halt c.in-Err.ensures.halted)

pub exit-requires-clause-life : goal.exit-requires-clause-life
exit-requires-clause-life g c =
    let w = c.args.self.now in
    let b = c.requires.finished.1 in
    let is = b.served.busy.is in
    let slot' = c.finish-finished.new.slot in
    let desk' = c.finish-finished.new.self in
    let leads = c.finish-finished.ensures.leads in
    let serving = c.finish-finished.ensures.serving w.queue.0 is.at.serving in
    let unconnected = is.at.serving.stands.tables.worker.unconnected in
    let done = returned_in w c.args.life b.old c.requires.finished.0.request b.turn c.args.back.value c.args.back.code c.args.back.payload _ c.in-Ok.closing slot' desk' b.heard b.served.acts is unconnected leads c.finish-finished.ensures.rest.1 serving c.in-Ok.ensures.ok in
    λ κs within. in_turn (at_desk w slot' desk') (exits_turn c.args.back.value (sym c.is_exit-exits.ensures ∙ c.if-exits.true)) done.0

pub exit-requires-clause-last : goal.exit-requires-clause-last
exit-requires-clause-last g c =
    let w = c.args.self.now in
    let b = c.requires.finished.1 in
    let is = b.served.busy.is in
    let slot' = c.finish-finished.new.slot in
    let desk' = c.finish-finished.new.self in
    let leads = c.finish-finished.ensures.leads in
    let serving = c.finish-finished.ensures.serving w.queue.0 is.at.serving in
    let unconnected = is.at.serving.stands.tables.worker.unconnected in
    let done = returned_in w c.args.life b.old c.requires.finished.0.request b.turn c.args.back.value c.args.back.code c.args.back.payload _ c.in-Ok.closing slot' desk' b.heard b.served.acts is unconnected leads c.finish-finished.ensures.rest.1 serving c.in-Ok.ensures.ok in
    λ κs within. done.1 (sym c.is_exit-exits.ensures ∙ c.if-exits.true)

pub exit-requires-clause-untold : goal.exit-requires-clause-untold
exit-requires-clause-untold g c =
    let w = c.args.self.now in
    let b = c.requires.finished.1 in
    let is = b.served.busy.is in
    let slot' = c.finish-finished.new.slot in
    let desk' = c.finish-finished.new.self in
    let leads = c.finish-finished.ensures.leads in
    let serving = c.finish-finished.ensures.serving w.queue.0 is.at.serving in
    let unconnected = is.at.serving.stands.tables.worker.unconnected in
    let done = returned_in w c.args.life b.old c.requires.finished.0.request b.turn c.args.back.value c.args.back.code c.args.back.payload _ c.in-Ok.closing slot' desk' b.heard b.served.acts is unconnected leads c.finish-finished.ensures.rest.1 serving c.in-Ok.ensures.ok in
    λ κs within. done.2

pub returns-in_err-exit-clause-goes : goal.returns-in_err-exit-clause-goes
returns-in_err-exit-clause-goes g c =
    let w = c.args.self.now in
    let b = c.requires.finished.1 in
    let is = b.served.busy.is in
    let slot' = c.finish-finished.new.slot in
    let desk' = c.finish-finished.new.self in
    let ended = return_done w c.args.back.value c.args.back.code c.args.back.payload _ c.in-Ok.closing slot' desk' c.finish-finished.ensures.leads c.finish-finished.ensures.rest.1 is.at.serving (c.finish-finished.ensures.serving w.queue.0 is.at.serving) c.in-Ok.ensures.ok in
    let goes = goes_by w (at_desk w slot' desk') (End ended.0 ∷ []) ended.1.serves.steps ended.1.serves.server refl refl in
    goes_trans w (at_desk w slot' desk') c.exit.new.self goes c.in_err-exit.ensures.goes

pub returns-then-exits-clause-goes : goal.returns-then-exits-clause-goes
returns-then-exits-clause-goes g c =
    let w = c.args.self.now in
    let b = c.requires.finished.1 in
    let is = b.served.busy.is in
    let slot' = c.finish-finished.new.slot in
    let desk' = c.finish-finished.new.self in
    let ended = return_done w c.args.back.value c.args.back.code c.args.back.payload _ c.in-Ok.closing slot' desk' c.finish-finished.ensures.leads c.finish-finished.ensures.rest.1 is.at.serving (c.finish-finished.ensures.serving w.queue.0 is.at.serving) c.in-Ok.ensures.ok in
    let goes = goes_by w (at_desk w slot' desk') (End ended.0 ∷ []) ended.1.serves.steps ended.1.serves.server refl refl in
    goes_trans w (at_desk w slot' desk') c.exit.new.self goes c.in_ok-exit.ensures.goes

pub go_on-requires-clause-life : goal.go_on-requires-clause-life
go_on-requires-clause-life g c =
    let w = c.args.self.now in
    let b = c.requires.finished.1 in
    let is = b.served.busy.is in
    let slot' = c.finish-finished.new.slot in
    let desk' = c.finish-finished.new.self in
    let leads = c.finish-finished.ensures.leads in
    let serving = c.finish-finished.ensures.serving w.queue.0 is.at.serving in
    let unconnected = is.at.serving.stands.tables.worker.unconnected in
    let done = returned_in w c.args.life b.old c.requires.finished.0.request b.turn c.args.back.value c.args.back.code c.args.back.payload _ c.in-Ok.closing slot' desk' b.heard b.served.acts is unconnected leads c.finish-finished.ensures.rest.1 serving c.in-Ok.ensures.ok in
    λ κs within. in_turn (at_desk w slot' desk') (stays_turn c.args.back.value (sym c.is_exit-exits.ensures ∙ c.if-exits.false)) done.0

pub returns-clause-goes : goal.returns-clause-goes
returns-clause-goes g c =
    let w = c.args.self.now in
    let b = c.requires.finished.1 in
    let is = b.served.busy.is in
    let slot' = c.finish-finished.new.slot in
    let desk' = c.finish-finished.new.self in
    let ended = return_done w c.args.back.value c.args.back.code c.args.back.payload _ c.in-Ok.closing slot' desk' c.finish-finished.ensures.leads c.finish-finished.ensures.rest.1 is.at.serving (c.finish-finished.ensures.serving w.queue.0 is.at.serving) c.in-Ok.ensures.ok in
    let goes = goes_by w (at_desk w slot' desk') (End ended.0 ∷ []) ended.1.serves.steps ended.1.serves.server refl refl in
    goes_trans w (at_desk w slot' desk') c.go_on.new.self goes c.go_on.ensures.goes
