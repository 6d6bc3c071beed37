use Rattle.std.proofs.Common.{[], ◌∷◌, refl, ◌∙◌, ap, subst}
use Rattle.std.proofs.lemmas.List.Elements.{All-nil}
use Rattle.xa_server_worker.specs.Passing.{Passes, Keeps}
use Rattle.xa_desk.specs.xa_pipe.declared.hearing.Finish.TheVariants.{Forwards}
use Rattle.xa_desk.specs.xa_pipe.Life.{is_acting}
use Rattle.xa_server_worker.proofs.Behind.{still_calm}
use Rattle.xa_server_worker.proofs.Keeping.{OfLife}
use Rattle.xa_server_worker.proofs.Lasting.{at_desk, cut_ends, work_on, goes_by, goes_trans}
use Rattle.xa_server_worker.proofs.Exchanges.{finish_becomes, at_still, heard_hands, heard_cut, forwarded_in}
use Rattle.xa_server_worker.proofs.working.ServerWorker.forwarded.Goals as goal

pub go_on-requires-clause-life : goal.go_on-requires-clause-life
go_on-requires-clause-life g c =
    let w = c.args.self.now in
    let b = c.requires.finished.1 in
    let is = b.served.busy.is in
    let slot' = c.forward.new.slot in
    let desk' = c.forward.new.desk in
    let passes = subst (λ n. Passes c.args.monitor.now.domain.now n c.args.forwards.service c.args.forwards.payload c.in-Ok.closing w.served.slot slot' w.desk desk') is.at.serving.its c.in-Ok.ensures in
    λ κs within. forwarded_in w c.args.life b.old c.requires.finished.0.request b.turn c.args.forwards c.in-Ok.closing slot' desk' b.heard b.served.acts is passes

pub returns-in-Ok-clause-goes : goal.returns-in-Ok-clause-goes
returns-in-Ok-clause-goes g c =
    let w = c.args.self.now in
    let b = c.requires.finished.1 in
    let is = b.served.busy.is in
    let slot' = c.forward.new.slot in
    let desk' = c.forward.new.desk in
    let serves = c.in-Ok.ensures.done.serves in
    goes_trans w (at_desk w slot' desk') c.go_on.new.self (goes_by w (at_desk w slot' desk') (c.in-Ok.ensures.event ∷ []) serves.steps serves.server refl refl) c.go_on.ensures.goes

pub returns-in-Err-clause-halted : goal.returns-in-Err-clause-halted
returns-in-Err-clause-halted g c =
    let w = c.args.self.now in
    let b = c.requires.finished.1 in
    let is = b.served.busy.is in
    let slot' = c.forward.new.slot in
    let desk' = c.forward.new.desk in
    let keeps = subst (λ n. Keeps c.args.monitor.now.domain.now n c.in-Err.halt w.served.slot slot' w.desk desk') is.at.serving.its c.in-Err.ensures in
    let at = work_on w slot' desk' [] b.old keeps.serves (All-nil (OfLife w.served.slot.made)) (still_calm w.desk desk' keeps.own keeps.seat) is.at in
    let server = keeps.serves.server in
    let becomes = finish_becomes (Forwards c.args.forwards) b.heard (ap is_acting is.turns ∙ b.served.acts) in
    cut_ends (at_desk w slot' desk') c.cut.new.self c.args.life _ (at_still b.old.asked becomes at) c.cut.ensures.rest (heard_hands w c.args.life b.old _ slot' desk' b.heard is keeps.serves.steps server) (heard_cut w c.args.life b.old _ slot' desk' b.heard is keeps.serves.steps server c.cut.ensures.sound) keeps.halts
