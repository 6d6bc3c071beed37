use Rattle.std.proofs.Common.{List, length, ◌∷◌, [], ◌++◌, Err, refl, ap, subst}
use Rattle.xa_frame.specs.declared.frame.Frame.{Frame}
use Rattle.xa_pipe.specs.declared.turn.Turn.TheVariants.{AwaitsInvoke, Serving}
use Rattle.xa_pipe.specs.Life.{Turn, Says, EachReplied, finishes_in}
use Rattle.xa_pipe.specs.Life.Says.{Invoked as SaysInvoked}
use Rattle.xa_pipe.specs.Pipe.{invoke_frame}
use Rattle.xa_pipe.specs.Standing.{LifeState}
use Rattle.xa_pipe.specs.Changes.{Invoked, next_invoke}
use Rattle.xa_pipe.specs.Kept.{standing_of}
use Rattle.xa_pipe.proofs.Replying.{invoked_replied}
use Rattle.xa_pipe.proofs.Courses.{kept_invoked, invokes, unsent_over, in_turn}
use Rattle.xa_pipe.proofs.life.Life.send.Goals as goal

pub invariant_of-result : goal.invariant_of-result
invariant_of-result g c =
    let old = c.self.inside.course in
    let sent = c.in-Ok.ensures in
    let idle = in_turn old c.args.self AwaitsInvoke c.self.view_is c.requires.turn in
    kept_invoked old _ (invoke_frame c.args.service.now c.args.routine.now old.tag c.args.payload.now)
    (SaysInvoked (subst (λ (t : Turn). Says old.name (length (finishes_in old.said)) old.said t) idle c.self.invariant.sound.says))
    (invoked_replied old.said old.asked c.args.service.now c.args.routine.now old.tag c.args.payload.now (subst (λ (t : Turn). EachReplied t old.said old.asked) idle c.self.invariant.sound.replied))
    (ap (λ (asked : List Frame). record old { pipe = c.send-sent.new.self; asked = asked; turn = Serving }) c.note_invoke.ensures) c.self.invariant sent.took sent.gave sent.rest sent.place sent.reads sent.well sent.program

pub end-requires : goal.end-requires
end-requires g c =
    let old = c.self.inside.course in
    let failed = c.in-Err.ensures in
    let idle = in_turn old c.args.self AwaitsInvoke c.self.view_is c.requires.turn in
    let f = invoke_frame c.args.service.now c.args.routine.now old.tag c.args.payload.now in
    rw c.unwritten.ensures
    (unsent_over old _ Serving (old.asked ++ f ∷ []) f c.in-Err.cause (ap (λ (asked : List Frame). record old { pipe = c.send-sent.new.self; asked = asked; turn = Serving }) c.note_invoke.ensures) refl refl
    (SaysInvoked (subst (λ (t : Turn). Says old.name (length (finishes_in old.said)) old.said t) idle c.self.invariant.sound.says))
    (invoked_replied old.said old.asked c.args.service.now c.args.routine.now old.tag c.args.payload.now (subst (λ (t : Turn). EachReplied t old.said old.asked) idle c.self.invariant.sound.replied)) c.self.invariant
    failed.why (λ is. failed.part (ap Err is)) (λ is. failed.starved (ap Err is)) failed.gave failed.rest failed.place failed.reads failed.program)

pub returns-in-Ok-clause-sent : goal.returns-in-Ok-clause-sent
returns-in-Ok-clause-sent g c =
    let old = c.self.inside.course in
    let sent = c.in-Ok.ensures in
    let new = record old { pipe = c.send-sent.new.self; asked = c.note_invoke.new.self; turn = Serving } in
    subst (λ (s : LifeState). Invoked (next_invoke c.args.service.now c.args.routine.now c.args.payload.now s) (standing_of new) s) c.self.view_is
    (invokes old new c.args.service.now c.args.routine.now c.args.payload.now
    (ap (λ (asked : List Frame). record old { pipe = c.send-sent.new.self; asked = asked; turn = Serving }) c.note_invoke.ensures) c.self.invariant sent.took sent.gave sent.reads sent.well sent.program)
