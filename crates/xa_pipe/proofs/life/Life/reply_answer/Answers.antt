use Rattle.std.proofs.Common.{List, ◌∷◌, [], ◌++◌, Err, refl, ap, subst}
use Rattle.xa_types.specs.declared.reply.Reply.TheVariants.{Answered}
use Rattle.xa_frame.specs.declared.frame.Frame.{Frame}
use Rattle.xa_pipe.specs.declared.turn.Turn.TheVariants.{Performing, Serving}
use Rattle.xa_pipe.specs.Frames.{answer_frame}
use Rattle.xa_pipe.specs.Standing.{LifeState, tag_of}
use Rattle.xa_pipe.specs.Changes.{Invoked}
use Rattle.xa_pipe.specs.Kept.{standing_of}
use Rattle.xa_pipe.proofs.Courses.{kept_invoked, replies, unsent_over, in_turn, said_so, replied_so}
use Rattle.xa_pipe.proofs.life.Life.reply_answer.Goals as goal

pub invariant_of-result : goal.invariant_of-result
invariant_of-result g c =
    let old = c.self.inside.course in
    let sent = c.in-Ok.ensures in
    let calls = in_turn old c.args.self Performing c.self.view_is c.requires.turn in
    kept_invoked old _ (answer_frame old.tag c.args.descriptor c.args.answer.now) (said_so old calls c.self.invariant) (replied_so old (Answered c.args.descriptor c.args.answer.now) calls c.self.invariant)
    (ap (λ (asked : List Frame). record old { pipe = c.answer-sent.new.self; asked = asked; turn = Serving }) c.note_answer.ensures) c.self.invariant sent.took sent.gave sent.rest sent.place sent.reads sent.well sent.program

pub end-requires : goal.end-requires
end-requires g c =
    let old = c.self.inside.course in
    let failed = c.in-Err.ensures in
    let f = answer_frame old.tag c.args.descriptor c.args.answer.now in
    let calls = in_turn old c.args.self Performing c.self.view_is c.requires.turn in
    rw c.unwritten.ensures
    (unsent_over old _ Serving (old.asked ++ f ∷ []) f c.in-Err.cause (ap (λ (asked : List Frame). record old { pipe = c.answer-sent.new.self; asked = asked; turn = Serving }) c.note_answer.ensures) refl refl
    (said_so old calls c.self.invariant) (replied_so old (Answered c.args.descriptor c.args.answer.now) calls c.self.invariant) c.self.invariant
    failed.why (λ is. failed.part (ap Err is)) (λ is. failed.starved (ap Err is)) failed.gave failed.rest failed.place failed.reads failed.program)

pub returns-in-Ok-clause-sent : goal.returns-in-Ok-clause-sent
returns-in-Ok-clause-sent g c =
    let old = c.self.inside.course in
    let sent = c.in-Ok.ensures in
    let new = record old { pipe = c.answer-sent.new.self; asked = c.note_answer.new.self; turn = Serving } in
    subst (λ (s : LifeState). Invoked (answer_frame (tag_of s) c.args.descriptor c.args.answer.now) (standing_of new) s) c.self.view_is
    (replies old new (Answered c.args.descriptor c.args.answer.now)
    (ap (λ (asked : List Frame). record old { pipe = c.answer-sent.new.self; asked = asked; turn = Serving }) c.note_answer.ensures) c.self.invariant sent.took sent.gave sent.reads sent.well sent.program)
