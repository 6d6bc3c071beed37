use Rattle.std.proofs.Common.{rules, ◌≡◌, List, ℕ, Option, subst}
use Rattle.std.specs.Prelude.{Result, OnOk, OnErr}
use Rattle.xa_link.specs.Told.{Grew, GrewByPart}
use Rattle.xa_frame.specs.Spelling.{spelled}
use Rattle.xa_events.specs.declared.event.StopCause.{StopCause}
use Rattle.xa_pipe.specs.Frames.{answer_frame}
use Rattle.xa_pipe.proofs.pipe.Pipe.answer.Goals as goal

pub returns-clause-took : goal.returns-clause-took
returns-clause-took g c =
    let due : c.deref.result.now ≡ spelled (answer_frame c.args.number c.args.descriptor c.args.answer.now) = search rules in
    let took : OnOk c.write.result (Grew c.args.self.now.took (g.L.Link.shows c.write.new.link).took c.deref.result.now) = search rules in
    subst (λ (octets : List ℕ). OnOk c.write.result (Grew c.args.self.now.took (g.L.Link.shows c.write.new.link).took octets)) due took

pub returns-clause-part : goal.returns-clause-part
returns-clause-part g c =
    let due : c.deref.result.now ≡ spelled (answer_frame c.args.number c.args.descriptor c.args.answer.now) = search rules in
    let before : (g.L.Link.shows c.self.inside.link).took ≡ c.args.self.now.took = search rules in
    λ failed.
    let part = subst (λ (r : Result (Unit {0}) StopCause). OnErr r (GrewByPart (g.L.Link.shows c.self.inside.link).took (g.L.Link.shows c.write.new.link).took c.deref.result.now)) failed c.write.ensures.part in
    subst (λ (octets : List ℕ). GrewByPart c.args.self.now.took (g.L.Link.shows c.write.new.link).took octets) due
    (subst (λ (told : Option (List ℕ)). GrewByPart told (g.L.Link.shows c.write.new.link).took c.deref.result.now) before part)
