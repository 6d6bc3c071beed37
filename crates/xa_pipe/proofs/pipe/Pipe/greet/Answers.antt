use Rattle.std.proofs.Common.{[], ◌∷◌, inl, inr, refl}
use Rattle.xa_pipe.specs.Frames.{ready_frame}
use Rattle.xa_pipe.specs.Life.{tag_after}
use Rattle.xa_pipe.specs.Life.Says.{Silent, Named}
use Rattle.xa_pipe.specs.declared.turn.Turn.TheVariants.{AwaitsReady, AwaitsNext}
use Rattle.xa_pipe.proofs.Ceasing.{err_is, err_more}
use Rattle.xa_pipe.proofs.pipe.Pipe.greet.Goals as goal

pub returns-in_err-read_ready-clause-why : goal.returns-in_err-read_ready-clause-why
returns-in_err-read_ready-clause-why g c =
    err_is c.from_residual.result _ c.in_err-read_ready.field-0.0 c.from_residual.ensures.1
    (λ read. record { turn = AwaitsReady; frames = []; greets = inl refl; says = Silent; ceases = c.in_err-read_ready.ensures.why (tag_after 0) [] read })

pub returns-clause-why : goal.returns-clause-why
returns-clause-why g c =
    err_more c.read_next.result _ _
    (λ cause why read. record {
      turn = AwaitsNext;
      frames = ready_frame c.args.server.now ∷ [];
      greets = inr refl;
      says = Named c.in_ok-read_ready.ensures.spelling;
      ceases = why c.args.server.now (tag_after 0) (ready_frame c.args.server.now ∷ []) (c.in_ok-read_ready.ensures.read [] read);
    })
    c.read_next.ensures.why
