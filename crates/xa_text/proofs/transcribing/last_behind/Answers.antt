use Rattle.std.proofs.Common.{◌≡◌, ◌-◌, inl, inr, sym, ◌∙◌, eqb-true, arith}
use Rattle.xa_events.specs.Caller.{op_in}
use Rattle.xa_text.proofs.Passing.{last_is, last_kept, numbered_from_1}
use Rattle.xa_text.proofs.transcribing.last_behind.Goals as goal
use Rattle.xa_text.proofs.transcribing.last_behind.Goals.{then-op-last, else-op-last}

pub returns-in-None : goal.returns-in-None
returns-in-None c past is = (λ h. absurd (cc (h, c.in-None.ensures)), is ∙ sym (last_kept c.args.client past c.args.event.now c.in-None.ensures))

pub returns-in-Some : goal.returns-in-Some
returns-in-Some c past is =
    let of : c.in-Some.op ≡ op_in c.args.event.now = c.in-Some.ensures.1 in (
      λ h. elim c.if-op-last.branch [
        | then-op-last w ↦ inl (omega (arith, of, is, w.if-op-last.true))
        | else-op-last w ↦ inr (omega (arith, of, is, numbered_from_1 c.args.client c.args.event.now h, eqb-true (c.in-Some.op - 1) c.args.last (sym w.value-is ∙ c.if-op-last-2.true)))
      ],
      of ∙ sym (last_is c.args.client past c.args.event.now c.in-Some.ensures.0),
    )
