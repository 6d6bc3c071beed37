use Rattle.std.proofs.Common.{◌++◌, ◌+◌, drop, sym, ap, subst, ◌∙◌, List, ℕ}
use Rattle.xa_audit.specs.Record.{line}
use Rattle.xa_audit.specs.Reading.{IsPlain, IsCut, NoLine}
use Rattle.xa_audit.proofs.Lines.{at_feed, plain_front, none_without_feed, none_is}
use Rattle.xa_audit.proofs.reading.cut_line.Goals as goal

pub returns : goal.returns
returns c = record {
  opens = at_feed c.args.octets.now c.in_ok-place.place (sym c.in_ok-place.ensures)
      ∙ ap (λ (text : List ℕ). line text ++ drop (c.in_ok-place.place + 1) c.args.octets.now) (sym c.split_at.ensures.front)
      ∙ ap (λ (rest : List ℕ). line c.split_at.result.0.now ++ rest) (sym c.split_at-2.ensures.back);
  plain = subst IsPlain (sym c.split_at.ensures.front) (plain_front c.args.octets.now c.in_ok-place.place (sym c.in_ok-place.ensures));
}

pub returns-in_err-place : goal.returns-in_err-place
returns-in_err-place c = none_is c.from_residual.result (NoLine c.args.octets.now) (λ x. IsCut c.args.octets.now x.0.now x.1.now) c.from_residual.ensures (none_without_feed c.args.octets.now (sym c.in_err-place.ensures))
