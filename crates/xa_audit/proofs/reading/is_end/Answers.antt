use Rattle.std.proofs.Common.{sym, ap, ◌∙◌, eq-eqb, codes, arith}
use Rattle.std.proofs.lemmas.Bool.{eqb-true}
use Rattle.xa_audit.specs.Record.{counted}
use Rattle.xa_audit.proofs.Records.{one_number}
use Rattle.xa_audit.proofs.reading.is_end.Goals as goal

pub returns-in-Some : goal.returns-in-Some
returns-in-Some c = (
  λ t. c.in-Some.ensures ∙ ap (λ n. counted (codes "end") n) (eqb-true c.in-Some.number c.args.many t),
  λ e. eq-eqb c.in-Some.number c.args.many (one_number (codes "end") c.in-Some.number c.args.many (omega arith) (omega arith) (sym c.in-Some.ensures ∙ e)),
)
