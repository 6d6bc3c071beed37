use Rattle.std.proofs.Common.{◌≡◌, ◌++◌, codes, arith, append_assoc, ◌∙◌, ◌<◌, ◌^◌, length}
use Rattle.xa_audit.specs.Record.{line, counted, config_text}
use Rattle.xa_audit.specs.Reading.{NoConfig}
use Rattle.xa_audit.proofs.Lines.{none_is}
use Rattle.xa_audit.proofs.Records.{no_config_counted, no_config_short, no_config_feed}
use Rattle.xa_audit.proofs.reading.config_of.Goals as goal
use Rattle.xa_audit.proofs.reading.config_of.Goals.{then-size-rest-via-then-size-rest, then-size-rest-via-else-size-rest+then-rest-size-ne10}

pub returns-in_err-text : goal.returns-in_err-text
returns-in_err-text c = none_is c.from_residual.result (NoConfig c.args.octets.now) (λ x. c.args.octets.now ≡ config_text x.0.now ++ x.1.now) c.from_residual.ensures (λ config rest stands.
    let first = counted (codes "config") (length config) in
    c.in_err-text.ensures first (line config ++ rest) (stands ∙ append_assoc (line first) (line config) rest))

pub returns-in_err-size : goal.returns-in_err-size
returns-in_err-size c =
    none_is c.from_residual-in_err-size.result (NoConfig c.args.octets.now) (λ x. c.args.octets.now ≡ config_text x.0.now ++ x.1.now) c.from_residual-in_err-size.ensures (no_config_counted c.args.octets.now c.in_ok-text.text.now c.in_ok-text.rest.now (omega arith) c.in_ok-text.ensures c.in_err-size.ensures)

pub returns-then-size-rest : goal.returns-then-size-rest
returns-then-size-rest c =
    let small : length c.args.octets.now < 2 ^ 64 = omega arith in
    let fits : c.in_ok-size.size < 2 ^ 64 = omega arith in
    elim c.then-size-rest.branch [
      | then-size-rest-via-then-size-rest w ↦ no_config_short c.args.octets.now c.in_ok-text.text.now c.in_ok-text.rest.now c.in_ok-size.size small c.in_ok-text.ensures fits c.in_ok-size.ensures (omega arith)
      | then-size-rest-via-else-size-rest+then-rest-size-ne10 w ↦ no_config_feed c.args.octets.now c.in_ok-text.text.now c.in_ok-text.rest.now c.in_ok-size.size small c.in_ok-text.ensures fits c.in_ok-size.ensures w.if-rest-size-ne10.true
    ]
