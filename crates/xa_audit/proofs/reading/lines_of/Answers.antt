use Rattle.std.proofs.Common.{◌≡◌, ℕ, List, ◌+◌, length, sym, ap, ◌∙◌, arith}
use Rattle.std.specs.Prelude.{◌==◌}
use Rattle.std.proofs.lemmas.Bool.{eqb-true}
use Rattle.std.proofs.lemmas.List.{nil_from_length}
use Rattle.std.proofs.lemmas.Result.{err_from_is_err_and}
use Rattle.xa_audit.specs.Reading.{StopsAtName, StopsAtEvent, StopsAtLine}
use Rattle.xa_audit.proofs.Stops.{stops_at_clients, stops_at_name, stops_at_event, stops_behind, are_lines, tells_so}
use Rattle.xa_audit.proofs.reading.lines_of.Goals as goal

pub returns-in_default-clause-refused : goal.returns-in_default-clause-refused
returns-in_default-clause-refused c = stops_at_clients c.args.octets.now c.in_default.ensures

pub returns-in_err-names-clause-refused : goal.returns-in_err-names-clause-refused
returns-in_err-names-clause-refused c =
    let p = err_from_is_err_and c.from_residual.result c.from_residual.ensures.1 in
    rw (p.1, p.2) (tells_so (StopsAtName c.in-Some.many c.in-Some.rest.now) (StopsAtLine c.args.octets.now) c.in_err-names.field-0.0
    (λ at stops. stops_at_name c.args.octets.now c.in-Some.many c.in-Some.rest.now at c.in-Some.ensures stops) c.in_err-names.ensures.refused)

pub returns-in_err-history-clause-refused : goal.returns-in_err-history-clause-refused
returns-in_err-history-clause-refused c =
    let p = err_from_is_err_and c.from_residual-in_err-history.result c.from_residual-in_err-history.ensures.1 in
    rw (p.1, p.2) (tells_so (StopsAtEvent (c.in-Some.many + 3) c.in_ok-names.rest.now) (StopsAtLine c.args.octets.now) c.in_err-history.field-0.0
    (λ at stops. stops_at_event c.args.octets.now c.in-Some.rest.now c.in_ok-names.rest.now c.in_ok-names.names.items c.in-Some.many at c.in_ok-names.ensures.many c.in-Some.ensures c.in_ok-names.ensures.names stops)
    c.in_err-history.ensures.refused)

pub returns-then-not-is_empty-clause-refused : goal.returns-then-not-is_empty-clause-refused
returns-then-not-is_empty-clause-refused c =
    let len = c.len.ensures in
    let same : c.in-Some.many + 4 + c.len.result ≡ c.in-Some.many + 4 + length c.in_ok-history.history.items = omega arith in
    stops_behind c.args.octets.now c.in-Some.rest.now c.in_ok-names.rest.now c.in_ok-history.rest.now c.in_ok-names.names.items c.in_ok-history.history.items c.in-Some.many (c.in-Some.many + 4 + c.len.result)
    c.in_ok-names.ensures.many c.in-Some.ensures c.in_ok-names.ensures.names c.in_ok-history.ensures.history same
    (λ none. cc (c.if-not-is_empty.ensures ∙ ap (λ (os : List ℕ). length os == 0) none))

pub returns-clause-lines : goal.returns-clause-lines
returns-clause-lines c =
    are_lines c.args.octets.now c.in-Some.rest.now c.in_ok-names.rest.now c.in_ok-history.rest.now c.in_ok-names.names.items c.in_ok-history.history.items c.in-Some.many
    c.in_ok-names.ensures.many c.in-Some.ensures c.in_ok-names.ensures.names c.in_ok-history.ensures.history (nil_from_length c.in_ok-history.rest.now (eqb-true (length c.in_ok-history.rest.now) 0 (sym c.if-not-is_empty.ensures)))
