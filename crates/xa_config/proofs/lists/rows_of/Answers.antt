use Rattle.std.proofs.lemmas.Result.{err_from_is_err_and}
use Rattle.xa_config.specs.Meaning.{name_of}
use Rattle.xa_config.proofs.Whole.{rows_read, few_rows}
use Rattle.xa_config.proofs.lists.rows_of.Goals as goal

pub returns-in_err-values-clause-read : goal.returns-in_err-values-clause-read
returns-in_err-values-clause-read g c =
    let p = err_from_is_err_and c.from_residual.result c.from_residual.ensures.1 in
    rw (p.1, p.2) (c.in_err-values.ensures.refused (g.R.Rows.faults c.args.rows.now))

pub returns-clause-read : goal.returns-clause-read
returns-clause-read g c =
    rows_read (g.R.Rows.says c.args.rows.now) name_of _ _ _ _ c.all_rows.result (c.in_ok-values.ensures.left (g.R.Rows.faults c.args.rows.now)) c.in_ok-values.ensures.found
    c.all_rows.ensures

pub returns-clause-few : goal.returns-clause-few
returns-clause-few g c =
    few_rows (g.R.Rows.says c.args.rows.now) name_of _ c.in_ok-values.values.now c.args.most c.all_rows.result c.in_ok-values.ensures.few c.all_rows.ensures
