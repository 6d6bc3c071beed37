use Rattle.std.proofs.Common.{ap, ◌∙◌}
use Rattle.std.proofs.lemmas.Result.{err_from_is_err_and}
use Rattle.toml.specs.View.{view}
use Rattle.xa_config.proofs.Reading.{tables_told, domain_told, shapes_told, queues_told, served_told, served_left, setup_read}
use Rattle.xa_config.proofs.configuration.setup_of.Goals as goal

pub returns-in_err-check_tables : goal.returns-in_err-check_tables
returns-in_err-check_tables c =
    let p = err_from_is_err_and c.from_residual.result c.from_residual.ensures.1 in
    rw (p.1, p.2) (tables_told (view c.args.document.now) _ c.in_err-check_tables.ensures)

pub returns-in_err-block_time : goal.returns-in_err-block_time
returns-in_err-block_time c =
    let p = err_from_is_err_and c.from_residual-in_err-block_time.result c.from_residual-in_err-block_time.ensures.1 in
    rw (p.1, p.2) (domain_told (view c.args.document.now) _ c.in_ok-check_tables.ensures c.in_err-block_time.ensures)

pub returns-in_err-shapes : goal.returns-in_err-shapes
returns-in_err-shapes c =
    let p = err_from_is_err_and c.from_residual-in_err-shapes.result c.from_residual-in_err-shapes.ensures.1 in
    rw (p.1, p.2) (shapes_told (view c.args.document.now) _ c.in_ok-check_tables.ensures c.in_ok-block_time.ensures.0 c.in_err-shapes.ensures.read)

pub returns-in_err-queues : goal.returns-in_err-queues
returns-in_err-queues c =
    let p = err_from_is_err_and c.from_residual-in_err-queues.result c.from_residual-in_err-queues.ensures.1 in
    rw (p.1, p.2) (queues_told (view c.args.document.now) _ c.in_ok-check_tables.ensures c.in_ok-block_time.ensures.0 c.in_ok-shapes.ensures.read.0 c.in_err-queues.ensures.read)

pub returns-in_err-servers : goal.returns-in_err-servers
returns-in_err-servers c =
    let shapes = c.in_ok-shapes.ensures.read in
    let queues = c.in_ok-queues.ensures.read in
    let p = err_from_is_err_and c.from_residual-in_err-servers.result c.from_residual-in_err-servers.ensures.1 in
    rw (p.1, p.2)
    (served_told (view c.args.document.now) c.slice.result.now c.slice-2.result.now _ c.in_ok-check_tables.ensures c.in_ok-block_time.ensures.0 shapes.0 queues.0
    (c.slice.ensures ∙ ap (λ both. both.1) queues.1) (c.slice-2.ensures ∙ ap (λ both. both.1) shapes.1) c.in_err-servers.ensures)

pub returns : goal.returns
returns c =
    let d = view c.args.document.now in
    let shapes = c.in_ok-shapes.ensures.read in
    let queues = c.in_ok-queues.ensures.read in
    let served = c.in_ok-servers.ensures in
    let queue_names = c.slice.ensures ∙ ap (λ both. both.1) queues.1 in
    let shape_names = c.slice-2.ensures ∙ ap (λ both. both.1) shapes.1 in (
      served_left d c.slice.result.now c.slice-2.result.now c.in_ok-check_tables.ensures c.in_ok-block_time.ensures.0 shapes.0 queues.0 queue_names shape_names ∙ served.0,
      setup_read d c.in_ok-block_time.block_time c.in_ok-block_time.blocks c.in_ok-shapes.shapes c.in_ok-queues.queues c.in_ok-servers.servers c.in_ok-servers.services c.slice-2.result.now
          (ap (λ both. both.0) c.in_ok-block_time.ensures.1) (ap (λ both. both.1) c.in_ok-block_time.ensures.1)
          (ap (λ both. both.0) shapes.1) (ap (λ both. both.0) queues.1) (ap (λ both. both.0) served.1) (ap (λ both. both.1) served.1) shape_names,
    )
