use Rattle.std.proofs.Common.{List, [], map, subst}
use Rattle.xa_domain.specs.xa_script.declared.script.Client.{Client}
use Rattle.xa_domain.specs.xa_server_worker.Working.{cut_in}
use Rattle.xa_program.specs.Progress.{TellingEnds}
use Rattle.xa_program.proofs.Ending.{served_ends, turns}
use Rattle.xa_program.proofs.top.serve_script.Goals as goal

pub tell-status-requires-clause-turns : goal.tell-status-requires-clause-turns
tell-status-requires-clause-turns g c =
    rw c.slice.ensures (turns g.Y.Start.Starter.shows c.args.setup c.in-Ok.script.clients
    (record { homes = c.serve-halt.result.homes.homes; history = []; lives = map (λ v. v.items) c.serve-halt.result.lives.items; cut = map cut_in c.serve-halt.result.cut.items; starters = c.serve-halt.result.starters.items })
    c.serve-halt.result.halt c.serve-halt.ensures.ends)

pub returns-clause-ends : goal.returns-clause-ends
returns-clause-ends g c =
    served_ends g.Y.Start.Starter.shows c.args.setup c.in-Ok.script.clients
    (record { homes = c.serve-halt.result.homes.homes; history = c.tell-status.result.1.items; lives = map (λ v. v.items) c.serve-halt.result.lives.items; cut = map cut_in c.serve-halt.result.cut.items; starters = c.serve-halt.result.starters.items })
    _ c.args.most c.in-Ok.ensures.script c.in-Ok.ensures.quiet c.args.form.now c.requires.says c.serve-halt.result.halt c.tell-status.result.0 c.serve-halt.ensures.ends
    (subst (λ (clients : List Client). TellingEnds c.serve-halt.result.halt c.serve-halt.result.homes.homes c.args.form.now clients (g.O.Sink.shows c.args.out.now).took (g.O.Sink.shows c.tell-status.new.out).took (g.O.Sink.shows c.args.out.now).faults (g.O.Sink.shows c.tell-status.new.out).faults
    c.tell-status.result.0 c.tell-status.result.1.items) c.slice.ensures c.tell-status.ensures)
