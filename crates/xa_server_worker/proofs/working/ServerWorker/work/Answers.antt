use Rattle.xa_server_worker.proofs.Lasting.{goes_trans}
use Rattle.xa_server_worker.proofs.Serves.{begins, goes_stopped, served_by}
use Rattle.xa_server_worker.proofs.working.ServerWorker.work.Goals as goal

pub live_all-requires-clause-off : goal.live_all-requires-clause-off
live_all-requires-clause-off g c κs within = begins c.args.self.now c.requires.may

pub returns : goal.returns
returns g c =
    let live = c.live_all.new.self in
    let why = c.err-self.result in
    let goes = goes_trans c.args.self.now (record live { stopped = why }) c.let_go.new.self (goes_stopped c.args.self.now live why c.live_all.ensures.goes) c.let_go.ensures.goes in
    record { served = served_by c.args.self.now c.let_go.new.self c.count_up.new.self goes c.let_go.ensures.ended c.let_go.ensures.hand c.count_up.ensures.rest c.count_up.ensures.counted }
