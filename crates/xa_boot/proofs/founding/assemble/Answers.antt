use Rattle.std.proofs.Common.{refl, sym, ◌∙◌, subst}
use Rattle.xa_client_worker.specs.xa_desk.declared.domain.Domain.{Domain}
use Rattle.xa_boot.specs.declared.staff.Staff.{Staff}
use Rattle.xa_boot.specs.Hiring.{AreLeft}
use Rattle.xa_boot.proofs.Begun.{all_dealt, all_left}
use Rattle.xa_boot.proofs.founding.assemble.Goals as goal

pub returns : goal.returns
returns c =
    let left = c.requires.left in
    let supplies = c.requires.supplies in
    let board = c.requires.board in
    let seats = c.requires.seats in
    let locked = c.requires.locked in
    let d : Domain = record { setup = c.args.setup; shapes = c.args.supplies.shapes; clients = c.args.clients; booted = c.args.board.booted; cells = c.args.cells; board = c.args.board.lock; queues = c.args.locked.queues; clock = c.args.supplies.clock.lock; waits = c.args.supplies.waits; halt = c.new.result } in
    let staff : Staff = record { left = c.args.left; own = c.args.board.own; version = c.args.board.version; seats = c.args.seats; readers = c.args.board.readers; boards = c.args.board.passes; queues = c.args.locked.passes; clocks = c.args.supplies.clock.passes; rooms = c.args.supplies.rooms } in
    record {
      domain = record { configured = c.requires.configured; shapes = supplies.shapes; queues = locked.count };
      setup_is = refl;
      clients_are = refl;
      dealt = record {
        board = board.all ∙ left;
        queues = λ k queue within. all_dealt d c.args.left c.args.locked.passes.items locked.each k queue within ∙ left;
        clock = supplies.clock.all;
        cells = seats.callers ∙ supplies.each_limit;
      };
      left = subst (λ n. AreLeft d n staff) left (all_left d staff c.args.supplies.limits.items board.boot board.booted board.version board.passes board.count board.readers supplies.clock.passes (supplies.clock.count ∙ sym left) (supplies.count ∙ sym left) supplies.rooms locked.count locked.each supplies.limits (supplies.each_limit ∙ sym left) seats);
      lives = supplies.lives;
    }
