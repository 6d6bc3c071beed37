use Rattle.std.proofs.Common.{◌≡◌, ◌+◌, ◌≤◌, List, [], length, sym, ◌∙◌, ap, subst, arith}
use Rattle.std.proofs.lemmas.List.{nil_from_length}
use Rattle.xa_boot.specs.xa_server.Served.{StarterShows}
use Rattle.xa_boot.specs.xa_server_worker.declared.working.ServerWorker.{ServerWorker}
use Rattle.xa_domain.specs.declared.gathering.Gathered.{Gathered}
use Rattle.xa_domain.specs.Gathering.{HasServerSpace, HasServersSo}
use Rattle.xa_domain.proofs.Taking.{no_servers, next_over, server_may_add, all_servers, servers_more, less_workers, one_worker_less, one_less}
use Rattle.xa_domain.proofs.gathering.add_servers.Goals as goal

pub loop-server-init : goal.loop-server-init
loop-server-init g c =
    let shows : g.row.T.Denot → StarterShows = g.T.Starter.shows in
    let same : c.into_iter-rest.result.rest.items ≡ c.args.servers.items = c.into_iter-rest.ensures.rest in
    record {
      so_far = λ itself desks before. subst (λ r. HasServersSo c.args.domain.now shows itself desks c.args.servers.items r c.args.all.now c.args.all.now) (sym same) (no_servers c.args.domain.now shows itself desks c.args.servers.items c.args.all.now before);
      space = subst (λ (r : List (ServerWorker g.row.L.Denot g.row.T.Denot)). HasServerSpace (length r) c.args.all.now) (sym same) c.requires.space;
    }

pub end-requires : goal.end-requires
end-requires g c =
    let shows : g.row.T.Denot → StarterShows = g.T.Starter.shows in
    let may = c.requires.may in
    (next_over c.args.domain.now shows may.0 may.1 c.args.servers.items c.args.all.now may.2 c.loop-server.rest.rest.items c.next.new.self.rest.items c.in-Some.server c.loop-server.all (c.loop-server.invariant.so_far may.0 may.1 may.2) c.in-Some.ensures.items).1.hand

pub abandon-left-requires : goal.abandon-left-requires
abandon-left-requires g c =
    let shows : g.row.T.Denot → StarterShows = g.T.Starter.shows in
    let may = c.requires.may in
    let over = (next_over c.args.domain.now shows may.0 may.1 c.args.servers.items c.args.all.now may.2 c.loop-server.rest.rest.items c.next.new.self.rest.items c.in-Some.server c.loop-server.all (c.loop-server.invariant.so_far may.0 may.1 may.2) c.in-Some.ensures.items).1 in
    record { domain = c.requires.domain; desk = over.is; out = over.out }

pub add-requires : goal.add-requires
add-requires g c =
    let shows : g.row.T.Denot → StarterShows = g.T.Starter.shows in
    let may = c.requires.may in
    let left = c.abandon-left.ensures.left in
    let so_far = c.loop-server.invariant.so_far may.0 may.1 may.2 in
    let its = server_may_add c.args.domain.now shows may.0 may.1 c.args.servers.items c.args.all.now may.2 c.loop-server.rest.rest.items c.abandon-left.result left.0 c.loop-server.all so_far left.1 left.2.desk in
    let some = ap length c.in-Some.ensures.items in
    let one : 1 ≤ length c.loop-server.rest.rest.items = omega (arith, some) in
    record { board = its.0; count = its.1; there = its.2; clock = its.3; space = (less_workers 1 (length c.loop-server.rest.rest.items) c.loop-server.all one c.loop-server.invariant.space.worker_space).tokens_space }

pub push_reserved-requires : goal.push_reserved-requires
push_reserved-requires g c = let some = ap length c.in-Some.ensures.items in let room = c.loop-server.invariant.space.worker_space.callers_space in let len = c.loop-server.all.callers.ok.0 in omega (arith, some, room, len)

pub push_reserved-requires-in-Some : goal.push_reserved-requires-in-Some
push_reserved-requires-in-Some g c = let some = ap length c.in-Some.ensures.items in let room = c.loop-server.invariant.space.lives_space in let len = c.loop-server.all.lives.ok.0 in omega (arith, some, room, len)

pub push_reserved-requires-in-Some-2 : goal.push_reserved-requires-in-Some-2
push_reserved-requires-in-Some-2 g c = let some = ap length c.in-Some.ensures.items in let room = c.loop-server.invariant.space.cut_space in let len = c.loop-server.all.cut.ok.0 in omega (arith, some, room, len)

pub push_reserved-requires-in-Some-3 : goal.push_reserved-requires-in-Some-3
push_reserved-requires-in-Some-3 g c = let some = ap length c.in-Some.ensures.items in let room = c.loop-server.invariant.space.starters_space in let len = c.loop-server.all.starters.ok.0 in omega (arith, some, room, len)

pub loop-server-preserved : goal.loop-server-preserved
loop-server-preserved g c =
    let shows : g.row.T.Denot → StarterShows = g.T.Starter.shows in
    let w : ServerWorker g.row.L.Denot g.row.T.Denot = c.in-Some.server in
    let rest : List (ServerWorker g.row.L.Denot g.row.T.Denot) = c.loop-server.rest.rest.items in
    let left : List (ServerWorker g.row.L.Denot g.row.T.Denot) = c.next.new.self.rest.items in
    let now : Gathered g.row.L.Denot g.row.T.Denot = c.loop-server.all in
    let new : Gathered g.row.L.Denot g.row.T.Denot = record { tokens = c.add.new.self; callers = c.push_reserved.new.self; stopped = c.first_of-all.result; lives = c.push_reserved-in-Some.new.self; cut = c.push_reserved-in-Some-2.new.self; starters = c.push_reserved-in-Some-3.new.self } in
    let some = ap length c.in-Some.ensures.items in
    let one : length rest ≡ length left + 1 = omega (arith, some) in
    let space = c.loop-server.invariant.space in
    let done = c.abandon-left.result in
    let ended = c.abandon-left.ensures.left in
    record {
      so_far = λ itself desks before.
          servers_more c.args.domain.now shows itself desks c.args.servers.items c.args.all.now before rest left w done ended.0 now new c.home.result (c.loop-server.invariant.so_far itself desks before) c.in-Some.ensures.items
          ended.1 (record { leads = ended.2; work = ended.3; phase = ended.6; fills = ended.5 }) c.first_of-all.ensures c.add.ensures c.push_reserved.ensures.items c.home.ensures.entries c.home.ensures.sound
          c.push_reserved-in-Some.ensures.items c.push_reserved-in-Some-2.ensures.items c.push_reserved-in-Some-3.ensures.items;
      space = record {
        worker_space = one_worker_less (length left) (length rest) done.left.seat done.board done.queues.items done.clock c.home.result now new one c.add.ensures c.push_reserved.ensures.items c.push_reserved.ensures.capacity space.worker_space;
        lives_space = one_less (length left) (length rest) w.served.lives now.lives new.lives one c.push_reserved-in-Some.ensures.items c.push_reserved-in-Some.ensures.capacity space.lives_space;
        cut_space = one_less (length left) (length rest) w.cut now.cut new.cut one c.push_reserved-in-Some-2.ensures.items c.push_reserved-in-Some-2.ensures.capacity space.cut_space;
        starters_space = one_less (length left) (length rest) w.served.starter now.starters new.starters one c.push_reserved-in-Some-3.ensures.items c.push_reserved-in-Some-3.ensures.capacity space.starters_space;
      };
    }

pub loop-server-smaller : goal.loop-server-smaller
loop-server-smaller g c = omega (arith, ap length c.in-Some.ensures.items)

pub returns : goal.returns
returns g c = λ itself desks before.
    let shows : g.row.T.Denot → StarterShows = g.T.Starter.shows in
    let rest : List (ServerWorker g.row.L.Denot g.row.T.Denot) = c.loop-server.rest.rest.items in
    let none : rest ≡ [] = nil_from_length rest (sym c.loop-server.rest.rest.ok.0 ∙ c.in_default.ensures.cases.0) in
    all_servers c.args.domain.now shows itself desks c.args.servers.items c.args.all.now before rest c.loop-server.all none (c.loop-server.invariant.so_far itself desks before)
