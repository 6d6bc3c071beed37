use Rattle.std.proofs.Common.{◌≡◌, ◌+◌, List, [], length, refl, sym, ◌∙◌, ap, subst, arith}
use Rattle.std.proofs.lemmas.List.{nil_from_length}
use Rattle.xa_boot.specs.xa_client_worker.declared.working.ClientWorker.{ClientWorker}
use Rattle.xa_domain.specs.declared.gathering.Gathered.{Gathered}
use Rattle.xa_domain.specs.Gathering.{HasWorkerSpace, HasClientsSo}
use Rattle.xa_domain.proofs.Taking.{no_clients, next_may_end, client_may_add, all_clients, clients_more, less_workers, next_room, one_worker_less}
use Rattle.xa_domain.proofs.gathering.add_clients.Goals as goal

pub loop-client-init : goal.loop-client-init
loop-client-init g c =
    let same : c.into_iter-rest.result.rest.items ≡ c.args.clients.items = c.into_iter-rest.ensures.rest in
    record {
      so_far = λ itself scripts before. subst (λ r. HasClientsSo c.args.domain.now itself scripts c.args.clients.items r c.args.all.now c.args.all.now) (sym same) (no_clients c.args.domain.now itself scripts c.args.clients.items c.args.all.now before);
      space = λ more room. subst (λ (r : List ClientWorker). HasWorkerSpace (length r + more) c.args.all.now) (sym same) room;
      kept = record { same_lives = refl; same_cut = refl; same_starters = refl };
    }

pub end-done-requires : goal.end-done-requires
end-done-requires g c =
    let may = c.requires.may in
    record {
      domain = c.requires.domain;
      may = next_may_end c.args.domain.now may.0 may.1 c.args.clients.items c.args.all.now c.loop-client.rest.rest.items c.next.new.self.rest.items c.in-Some.client c.loop-client.all (c.loop-client.invariant.so_far may.0 may.1 may.2) c.in-Some.ensures.items;
    }

pub add-requires : goal.add-requires
add-requires g c =
    let may = c.requires.may in
    let its = client_may_add c.args.domain.now may.0 may.1 c.args.clients.items c.args.all.now c.loop-client.rest.rest.items c.next.new.self.rest.items c.in-Some.client c.end-done.result c.loop-client.all (c.loop-client.invariant.so_far may.0 may.1 may.2) c.in-Some.ensures.items c.end-done.ensures.ends in
    record {
      board = its.0;
      count = its.1;
      there = its.2;
      clock = its.3;
      space = (next_room c.args.clients.items c.loop-client.rest.rest.items c.next.new.self.rest.items c.in-Some.client c.args.all.now c.loop-client.all c.in-Some.ensures.items c.loop-client.invariant.space c.requires.space).tokens_space;
    }

pub push_reserved-requires : goal.push_reserved-requires
push_reserved-requires g c =
    let room = (next_room c.args.clients.items c.loop-client.rest.rest.items c.next.new.self.rest.items c.in-Some.client c.args.all.now c.loop-client.all c.in-Some.ensures.items c.loop-client.invariant.space c.requires.space).callers_space in
    let len = c.loop-client.all.callers.ok.0 in
    omega (arith, room, len)

pub loop-client-preserved : goal.loop-client-preserved
loop-client-preserved g c =
    let rest : List ClientWorker = c.loop-client.rest.rest.items in
    let left : List ClientWorker = c.next.new.self.rest.items in
    let ended = c.end-done.result in
    let some = ap length c.in-Some.ensures.items in
    let now : Gathered g.row.L.Denot g.row.T.Denot = c.loop-client.all in
    let new : Gathered g.row.L.Denot g.row.T.Denot = record now { tokens = c.add.new.self; callers = c.push_reserved.new.self; stopped = c.first_of-all.result } in
    record {
      so_far = λ itself scripts before.
          clients_more c.args.domain.now itself scripts c.args.clients.items c.args.all.now rest left c.in-Some.client ended now new c.home.result (c.loop-client.invariant.so_far itself scripts before) c.in-Some.ensures.items c.end-done.ensures.ends
          c.first_of-all.ensures c.add.ensures c.push_reserved.ensures.items c.home.ensures.entries c.home.ensures.sound;
      space = λ more room.
          one_worker_less (length left + more) (length rest + more) ended.done.left.seat ended.done.board ended.done.queues.items ended.done.clock c.home.result now new (omega (arith, some)) c.add.ensures c.push_reserved.ensures.items c.push_reserved.ensures.capacity
          (c.loop-client.invariant.space more room);
      kept = record { same_lives = c.loop-client.invariant.kept.same_lives; same_cut = c.loop-client.invariant.kept.same_cut; same_starters = c.loop-client.invariant.kept.same_starters };
    }

pub loop-client-smaller : goal.loop-client-smaller
loop-client-smaller g c = omega (arith, ap length c.in-Some.ensures.items)

pub returns : goal.returns
returns g c =
    let rest : List ClientWorker = c.loop-client.rest.rest.items in
    let none : rest ≡ [] = nil_from_length rest (sym c.loop-client.rest.rest.ok.0 ∙ c.in_default.ensures.cases.0) in
    record {
      taken = λ itself scripts before. all_clients c.args.domain.now itself scripts c.args.clients.items c.args.all.now rest c.loop-client.all none (c.loop-client.invariant.so_far itself scripts before);
      space = λ more room. less_workers more (length rest + more) c.loop-client.all (omega arith) (c.loop-client.invariant.space more room);
      kept = c.loop-client.invariant.kept;
    }
