use Rattle.std.proofs.Common.{◌≡◌, ◌+◌, ◌<◌, [], ◌∷◌, ◌++◌, List, length, map, reverse, refl, sym, ◌∙◌, ap, subst, arith, length-append}
use Rattle.std.specs.Prelude.{slice_get}
use Rattle.std.proofs.lemmas.List.{nil_from_length}
use Rattle.xa_client_worker.specs.xa_types.declared.setup.ServerSetup.{ServerSetup}
use Rattle.xa_client_worker.specs.xa_server.Served.{StarterShows}
use Rattle.xa_server_worker.specs.Lives.{HasStarted}
use Rattle.xa_boot.specs.Booting.{IsNewServer}
use Rattle.xa_boot.specs.Hiring.{AreLeft, AreHired, HasServers}
use Rattle.xa_boot.specs.Supplies.{restarts_of}
use Rattle.xa_boot.proofs.Manned.{none_hired, name_at, lives_at, within, fact_at, hired_more, all_hired}
use Rattle.xa_boot.proofs.hiring.hire_servers.Goals as goal

pub last_of-its-requires : goal.last_of-its-requires
last_of-its-requires g c =
    let count = c.loop-starter.invariant.hired.each_lives in
    let same = ap length c.in-Some.ensures.items in
    let more = length-append c.pop.new.self.items (c.in-Some.starter ∷ []) in
    omega (arith, count, same, more)

pub server_worker-requires : goal.server_worker-requires
server_worker-requires g c =
    let d = c.args.domain.now in
    let shows : g.row.T.Denot → StarterShows = g.T.Starter.shows in
    let all : List g.row.T.Denot = c.args.starters.items in
    let left : List g.row.T.Denot = c.pop.new.self.items in
    let place : length left ≡ c.len-place.result = sym (c.len-place.ensures ∙ c.pop.new.self.ok.0) in
    let was : c.loop-starter.starters.items ≡ left ++ c.in-Some.starter ∷ [] = c.in-Some.ensures.items in
    let same = ap length was in
    let more = length-append left (c.in-Some.starter ∷ []) in
    let hired = c.loop-starter.invariant.hired in
    let number : d.clients + length c.loop-starter.starters.items + 1 ≡ d.clients + c.len-place.result + 2 = omega (arith, same, more, place) in
    record {
      domain = c.requires.domain;
      left = subst (λ n. AreLeft d n c.loop-starter.staff) number c.loop-starter.invariant.left;
      place = subst (λ n. n < length d.setup.servers) place (within d shows all c.requires.named left c.in-Some.starter c.last_of-its.new.items.items c.last_of-its.result c.loop-starter.servers.items c.loop-starter.starters.items c.loop-starter.lives.items was c.last_of-its.ensures hired);
      lives = ap (slice_get (map restarts_of d.setup.servers)) (sym place) ∙ lives_at d shows all c.requires.named left c.in-Some.starter c.last_of-its.new.items.items c.last_of-its.result c.loop-starter.servers.items c.loop-starter.starters.items c.loop-starter.lives.items was c.last_of-its.ensures hired;
      named = ap (slice_get (map (λ (server : ServerSetup). server.name) d.setup.servers)) (sym place) ∙ name_at d shows all c.requires.named left c.in-Some.starter c.last_of-its.new.items.items c.last_of-its.result c.loop-starter.servers.items c.loop-starter.starters.items c.loop-starter.lives.items was c.last_of-its.ensures hired;
      unasked = fact_at d shows all c.requires.named left c.in-Some.starter c.last_of-its.new.items.items c.last_of-its.result c.loop-starter.servers.items c.loop-starter.starters.items c.loop-starter.lives.items was c.last_of-its.ensures hired (λ s. HasStarted (shows s).name 0 0 (shows s)) c.requires.unasked;
    }

pub loop-starter-init : goal.loop-starter-init
loop-starter-init g c =
    let none = ap length c.requires.room.0 in
    let room = c.requires.room.1 in
    record {
      left = c.requires.left;
      own = refl;
      hired = none_hired c.args.domain.now g.T.Starter.shows c.args.starters.items c.requires.named c.args.lives.items c.args.servers.now.items c.requires.lives c.requires.room.0;
      room = omega (arith, none, room);
    }

pub loop-starter-preserved : goal.loop-starter-preserved
loop-starter-preserved g c =
    let d = c.args.domain.now in
    let shows : g.row.T.Denot → StarterShows = g.T.Starter.shows in
    let all : List g.row.T.Denot = c.args.starters.items in
    let left : List g.row.T.Denot = c.pop.new.self.items in
    let place : c.len-place.result ≡ length left = c.len-place.ensures ∙ c.pop.new.self.ok.0 in
    let was : c.loop-starter.starters.items ≡ left ++ c.in-Some.starter ∷ [] = c.in-Some.ensures.items in
    let same = ap length was in
    let more = length-append left (c.in-Some.starter ∷ []) in
    let room = c.loop-starter.invariant.room in
    let worker = c.server_worker.ensures in
    let own : c.server_worker.new.staff.own ≡ c.loop-starter.staff.own = worker.own in
    let items : c.push_reserved.new.self.items ≡ c.loop-starter.servers.items ++ c.server_worker.result ∷ [] = c.push_reserved.ensures.items in
    let now = ap length items in
    let pushed = length-append c.loop-starter.servers.items (c.server_worker.result ∷ []) in
    let capacity = c.push_reserved.ensures.capacity in
    record {
      left = subst (λ n. AreLeft d (d.clients + n + 1) c.server_worker.new.staff) place worker.left;
      own = own ∙ c.loop-starter.invariant.own;
      hired = subst (AreHired d shows all left c.last_of-its.new.items.items) (sym items)
          (hired_more d shows all c.requires.named left c.in-Some.starter c.last_of-its.new.items.items c.last_of-its.result c.loop-starter.servers.items c.loop-starter.starters.items c.loop-starter.lives.items was c.last_of-its.ensures c.loop-starter.invariant.hired
          c.server_worker.result worker.starter (subst (λ n. IsNewServer d shows (n + 1) c.server_worker.result) place worker.worker));
      room = omega (arith, now, pushed, room, same, more, capacity);
    }

pub returns : goal.returns
returns g c =
    let d = c.args.domain.now in
    let shows : g.row.T.Denot → StarterShows = g.T.Starter.shows in
    let none : c.loop-starter.starters.items ≡ [] = nil_from_length c.loop-starter.starters.items (sym c.loop-starter.starters.ok.0 ∙ c.in_default.ensures.cases.0) in
    let empty = ap length none in
    let number : d.clients + length c.loop-starter.starters.items + 1 ≡ d.clients + 1 = omega (arith, empty) in
    let items : c.reverse.new.self.items ≡ reverse c.loop-starter.servers.items = c.reverse.ensures.items in
    record {
      left = subst (λ n. AreLeft d n c.loop-starter.staff) number c.loop-starter.invariant.left;
      own = c.loop-starter.invariant.own;
      servers = subst (HasServers d shows c.args.starters.items) (sym items) (all_hired d shows c.args.starters.items c.loop-starter.starters.items c.loop-starter.lives.items c.loop-starter.servers.items none c.loop-starter.invariant.hired);
    }
