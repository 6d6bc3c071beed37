use Rattle.std.proofs.Common.{◌+◌, ℕ, length, refl, sym, ◌∙◌, subst, arith}
use Rattle.xa_boot.specs.xa_server.Served.{StarterShows}
use Rattle.xa_boot.specs.xa_desk.Desks.{IsBoardPass, IsQueuePass}
use Rattle.xa_boot.specs.Booting.{IsClockFor, work_of}
use Rattle.xa_domain.specs.declared.gathering.Gathered.{Gathered}
use Rattle.xa_domain.specs.Leaving.{itself_of}
use Rattle.xa_domain.specs.Gathering.{HasServerSpace, IsBeforeClients}
use Rattle.xa_domain.proofs.Adding.{there_some, all_some, less_space, token_space}
use Rattle.xa_domain.proofs.Taking.{nothing_taken, before_servers, gathered, less_workers, room_after, server_room}
use Rattle.xa_domain.proofs.gathering.gather.Goals as goal

pub add-requires : goal.add-requires
add-requires g c =
    let d = c.args.domain.now in
    let is = c.requires.closed.is in
    let room = c.requires.room.tokens_room in
    let workers : ℕ = d.clients + length d.setup.servers + 1 in
    record {
      board = there_some (IsBoardPass d (work_of d c.args.closer)) c.args.closer.board is.board;
      count = is.count ∙ sym room.count;
      there = all_some (IsQueuePass d (work_of d c.args.closer)) (length d.queues.items) c.args.closer.queues.items is.count is.queues;
      clock = there_some (IsClockFor d.clock 0) c.args.closer.clock is.clock;
      space = less_space 1 workers c.args.room.tokens (omega arith) (token_space (length d.queues.items) workers c.args.room.tokens room);
    }

pub add_clients-requires : goal.add_clients-requires
add_clients-requires g c =
    let d = c.args.domain.now in
    let closer = c.args.closer in
    let shows : g.row.T.Denot → StarterShows = g.T.Starter.shows in
    let servers : ℕ = length d.setup.servers in
    let room : Gathered g.row.L.Denot g.row.T.Denot = c.args.room in
    let many = c.requires.all_clients in
    record {
      domain = c.requires.domain;
      may = (itself_of d closer, c.requires.done.0, record { done = c.requires.done.1; taken = nothing_taken d shows (length d.queues.items) d.clients servers closer room c.add.new.self c.requires.room refl c.add.ensures });
      space = less_workers (length c.args.clients.items) (d.clients + servers) (record room { tokens = c.add.new.self }) (omega (arith, many)) (room_after (length d.queues.items) d.clients servers closer.seat closer.board closer.queues.items closer.clock room c.add.new.self c.requires.room c.add.ensures);
    }

pub add_servers-requires : goal.add_servers-requires
add_servers-requires g c =
    let d = c.args.domain.now in
    let closer = c.args.closer in
    let shows : g.row.T.Denot → StarterShows = g.T.Starter.shows in
    let servers : ℕ = length d.setup.servers in
    let queues : ℕ = length d.queues.items in
    let room : Gathered g.row.L.Denot g.row.T.Denot = c.args.room in
    let g0 : Gathered g.row.L.Denot g.row.T.Denot = record room { tokens = c.add.new.self } in
    let g1 : Gathered g.row.L.Denot g.row.T.Denot = c.add_clients.new.all in
    let many = c.requires.all_clients in
    let before : IsBeforeClients d (itself_of d closer) c.requires.done.0 c.args.clients.items g0 = record { done = c.requires.done.1; taken = nothing_taken d shows queues d.clients servers closer room c.add.new.self c.requires.room refl c.add.ensures } in
    let has = c.add_clients.ensures.taken (itself_of d closer) c.requires.done.0 before in
    let space = c.add_clients.ensures.space servers (less_workers (length c.args.clients.items + servers) (d.clients + servers) g0 (omega (arith, many)) (room_after queues d.clients servers closer.seat closer.board closer.queues.items closer.clock room c.add.new.self c.requires.room c.add.ensures)) in
    record {
      domain = c.requires.domain;
      may = (itself_of d closer, has.desks, before_servers d shows queues d.clients servers (itself_of d closer) c.requires.done.0 c.args.clients.items c.args.servers.items room c.add.new.self g1 c.requires.room c.add_clients.ensures.kept many has c.requires.over);
      space = subst (λ n. HasServerSpace n g1) (sym c.requires.all_servers) (server_room queues d.clients servers room c.add.new.self g1 c.requires.room c.add_clients.ensures.kept space);
    }

pub returns : goal.returns
returns g c = λ scripts done.
    let d = c.args.domain.now in
    let closer = c.args.closer in
    let shows : g.row.T.Denot → StarterShows = g.T.Starter.shows in
    let servers : ℕ = length d.setup.servers in
    let queues : ℕ = length d.queues.items in
    let room : Gathered g.row.L.Denot g.row.T.Denot = c.args.room in
    let g0 : Gathered g.row.L.Denot g.row.T.Denot = record room { tokens = c.add.new.self } in
    let g1 : Gathered g.row.L.Denot g.row.T.Denot = c.add_clients.new.all in
    let g2 : Gathered g.row.L.Denot g.row.T.Denot = c.add_servers.new.all in
    let many = c.requires.all_clients in
    let before : IsBeforeClients d (itself_of d closer) scripts c.args.clients.items g0 = record { done = done; taken = nothing_taken d shows queues d.clients servers closer room c.add.new.self c.requires.room refl c.add.ensures } in
    let has = c.add_clients.ensures.taken (itself_of d closer) scripts before in
    let more = c.add_servers.ensures (itself_of d closer) has.desks (before_servers d shows queues d.clients servers (itself_of d closer) scripts c.args.clients.items c.args.servers.items room c.add.new.self g1 c.requires.room c.add_clients.ensures.kept many has c.requires.over) in
    gathered d shows scripts c.args.clients.items c.args.servers.items closer g0 g1 g2 c.with_halt-all.result c.requires.room.going many c.requires.over c.requires.closed has more c.with_halt-all.ensures
