use Rattle.std.proofs.Common.{◌∙◌, set, length, map, refl, ap, arith}
use Rattle.xa_boot.specs.xa_stamp.Home.{Notes}
use Rattle.xa_domain.proofs.GivenBack.{board_lock, board_count, clock_lock, clock_count, first_silent, queue_passes, seats_now, seats_of, seats_shut, gives_back, in_order, one_longer, all_longer}
use Rattle.xa_domain.proofs.homes.close_homes.Goals as goal

pub close-requires-clause-lock : goal.close-requires-clause-lock
close-requires-clause-lock c = board_lock c.args.domain c.requires.dealt c.requires.tokens.0 c.requires.tokens.1 c.args.tokens c.requires.tokens.2

pub close-requires-clause-all : goal.close-requires-clause-all
close-requires-clause-all c = board_count c.args.domain c.requires.dealt c.requires.tokens.0 c.requires.tokens.1 c.args.tokens c.requires.tokens.2

pub close_queues-requires-clause-each : goal.close_queues-requires-clause-each
close_queues-requires-clause-each c = λ k queue its within. queue_passes c.args.domain c.requires.dealt c.requires.tokens.0 c.requires.tokens.1 c.args.tokens c.requires.tokens.2 k queue its within

pub close_queues-requires-clause-silent : goal.close_queues-requires-clause-silent
close_queues-requires-clause-silent c = first_silent c.args.domain c.requires.dealt c.requires.tokens.0 c.requires.tokens.1 c.args.tokens c.requires.tokens.2 c.index_mut.result.now c.index_mut.ensures.value

pub close-requires-2-clause-table : goal.close-requires-2-clause-table
close-requires-2-clause-table c = seats_of c.args.domain c.requires.dealt c.requires.tokens.0 c.requires.tokens.1 c.args.tokens c.requires.tokens.2 c.close_queues.new.seat c.close_queues.ensures.silent (set c.args.tokens.seats.items 0 c.close_queues.new.seat) refl

pub close-requires-2-clause-shut : goal.close-requires-2-clause-shut
close-requires-2-clause-shut c = seats_shut c.args.domain c.requires.dealt c.requires.tokens.0 c.requires.tokens.1 c.args.tokens c.requires.tokens.2 c.close_queues.new.seat c.close_queues.ensures.silent (set c.args.tokens.seats.items 0 c.close_queues.new.seat) refl

pub close-requires-3-clause-lock : goal.close-requires-3-clause-lock
close-requires-3-clause-lock c = clock_lock c.args.domain c.requires.dealt c.requires.tokens.0 c.requires.tokens.1 c.args.tokens c.requires.tokens.2

pub close-requires-3-clause-all : goal.close-requires-3-clause-all
close-requires-3-clause-all c = clock_count c.args.domain c.requires.dealt c.requires.tokens.0 c.requires.tokens.1 c.args.tokens c.requires.tokens.2

pub push_reserved-requires-2 : goal.push_reserved-requires-2
push_reserved-requires-2 c =
    let none = ap length c.requires.room.0 in
    let board = one_longer c.args.homes.items c.push_reserved.new.self.items c.home.result c.push_reserved.ensures.items in
    let queues = all_longer c.args.domain.queues.items c.args.tokens.queues.items c.push_reserved.new.self c.close_queues.new.homes c.close_queues.ensures.closes in
    omega (arith, none, board, queues, c.push_reserved.ensures.capacity, c.close_queues.ensures.closes.room, c.requires.room.1, c.requires.domain.queues, c.close_queues.new.homes.ok.0)

pub add_callers-requires : goal.add_callers-requires
add_callers-requires c =
    let none = ap length c.requires.room.0 in
    let board = one_longer c.args.homes.items c.push_reserved.new.self.items c.home.result c.push_reserved.ensures.items in
    let queues = all_longer c.args.domain.queues.items c.args.tokens.queues.items c.push_reserved.new.self c.close_queues.new.homes c.close_queues.ensures.closes in
    let clock = one_longer c.close_queues.new.homes.items c.push_reserved-2.new.self.items c.home-2.result c.push_reserved-2.ensures.items in
    omega (arith, none, board, queues, clock, c.push_reserved.ensures.capacity, c.close_queues.ensures.closes.room, c.push_reserved-2.ensures.capacity, c.requires.room.1, c.requires.domain.queues)

pub returns : goal.returns
returns c = λ itself others all.
    let closes = c.close_queues.ensures.closes in
    let seats = set c.args.tokens.seats.items 0 c.close_queues.new.seat in (
      record { board = c.close.result; queues = closes.kepts; clock = c.close-3.result; own = map (λ (notes : Notes). notes.entries) c.args.callers.items; seats = seats },
      gives_back c.args.domain c.requires.dealt itself others c.args.tokens all c.requires.domain c.args.callers.items c.close.result closes.kepts c.close-3.result c.close_queues.new.seat seats closes.count closes.close c.close.ensures.known c.close-3.ensures.known
          c.from_vec.result c.home.ensures.sound c.home.ensures.reads c.close.ensures.makers c.home-2.ensures.reads c.close-3.ensures.makers
          (seats_now c.args.domain c.requires.dealt itself others c.args.tokens all c.close_queues.new.seat c.close_queues.ensures.silent seats refl)
          c.close_queues.ensures.silent c.close-2.ensures.answered c.requires.callers
          (in_order c.args.homes.items c.push_reserved.new.self.items c.close_queues.new.homes.items c.push_reserved-2.new.self.items c.from_vec.result c.args.callers.items c.home.result c.home-2.result c.close.result.board.entries c.close-3.result.entries closes.kepts
          c.requires.room.0 c.push_reserved.ensures.items c.home.ensures.entries closes.homes c.push_reserved-2.ensures.items c.home-2.ensures.entries (c.from_vec.ensures ∙ c.add_callers.ensures)),
    )
