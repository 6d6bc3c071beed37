use Rattle.std.proofs.Common.{ℕ, List, map, refl, arith}
use Rattle.xa_boot.specs.xa_server.Served.{StarterShows}
use Rattle.xa_domain.specs.Leaving.{itself_of, leaving_of}
use Rattle.xa_domain.proofs.Back.{all_servers, all_tokens, all_callers, hands_back}
use Rattle.xa_domain.proofs.handing.hand_back.Goals as goal

pub gather-tokens-requires-clause-all_servers : goal.gather-tokens-requires-clause-all_servers
gather-tokens-requires-clause-all_servers g c =
    let shows : g.row.T.Denot → StarterShows = g.T.Starter.shows in
    all_servers shows c.requires.joined.0 c.args.booted c.requires.joined.1

pub close_homes-requires-clause-tokens : goal.close_homes-requires-clause-tokens
close_homes-requires-clause-tokens g c =
    let shows : g.row.T.Denot → StarterShows = g.T.Starter.shows in
    let joined = c.requires.joined.1 in
    let gathered = c.gather-tokens.ensures c.requires.joined.0 joined.done in
    (itself_of c.args.booted.domain c.args.booted.closer, map leaving_of gathered.desks, all_tokens shows c.requires.joined.0 c.args.booted joined c.gather-tokens.result gathered)

pub close_homes-requires-clause-callers : goal.close_homes-requires-clause-callers
close_homes-requires-clause-callers g c =
    let shows : g.row.T.Denot → StarterShows = g.T.Starter.shows in
    let joined = c.requires.joined.1 in
    all_callers shows c.requires.joined.0 c.args.booted joined c.gather-tokens.result (c.gather-tokens.ensures c.requires.joined.0 joined.done)

pub close_homes-requires-clause-room : goal.close_homes-requires-clause-room
close_homes-requires-clause-room g c =
    let shows : g.row.T.Denot → StarterShows = g.T.Starter.shows in
    let joined = c.requires.joined.1 in
    let count = all_callers shows c.requires.joined.0 c.args.booted joined c.gather-tokens.result (c.gather-tokens.ensures c.requires.joined.0 joined.done) in
    let room = c.requires.room.homes_room.1 in
    (c.requires.room.homes_room.0, omega (arith, count, room))

pub returns : goal.returns
returns g c = λ scripts joined.
    let shows : g.row.T.Denot → StarterShows = g.T.Starter.shows in
    let booted = c.args.booted in
    let gathered = c.gather-tokens.ensures scripts joined.done in
    let gives = c.close_homes.ensures (itself_of booted.domain booted.closer) (map leaving_of gathered.desks) (all_tokens shows scripts booted joined c.gather-tokens.result gathered) in
    hands_back shows scripts booted joined c.gather-tokens.result gathered gives.0 c.close_homes.result.homes gives.1
    (record { halt = c.halt_of.result; homes = c.close_homes.result; lives = c.gather-tokens.result.lives; cut = c.gather-tokens.result.cut; starters = c.gather-tokens.result.starters })
    c.halt_of.ensures refl refl refl refl
