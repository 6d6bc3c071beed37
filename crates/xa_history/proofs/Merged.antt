-- The merge of all homes is a run, whose events are those that workers make.
use Rattle.std.proofs.Common.{List, map, reverse, ap, subst}
use Rattle.std.specs.List.{All}
use Rattle.std.proofs.lemmas.List.Elements.{All-map}
use Rattle.xa_client_worker.specs.xa_events.declared.event.Event.{Event}
use Rattle.xa_client_worker.specs.xa_events.Run.{Run}
use Rattle.xa_client_worker.specs.xa_events.State.{opening}
use Rattle.xa_client_worker.specs.xa_stamp.declared.home.Stamped.{Stamped}
use Rattle.xa_client_worker.specs.xa_stamp.Home.{Notes}
use Rattle.xa_client_worker.specs.xa_stamp.Merge.{IsMerged}
use Rattle.xa_client_worker.specs.xa_lock.Makers.{noted_in}
use Rattle.xa_client_worker.specs.xa_worker.Ending.{workers_of}
use Rattle.xa_client_worker.proofs.xa_worker.Ending.{crew_is_run}
use Rattle.xa_client_worker.proofs.xa_worker.Placed.{merge_of}
use Rattle.xa_client_worker.proofs.xa_worker.Workers.{each_merged}
use Rattle.xa_client_worker.specs.xa_ticks.Clock.{made_in as moves_in}
use Rattle.xa_client_worker.specs.xa_held.Board.{made_in}
use Rattle.xa_client_worker.specs.xa_held.Kept.{Kept}
use Rattle.xa_client_worker.specs.xa_worker.Work.{WorkState}
use Rattle.xa_client_worker.specs.xa_caller.declared.cargo.Filling.{Filling}
use Rattle.xa_client_worker.specs.xa_desk.declared.domain.Domain.{Domain}
use Rattle.xa_client_worker.specs.xa_desk.declared.desk.Desk.{Desk}
use Rattle.xa_client_worker.specs.xa_desk.Made.{IsMade}
use Rattle.xa_history.specs.Joined.{Back, kept_of, noted_of, AllLeft}
use Rattle.xa_history.specs.Served.{HoldAll}
use Rattle.xa_history.proofs.Listed.{all_reversed}
use Rattle.xa_history.proofs.Left.{each_left}
use Rattle.xa_history.proofs.Crew.{desks_are_crew}
use Rattle.xa_history.proofs.Homes.{homes_met}
use Rattle.xa_history.proofs.Recorded.{held, each_held, names, names_are}

pub merged_run : (d : Domain) (b : Back) (domain : WorkState) (desks : List Desk) (homes : List Notes) (events : List Event) → AllLeft d b domain desks → HoldAll d b homes → IsMerged homes events
    → Run (opening d.setup d.clients) events (record { setup = d.setup; clients = d.clients; past = reverse events })
merged_run d b domain desks homes events all hold merged =
    crew_is_run d.setup d.clients (made_in b.board.notes) (moves_in b.clock.entries) (map (λ (kept : Kept Filling). kept.queue.entries) b.queues) b.own (workers_of d.setup d.clients) (noted_of domain desks) homes events (desks_are_crew d b domain desks all) (homes_met d b domain desks all) hold merged

pub merged_made : (d : Domain) (b : Back) (domain : WorkState) (desks : List Desk) (homes : List Notes) (events : List Event) → AllLeft d b domain desks → HoldAll d b homes → IsMerged homes events → All IsMade (reverse events)
merged_made d b domain desks homes events all hold merged =
    let are = names_are d b domain desks all homes hold in
    let m = merge_of d.setup d.clients (names d b domain desks all) (held d b domain desks all) homes (each_held d b domain desks all) events are.once (λ home none. ap noted_in (are.rest home none)) are.are merged in
    let each = each_merged d.setup d.clients (workers_of d.setup d.clients) (kept_of b) (noted_of domain desks) (desks_are_crew d b domain desks all) events _ m (λ (x : Stamped). IsMade x.event) (λ worker low. (each_left d b domain desks all worker low).made) in
    all_reversed IsMade events (subst (All IsMade) m.events (All-map IsMade (λ (x : Stamped). x.event) _ each))
