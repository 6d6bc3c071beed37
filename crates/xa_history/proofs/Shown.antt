-- What the worker of each server shows, beside the merge.
use Rattle.std.proofs.Common.{◌≡◌, ℕ, ◌+◌, ◌<◌, List, reverse, Option, Some, None, sym, ◌∙◌, ap}
use Rattle.std.specs.Prelude.{option_map, IsSomeAnd}
use Rattle.xa_client_worker.specs.xa_types.declared.setup.ServerSetup.{ServerSetup}
use Rattle.xa_client_worker.specs.xa_types.Setup.{numbered, queue_of}
use Rattle.xa_client_worker.specs.xa_events.declared.event.Event.{Event}
use Rattle.xa_client_worker.specs.xa_events.Local.{worker_events}
use Rattle.xa_client_worker.specs.xa_events.State.{caller_of}
use Rattle.xa_client_worker.specs.xa_stamp.Home.{Notes}
use Rattle.xa_client_worker.specs.xa_stamp.Merge.{IsMerged}
use Rattle.xa_client_worker.specs.xa_worker.Work.{WorkState, theirs}
use Rattle.xa_client_worker.specs.xa_desk.declared.domain.Domain.{Domain}
use Rattle.xa_client_worker.specs.xa_desk.declared.desk.Desk.{Desk}
use Rattle.xa_server_worker.specs.Lives.{ServerShows}
use Rattle.xa_history.specs.Joined.{Back}
use Rattle.xa_history.specs.Ended.{ServerEnd, Ends}
use Rattle.xa_history.specs.Served.{server_name_in, name_of}
use Rattle.xa_history.proofs.Listed.{numbered_map}
use Rattle.xa_history.proofs.Numbered.{some_there, numbered_within, each_at}
use Rattle.xa_history.proofs.Own.{server_events}

name_in : (o : Option ServerSetup) (name : List ℕ) → option_map (λ (server : ServerSetup). server.name) o ≡ Some name → name ≡ server_name_in o
name_in None name is = absurd (cc is)
name_in (Some server) name is = cc is

module _ (d : Domain) (b : Back) (domain : WorkState) (desks : List Desk) (servers : List ServerEnd) (homes : List Notes) (Whole : Type 0) (ends : Ends d b domain desks servers homes Whole) (events : List Event) (merged : IsMerged homes events) where
  -- what the worker of a server shows, and that the merge has of it what it noted
  pub record Shown (server : ℕ) (end : ServerEnd) : Type 0 where
    pub desk : Desk
    pub some : 0 < server
    pub there : numbered (d.clients + server) desks ≡ Some desk
    pub shows : ServerShows d end.shown.name (queue_of d.setup server) server desk end.lives end.cut end.shown Whole
    pub named : end.shown.name ≡ name_of d.setup server
    pub own : worker_events d.clients (caller_of d.clients server) (reverse events) ≡ theirs desk.caller.work

  abbrev pub past : List Event
  past = reverse events

  its_name : (server : ℕ) (end : ServerEnd) → numbered server servers ≡ Some end → end.shown.name ≡ name_of d.setup server
  its_name server end is = name_in (numbered server d.setup.servers) end.shown.name
      (sym (numbered_map (λ (server : ServerSetup). server.name) server d.setup.servers)
      ∙ (ap (numbered server) (sym ends.names)
      ∙ (numbered_map (λ (x : ServerEnd). x.shown.name) server servers
      ∙ ap (option_map (λ (x : ServerEnd). x.shown.name)) is)))

  pub shown : (server : ℕ) (end : ServerEnd) → numbered server servers ≡ Some end → Shown server end
  shown server end is =
      let P : ℕ → ServerEnd → Type 0 = λ k x. IsSomeAnd (numbered (d.clients + k) desks) (λ desk. ServerShows d x.shown.name (queue_of d.setup k) k desk x.lives x.cut x.shown Whole) in
      let its = some_there (λ desk. ServerShows d end.shown.name (queue_of d.setup server) server desk end.lives end.cut end.shown Whole) (numbered (d.clients + server) desks) (each_at P server servers end ends.each is) in
      let some = (numbered_within server servers end is).0 in
      record {
        desk = its.0;
        some = some;
        there = its.1;
        shows = its.2;
        named = its_name server end is;
        own = server_events d b domain desks ends.left homes events ends.homes_are merged server its.0 some its.1;
      }
