-- Of a server's worker the merge has what it noted.
use Rattle.std.proofs.Common.{◌≡◌, ℕ, zero, suc, ◌+◌, ◌<◌, List, reverse, Option, Some, sym, ◌∙◌, ap, arith}
use Rattle.std.specs.Prelude.{option_map}
use Rattle.xa_client_worker.specs.xa_types.Setup.{numbered}
use Rattle.xa_client_worker.specs.xa_events.declared.event.Event.{Event}
use Rattle.xa_client_worker.specs.xa_events.Local.{worker_events}
use Rattle.xa_client_worker.specs.xa_events.State.{caller_of}
use Rattle.xa_client_worker.specs.xa_stamp.declared.home.Stamped.{Stamped}
use Rattle.xa_client_worker.specs.xa_stamp.Home.{Notes}
use Rattle.xa_client_worker.specs.xa_stamp.Merge.{IsMerged}
use Rattle.xa_client_worker.specs.xa_worker.Ending.{list_in, workers_of}
use Rattle.xa_client_worker.specs.xa_worker.Seen.{past_in}
use Rattle.xa_client_worker.proofs.xa_worker.Joined.{own_events}
use Rattle.xa_client_worker.specs.xa_worker.Work.{WorkState, theirs}
use Rattle.xa_client_worker.specs.xa_desk.declared.domain.Domain.{Domain}
use Rattle.xa_client_worker.specs.xa_desk.declared.desk.Desk.{Desk}
use Rattle.xa_history.specs.Joined.{Back, AllLeft, kept_of, noted_of}
use Rattle.xa_history.proofs.Crew.{desks_are_crew}
use Rattle.xa_history.proofs.Left.{has_left}
use Rattle.xa_history.proofs.Numbered.{numbered_within}
use Rattle.xa_history.proofs.Recorded.{names, names_are}
use Rattle.xa_history.specs.Served.{HoldAll}

module _ (d : Domain) (b : Back) (domain : WorkState) (desks : List Desk) (left : AllLeft d b domain desks) where
  -- a caller that has a desk is one of the workers, and noted what its desk has
  pub is_worker : (worker : ℕ) (desk : Desk) → numbered worker desks ≡ Some desk → worker < workers_of d.setup d.clients
  is_worker worker desk there = let low = (numbered_within worker desks desk there).1 in let count = left.count in omega (arith, low, count)

  pub its_noted : (worker : ℕ) (desk : Desk) → 0 < worker → numbered worker desks ≡ Some desk → noted_of domain desks worker ≡ desk.caller.work.own
  its_noted zero desk some there = absurd (cc there)
  its_noted (suc k) desk some there = ap (λ (o : Option Desk). list_in (option_map (λ (desk : Desk). desk.caller.work.own) o)) there

  pub its_theirs : (worker : ℕ) (desk : Desk) → numbered worker desks ≡ Some desk → theirs desk.caller.work ≡ worker_events d.clients worker (past_in desk.caller.work.own)
  its_theirs worker desk there =
      ap (λ (n : ℕ). worker_events n desk.caller.work.id.0 (past_in desk.caller.work.own)) (has_left d b domain desks left worker desk there).is.clients
      ∙ ap (λ (n : ℕ). worker_events d.clients n (past_in desk.caller.work.own)) (left.ids worker desk there)

  pub server_events : (homes : List Notes) (events : List Event) → HoldAll d b homes → IsMerged homes events → (server : ℕ) (desk : Desk) → 0 < server → numbered (d.clients + server) desks ≡ Some desk
      → worker_events d.clients (caller_of d.clients server) (reverse events) ≡ theirs desk.caller.work
  server_events homes events are merged server desk some there =
      let worker : ℕ = d.clients + server in
      let behind : 0 < worker = omega (arith, some) in
      own_events d.setup d.clients (workers_of d.setup d.clients) (kept_of b) (noted_of domain desks) (desks_are_crew d b domain desks left) (names d b domain desks left) homes events (names_are d b domain desks left homes are) merged worker behind (is_worker worker desk there)
      ∙ (ap (λ (l : List Stamped). worker_events d.clients worker (past_in l)) (its_noted worker desk behind there) ∙ sym (its_theirs worker desk there))
