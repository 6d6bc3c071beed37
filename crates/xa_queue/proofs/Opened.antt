-- A queue as it is made.
use Rattle.std.proofs.Common.{◌≡◌, ℕ, ◌≤◌, ◌^◌, List, [], true, refl, arith}
use Rattle.std.proofs.lemmas.Bool.{false≢true}
use Rattle.std.proofs.lemmas.List.Elements.{All-nil}
use Rattle.std.proofs.lemmas.Map.Keys.{IsDistinct-from_apart}
use Rattle.xa_types.specs.declared.ids.QueueId.{QueueId}
use Rattle.xa_types.specs.declared.ids.ServerId.{ServerId}
use Rattle.xa_types.specs.declared.stamp.Stamp.{Stamp}
use Rattle.xa_events.specs.Words.{same_request}
use Rattle.xa_events.specs.Queue.{waiting, takes, is_down, is_closed}
use Rattle.xa_events.specs.Request.{priority_at}
use Rattle.xa_queue.specs.declared.entry.Entry.{Entry}
use Rattle.xa_queue.specs.Queue.{IsSound, same_server, has_server}
use Rattle.xa_queue.specs.Reading.{ReadsAsNoted}
use Rattle.xa_queue.specs.Changes.{opened}

module _ {C : Type 0} where
  pub reads-opened : (id : QueueId) (capacity : ℕ) (servers : List ServerId) (first : Stamp) → ReadsAsNoted (opened {C = C} id capacity servers first)
  unfolding waiting takes is_down is_closed
  reads-opened id capacity servers first = record {
    met = λ setup fits. tt;
    reads = λ setup fits new. record {
      view = refl;
      stand = λ clients. tt;
      priorities = All-nil (λ (entry : Entry C). priority_at [] entry.request ≡ entry.priority);
      once = IsDistinct-from_apart same_request [] (λ i j d less below. absurd (omega (arith, below)));
    };
  }

  pub sound-opened : (id : QueueId) (capacity : ℕ) (servers : List ServerId) (first : Stamp) → first.0 ≤ 2 ^ 63 → IsSound (opened {C = C} id capacity servers first)
  unfolding is_closed is_down
  sound-opened id capacity servers first bound = record {
    few = omega arith;
    deserted = λ down. absurd (false≢true down);
    own = All-nil (λ server. has_server server servers ≡ true);
    once = IsDistinct-from_apart same_server [] (λ i j d less below. absurd (omega (arith, below)));
    rises = bound;
    given_up = refl;
    shut = refl;
    fallen = refl;
  }
