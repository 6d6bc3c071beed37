-- What most calls of a queue leave alone.
use Rattle.std.specs.Prelude.{◌≡◌, ℕ}
use Rattle.xa_queue.specs.Queue.{QueueState}

pub record SameServers (old new : QueueState ℕ) : Type 0 where
  pub id : new.id ≡ old.id
  pub servers : new.servers ≡ old.servers
  pub gone : new.gone ≡ old.gone
  pub down : new.down ≡ old.down
  pub closed : new.closed ≡ old.closed
