-- Room for what a domain leaves (this project's own).
use Rattle.std.specs.Prelude.{◌≡◌, ℕ, ◌+◌, ◌≤◌, [], length, None, vec_capacity}
use Rattle.std.specs.List.{All}
use Rattle.std.specs.declared.vec.Vec.{Vec}
use Rattle.std.specs.declared.alloc.Global.{Global}
use Rattle.xa_domain.specs.declared.tokens.Tokens.{Tokens}
use Rattle.xa_domain.specs.declared.room.Room.{Room}
use Rattle.xa_domain.specs.declared.gathering.Gathered.{Gathered}

abbrev pub IsEmptyFor : {X : Type 0} → ℕ → Vec X Global → Type 0
IsEmptyFor n v = (v.items ≡ []) × (n ≤ vec_capacity v)

-- there is none yet, and room for those of so many workers, and so many queues
pub record AreNoTokens (queues workers : ℕ) (t : Tokens) : Type 0 where
  pub seats_room : IsEmptyFor workers t.seats
  pub boards_room : IsEmptyFor workers t.boards
  pub count : length t.queues.items ≡ queues
  pub queues_room : All (IsEmptyFor workers) t.queues.items
  pub clocks_room : IsEmptyFor workers t.clocks

-- there is room for what so many queues, clients and servers leave
pub record HasRoom {L T : Type 0} (queues clients servers : ℕ) (r : Room L T) : Type 0 where
  pub tokens_room : AreNoTokens queues (clients + servers + 1) r.tokens
  pub homes_room : IsEmptyFor (queues + clients + servers + 2) r.homes
  pub callers_room : IsEmptyFor (clients + servers) r.callers
  pub lives_room : IsEmptyFor servers r.lives
  pub cut_room : IsEmptyFor servers r.cut
  pub starters_room : IsEmptyFor servers r.starters

-- nothing was taken from so many queues' passes, clients and servers yet, and there is room for it
pub record IsNothing {L T : Type 0} (queues clients servers : ℕ) (g : Gathered L T) : Type 0 where
  pub tokens_room : AreNoTokens queues (clients + servers + 1) g.tokens
  pub callers_room : IsEmptyFor (clients + servers) g.callers
  pub going : g.stopped ≡ None
  pub lives_room : IsEmptyFor servers g.lives
  pub cut_room : IsEmptyFor servers g.cut
  pub starters_room : IsEmptyFor servers g.starters
