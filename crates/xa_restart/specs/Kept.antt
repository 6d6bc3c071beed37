-- How the starts of a server are kept. No public contract rests on this file.
use Rattle.std.specs.Prelude.{◌≡◌, ℕ, ◌≤◌, max, map, reverse, vec_capacity, Bool, true, false, List, [], ◌∷◌}
use Rattle.xa_events.specs.Words.{count}
use Rattle.xa_restart.specs.Rule.{RestartState, IsLast}
use Rattle.xa_restart.specs.Within.{is_within}
use Rattle.xa_restart.specs.declared.lives.Lives.TheInside.{Inside}

abbrev pub standing_of : Inside → RestartState
standing_of l = record { restart = l.restart; maxgen = l.maxgen; grace = l.grace; starts = reverse (map (λ pair. pair.0) l.made.items) }

abbrev pub is_nil : List ℕ → Bool
is_nil [] = true
is_nil (x ∷ xs) = false

-- from the last start on, as many of the kept starts lie within GRACE as of all, and one is kept where one was made
pub record Recalls (grace : ℕ) (recent starts : List ℕ) : Type 0 where
  pub same : (now : ℕ) → IsLast now starts → count (is_within grace now) recent ≡ count (is_within grace now) starts
  pub some : is_nil recent ≡ is_nil starts

pub record IsKept (l : Inside) : Type 0 where
  pub recalls : Recalls l.grace l.recent.items (reverse (map (λ pair. pair.0) l.made.items))
  pub room : max 1 l.maxgen ≤ vec_capacity l.recent
