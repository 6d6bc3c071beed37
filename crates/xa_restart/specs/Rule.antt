-- By which rule a server is restarted, and when it was started (after Tuxedo, RESTART, MAXGEN and GRACE of UBBCONFIG; that GRACE counts ticks
-- is this project's own).
use Rattle.std.specs.Prelude.{◌≡◌, ℕ, ◌≤◌, Bool, List, [], None, Some}
use Rattle.xa_types.specs.declared.setup.ServerSetup.{ServerSetup}
use Rattle.xa_events.specs.Words.{greatest}
use Rattle.xa_events.specs.Server.{may_start_as}

-- RESTART, MAXGEN and GRACE, and the ticks of all starts, of those that failed too, the newest first
pub record RestartState : Type 0 where
  pub restart : Bool
  pub maxgen : ℕ
  pub grace : ℕ
  pub starts : List ℕ

-- no start was made after that tick
abbrev pub IsLast : ℕ → List ℕ → Type 0
IsLast now starts = greatest 0 starts ≤ now

-- the server is configured with this RESTART, MAXGEN and GRACE
pub record IsRuleOf (server : ServerSetup) (restarts : Bool) (most within : ℕ) : Type 0 where
  pub restart : server.restart ≡ restarts
  pub maxgen : server.maxgen ≡ most
  pub grace : server.grace ≡ within

-- some server that is configured so
abbrev pub server_of : RestartState → ServerSetup
server_of lives = record { name = []; queue = []; program = None; restart = lives.restart; maxgen = lives.maxgen; grace = lives.grace }

-- the server may be started at that tick
abbrev pub may_start_by : RestartState → ℕ → Bool
may_start_by lives now = may_start_as (Some (server_of lives)) lives.starts now
