-- What the pipes of a life show.
use Rattle.std.specs.Prelude.{◌≡◌, ℕ, List, Option, Some, None, IfSome, option_map}
use Rattle.xa_types.specs.declared.ids.Generation.{Generation}
use Rattle.xa_link.specs.declared.link.Fate.{Fate}
use Rattle.xa_link.specs.declared.link.Fate.TheVariants as fates
use Rattle.xa_link.specs.Told.{Empty}

-- the program at the other end: whose life it is, its server's name and the generation, and what became of it; each where it is told
pub record Program : Type 0 where
  pub whose : Option (List ℕ × Generation)
  pub fate : Option Fate

-- what stands for it where there is none
abbrev pub no_program : Program
no_program = record { whose = None; fate = None }

-- what a read or a write leaves alone of a link: the octets that went the other way, where they are told, how often that failed, and its program
pub record Beside : Type 0 where
  pub octets : Option (List ℕ)
  pub faults : ℕ
  pub program : Program

-- what stands for it where there is no link
abbrev pub nothing_beside : Beside
nothing_beside = record { octets = None; faults = 0; program = no_program }

-- what a source shows: what it still holds and what it gave so far, where it tells them, how often a read failed, and what a read leaves alone
pub record SourceShows : Type 0 where
  pub left : Option (List ℕ)
  pub gave : Option (List ℕ)
  pub faults : ℕ
  pub beside : Beside

-- what a sink shows: what it took so far, where it tells it, how often a write failed, or took nothing of a piece that isn't empty, and what a write
-- leaves alone
pub record SinkShows : Type 0 where
  pub took : Option (List ℕ)
  pub faults : ℕ
  pub beside : Beside

-- what a link shows: what it took, gave and still holds, where it tells that, how often its reads and writes failed, and its program
pub record LinkShows : Type 0 where
  pub took : Option (List ℕ)
  pub gave : Option (List ℕ)
  pub left : Option (List ℕ)
  pub reads : ℕ
  pub writes : ℕ
  pub program : Program

-- the link as a source
abbrev pub as_source : LinkShows → SourceShows
as_source link = record { left = link.left; gave = link.gave; faults = link.reads; beside = record { octets = link.took; faults = link.writes; program = link.program } }

-- the link as a sink
abbrev pub as_sink : LinkShows → SinkShows
as_sink link = record { took = link.took; faults = link.writes; beside = record { octets = link.gave; faults = link.reads; program = link.program } }

-- the link that tells none of its octets
abbrev pub untold_link : ℕ → ℕ → Program → LinkShows
untold_link reads writes program = record { took = None; gave = None; left = None; reads = reads; writes = writes; program = program }

-- what became of the program is that, where it is told
abbrev pub HasFate : Fate → Program → Type 0
HasFate fate program = IfSome program.fate (λ told. told ≡ fate)

-- the same program, of which that became; what isn't told stays so
abbrev pub with_fate : Fate → Program → Program
with_fate fate program = record program { fate = option_map (λ _. fate) program.fate }

-- the link whose program was ended by force
abbrev pub killed : LinkShows → LinkShows
killed link = record link { program = with_fate fates.Killed link.program }

-- the link that was closed, and whose program ended by itself
abbrev pub closed : LinkShows → LinkShows
closed link = record link { program = with_fate fates.Closed link.program }

-- nothing went through the link of that life, nothing failed, and its program runs
pub record IsFresh (name : List ℕ) (generation : Generation) (link : LinkShows) : Type 0 where
  pub took : Empty link.took
  pub gave : Empty link.gave
  pub reads : link.reads ≡ 0
  pub writes : link.writes ≡ 0
  pub whose : link.program.whose ≡ Some (name, generation)
  pub runs : HasFate fates.Running link.program
