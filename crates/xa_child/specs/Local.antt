-- What the link of a program in memory tells.
use Rattle.std.specs.Prelude.{ℕ, ◌≤◌, List, length, Some}
use Rattle.xa_types.specs.declared.ids.Generation.{Generation}
use Rattle.xa_link.specs.declared.link.Fate.{Fate}
use Rattle.xa_link.specs.Links.{LinkShows}
use Rattle.xa_child.specs.LocalHolds.{Holds}
use Rattle.xa_child.specs.declared.local.LocalLink.TheInside.{Inside}

-- its server's name, its generation, what became of it, the octets that went to it, those that came from it and those that are still to come, and how often a write failed
pub record LocalTold : Type 0 where
  pub name : List ℕ
  pub generation : Generation
  pub fate : Fate
  pub took : List ℕ
  pub gave : List ℕ
  pub left : List ℕ
  pub faults : ℕ

-- what it shows as a link
abbrev pub link_shows : LocalTold → LinkShows
link_shows l = record { took = Some l.took; gave = Some l.gave; left = Some l.left; reads = 0; writes = l.faults; program = record { whose = Some (l.name, l.generation); fate = Some l.fate } }

-- what is true of the fields
pub record IsLocal (l : Inside) : Type 0 where
  pub within : l.at ≤ length l.given.items
  pub holds : Holds l.name l.takes l.serving l.taken.items l.given.items
