-- What a program in memory took, and what it says to that.
use Rattle.std.specs.Prelude.{ℕ, ◌≡◌, Bool, true, false, ◌⊎◌, List, [], ◌++◌, Some, None}
use Rattle.std.specs.List.{All}
use Rattle.xa_frame.specs.declared.frame.Frame.{Frame}
use Rattle.xa_frame.specs.Spelling.{all_spelled, HasSpelling}
use Rattle.xa_frame.specs.Stream.{IsPartial}
use Rattle.xa_child.specs.declared.serving.Serving.{Serving}
use Rattle.xa_child.specs.Child.{begun, admits_all, child_run, ended_after}
use Rattle.xa_child.specs.Turns.{SoFar}

-- these octets are frames that the child of that server admits, up to its end or a frame that isn't whole, and it says this to them
pub record Says (name octets said : List ℕ) : Type 0 where
  pub frames : List Frame
  pub rest : List ℕ
  pub spelling : All HasSpelling frames
  pub admitted : admits_all begun frames ≡ true
  pub whole : octets ≡ all_spelled frames ++ rest
  pub upto : (ended_after frames ≡ true) ⊎ IsPartial rest
  pub spoken : said ≡ all_spelled (child_run name frames)

-- while it takes more, no further frame is whole; no public contract rests on this
abbrev pub Holds : List ℕ → Bool → Serving → List ℕ → List ℕ → Type 0
Holds name true serving taken given = SoFar name None None (Some []) (Some taken) (Some []) (Some given) serving
Holds name false serving taken given = Says name taken given
