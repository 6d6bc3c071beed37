-- What stands first in some octets: less than a frame, that frame, or no frame (this project's own).
use Rattle.std.specs.Prelude.{ℕ, ◌≡◌, ◌<◌, ◌^◌, ◌==◌, ◌&&◌, ◌||◌, nat_le, Bool, true, List, ◌++◌, length, ◌⊎◌}
use Rattle.xa_frame.specs.declared.frame.Frame.{Frame}
use Rattle.xa_frame.specs.Spelling.{header, spelled, HasSpelling}

-- the kinds of frames with a body, of at most 66,000 octets, and those without
abbrev pub has_body : ℕ → Bool
has_body kind = (kind == 0x01) || ((kind == 0x03) || ((kind == 0x04) || ((kind == 0x05) || ((kind == 0x11) || (kind == 0x12)))))

abbrev pub has_no_body : ℕ → Bool
has_no_body kind = (kind == 0x02) || (kind == 0x13)

-- a header may have that kind with that length
abbrev pub allows : ℕ → ℕ → Bool
allows kind size = (has_body kind && nat_le size 66_000) || (has_no_body kind && (size == 0))

-- a header stands first, and less than the body that it speaks of
pub record LacksBody (octets : List ℕ) (kind size tag : ℕ) (body : List ℕ) : Type 0 where
  pub allowed : allows kind size ≡ true
  pub tag_fits : tag < 2 ^ 32
  pub whole : octets ≡ header kind size tag ++ body
  pub short : length body < size

-- less than a frame: fewer octets than a header has, whatever they are, or a header without its whole body
abbrev pub IsPartial : List ℕ → Type 0
IsPartial octets = (length octets < 12) ⊎ ((kind : ℕ) × (size : ℕ) × (tag : ℕ) × (body : List ℕ) × LacksBody octets kind size tag body)

-- the octets begin with that frame, and then come the others
pub record Begins (octets : List ℕ) (f : Frame) (more : List ℕ) : Type 0 where
  pub spelling : HasSpelling f
  pub whole : octets ≡ spelled f ++ more

-- no frame: neither less than one, nor one that stands first, whatever follows it
pub record IsMalformed (octets : List ℕ) : Type 0 where
  pub not_partial : ¬ IsPartial octets
  pub not_whole : (f : Frame) (more : List ℕ) → Begins octets f more → ⊥
