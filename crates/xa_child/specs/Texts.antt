-- The words of a text (this project's own).
use Rattle.std.specs.Prelude.{ℕ, ◌==◌, Option, List, take}
use Rattle.std.specs.List.{position}

-- the place of a text's first space, if that is among its first 256 octets: a word has at most 255
abbrev pub space_in : List ℕ → Option ℕ
space_in octets = position (λ octet. octet == 0x20) (take 256 octets)
