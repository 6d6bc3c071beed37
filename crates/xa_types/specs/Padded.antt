-- How a name is kept: its octets, and zeros behind them.
use Rattle.std.specs.Prelude.{ℕ, ◌≡◌, ◌-◌, List, ◌++◌, length, take, replicate}
use Rattle.std.proofs.Common.{sym, ap, ◌∙◌}
use Rattle.xa_types.specs.declared.name.Name.TheInside.{Inside}
use Rattle.xa_types.specs.Name.{IsName}

pub record IsPadded (n : Inside) : Type 0 where
  pub sized : length (take n.len n.octets) ≡ n.len
  pub padded : n.octets ≡ take n.len n.octets ++ replicate (31 - n.len) 0
  pub named : IsName (take n.len n.octets)

abbrev pub kept : List ℕ → ℕ → Inside
kept octets len = record { octets = octets; len = len }

pub unpadded : (n : Inside) → IsPadded n → kept (take n.len n.octets ++ replicate (31 - length (take n.len n.octets)) 0) (length (take n.len n.octets)) ≡ n
unpadded n h =
    ap (λ len. kept (take n.len n.octets ++ replicate (31 - len) 0) len) h.sized ∙ ap (λ octets. kept octets n.len) (sym h.padded)
