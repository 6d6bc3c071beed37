-- The row that a setup gives a service.
use Rattle.std.proofs.Common.{◌≡◌, ℕ, ◌+◌, ◌<◌, List, length, Option, Some, None, refl, sym, ap, subst}
use Rattle.xa_types.specs.declared.row.Row.{Row}
use Rattle.xa_types.specs.declared.setup.ServiceSetup.{ServiceSetup}
use Rattle.xa_types.specs.declared.setup.Setup.{Setup}
use Rattle.xa_types.specs.Rows.{row_with, row_for}
use Rattle.xa_types.specs.Setup.{service_named}
use Rattle.xa_held.specs.Board.{IsPlaced}

-- the row that the setup gives a service, on a queue of the setup
module _ (setup : Setup) (service routine : List ℕ) (queue : ℕ) (some : 0 < queue) (least : queue < length setup.queues + 1) where
  placed_with : (found : Option ServiceSetup) → found ≡ service_named setup service → IsPlaced setup (row_with found service queue routine)
  placed_with None is = record { configured = ap (λ c. row_with c service queue routine) is; some = some; least = least }
  placed_with (Some found) is = record { configured = ap (λ c. row_with c service queue routine) is; some = some; least = least }

  pub is_placed : (row : Row) → row ≡ row_for setup service queue routine → IsPlaced setup row
  is_placed row is = subst (IsPlaced setup) (sym is) (placed_with (service_named setup service) refl)
