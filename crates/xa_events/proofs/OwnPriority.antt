-- Each row of the board has the priority that the setup gives its service.
use Rattle.std.proofs.Common.{◌≡◌, ℕ, not, List, [], ◌∷◌, Option, Some, None, refl, sym, ap}
use Rattle.std.specs.List.{All, filter}
use Rattle.std.proofs.lemmas.List.Elements.{All-nil, All-cons, All-append, All-filter}
use Rattle.xa_types.specs.declared.setup.Setup.{Setup}
use Rattle.xa_types.specs.declared.setup.ServiceSetup.{ServiceSetup}
use Rattle.xa_types.specs.declared.row.Row.{Row}
use Rattle.xa_types.specs.Rows.{Change, row_with, row_for, rows, is_row_of}
use Rattle.xa_types.specs.Rows.Change.{Put, Remove}
use Rattle.xa_types.specs.Setup.{service_named}

abbrev HasOwn : Setup → Row → Type 0
HasOwn setup row = row.priority ≡ (row_for setup row.service 0 []).priority

its_own : (setup : Setup) (service : List ℕ) (queue : ℕ) (routine : List ℕ) (o : Option ServiceSetup) → service_named setup service ≡ o → HasOwn setup (row_with o service queue routine)
its_own setup service queue routine None is = sym (ap (λ o. (row_with o service 0 []).priority) is)
its_own setup service queue routine (Some configured) is = sym (ap (λ o. (row_with o service 0 []).priority) is)

pub rows_have_own : (setup : Setup) (changes : List Change) → All (λ (row : Row). row.priority ≡ (row_for setup row.service 0 []).priority) (rows setup changes)
rows_have_own setup [] = All-nil (HasOwn setup)
rows_have_own setup (Put service queue routine ∷ earlier) =
    All-append (HasOwn setup) (filter (λ row. not (is_row_of service queue row)) (rows setup earlier)) (row_for setup service queue routine ∷ [])
    (All-filter (λ row. not (is_row_of service queue row)) (HasOwn setup) (rows setup earlier) (rows_have_own setup earlier))
    (All-cons (HasOwn setup) (row_for setup service queue routine) [] (its_own setup service queue routine (service_named setup service) refl) (All-nil (HasOwn setup)))
rows_have_own setup (Remove service queue ∷ earlier) = All-filter (λ row. not (is_row_of service queue row)) (HasOwn setup) (rows setup earlier) (rows_have_own setup earlier)
