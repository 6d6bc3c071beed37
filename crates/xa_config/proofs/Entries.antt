-- An array at a key of a table.
use Rattle.std.proofs.Common.{◌≡◌, ℕ, List, [], Some, unwrap_or, option_map, sym, ap, subst}
use Rattle.toml.specs.Data.{Data, get}
use Rattle.xa_config.specs.declared.refusal.ConfigRefused.{ConfigRefused}
use Rattle.xa_config.specs.Faults.{dotted}
use Rattle.xa_config.specs.Keys.{array_of, needed_array, optional_array, must_be_there, where_there}
use Rattle.xa_config.specs.Kinds.{list_in}
use Rattle.xa_config.specs.Meaning.{list_at}
use Rattle.xa_config.specs.Document.{TellsFirst}

pub needed_there : (place key : List ℕ) (least most : ℕ) (of : List Data → Data → List ℕ) (entry d : Data) → Some d ≡ get key entry
    → needed_array place key least most of entry ≡ array_of (dotted place key) least most of d
unfolding needed_array
needed_there place key least most of entry d h = ap (must_be_there (dotted place key) (array_of (dotted place key) least most of)) (sym h)

pub optional_there : (place key : List ℕ) (least most : ℕ) (of : List Data → Data → List ℕ) (entry d : Data) → Some d ≡ get key entry
    → optional_array place key least most of entry ≡ array_of (dotted place key) least most of d
unfolding optional_array
optional_there place key least most of entry d h = ap (where_there (array_of (dotted place key) least most of)) (sym h)

pub list_there : (key : List ℕ) (entry d : Data) → Some d ≡ get key entry → list_at key entry ≡ list_in d
unfolding list_at
list_there key entry d h = ap (λ found. unwrap_or (option_map list_in found) []) (sym h)

pub tells_needed : (place key : List ℕ) (least most : ℕ) (of : List Data → Data → List ℕ) (entry d : Data) (refusal : ConfigRefused) → Some d ≡ get key entry
    → TellsFirst (array_of (dotted place key) least most of d) refusal → TellsFirst (needed_array place key least most of entry) refusal
tells_needed place key least most of entry d refusal h told = subst (λ faults. TellsFirst faults refusal) (sym (needed_there place key least most of entry d h)) told

pub tells_optional : (place key : List ℕ) (least most : ℕ) (of : List Data → Data → List ℕ) (entry d : Data) (refusal : ConfigRefused) → Some d ≡ get key entry
    → TellsFirst (array_of (dotted place key) least most of d) refusal → TellsFirst (optional_array place key least most of entry) refusal
tells_optional place key least most of entry d refusal h told = subst (λ faults. TellsFirst faults refusal) (sym (optional_there place key least most of entry d h)) told
