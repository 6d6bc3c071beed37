-- Which faults a refusal tells first.
use Rattle.std.proofs.Common.{◌≡◌, ℕ, List, [], ◌∷◌, ◌++◌, map, Some, sym, ap, ◌∙◌, subst}
use Rattle.xa_config.specs.declared.refusal.ConfigRefused.{ConfigRefused}
use Rattle.xa_config.specs.declared.refusal.ConfigRefused.TheVariants.{Fault as Told, NoMemory}
use Rattle.xa_config.specs.Faults.{Fault, fault, at_key}
use Rattle.xa_config.specs.Document.{first, TellsFirst}

-- of the faults at a key the first is that of the first number
pub tells_at : (key numbers : List ℕ) (number : ℕ) (refusal : ConfigRefused)
    → first numbers ≡ Some number → TellsFirst (fault key number ∷ []) refusal → TellsFirst (at_key key numbers) refusal
tells_at key [] number refusal some told = absurd cc
tells_at key (n ∷ numbers) number (Told m k) some told =
    let same : n ≡ number = cc in
    ap (λ x. Some (fault key x)) same ∙ told
tells_at key (n ∷ numbers) number NoMemory some told = tt

-- a refusal tells the first of some faults, and so of those with others behind
pub tells_front : (faults more : List Fault) (refusal : ConfigRefused) → TellsFirst faults refusal → TellsFirst (faults ++ more) refusal
tells_front [] more (Told m k) told = absurd cc
tells_front (f ∷ faults) more (Told m k) told = told
tells_front faults more NoMemory told = tt

-- where there is none in front
pub tells_behind : (faults more : List Fault) (refusal : ConfigRefused) → faults ≡ [] → TellsFirst more refusal → TellsFirst (faults ++ more) refusal
tells_behind faults more refusal none told = subst (λ f. TellsFirst (f ++ more) refusal) (sym none) told

-- of some faults the first is that of the first thing that makes one
pub tells_map : {A : Type 0} (made : A → Fault) (things : List A) (thing : A) (refusal : ConfigRefused)
    → first things ≡ Some thing → TellsFirst (made thing ∷ []) refusal → TellsFirst (map made things) refusal
tells_map made [] thing refusal some told = absurd cc
tells_map made (x ∷ things) thing (Told m k) some told =
    let same : x ≡ thing = cc in
    ap (λ y. Some (made y)) same ∙ told
tells_map made (x ∷ things) thing NoMemory some told = tt
