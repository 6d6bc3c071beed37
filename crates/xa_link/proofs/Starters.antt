-- The starters of the first servers, and that of one more.
use Rattle.std.proofs.Common.{◌≡◌, ◌∙◌, ℕ, ◌+◌, ◌<◌, ◌≤◌, add-one, List, [], ◌∷◌, ◌++◌, take, map, length, get_or, ap, sym}
use Rattle.std.proofs.Math.Seq.{take-suc}
use Rattle.std.proofs.lemmas.List.{take_all, map-append}
use Rattle.xa_types.specs.declared.setup.ServerSetup.{ServerSetup}

abbrev pub names_of : List ServerSetup → List (List ℕ)
names_of servers = map (λ (server : ServerSetup). server.name) servers

-- each starter is that of its server, of the first so many
abbrev pub AreOf : {S : Type 0} → (S → List ℕ) → List S → List ServerSetup → ℕ → Type 0
AreOf name starters servers place = map name starters ≡ names_of (take place servers)

module _ {S : Type 0} (name : S → List ℕ) (servers : List ServerSetup) where
  pub one_more : (starters now : List S) (place : ℕ) (server : ServerSetup) (starter : S) → place < length servers → server ≡ get_or servers place server → name starter ≡ server.name
      → now ≡ starters ++ starter ∷ [] → AreOf name starters servers place → AreOf name now servers (place + 1)
  one_more starters now place server starter within is own pushed so =
      ap (map name) pushed ∙ (map-append name starters (starter ∷ []) ∙ (ap (λ (ns : List (List ℕ)). ns ++ name starter ∷ []) so ∙ (ap (λ (n : List ℕ). names_of (take place servers) ++ n ∷ []) own
      ∙ (sym (map-append (λ (x : ServerSetup). x.name) (take place servers) (server ∷ []))
      ∙ ap names_of (ap (λ (x : ServerSetup). take place servers ++ x ∷ []) is ∙ (sym (take-suc servers place server within) ∙ ap (λ n. take n servers) (sym (add-one place))))))))

  pub all_named : (starters : List S) (place : ℕ) → length servers ≤ place → AreOf name starters servers place → map name starters ≡ names_of servers
  all_named starters place all so = so ∙ ap names_of (take_all place servers all)
