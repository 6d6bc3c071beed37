-- The servers of a queue, by their numbers.
use Rattle.std.proofs.Common.{◌≡◌, ℕ, zero, suc, ◌+◌, ◌<◌, ◌==◌, ◌||◌, Bool, true, false, cond, List, [], ◌∷◌, ◌++◌, length, get_or, drop, append_assoc, refl, sym, ◌∙◌, ap, subst, arith, eq-eqb, ne_eqb}
use Rattle.std.specs.Prelude.{slice_get}
use Rattle.std.specs.List.{list_any}
use Rattle.xa_client_worker.specs.xa_types.declared.ids.ServerId.{ServerId}
use Rattle.xa_client_worker.specs.xa_types.declared.setup.Setup.{Setup}
use Rattle.xa_client_worker.specs.xa_types.declared.setup.ServerSetup.{ServerSetup}
use Rattle.xa_client_worker.specs.xa_types.Setup.{queue_named, queue_in}
use Rattle.xa_client_worker.specs.xa_held.Joins.{HasServers}
use Rattle.xa_boot.specs.Locking.{servers_at}
use Rattle.xa_boot.proofs.Noting.{drop_next}

abbrev is_numbered : ℕ → List ServerId → Bool
is_numbered server servers = list_any (λ (own : ServerId). server == own.0) servers

first_or_rest : (b one rest : Bool) (n server : ℕ) (others : List ServerId) → (server == n) ≡ one → is_numbered server others ≡ rest → is_numbered server (cond b ((record { 0 = n }) ∷ others) others) ≡ cond b (one || rest) rest
first_or_rest true one rest n server others here later = ap (λ x. x || is_numbered server others) here ∙ ap (λ x. one || x) later
first_or_rest false one rest n server others here later = later

or-false : (b : Bool) → cond b (true || false) false ≡ b
or-false true = refl
or-false false = refl

same-both : (b rest : Bool) → cond b (false || rest) rest ≡ rest
same-both true rest = refl
same-both false rest = refl

module _ (setup : Setup) (queue : ℕ) (some : 0 < queue) where
  not_before : (n : ℕ) (servers : List ServerSetup) (server : ℕ) → server < n → is_numbered server (servers_at setup queue n servers) ≡ false
  not_before n [] server less = refl
  not_before n (s ∷ rest) server less =
      first_or_rest (queue_named setup s.queue == queue) false false n server (servers_at setup queue (n + 1) rest) (ne_eqb server n (λ same. omega (arith, same, less))) (not_before (n + 1) rest server (omega (arith, less)))
      ∙ same-both (queue_named setup s.queue == queue) false

  at_place : (n : ℕ) (servers : List ServerSetup) (k : ℕ) → is_numbered (n + k) (servers_at setup queue n servers) ≡ (queue_in setup (slice_get servers k) == queue)
  at_place n [] k = sym (ne_eqb 0 queue (λ same. omega (arith, same, some)))
  at_place n (s ∷ rest) zero =
      first_or_rest (queue_named setup s.queue == queue) true false n (n + 0) (servers_at setup queue (n + 1) rest) (eq-eqb (n + 0) n (omega arith)) (not_before (n + 1) rest (n + 0) (omega arith))
      ∙ or-false (queue_named setup s.queue == queue)
  at_place n (s ∷ rest) (suc k) =
      let same : n + 1 + k ≡ n + suc k = omega arith in
      first_or_rest (queue_named setup s.queue == queue) false (queue_in setup (slice_get rest k) == queue) n (n + suc k) (servers_at setup queue (n + 1) rest) (ne_eqb (n + suc k) n (λ e. omega (arith, e)))
      (subst (λ j. is_numbered j (servers_at setup queue (n + 1) rest) ≡ (queue_in setup (slice_get rest k) == queue)) same (at_place (n + 1) rest k))
      ∙ same-both (queue_named setup s.queue == queue) (queue_in setup (slice_get rest k) == queue)

  pub has_servers : HasServers setup queue (servers_at setup queue 1 setup.servers)
  has_servers zero = ne_eqb 0 queue (λ same. omega (arith, same, some)) ∙ sym (not_before 1 setup.servers 0 (omega arith))
  has_servers (suc k) = let same : 1 + k ≡ suc k = omega arith in sym (subst (λ j. is_numbered j (servers_at setup queue 1 setup.servers) ≡ (queue_in setup (slice_get setup.servers k) == queue)) same (at_place 1 setup.servers k))

  -- a server more is told apart
  module _ (own : List ServerId) (servers : List ServerSetup) (all : List ServerId) (i : ℕ) (server : ServerSetup) (within : i < length servers) (is : server ≡ get_or servers i server) (so_far : own ++ servers_at setup queue (i + 1) (drop i servers) ≡ all) where
    abbrev Rest : List ServerId
    Rest = servers_at setup queue (i + 1 + 1) (drop (i + 1) servers)

    next_of : own ++ cond (queue_named setup server.queue == queue) ((record { 0 = i + 1 }) ∷ Rest) Rest ≡ all
    next_of = ap (λ left. own ++ servers_at setup queue (i + 1) left) (sym (drop_next servers i server within is)) ∙ so_far

    pub taken : queue_named setup server.queue ≡ queue → (own ++ (record { 0 = i + 1 }) ∷ []) ++ Rest ≡ all
    taken same = append_assoc own ((record { 0 = i + 1 }) ∷ []) Rest ∙ ap (λ b. own ++ cond b ((record { 0 = i + 1 }) ∷ Rest) Rest) (sym (eq-eqb (queue_named setup server.queue) queue same)) ∙ next_of

    pub passed_over : (queue_named setup server.queue ≡ queue → ⊥) → own ++ Rest ≡ all
    passed_over other = ap (λ b. own ++ cond b ((record { 0 = i + 1 }) ∷ Rest) Rest) (sym (ne_eqb (queue_named setup server.queue) queue other)) ∙ next_of
