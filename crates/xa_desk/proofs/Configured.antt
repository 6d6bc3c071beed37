-- What a configured setup says of its queues and services.
use Rattle.std.proofs.Common.{◌≡◌, ℕ, ◌+◌, ◌<◌, ◌≤◌, Bool, true, List, [], ◌∷◌, length, Option, Some, None, inl, inr, refl, sym, ap, subst, arith, add-one, leb-true}
use Rattle.std.proofs.lemmas.List.Elements.{All-nil, All-cons, All-weaker}
use Rattle.xa_server.proofs.xa_caller.Unsent.{at-all}
use Rattle.xa_server.proofs.xa_caller.Next.{found-all}
use Rattle.std.specs.Prelude.{◌&&◌, ℤ, pos, negsuc, ◌+ℤ◌, false}
use Rattle.std.specs.List.{list_all, All}
use Rattle.std.specs.Str.{bytes_eq}
use Rattle.std.proofs.lemmas.Bool.{and_parts}
use Rattle.std.proofs.lemmas.Option.{slice_get_cases}
use Rattle.xa_server.specs.xa_types.declared.row.Row.{Row}
use Rattle.xa_server.specs.xa_types.declared.setup.Setup.{Setup}
use Rattle.xa_server.specs.xa_types.declared.setup.QueueSetup.{QueueSetup}
use Rattle.xa_server.specs.xa_types.declared.setup.ServiceSetup.{ServiceSetup}
use Rattle.xa_server.specs.xa_types.Priority.{clamped, priority_of}
use Rattle.xa_server.specs.xa_types.Rows.{row_with, row_for}
use Rattle.xa_server.specs.xa_types.Setup.{capacity_in, capacity_of, service_named}
use Rattle.xa_server.specs.xa_types.Configured.{is_configured, is_within, is_valid_queue, is_valid_service, queue_names, are_valid_queues, are_valid_services}

each_passes : {X : Type 0} (p : X → Bool) (xs : List X) → list_all p xs ≡ true → All (λ x. p x ≡ true) xs
each_passes p [] all = All-nil (λ x. p x ≡ true)
each_passes p (y ∷ xs) all = let parts = and_parts (p y) (list_all p xs) all in All-cons (λ x. p x ≡ true) y xs parts.0 (each_passes p xs parts.1)

left : (a b : Bool) → (a && b) ≡ true → a ≡ true
left a b both = (and_parts a b both).0

right : (a b : Bool) → (a && b) ≡ true → b ≡ true
right a b both = (and_parts a b both).1

-- a number taken into 1 to 100 is within
within_clamped : (amount : ℤ) → (1 ≤ clamped amount) × (clamped amount ≤ 100)
within_clamped (pos n) = (omega arith, omega arith)
within_clamped (negsuc n) = (omega arith, omega arith)

-- a request has a priority from 1 to 100 where its service has one
pub asked_priority : (own : ℕ) (asked : Option (Bool × ℤ)) → (1 ≤ own) × (own ≤ 100) → (1 ≤ priority_of own asked) × (priority_of own asked ≤ 100)
asked_priority own None its = its
asked_priority own (Some (true, amount)) its = within_clamped amount
asked_priority own (Some (false, amount)) its = within_clamped (pos own +ℤ amount)

module _ (setup : Setup) (configured : is_configured setup ≡ true) where
  each_room : All (λ (queue : QueueSetup). 1 ≤ queue.capacity) setup.queues
  each_room =
      let queues : are_valid_queues setup ≡ true = right _ _ (left _ _ (left _ _ (left _ _ configured))) in
      All-weaker (λ queue. is_valid_queue queue ≡ true) (λ queue. 1 ≤ queue.capacity) (λ queue valid. leb-true 1 queue.capacity (left _ _ valid)) setup.queues (each_passes is_valid_queue setup.queues (right _ _ (left _ _ queues)))

  -- each queue has room
  pub has_capacity : (i : ℕ) → i < length setup.queues → 0 < capacity_of setup (i + 1)
  has_capacity i within =
      subst (λ (k : ℕ). 0 < capacity_of setup k) (sym (add-one i))
      (elim (slice_get_cases setup.queues i).1 [
        | inl here ↦ let least = at-all (λ (queue : QueueSetup). 1 ≤ queue.capacity) setup.queues i here.0 here.2 each_room in subst (λ (o : Option QueueSetup). 0 < capacity_in o) (sym here.2) (omega (arith, least))
        | inr beyond ↦ absurd (omega (arith, beyond.0, within))
      ])

  -- a service has a priority from 1 to 100
  service_priority : (service : List ℕ) (found : ServiceSetup) → service_named setup service ≡ Some found → (1 ≤ found.priority) × (found.priority ≤ 100)
  service_priority service found is =
      let valid : ServiceSetup → Bool = is_valid_service (queue_names setup) (length setup.shapes) in
      let services : are_valid_services setup ≡ true = right _ _ (left _ _ configured) in
      let its : valid found ≡ true = found-all (λ (s : ServiceSetup). bytes_eq s.name service) (λ s. valid s ≡ true) setup.services found is (each_passes valid setup.services (right _ _ (left _ _ (left _ _ services)))) in
      let within : is_within 1 100 found.priority ≡ true = right _ _ (left _ _ its) in
      (leb-true 1 found.priority (left _ _ within), leb-true found.priority 100 (right _ _ within))

  by_service : (named : Option ServiceSetup) (service : List ℕ) (queue : ℕ) (routine : List ℕ) → service_named setup service ≡ named → (1 ≤ (row_with named service queue routine).priority) × ((row_with named service queue routine).priority ≤ 100)
  by_service None service queue routine is = (omega arith, omega arith)
  by_service (Some found) service queue routine is = service_priority service found is

  pub row_priority : (service : List ℕ) (row : Row) → row ≡ row_for setup service row.queue.0 row.routine → (1 ≤ row.priority) × (row.priority ≤ 100)
  row_priority service row is =
      let range = by_service (service_named setup service) service row.queue.0 row.routine refl in
      let same : row.priority ≡ (row_for setup service row.queue.0 row.routine).priority = ap (λ (r : Row). r.priority) is in
      (omega (arith, range.0, same), omega (arith, range.1, same))
