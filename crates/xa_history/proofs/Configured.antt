-- Each queue of a configured setup has a server.
use Rattle.std.proofs.Common.{◌≡◌, ℕ, zero, suc, ◌+◌, ◌<◌, ◌&&◌, not, Bool, true, false, cond, List, [], ◌∷◌, length, map, Some, None, option_map, sym, ◌∙◌, ap, subst, arith, one-add}
use Rattle.std.specs.Prelude.{slice_get, nat_lt}
use Rattle.std.specs.List.{list_all, list_any, position_or_len}
use Rattle.std.specs.Str.{bytes_eq}
use Rattle.std.proofs.lemmas.Bool.{and_parts, or_parts, not-true, lt-ltb, cond-true}
use Rattle.std.proofs.lemmas.Option.{none-some, same_Some, slice_get-map, slice_get_within, get_or_from_slice_get}
use Rattle.std.proofs.lemmas.List.{length-map}
use Rattle.std.proofs.lemmas.List.Folds.{Any-from_list_any}
use Rattle.std.proofs.lemmas.List.Sums.{AllPass-from_list_all}
use Rattle.std.proofs.lemmas.Slice.Eq.{bytes_eq-Decides}
use Rattle.xa_client_worker.specs.xa_types.declared.setup.QueueSetup.{QueueSetup}
use Rattle.xa_client_worker.specs.xa_types.declared.setup.ServerSetup.{ServerSetup}
use Rattle.xa_client_worker.specs.xa_types.declared.setup.Setup.{Setup}
use Rattle.xa_client_worker.specs.xa_types.Configured.{is_configured, is_within, is_among, is_valid_queue, are_distinct, queue_names, are_valid_shapes, are_valid_queues, are_valid_servers, are_valid_services, are_served}
use Rattle.xa_client_worker.specs.xa_types.Setup.{counted_from_1, queue_named, queue_in, queue_of}
use Rattle.xa_history.proofs.Listed.{all_numbered, one_there}

-- ---- names that differ

-- where none of the images passes, that of an entry doesn't
none_at : {X Y : Type 0} (f : X → Y) (p : Y → Bool) (xs : List X) (i : ℕ) (x : X) → list_any p (map f xs) ≡ false → slice_get xs i ≡ Some x → p (f x) ≡ false
none_at f p [] i x none is = absurd (none-some x is)
none_at f p (y ∷ ys) zero x none is = ap (λ z. p (f z)) (sym (same_Some y x is)) ∙ (or_parts (p (f y)) (list_any p (map f ys)) none).0
none_at f p (y ∷ ys) (suc i) x none is = none_at f p ys i x (or_parts (p (f y)) (list_any p (map f ys)) none).1 is

-- each is the first of its name
first_named : {X : Type 0} (f : X → List ℕ) (xs : List X) (i : ℕ) (x : X) → are_distinct (map f xs) ≡ true → slice_get xs i ≡ Some x → position_or_len (λ y. bytes_eq (f y) (f x)) xs ≡ i
first_named f [] i x distinct is = absurd (none-some x is)
first_named f (y ∷ ys) zero x distinct is = ap (λ b. cond (not b) (1 + position_or_len (λ z. bytes_eq (f z) (f x)) ys) 0) ((bytes_eq-Decides (f y) (f x)).1 (ap f (same_Some y x is)))
first_named f (y ∷ ys) (suc i) x distinct is =
    let parts = and_parts (not (list_any (bytes_eq (f y)) (map f ys))) (are_distinct (map f ys)) distinct in
    let other : bytes_eq (f y) (f x) ≡ false = none_at f (bytes_eq (f y)) ys i x (not-true (list_any (bytes_eq (f y)) (map f ys)) parts.0) is in
    ap (λ b. cond (not b) (1 + position_or_len (λ z. bytes_eq (f z) (f x)) ys) 0) other ∙ (ap (λ n. 1 + n) (first_named f ys i x parts.1 is) ∙ one-add i)

module _ (setup : Setup) (configured : is_configured setup ≡ true) where
  abbrev Limits : Bool
  Limits = is_within 1 2147483647 setup.block_time && is_within 1 4096 setup.blocks && are_valid_shapes setup

  abbrev Services : Bool
  Services = Limits && are_valid_queues setup && are_valid_servers setup && are_valid_services setup

  abbrev served_by : List (List ℕ)
  served_by = map (λ (server : ServerSetup). server.queue) setup.servers

  abbrev name_of : QueueSetup → List ℕ
  name_of queue = queue.name

  names_differ : are_distinct (queue_names setup) ≡ true
  names_differ =
      let services = (and_parts Services (are_served setup) configured).0 in
      let servers = (and_parts (Limits && are_valid_queues setup && are_valid_servers setup) (are_valid_services setup) services).0 in
      let queues = (and_parts Limits (are_valid_queues setup) (and_parts (Limits && are_valid_queues setup) (are_valid_servers setup) servers).0).1 in
      (and_parts (is_within 1 64 (length setup.queues) && list_all is_valid_queue setup.queues) (are_distinct (queue_names setup)) queues).1

  -- a queue's number is its place
  number_is : (i : ℕ) (queue : QueueSetup) → slice_get setup.queues i ≡ Some queue → queue_named setup queue.name ≡ i + 1
  number_is i queue is =
      let place = position_or_len (λ (other : QueueSetup). bytes_eq other.name queue.name) setup.queues in
      let first : place ≡ i = first_named name_of setup.queues i queue names_differ is in
      let within = slice_get_within setup.queues i queue is in
      ap counted_from_1 (cond-true (nat_lt place (length setup.queues)) (Some place) None (lt-ltb place (length setup.queues) (omega (arith, first, within)))) ∙ ap (λ n. n + 1) first

  its_server : (i : ℕ) (queue : QueueSetup) → slice_get setup.queues i ≡ Some queue → (k : ℕ) × (server : ServerSetup) × (slice_get setup.servers k ≡ Some server) × (server.queue ≡ queue.name)
  its_server i queue is =
      let among = all_numbered (λ name. is_among served_by name ≡ true) (suc i) (queue_names setup) queue.name (AllPass-from_list_all (is_among served_by) (queue_names setup) (and_parts Services (are_served setup) configured).1) (slice_get-map name_of setup.queues i ∙ ap (option_map name_of) is) in
      let any = Any-from_list_any (bytes_eq queue.name) served_by among in
      let one = one_there setup.servers any.0 (subst (λ n. any.0 < n) (length-map setup.servers (λ (server : ServerSetup). server.queue)) any.2) in
      let named = get_or_from_slice_get served_by any.0 one.0.queue any.1 (slice_get-map (λ (server : ServerSetup). server.queue) setup.servers any.0 ∙ ap (option_map (λ (server : ServerSetup). server.queue)) one.1) in
      (any.0, one.0, one.1, sym named ∙ (any.3 ∙ sym ((bytes_eq-Decides queue.name any.1).0 any.4)))

  pub a_server : (i : ℕ) → i < length setup.queues → (server : ℕ) × (0 < server) × (server < length setup.servers + 1) × (queue_of setup server ≡ i + 1)
  a_server i within =
      let queue = one_there setup.queues i within in
      let its = its_server i queue.0 queue.1 in
      (suc its.0, omega arith, let low = slice_get_within setup.servers its.0 its.1 its.2 in omega (arith, low), ap (queue_in setup) its.2 ∙ (ap (queue_named setup) its.3 ∙ number_is i queue.0 queue.1))
