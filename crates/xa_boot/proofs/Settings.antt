-- What a configured setup says: how many queues and servers it has, and that services and servers name queues of its own.
use Rattle.std.proofs.Common.{◌≡◌, ℕ, ◌+◌, ◌<◌, ◌≤◌, ◌&&◌, ◌||◌, not, Bool, true, cond, List, [], ◌∷◌, length, map, Some, None, inl, inr, sym, ◌∙◌, ap, arith, leb-true}
use Rattle.std.specs.Prelude.{nat_lt, nat_le}
use Rattle.std.specs.List.{All, list_all, list_any, position_or_len, sum_by}
use Rattle.std.specs.Str.{bytes_eq}
use Rattle.std.proofs.lemmas.Bool.{cases_Bool, and_parts, lt-ltb, cond-true, false≢true}
use Rattle.std.proofs.lemmas.List.Elements.{All-weaker}
use Rattle.std.proofs.lemmas.List.Sums.{AllPass-from_list_all}
use Rattle.std.proofs.lemmas.Slice.Eq.{bytes_eq-Decides}
use Rattle.xa_client_worker.specs.xa_types.declared.setup.Setup.{Setup}
use Rattle.xa_client_worker.specs.xa_types.declared.setup.QueueSetup.{QueueSetup}
use Rattle.xa_client_worker.specs.xa_types.declared.setup.ServerSetup.{ServerSetup}
use Rattle.xa_client_worker.specs.xa_types.declared.setup.ServiceSetup.{ServiceSetup}
use Rattle.xa_client_worker.specs.xa_types.Configured.{is_within, is_among, are_distinct, is_valid_queue, is_valid_program, is_valid_server, is_valid_accepts, is_valid_service, queue_names, server_names, service_names, are_valid_shapes, are_valid_queues, are_valid_servers, are_valid_services, are_served, is_configured}
use Rattle.xa_client_worker.specs.xa_types.Setup.{counted_from_1, queue_named}

-- ---- queues by their names

named_first : (name : List ℕ) (queues : List QueueSetup) → list_any (bytes_eq name) (map (λ (queue : QueueSetup). queue.name) queues) ≡ true → position_or_len (λ (queue : QueueSetup). bytes_eq queue.name name) queues < length queues
named_first name [] any = absurd (false≢true any)
named_first name (queue ∷ queues) any =
    let p : QueueSetup → Bool = λ (q : QueueSetup). bytes_eq q.name name in
    elim (cases_Bool (p queue)) [
      | inl here ↦ let first = ap (λ b. cond (not b) (1 + position_or_len p queues) 0) here in omega (arith, first)
      | inr later ↦
          let names = map (λ (q : QueueSetup). q.name) queues in
          let rest : list_any (bytes_eq name) names ≡ true = elim (cases_Bool (bytes_eq name queue.name)) [
            | inl same ↦ absurd (false≢true (sym later ∙ (bytes_eq-Decides queue.name name).1 (sym ((bytes_eq-Decides name queue.name).0 same))))
            | inr other ↦ sym (ap (λ b. b || list_any (bytes_eq name) names) other) ∙ any
          ] in
          let next = ap (λ b. cond (not b) (1 + position_or_len p queues) 0) later in
          let within = named_first name queues rest in
          omega (arith, next, within)
    ]

-- a configured name has a number of a queue
pub placed : (setup : Setup) (name : List ℕ) → is_among (queue_names setup) name ≡ true → (0 < queue_named setup name) × (queue_named setup name < length setup.queues + 1)
placed setup name among =
    let p : QueueSetup → Bool = λ (queue : QueueSetup). bytes_eq queue.name name in
    let place = position_or_len p setup.queues in
    let within : place < length setup.queues = named_first name setup.queues among in
    let is : queue_named setup name ≡ place + 1 = ap counted_from_1 (cond-true (nat_lt place (length setup.queues)) (Some place) None (lt-ltb place (length setup.queues) within)) in
    (omega (arith, is), omega (arith, is, within))

-- ---- the parts of a configured setup

pub record IsGood (setup : Setup) : Type 0 where
  pub few_queues : length setup.queues ≤ 64
  pub capacities : All (λ (queue : QueueSetup). (1 ≤ queue.capacity) × (queue.capacity ≤ 10000)) setup.queues
  pub few_servers : length setup.servers ≤ 64
  pub servers : All (λ (server : ServerSetup). is_among (queue_names setup) server.queue ≡ true) setup.servers
  pub services : All (λ (service : ServiceSetup). All (λ name. is_among (queue_names setup) name ≡ true) service.queues) setup.services

bounds : (least most n : ℕ) → is_within least most n ≡ true → (least ≤ n) × (n ≤ most)
bounds least most n within = let parts = and_parts (nat_le least n) (nat_le n most) within in (leb-true least n parts.0, leb-true n most parts.1)

service_known : (names : List (List ℕ)) (shapes : ℕ) (service : ServiceSetup) → is_valid_service names shapes service ≡ true → All (λ name. is_among names name ≡ true) service.queues
service_known names shapes service valid =
    let counts = is_within 1 64 (length service.queues) in
    let known = list_all (is_among names) service.queues in
    let distinct = are_distinct service.queues in
    let accepts = and_parts (counts && known && distinct && is_within 1 100 service.priority) (is_valid_accepts shapes service.accepts) valid in
    let priority = and_parts (counts && known && distinct) (is_within 1 100 service.priority) accepts.0 in
    AllPass-from_list_all (is_among names) service.queues (and_parts counts known (and_parts (counts && known) distinct priority.0).0).1

server_known : (queues : List (List ℕ)) (server : ServerSetup) → is_valid_server queues server ≡ true → is_among queues server.queue ≡ true
server_known queues server valid =
    let known = is_among queues server.queue in
    let program = is_valid_program server.program in
    let maxgen = is_within 1 255 server.maxgen in
    let grace = and_parts (known && program && maxgen) (is_within 1 2147483647 server.grace) valid in
    (and_parts known program (and_parts (known && program) maxgen grace.0).0).0

pub good : (setup : Setup) → is_configured setup ≡ true → IsGood setup
good setup is =
    let names = queue_names setup in
    let valid = is_valid_service names (length setup.shapes) in
    let first = is_within 1 2147483647 setup.block_time && is_within 1 4096 setup.blocks && are_valid_shapes setup in
    let served = and_parts (first && are_valid_queues setup && are_valid_servers setup && are_valid_services setup) (are_served setup) is in
    let services = and_parts (first && are_valid_queues setup && are_valid_servers setup) (are_valid_services setup) served.0 in
    let servers = and_parts (first && are_valid_queues setup) (are_valid_servers setup) services.0 in
    let queues = and_parts first (are_valid_queues setup) servers.0 in
    let q = and_parts (is_within 1 64 (length setup.queues)) (list_all is_valid_queue setup.queues) (and_parts (is_within 1 64 (length setup.queues) && list_all is_valid_queue setup.queues) (are_distinct names) queues.1).0 in
    let x = and_parts (is_within 1 64 (length setup.servers)) (list_all (is_valid_server names) setup.servers) (and_parts (is_within 1 64 (length setup.servers) && list_all (is_valid_server names) setup.servers) (are_distinct (server_names setup)) servers.1).0 in
    let few = nat_le (length setup.services) 256 in
    let each = list_all valid setup.services in
    let rows = nat_le (sum_by (λ (service : ServiceSetup). length service.queues) setup.services) 256 in
    let s = and_parts (few && each) (are_distinct (service_names setup)) (and_parts (few && each && are_distinct (service_names setup)) rows services.1).0 in
    record {
      few_queues = (bounds 1 64 (length setup.queues) q.0).1;
      capacities = All-weaker (λ (queue : QueueSetup). is_valid_queue queue ≡ true) (λ (queue : QueueSetup). (1 ≤ queue.capacity) × (queue.capacity ≤ 10000)) (λ queue. bounds 1 10000 queue.capacity) setup.queues (AllPass-from_list_all is_valid_queue setup.queues q.1);
      few_servers = (bounds 1 64 (length setup.servers) x.0).1;
      servers = All-weaker (λ server. is_valid_server names server ≡ true) (λ (server : ServerSetup). is_among names server.queue ≡ true) (server_known names) setup.servers (AllPass-from_list_all (is_valid_server names) setup.servers x.1);
      services = All-weaker (λ service. valid service ≡ true) (λ (service : ServiceSetup). All (λ name. is_among names name ≡ true) service.queues) (service_known names (length setup.shapes)) setup.services (AllPass-from_list_all valid setup.services (and_parts few each s.0).1);
    }
