-- A document without a fault says a good setup.
use Rattle.std.proofs.Common.{◌≡◌, ℕ, suc, ◌+◌, ◌*◌, ◌^◌, ◌<◌, ◌&&◌, ◌||◌, not, nat_le, nat_lt, Bool, true, false, cond, List, [], ◌∷◌, ◌++◌, length, map, take, drop, codes, Option, Some, None, unwrap_or, is_some, decimal, refl, sym, ap, ◌∙◌, subst, arith}
use Rattle.std.proofs.lemmas.Bool.{and_parts}
use Rattle.std.proofs.lemmas.Bool.Decides.{nat_tests}
use Rattle.std.specs.List.{list_all, sum_by, fold}
use Rattle.std.specs.Str.{bytes_eq}
use Rattle.toml.specs.Data.{Data, string, integer, float, boolean, datetime, array, table, get}
use Rattle.xa_types.specs.Configured.{is_within, is_among, are_distinct, is_valid_kind, is_valid_field, is_valid_shape, is_valid_queue, is_valid_server, is_valid_accepts, is_valid_service, is_configured}
use Rattle.xa_types.specs.Name.{is_name, is_identifier}
use Rattle.xa_types.specs.declared.setup.ShapeSetup.{ShapeSetup}
use Rattle.xa_types.specs.declared.setup.FieldSetup.{FieldSetup}
use Rattle.xa_types.specs.declared.setup.FieldKind.{FieldKind}
use Rattle.xa_types.specs.declared.setup.FieldKind.TheVariants.{Short, Int, Long, Char, Text}
use Rattle.xa_types.specs.declared.setup.QueueSetup.{QueueSetup}
use Rattle.xa_types.specs.declared.setup.ServerSetup.{ServerSetup}
use Rattle.xa_types.specs.declared.setup.ServiceSetup.{ServiceSetup}
use Rattle.xa_config.specs.Faults.{Fault, at_key, expects, in_order, indexed, dotted}
use Rattle.xa_config.specs.Field.{field_of, is_field, name_part, kind_part, kind_of, sized, number_of_digits}
use Rattle.xa_config.specs.Keys.{unknown, optional, needed, optional_array, needed_array}
use Rattle.xa_config.specs.Kinds.{text_in, list_in, field, queue, is_table, number, truth, program, name, new_name, name_among, kind}
use Rattle.xa_config.specs.Meaning.{text_at, list_at, name_of, names_of, shape_of, queue_of, server_of, service_of, bits_of, accepts_of, domain_number, setup_of}
use Rattle.xa_config.specs.Tables.{shape_faults, queue_faults, server_faults, service_faults, at_entry, table_faults, is_array_of_tables, domain_keys, domain_faults, rows_faults, unserved, unknown_tables, faults_of}
use Rattle.xa_config.proofs.Good.{parts, no_number, holds, not_true, and_both, number_good, name_good, reference_good, program_good, array_good, all_good, all_distinct, all_map, map_map}
use Rattle.xa_config.proofs.Loops.{at_element, length_map}

four : (a b c d : Bool) → a ≡ true → b ≡ true → c ≡ true → d ≡ true → (((a && b) && c) && d) ≡ true
four a b c d h i j k = and_both _ _ (and_both _ _ (and_both _ _ h i) j) k

picked : (b : Bool) (x y : Option FieldKind) → is_valid_kind (unwrap_or x Char) ≡ true → is_valid_kind (unwrap_or y Char) ≡ true
    → is_valid_kind (unwrap_or (cond b x y) Char) ≡ true
picked true x y h k = h
picked false x y h k = k

sized_valid : (digits : List ℕ) → is_valid_kind (unwrap_or (sized digits) Char) ≡ true
unfolding sized
sized_valid digits =
    let n = number_of_digits digits in
    elim (bytes_eq digits (decimal n) && is_within 1 1024 n) as (λ b. (bytes_eq digits (decimal n) && is_within 1 1024 n) ≡ b
    → is_valid_kind (unwrap_or (cond b (Some (Text n)) None) Char) ≡ true) [
      | true ↦ λ e. (and_parts (bytes_eq digits (decimal n)) (is_within 1 1024 n) e).1
      | false ↦ λ e. refl
    ] refl

kind_valid : (k : List ℕ) → is_valid_kind (unwrap_or (kind_of k) Char) ≡ true
unfolding kind_of
kind_valid k =
    let five = cond (bytes_eq (take 7 k) (codes "string ")) (sized (drop 7 k)) None in
    let four = cond (bytes_eq k (codes "char")) (Some Char) five in
    let three = cond (bytes_eq k (codes "long")) (Some Long) four in
    let two = cond (bytes_eq k (codes "int")) (Some Int) three in
    picked (bytes_eq k (codes "short")) (Some Short) two refl
    (picked (bytes_eq k (codes "int")) (Some Int) three refl
    (picked (bytes_eq k (codes "long")) (Some Long) four refl
    (picked (bytes_eq k (codes "char")) (Some Char) five refl
    (picked (bytes_eq (take 7 k) (codes "string ")) (sized (drop 7 k)) None (sized_valid (drop 7 k)) refl))))

field_valid : (before : List Data) (d : Data) → field before d ≡ []
    → (is_valid_field (field_of (text_in d)) ≡ true) × (is_among (map (λ value. name_part (text_in value)) before) (name_part (text_in d)) ≡ false)
unfolding field
field_valid before (string octets) h =
    let both = parts (expects (is_field octets) 9) (expects (not (is_among (map (λ value. name_part (text_in value)) before) (name_part octets))) 7) h in
    let good = and_parts (is_identifier (name_part octets)) (is_some (kind_of (kind_part octets))) (holds (is_field octets) 9 both.0) in
    (and_both (is_identifier (name_part octets)) _ good.0 (kind_valid (kind_part octets)), not_true _ (holds _ 7 both.1))
field_valid before (integer _) h = absurd cc
field_valid before (float _) h = absurd cc
field_valid before (boolean _) h = absurd cc
field_valid before (datetime _) h = absurd cc
field_valid before (array _) h = absurd cc
field_valid before (table _) h = absurd cc

queue_valid : (names : List (List ℕ)) (before : List Data) (d : Data) → queue names before d ≡ []
    → (is_among names (text_in d) ≡ true) × (is_among (map text_in before) (text_in d) ≡ false)
unfolding queue
queue_valid names before (string octets) h =
    let a = parts (expects (is_name octets) 6 ++ expects (not (is_among (map text_in before) octets)) 7) (expects (is_among names octets) 8) h in
    let b = parts (expects (is_name octets) 6) (expects (not (is_among (map text_in before) octets)) 7) a.0 in
    (holds _ 8 a.1, not_true _ (holds _ 7 b.1))
queue_valid names before (integer _) h = absurd cc
queue_valid names before (float _) h = absurd cc
queue_valid names before (boolean _) h = absurd cc
queue_valid names before (datetime _) h = absurd cc
queue_valid names before (array _) h = absurd cc
queue_valid names before (table _) h = absurd cc

shape_faults_are : (place : List ℕ) (earlier : List (List ℕ)) (shape : Data) → shape_faults place earlier shape ≡ (
    unknown place (codes "name" ∷ codes "fields" ∷ []) shape
    ++ needed place (codes "name") (new_name is_identifier earlier) shape
    ++ needed_array place (codes "fields") 1 64 field shape)
unfolding shape_faults
shape_faults_are place earlier shape = refl

shape_good : (place : List ℕ) (names : List (List ℕ)) (shape : Data) → shape_faults place names shape ≡ []
    → (is_valid_shape (shape_of shape) ≡ true) × (is_among names (name_of shape) ≡ false)
unfolding shape_of
shape_good place names shape h =
    let a = parts _ _ (sym (shape_faults_are place names shape) ∙ h) in
    let b = parts _ _ a.0 in
    let named = name_good place (codes "name") is_identifier names shape b.1 in
    let fields = array_good place (codes "fields") 1 64 field shape a.1 in
    let values = list_at (codes "fields") shape in
    let key = dotted place (codes "fields") in
    let read : Data → FieldSetup = λ value. field_of (text_in value) in (
      four _ _ _ _ named.0 (ap (is_within 1 64) (length_map read values) ∙ fields.0)
          (all_map read is_valid_field values
          ∙ all_good (at_element key field) (λ d. is_valid_field (field_of (text_in d))) (λ before d none. (field_valid before d (no_number _ _ none)).0) [] values fields.1)
          (ap are_distinct (map_map read (λ (f : FieldSetup). f.name) values)
          ∙ all_distinct (at_element key field) (λ value. name_part (text_in value)) (λ before d none. (field_valid before d (no_number _ _ none)).1) values fields.1),
      named.1,
    )

queue_faults_are : (place : List ℕ) (earlier : List (List ℕ)) (queue : Data) → queue_faults place earlier queue ≡ (
    unknown place (codes "name" ∷ codes "group" ∷ codes "capacity" ∷ []) queue
    ++ needed place (codes "name") (new_name is_name earlier) queue
    ++ optional place (codes "group") name queue
    ++ optional place (codes "capacity") (number 1 10000) queue)
unfolding queue_faults
queue_faults_are place earlier queue = refl

queue_good : (place : List ℕ) (names : List (List ℕ)) (entry : Data) → queue_faults place names entry ≡ []
    → (is_valid_queue (queue_of entry) ≡ true) × (is_among names (name_of entry) ≡ false)
unfolding queue_of
queue_good place names entry h =
    let a = parts _ _ (sym (queue_faults_are place names entry) ∙ h) in
    let b = parts _ _ a.0 in
    let c = parts _ _ b.0 in
    (number_good place (codes "capacity") 1 10000 100 entry refl a.1, (name_good place (codes "name") is_name names entry c.1).1)

server_faults_are : (queues : List (List ℕ)) (place : List ℕ) (earlier : List (List ℕ)) (server : Data) → server_faults queues place earlier server ≡ (
    unknown place (codes "name" ∷ codes "queue" ∷ codes "program" ∷ codes "restart" ∷ codes "maxgen" ∷ codes "grace" ∷ []) server
    ++ needed place (codes "name") (new_name is_name earlier) server
    ++ needed place (codes "queue") (name_among queues) server
    ++ optional place (codes "program") program server
    ++ optional place (codes "restart") truth server
    ++ optional place (codes "maxgen") (number 1 255) server
    ++ optional place (codes "grace") (number 1 2147483647) server)
unfolding server_faults
server_faults_are queues place earlier server = refl

server_good : (queues : List (List ℕ)) (place : List ℕ) (names : List (List ℕ)) (entry : Data) → server_faults queues place names entry ≡ []
    → (is_valid_server queues (server_of entry) ≡ true) × (is_among names (name_of entry) ≡ false)
unfolding server_of
server_good queues place names entry h =
    let a = parts _ _ (sym (server_faults_are queues place names entry) ∙ h) in
    let b = parts _ _ a.0 in
    let c = parts _ _ b.0 in
    let d = parts _ _ c.0 in
    let e = parts _ _ d.0 in
    let f = parts _ _ e.0 in (
      four _ _ _ _ (reference_good place (codes "queue") queues entry e.1) (program_good place (codes "program") entry d.1)
          (number_good place (codes "maxgen") 1 255 1 entry refl b.1) (number_good place (codes "grace") 1 2147483647 86400 entry refl a.1),
      (name_good place (codes "name") is_name names entry f.1).1,
    )

bits_small : (accepted shapes : List (List ℕ)) → bits_of accepted shapes < 2 ^ length shapes
unfolding bits_of
bits_small accepted [] = omega arith
bits_small accepted (shape ∷ shapes) =
    next (is_among accepted (codes "c:" ++ shape)) (bits_of accepted shapes) (length shapes) (bits_small accepted shapes)
  where
    next : (b : Bool) (n k : ℕ) → n < 2 ^ k → cond b 1 0 + 2 * n < 2 ^ suc k
    next true n k h = grind arith
    next false n k h = grind arith

or_right : (a b : Bool) → b ≡ true → (a || b) ≡ true
or_right true b h = refl
or_right false b h = h

below : (m n : ℕ) → m < n → nat_lt m n ≡ true
below m n h = grind (arith, nat_tests)

accepts_good : (shapes : List (List ℕ)) (found : Option Data) → is_valid_accepts (length shapes) (accepts_of shapes found) ≡ true
unfolding accepts_of
accepts_good shapes None = refl
accepts_good shapes (Some value) = or_right _ _ (below _ _ (bits_small (map text_in (list_in value)) shapes))

service_faults_are : (queues shapes : List (List ℕ)) (place : List ℕ) (earlier : List (List ℕ)) (service : Data) → service_faults queues shapes place earlier service ≡ (
    unknown place (codes "name" ∷ codes "routine" ∷ codes "queues" ∷ codes "priority" ∷ codes "accepts" ∷ codes "conversational" ∷ []) service
    ++ needed place (codes "name") (new_name is_name earlier) service
    ++ optional place (codes "routine") name service
    ++ needed_array place (codes "queues") 1 64 (queue queues) service
    ++ optional place (codes "priority") (number 1 100) service
    ++ optional_array place (codes "accepts") 0 65 (kind shapes) service
    ++ optional place (codes "conversational") truth service)
unfolding service_faults
service_faults_are queues shapes place earlier service = refl

service_good : (queues shapes : List (List ℕ)) (place : List ℕ) (names : List (List ℕ)) (entry : Data) → service_faults queues shapes place names entry ≡ []
    → (is_valid_service queues (length shapes) (service_of shapes entry) ≡ true) × (is_among names (name_of entry) ≡ false)
unfolding service_of
service_good queues shapes place names entry h =
    let a = parts _ _ (sym (service_faults_are queues shapes place names entry) ∙ h) in
    let b = parts _ _ a.0 in
    let c = parts _ _ b.0 in
    let d = parts _ _ c.0 in
    let e = parts _ _ d.0 in
    let f = parts _ _ e.0 in
    let values = list_at (codes "queues") entry in
    let key = dotted place (codes "queues") in
    let found = array_good place (codes "queues") 1 64 (queue queues) entry d.1 in (
      and_both _ _ (four _ _ _ _ (ap (is_within 1 64) (length_map text_in values) ∙ found.0)
          (all_map text_in (is_among queues) values
          ∙ all_good (at_element key (queue queues)) (λ x. is_among queues (text_in x)) (λ before x none. (queue_valid queues before x (no_number _ _ none)).0) [] values found.1)
          (all_distinct (at_element key (queue queues)) text_in (λ before x none. (queue_valid queues before x (no_number _ _ none)).1) values found.1)
          (number_good place (codes "priority") 1 100 50 entry refl c.1)) (accepts_good shapes (get (codes "accepts") entry)),
      (name_good place (codes "name") is_name names entry f.1).1,
    )

table_good : (key : List ℕ) (least most : ℕ) (entry : List ℕ → List (List ℕ) → Data → List Fault) (d : Data) → table_faults key least most entry d ≡ []
    → (nat_le least (length (list_at key d)) ≡ true) × (nat_le (length (list_at key d)) most ≡ true) × (in_order (at_entry key entry) [] (list_at key d) ≡ [])
unfolding table_faults
table_good key least most entry d h =
    let some = at_key key (expects (nat_le least (length (list_at key d))) 3) in
    let few = at_key key (expects (nat_le (length (list_at key d)) most) 10) in
    let all = in_order (at_entry key entry) [] (list_at key d) in
    let good = at_key key (expects (is_array_of_tables (get key d)) 4) in
    let a = parts (good ++ some ++ few) all h in
    let b = parts (good ++ some) few a.0 in
    let c = parts good some b.0 in
    (holds _ 3 (no_number key _ c.1), holds _ 10 (no_number key _ b.1), a.1)

three : (a b c : Bool) → a ≡ true → b ≡ true → c ≡ true → ((a && b) && c) ≡ true
three a b c h i j = and_both _ _ (and_both _ _ h i) j

shapes_good : (d : Data) → table_faults (codes "shape") 0 64 shape_faults d ≡ []
    → ((nat_le (length (map shape_of (list_at (codes "shape") d))) 64 && list_all is_valid_shape (map shape_of (list_at (codes "shape") d)))
    && are_distinct (map (λ (s : ShapeSetup). s.name) (map shape_of (list_at (codes "shape") d)))) ≡ true
unfolding shape_of
shapes_good d h =
    let t = table_good (codes "shape") 0 64 shape_faults d h in
    let values = list_at (codes "shape") d in
    let each : (before : List Data) (x : Data) → at_entry (codes "shape") shape_faults before x ≡ [] → (is_valid_shape (shape_of x) ≡ true) × (is_among (map name_of before) (name_of x) ≡ false) =
    λ before x none. shape_good (indexed (codes "shape") (length before)) (names_of before) x none in
    three _ _ _ (ap (λ n. nat_le n 64) (length_map shape_of values) ∙ t.1)
    (all_map shape_of is_valid_shape values ∙ all_good (at_entry (codes "shape") shape_faults) (λ x. is_valid_shape (shape_of x)) (λ before x none. (each before x none).0) [] values t.2)
    (ap are_distinct (map_map shape_of (λ (s : ShapeSetup). s.name) values)
    ∙ all_distinct (at_entry (codes "shape") shape_faults) name_of (λ before x none. (each before x none).1) values t.2)

queues_good : (d : Data) → table_faults (codes "queue") 1 64 queue_faults d ≡ []
    → ((is_within 1 64 (length (map queue_of (list_at (codes "queue") d))) && list_all is_valid_queue (map queue_of (list_at (codes "queue") d)))
    && are_distinct (map (λ (q : QueueSetup). q.name) (map queue_of (list_at (codes "queue") d)))) ≡ true
unfolding queue_of
queues_good d h =
    let t = table_good (codes "queue") 1 64 queue_faults d h in
    let values = list_at (codes "queue") d in
    let each : (before : List Data) (x : Data) → at_entry (codes "queue") queue_faults before x ≡ [] → (is_valid_queue (queue_of x) ≡ true) × (is_among (map name_of before) (name_of x) ≡ false) =
    λ before x none. queue_good (indexed (codes "queue") (length before)) (names_of before) x none in
    three _ _ _ (ap (is_within 1 64) (length_map queue_of values) ∙ and_both _ _ t.0 t.1)
    (all_map queue_of is_valid_queue values ∙ all_good (at_entry (codes "queue") queue_faults) (λ x. is_valid_queue (queue_of x)) (λ before x none. (each before x none).0) [] values t.2)
    (ap are_distinct (map_map queue_of (λ (q : QueueSetup). q.name) values)
    ∙ all_distinct (at_entry (codes "queue") queue_faults) name_of (λ before x none. (each before x none).1) values t.2)

servers_good : (queues : List (List ℕ)) (d : Data) → table_faults (codes "server") 1 64 (server_faults queues) d ≡ []
    → ((is_within 1 64 (length (map server_of (list_at (codes "server") d))) && list_all (is_valid_server queues) (map server_of (list_at (codes "server") d)))
    && are_distinct (map (λ (s : ServerSetup). s.name) (map server_of (list_at (codes "server") d)))) ≡ true
unfolding server_of
servers_good queues d h =
    let t = table_good (codes "server") 1 64 (server_faults queues) d h in
    let values = list_at (codes "server") d in
    let each : (before : List Data) (x : Data) → at_entry (codes "server") (server_faults queues) before x ≡ [] → (is_valid_server queues (server_of x) ≡ true) × (is_among (map name_of before) (name_of x) ≡ false) =
    λ before x none. server_good queues (indexed (codes "server") (length before)) (names_of before) x none in
    three _ _ _ (ap (is_within 1 64) (length_map server_of values) ∙ and_both _ _ t.0 t.1)
    (all_map server_of (is_valid_server queues) values ∙ all_good (at_entry (codes "server") (server_faults queues)) (λ x. is_valid_server queues (server_of x)) (λ before x none. (each before x none).0) [] values t.2)
    (ap are_distinct (map_map server_of (λ (s : ServerSetup). s.name) values)
    ∙ all_distinct (at_entry (codes "server") (server_faults queues)) name_of (λ before x none. (each before x none).1) values t.2)

fold_map : {A : Type 0} (f : Data → A) (g : A → ℕ) (h : Data → ℕ) → ((d : Data) → g (f d) ≡ h d) → (ds : List Data) (n : ℕ)
    → fold (λ a x. a + g x) n (map f ds) ≡ fold (λ a x. a + h x) n ds
fold_map f g h same [] n = refl
fold_map f g h same (d ∷ ds) n = ap (λ m. fold (λ a x. a + g x) (n + m) (map f ds)) (same d) ∙ fold_map f g h same ds (n + h d)

-- the rows of the services as they are read
pub rows_same : (shapes : List (List ℕ)) (ds : List Data) → sum_by (λ (s : ServiceSetup). length s.queues) (map (service_of shapes) ds) ≡ sum_by (λ d. length (list_at (codes "queues") d)) ds
unfolding service_of
rows_same shapes ds =
    fold_map (service_of shapes) (λ (s : ServiceSetup). length s.queues) (λ d. length (list_at (codes "queues") d)) (λ d. length_map text_in (list_at (codes "queues") d)) ds 0

services_good : (queues shapes : List (List ℕ)) (d : Data) → table_faults (codes "service") 0 256 (service_faults queues shapes) d ≡ [] → rows_faults (list_at (codes "service") d) ≡ []
    → (((nat_le (length (map (service_of shapes) (list_at (codes "service") d))) 256
    && list_all (is_valid_service queues (length shapes)) (map (service_of shapes) (list_at (codes "service") d)))
    && are_distinct (map (λ (s : ServiceSetup). s.name) (map (service_of shapes) (list_at (codes "service") d))))
    && nat_le (sum_by (λ (s : ServiceSetup). length s.queues) (map (service_of shapes) (list_at (codes "service") d))) 256) ≡ true
unfolding service_of rows_faults
services_good queues shapes d h rows =
    let t = table_good (codes "service") 0 256 (service_faults queues shapes) d h in
    let values = list_at (codes "service") d in
    let of = service_of shapes in
    let each : (before : List Data) (x : Data) → at_entry (codes "service") (service_faults queues shapes) before x ≡ []
    → (is_valid_service queues (length shapes) (service_of shapes x) ≡ true) × (is_among (map name_of before) (name_of x) ≡ false) =
    λ before x none. service_good queues shapes (indexed (codes "service") (length before)) (names_of before) x none in
    and_both _ _ (three _ _ _ (ap (λ n. nat_le n 256) (length_map of values) ∙ t.1)
    (all_map of (is_valid_service queues (length shapes)) values
    ∙ all_good (at_entry (codes "service") (service_faults queues shapes)) (λ x. is_valid_service queues (length shapes) (service_of shapes x)) (λ before x none. (each before x none).0) [] values t.2)
    (ap are_distinct (map_map of (λ (s : ServiceSetup). s.name) values)
    ∙ all_distinct (at_entry (codes "service") (service_faults queues shapes)) name_of (λ before x none. (each before x none).1) values t.2))
    (ap (λ n. nat_le n 256) (rows_same shapes values) ∙ holds _ 10 (no_number (codes "service") _ rows))

served_good : (named : List (List ℕ)) (place : ℕ) (queues : List (List ℕ)) → unserved named place queues ≡ [] → list_all (is_among named) queues ≡ true
unfolding unserved
served_good named place [] h = refl
served_good named place (queue ∷ queues) h =
    let both = parts (at_key (indexed (codes "queue") place) (expects (is_among named queue) 11)) (unserved named (suc place) queues) h in
    and_both (is_among named queue) (list_all (is_among named) queues) (holds _ 11 (no_number _ _ both.0)) (served_good named (suc place) queues both.1)

-- the queues of the servers as they are read, and the names of queues and shapes
pub queues_served : (ds : List Data) → map (λ (s : ServerSetup). s.queue) (map server_of ds) ≡ map (text_at (codes "queue") []) ds
unfolding server_of
queues_served ds = map_map server_of (λ (s : ServerSetup). s.queue) ds

queue_names_are : (ds : List Data) → map (λ (q : QueueSetup). q.name) (map queue_of ds) ≡ names_of ds
unfolding queue_of
queue_names_are ds = map_map queue_of (λ (q : QueueSetup). q.name) ds

domain_keys_are : (domain : Data) → domain_keys domain ≡ (
    unknown (codes "domain") (codes "blocktime" ∷ codes "blocks" ∷ []) domain
    ++ optional (codes "domain") (codes "blocktime") (number 1 2147483647) domain
    ++ optional (codes "domain") (codes "blocks") (number 1 4096) domain)
unfolding domain_keys
domain_keys_are domain = refl

domain_good : (found : Option Data) → domain_faults found ≡ []
    → (is_within 1 2147483647 (domain_number (codes "blocktime") 60 found) ≡ true) × (is_within 1 4096 (domain_number (codes "blocks") 256 found) ≡ true)
unfolding domain_faults domain_number
domain_good None h = (refl, refl)
domain_good (Some domain) h =
    let a = parts (at_key (codes "domain") (expects (is_table domain) 4)) (domain_keys domain) h in
    let b = parts _ _ (sym (domain_keys_are domain) ∙ a.1) in
    let c = parts _ _ b.0 in
    (number_good (codes "domain") (codes "blocktime") 1 2147483647 60 domain refl c.1, number_good (codes "domain") (codes "blocks") 1 4096 256 domain refl b.1)

faults_of_are : (document : Data) → faults_of document ≡ (
    unknown_tables document
    ++ domain_faults (get (codes "domain") document)
    ++ table_faults (codes "shape") 0 64 shape_faults document
    ++ table_faults (codes "queue") 1 64 queue_faults document
    ++ table_faults (codes "server") 1 64 (server_faults (names_of (list_at (codes "queue") document))) document
    ++ table_faults (codes "service") 0 256 (service_faults (names_of (list_at (codes "queue") document)) (names_of (list_at (codes "shape") document))) document
    ++ rows_faults (list_at (codes "service") document)
    ++ unserved (map (text_at (codes "queue") []) (list_at (codes "server") document)) 0 (names_of (list_at (codes "queue") document)))
unfolding faults_of
faults_of_are document = refl

pub setup_is_good : (d : Data) → faults_of d ≡ [] → is_configured (setup_of d) ≡ true
unfolding setup_of
setup_is_good d h =
    let a = parts _ _ (sym (faults_of_are d) ∙ h) in
    let b = parts _ _ a.0 in
    let c = parts _ _ b.0 in
    let e = parts _ _ c.0 in
    let f = parts _ _ e.0 in
    let g = parts _ _ f.0 in
    let i = parts _ _ g.0 in
    let domain = domain_good (get (codes "domain") d) i.1 in
    let queues = list_at (codes "queue") d in
    let shapes = list_at (codes "shape") d in
    let servers = list_at (codes "server") d in
    let services = map (service_of (names_of shapes)) (list_at (codes "service") d) in
    let sized = length_map name_of shapes ∙ sym (length_map shape_of shapes) in
    and_both _ _ (and_both _ _ (and_both _ _ (four _ _ _ _ domain.0 domain.1 (shapes_good d g.1) (queues_good d f.1))
    (subst (λ names. ((is_within 1 64 (length (map server_of servers)) && list_all (is_valid_server names) (map server_of servers))
    && are_distinct (map (λ (s : ServerSetup). s.name) (map server_of servers))) ≡ true) (sym (queue_names_are queues)) (servers_good (names_of queues) d e.1)))
    (subst (λ n. (((nat_le (length services) 256 && list_all (is_valid_service (map (λ (q : QueueSetup). q.name) (map queue_of queues)) n) services)
    && are_distinct (map (λ (s : ServiceSetup). s.name) services)) && nat_le (sum_by (λ (s : ServiceSetup). length s.queues) services) 256) ≡ true) sized
    (subst (λ names. (((nat_le (length services) 256 && list_all (is_valid_service names (length (names_of shapes))) services)
    && are_distinct (map (λ (s : ServiceSetup). s.name) services)) && nat_le (sum_by (λ (s : ServiceSetup). length s.queues) services) 256) ≡ true)
    (sym (queue_names_are queues)) (services_good (names_of queues) (names_of shapes) d c.1 b.1))))
    (ap (λ named. list_all (is_among named) (map (λ (q : QueueSetup). q.name) (map queue_of queues))) (queues_served servers)
    ∙ ap (list_all (is_among (map (text_at (codes "queue") []) servers))) (queue_names_are queues)
    ∙ served_good (map (text_at (codes "queue") []) servers) 0 (names_of queues) a.1)
