-- The tables of a configuration and their keys, in the order in which they are checked (this project's own).
use Rattle.std.specs.Prelude.{ℕ, suc, Bool, true, false, nat_le, List, [], ◌∷◌, ◌++◌, length, map, codes, Option, Some, None}
use Rattle.std.specs.List.{list_all, sum_by}
use Rattle.toml.specs.Data.{Data, array, get}
use Rattle.xa_types.specs.Configured.{is_among}
use Rattle.xa_types.specs.Name.{is_name, is_identifier}
use Rattle.xa_config.specs.Faults.{Fault, expects, at_key, indexed, in_order, unknown_key, missing_key, wrong_type, too_many, no_server}
use Rattle.xa_config.specs.Kinds.{is_table, list_of, number, truth, program, name, new_name, name_among, field, queue, kind}
use Rattle.xa_config.specs.Keys.{unknown, unknown_in, optional, needed, optional_array, needed_array}
use Rattle.xa_config.specs.Meaning.{text_at, list_at, names_of}

unfoldable pub domain_keys : Data → List Fault
domain_keys domain =
    unknown (codes "domain") (codes "blocktime" ∷ codes "blocks" ∷ []) domain
    ++ optional (codes "domain") (codes "blocktime") (number 1 2147483647) domain
    ++ optional (codes "domain") (codes "blocks") (number 1 4096) domain

-- the table `domain` may be absent
unfoldable pub domain_faults : Option Data → List Fault
domain_faults None = []
domain_faults (Some domain) = at_key (codes "domain") (expects (is_table domain) wrong_type) ++ domain_keys domain

-- the entry in that place, where these are the names of those before it
unfoldable pub shape_faults : List ℕ → List (List ℕ) → Data → List Fault
shape_faults place earlier shape =
    unknown place (codes "name" ∷ codes "fields" ∷ []) shape
    ++ needed place (codes "name") (new_name is_identifier earlier) shape
    ++ needed_array place (codes "fields") 1 64 field shape

unfoldable pub queue_faults : List ℕ → List (List ℕ) → Data → List Fault
queue_faults place earlier queue =
    unknown place (codes "name" ∷ codes "group" ∷ codes "capacity" ∷ []) queue
    ++ needed place (codes "name") (new_name is_name earlier) queue
    ++ optional place (codes "group") name queue
    ++ optional place (codes "capacity") (number 1 10000) queue

-- a server, where these are the names of the queues
unfoldable pub server_faults : List (List ℕ) → List ℕ → List (List ℕ) → Data → List Fault
server_faults queues place earlier server =
    unknown place (codes "name" ∷ codes "queue" ∷ codes "program" ∷ codes "restart" ∷ codes "maxgen" ∷ codes "grace" ∷ []) server
    ++ needed place (codes "name") (new_name is_name earlier) server
    ++ needed place (codes "queue") (name_among queues) server
    ++ optional place (codes "program") program server
    ++ optional place (codes "restart") truth server
    ++ optional place (codes "maxgen") (number 1 255) server
    ++ optional place (codes "grace") (number 1 2147483647) server

-- a service, where these are the names of the queues and of the shapes
unfoldable pub service_faults : List (List ℕ) → List (List ℕ) → List ℕ → List (List ℕ) → Data → List Fault
service_faults queues shapes place earlier service =
    unknown place (codes "name" ∷ codes "routine" ∷ codes "queues" ∷ codes "priority" ∷ codes "accepts" ∷ codes "conversational" ∷ []) service
    ++ needed place (codes "name") (new_name is_name earlier) service
    ++ optional place (codes "routine") name service
    ++ needed_array place (codes "queues") 1 64 (queue queues) service
    ++ optional place (codes "priority") (number 1 100) service
    ++ optional_array place (codes "accepts") 0 65 (kind shapes) service
    ++ optional place (codes "conversational") truth service

abbrev pub is_array_of_tables : Option Data → Bool
is_array_of_tables None = true
is_array_of_tables (Some (array values)) = list_all is_table (list_of values)
is_array_of_tables (Some _) = false

-- the faults of an entry, at its place in the table of that name
abbrev pub at_entry : List ℕ → (List ℕ → List (List ℕ) → Data → List Fault) → List Data → Data → List Fault
at_entry key entry earlier value = entry (indexed key (length earlier)) (names_of earlier) value

-- an array of `least` to `most` tables, where an absent one has no entry
unfoldable pub table_faults : List ℕ → ℕ → ℕ → (List ℕ → List (List ℕ) → Data → List Fault) → Data → List Fault
table_faults key least most entry document =
    at_key key (expects (is_array_of_tables (get key document)) wrong_type)
    ++ at_key key (expects (nat_le least (length (list_at key document))) missing_key)
    ++ at_key key (expects (nat_le (length (list_at key document)) most) too_many)
    ++ in_order (at_entry key entry) [] (list_at key document)

-- each queue of all services is a row, of which there are at most 256
unfoldable pub rows_faults : List Data → List Fault
rows_faults services =
    at_key (codes "service") (expects (nat_le (sum_by (λ service. length (list_at (codes "queues") service)) services) 256) too_many)

-- each queue from that place on is one that a server names
unfoldable pub unserved : List (List ℕ) → ℕ → List (List ℕ) → List Fault
unserved named place [] = []
unserved named place (queue ∷ queues) =
    at_key (indexed (codes "queue") place) (expects (is_among named queue) no_server) ++ unserved named (suc place) queues

-- top-level keys that aren't tables of the configuration
unfoldable pub unknown_tables : Data → List Fault
unknown_tables document =
    map (λ key. record { number = unknown_key; key = key })
    (unknown_in (codes "domain" ∷ codes "shape" ∷ codes "queue" ∷ codes "server" ∷ codes "service" ∷ []) document)

-- all faults of a document: the first is the one that is told
unfoldable pub faults_of : Data → List Fault
faults_of document =
    let queues = list_at (codes "queue") document in
    let servers = list_at (codes "server") document in
    let services = list_at (codes "service") document in
    let shapes = list_at (codes "shape") document in
    unknown_tables document
    ++ domain_faults (get (codes "domain") document)
    ++ table_faults (codes "shape") 0 64 shape_faults document
    ++ table_faults (codes "queue") 1 64 queue_faults document
    ++ table_faults (codes "server") 1 64 (server_faults (names_of queues)) document
    ++ table_faults (codes "service") 0 256 (service_faults (names_of queues) (names_of shapes)) document
    ++ rows_faults services
    ++ unserved (map (text_at (codes "queue") []) servers) 0 (names_of queues)
