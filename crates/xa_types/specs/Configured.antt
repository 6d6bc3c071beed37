-- Which setups a configuration may describe: the ranges of its values, names that differ, and references to what is configured (after Tuxedo,
-- UBBCONFIG; the limits and the form are this project's own). That a name is a name its type says.
use Rattle.std.specs.Prelude.{ℕ, ◌^◌, ◌==◌, ◌&&◌, ◌||◌, not, nat_le, nat_lt, Bool, true, List, [], ◌∷◌, length, map, Option, None, Some}
use Rattle.std.specs.List.{list_all, list_any, sum_by}
use Rattle.std.specs.Str.{bytes_eq}
use Rattle.xa_types.specs.declared.row.Accepts.{Accepts}
use Rattle.xa_types.specs.declared.setup.Setup.{Setup}
use Rattle.xa_types.specs.declared.setup.ShapeSetup.{ShapeSetup}
use Rattle.xa_types.specs.declared.setup.FieldSetup.{FieldSetup}
use Rattle.xa_types.specs.declared.setup.FieldKind.{FieldKind}
use Rattle.xa_types.specs.declared.setup.FieldKind.TheVariants.{Short, Int, Long, Char, Text}
use Rattle.xa_types.specs.declared.setup.QueueSetup.{QueueSetup}
use Rattle.xa_types.specs.declared.setup.ServerSetup.{ServerSetup}
use Rattle.xa_types.specs.declared.setup.ServiceSetup.{ServiceSetup}
use Rattle.xa_types.specs.Name.{is_identifier}

abbrev pub is_within : ℕ → ℕ → ℕ → Bool
is_within least most n = nat_le least n && nat_le n most

-- whether the name is one of these
abbrev pub is_among : List (List ℕ) → List ℕ → Bool
is_among names name = list_any (bytes_eq name) names

-- no name stands there twice
abbrev pub are_distinct : List (List ℕ) → Bool
are_distinct [] = true
are_distinct (name ∷ names) = not (is_among names name) && are_distinct names

-- a text has 1 to 1,024 octets; the other kinds have one size each
abbrev pub is_valid_kind : FieldKind → Bool
is_valid_kind Short = true
is_valid_kind Int = true
is_valid_kind Long = true
is_valid_kind Char = true
is_valid_kind (Text n) = is_within 1 1024 n

abbrev pub is_valid_field : FieldSetup → Bool
is_valid_field field = is_identifier field.name && is_valid_kind field.kind

abbrev pub field_names : List FieldSetup → List (List ℕ)
field_names fields = map (λ (field : FieldSetup). field.name) fields

-- a shape is named by an identifier and has 1 to 64 fields, whose names are identifiers and differ
abbrev pub is_valid_shape : ShapeSetup → Bool
is_valid_shape shape = is_identifier shape.name && is_within 1 64 (length shape.fields)
    && list_all is_valid_field shape.fields && are_distinct (field_names shape.fields)

abbrev pub is_valid_queue : QueueSetup → Bool
is_valid_queue queue = is_within 1 10000 queue.capacity

-- a configured program has 1 to 255 octets
abbrev pub is_valid_program : Option (List ℕ) → Bool
is_valid_program None = true
is_valid_program (Some octets) = is_within 1 255 (length octets)

-- a server is of one of these queues
abbrev pub is_valid_server : List (List ℕ) → ServerSetup → Bool
is_valid_server queues server = is_among queues server.queue && is_valid_program server.program
    && is_within 1 255 server.maxgen && is_within 1 2147483647 server.grace

-- a service accepts all kinds, or X_OCTET or not and some of so many shapes
abbrev pub is_valid_accepts : ℕ → Accepts → Bool
is_valid_accepts shapes accepts = (accepts.octet && (accepts.structs == 18446744073709551615)) || nat_lt accepts.structs (2 ^ shapes)

-- a service is on 1 to 64 of these queues, on each once
abbrev pub is_valid_service : List (List ℕ) → ℕ → ServiceSetup → Bool
is_valid_service queues shapes service = is_within 1 64 (length service.queues) && list_all (is_among queues) service.queues
    && are_distinct service.queues && is_within 1 100 service.priority && is_valid_accepts shapes service.accepts

abbrev pub shape_names : Setup → List (List ℕ)
shape_names setup = map (λ (shape : ShapeSetup). shape.name) setup.shapes

abbrev pub queue_names : Setup → List (List ℕ)
queue_names setup = map (λ (queue : QueueSetup). queue.name) setup.queues

abbrev pub server_names : Setup → List (List ℕ)
server_names setup = map (λ (server : ServerSetup). server.name) setup.servers

abbrev pub service_names : Setup → List (List ℕ)
service_names setup = map (λ (service : ServiceSetup). service.name) setup.services

abbrev pub are_valid_shapes : Setup → Bool
are_valid_shapes setup = nat_le (length setup.shapes) 64 && list_all is_valid_shape setup.shapes && are_distinct (shape_names setup)

abbrev pub are_valid_queues : Setup → Bool
are_valid_queues setup = is_within 1 64 (length setup.queues) && list_all is_valid_queue setup.queues && are_distinct (queue_names setup)

abbrev pub are_valid_servers : Setup → Bool
are_valid_servers setup = is_within 1 64 (length setup.servers) && list_all (is_valid_server (queue_names setup)) setup.servers
    && are_distinct (server_names setup)

-- the services have at most 256 rows together
abbrev pub are_valid_services : Setup → Bool
are_valid_services setup = nat_le (length setup.services) 256
    && list_all (is_valid_service (queue_names setup) (length setup.shapes)) setup.services && are_distinct (service_names setup)
    && nat_le (sum_by (λ (service : ServiceSetup). length service.queues) setup.services) 256

-- a server takes from each queue
abbrev pub are_served : Setup → Bool
are_served setup = list_all (is_among (map (λ (server : ServerSetup). server.queue) setup.servers)) (queue_names setup)

-- a configuration may describe the setup; without a `domain` table block_time is 60 and blocks 256
abbrev pub is_configured : Setup → Bool
is_configured setup = is_within 1 2147483647 setup.block_time && is_within 1 4096 setup.blocks
    && are_valid_shapes setup && are_valid_queues setup && are_valid_servers setup && are_valid_services setup && are_served setup
