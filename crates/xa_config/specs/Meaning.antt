-- The setup that a configuration without a fault says (this project's own; the defaults are in part after Tuxedo, UBBCONFIG).
use Rattle.std.specs.Prelude.{ℕ, ◌+◌, ◌*◌, Bool, false, if◌then◌else◌, List, [], ◌∷◌, ◌++◌, map, codes, Option, Some, None, option_map, unwrap_or}
use Rattle.toml.specs.Data.{Data, get}
use Rattle.xa_types.specs.Configured.{is_among}
use Rattle.xa_types.specs.Rows.{all_kinds}
use Rattle.xa_types.specs.declared.row.Accepts.{Accepts}
use Rattle.xa_types.specs.declared.setup.Setup.{Setup}
use Rattle.xa_types.specs.declared.setup.ShapeSetup.{ShapeSetup}
use Rattle.xa_types.specs.declared.setup.QueueSetup.{QueueSetup}
use Rattle.xa_types.specs.declared.setup.ServerSetup.{ServerSetup}
use Rattle.xa_types.specs.declared.setup.ServiceSetup.{ServiceSetup}
use Rattle.xa_config.specs.Field.{field_of}
use Rattle.xa_config.specs.Kinds.{text_in, number_in, truth_in, list_in}

-- what a key of a table says, or the default where it isn't there
unfoldable pub number_at : List ℕ → ℕ → Data → ℕ
number_at key default entry = unwrap_or (option_map number_in (get key entry)) default

unfoldable pub truth_at : List ℕ → Data → Bool
truth_at key entry = unwrap_or (option_map truth_in (get key entry)) false

unfoldable pub text_at : List ℕ → List ℕ → Data → List ℕ
text_at key default entry = unwrap_or (option_map text_in (get key entry)) default

unfoldable pub list_at : List ℕ → Data → List Data
list_at key entry = unwrap_or (option_map list_in (get key entry)) []

-- the name of an entry
abbrev pub name_of : Data → List ℕ
name_of entry = text_at (codes "name") [] entry

abbrev pub names_of : List Data → List (List ℕ)
names_of entries = map name_of entries

unfoldable pub shape_of : Data → ShapeSetup
shape_of shape = record {
  name = name_of shape;
  fields = map (λ value. field_of (text_in value)) (list_at (codes "fields") shape);
}

unfoldable pub queue_of : Data → QueueSetup
queue_of queue = record {
  name = name_of queue;
  group = text_at (codes "group") (codes "MAIN") queue;
  capacity = number_at (codes "capacity") 100 queue;
}

unfoldable pub server_of : Data → ServerSetup
server_of server = record {
  name = name_of server;
  queue = text_at (codes "queue") [] server;
  program = option_map text_in (get (codes "program") server);
  restart = truth_at (codes "restart") server;
  maxgen = number_at (codes "maxgen") 1 server;
  grace = number_at (codes "grace") 86400 server;
}

-- bit n is set where the n-th shape, from 0, is accepted
unfoldable pub bits_of : List (List ℕ) → List (List ℕ) → ℕ
bits_of accepted [] = 0
bits_of accepted (shape ∷ shapes) = (if is_among accepted (codes "c:" ++ shape) then 1 else 0) + 2 * bits_of accepted shapes

-- the kinds that `accepts` lists, or all
unfoldable pub accepts_of : List (List ℕ) → Option Data → Accepts
accepts_of shapes None = all_kinds
accepts_of shapes (Some value) =
    let accepted = map text_in (list_in value) in
    record { octet = is_among accepted (codes "octet"); structs = bits_of accepted shapes }

-- a service, where these are the names of the shapes
unfoldable pub service_of : List (List ℕ) → Data → ServiceSetup
service_of shapes service = record {
  name = name_of service;
  routine = text_at (codes "routine") (name_of service) service;
  queues = map text_in (list_at (codes "queues") service);
  priority = number_at (codes "priority") 50 service;
  accepts = accepts_of shapes (get (codes "accepts") service);
  conversational = truth_at (codes "conversational") service;
}

-- a number of the table `domain`, or the default where the key or the table isn't there
unfoldable pub domain_number : List ℕ → ℕ → Option Data → ℕ
domain_number key default domain = unwrap_or (option_map (number_at key default) domain) default

unfoldable pub setup_of : Data → Setup
setup_of document = record {
  block_time = domain_number (codes "blocktime") 60 (get (codes "domain") document);
  blocks = domain_number (codes "blocks") 256 (get (codes "domain") document);
  shapes = map shape_of (list_at (codes "shape") document);
  queues = map queue_of (list_at (codes "queue") document);
  servers = map server_of (list_at (codes "server") document);
  services = map (service_of (names_of (list_at (codes "shape") document))) (list_at (codes "service") document);
}
