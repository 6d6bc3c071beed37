-- A row whose fields are what the keys of its entry say is the row that the entry says.
use Rattle.std.proofs.Common.{◌≡◌, ℕ, Bool, List, [], map, codes, Option, option_map, ap, ◌∙◌}
use Rattle.toml.specs.Data.{Data, get}
use Rattle.xa_types.specs.declared.row.Accepts.{Accepts}
use Rattle.xa_types.specs.declared.setup.ServerSetup.{ServerSetup}
use Rattle.xa_types.specs.declared.setup.ServiceSetup.{ServiceSetup}
use Rattle.xa_config.specs.Kinds.{text_in}
use Rattle.xa_config.specs.Meaning.{name_of, text_at, number_at, truth_at, list_at, accepts_of, server_of, service_of}

abbrev pub server_with : List ℕ → List ℕ → Option (List ℕ) → Bool → ℕ → ℕ → ServerSetup
server_with name queue program restart maxgen grace =
    record { name = name; queue = queue; program = program; restart = restart; maxgen = maxgen; grace = grace }

pub server_is : (d : Data) (name queue : List ℕ) (program : Option (List ℕ)) (restart : Bool) (maxgen grace : ℕ)
    → name ≡ name_of d → queue ≡ text_at (codes "queue") [] d → program ≡ option_map text_in (get (codes "program") d)
    → restart ≡ truth_at (codes "restart") d → maxgen ≡ number_at (codes "maxgen") 1 d → grace ≡ number_at (codes "grace") 86400 d
    → server_with name queue program restart maxgen grace ≡ server_of d
unfolding server_of
server_is d name queue program restart maxgen grace a b c e f g = cc

abbrev pub service_with : List ℕ → List ℕ → List (List ℕ) → ℕ → Accepts → Bool → ServiceSetup
service_with name routine queues priority accepts conversational =
    record { name = name; routine = routine; queues = queues; priority = priority; accepts = accepts; conversational = conversational }

pub service_is : (shapes : List (List ℕ)) (d : Data) (name routine : List ℕ) (queues : List (List ℕ)) (priority : ℕ) (accepts : Accepts) (conversational : Bool)
    → name ≡ name_of d → routine ≡ text_at (codes "routine") name d → queues ≡ map text_in (list_at (codes "queues") d)
    → priority ≡ number_at (codes "priority") 50 d → accepts ≡ accepts_of shapes (get (codes "accepts") d) → conversational ≡ truth_at (codes "conversational") d
    → service_with name routine queues priority accepts conversational ≡ service_of shapes d
unfolding service_of
service_is shapes d name routine queues priority accepts conversational a b c e f g = let b' = b ∙ ap (λ n. text_at (codes "routine") n d) a in cc
