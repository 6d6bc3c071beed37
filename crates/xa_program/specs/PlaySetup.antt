-- The setup of `play SERVICE`: one queue, one server on it without restart, and one service with the routine of its name (after Tuxedo,
-- UBBCONFIG).
use Rattle.std.specs.Prelude.{ℕ, false, List, [], ◌∷◌, None, codes}
use Rattle.xa_domain.specs.xa_types.declared.setup.Setup.{Setup}
use Rattle.xa_domain.specs.xa_types.Rows.{all_kinds}

-- the name of the one server
abbrev pub server_name : List ℕ
server_name = codes "S"

abbrev pub play_setup : List ℕ → Setup
play_setup service = record {
  block_time = 60;
  blocks = 16;
  shapes = [];
  queues = (record { name = codes "Q"; group = codes "MAIN"; capacity = 100 }) ∷ [];
  servers = (record { name = server_name; queue = codes "Q"; program = None; restart = false; maxgen = 1; grace = 86400 }) ∷ [];
  services = (record { name = service; routine = service; queues = codes "Q" ∷ []; priority = 50; accepts = all_kinds; conversational = false }) ∷ [];
}
