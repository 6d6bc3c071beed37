use Rattle.std.proofs.Common.{List, ℕ, codes, ap, ◌∙◌}
use Rattle.toml.specs.View.{view}
use Rattle.xa_types.specs.declared.setup.QueueSetup.{QueueSetup}
use Rattle.xa_config.specs.Meaning.{queue_of, text_at, name_of}
use Rattle.xa_config.specs.Tables.{queue_faults}
use Rattle.xa_config.proofs.tables.QueuesRows.read.Goals as goal

abbrev with : List ℕ → List ℕ → ℕ → QueueSetup
with name group capacity = record { name = name; group = group; capacity = capacity }

pub returns-clause-read : goal.returns-clause-read
unfolding queue_faults queue_of
returns-clause-read c =
    let d = view c.args.entry.now.table.now in
    let main = ap (λ default. text_at (codes "group") default d) c.main_group.ensures in (
      rw (c.in_ok-no_unknown.ensures, c.in_ok-name.ensures.0, c.in_ok-group.ensures.0, c.in_ok-capacity.ensures.read.0),
      ap (λ name. with name c.in_ok-group.group c.in_ok-capacity.capacity) c.in_ok-name.ensures.1
          ∙ ap (λ group. with (name_of d) group c.in_ok-capacity.capacity) (c.in_ok-group.ensures.1 ∙ main)
          ∙ ap (λ capacity. with (name_of d) (text_at (codes "group") (codes "MAIN") d) capacity) c.in_ok-capacity.ensures.read.1,
    )
