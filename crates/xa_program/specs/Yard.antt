-- What a run asks of its yard (this project's own).
use Rattle.std.specs.Prelude.{◌≡◌, ◌⊎◌, ℕ, List, Option, Some}
use Rattle.xa_domain.specs.xa_types.declared.setup.Setup.{Setup}
use Rattle.xa_domain.specs.xa_link.Starts.{AsksStarters}
use Rattle.xa_program.specs.declared.words.Command.{Command}
use Rattle.xa_program.specs.declared.words.Command.TheVariants.{Audit, Server}
use Rattle.xa_program.specs.declared.status.Status.{Status}
use Rattle.xa_program.specs.declared.status.Status.TheVariants.{Done, WriteFault, NoMemory, Worn}
use Rattle.xa_program.specs.Configuration.{IsSetup}

-- the yard was asked once for starters, for the command's setup
abbrev pub AsksOnce : (List ℕ → Option (Option (List ℕ))) → Command → Option (List Setup) → Option (List Setup) → Type 0
AsksOnce file command before after = (setup : Setup) × IsSetup file command setup × AsksStarters before after setup

-- for which setups the yard was asked for starters, before and after: `run CONFIG`, `record CONFIG` and `play SERVICE` ask once, for their setup, where a
-- script was served, and once or not at all where memory ran out; nothing else asks
abbrev pub AsksYard : (List ℕ → Option (Option (List ℕ))) → Option Command → Status → Option (List Setup) → Option (List Setup) → Type 0
AsksYard file (Some (Server name)) status before after = after ≡ before
AsksYard file (Some (Audit name)) status before after = after ≡ before
AsksYard file (Some command) Done before after = AsksOnce file command before after
AsksYard file (Some command) WriteFault before after = AsksOnce file command before after
AsksYard file (Some command) (Worn stamp) before after = AsksOnce file command before after
AsksYard file (Some command) NoMemory before after = (after ≡ before) ⊎ AsksOnce file command before after
AsksYard file command status before after = after ≡ before
