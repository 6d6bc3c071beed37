-- What a run asks of its yard, by how it ends.
use Rattle.std.proofs.Common.{ℕ, List, Option, Some, inr, inl}
use Rattle.xa_domain.specs.xa_types.declared.setup.Setup.{Setup}
use Rattle.xa_program.specs.declared.words.Command.{Command}
use Rattle.xa_program.specs.declared.words.Command.TheVariants.{Audit, Server}
use Rattle.xa_program.specs.declared.status.Status.{Status}
use Rattle.xa_program.specs.declared.status.Status.TheVariants.{Done, WriteFault, NoMemory, Worn}
use Rattle.xa_program.specs.Configuration.{IsSetup}
use Rattle.xa_program.specs.Progress.{AsksBy}
use Rattle.xa_program.specs.Yard.{AsksYard}

-- the setup for which it was asked is the command's
pub asks_yard : (file : List ℕ → Option (Option (List ℕ))) (command : Command) (setup : Setup) (status : Status) (before after : Option (List Setup)) → IsSetup file command setup → AsksBy setup status before after
    → AsksYard file (Some command) status before after
asks_yard file (Server name) setup status before after is asked = absurd is
asks_yard file (Audit name) setup status before after is asked = absurd is
asks_yard file command setup Done before after is asked = (setup, is, asked)
asks_yard file command setup WriteFault before after is asked = (setup, is, asked)
asks_yard file command setup (Worn stamp) before after is asked = (setup, is, asked)
asks_yard file command setup NoMemory before after is (inl none) = inl none
asks_yard file command setup NoMemory before after is (inr asked) = inr (setup, is, asked)
asks_yard file command setup status before after is asked = asked
