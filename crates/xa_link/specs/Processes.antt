-- What the command is that starts a server's process.
use Rattle.std.specs.Prelude.{◌≡◌, ℕ, List, [], ◌∷◌, false, Option, None, IfSome, codes}
use Rattle.std.specs.Process.{command_program, command_args, command_var, command_dir, clears_env}
use Rattle.std.specs.declared.process.command.Command.{Command}

-- it starts that program with the words `server` and that name, in the monitor's folder, and with the monitor's environment as it is
pub record StartsServer {A : Type 0} (program name : List ℕ) (command : Command A) : Type 0 where
  pub program_is : command_program command ≡ program
  pub words : command_args command ≡ codes "server" ∷ name ∷ []
  pub inherits : clears_env command ≡ false
  pub changes_none : (variable : List ℕ) → command_var command variable ≡ None
  pub folder : command_dir command ≡ None

-- where a program is configured, it is that one
abbrev pub IsChosen : Option (List ℕ) → List ℕ → Type 0
IsChosen configured program = IfSome configured (λ octets. program ≡ octets)
