use Rattle.std.proofs.Common.{◌≡◌, Option, IfOk, OnErr, string_bytes, subst}
use Rattle.xa_program.specs.declared.words.Command.{Command}
use Rattle.xa_program.specs.Words.{NamesFile}
use Rattle.xa_program.proofs.Given.{two_words}
use Rattle.xa_program.proofs.words.read_words.Goals as goal

pub returns-in-len2-clause-found : goal.returns-in-len2-clause-found
returns-in-len2-clause-found c =
    subst (λ (command : Option Command). IfOk c.command_of.result (λ found. found ≡ command))
    (two_words string_bytes c.args.words.now c.command-item.result c.argument-item.result c.as_str.result.now c.as_str-in-len2.result.now c.in-len2.len_at_least c.in-len2.len_below
    c.command-item.is c.argument-item.is c.as_str.ensures.value c.as_str-in-len2.ensures.value) c.command_of.ensures.found

pub returns-in-len2-clause-starved : goal.returns-in-len2-clause-starved
returns-in-len2-clause-starved c =
    subst (λ (command : Option Command). OnErr c.command_of.result (NamesFile command))
    (two_words string_bytes c.args.words.now c.command-item.result c.argument-item.result c.as_str.result.now c.as_str-in-len2.result.now c.in-len2.len_at_least c.in-len2.len_below
    c.command-item.is c.argument-item.is c.as_str.ensures.value c.as_str-in-len2.ensures.value) c.command_of.ensures.starved
