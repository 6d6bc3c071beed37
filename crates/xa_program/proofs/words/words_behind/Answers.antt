use Rattle.std.proofs.Common.{ℕ, List, subst}
use Rattle.std.specs.Prelude.{IsErrOf, All}
use Rattle.std.specs.Str.{IsUtf8}
use Rattle.xa_program.specs.declared.status.Status.TheVariants.{Usage}
use Rattle.xa_program.proofs.Given.{whole_behind}
use Rattle.xa_program.proofs.words.words_behind.Goals as goal

pub returns-in-len1-up-clause-usage : goal.returns-in-len1-up-clause-usage
returns-in-len1-up-clause-usage c =
    subst (λ (words : List (List ℕ)). IsErrOf c.texts_of.result Usage → All IsUtf8 words → ⊥) (whole_behind c.args.all.now) c.texts_of.ensures.usage
