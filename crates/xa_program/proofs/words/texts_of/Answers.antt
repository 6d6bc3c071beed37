use Rattle.std.proofs.Common.{rules, ◌≡◌, Err, ap, sym, subst}
use Rattle.std.specs.Str.{IsUtf8}
use Rattle.xa_program.specs.declared.status.Status.TheVariants.{Usage}
use Rattle.xa_program.proofs.words.texts_of.Goals as goal

pub returns-in-Err-clause-usage : goal.returns-in-Err-clause-usage
returns-in-Err-clause-usage c is all =
    let same : c.in-Err.status ≡ Usage = cc is in
    c.in-Err.ensures.usage (ap Err same) (subst IsUtf8 (sym c.word-item.is) (all c.loop-word.word-index c.word-item.result (search rules)))
