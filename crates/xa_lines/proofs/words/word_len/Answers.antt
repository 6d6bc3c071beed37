use Rattle.std.proofs.Common.{◌≤◌, not, length, unwrap_or, sym, ap, ◌∙◌, subst}
use Rattle.std.proofs.lemmas.List.Sums.{prefix_len-le-length}
use Rattle.xa_lines.specs.Reading.{is_space}
use Rattle.xa_lines.proofs.Cutting.{unwrapped}
use Rattle.xa_lines.proofs.words.word_len.Goals as goal

pub returns-clause-place : goal.returns-clause-place
returns-clause-place c =
    c.unwrap_or.ensures ∙ ap (λ place. unwrap_or place (length c.args.octets.now)) c.place_of_space.ensures
    ∙ unwrapped _ (length c.args.octets.now) (prefix_len-le-length (λ octet. not (is_space octet)) c.args.octets.now)

pub returns-clause-within : goal.returns-clause-within
returns-clause-within c =
    subst (λ n. n ≤ length c.args.octets.now) (sym (returns-clause-place c)) (prefix_len-le-length (λ octet. not (is_space octet)) c.args.octets.now)
