use Rattle.std.proofs.Common.{◌≡◌, ◌∙◌, ap, length, take, subst, IfOk, Option, List, ℕ}
use Rattle.std.specs.Option.{unwrap_or}
use Rattle.xa_buffer.proofs.Texts.{unwrap_or-position}
use Rattle.xa_buffer.proofs.value.read_text.Goals as goal

pub returns : goal.returns
returns c =
    let octets = c.args.octets.now in
    subst (λ (n : ℕ). IfOk c.of.result (λ (text : List ℕ). text ≡ take n octets))
    (c.unwrap_or-end.ensures ∙ (ap (λ (o : Option ℕ). unwrap_or o (length octets)) c.first_zero.ensures ∙ unwrap_or-position octets))
    c.of.ensures
