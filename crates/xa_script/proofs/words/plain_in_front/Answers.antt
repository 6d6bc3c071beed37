use Rattle.std.proofs.Common.{not, length, take, unwrap_or, ap, ◌∙◌}
use Rattle.std.specs.List.{position_or_len}
use Rattle.std.proofs.lemmas.List.Sums.{prefix_len-le-length}
use Rattle.xa_script.specs.Words.{is_marked, put, text_in_front}
use Rattle.xa_script.proofs.Texts.{unwrapped, split, plain_octets}
use Rattle.xa_script.proofs.words.plain_in_front.Goals as goal

pub returns : goal.returns
returns c =
    let octets = c.args.octets.now in
    let place = c.unwrap_or.ensures ∙ ap (λ place. unwrap_or place (length octets)) c.place_of_mark.ensures
    ∙ unwrapped (position_or_len is_marked octets) (length octets) (prefix_len-le-length (λ octet. not (is_marked octet)) octets) in
    ap (λ front. put front (text_in_front c.split_at.result.1.now)) c.split_at.ensures.front
    ∙ ap (λ back. put (take c.unwrap_or.result octets) (text_in_front back)) c.split_at.ensures.back
    ∙ ap (λ n. split n octets) place
    ∙ plain_octets octets
