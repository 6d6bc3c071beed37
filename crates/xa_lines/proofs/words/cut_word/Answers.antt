use Rattle.std.proofs.Common.{take, drop, ap, ◌∙◌, sym, ◌∷◌}
use Rattle.xa_lines.specs.Reading.{words_in}
use Rattle.xa_lines.proofs.Cutting.{cut}
use Rattle.xa_lines.proofs.words.cut_word.Goals as goal

pub returns : goal.returns
returns c =
    let octets = c.args.octets.now in
    cut octets
    ∙ ap (λ n. take n octets ∷ words_in (drop n octets)) (sym c.word_len.ensures.place)
    ∙ ap (λ w. w ∷ words_in (drop c.word_len.result octets)) (sym c.split_at.ensures.front)
    ∙ ap (λ r. c.split_at.result.0.now ∷ words_in r) (sym c.split_at.ensures.back)
