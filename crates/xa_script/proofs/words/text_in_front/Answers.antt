use Rattle.std.proofs.Common.{[], ◌∷◌, ◌++◌, ap, sym, ◌∙◌, append-nil}
use Rattle.xa_script.specs.Words.{put, text_in_front}
use Rattle.xa_script.proofs.Texts.{one_octet, no_octet, put-put}
use Rattle.xa_script.proofs.words.text_in_front.Goals as goal

pub loop-octet-preserved : goal.loop-octet-preserved
loop-octet-preserved c =
    let text = c.loop-octet.text.items in
    let after = text_in_front c.in-Some.after.now in
    ap (λ front. put front after) c.in_ok-push.ensures.items
    ∙ sym (put-put text (c.in-Some.octet ∷ []) after)
    ∙ ap (λ x. put text x) (sym (one_octet c.loop-octet.rest.now c.in-Some.octet c.in-Some.after.now (sym c.in-Some.ensures)))
    ∙ c.loop-octet.invariant

pub returns-clause-text : goal.returns-clause-text
returns-clause-text c =
    let text = c.loop-octet.text.items in
    sym (append-nil text) ∙ sym (ap (λ x. text ++ x.0) (no_octet c.loop-octet.rest.now (sym c.in_default.ensures))) ∙ ap (λ x. x.0) c.loop-octet.invariant

pub returns-clause-rest : goal.returns-clause-rest
returns-clause-rest c =
    sym (ap (λ x. x.1) (no_octet c.loop-octet.rest.now (sym c.in_default.ensures))) ∙ ap (λ x. x.1) c.loop-octet.invariant
