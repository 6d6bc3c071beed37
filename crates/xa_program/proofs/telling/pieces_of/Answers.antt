use Rattle.std.proofs.Common.{◌≡◌, ◌∙◌, length, ap}
use Rattle.std.proofs.lemmas.List.{length-map}
use Rattle.xa_domain.specs.xa_script.declared.script.Client.{Client}
use Rattle.xa_program.proofs.telling.pieces_of.Goals as goal

pub transcript-requires : goal.transcript-requires
transcript-requires c =
    let all : length c.as_slice.result.now ≡ length c.args.clients.now =
    ap length (c.as_slice.ensures.value ∙ c.in_ok-names.ensures) ∙ length-map c.args.clients.now (λ (client : Client). client.name) in
    rw all c.requires.turns
