use Rattle.std.proofs.Common.{rules, ◌≡◌, ◌++◌, ◌∙◌, ap, List, ℕ, length, append_assoc, OnOk}
use Rattle.std.proofs.lemmas.Result.{on_ok_weaker}
use Rattle.xa_frame.specs.Spelling.{kind_octet, body_octets, header}
use Rattle.xa_frame.proofs.writing.put_frame.Goals as goal

pub returns : goal.returns
returns c =
    let body = c.args.frame.now.body in
    let front = header (kind_octet body) (length (body_octets body)) c.args.frame.now.tag in
    let head : c.put_header.new.out.items ≡ c.args.out.now.items ++ front = search rules in
    let put : OnOk c.put_body.result (c.put_body.new.out.items ≡ c.put_header.new.out.items ++ body_octets body) = search (rules, c.put_body.ensures) in
    on_ok_weaker c.put_body.result (λ same. same ∙ ap (λ (octets : List ℕ). octets ++ body_octets body) head ∙ append_assoc c.args.out.now.items front (body_octets body)) put
