use Rattle.std.proofs.Common.{rules, ◌≡◌, ◌++◌, ◌∙◌, ap, List, ℕ, length, append_assoc, OnOk}
use Rattle.std.proofs.lemmas.Result.{on_ok_weaker}
use Rattle.xa_frame.specs.Spelling.{body_octets, header}
use Rattle.xa_frame.specs.declared.frame.Body.{Body}
use Rattle.xa_frame.specs.declared.frame.Body.TheVariants.{Reply}
use Rattle.xa_frame.proofs.writing.append_reply.Goals as goal

pub returns : goal.returns
returns c =
    let body : Body = Reply c.args.reply.now in
    let front = header 0x12 (length (body_octets body)) c.args.tag in
    let head : c.put_header.new.out.items ≡ c.args.out.now.items ++ front = search rules in
    let put : OnOk c.put_reply.result (c.put_reply.new.out.items ≡ c.put_header.new.out.items ++ body_octets body) = search (rules, c.put_reply.ensures) in
    on_ok_weaker c.put_reply.result (λ same. same ∙ ap (λ (octets : List ℕ). octets ++ body_octets body) head ∙ append_assoc c.args.out.now.items front (body_octets body)) put
