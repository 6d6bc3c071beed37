use Rattle.std.proofs.Common.{◌∙◌, ◌≡◌, Some, sym}
use Rattle.xa_program.specs.declared.words.Command.TheVariants.{Audit, Server}
use Rattle.xa_program.specs.Configuration.{shelf_by}
use Rattle.xa_program.proofs.Complete.{nothing_else}
use Rattle.xa_program.proofs.Judging.{judged}
use Rattle.std.proofs.lemmas.Option.{none-some}
use Rattle.xa_program.proofs.top.run.Goals as goal

pub returns-in-Ok-Some-clause-ends : goal.returns-in-Ok-Some-clause-ends
returns-in-Ok-Some-clause-ends g c command is serves =
    let both : Some c.in-Ok-Some.command ≡ Some command = sym c.in-Ok-Some.field-0-is ∙ c.in-Ok-Some.ensures.found ∙ is in
    let same : c.in-Ok-Some.command ≡ command = cc both in
    let ends = rw same at c.obey.ensures.ends in
    ends serves

pub returns-in-Ok-Some-clause-server : goal.returns-in-Ok-Some-clause-server
returns-in-Ok-Some-clause-server g c name is =
    let both : Some c.in-Ok-Some.command ≡ Some (Server name) = sym c.in-Ok-Some.field-0-is ∙ c.in-Ok-Some.ensures.found ∙ is in
    c.obey.ensures.server name (cc both)

pub returns-in-Ok-Some-clause-complete : goal.returns-in-Ok-Some-clause-complete
returns-in-Ok-Some-clause-complete g c command setup octets script is serves configured told short is_script files reads writes =
    let both : Some c.in-Ok-Some.command ≡ Some command = sym c.in-Ok-Some.field-0-is ∙ c.in-Ok-Some.ensures.found ∙ is in
    let same : c.in-Ok-Some.command ≡ command = cc both in
    let ends = rw same at c.obey.ensures.ends in
    nothing_else _ _ _ command c.obey.result.status _ setup octets script (ends serves) configured told short is_script files reads writes

pub returns-in-Ok-Some-clause-audit : goal.returns-in-Ok-Some-clause-audit
returns-in-Ok-Some-clause-audit g c name is =
    let both : Some c.in-Ok-Some.command ≡ Some (Audit name) = sym c.in-Ok-Some.field-0-is ∙ c.in-Ok-Some.ensures.found ∙ is in
    c.obey.ensures.audit name (cc both)

pub returns-in-Ok-Some-clause-judged : goal.returns-in-Ok-Some-clause-judged
returns-in-Ok-Some-clause-judged g c name octets is told files writes =
    let both : Some c.in-Ok-Some.command ≡ Some (Audit name) = sym c.in-Ok-Some.field-0-is ∙ c.in-Ok-Some.ensures.found ∙ is in
    let ends = c.obey.ensures.audit name (cc both) in
    judged (shelf_by g.S.Shelf.shows c.args.shelf.now c.obey.new.shelf) name octets (g.O.Sink.shows c.args.out.now) (g.O.Sink.shows c.obey.new.out) c.obey.result.status told files writes ends.0

-- ---- the words are no command's

pub returns-in-Ok-None-clause-ends : goal.returns-in-Ok-None-clause-ends
returns-in-Ok-None-clause-ends g c command is =
    let none = sym c.in-Ok-None.ensures.found ∙ c.in-Ok-None.field-0-is in
    absurd (none-some command (sym none ∙ is))

pub returns-in-Ok-None-clause-complete : goal.returns-in-Ok-None-clause-complete
returns-in-Ok-None-clause-complete g c command setup octets script is =
    let none = sym c.in-Ok-None.ensures.found ∙ c.in-Ok-None.field-0-is in
    absurd (none-some command (sym none ∙ is))

pub returns-in-Ok-None-clause-server : goal.returns-in-Ok-None-clause-server
returns-in-Ok-None-clause-server g c name is =
    let none = sym c.in-Ok-None.ensures.found ∙ c.in-Ok-None.field-0-is in
    absurd (none-some (Server name) (sym none ∙ is))

pub returns-in-Ok-None-clause-audit : goal.returns-in-Ok-None-clause-audit
returns-in-Ok-None-clause-audit g c name is =
    let none = sym c.in-Ok-None.ensures.found ∙ c.in-Ok-None.field-0-is in
    absurd (none-some (Audit name) (sym none ∙ is))

pub returns-in-Ok-None-clause-judged : goal.returns-in-Ok-None-clause-judged
returns-in-Ok-None-clause-judged g c name octets is =
    let none = sym c.in-Ok-None.ensures.found ∙ c.in-Ok-None.field-0-is in
    absurd (none-some (Audit name) (sym none ∙ is))
