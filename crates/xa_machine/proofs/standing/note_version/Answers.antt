use Rattle.std.proofs.Common.{ap, sym, ◌∙◌, refl}
use Rattle.xa_events.specs.Board.{change_in}
use Rattle.xa_machine.specs.Versions.{version_rows}
use Rattle.xa_machine.proofs.Boards.{version_noted, none_noted}
use Rattle.xa_machine.proofs.standing.note_version.Goals as goal

pub returns-in-Some : goal.returns-in-Some
returns-in-Some c = λ setup e past next was.
    rw c.push_reserved.ensures.items (version_noted setup e past c.args.versions.now.items c.in-Some.version (change_in e) refl (sym (ap version_rows c.in-Some.is) ∙ next) was)

pub returns-in_default : goal.returns-in_default
returns-in_default c = λ setup e past next was.
    none_noted setup e past c.args.versions.now.items (change_in e) refl (sym (ap version_rows c.in_default.is) ∙ next) was
