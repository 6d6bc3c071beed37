use Rattle.std.proofs.Common.{sym, ap, subst, refl}
use Rattle.std.specs.Prelude.{IfOk, IfErr}
use Rattle.xa_server.specs.xa_types.Found.{FoundRows}
use Rattle.xa_server.specs.xa_caller.Changes.{Prepares, StopsAs}
use Rattle.xa_server.specs.xa_caller.Phases.{just_in}
use Rattle.xa_desk.proofs.Preparing.{prepared_goes}
use Rattle.xa_desk.proofs.desk.Desk.prepare.Goals as goal

pub prepare-requires-clause-setup : goal.prepare-requires-clause-setup
prepare-requires-clause-setup c = (sym c.requires.desk.setup, c.requires.domain.configured)

pub returns : goal.returns
returns c =
    let d = c.args.domain.now in
    let desk = c.args.self.now in
    let made = subst (λ (found : FoundRows). IfOk c.prepare.result (λ prepared. Prepares d.setup d.cells c.args.op c.args.ask.now.payload found prepared c.prepare.new.self desk.caller)) c.found.ensures c.prepare.ensures.ok in
    let stopped = subst (λ (found : FoundRows). IfErr c.prepare.result (λ stop. StopsAs d.setup c.args.op c.args.ask.now.payload found stop c.prepare.new.self desk.caller)) c.found.ensures c.prepare.ensures.stopped in
    let done = prepared_goes d desk desk.reader.found c.args.op c.args.ask.now c.requires.desk (ap just_in c.requires.idle) c.requires.turn c.requires.found c.requires.valid c.prepare.new.self c.prepare.ensures.cells.0 c.prepare.result made stopped c.prepare.ensures.right in
    record {
      leads = done.0.0;
      made = made;
      aimed = done.1;
      found = done.2;
      rest = refl;
      stopped = stopped;
      fits = done.0.1;
    }
