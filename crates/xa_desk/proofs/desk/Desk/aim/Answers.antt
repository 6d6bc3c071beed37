use Rattle.std.proofs.Common.{refl, sym, ap, subst}
use Rattle.xa_server.specs.xa_types.Found.{FoundRows}
use Rattle.xa_server.specs.xa_caller.Caller.{AreRowsOf}
use Rattle.xa_server.specs.xa_caller.Phases.{just_in, IsOfVersion}
use Rattle.xa_server.specs.xa_caller.Unsent.{AimsAs}
use Rattle.xa_desk.proofs.Aiming.{aim_goes, aim_aims, aim_requires}
use Rattle.xa_desk.proofs.desk.Desk.aim.Goals as goal

pub aim-requires-clause-prepared : goal.aim-requires-clause-prepared
aim-requires-clause-prepared c =
    let desk = c.args.self.now in
    let f = c.requires.found in
    subst (λ (found : FoundRows). IsOfVersion found.version desk.caller.phase) (sym c.found.ensures) (aim_requires c.args.domain.now desk desk.reader.found c.args.entry c.requires.desk f.0 f.1 f.2 f.3).0

pub aim-requires-clause-sound : goal.aim-requires-clause-sound
aim-requires-clause-sound c =
    let desk = c.args.self.now in
    let f = c.requires.found in
    (aim_requires c.args.domain.now desk desk.reader.found c.args.entry c.requires.desk f.0 f.1 f.2 f.3).1

pub aim-requires-clause-rows : goal.aim-requires-clause-rows
aim-requires-clause-rows c =
    let desk = c.args.self.now in
    let f = c.requires.found in
    subst (λ (found : FoundRows). AreRowsOf desk.caller.work.setup c.args.entry.cargo.invocation.service found.rows) (sym c.found.ensures) (aim_requires c.args.domain.now desk desk.reader.found c.args.entry c.requires.desk f.0 f.1 f.2 f.3).2

pub returns : goal.returns
returns c =
    let d = c.args.domain.now in
    let desk = c.args.self.now in
    let new = c.aim.new.self in
    let found = desk.reader.found in
    let aims = subst (λ (rows : FoundRows). AimsAs c.args.entry rows.rows c.args.attempt c.aim.result new desk.caller) c.found.ensures c.aim.ensures.aims in
    let goes = aim_goes d desk new found c.args.entry c.args.attempt c.aim.result aims c.requires.desk (ap just_in c.requires.found.3.prepared) in
    record {
      leads = goes.0;
      aims = aims;
      found = goes.1;
      aimed = λ ask event has aimed. aim_aims d desk new found c.args.entry c.args.attempt c.aim.result aims ask event (c.aim.ensures.right d.cells aimed.right) has aimed;
      rest = refl;
      fits = goes.2;
    }
