use Rattle.std.proofs.Common.{[], ◌∷◌, refl, ap}
use Rattle.xa_server.specs.xa_types.declared.ids.CallerId.{CallerId}
use Rattle.xa_server.specs.xa_held.declared.kept_board.BoardNote.TheVariants.{Looked}
use Rattle.xa_desk.specs.declared.desk.Desk.{Desk}
use Rattle.xa_desk.proofs.BoardEntering.{may_leave_board, board_visited, adds_there, one_there}
use Rattle.xa_desk.proofs.Looking.{look_leads, look_found, look_showed}
use Rattle.xa_desk.proofs.desk.Desk.look_up.Goals as goal

pub leave_board-last-requires-clause-at : goal.leave_board-last-requires-clause-at
leave_board-last-requires-clause-at g c =
    let looked = c.lookup-look.ensures.found in
    let ours = one_there c.args.self.now c.id-maker.result (Looked c.lookup-look.result) c.id-maker.ensures.value (ap (λ (m : CallerId). m.0) looked.how.0.its) in
    may_leave_board (c.enter_board-board.ensures.at c.args.self.now c.requires.desk refl) c.value.ensures.value (Looked c.lookup-look.result ∷ [], adds_there ours looked)

pub returns : goal.returns
returns g c =
    let found = c.lookup-look.new.reader.found in
    let name = c.args.service.now in
    let looked = c.lookup-look.ensures.found in
    let maker = c.id-maker.result in
    let look = c.lookup-look.result in
    let last = c.leave_board-last.result in
    let new : Desk = record c.args.self.now { caller = c.saw.new.self; reader = c.lookup-look.new.reader; board = c.leave_board-last.new.pass } in
    let ours = one_there c.args.self.now maker (Looked look) c.id-maker.ensures.value (ap (λ (m : CallerId). m.0) looked.how.0.its) in
    let v = board_visited (c.enter_board-board.ensures.at c.args.self.now c.requires.desk refl) c.value.ensures.value c.leave_board-last.ensures.left new refl refl refl ours looked in
    record {
      leads = look_leads v.step maker name found look last v.came v.reaches c.saw.ensures;
      found = look_found v.step maker name found look last v.came v.reaches c.saw.ensures c.requires.domain;
      looked = look_showed v.step maker name found look last v.came v.reaches c.saw.ensures c.id-maker.ensures.value;
      caller = (last, c.saw.ensures);
      queues = refl;
    }
