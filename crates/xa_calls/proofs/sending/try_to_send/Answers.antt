use Rattle.std.proofs.Common.{◌≡◌, ℕ, ◌+◌, ◌<◌, refl, sym, ◌∙◌, ap, subst, arith}
use Rattle.xa_desk.specs.xa_caller.Caller.{CallerState}
use Rattle.xa_desk.specs.Found.{HasFound}
use Rattle.xa_calls.specs.Going.{IsSame, GoesBy, refused_by}
use Rattle.xa_calls.specs.Telling.{TriedNotes}
use Rattle.xa_calls.proofs.Noting.{may_still, may_tried, quiet_tried, stops_notes}
use Rattle.xa_calls.proofs.Resting.{same_desk, same_by}
use Rattle.xa_calls.proofs.Going.{same_trans, goes_trans, sees_on, prepared_same, prepared_on, stopped_on, stopped_same, first_by, tried_on, tries_from, stopped_tries, wants_of}
use Rattle.xa_calls.proofs.sending.try_to_send.Goals as goal

pub put_on_one-requires-clause-first : goal.put_on_one-requires-clause-first
put_on_one-requires-clause-first g c = first_by c.args.monitor.now.domain.now c.args.ask.now.service c.args.ask.now.payload c.args.op c.in-Ok.prepared c.look_up.new.self c.prepare.new.self c.prepare.ensures.rest
    (subst (λ s. HasFound c.args.monitor.now.domain.now s c.look_up.new.self.reader.found c.look_up.new.self) c.requires.named c.look_up.ensures.found) c.in-Ok.ensures.made

pub returns-in-Ok-clause-goes : goal.returns-in-Ok-clause-goes
returns-in-Ok-clause-goes g c =
    let d = c.args.monitor.now.domain.now in
    let ask = c.args.ask.now in
    let op : ℕ = c.args.op in
    let old = c.args.desk.now in
    let seen = c.look_up.new.self in
    let made = c.in-Ok.ensures.made in
    let turn = ap (λ n. n + 1) (ap (λ (k : CallerState). k.op) made.made ∙ ap (λ (k : CallerState). k.op) c.look_up.ensures.caller.1) ∙ sym c.requires.turn in
    tried_on d c.args.apart ask op old seen c.put_on_one.new.desk (sees_on d c.args.apart ask op old seen c.look_up.ensures.leads c.look_up.ensures.caller)
    (goes_trans d c.args.apart ask op seen c.prepare.new.self c.put_on_one.new.desk (prepared_on d c.args.apart ask op seen.reader.found c.in-Ok.prepared seen c.prepare.new.self c.prepare.ensures.leads (c.prepare.ensures.fits c.args.apart (wants_of d.setup c.args.apart ask c.requires.valid)) made)
    (subst (λ (n : ℕ). GoesBy d n c.args.apart ask c.prepare.new.self c.put_on_one.new.desk) turn c.put_on_one.ensures.goes))
    c.look_up.ensures.looked (ap (λ (k : CallerState). k.work.own) c.look_up.ensures.caller.1)
    (tries_from d c.args.apart ask op seen c.prepare.new.self c.put_on_one.new.desk c.prepare.ensures.rest (ap (λ (k : CallerState). k.work.own) made.made) c.prepare.ensures.leads c.put_on_one.ensures.tries)

pub returns-in-Err-clause-goes : goal.returns-in-Err-clause-goes
returns-in-Err-clause-goes g c =
    let d = c.args.monitor.now.domain.now in
    let ask = c.args.ask.now in
    let op : ℕ = c.args.op in
    let old = c.args.desk.now in
    let seen = c.look_up.new.self in
    tried_on d c.args.apart ask op old seen c.prepare.new.self (sees_on d c.args.apart ask op old seen c.look_up.ensures.leads c.look_up.ensures.caller)
    (stopped_on d c.args.apart ask op seen.reader.found c.in-Err.stop seen c.prepare.new.self c.prepare.ensures.leads (c.prepare.ensures.fits c.args.apart (wants_of d.setup c.args.apart ask c.requires.valid)) c.in-Err.ensures.stopped)
    c.look_up.ensures.looked (ap (λ (k : CallerState). k.work.own) c.look_up.ensures.caller.1) (stopped_tries d c.args.apart ask op c.in-Err.stop seen c.prepare.new.self c.in-Err.ensures.stopped c.prepare.ensures.rest)

above : (op before : ℕ) → op ≡ before + 1 → 0 < op
above op before turn = omega (arith, turn)

pub prepare-requires-clause-active : goal.prepare-requires-clause-active
prepare-requires-clause-active g c =
    let sees = c.look_up.ensures.caller.1 in
    may_still c.args.desk.now c.look_up.new.self (same_by c.args.desk.now c.look_up.new.self _ (ap (λ (k : CallerState). k.work) sees) refl refl refl) (ap (λ (k : CallerState). k.work.own) sees) c.requires.active

pub put_on_one-requires-clause-active : goal.put_on_one-requires-clause-active
put_on_one-requires-clause-active g c =
    let sees = c.look_up.ensures.caller.1 in
    let made = c.in-Ok.ensures.made.made in
    may_still c.args.desk.now c.prepare.new.self
    (same_trans c.args.desk.now c.look_up.new.self c.prepare.new.self (same_by c.args.desk.now c.look_up.new.self _ (ap (λ (k : CallerState). k.work) sees) refl refl refl)
    (prepared_same c.args.monitor.now.domain.now c.args.apart c.args.ask.now c.args.op c.look_up.new.self.reader.found c.in-Ok.prepared c.look_up.new.self c.prepare.new.self c.in-Ok.ensures.made))
    (ap (λ (k : CallerState). k.work.own) made ∙ ap (λ (k : CallerState). k.work.own) sees) c.requires.active

pub returns-in-Ok-clause-notes : goal.returns-in-Ok-clause-notes
returns-in-Ok-clause-notes g c =
    let op : ℕ = c.args.op in
    let sees = c.look_up.ensures.caller.1 in
    let made = c.in-Ok.ensures.made.made in
    let turn = ap (λ n. n + 1) (ap (λ (k : CallerState). k.op) made ∙ ap (λ (k : CallerState). k.op) sees) ∙ sym c.requires.turn in
    quiet_tried op c.put_on_one.result c.args.desk.now c.prepare.new.self c.put_on_one.new.desk
    (same_trans c.args.desk.now c.look_up.new.self c.prepare.new.self (same_by c.args.desk.now c.look_up.new.self _ (ap (λ (k : CallerState). k.work) sees) refl refl refl)
    (prepared_same c.args.monitor.now.domain.now c.args.apart c.args.ask.now c.args.op c.look_up.new.self.reader.found c.in-Ok.prepared c.look_up.new.self c.prepare.new.self c.in-Ok.ensures.made))
    (ap (λ (k : CallerState). k.work.own) made ∙ ap (λ (k : CallerState). k.work.own) sees)
    (subst (λ (n : ℕ). TriedNotes n c.put_on_one.result c.prepare.new.self c.put_on_one.new.desk) turn c.put_on_one.ensures.notes)

pub returns-in-Err-clause-notes : goal.returns-in-Err-clause-notes
returns-in-Err-clause-notes g c =
    let d = c.args.monitor.now.domain.now in
    let op : ℕ = c.args.op in
    let seen = c.look_up.new.self in
    let sees = c.look_up.ensures.caller.1 in
    subst (λ r. TriedNotes op r c.args.desk.now c.prepare.new.self) (sym c.refused_by.ensures)
    (quiet_tried op (refused_by c.in-Err.stop) c.args.desk.now seen c.prepare.new.self (same_by c.args.desk.now c.look_up.new.self _ (ap (λ (k : CallerState). k.work) sees) refl refl refl) (ap (λ (k : CallerState). k.work.own) sees)
    (stops_notes d.setup op c.args.ask.now.payload seen.reader.found c.in-Err.stop seen c.prepare.new.self (above op c.args.desk.now.caller.op c.requires.turn) (ap (λ (k : CallerState). k.phase) sees ∙ c.requires.ready.idle) c.in-Err.ensures.stopped))

pub returns-in-Err-clause-active : goal.returns-in-Err-clause-active
returns-in-Err-clause-active g c =
    let d = c.args.monitor.now.domain.now in
    let op : ℕ = c.args.op in
    let seen = c.look_up.new.self in
    let sees = c.look_up.ensures.caller.1 in
    let first : IsSame c.args.desk.now seen = same_by c.args.desk.now seen _ (ap (λ (k : CallerState). k.work) sees) refl refl refl in
    let stopped = stopped_same d c.args.apart c.args.ask.now op seen.reader.found c.in-Err.stop seen.caller c.prepare.new.self.caller c.in-Err.ensures.stopped in
    may_tried op (refused_by c.in-Err.stop) seen c.prepare.new.self (same_desk seen c.prepare.new.self stopped)
    (stops_notes d.setup op c.args.ask.now.payload seen.reader.found c.in-Err.stop seen c.prepare.new.self (above op c.args.desk.now.caller.op c.requires.turn) (ap (λ (k : CallerState). k.phase) sees ∙ c.requires.ready.idle) c.in-Err.ensures.stopped)
    (may_still c.args.desk.now seen first (ap (λ (k : CallerState). k.work.own) sees) c.requires.active)
