use Rattle.std.proofs.Common.{◌≡◌, [], Ok, Some, refl, sym, ◌∙◌, ap, subst}
use Rattle.std.specs.Prelude.{IfOk, IfErr, OnErr}
use Rattle.xa_desk.specs.xa_types.declared.data.Data.{Data}
use Rattle.xa_desk.specs.xa_queue.declared.entry.Entry.{Entry}
use Rattle.xa_desk.specs.xa_types.Kind.{kind_of}
use Rattle.xa_desk.specs.xa_events.declared.event.Event.{Event}
use Rattle.xa_desk.specs.xa_caller.Caller.{CallerState}
use Rattle.xa_desk.proofs.xa_caller.Next.{first_found}
use Rattle.xa_desk.specs.xa_caller.Drafts.{Cargo}
use Rattle.xa_desk.specs.declared.desk.Desk.{Desk}
use Rattle.xa_desk.specs.xa_server.Forwarding.{ForwardsAs, way_of, hop_in}
use Rattle.xa_desk.specs.xa_server.Noting.{HaltsWith}
use Rattle.xa_desk.specs.Found.{HasFound}
use Rattle.xa_desk.specs.Passing.{IsPassing, Leaves, forwarded_to}
use Rattle.xa_desk.specs.Serving.{IsServing}
use Rattle.xa_server_worker.specs.Passing.{PassesAs, its_queue}
use Rattle.xa_server_worker.proofs.Reasons.{by_stays}
use Rattle.xa_server_worker.proofs.Stepping.{steps_trans}
use Rattle.xa_server_worker.proofs.Onward.{if_taken, failed_as, passed_as, fails_at_once, way_named, way_row, same_desk, out_same, out_steps, passes_from, result_from, keeps_from, keeps_at_once}
use Rattle.xa_server_worker.proofs.passing.forward.Goals as goal

pub forward-requires-clause-serving : goal.forward-requires-clause-serving
forward-requires-clause-serving g c =
    let s = c.requires.serving in
    let found = c.look_up.ensures in
    (_, s.0, found.serving _ c.args.slot.now s.1, if_taken (found.taken _ s.0) c.args.slot.now.hand s.2)

pub returns-in-Ok-Failed : goal.returns-in-Ok-Failed
returns-in-Ok-Failed g c =
    let d = c.args.monitor.now.domain.now in
    let s = c.requires.serving in
    let found = c.look_up.ensures in
    let q = its_queue d c.args.slot.now in
    let mid = c.look_up.new.desk in
    let slot' = c.forward.new.slot in
    let desk' = c.forward.new.self in
    let its = c.forward.ensures in
    let was = found.serving q c.args.slot.now s.1 in
    let is = c.in-Ok-Failed.is ∙ ap Ok c.in-Ok-Failed.field-0-is in
    let failed = failed_as mid.reader.found.version c.args.forwards.payload c.args.slot.now slot' mid.caller desk'.caller (way_of d.setup c.args.forwards.service c.args.forwards.payload (hop_in c.args.slot.now.hand) mid.reader.found) c.in-Ok-Failed.closing (subst (λ r. IfOk r (λ forwarding. ForwardsAs mid.reader.found.version c.args.forwards.payload (way_of d.setup c.args.forwards.service c.args.forwards.payload (hop_in c.args.slot.now.hand) mid.reader.found) forwarding slot' c.args.slot.now desk'.caller mid.caller)) is its.ok) in
    let left = subst (λ r. IfOk r (λ forwarding. Leaves d q forwarding slot' desk')) is (its.leaves q was s.0 (if_taken (found.taken q s.0) c.args.slot.now.hand s.2)) in
    passes_from d q c.args.slot.now c.args.slot.now slot' c.args.desk.now mid desk' (record { server = refl; made = refl; gone = refl; does = refl }) found.steps found.own found.seat c.args.forwards.service c.args.forwards.payload (Some c.in-Ok-Failed.closing)
    (fails_at_once c.args.forwards.service c.args.forwards.payload failed.0 c.in-Ok-Failed.closing s.0 found.steps.leads.desk (if_taken (found.taken q s.0) c.args.slot.now.hand s.2) found.found failed.1 was its.leads left.0 its.rest.1 failed.2 left.1)

pub pass_on-requires-clause-passing : goal.pass_on-requires-clause-passing
pass_on-requires-clause-passing g c =
    let d = c.args.monitor.now.domain.now in
    let s = c.requires.serving in
    let found = c.look_up.ensures in
    let q = its_queue d c.args.slot.now in
    let slot' = c.forward.new.slot in
    let desk' = c.forward.new.self in
    let is = c.in-Ok-On.is ∙ ap Ok c.in-Ok-On.field-0-is in
    let passing = subst (λ r. IfOk r (λ forwarding. Leaves d q forwarding slot' desk')) is (c.forward.ensures.leaves q (found.serving q c.args.slot.now s.1) s.0 (if_taken (found.taken q s.0) c.args.slot.now.hand s.2)) in
    subst (λ n. IsPassing d n c.in-Ok-On.entry c.in-Ok-On.event slot' desk') (sym passing.serving.its) passing

pub pass_on-requires-clause-first : goal.pass_on-requires-clause-first
pass_on-requires-clause-first g c =
    let d = c.args.monitor.now.domain.now in
    let slot = c.args.slot.now in
    let found = c.look_up.ensures in
    let mid = c.look_up.new.desk in
    let slot' = c.forward.new.slot in
    let desk' = c.forward.new.self in
    let service = c.args.forwards.service in
    let payload = c.args.forwards.payload in
    let way = way_of d.setup service payload (hop_in slot.hand) mid.reader.found in
    let passed = passed_as mid.reader.found.version payload slot slot' mid.caller desk'.caller way c.in-Ok-On.entry c.in-Ok-On.event
    (subst (λ r. IfOk r (λ forwarding. ForwardsAs mid.reader.found.version payload way forwarding slot' slot desk'.caller mid.caller)) (c.in-Ok-On.is ∙ ap Ok c.in-Ok-On.field-0-is) c.forward.ensures.ok) in
    let has = found.found (way_named d.setup service payload (hop_in slot.hand) mid.reader.found passed.0 passed.1) in
    by_stays mid desk' (ap (λ (x : Desk). x.reader) c.forward.ensures.rest.0) 0 c.in-Ok-On.event
    (passed.0, first_found d.setup service (kind_of payload) mid.reader.found.rows passed.0 has.rows (way_row d.setup service payload (hop_in slot.hand) mid.reader.found passed.0 passed.1), ap forwarded_to (sym {A = Event} passed.2.goes.forwards))

pub returns-in-Ok-On : goal.returns-in-Ok-On
returns-in-Ok-On g c =
    let d = c.args.monitor.now.domain.now in
    let s = c.requires.serving in
    let slot = c.args.slot.now in
    let found = c.look_up.ensures in
    let q = its_queue d slot in
    let mid = c.look_up.new.desk in
    let slot' = c.forward.new.slot in
    let desk' = c.forward.new.self in
    let its = c.forward.ensures in
    let service = c.args.forwards.service in
    let payload = c.args.forwards.payload in
    let is = c.in-Ok-On.is ∙ ap Ok c.in-Ok-On.field-0-is in
    let way = way_of d.setup service payload (hop_in slot.hand) mid.reader.found in
    let passed = passed_as mid.reader.found.version payload slot slot' mid.caller desk'.caller way c.in-Ok-On.entry c.in-Ok-On.event (subst (λ r. IfOk r (λ forwarding. ForwardsAs mid.reader.found.version payload way forwarding slot' slot desk'.caller mid.caller)) is its.ok) in
    let has = found.found (way_named d.setup service payload (hop_in slot.hand) mid.reader.found passed.0 passed.1) in
    let out = passed.2 in
    let further = out_steps its.leads out.same in
    let own = ap (λ (x : CallerState). x.work.own) out.same in
    let passing = subst (λ r. IfOk r (λ forwarding. Leaves d q forwarding slot' desk')) is (its.leaves q (found.serving q slot s.1) s.0 (if_taken (found.taken q s.0) slot.hand s.2)) in
    let rest = c.pass_on.ensures service (subst (λ (x : Desk). HasFound d service x.reader.found x) (same_desk mid desk' its.rest.0 out.same) has) in
    result_from d q slot slot' c.pass_on.new.slot c.args.desk.now desk' c.pass_on.new.desk (out_same out) (steps_trans [] [] found.steps further) (own ∙ found.own) (its.rest.1 ∙ found.seat) service payload c.pass_on.result
    (subst (λ (x : Data). PassesAs d q service x c.pass_on.result slot' c.pass_on.new.slot desk' c.pass_on.new.desk) (ap (λ (e : Entry Cargo). e.cargo.invocation.payload) out.goes.entered)
    (subst (λ n. PassesAs d n service c.in-Ok-On.entry.cargo.invocation.payload c.pass_on.result slot' c.pass_on.new.slot desk' c.pass_on.new.desk) passing.serving.its rest))

pub returns : goal.returns
returns g c =
    let d = c.args.monitor.now.domain.now in
    let s = c.requires.serving in
    let slot = c.args.slot.now in
    let found = c.look_up.ensures in
    let q = its_queue d slot in
    let mid = c.look_up.new.desk in
    let slot' = c.forward.new.slot in
    let desk' = c.forward.new.self in
    let its = c.forward.ensures in
    keeps_from d q slot slot slot' c.args.desk.now mid desk' (record { server = refl; made = refl; gone = refl; does = refl }) found.steps found.own found.seat c.in-Err.halt
    (keeps_at_once c.in-Err.halt its.leads (subst (λ r. OnErr r (IsServing d q slot' desk')) c.in-Err.is (its.serving q (found.serving q slot s.1))) (subst (λ r. OnErr r (slot' ≡ slot)) c.in-Err.is its.kept) its.rest.1
    (subst (λ r. IfErr r (HaltsWith 3 desk'.caller.work mid.caller.work)) c.in-Err.is its.halted))
