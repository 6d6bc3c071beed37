use Rattle.std.proofs.Common.{◌≡◌, ◌+◌, refl, sym, ◌∙◌, ap, subst, arith}
use Rattle.xa_caller.specs.xa_types.declared.row.Row.{Row}
use Rattle.xa_caller.specs.xa_types.declared.setup.Setup.{Setup}
use Rattle.xa_caller.specs.xa_types.Found.{FoundRows}
use Rattle.xa_caller.specs.xa_types.Kind.{is_sound}
use Rattle.xa_caller.specs.xa_types.Rows.{row_for}
use Rattle.xa_caller.specs.xa_events.declared.event.Doing.TheVariants.{Busy}
use Rattle.xa_caller.specs.xa_events.declared.event.Event.TheVariants.{Forward}
use Rattle.xa_caller.specs.xa_queue.declared.entry.Entry.{Entry}
use Rattle.xa_caller.specs.Caller.{CallerState}
use Rattle.xa_caller.specs.Drafts.{Cargo, entry_behind}
use Rattle.xa_server.specs.declared.slot.ServerSlot.{ServerSlot}
use Rattle.xa_server.specs.declared.forwarding.Forwarding.TheVariants.{On}
use Rattle.xa_server.specs.Doings.{life_in}
use Rattle.xa_server.specs.Forwarding.{hop_in, forwarded_by, GoesBy, ForwardsAs}
use Rattle.xa_server.proofs.Reading.{holding}
use Rattle.xa_server.proofs.Onward.{failed_recent, goes_by, on_way}
use Rattle.xa_server.proofs.slot.ServerSlot.finish_forward.Goals as goal

pub fail-requires-clause-recent : goal.fail-requires-clause-recent
fail-requires-clause-recent c = failed_recent c.args.setup.now c.args.service.now c.args.payload (hop_in c.args.self.now.hand) c.args.found.now c.in-Err.version c.args.caller.now.least (sym c.in-Err.ensures) (λ named. (c.requires.found named).1)

pub overflow_add-hop : goal.overflow_add-hop
overflow_add-hop c =
    let few = (goes_by c.args.setup.now c.args.service.now c.args.payload (hop_in c.args.self.now.hand) c.args.found.now c.in-Ok.row (sym c.in-Ok.ensures)).2 in
    let held = ap hop_in c.take_out-held.ensures.was in
    omega (arith, few, held)

-- what goes on
made : (c : goal.After-behind) → GoesBy c.args.found.now.version c.in-Ok.row c.args.caller.now.priority (c.take_out-held.result.cargo.invocation.hop + 1) c.args.payload c.take_out-held.result c.behind.result c.forward-event.result c.args.self.now
made c =
    let s : ServerSlot = c.args.self.now in
    let old : CallerState = c.args.caller.now in
    let held : Entry Cargo = c.take_out-held.result in
    let row : Row = c.in-Ok.row in
    let hop = held.cargo.invocation.hop + 1 in
    record {
      entered = c.behind.ensures ∙ ap (λ asked. entry_behind hop held.request row asked c.args.payload held.cargo.ticket) c.next_priority-asked.ensures;
      forwards = c.forward-event.ensures ∙ ap (λ asked. Forward (forwarded_by s held.request hop c.found.inside.version row asked c.in-Ok-copy.sent)) c.next_priority-asked.ensures
          ∙ ap (λ (f : FoundRows). Forward (forwarded_by s held.request hop f.version row old.priority c.in-Ok-copy.sent)) c.found.view_is ∙ ap (λ d. Forward (forwarded_by s held.request hop c.args.found.now.version row old.priority d)) c.in-Ok-copy.ensures;
    }

pub returns-in-Ok-copy-clause-ok : goal.returns-in-Ok-copy-clause-ok
returns-in-Ok-copy-clause-ok c =
    let s : ServerSlot = c.args.self.now in
    let old : CallerState = c.args.caller.now in
    subst (λ way. ForwardsAs c.args.found.now.version c.args.payload way (On c.behind.result c.forward-event.result) (record s { hand = c.take_out-held.new.hand }) s old old) c.in-Ok.ensures (record {
      held = c.take_out-held.result;
      in_hand = c.take_out-held.ensures.was;
      goes = made c;
      left = ap (λ hand. record s { hand = hand }) c.take_out-held.ensures.now;
      same = refl;
    })

pub returns-in-Ok-copy-clause-left : goal.returns-in-Ok-copy-clause-left
returns-in-Ok-copy-clause-left c =
    let s : ServerSlot = c.args.self.now in
    let old : CallerState = c.args.caller.now in
    let held : Entry Cargo = c.take_out-held.result in
    let row : Row = c.in-Ok.row in
    let by = goes_by c.args.setup.now c.args.service.now c.args.payload (hop_in s.hand) c.args.found.now row (sym c.in-Ok.ensures) in
    let few = by.2 in
    let had = ap hop_in c.take_out-held.ensures.was in
    let found = c.requires.found by.0 in
    let h = holding s.doing s.hand c.requires.stands.hand c.requires.busy in
    let same : h.0 ≡ held = cc (h.1, c.take_out-held.ensures.was) in
    let its = subst (λ (t : Setup). row ≡ row_for t c.args.service.now row.queue.0 row.routine) c.requires.setup.0 (by.3 found.0) in
    on_way (record s { hand = c.take_out-held.new.hand }) old c.args.found.now.version row c.args.service.now its (held.cargo.invocation.hop + 1) c.args.payload held c.behind.result c.forward-event.result
    (record { entered = (made c).entered; forwards = (made c).forwards }) c.requires.stands.tables (h.2 ∙ ap (λ (e : Entry Cargo). Busy (life_in s.doing) e.request) same) c.take_out-held.ensures.now
    (omega (arith, few, had)) (ap (λ (t : Setup). is_sound t c.args.payload) (sym c.requires.setup.0) ∙ by.1) found.1
