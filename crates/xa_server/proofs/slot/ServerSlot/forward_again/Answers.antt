use Rattle.std.proofs.Common.{◌≡◌, sym, ◌∙◌, ap, arith}
use Rattle.xa_caller.specs.xa_types.declared.data.Data.{Data}
use Rattle.xa_caller.specs.xa_types.declared.row.Row.{Row}
use Rattle.xa_caller.specs.xa_types.Found.{FoundRows}
use Rattle.xa_caller.specs.xa_types.Kind.{is_sound}
use Rattle.xa_caller.specs.xa_types.Rows.{row_for}
use Rattle.xa_caller.specs.xa_events.declared.event.Event.TheVariants.{Forward}
use Rattle.xa_caller.specs.xa_queue.declared.entry.Entry.{Entry}
use Rattle.xa_caller.specs.Caller.{CallerState}
use Rattle.xa_caller.specs.Drafts.{Cargo, entry_behind}
use Rattle.xa_caller.proofs.Unsent.{at-all}
use Rattle.xa_server.specs.declared.slot.ServerSlot.{ServerSlot}
use Rattle.xa_server.specs.Forwarding.{forwarded_by}
use Rattle.xa_server.proofs.Onward.{on_way}
use Rattle.xa_server.proofs.slot.ServerSlot.forward_again.Goals as goal

pub returns-clause-on_way : goal.returns-clause-on_way
returns-clause-on_way c event service way rows recent =
    let s : ServerSlot = c.args.self.now in
    let old : CallerState = c.args.caller.now in
    let entry : Entry Cargo = c.args.entry in
    let row : Row = c.in-Some.row in
    let hop = entry.cargo.invocation.hop in
    let payload : Data = entry.cargo.invocation.payload in
    let few = way.few in
    let same = way.brings.4 in
    let its = at-all (λ (r : Row). r ≡ row_for old.work.setup service r.queue.0 r.routine) c.args.found.now.rows c.args.attempt row (sym c.row_at.ensures ∙ c.in-Some.is) rows in
    on_way s old c.args.found.now.version row service its hop payload entry c.aimed_by.result c.forward-event.result
    (record {
      entered = c.aimed_by.ensures ∙ ap (λ asked. entry_behind hop entry.request row asked payload entry.cargo.ticket) c.next_priority-asked.ensures;
      forwards = c.forward-event.ensures ∙ ap (λ asked. Forward (forwarded_by s entry.request hop c.found.inside.version row asked c.in-Ok.sent)) c.next_priority-asked.ensures
          ∙ ap (λ (f : FoundRows). Forward (forwarded_by s entry.request hop f.version row old.priority c.in-Ok.sent)) c.found.view_is ∙ ap (λ d. Forward (forwarded_by s entry.request hop c.args.found.now.version row old.priority d)) c.in-Ok.ensures;
    })
    way.tables way.busy way.out (omega (arith, few, same)) (ap (is_sound old.work.setup) (sym way.brings.3) ∙ way.sound) recent
