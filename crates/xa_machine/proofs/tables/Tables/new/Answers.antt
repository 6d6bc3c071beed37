use Rattle.std.proofs.Common.{◌≡◌, ℕ, sym, ap, subst, refl, reverse, length, arith}
use Rattle.xa_types.specs.Rows.{configured}
use Rattle.xa_events.specs.Board.{boot}
use Rattle.xa_machine.specs.Tables.{AllShow, CallerShows, no_caller}
use Rattle.xa_machine.proofs.First.{first_servers, first_queues, first_callers, no_changes, first_now}
use Rattle.xa_machine.proofs.Reading.{boot_is}
use Rattle.xa_machine.proofs.tables.Tables.new.Goals as goal

pub returns : goal.returns
returns c =
    let same : length c.as_slice.result.now ≡ boot c.args.setup.now = rw c.as_slice.ensures.value (boot_is c.in_ok-booting.booting.items (configured c.args.setup.now) c.in_ok-booting.ensures) in
    record {
      many_servers = rw c.slice.ensures at c.in_ok-new_servers.ensures.len;
      many_queues = rw c.slice-2.ensures at c.in_ok-new_queues.ensures.len;
      many_callers = grind (arith, c.in_ok-new_callers.ensures.len);
      servers = first_servers _ c.in_ok-new_servers.ensures.each;
      queues = first_queues c.args.setup.now _ c.in_ok-new_queues.ensures.each;
      callers = first_callers c.args.setup.now c.args.clients _ (subst (λ (n : ℕ). AllShow (CallerShows n) no_caller c.in_ok-new_callers.field-0.items) same c.in_ok-new_callers.ensures.each);
      changed = rw c.new.ensures.items (sym (ap reverse no_changes));
      logged = c.new-2.ensures.items;
      versions = c.in_ok-first_version.ensures c.args.setup.now;
      boots = c.in_ok-booting.ensures;
      time = first_now;
      shown = λ tick. rw c.new-3.ensures.items refl;
      none_served = c.new-4.ensures;
      none_queued = c.new-5.ensures;
      none_called = subst (λ (n : ℕ). CallerShows n c.new-6.result no_caller) same c.new-6.ensures;
    }
