use Rattle.std.proofs.Common.{◌∙◌, ap, arith}
use Rattle.xa_client_worker.specs.xa_lock.Pages.{first_page}
use Rattle.xa_client_worker.specs.xa_ticks.Clock.{ClockState, made_in}
use Rattle.xa_boot.specs.Booting.{IsClockFor}
use Rattle.xa_boot.proofs.Numbered.{numbered-here}
use Rattle.xa_boot.proofs.clocks.open_clock.Goals as goal

pub returns : goal.returns
returns c =
    let passes = c.in_ok-lock.passes in
    let count = c.in_ok-lock.ensures.count in
    record {
      all = count.1 ∙ c.from.ensures;
      count = count.0 ∙ c.from.ensures;
      passes = numbered-here (IsClockFor c.in_ok-lock.lock) passes.items (λ k d within. record {
        lock_is = c.in_ok-lock.ensures.lock k d within;
        page = c.in_ok-lock.ensures.known k d (omega (arith, within, count.0)) ∙ ap (λ (clock : ClockState). first_page k (made_in clock.entries)) c.new.ensures;
      });
    }
