use Rattle.std.proofs.Common.{List, sym, ap, subst, ◌∙◌}
use Rattle.xa_stamp.specs.declared.home.Stamped.{Stamped}
use Rattle.xa_stamp.specs.Home.{last_stamp}
use Rattle.xa_worker.specs.Crew.{no_stamp}
use Rattle.xa_ticks.specs.Clock.{ReadsAsNoted, shown_in}
use Rattle.xa_ticks.proofs.Ticking.{reads-nothing, now-nothing}
use Rattle.xa_ticks.proofs.clock.Clock.new.Goals as goal

pub invariant_of-result : goal.invariant_of-result
invariant_of-result c =
    let made = c.new.ensures in
    record {
      begins = made.first;
      reads = subst (λ (l : List Stamped). ReadsAsNoted (record { entries = l })) (sym made.entries) reads-nothing;
      shows = sym (ap shown_in made.entries ∙ now-nothing);
      last = sym (ap (λ (l : List Stamped). last_stamp no_stamp l) made.entries);
    }
