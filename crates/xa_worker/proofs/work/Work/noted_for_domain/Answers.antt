use Rattle.std.proofs.Common.{◌≡◌, ◌<◌, List, [], ◌∷◌, ◌++◌, sym, ◌∙◌, ap, subst, arith}
use Rattle.std.specs.List.{filter}
use Rattle.xa_events.specs.Homes.Home.{CallerHome}
use Rattle.xa_stamp.specs.declared.home.Stamped.{Stamped}
use Rattle.xa_stamp.specs.Home.{last_stamp}
use Rattle.xa_stamp.proofs.Stamps.{last_stamp-push}
use Rattle.xa_worker.specs.Crew.{no_stamp, stands_at}
use Rattle.xa_worker.specs.Work.{WorkState, IsWorkOf}
use Rattle.xa_worker.specs.Kept.{standing_of}
use Rattle.xa_worker.proofs.Noting.{sound_for_domain, here-same, domain_elsewhere}
use Rattle.xa_worker.proofs.work.Work.noted_for_domain.Goals as goal

pub invariant_of-self : goal.invariant_of-self
invariant_of-self c =
    let w : WorkState = standing_of c.self.inside in
    let i = c.self.invariant in
    let x : Stamped = record { stamp = c.args.stamp; event = c.args.event.value } in
    let own : c.add.new.self ≡ w.own ++ x ∷ [] = c.add.ensures in
    let higher : w.stamp.0 < x.stamp.0 = subst (λ (s : WorkState). s.stamp.0 < x.stamp.0) (sym c.self.view_is) c.requires.later in
    let last : last_stamp no_stamp c.add.new.self ≡ x.stamp.0 = ap (last_stamp no_stamp) own ∙ last_stamp-push no_stamp w.own x in
    record {
      sound = subst (IsWorkOf w.setup w.clients w.id.0) (sym {A = List Stamped} own) (sound_for_domain w x i.sound i.some (omega (arith, i.latest, i.reached, higher)) c.requires.bound c.requires.domain);
      some = i.some;
      latest = sym last;
      reached = omega (arith);
      bound = c.requires.bound;
      home_latest = omega (arith, i.home_latest, higher);
      here = i.here ∙ here-same w.setup w.clients w.id.0 w.own x (domain_elsewhere w.setup w.clients w.id.0 x.event c.requires.domain) ∙ ap (filter (stands_at w.setup w.clients (CallerHome w.id.0))) (sym own);
      room = i.room;
    }
