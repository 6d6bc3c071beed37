use Rattle.std.proofs.Common.{◌≡◌, ◌<◌, List, [], ◌∷◌, ◌++◌, sym, ◌∙◌, ap, subst, arith}
use Rattle.std.specs.List.{filter}
use Rattle.xa_events.specs.declared.event.Event.{Event}
use Rattle.xa_events.specs.Homes.{home_of}
use Rattle.xa_events.specs.Homes.Home.{CallerHome}
use Rattle.xa_stamp.specs.declared.home.Stamped.{Stamped}
use Rattle.xa_stamp.specs.Home.{last_stamp}
use Rattle.xa_stamp.proofs.Stamps.{last_stamp-push}
use Rattle.xa_worker.specs.Crew.{no_stamp, stands_at}
use Rattle.xa_worker.specs.Work.{WorkState, IsWorkOf, IsNext}
use Rattle.xa_worker.specs.Kept.{standing_of}
use Rattle.xa_worker.proofs.Noting.{sound-noted, here-more}
use Rattle.xa_worker.proofs.work.Work.note.Goals as goal

pub invariant_of-self-2 : goal.invariant_of-self-2
invariant_of-self-2 c =
    let w : WorkState = standing_of c.self.inside in
    let i = c.self.invariant in
    let x : Stamped = record { stamp = c.in_ok-stamp.stamp; event = c.args.event } in
    let own : c.add.new.self ≡ w.own ++ x ∷ [] = c.add.ensures ∙ ap (λ (e : Event). w.own ++ record { stamp = c.in_ok-stamp.stamp; event = e } ∷ []) c.of-snapshot.ensures in
    let next : IsNext w c.args.event = subst (λ (s : WorkState). IsNext s c.args.event) (sym c.self.view_is) c.requires.next in
    let stamp = c.in_ok-stamp.ensures.stamp in
    let higher : w.stamp.0 < x.stamp.0 = omega (arith, stamp) in
    let last : last_stamp no_stamp c.add.new.self ≡ x.stamp.0 = ap (last_stamp no_stamp) own ∙ last_stamp-push no_stamp w.own x in
    let home_last : last_stamp c.note.new.self.first c.note.new.self.entries ≡ x.stamp.0 = ap (last_stamp c.note.new.self.first) c.in_ok-stamp.ensures.entries ∙ last_stamp-push c.note.new.self.first c.self.inside.home.entries x in
    record {
      sound = subst (IsWorkOf w.setup w.clients w.id.0) (sym {A = List Stamped} own) (sound-noted w x i.sound i.some (omega (arith, i.latest, i.reached, higher)) stamp.1 next);
      some = i.some;
      latest = sym last;
      reached = omega (arith);
      bound = stamp.1;
      home_latest = omega (arith, home_last);
      here = c.in_ok-stamp.ensures.entries ∙ ap (λ l. l ++ x ∷ []) i.here ∙ here-more w.setup w.clients w.id.0 w.own x (subst (λ (s : WorkState). home_of s.setup s.clients x.event ≡ CallerHome s.id.0) (sym c.self.view_is) c.requires.home) ∙ ap (filter (stands_at w.setup w.clients (CallerHome w.id.0))) (sym own);
      room = omega (arith, i.room, c.note.ensures.room);
    }
