use Rattle.std.proofs.Common.{◌≡◌, true, None, refl, sym, ◌∙◌, ap, subst}
use Rattle.xa_caller.specs.xa_types.declared.ids.Generation.{Generation}
use Rattle.xa_caller.specs.xa_events.declared.event.Doing.{Doing}
use Rattle.xa_caller.specs.xa_events.declared.event.Doing.TheVariants.{Dying}
use Rattle.xa_caller.specs.xa_events.declared.event.Ended.{Ended}
use Rattle.xa_caller.specs.xa_events.declared.event.Event.TheVariants.{End}
use Rattle.xa_caller.specs.xa_events.declared.event.Outcome.{Outcome}
use Rattle.xa_caller.specs.xa_events.Caller.{version_of}
use Rattle.xa_caller.specs.xa_events.Cases.{may_end_so, is_starved}
use Rattle.xa_caller.specs.xa_events.Server.{after_end}
use Rattle.xa_caller.specs.xa_worker.Work.{WorkState, IsNext, noted_here}
use Rattle.xa_server.specs.declared.slot.ServerSlot.{ServerSlot}
use Rattle.xa_server.specs.declared.slot.Last.{Last}
use Rattle.xa_server.specs.Doings.{life_in, last_by, outcome_of}
use Rattle.xa_server.specs.Slot.{Stands}
use Rattle.xa_server.proofs.Reading.{holding, bad_ends, dies_as, end_of, may_ended, lost_stands}
use Rattle.xa_server.proofs.slot.ServerSlot.lose.Goals as goal

pub note_in_room-requires-clause-next : goal.note_in_room-requires-clause-next
note_in_room-requires-clause-next c =
    let s : ServerSlot = c.args.self.now in
    let w : WorkState = c.args.caller.now.work in
    let h = holding s.doing s.hand c.requires.stands.hand c.requires.busy in
    let may = bad_ends w.setup (is_starved c.args.cause) in
    let is = c.outcome_of-outcome.ensures in
    subst (λ (e : Ended). IsNext w (End e)) (sym (c.end_with-ended.ensures h.0 h.1))
    (may_ended s w c.requires.stands.tables (end_of s h.0 c.outcome_of-outcome.result) refl h.2
    (subst (λ o. may_end_so w.setup o ≡ true) (sym is) may.0) (subst (λ o. version_of o ≡ None) (sym is) may.1))

pub returns-clause-stands : goal.returns-clause-stands
returns-clause-stands c =
    let s : ServerSlot = c.args.self.now in
    let w : WorkState = c.args.caller.now.work in
    let h = holding s.doing s.hand c.requires.stands.hand c.requires.busy in
    let stamp = c.in_ok-stamp.stamp in
    let new : Generation → Last → ServerSlot = λ g last. record s { doing = Dying g; last = last } in
    subst (λ (v : WorkState). Stands (new c.life_in.result c.last_by-last.result) v) (sym c.in_ok-stamp.ensures.noted.made)
    (subst (λ (e : Ended). Stands (new c.life_in.result c.last_by-last.result) (noted_here (record { stamp = stamp; event = End e }) w)) (sym (c.end_with-ended.ensures h.0 h.1))
    (subst (λ g. Stands (new g c.last_by-last.result) (noted_here (record { stamp = stamp; event = End (end_of s h.0 c.outcome_of-outcome.result) }) w)) (sym c.life_in.ensures)
    (subst (λ (l : Last). Stands (new (life_in s.doing) l) (noted_here (record { stamp = stamp; event = End (end_of s h.0 c.outcome_of-outcome.result) }) w)) (sym c.last_by-last.ensures)
    (subst (λ (o : Outcome). Stands (new (life_in s.doing) (last_by o)) (noted_here (record { stamp = stamp; event = End (end_of s h.0 o) }) w)) (sym c.outcome_of-outcome.ensures)
    (lost_stands s w c.requires.stands h.0 c.args.cause stamp h.2 c.in_ok-stamp.ensures.noted.next)))))

pub returns-clause-ok : goal.returns-clause-ok
returns-clause-ok c =
    let s : ServerSlot = c.args.self.now in
    let w : WorkState = c.args.caller.now.work in
    let h = holding s.doing s.hand c.requires.stands.hand c.requires.busy in
    let o : Outcome = outcome_of c.args.cause in
    let noted = c.in_ok-stamp.ensures.noted in
    let stamp = c.in_ok-stamp.stamp in
    let doing : Dying c.life_in.result ≡ after_end o (life_in s.doing) = ap Dying c.life_in.ensures ∙ sym (dies_as (is_starved c.args.cause) (life_in s.doing)) in
    let last : c.last_by-last.result ≡ last_by o = c.last_by-last.ensures ∙ ap last_by c.outcome_of-outcome.ensures in
    record {
      entry = h.0;
      in_hand = h.1;
      busy = h.2;
      noted = record {
        next = noted.next;
        bound = noted.bound;
        made = noted.made ∙ ap (λ (e : Ended). noted_here (record { stamp = stamp; event = End e }) w) (c.end_with-ended.ensures h.0 h.1)
            ∙ ap (λ (o : Outcome). noted_here (record { stamp = stamp; event = End (end_of s h.0 o) }) w) c.outcome_of-outcome.ensures;
      };
      left = ap (λ (d : Doing). record s { doing = d; last = c.last_by-last.result }) doing ∙ ap (λ (l : Last). record s { doing = after_end o (life_in s.doing); last = l }) last;
    }

pub note_in_room-requires-clause-none : goal.note_in_room-requires-clause-none
note_in_room-requires-clause-none c = c.requires.stands.tables.worker.none
