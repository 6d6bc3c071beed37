use Rattle.std.proofs.Common.{◌≡◌, ◌+◌, length, true, refl, sym, ◌∙◌, ap, subst}
use Rattle.xa_types.specs.declared.data.Data.{Data}
use Rattle.xa_types.specs.declared.row.Row.{Row}
use Rattle.xa_types.specs.declared.ids.RequestId.{RequestId}
use Rattle.xa_types.specs.Kind.{is_sound}
use Rattle.xa_types.specs.Rows.{row_for}
use Rattle.xa_events.specs.declared.event.Accepted.{Accepted}
use Rattle.xa_events.specs.declared.event.Event.TheVariants.{Accept}
use Rattle.xa_cell.specs.Known.{known}
use Rattle.xa_cell.specs.Places.{OpenAre}
use Rattle.xa_worker.specs.Work.{WorkState}
use Rattle.xa_caller.specs.declared.phase.Draft.{Draft}
use Rattle.xa_caller.specs.declared.phase.Phase.{Phase}
use Rattle.xa_caller.specs.declared.phase.Phase.TheVariants.{Prepared}
use Rattle.xa_caller.specs.Drafts.{accepted_by}
use Rattle.xa_caller.specs.Phases.{JustIs, Describes, places_in, drafted}
use Rattle.xa_events.specs.Caller.{accepted_in}
use Rattle.xa_caller.specs.Caller.{CallerState, AreRowsOf, view_of}
use Rattle.xa_caller.specs.Kept.{standing_of, Holds, IsSeated}
use Rattle.xa_caller.specs.Unsent.{AimsAt}
use Rattle.xa_caller.proofs.Next.{row-priority}
use Rattle.xa_caller.proofs.Reading.{reads_moved}
use Rattle.xa_caller.proofs.Unsent.{at-all}
use Rattle.xa_held.specs.Kept.{IsRight}
use Rattle.xa_caller.proofs.Tickets.{right_aimed}
use Rattle.xa_caller.proofs.caller.Caller.aim.Goals as goal

pub invariant_of-self : goal.invariant_of-self
invariant_of-self c =
    let s : CallerState = standing_of c.self.inside in
    let i = c.self.invariant in
    let w : WorkState = c.self.inside.work in
    let draft : Draft = c.draft_in-op.result in
    let was : s.phase ≡ Prepared draft = sym c.take_out.ensures.0 ∙ c.draft_in-op.ensures in
    let held = subst (Holds w.setup w.id s.seat w.room s.op s.sent s.least s.priority c.self.inside.out) was i.holds in
    let d = held.5 in
    let redrawn : Draft = record draft { event = c.of-event_noted.result } in
    let now : c.set.new.phase ≡ Prepared redrawn = c.set.ensures in
    let row : Row = c.in-Some.row in
    let a : Accepted = accepted_by draft.op draft.asked.request draft.version row s.priority c.in-Ok.payload in
    let rows = subst (λ (t : CallerState). AreRowsOf t.work.setup c.args.entry.cargo.invocation.service c.args.found.now.rows) (sym c.self.view_is) c.requires.rows in
    let all = at-all (λ (r : Row). r ≡ row_for w.setup c.args.entry.cargo.invocation.service r.queue.0 r.routine) c.args.found.now.rows c.args.attempt row (sym c.row_at.ensures ∙ c.in-Some.is) rows in
    record {
      sound = record { reads = reads_moved w.setup _ s.op s.sent s.least s.priority s.out s.out s.phase c.set.new.phase (subst (λ p. Describes s.out p (view_of w).descriptors) (sym now) (subst (λ p. Describes s.out p (view_of w).descriptors) was i.sound.reads.descriptors)) (subst (λ (p : Phase). JustIs s.out p (accepted_in (view_of w).called)) (sym now) (subst (λ (p : Phase). JustIs s.out p (accepted_in (view_of w).called)) was i.sound.reads.just)) i.sound.reads; served = i.sound.served };
      holds = subst (Holds w.setup w.id s.seat w.room s.op s.sent s.least s.priority c.self.inside.out) (sym now) (
        held.0,
        held.1,
        held.2,
        held.3,
        held.4,
        record {
          accepted = a;
          is = c.of-event_noted.ensures ∙ ap Accept c.accepted_by.ensures;
          by = ap (λ (r : RequestId). r.caller) (sym d.request ∙ d.mine);
          next = sym d.of_draft ∙ d.next;
          of_draft = refl;
          request = refl;
          mine = sym d.request ∙ d.mine;
          mode = refl;
          sound = ap (is_sound w.setup) c.in-Ok.ensures ∙ subst (λ (t : CallerState). is_sound t.work.setup c.args.entry.cargo.invocation.payload ≡ true) (sym c.self.view_is) c.requires.sound;
          version = refl;
          recent = d.recent;
          priority_is = row-priority w.setup c.args.entry.cargo.invocation.service row s.priority all;
        },
      );
      places = subst (λ p. OpenAre (places_in s.out p) (known s.seat)) (sym now) (subst (λ p. OpenAre (places_in s.out p) (known s.seat)) was i.places);
      seated = subst (λ p. IsSeated w.clients w.id s.seat (length (places_in s.out p)) (length (view_of w).unanswered + drafted p)) (sym now) (subst (λ p. IsSeated w.clients w.id s.seat (length (places_in s.out p)) (length (view_of w).unanswered + drafted p)) was i.seated);
      few = i.few;
    }

pub returns-clause-aims : goal.returns-clause-aims
returns-clause-aims c =
    let s : CallerState = standing_of c.self.inside in
    let draft : Draft = c.draft_in-op.result in
    let redrawn : Draft = record draft { event = c.of-event_noted.result } in (
      c.in-Some.row,
      sym c.row_at.ensures ∙ c.in-Some.is,
      subst (AimsAt c.in-Some.row c.args.entry c.aimed_at.result (Accept c.accepted_by.result) _) c.self.view_is (record {
        draft = draft;
        was = sym c.take_out.ensures.0 ∙ c.draft_in-op.ensures;
        entered = c.aimed_at.ensures;
        accepted = ap Accept c.accepted_by.ensures ∙ ap (λ (p : Data). Accept (accepted_by draft.op draft.asked.request draft.version c.in-Some.row s.priority p)) c.in-Ok.ensures;
        redrawn = redrawn;
        same = refl;
        drafted = c.of-event_noted.ensures;
        made = ap (λ (p : Phase). record s { phase = p }) c.set.ensures;
      }),
    )

pub returns-clause-right : goal.returns-clause-right
returns-clause-right c cells right = subst (IsRight cells) (sym c.aimed_at.ensures) (right_aimed cells c.args.entry c.in-Some.row c.self.inside.priority right)
