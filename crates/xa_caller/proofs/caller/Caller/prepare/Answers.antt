use Rattle.std.proofs.Common.{◌≡◌, ℕ, ◌+◌, refl, sym, ◌∙◌, ap, subst, arith}
use Rattle.xa_types.specs.declared.ids.RequestId.{RequestId}
use Rattle.xa_events.specs.declared.event.Event.{Event}
use Rattle.xa_events.specs.declared.event.Event.TheVariants.{Accept}
use Rattle.xa_cell.specs.Known.{known}
use Rattle.xa_worker.specs.Work.{WorkState}
use Rattle.xa_caller.specs.declared.phase.Phase.{Phase}
use Rattle.xa_caller.specs.declared.phase.Phase.TheVariants.{Idle, Prepared}
use Rattle.xa_caller.specs.Caller.{CallerState, view_of, room_to_send}
use Rattle.xa_caller.specs.Kept.{standing_of, IsDraft, IsKept}
use Rattle.xa_caller.proofs.Keeping.{more_room, on_err, kept-out, kept-looked, kept-drafted}
use Rattle.std.proofs.Common.{max}
use Rattle.xa_types.specs.declared.row.Row.{Row}
use Rattle.xa_types.specs.Priority.{priority_of}
use Rattle.xa_types.specs.Rows.{row_for}
use Rattle.xa_events.specs.Cases.{priority_by}
use Rattle.xa_caller.proofs.Next.{row-priority, found-all, sound_ask}
use Rattle.xa_events.specs.declared.event.Accepted.{Accepted}
use Rattle.xa_worker.proofs.Noting.{on_ok}
use Rattle.xa_types.specs.declared.data.Data.{Data}
use Rattle.xa_types.specs.declared.setup.Setup.{Setup}
use Rattle.xa_types.specs.Found.{FoundRows}
use Rattle.xa_types.specs.Kind.{is_sound, is_accepted, kind_of}
use Rattle.xa_cell.specs.Calls.{Began}
use Rattle.xa_caller.specs.Drafts.{accepted_by, entry_by}
use Rattle.xa_caller.specs.declared.phase.Draft.{Draft}
use Rattle.xa_caller.specs.Changes.{Prepares}
use Rattle.xa_caller.proofs.Reading.{stops_from}
use Rattle.xa_caller.proofs.Counting.{all_owed}
use Rattle.xa_caller.proofs.Unsent.{limits_from}
use Rattle.xa_caller.specs.Changes.{StopsAs}
use Rattle.xa_caller.specs.declared.outcomes.Stop.{Stop}
use Rattle.xa_caller.specs.declared.caller.Caller.TheInside.{Inside}
use Rattle.xa_caller.specs.declared.phase.Open.{Open}
use Rattle.xa_caller.specs.Phases.{drafted}
use Rattle.xa_events.specs.Caller.{descriptor_limit}
use Rattle.xa_cell.specs.Places.{Opens}
use Rattle.std.proofs.Common.{◌≤◌, List, length}
use Rattle.xa_frame.specs.Spelling.{IsData}
use Rattle.xa_caller.proofs.Sound.{sound_is_data}
use Rattle.xa_caller.proofs.Tickets.{right_begun}
use Rattle.xa_caller.proofs.caller.Caller.prepare.Goals as goal

pub returns-in_default-clause-stopped : goal.returns-in_default-clause-stopped
returns-in_default-clause-stopped c = stops_from c.args.setup.now c.args.op c.args.ask.now.payload c.args.found.now c.turn_down.result c.turn_down.new.self c.args.self.now (sym c.first_row.ensures ∙ c.in_default.is) c.turn_down.ensures

pub invariant_of-self : goal.invariant_of-self
invariant_of-self c =
    let idle = ap (λ (t : CallerState). t.phase) c.self.view_is ∙ c.requires.idle in
    kept-out c.self.inside c.reserve.new.self c.self.invariant idle c.reserve.ensures.all

pub invariant_of-self-then-is_err-2 : goal.invariant_of-self-then-is_err-2
invariant_of-self-then-is_err-2 c =
    let idle = ap (λ (t : CallerState). t.phase) c.self.view_is ∙ c.requires.idle in
    subst (λ (v : WorkState). IsKept (record c.self.inside { work = v; out = c.reserve.new.self })) (sym (on_err c.reserve-2.result (sym c.is_err-2.ensures.value ∙ c.if-is_err-2.true) c.reserve-2.ensures.kept)) (kept-out c.self.inside c.reserve.new.self c.self.invariant idle c.reserve.ensures.all)

pub invariant_of-self-2 : goal.invariant_of-self-2
invariant_of-self-2 c =
    let s : CallerState = standing_of c.self.inside in
    let w : WorkState = c.self.inside.work in
    let idle : s.phase ≡ Idle = ap (λ (t : CallerState). t.phase) c.self.view_is ∙ c.requires.idle in
    let more : Inside = record c.self.inside { out = c.reserve.new.self } in
    let made0 = on_ok c.reserve-2.result (sym c.is_err-2.ensures.value ∙ c.if-is_err-2.false) c.reserve-2.ensures.ok in
    let k = more_room more c.reserve-2.new.self (c.count-out.result + room_to_send) (kept-out c.self.inside c.reserve.new.self c.self.invariant idle c.reserve.ensures.all) made0 in
    k

pub refuse-requires-clause-shows : goal.refuse-requires-clause-shows
refuse-requires-clause-shows c =
    let s : CallerState = standing_of c.self.inside in
    let w : WorkState = c.self.inside.work in
    let idle : s.phase ≡ Idle = ap (λ (t : CallerState). t.phase) c.self.view_is ∙ c.requires.idle in
    let more : Inside = record c.self.inside { out = c.reserve.new.self } in
    let made0 = on_ok c.reserve-2.result (sym c.is_err-2.ensures.value ∙ c.if-is_err-2.false) c.reserve-2.ensures.ok in
    let k = more_room more c.reserve-2.new.self (c.count-out.result + room_to_send) (kept-out c.self.inside c.reserve.new.self c.self.invariant idle c.reserve.ensures.all) made0 in
    let full = c.in-Err.ensures.full in
    let limit = full.0 ∙ c.self.invariant.seated.limit in
    let owed = all_owed w.clients w.id s.seat c.draft_by.new.seat _ _ c.self.invariant.seated full.1 in
    let none = ap drafted idle in
    let n = full.0 in
    subst (λ (v : WorkState). (c.in-Err.full ≡ descriptor_limit v.clients v.id.0) × (c.in-Err.full ≤ length (view_of v).unanswered)) (sym made0) (limit, omega (arith, owed, none, n))

pub invariant_of-self-in-Err : goal.invariant_of-self-in-Err
invariant_of-self-in-Err c =
    let s : CallerState = standing_of c.self.inside in
    let w : WorkState = c.self.inside.work in
    let idle : s.phase ≡ Idle = ap (λ (t : CallerState). t.phase) c.self.view_is ∙ c.requires.idle in
    let more : Inside = record c.self.inside { out = c.reserve.new.self } in
    let made0 = on_ok c.reserve-2.result (sym c.is_err-2.ensures.value ∙ c.if-is_err-2.false) c.reserve-2.ensures.ok in
    let k = more_room more c.reserve-2.new.self (c.count-out.result + room_to_send) (kept-out c.self.inside c.reserve.new.self c.self.invariant idle c.reserve.ensures.all) made0 in
    kept-looked c.args.cells.now (record more { work = c.reserve-2.new.self }) c.draft_by.new.seat k idle c.draft_by.ensures.cells c.in-Err.ensures.full.2

pub returns-in-Err-clause-stopped : goal.returns-in-Err-clause-stopped
returns-in-Err-clause-stopped c =
    let s : CallerState = standing_of c.self.inside in
    let w : WorkState = c.self.inside.work in
    let idle : s.phase ≡ Idle = ap (λ (t : CallerState). t.phase) c.self.view_is ∙ c.requires.idle in
    let more : Inside = record c.self.inside { out = c.reserve.new.self } in
    let made0 = on_ok c.reserve-2.result (sym c.is_err-2.ensures.value ∙ c.if-is_err-2.false) c.reserve-2.ensures.ok in
    let k = more_room more c.reserve-2.new.self (c.count-out.result + room_to_send) (kept-out c.self.inside c.reserve.new.self c.self.invariant idle c.reserve.ensures.all) made0 in
    let full = c.in-Err.ensures.full in
    let count : c.count-out.result ≡ length s.out = c.count-out.ensures.value ∙ ap (λ (t : CallerState). length t.out) (sym c.self.view_is) in
    let mid = ap (λ (v : WorkState). record s { work = v; seat = c.draft_by.new.seat; out = c.reserve.new.self.all }) (made0 ∙ ap (λ n. record w { room = max w.room (n + room_to_send) }) count)
    ∙ ap (λ (l : List Open). record s { work = record w { room = max w.room (length s.out + room_to_send) }; seat = c.draft_by.new.seat; out = l }) c.reserve.ensures.all in
    subst (StopsAs c.args.setup.now c.args.op c.args.ask.now.payload c.args.found.now c.stop.result c.refuse.new.self) c.self.view_is
    (subst (λ (z : Stop). StopsAs c.args.setup.now c.args.op c.args.ask.now.payload c.args.found.now z c.refuse.new.self s) (sym c.stop.ensures)
    (limits_from c.args.setup.now c.args.op c.in-Err.full c.args.ask.now.payload c.args.found.now c.in-Some.row c.refuse.result c.refuse.new.self _ s c.draft_by.new.seat (sym c.first_row.ensures ∙ c.in-Some.is) c.refuse.ensures.ok c.refuse.ensures.halted c.refuse.ensures.kept mid full.1 full.0))

pub invariant_of-self-in-Ok-draft_by : goal.invariant_of-self-in-Ok-draft_by
invariant_of-self-in-Ok-draft_by c =
    let s : CallerState = standing_of c.self.inside in
    let w : WorkState = c.self.inside.work in
    let idle : s.phase ≡ Idle = ap (λ (t : CallerState). t.phase) c.self.view_is ∙ c.requires.idle in
    let more : Inside = record c.self.inside { out = c.reserve.new.self } in
    let made0 = on_ok c.reserve-2.result (sym c.is_err-2.ensures.value ∙ c.if-is_err-2.false) c.reserve-2.ensures.ok in
    let k = more_room more c.reserve-2.new.self (c.count-out.result + room_to_send) (kept-out c.self.inside c.reserve.new.self c.self.invariant idle c.reserve.ensures.all) made0 in
    let i = c.self.invariant in
    let made = made0 in
    let made_draft = c.in-Ok-draft_by.drafted in
    let e = c.in-Ok-draft_by.ensures in
    let request = c.next_request-request.result in
    let now : c.set.new.phase ≡ Prepared made_draft.draft = c.set.ensures in
    let next = ap (λ (t : CallerState). t.op) c.self.view_is in
    let low = ap (λ (t : CallerState). t.least) c.self.view_is in
    let setup = ap (λ (t : CallerState). t.work.setup) c.self.view_is ∙ sym c.requires.setup.0 in
    let mine : request ≡ record { caller = w.id; number = s.sent + 1 } = c.next_request-request.ensures ∙ ap (λ (v : WorkState). record { caller = v.id; number = s.sent + 1 }) made in
    let version = ap (λ (f : FoundRows). f.version) c.found.view_is in
    let drawn : made_draft.draft.version ≡ c.found.inside.version = ap (λ (d : Draft). d.version) e.draft in
    let asked : made_draft.draft.asked.request ≡ request = ap (λ (d : Draft). d.asked.request) e.draft in
    let sent : Data = c.in-Ok.copies.sent in
    let a : Accepted = accepted_by c.args.op request c.found.inside.version c.in-Some.row s.priority sent in
    let d : IsDraft w.setup w.id s.op s.sent s.least s.priority made_draft.draft =
    record {
      accepted = a;
      is = e.event.0 ∙ e.event.1;
      by = ap (λ (r : RequestId). r.caller) mine;
      next = omega (arith, next, c.requires.turn);
      of_draft = ap (λ (d : Draft). d.op) (sym e.draft);
      request = sym asked;
      mine = mine;
      mode = refl;
      sound = ap (is_sound w.setup) c.in-Ok.ensures.0 ∙ ap (λ (t : Setup). is_sound t c.args.ask.now.payload) setup ∙ sound_ask c.args.setup.now c.args.ask.now c.requires.valid;
      version = sym drawn;
      recent = omega (arith, low, c.requires.recent, version, drawn);
      priority_is = subst (λ (t : Setup). priority_of c.in-Some.row.priority s.priority ≡ priority_by t c.in-Some.row.service s.priority) (sym setup) (row-priority c.args.setup.now c.args.ask.now.service c.in-Some.row s.priority (found-all (λ (row : Row). is_accepted c.args.setup.now row.accepts (kind_of c.args.ask.now.payload)) (λ (row : Row). row ≡ row_for c.args.setup.now c.args.ask.now.service row.queue.0 row.routine) c.args.found.now.rows c.in-Some.row (sym c.first_row.ensures ∙ c.in-Some.is) c.requires.rows));
    } in
    let count : c.count-out.result ≡ length s.out = c.count-out.ensures.value ∙ ap (λ (t : CallerState). length t.out) (sym c.self.view_is) in
    let room = ap (λ (v : WorkState). v.room) made0 in
    let same = ap (λ (l : List Open). length l) c.reserve.ensures.all in
    let cell = e.began.cell in
    let opens = subst (λ r. Opens made_draft.draft.asked.place.cell r (known s.seat) (known c.draft_by.new.seat)) (sym asked) e.opens in
    let spare = on_ok c.reserve.result (sym c.is_err.ensures.value ∙ c.if-is_err.false) c.reserve.ensures.room in
    let its = subst (λ (v : WorkState). IsDraft v.setup v.id s.op s.sent s.least s.priority made_draft.draft) (sym made0) d in
    subst (λ (p : Phase). IsKept (record more { work = c.reserve-2.new.self; seat = c.draft_by.new.seat; phase = p })) (sym now)
    (kept-drafted c.args.cells.now (record more { work = c.reserve-2.new.self }) c.draft_by.new.seat made_draft.draft k idle c.draft_by.ensures.cells opens (omega (arith, cell)) e.began.own (omega (arith, room, count, same)) spare its)

pub returns-in-Ok-draft_by-clause-ok : goal.returns-in-Ok-draft_by-clause-ok
returns-in-Ok-draft_by-clause-ok c =
    let s : CallerState = standing_of c.self.inside in
    let w : WorkState = c.self.inside.work in
    let count : c.count-out.result ≡ length s.out = c.count-out.ensures.value ∙ ap (λ (t : CallerState). length t.out) (sym c.self.view_is) in
    let w' : WorkState = record w { room = max w.room (length s.out + room_to_send) } in
    let made : c.reserve-2.new.self ≡ w' = on_ok c.reserve-2.result (sym c.is_err-2.ensures.value ∙ c.if-is_err-2.false) c.reserve-2.ensures.ok ∙ ap (λ n. record w { room = max w.room (n + room_to_send) }) count in
    let made_draft = c.in-Ok-draft_by.drafted in
    let e = c.in-Ok-draft_by.ensures in
    let m : RequestId = record { caller = w.id; number = s.sent + 1 } in
    let mine : c.next_request-request.result ≡ m = c.next_request-request.ensures ∙ ap (λ (v : WorkState). record { caller = v.id; number = s.sent + 1 }) made in
    let event : RequestId → ℕ → Data → Event = λ r v d. Accept (accepted_by c.args.op r v c.in-Some.row s.priority d) in
    let drawn : RequestId → ℕ → Draft = λ r v. record { asked = record { request = r; place = made_draft.draft.asked.place }; op = c.args.op; version = v; event = made_draft.draft.event } in
    let seat = c.draft_by.new.seat in
    subst (Prepares c.args.setup.now c.args.cells.now c.args.op c.args.ask.now.payload c.args.found.now _ _) c.self.view_is (record {
      row = c.in-Some.row;
      chosen = sym c.first_row.ensures ∙ c.in-Some.is;
      draft = made_draft.draft;
      drawn = e.draft ∙ ap (λ (r : RequestId). drawn r c.found.inside.version) mine ∙ ap (λ (f : FoundRows). drawn m f.version) c.found.view_is;
      event = e.event.1 ∙ ap (λ r. event r c.found.inside.version c.in-Ok.copies.sent) mine ∙ ap (λ (f : FoundRows). event m f.version c.in-Ok.copies.sent) c.found.view_is ∙ ap (event m c.args.found.now.version) c.in-Ok.ensures.0;
      drafted = e.event.0;
      entry = e.entry ∙ ap (λ r. entry_by r c.in-Some.row s.priority c.in-Ok.copies.kept made_draft.entry.cargo.ticket) mine ∙ ap (λ d. entry_by m c.in-Some.row s.priority d made_draft.entry.cargo.ticket) c.in-Ok.ensures.1;
      began = subst (λ r. Began c.args.cells.now r s.seat seat made_draft.draft.asked.place made_draft.entry.cargo.ticket) mine e.began;
      made = ap (λ (v : WorkState). record s { work = v; seat = seat; out = c.reserve.new.self.all; phase = c.set.new.phase }) made ∙ ap (λ (l : List Open). record s { work = w'; seat = seat; out = l; phase = c.set.new.phase }) c.reserve.ensures.all ∙ ap (λ (p : Phase). record s { work = w'; seat = seat; phase = p }) c.set.ensures;
    })

pub returns-in-Ok-draft_by-clause-right : goal.returns-in-Ok-draft_by-clause-right
returns-in-Ok-draft_by-clause-right c = right_begun c.args.cells.now c.next_request-request.result c.in-Some.row c.self.inside.priority c.in-Ok.copies.kept c.self.inside.seat c.draft_by.new.seat c.in-Ok-draft_by.drafted.draft.asked.place c.in-Ok-draft_by.drafted.entry c.in-Ok-draft_by.ensures.entry c.in-Ok-draft_by.ensures.began
    (subst IsData (sym c.in-Ok.ensures.1) (sound_is_data c.args.setup.now c.args.ask.now.payload c.requires.setup.1 (sound_ask c.args.setup.now c.args.ask.now c.requires.valid)))
