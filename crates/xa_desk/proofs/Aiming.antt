-- A request that is aimed by another row.
use Rattle.std.proofs.Common.{◌≡◌, ℕ, ◌+◌, true, List, [], Some, None, refl, sym, ◌∙◌, ap, subst, arith}
use Rattle.xa_desk.specs.Steps.{FitsOn}
use Rattle.xa_server.specs.xa_cell.Known.{known}
use Rattle.std.specs.Prelude.{slice_get}
use Rattle.std.specs.List.{Contains}
use Rattle.std.proofs.lemmas.List.Elements.{All-contains, All-contains_itself}
use Rattle.xa_server.specs.xa_types.declared.call.Ask.{Ask}
use Rattle.xa_server.specs.xa_types.declared.data.Data.{Data}
use Rattle.xa_server.specs.xa_types.declared.ids.RequestId.{RequestId}
use Rattle.xa_server.specs.xa_types.declared.row.Row.{Row}
use Rattle.xa_server.specs.xa_types.Found.{FoundRows}
use Rattle.xa_server.specs.xa_types.declared.setup.Setup.{Setup}
use Rattle.xa_server.specs.xa_types.Kind.{kind_of, is_accepted, is_sound}
use Rattle.xa_server.specs.xa_types.Rows.{row_for}
use Rattle.xa_server.specs.xa_types.Setup.{service_named}
use Rattle.xa_server.specs.xa_events.declared.event.Event.{Event}
use Rattle.xa_server.specs.xa_events.declared.event.Event.TheVariants.{Accept}
use Rattle.xa_server.specs.xa_cell.declared.tokens.Ticket.{Ticket}
use Rattle.xa_server.specs.xa_queue.declared.entry.Entry.{Entry}
use Rattle.xa_server.specs.xa_held.Kept.{IsRight}
use Rattle.xa_server.specs.xa_caller.declared.cargo.Filling.{Filling}
use Rattle.xa_server.specs.xa_caller.declared.outcomes.Aimed.{Aimed}
use Rattle.xa_server.specs.xa_caller.declared.outcomes.Aimed.TheVariants as aims
use Rattle.xa_server.specs.xa_caller.declared.phase.Draft.{Draft}
use Rattle.xa_server.specs.xa_caller.declared.phase.Open.{Open}
use Rattle.xa_server.specs.xa_caller.declared.phase.Phase.{Phase}
use Rattle.xa_server.specs.xa_caller.Caller.{CallerState, AreRowsOf}
use Rattle.xa_server.specs.xa_caller.Drafts.{Cargo, accepted_by, entry_by}
use Rattle.xa_server.specs.xa_caller.Phases.{just_in, IsOfVersion}
use Rattle.xa_server.specs.xa_caller.Unsent.{AimsAs, AimsAt, entry_in}
use Rattle.xa_server.proofs.xa_caller.Next.{same_kinds, row-service}
use Rattle.xa_server.proofs.xa_caller.Unsent.{at-all}
use Rattle.xa_desk.specs.declared.domain.Domain.{Domain}
use Rattle.xa_desk.proofs.Leading.{grew_none, IsQuiet, calm_leads}
use Rattle.xa_desk.specs.declared.desk.Desk.{Desk}
use Rattle.xa_desk.specs.Desks.{IsDesk, Leads}
use Rattle.xa_desk.specs.Found.{HasFound, IsAimed, StillAimed, next_request}
use Rattle.xa_desk.proofs.Fitting.{no_more_fits}
use Rattle.xa_desk.proofs.Seating.{takes_same}
use Rattle.xa_desk.proofs.Sending.{same_draft}
use Rattle.xa_desk.proofs.Staying.{aimed_stays, found_stays}

aims_at : (d : Domain) (found : FoundRows) (ask : Ask) (entry aimed : Entry Cargo) (event event' : Event) (row : Row) (attempt : ℕ) (old new : Desk) → slice_get found.rows attempt ≡ Some row → AimsAt row entry aimed event' new.caller old.caller → HasFound d ask.service found old
    → IsAimed d found ask.payload entry event old → IsRight d.cells aimed → IsAimed d found ask.payload aimed event' new
aims_at d found ask entry aimed event event' row attempt old new there by has before right =
    let payload : Data = ask.payload in
    let again : Draft = by.redrawn in
    let first : by.draft ≡ before.draft = same_draft by.draft before.draft old.caller.phase by.was before.prepared in
    let asked : again.asked ≡ before.draft.asked = ap (λ (t : Draft). t.asked) by.same ∙ ap (λ (t : Draft). t.asked) first in
    let version : again.version ≡ found.version = ap (λ (t : Draft). t.version) by.same ∙ ap (λ (t : Draft). t.version) first ∙ before.version in
    let request : entry.request ≡ again.asked.request = ap (λ (e : Entry Cargo). e.request) before.entry_is ∙ sym (ap (λ (open_ : Open). open_.request) asked) in
    let data_is : entry.cargo.invocation.payload ≡ payload = ap (λ (e : Entry Cargo). e.cargo.invocation.payload) before.entry_is in
    let set = old.caller.priority in
    let still : new.caller.priority ≡ set = ap (λ (c : CallerState). c.priority) by.made in
    let among : Contains found.rows row = at-all (Contains found.rows) found.rows attempt row there (All-contains_itself found.rows) in
    let IsIts : Row → Type 0 = λ r. r ≡ row_for d.setup ask.service r.queue.0 r.routine in
    let kind : (r : Row) → Contains found.rows r → is_accepted d.setup r.accepts (kind_of payload) ≡ is_accepted d.setup (row_for d.setup ask.service 0 []).accepts (kind_of payload) = λ r here. same_kinds d.setup ask.service (service_named d.setup ask.service) (kind_of payload) r (All-contains IsIts found.rows r has.rows here) in
    let ticket = ap (λ (e : Entry Cargo). e.cargo.ticket) by.entered in
    record {
      draft = again;
      prepared = ap (λ (c : CallerState). c.phase) by.made;
      drafted = by.drafted;
      mine = ap (λ (o : Open). o.request) asked ∙ before.mine ∙ sym (ap next_request by.made);
      turn = ap (λ (t : Draft). t.op) by.same ∙ ap (λ (t : Draft). t.op) first ∙ before.turn ∙ ap (λ (c : CallerState). c.op + 1) (sym by.made);
      version = version;
      sound = before.sound;
      row = row;
      among = among;
      accepts = kind row among ∙ sym (kind before.row before.among) ∙ before.accepts;
      entry_is = by.entered ∙ ap (λ (r : RequestId). entry_by r row set entry.cargo.invocation.payload entry.cargo.ticket) request ∙ ap (λ (p : Data). entry_by again.asked.request row set p entry.cargo.ticket) data_is
          ∙ ap (λ (t : Ticket Filling). entry_by again.asked.request row set payload t) (sym ticket) ∙ ap (λ asked. entry_by again.asked.request row asked payload aimed.cargo.ticket) (sym still);
      event_is = by.accepted ∙ ap (λ (t : Draft). Accept (accepted_by t.op t.asked.request t.version row set entry.cargo.invocation.payload)) (sym by.same) ∙ ap (λ (v : ℕ). Accept (accepted_by again.op again.asked.request v row set entry.cargo.invocation.payload)) version
          ∙ ap (λ (p : Data). Accept (accepted_by again.op again.asked.request found.version row set p)) data_is ∙ ap (λ asked. Accept (accepted_by again.op again.asked.request found.version row asked payload)) (sym still);
      right = right;
      cell = ap (λ (open_ : Open). open_.place.cell) asked ∙ before.cell ∙ sym (ap (λ (t : Ticket Filling). t.cell) ticket);
    }

-- nothing but the phase changed, or nothing
same_but_phase : (entry : Entry Cargo) (found : FoundRows) (attempt : ℕ) (result : Aimed) (old new : CallerState) → AimsAs entry found.rows attempt result new old → new ≡ record old { phase = new.phase }
same_but_phase entry found attempt (aims.At aimed event) old new is = let made = is.2.made in made ∙ ap (λ (p : Phase). record old { phase = p }) (sym (ap (λ (c : CallerState). c.phase) made))
same_but_phase entry found attempt (aims.Past back) old new is = is.2 ∙ ap (λ (p : Phase). record old { phase = p }) (sym (ap (λ (c : CallerState). c.phase) is.2))
same_but_phase entry found attempt (aims.NoMemory back) old new is = is.1 ∙ ap (λ (p : Phase). record old { phase = p }) (sym (ap (λ (c : CallerState). c.phase) is.1))

module _ (d : Domain) (desk : Desk) (new : CallerState) (found : FoundRows) (entry : Entry Cargo) (attempt : ℕ) (result : Aimed) (so : AimsAs entry found.rows attempt result new desk.caller) where
  phase_alone : new ≡ record desk.caller { phase = new.phase }
  phase_alone = same_but_phase entry found attempt result desk.caller new so

  pub aim_goes : IsDesk d desk → just_in desk.caller.phase ≡ None → Leads d desk (record desk { caller = new }) × ((service : List ℕ) → HasFound d service found desk → HasFound d service found (record desk { caller = new })) × ((op : ℕ) (ask : Ask) → FitsOn d op ask desk (record desk { caller = new }))
  aim_goes is idle =
      let quiet : IsQuiet d desk new = subst (IsQuiet d desk) (sym phase_alone) (record { grew = grew_none desk.caller.work desk.caller.work desk.caller.work.room desk.caller.work.stamp refl (omega arith); seat = is.seat; takes = takes_same (known desk.caller.seat); least = refl }) in
      let leads = calm_leads d desk new quiet is (ap (λ (c : CallerState). c.work.stamp) phase_alone) in
      let least = ap (λ (c : CallerState). c.least) phase_alone in (
        leads,
        λ service has. let recent = has.recent in found_stays d desk (record desk { caller = new }) leads service found refl (omega (arith, recent, least)) has,
        λ op ask apart wants ops its. no_more_fits d desk (record desk { caller = new }) leads quiet.grew (λ none. idle) ops,
      )

pub aim_aims : (d : Domain) (desk : Desk) (new : CallerState) (found : FoundRows) (entry : Entry Cargo) (attempt : ℕ) (r : Aimed) → AimsAs entry found.rows attempt r new desk.caller → (ask : Ask) (event : Event) → IsRight d.cells (entry_in r) → HasFound d ask.service found desk → IsAimed d found ask.payload entry event desk → StillAimed d found ask.payload event r (record desk { caller = new })
aim_aims d desk new found entry attempt (aims.At aimed event') is ask event right has before = aims_at d found ask entry aimed event event' is.0 attempt desk (record desk { caller = new }) is.1 is.2 has before right
aim_aims d desk new found entry attempt (aims.Past back) is ask event right has before =
    aimed_stays d found ask.payload back event desk (record desk { caller = new }) (ap (λ (c : CallerState). c.phase) is.2) (ap (λ (c : CallerState). c.op) is.2) (ap (λ (c : CallerState). c.priority) is.2) (ap next_request is.2) (subst (λ (e : Entry Cargo). IsAimed d found ask.payload e event desk) (sym is.1) before)
aim_aims d desk new found entry attempt (aims.NoMemory back) is ask event right has before =
    aimed_stays d found ask.payload back event desk (record desk { caller = new }) (ap (λ (c : CallerState). c.phase) is.1) (ap (λ (c : CallerState). c.op) is.1) (ap (λ (c : CallerState). c.priority) is.1) (ap next_request is.1) (subst (λ (e : Entry Cargo). IsAimed d found ask.payload e event desk) (sym is.0) before)

-- what a caller asks of an aim
pub aim_requires : (d : Domain) (desk : Desk) (found : FoundRows) (entry : Entry Cargo) → IsDesk d desk → (ask : Ask) (event : Event) → HasFound d ask.service found desk → IsAimed d found ask.payload entry event desk
    → IsOfVersion found.version desk.caller.phase × (is_sound desk.caller.work.setup entry.cargo.invocation.payload ≡ true) × AreRowsOf desk.caller.work.setup entry.cargo.invocation.service found.rows
aim_requires d desk found entry is ask event has aimed =
    let IsIts : Row → Type 0 = λ r. r ≡ row_for d.setup ask.service r.queue.0 r.routine in
    let service : entry.cargo.invocation.service ≡ ask.service =
    ap (λ (e : Entry Cargo). e.cargo.invocation.service) aimed.entry_is ∙ row-service d.setup ask.service aimed.row (All-contains IsIts found.rows aimed.row has.rows aimed.among) in (
      subst (IsOfVersion found.version) (sym aimed.prepared) aimed.version,
      ap (is_sound desk.caller.work.setup) (ap (λ (e : Entry Cargo). e.cargo.invocation.payload) aimed.entry_is) ∙ subst (λ (s : Setup). is_sound s ask.payload ≡ true) (sym is.setup) aimed.sound,
      subst (λ (s : Setup). AreRowsOf s entry.cargo.invocation.service found.rows) (sym is.setup) (subst (λ (name : List ℕ). AreRowsOf d.setup name found.rows) (sym service) has.rows),
    )
