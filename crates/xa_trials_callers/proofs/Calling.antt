-- How the client of a trial goes on, call by call.
use Rattle.std.proofs.Common.{◌≡◌, ◌≢◌, ℕ, ◌+◌, ◌≤◌, true, List, length, Option, Some, None, ⊎_elim, sym, refl, ◌∙◌, ap, subst, arith, length-append}
use Rattle.std.specs.Prelude.{nat_le}
use Rattle.std.specs.List.{flat_map, sum_by}
use Rattle.std.proofs.lemmas.Bool.{and_parts, leb-true}
use Rattle.std.proofs.lemmas.List.{length-map}
use Rattle.std.proofs.lemmas.List.Recursion.{is_sum_by}
use Rattle.xa_types.specs.declared.data.Data.{Data}
use Rattle.xa_types.specs.declared.ids.RequestId.{RequestId}
use Rattle.xa_types.specs.declared.row.Row.{Row}
use Rattle.xa_types.specs.declared.setup.Setup.{Setup}
use Rattle.xa_types.specs.declared.setup.ServiceSetup.{ServiceSetup}
use Rattle.xa_types.specs.Configured.{is_configured, are_valid_services, are_served}
use Rattle.xa_types.specs.Found.{FoundRows}
use Rattle.xa_types.specs.Kind.{kind_of, is_sound, is_accepted}
use Rattle.xa_types.specs.Rows.{row_for, row_with, changes_of}
use Rattle.xa_types.specs.Setup.{service_named}
use Rattle.xa_events.specs.declared.event.Event.{Event}
use Rattle.xa_events.specs.Board.{boot}
use Rattle.xa_cell.specs.declared.cells.Cells.{Cells}
use Rattle.xa_cell.specs.declared.view.View.{View}
use Rattle.xa_cell.specs.Known.{IsSeatOf, IsTicketOf}
use Rattle.xa_cell.specs.Places.{Opens, Shuts}
use Rattle.xa_cell.specs.Views.{at}
use Rattle.xa_cell.proofs.Lists.{decided}
use Rattle.xa_queue.specs.declared.entry.Entry.{Entry}
use Rattle.xa_caller.specs.xa_frame.Spelling.{IsData}
use Rattle.xa_caller.specs.declared.cargo.Filling.{Filling}
use Rattle.xa_caller.specs.declared.phase.Draft.{Draft}
use Rattle.xa_caller.specs.declared.phase.Phase.{Phase}
use Rattle.xa_caller.specs.declared.phase.Phase.TheVariants.{Prepared}
use Rattle.xa_caller.specs.declared.outcomes.Prepared.{Prepared as Made}
use Rattle.xa_caller.specs.declared.outcomes.Aimed.TheVariants as aims
use Rattle.xa_caller.specs.Drafts.{Cargo}
use Rattle.xa_caller.specs.Caller.{CallerState, AreRowsOf}
use Rattle.xa_caller.specs.Changes.{Prepares}
use Rattle.xa_caller.specs.Unsent.{AimsAs}
use Rattle.xa_caller.proofs.Next.{found-all, row-service}
use Rattle.xa_caller.proofs.Unsent.{at-all}
use Rattle.xa_trials_callers.specs.Callers.{Stands, HasDraft}

same_draft : (phase : Phase) (draft other : Draft) → phase ≡ Prepared draft → phase ≡ Prepared other → other ≡ draft
same_draft phase draft other is is' = cc (is, is')

-- a row of a service by its own queue and routine
row_with_own : (configured : Option ServiceSetup) (service : List ℕ) (queue : ℕ) (routine : List ℕ) (row : Row) → row ≡ row_with configured service queue routine → row ≡ row_with configured service row.queue.0 row.routine
row_with_own None service queue routine row is = subst (λ (r : Row). r ≡ row_with None service r.queue.0 r.routine) (sym is) refl
row_with_own (Some configured) service queue routine row is = subst (λ (r : Row). r ≡ row_with (Some configured) service r.queue.0 r.routine) (sym is) refl

pub own_row : (setup : Setup) (service : List ℕ) (queue : ℕ) (routine : List ℕ) (row : Row) → row ≡ row_for setup service queue routine → row ≡ row_for setup service row.queue.0 row.routine
own_row setup service queue routine row is = row_with_own (service_named setup service) service queue routine row is

module _ (setup : Setup) (cells : Cells Filling) where
  -- a request that is made is to be put on one of the queues that were found
  pub drafted : (op last : ℕ) (service : List ℕ) (payload : Data) (found : FoundRows) (made : Made) (new old : CallerState) → op ≡ last + 1 → found.version ≤ 256 → is_sound setup payload ≡ true → IsData payload → AreRowsOf setup service found.rows
      → IsSeatOf cells new.seat → Stands setup last old → Prepares setup cells op payload found made new old → HasDraft setup cells last found made.entry new
  drafted op last service payload found made new old turn low sound spelled rows seat s p =
      let of_service = row-service setup service p.row (found-all (λ (row : Row). is_accepted setup row.accepts (kind_of payload)) (λ (row : Row). row ≡ row_for setup service row.queue.0 row.routine) found.rows p.row p.chosen rows) in
      record {
        seat = seat;
        stands = subst (Stands setup last) (sym p.made) s;
        draft = p.draft;
        was = ap (λ (c : CallerState). c.phase) p.made;
        next = ap (λ (d : Draft). d.op) p.drawn ∙ turn;
        version = ap (λ (d : Draft). d.version) p.drawn;
        low = low;
        cell = sym p.began.ticket_cell;
        sound = ap (λ (e : Entry Cargo). is_sound setup e.cargo.invocation.payload) p.entry ∙ sound;
        spelled = subst (λ (e : Entry Cargo). IsData e.cargo.invocation.payload) (sym p.entry) spelled;
        rows = subst (λ name. AreRowsOf setup name found.rows) (sym (ap (λ (e : Entry Cargo). e.cargo.invocation.service) p.entry ∙ of_service)) rows;
        ticket = p.began.table;
      }

  -- and so is one that is aimed anew
  pub aimed : (last : ℕ) (found : FoundRows) (entry : Entry Cargo) (new old : CallerState) → HasDraft setup cells last found entry old
      → (attempt : ℕ) (next : Entry Cargo) (event : Event) → AimsAs entry found.rows attempt (aims.At next event) new old → HasDraft setup cells last found next new
  aimed last found entry new old d attempt next event aim =
      let a = aim.2 in
      let same = a.same ∙ ap (λ (x : Draft). record x { event = a.redrawn.event }) (same_draft old.phase d.draft a.draft d.was a.was) in
      let of_service = row-service setup _ aim.0 (at-all (λ (row : Row). row ≡ row_for setup entry.cargo.invocation.service row.queue.0 row.routine) found.rows attempt aim.0 aim.1 d.rows) in
      record {
        seat = subst (IsSeatOf cells) (sym (ap (λ (c : CallerState). c.seat) a.made)) d.seat;
        stands = subst (Stands setup last) (sym a.made) d.stands;
        draft = a.redrawn;
        was = ap (λ (c : CallerState). c.phase) a.made;
        next = ap (λ (x : Draft). x.op) same ∙ d.next;
        version = ap (λ (x : Draft). x.version) same ∙ d.version;
        low = d.low;
        cell = ap (λ (x : Draft). x.asked.place.cell) same ∙ (d.cell ∙ sym (ap (λ (e : Entry Cargo). e.cargo.ticket.cell) a.entered));
        sound = ap (λ (e : Entry Cargo). is_sound setup e.cargo.invocation.payload) a.entered ∙ d.sound;
        spelled = subst (λ (e : Entry Cargo). IsData e.cargo.invocation.payload) (sym a.entered) d.spelled;
        rows = subst (λ name. AreRowsOf setup name found.rows) (sym (ap (λ (e : Entry Cargo). e.cargo.invocation.service) a.entered ∙ of_service)) d.rows;
        ticket = subst (λ (e : Entry Cargo). IsTicketOf cells e.cargo.ticket) (sym a.entered) d.ticket;
      }

-- the boot of a domain makes at most 256 changes
rows_in : (setup : Setup) (services : List ServiceSetup) → length (flat_map (changes_of setup) services) ≡ sum_by (λ (service : ServiceSetup). length service.queues) services
rows_in setup services = is_sum_by (λ services. length (flat_map (changes_of setup) services)) (λ (service : ServiceSetup). length service.queues) refl
    (λ service rest. length-append (changes_of setup service) (flat_map (changes_of setup) rest) ∙ ap (λ n. n + length (flat_map (changes_of setup) rest)) (length-map service.queues _)) services

pub boot_few : (setup : Setup) → is_configured setup ≡ true → boot setup ≤ 256
boot_few setup configured =
    let valid = (and_parts _ (are_valid_services setup) (and_parts _ (are_served setup) configured).0).1 in
    omega (arith, rows_in setup setup.services, leb-true _ 256 (and_parts _ (nat_le (sum_by (λ (service : ServiceSetup). length service.queues) setup.services) 256) valid).1)

-- a place that was opened, and is given back behind calls that leave all places alone
pub same_asked : {A : Type 0} (k : ℕ) (q : RequestId) (v w x y : View A) → Opens k q v w → ((j : ℕ) → (at j x).asked ≡ (at j w).asked) → Shuts k x y → (j : ℕ) → (at j y).asked ≡ (at j v).asked
same_asked k q v w x y o same s j = ⊎_elim
    (λ (e : j ≡ k). subst (λ (i : ℕ). (at i y).asked ≡ (at i v).asked) (sym e) (s.shut ∙ sym o.shut))
    (λ (ne : j ≢ k). (s.others j ne).0 ∙ (same j ∙ (o.others j ne).0)) (decided j k)
