-- What a worker found and saw stands as it goes on.
use Rattle.std.proofs.Common.{◌≡◌, ◌≤◌, ℕ, ◌+◌, true, false, List, [], ◌++◌, refl, sym, ◌∙◌, ap, subst, append-nil, arith}
use Rattle.std.specs.Prelude.{IsSomeAnd}
use Rattle.std.proofs.lemmas.List.Elements.{All-weaker}
use Rattle.xa_server.specs.xa_types.declared.data.Data.{Data}
use Rattle.xa_server.specs.xa_types.declared.row.Row.{Row}
use Rattle.xa_server.specs.xa_types.Found.{FoundRows}
use Rattle.xa_server.specs.xa_types.Kind.{is_accepted, kind_of}
use Rattle.xa_server.specs.xa_events.declared.event.Event.{Event}
use Rattle.xa_server.specs.xa_events.declared.event.Event.TheVariants.{Accept}
use Rattle.xa_server.specs.xa_events.declared.event.Taken.{Taken}
use Rattle.xa_server.specs.xa_events.Board.{published}
use Rattle.xa_server.specs.xa_events.Cases.{RowStands, RowAdmits}
use Rattle.xa_server.specs.xa_events.Request.{is_entry_of}
use Rattle.xa_server.specs.xa_events.Homes.{is_take_by}
use Rattle.xa_server.specs.xa_events.Words.{count, latest}
use Rattle.xa_server.specs.xa_stamp.declared.home.Stamped.{Stamped}
use Rattle.xa_server.specs.xa_worker.Seen.{past_in, SawSince}
use Rattle.xa_server.proofs.xa_worker.Lists.{past_in-append}
use Rattle.xa_server.proofs.xa_held.Counting.{count_append}
use Rattle.xa_server.specs.xa_held.Joins.{changes_at}
use Rattle.xa_server.specs.xa_held.Kept.{Brings}
use Rattle.xa_server.specs.xa_queue.declared.entry.Entry.{Entry}
use Rattle.xa_server.specs.xa_caller.Drafts.{Cargo, accepted_by, entry_by}
use Rattle.xa_desk.specs.declared.domain.Domain.{Domain}
use Rattle.xa_desk.specs.declared.desk.Desk.{Desk}
use Rattle.xa_desk.specs.Whole.{entries_of}
use Rattle.xa_desk.specs.Desks.{Leads, page_in}
use Rattle.xa_desk.specs.Found.{SawOnBoard, SawAtQueue, SawItsOwnAt, SawInHandAt, HasFound, IsAimed, next_request}
use Rattle.xa_desk.specs.Serving.{IsTaken}

module _ (d : Domain) (old new : Desk) (leads : Leads d old new) where
  pub board_stays : (P : List Event → Type 0) → SawOnBoard d old P → SawOnBoard d new P
  board_stays P saw whole on stamp less = let later = leads.stamp in saw whole (leads.before whole on) stamp (omega (arith, less, later))

  pub queue_stays : (queue : ℕ) (P : List Event → Type 0) → SawAtQueue d queue old P → SawAtQueue d queue new P
  queue_stays queue P saw whole on stamp less = let later = leads.stamp in saw whole (leads.before whole on) stamp (omega (arith, less, later))

  -- where the same worker noted no more there
  pub itself_stays : (queue : ℕ) (P : List Event → Type 0) → new.caller.work.id ≡ old.caller.work.id → new.caller.work.own ≡ old.caller.work.own → SawItsOwnAt d queue old P → SawItsOwnAt d queue new P
  itself_stays queue P id own saw whole on stamp less =
      let later = leads.stamp in
      let seen = saw whole (leads.before whole on) stamp (omega (arith, less, later)) in
      let past = ap past_in own in
      let is = ap (λ i. i.0) id in
      subst (λ (n : ℕ). SawSince d.setup d.clients (entries_of whole) stamp n queue P (past_in new.caller.work.own)) (sym is) (subst (SawSince d.setup d.clients (entries_of whole) stamp old.caller.work.id.0 queue P) (sym {A = List Event} past) seen)

  -- where it noted more, of which nothing is a take of that server
  pub in_hand_stays : (server : ℕ) (P : List Event → Type 0) (added : List Stamped) → new.caller.work.own ≡ old.caller.work.own ++ added → count (is_take_by server) (past_in added) ≡ 0 → SawInHandAt d server old P → SawInHandAt d server new P
  in_hand_stays server P added own none saw whole on stamp less =
      let later = leads.stamp in
      let takes : List Event → ℕ = count (is_take_by server) in
      let before = past_in old.caller.work.own in
      let parts : takes (past_in new.caller.work.own) ≡ takes (past_in added) + takes before = ap (λ l. takes (past_in l)) own ∙ ap takes (past_in-append old.caller.work.own added) ∙ count_append (is_take_by server) (past_in added) before in
      let same : takes before ≡ takes (past_in new.caller.work.own) = omega (arith, parts, none) in
      let seen = saw whole (leads.before whole on) stamp (omega (arith, less, later)) in
      record { front = seen.front; stands = seen.stands; before = seen.before; shows = (seen.shows.0, seen.shows.1 ∙ same) }

  -- and a request that was taken is as it was sent
  pub taken_stays : (queue : ℕ) (t : Taken) (entry : Entry Cargo) (added : List Stamped) → new.caller.work.id ≡ old.caller.work.id → new.caller.work.own ≡ old.caller.work.own ++ added → count (is_take_by t.server.0) (past_in added) ≡ 0
      → IsTaken d queue t old entry → IsTaken d queue t new entry
  taken_stays queue t entry added id own none taken = record {
    its = taken.its;
    server = taken.server ∙ sym (ap (λ i. i.0) id);
    sent = λ whole on. taken.sent whole (leads.before whole on);
    last = in_hand_stays t.server.0 (λ past. IsSomeAnd (latest (is_entry_of entry.request) past) (Brings entry.request entry.cargo.invocation)) added own none taken.last;
  }

  -- both where it noted no more
  pub in_hand_still : (server : ℕ) (P : List Event → Type 0) → new.caller.work.own ≡ old.caller.work.own → SawInHandAt d server old P → SawInHandAt d server new P
  in_hand_still server P own = in_hand_stays server P [] (own ∙ sym (append-nil old.caller.work.own)) refl

  pub taken_still : (queue : ℕ) (t : Taken) (entry : Entry Cargo) → new.caller.work.id ≡ old.caller.work.id → new.caller.work.own ≡ old.caller.work.own → IsTaken d queue t old entry → IsTaken d queue t new entry
  taken_still queue t entry id own = taken_stays queue t entry [] id (own ∙ sym (append-nil old.caller.work.own)) refl

  -- where the board wasn't visited, and the least version is what it was, or the one that was found
  pub found_stays : (service : List ℕ) (found : FoundRows) → new.board ≡ old.board → new.caller.least ≤ found.version → HasFound d service found old → HasFound d service found new
  found_stays service found board recent has = record {
    rows = has.rows;
    places = has.places;
    recent = recent;
    booted = has.booted;
    seen = subst (λ o. found.version ≤ published (past_in (changes_at (page_in o).seen))) (sym board) has.seen;
    listed = board_stays _ has.listed;
    stand = λ payload. All-weaker (λ (row : Row). is_accepted d.setup row.accepts (kind_of payload) ≡ true → SawOnBoard d old (RowStands d.setup found.version service row.queue.0 (RowAdmits d.setup false row.routine payload)))
        (λ (row : Row). is_accepted d.setup row.accepts (kind_of payload) ≡ true → SawOnBoard d new (RowStands d.setup found.version service row.queue.0 (RowAdmits d.setup false row.routine payload))) (λ row saw accepts. board_stays _ (saw accepts)) found.rows (has.stand payload);
  }

-- a request is aimed as it was, where its caller's call and what it set for the priority stand as they did
pub aimed_stays : (d : Domain) (found : FoundRows) (payload : Data) (entry : Entry Cargo) (event : Event) (old new : Desk) → new.caller.phase ≡ old.caller.phase → new.caller.op ≡ old.caller.op → new.caller.priority ≡ old.caller.priority → next_request new.caller ≡ next_request old.caller → IsAimed d found payload entry event old → IsAimed d found payload entry event new
aimed_stays d found payload entry event old new phase op priority request aimed = record {
  draft = aimed.draft;
  prepared = phase ∙ aimed.prepared;
  drafted = aimed.drafted;
  mine = aimed.mine ∙ sym request;
  turn = aimed.turn ∙ ap (λ n. n + 1) (sym op);
  version = aimed.version;
  sound = aimed.sound;
  row = aimed.row;
  among = aimed.among;
  accepts = aimed.accepts;
  entry_is = aimed.entry_is ∙ ap (λ asked. entry_by aimed.draft.asked.request aimed.row asked payload entry.cargo.ticket) (sym priority);
  event_is = aimed.event_is ∙ ap (λ asked. Accept (accepted_by aimed.draft.op aimed.draft.asked.request found.version aimed.row asked payload)) (sym priority);
  right = aimed.right;
  cell = aimed.cell;
}
