-- A worker goes to the board, and leaves it.
use Rattle.std.proofs.Common.{ℕ, ◌≡◌, List, [], ◌∷◌, Option, Result, Ok, Err, refl, sym, ◌∙◌, ap, subst}
use Rattle.std.specs.List.{All}
use Rattle.std.proofs.lemmas.List.Elements.{All-nil, All-cons}
use Rattle.xa_server.specs.xa_types.declared.ids.CallerId.{CallerId}
use Rattle.xa_server.specs.xa_types.declared.ids.QueueId.{QueueId}
use Rattle.xa_server.specs.xa_types.declared.stamp.Stamp.{Stamp}
use Rattle.xa_server.specs.xa_types.declared.row.Row.{Row}
use Rattle.xa_board.specs.declared.board.Changed.{Changed}
use Rattle.xa_board.specs.declared.board.BoardRefused.{BoardRefused}
use Rattle.xa_board.specs.Board.{ReadsAsNoted}
use Rattle.xa_server.specs.xa_lock.declared.pass.Page.{Page}
use Rattle.xa_server.specs.xa_lock.Known.{known as page_of}
use Rattle.xa_server.specs.xa_lock.Pages.{GrewBy, page_leaving}
use Rattle.xa_server.specs.xa_held.declared.kept_board.BoardNote.{BoardNote}
use Rattle.xa_server.specs.xa_held.declared.kept_board.BoardNote.TheVariants.{Looked}
use Rattle.xa_server.specs.xa_held.declared.kept_board.Clearing.{Clearing}
use Rattle.xa_server.specs.xa_held.declared.kept_board.Clearing.TheVariants.{Withdrew, Clear}
use Rattle.xa_server.specs.xa_held.Board.{Held as Board, IsSoundBoard, Turns, maker_of as board_maker}
use Rattle.xa_server.specs.xa_held.BoardSteps.{AdvertisedAs, WithdrewAs, ClearedAs, change}
use Rattle.xa_server.specs.xa_held.BoardVisits.{BoardVisits, ReachesBoard}
use Rattle.xa_server.proofs.xa_held.BoardPassing.{grown, visits}
use Rattle.xa_desk.specs.declared.domain.Domain.{Domain}
use Rattle.xa_desk.specs.declared.desk.Desk.{Desk}
use Rattle.xa_desk.specs.Desks.{IsBoardPass, IsThere}
use Rattle.xa_desk.specs.Visit.{BoardPass, IsAtBoard, AddsToBoard, LeavesBoard}
use Rattle.xa_desk.proofs.Boarding.{BoardStep}

module _ {d : Domain} {old : Desk} {there : Board} {page : Page BoardNote} {left : Option BoardPass} (at : IsAtBoard d old there page left) (now : Board) (more : List BoardNote) (adds : AddsToBoard old there now more) where
  its_maker : (page_of at.pass).maker ≡ old.caller.work.id.0
  its_maker = let its : IsBoardPass d old.caller.work at.pass = subst (IsThere (IsBoardPass d old.caller.work)) at.has at.is.board in its.maker

  pub board_grown : GrewBy board_maker page.maker page.seen now.notes
  board_grown = grown (page_of at.pass) page there now at.sees at.knows more (λ o n. (o ≡ there) × (n ≡ now)) (subst (λ n. All (λ (z : BoardNote). board_maker z ≡ n) more) (sym its_maker) adds.ours) adds.turns

  pub board_visits : (back : Page BoardNote) → back ≡ page_leaving page now.notes → IsSoundBoard now → ReadsAsNoted now.board → BoardVisits (page_of at.pass) back more (λ o n. (o ≡ there) × (n ≡ now))
  board_visits back behind sound reads = visits (page_of at.pass) page there now at.sees at.knows back behind at.sound at.reads sound reads more (λ o n. (o ≡ there) × (n ≡ now)) adds.turns

-- a visit behind it: it was a step of the desk, and the board changed so
pub record BoardVisited (d : Domain) (old new : Desk) (last : Stamp) (more : List BoardNote) (How : Board → Board → Type 0) : Type 0 where
  pub pass : BoardPass
  pub back : BoardPass
  pub step : BoardStep d old new pass back
  pub reaches : ReachesBoard (page_of back) last
  pub came : BoardVisits (page_of pass) (page_of back) more How

-- these are changes and looks of the desk's worker: one, or none
abbrev pub AreOursThere : Desk → List BoardNote → Type 0
AreOursThere old more = All (λ (z : BoardNote). board_maker z ≡ old.caller.work.id.0) more

pub none_there : (old : Desk) → AreOursThere old []
none_there old = All-nil (λ (z : BoardNote). board_maker z ≡ old.caller.work.id.0)

pub one_there : (old : Desk) (maker : CallerId) (z : BoardNote) → maker ≡ old.caller.work.id → board_maker z ≡ maker.0 → AreOursThere old (z ∷ [])
one_there old maker z is its = All-cons (λ (y : BoardNote). board_maker y ≡ old.caller.work.id.0) z [] (its ∙ ap (λ (id : CallerId). id.0) is) (none_there old)

-- what a call of the board answers says what was added
pub adds_there : {old : Desk} {there now : Board} {more : List BoardNote} {How : Board → Board → Type 0} → AreOursThere old more → Turns there now more How → AddsToBoard old there now more
adds_there ours t = record { turns = record { first = t.first; setup = t.setup; notes = t.notes; how = (refl, refl) }; ours = ours }

pub clear_adds : {there now : Board} (old : Desk) (seen : Stamp) (maker : CallerId) → maker ≡ old.caller.work.id → (queue : QueueId) (r : Result Clearing BoardRefused) → ClearedAs (Turns there now) seen maker queue r → (more : List BoardNote) × AddsToBoard old there now more
clear_adds old seen maker is queue (Ok (Withdrew noted)) t = (change maker noted, adds_there (one_there old maker _ is refl) t)
clear_adds old seen maker is queue (Ok (Clear look)) t = (Looked look ∷ [], adds_there (one_there old maker (Looked look) is (ap (λ (m : CallerId). m.0) t.how.0.its)) t)
clear_adds old seen maker is queue (Err why) t = ([], adds_there (none_there old) t)

pub advertise_adds : {there now : Board} (old : Desk) (seen : Stamp) (maker : CallerId) → maker ≡ old.caller.work.id → (by : CallerId) (op : ℕ) (row : Row) (r : Result Changed BoardRefused) → AdvertisedAs (Turns there now) seen maker by op row r → (more : List BoardNote) × AddsToBoard old there now more
advertise_adds old seen maker is by op row (Ok done) t = (change maker done.noted, adds_there (one_there old maker _ is refl) t)
advertise_adds old seen maker is by op row (Err why) t = ([], adds_there (none_there old) t)

pub withdraw_adds : {there now : Board} (old : Desk) (seen : Stamp) (maker : CallerId) → maker ≡ old.caller.work.id → (by : CallerId) (op : ℕ) (service : List ℕ) (queue : QueueId) (r : Result Changed BoardRefused) → WithdrewAs (Turns there now) seen maker by op service queue r → (more : List BoardNote) × AddsToBoard old there now more
withdraw_adds old seen maker is by op service queue (Ok done) t = (change maker done.noted, adds_there (one_there old maker _ is refl) t)
withdraw_adds old seen maker is by op service queue (Err why) t = ([], adds_there (none_there old) t)

-- what is found by the lent value is what was found
board_lent : {d : Domain} {old : Desk} {held there : Board} {page : Page BoardNote} {left : Option BoardPass} → IsAtBoard d old held page left → there ≡ held → IsAtBoard d old there page left
board_lent {d} {old} {held} {there} {page} {left} at same = subst (λ b. IsAtBoard d old b page left) (sym same) at

module _ {d : Domain} {old : Desk} {held there now : Board} {page : Page BoardNote} {left : Option BoardPass} (at : IsAtBoard d old held page left) (same : there ≡ held) where
  pub may_leave_board : (more : List BoardNote) × AddsToBoard old there now more → (old : Desk) × (there : Board) × (more : List BoardNote) × IsAtBoard d old there page left × AddsToBoard old there now more
  may_leave_board did = (old, there, did.0, board_lent at same, did.1)

  pub board_visited : {put : Option BoardPass} {last : Stamp} → ((old : Desk) (there : Board) → IsAtBoard d old there page left → LeavesBoard d old there now put last) → (new : Desk) → new.board ≡ put → new.queues.items ≡ old.queues.items → new.clock ≡ old.clock
      → {more : List BoardNote} {How : Board → Board → Type 0} → AreOursThere old more → Turns there now more How → BoardVisited d old new last more How
  board_visited leaves new board queues clock {more} {How} ours turns =
      let l = leaves old there (board_lent at same) in
      let v = l.visits more (adds_there ours turns) in record {
        pass = l.pass;
        back = l.back;
        step = record { is = l.is; was = l.has; now = board ∙ l.kept; queues = queues; clock = clock; lock = l.lock };
        reaches = l.reaches;
        came = record {
          old = v.old;
          new = v.new;
          knew = v.knew;
          was = v.was;
          read = v.read;
          setup = v.setup;
          same = v.same;
          first = v.first;
          grew = v.grew;
          maker = v.maker;
          own = v.own;
          saw = v.saw;
          sound = v.sound;
          reads = v.reads;
          how = subst (λ o. How o v.new) (sym v.how.0) (subst (How there) (sym v.how.1) turns.how);
        };
      }
