-- What a look-up leaves, and what it found.
use Rattle.std.proofs.Common.{◌≡◌, ◌≤◌, ◌<◌, ℕ, ◌+◌, max, true, false, List, [], ◌∷◌, ◌++◌, append-nil, length, Option, inl, refl, sym, ◌∙◌, ap, subst, arith}
use Rattle.std.specs.List.{All, Contains}
use Rattle.std.proofs.lemmas.Grind.{flat_map-append}
use Rattle.std.proofs.lemmas.List.Elements.{All-nil, All-cons, All-weaker, All-contains, All-contains_itself}
use Rattle.xa_server.specs.xa_types.declared.ids.CallerId.{CallerId}
use Rattle.xa_server.specs.xa_types.declared.row.Row.{Row}
use Rattle.xa_server.specs.xa_types.declared.stamp.Stamp.{Stamp}
use Rattle.xa_server.specs.xa_types.Found.{FoundRows}
use Rattle.xa_server.specs.xa_types.Kind.{is_accepted, kind_of}
use Rattle.xa_server.specs.xa_events.Board.{published}
use Rattle.xa_server.specs.xa_events.Cases.{RowStands, RowAdmits}
use Rattle.xa_server.specs.xa_lock.declared.pass.LockPass.{LockPass}
use Rattle.xa_server.specs.xa_lock.declared.pass.Page.{Page}
use Rattle.xa_server.specs.xa_lock.Known.{known as page_of}
use Rattle.xa_server.specs.xa_lock.Makers.{noted_in}
use Rattle.xa_server.specs.xa_lock.Pages.{StartsWith, page}
use Rattle.xa_server.specs.xa_worker.Seen.{past_in, SawFront}
use Rattle.xa_server.specs.xa_stamp.declared.home.Stamped.{Stamped}
use Rattle.xa_board.specs.Board.{version_of}
use Rattle.xa_board.specs.Reader.{Finds}
use Rattle.xa_server.specs.xa_held.declared.kept_board.BoardNote.{BoardNote}
use Rattle.xa_server.specs.xa_held.declared.kept_board.BoardNote.TheVariants.{Looked}
use Rattle.xa_server.specs.xa_held.declared.kept_board.Look.{Look}
use Rattle.xa_server.specs.xa_held.Board.{IsPlaced, made_in, made_of}
use Rattle.xa_server.specs.xa_held.BoardSteps.{LookedUpAs}
use Rattle.xa_server.specs.xa_held.BoardVisits.{BoardVisits, ReachesBoard}
use Rattle.xa_server.specs.xa_held.Joins.{changes_at}
use Rattle.xa_server.proofs.xa_held.Standing.{found_grows, found_configured, found_placed, found_listed, found_later, found_seen, found_admits}
use Rattle.xa_server.specs.xa_worker.Work.{seeing}
use Rattle.xa_server.specs.xa_caller.Caller.{CallerState}
use Rattle.xa_desk.specs.declared.domain.Domain.{Domain}
use Rattle.xa_desk.specs.declared.desk.Desk.{Desk}
use Rattle.xa_desk.specs.Whole.{Whole}
use Rattle.xa_desk.specs.Desks.{IsGrounded, IsDomain, GoesOn, Leads, page_in}
use Rattle.xa_desk.specs.Found.{SawOnBoard, HasFound}
use Rattle.xa_desk.specs.Looks.{LookShowed}
use Rattle.xa_desk.proofs.Leading.{starts_trans}
use Rattle.xa_desk.proofs.Boarding.{BoardStep, board_front, board_before, least_before, board_seen_leads, reach_known}

-- a look is no change
changes_kept : (notes : List BoardNote) (look : Look) → changes_at (notes ++ Looked look ∷ []) ≡ changes_at notes
changes_kept notes look = ap noted_in (flat_map-append made_of notes (Looked look ∷ []) ∙ append-nil (made_in notes))

module _ {d : Domain} {old new : Desk} {p p' : LockPass BoardNote} (step : BoardStep d old new p p') (maker : CallerId) (name : List ℕ) (found : FoundRows) (look : Look) (last : Stamp) (looked : LookedUpAs (BoardVisits (page_of p) (page_of p')) maker name false found look)
    (reaches : ReachesBoard (page_of p') last) (caller : new.caller ≡ record old.caller { work = seeing last old.caller.work }) where
  -- the board as the look found it
  abbrev notes : List BoardNote
  notes = looked.old.notes

  stands : (page_of p').seen ≡ notes ++ Looked look ∷ []
  stands = looked.saw ∙ looked.grew

  same_changes : changes_at (page_of p').seen ≡ changes_at notes
  same_changes = ap changes_at stands ∙ changes_kept notes look

  abbrev Q : Page BoardNote
  Q = page (page_of p).maker (page_of p).own notes

  found_it : BoardVisits (page_of p) Q [] (λ old new. (new ≡ old) × (found.version ≡ version_of old.board) × Finds old.board name false found)
  found_it = record {
    old = looked.old;
    new = looked.old;
    knew = looked.knew;
    was = looked.was;
    read = looked.read;
    setup = looked.setup;
    same = refl;
    first = refl;
    grew = sym (append-nil notes);
    maker = refl;
    own = sym (append-nil (page_of p).own);
    saw = refl;
    sound = looked.was;
    reads = looked.read;
    how = (refl, looked.how.3.version, looked.how.3);
  }

  pub look_leads : Leads d old new
  look_leads =
      let raised : look.stamp.0 ≡ max 0 looked.old.last.0 = ap (λ (s : Stamp). s.0) looked.how.0.raised in
      let before : look.before.0 ≡ looked.old.last.0 = ap (λ (s : Stamp). s.0) looked.how.0.before in
      board_seen_leads step looked refl (All-cons (IsGrounded old.caller.work.own) (Looked look) [] (inl (omega (arith, raised, before))) (All-nil (IsGrounded old.caller.work.own))) last caller reaches.each (λ whole on back. reach_known step whole on last reaches)

  later : (stamp : Stamp) → new.caller.work.stamp.0 < stamp.0 → 0 < found.version → found.stamp.0 < stamp.0
  later stamp less =
      let higher = ap (λ (c : CallerState). c.work.stamp.0) caller in
      found_later found_it last stamp (subst (All (λ (x : Stamped). x.stamp.0 ≤ last.0)) same_changes reaches.each) (omega (arith, less, higher))

  front : (whole : Whole) → GoesOn d whole new → StartsWith whole.board.notes notes
  front whole on = starts_trans whole.board.notes (page_of p').seen notes (board_front step whole on) (Looked look ∷ [], stands)

  pub look_found : IsDomain d → HasFound d name found new
  look_found domain =
      let sees = (board_before step).sees in
      let least = least_before step in
      let same = ap (λ (c : CallerState). c.least) caller in
      let grows = found_grows (page_of p) Q [] name false found last found_it in
      let queues = domain.queues in
      record {
        rows = found_configured (page_of p) Q [] name false found last d.setup found_it sees;
        places = All-weaker (IsPlaced d.setup) (λ (row : Row). (0 < row.queue.0) × (row.queue.0 < length d.queues.items + 1)) (λ row is. let least_of = is.least in (is.some, omega (arith, least_of, queues))) found.rows (found_placed (page_of p) Q [] name false found last d.setup found_it sees);
        recent = omega (arith, least, same, grows);
        booted = let booted = (board_before step).booted in omega (arith, booted, grows);
        seen = subst (λ (o : Option (LockPass BoardNote)). found.version ≤ published (past_in (changes_at (page_in o).seen))) (sym step.now) (subst (λ (l : List Stamped). found.version ≤ published (past_in l)) (sym same_changes) (omega (arith, found_seen found_it)));
        listed = λ whole on stamp less. found_listed (page_of p) Q whole.board.notes name false found stamp d.setup found_it sees (front whole on) (later stamp less);
        stand = λ payload. All-weaker (Contains found.rows) (λ (row : Row). is_accepted d.setup row.accepts (kind_of payload) ≡ true → SawOnBoard d new (RowStands d.setup found.version name row.queue.0 (RowAdmits d.setup false row.routine payload)))
            (λ row here accepts whole on stamp less. All-contains (λ (r : Row). is_accepted d.setup r.accepts (kind_of payload) ≡ true → SawFront (changes_at whole.board.notes) stamp (RowStands d.setup found.version name r.queue.0 (RowAdmits d.setup false r.routine payload))) found.rows row
            (found_admits (page_of p) Q whole.board.notes name false found stamp d.setup payload found_it sees (front whole on) (later stamp less)) here accepts) found.rows (All-contains_itself found.rows);
      }

  pub look_showed : maker ≡ old.caller.work.id → LookShowed old new found.version
  look_showed its = record {
    before = notes;
    look = look;
    rest = [];
    stands = ap (λ (o : Option (LockPass BoardNote)). (page_in o).seen) step.now ∙ stands;
    its = looked.how.0.its ∙ its ∙ sym (ap (λ (c : CallerState). c.work.id) caller);
    later = subst (λ (o : Option (LockPass BoardNote)). StartsWith notes (page_in o).seen) (sym step.was) looked.knew.1;
    shows = found_seen found_it;
  }
