-- What a desk knows and shows goes on, as its worker clears the board of a queue without servers.
use Rattle.std.proofs.Common.{◌≡◌, ◌≤◌, ◌<◌, ℕ, ◌+◌, ◌^◌, max, List, [], ◌∷◌, Option, Some, None, ltb-true, inl, inr, refl, sym, ◌∙◌, ap, subst, append-nil, arith, ⊎_elim}
use Rattle.xa_server.proofs.xa_held.Seen.{events_kept}
use Rattle.std.specs.Prelude.{◌⊎◌, Bool, true, false, nat_lt, if◌then◌else◌, Ok, Err}
use Rattle.std.specs.Option.{option_or}
use Rattle.std.specs.List.{All, Contains}
use Rattle.std.proofs.lemmas.List.Elements.{All-nil, All-cons, All-weaker, Contains-push}
use Rattle.xa_server.specs.xa_types.declared.ids.CallerId.{CallerId}
use Rattle.xa_server.specs.xa_types.declared.ids.QueueId.{QueueId}
use Rattle.xa_server.specs.xa_types.declared.row.Row.{Row}
use Rattle.xa_server.specs.xa_types.declared.stamp.Stamp.{Stamp}
use Rattle.xa_server.specs.xa_events.declared.event.Event.{Event}
use Rattle.xa_server.specs.xa_events.Homes.{home_of}
use Rattle.xa_server.specs.xa_events.Homes.Home.{BoardHome}
use Rattle.xa_server.specs.xa_events.Server.{AllGone}
use Rattle.xa_server.specs.xa_stamp.declared.home.Stamped.{Stamped}
use Rattle.xa_server.specs.xa_stamp.declared.told.Noted.{Noted}
use Rattle.xa_server.specs.xa_stamp.Home.{last_stamp}
use Rattle.xa_server.specs.xa_lock.declared.pass.LockPass.{LockPass}
use Rattle.xa_server.specs.xa_lock.Known.{known as page_of}
use Rattle.xa_server.specs.xa_lock.Pages.{StartsWith}
use Rattle.xa_server.specs.xa_worker.Seen.{SawFront}
use Rattle.xa_board.specs.Board.{version_of}
use Rattle.xa_server.specs.xa_types.Rows.{row_of}
use Rattle.xa_board.specs.declared.board.BoardRefused.{BoardRefused}
use Rattle.xa_board.specs.declared.board.BoardRefused.TheVariants.{NoEnt, Worn}
use Rattle.xa_board.specs.Changes.{larger, bars_withdrawal}
use Rattle.xa_server.specs.xa_held.declared.kept_board.BoardNote.{BoardNote}
use Rattle.xa_server.specs.xa_held.declared.kept_board.BoardNote.TheVariants.{Looked}
use Rattle.xa_server.specs.xa_held.declared.kept_board.Look.{Look}
use Rattle.xa_server.specs.xa_held.declared.kept_board.Clearing.TheVariants.{Clear, Withdrew}
use Rattle.xa_server.specs.xa_held.declared.kept_queue.QueueNote.{QueueNote}
use Rattle.xa_server.specs.xa_held.Board.{Held, raised}
use Rattle.xa_server.specs.xa_held.BoardSteps.{ClearedAs, change, withdrawal}
use Rattle.xa_server.specs.xa_held.BoardVisits.{BoardVisits, ReachesBoard}
use Rattle.xa_server.specs.xa_held.Joins.{SawLeft, events_at, changes_at}
use Rattle.xa_server.specs.xa_held.Kept.{notes_of}
use Rattle.xa_server.proofs.xa_held.Climbing.{stamped}
use Rattle.xa_server.proofs.xa_held.Fronts.{deserted, reached_last}
use Rattle.xa_server.proofs.xa_held.Lefts.{gone_front}
use Rattle.xa_server.proofs.xa_cell.Lists.{below}
use Rattle.xa_server.specs.xa_worker.Work.{WorkState, seeing}
use Rattle.xa_server.specs.xa_worker.declared.work.Halt.{Halt}
use Rattle.xa_server.specs.xa_worker.declared.work.Halt.TheVariants as halts
use Rattle.xa_server.specs.xa_lock.declared.pass.Page.{Page}
use Rattle.xa_server.specs.xa_caller.declared.cargo.Filling.{Filling}
use Rattle.xa_server.specs.xa_caller.Caller.{CallerState}
use Rattle.xa_server.specs.xa_caller.Serving.{noted_off}
use Rattle.xa_desk.specs.declared.domain.Domain.{Domain}
use Rattle.xa_desk.specs.declared.desk.Desk.{Desk}
use Rattle.xa_desk.specs.Whole.{Whole, IsKnown}
use Rattle.xa_server.specs.Told.{HasStamp}
use Rattle.xa_desk.specs.Made.{IsMade}
use Rattle.xa_desk.specs.Desks.{IsGrounded, GoesOn, HasGrounds, IsShown, Leads, page_at, queue_page}
use Rattle.xa_desk.specs.Serving.{IsDeserted, IsCleared, OfDomain, IsHaltNear, halt_by, seen_by}
use Rattle.xa_server.proofs.xa_held.Changed.{withdrawal_met}
use Rattle.xa_desk.proofs.Boarding.{BoardStep, least_stays, board_front, board_before, stamp_known, reach_known, board_moves, board_seen_leads}
use Rattle.xa_desk.proofs.Leading.{Grew, grew_one, is_behind, one_leads, starts_trans}
use Rattle.xa_desk.proofs.Falling.{gave_on, of_domain, of_none}
use Rattle.xa_desk.proofs.Visiting.{stamp_is, larger_known}

-- the passes of queues are what they were, and no stamp is smaller
pub deserted_still : (d : Domain) (queue : ℕ) (old new : Desk) → new.queues.items ≡ old.queues.items → Leads d old new → IsDeserted d queue old → IsDeserted d queue new
deserted_still d queue old new passes leads deserted =
    let left = deserted.left in
    let later = leads.stamp in
    record {
      left = subst (λ (l : List (Option (LockPass (QueueNote Filling)))). SawLeft d.setup queue new.caller.work.stamp (page_at l queue)) (sym passes) (record {
        its = left.its;
        sees = left.sees;
        is = left.is;
        servers = left.servers;
        gone = left.gone;
        reached = All-weaker (λ (x : Stamped). x.stamp.0 ≤ old.caller.work.stamp.0) (λ (x : Stamped). x.stamp.0 ≤ new.caller.work.stamp.0) (λ x le. omega (arith, le, later)) (events_at (queue_page old queue).seen) left.reached;
      });
      last = gave_on leads deserted.last;
    }

-- a row that stands isn't withdrawn only where memory ran out or stamps are at their end, which is that number then
abbrev pub EndsAt : ℕ → Halt → Type 0
EndsAt n halts.NoMemory = Unit {0}
EndsAt n (halts.Worn stamp) = (stamp.0 ≡ 2 ^ 63) × (stamp.0 ≡ n)

near : (row : Option Row) (n : ℕ) (b : Bool) → nat_lt (2 ^ 63) (n + 1) ≡ b → n ≤ 2 ^ 63 → (why : BoardRefused) → option_or (bars_withdrawal row) (if b then Some (Worn (record { 0 = n })) else None) ≡ Some why → EndsAt n (halt_by why)
near None n b is low why same = let it : NoEnt ≡ why = cc same in subst (λ (w : BoardRefused). EndsAt n (halt_by w)) it tt
near (Some row) n true is low why same = let it : Worn (record { 0 = n }) ≡ why = cc same in let above = ltb-true (2 ^ 63) (n + 1) is in subst (λ (w : BoardRefused). EndsAt n (halt_by w)) it (omega (arith, above, low), refl)
near (Some row) n false is low why same = absurd (cc same)

refused_near : (p p' : LockPass BoardNote) (seen : Stamp) (maker : CallerId) (queue : QueueId) (why : BoardRefused) → seen.0 ≤ 2 ^ 63 → (refused : ClearedAs (BoardVisits (page_of p) (page_of p')) seen maker queue (Err why)) → EndsAt (max seen.0 refused.old.last.0) (halt_by why)
refused_near p p' seen maker queue why low refused =
    let held : Held = refused.old in
    let row : Row = refused.how.1 in
    let n : ℕ = larger (raised seen held) held.board in
    let behind : last_stamp held.board.first held.board.entries ≤ held.last.0 = refused.was.behind in
    let bound = refused.was.bound in
    let is : n ≡ max seen.0 held.last.0 = omega (arith, behind) in
    subst (λ (m : ℕ). EndsAt m (halt_by why)) is (elim refused.how.3 [
      | inl barred ↦ near (row_of row.service queue.0 held.board.rows) n (nat_lt (2 ^ 63) (n + 1)) refl (omega (arith, is, bound, low)) why barred
      | inr memory ↦ subst (λ (w : BoardRefused). EndsAt n (halt_by w)) (sym memory) tt
    ])

pub seen_reached : (page : Page BoardNote) (halt : Halt) (last : Stamp) (n : ℕ) → EndsAt n halt → ReachesBoard page last → All (λ (x : Stamped). x.stamp.0 ≤ (seen_by halt last).0) (changes_at page.seen)
seen_reached page halts.NoMemory last n near reaches = reaches.each
seen_reached page (halts.Worn stamp) last n near reaches =
    let bound = reaches.bound in
    let end = near.0 in
    All-weaker (λ (x : Stamped). x.stamp.0 ≤ last.0) (λ (x : Stamped). x.stamp.0 ≤ stamp.0) (λ x le. omega (arith, le, bound, end)) (changes_at page.seen) reaches.each

pub seen_known : (whole : Whole) (halt : Halt) (last : Stamp) (n : ℕ) → EndsAt n halt → IsKnown whole last → IsKnown whole (record { 0 = n }) → IsKnown whole (seen_by halt last)
seen_known whole halts.NoMemory last n near is end = is
seen_known whole (halts.Worn stamp) last n near is end = subst (IsKnown whole) (sym (stamp_is stamp n near.1)) end

module _ {d : Domain} {desk new : Desk} {p p' : LockPass BoardNote} (step : BoardStep d desk new p p') (seen : Stamp) (saw : seen ≡ desk.caller.work.stamp) (maker : CallerId) (queue : QueueId) (left : IsDeserted d queue.0 desk) where
  abbrev w : WorkState
  w = desk.caller.work

  same_stamp : seen.0 ≡ w.stamp.0
  same_stamp = ap (λ (s : Stamp). s.0) saw

  -- the first row of the queue was withdrawn
  module _ (out : Noted) (withdrew : ClearedAs (BoardVisits (page_of p) (page_of p')) seen maker queue (Ok (Withdrew out))) (caller : new.caller ≡ noted_off out.stamp out.event.value desk.caller) where
    abbrev row : Row
    row = withdrew.how.0

    higher : out.stamp.0 ≡ larger (raised seen withdrew.old) withdrew.old.board + 1
    higher = ap (λ (n : ℕ × Stamp). n.1.0) withdrew.how.2.next

    rises : w.stamp.0 < out.stamp.0
    rises = omega (arith, higher, same_stamp)

    abbrev its : Stamped
    its = record { stamp = out.stamp; event = out.event.value }

    withdrawn_is : out.event.value ≡ withdrawal (record { 0 = 0 }) 0 row.service queue (version_of withdrew.old.board + 1)
    withdrawn_is = withdrew.how.2.event_is

    grew : Grew w new.caller.work (its ∷ [])
    grew = grew_one w new.caller.work w.room its (ap (λ (c : CallerState). c.work) caller) rises (subst IsMade (sym withdrawn_is) tt)

    old_front : (whole : Whole) → GoesOn d whole new → StartsWith whole.board.notes withdrew.old.notes
    old_front whole on = starts_trans whole.board.notes withdrew.new.notes withdrew.old.notes (subst (StartsWith whole.board.notes) withdrew.saw (board_front step whole on)) (change maker out, withdrew.grew)

    shown : (whole : Whole) → GoesOn d whole new → GoesOn d whole desk → IsShown d whole w.id.0 w.own its
    shown whole on back =
        let booted = step.is.booted in
        let behind : last_stamp withdrew.old.board.first withdrew.old.board.entries ≤ withdrew.old.last.0 = withdrew.was.behind in
        record {
          behind = is_behind d.booted out.stamp out.event.value (omega (arith, rises, booted));
          grounds = subst (HasGrounds d whole w.id.0 w.own out.stamp) (sym withdrawn_is) (record {
            saw = λ ours. subst (λ (l : List Stamped). SawFront l out.stamp (AllGone d.setup queue.0)) (events_kept (whole.queues queue.0))
                (gone_front d.setup queue.0 w.stamp out.stamp (queue_page desk queue.0) (notes_of (whole.queues queue.0)) left.left (back.queues queue.0) rises);
            told = tt;
            clears = λ ours. left.last whole back out.stamp rises;
          });
          met = λ board. withdrawal_met d.setup (page_of p) (page_of p') maker whole.board (board_front step whole on) seen queue out withdrew;
          before = record { 0 = max w.stamp.0 withdrew.old.last.0 };
          next = omega (arith, higher, same_stamp, behind);
          known_before = larger_known whole w.stamp withdrew.old.last (step.is.known_stamp whole back) (stamp_known whole withdrew.old.notes (old_front whole on) withdrew.old.last (stamped queue.0 withdrew.old withdrew.was withdrew.read row withdrew.how.1));
        }

    withdrew_leads : Leads d desk new
    withdrew_leads =
        let stamp : new.caller.work.stamp ≡ out.stamp = ap (λ (c : CallerState). c.work.stamp) caller in
        one_leads its step.is
        (board_moves step withdrew grew (All-cons (λ (x : Stamped). home_of d.setup d.clients x.event ≡ BoardHome) its [] (ap (home_of d.setup d.clients) withdrawn_is) (All-nil (λ (x : Stamped). home_of d.setup d.clients x.event ≡ BoardHome))) (ap (λ (c : CallerState). c.seat) caller)
        (All-cons (IsGrounded new.caller.work.own) _ [] tt (All-nil (IsGrounded new.caller.work.own))) (least_stays step withdrew (ap (λ (c : CallerState). c.least) caller))
        (reached_last (page_of p').seen withdrew.new withdrew.saw withdrew.sound new.caller.work.stamp (withdrew.how.2.last ∙ sym stamp))) stamp shown

    pub withdrew_clears : new.queues.items ≡ desk.queues.items → Leads d desk new × IsDeserted d queue.0 new × OfDomain desk new × HasStamp new.caller.work.own new.caller.work.stamp
    withdrew_clears same = (
      withdrew_leads,
      deserted_still d queue.0 desk new same withdrew_leads left,
      of_domain desk new out.stamp (withdrawal (record { 0 = 0 }) 0 row.service queue (version_of withdrew.old.board + 1)) (record { domain = refl; none = refl }) (caller ∙ ap (λ (e : Event). noted_off out.stamp e desk.caller) withdrawn_is),
      (its, subst (λ (l : List Stamped). Contains l its) (sym {A = List Stamped} grew.own) (Contains-push w.own its), sym (ap (λ (c : CallerState). c.work.stamp) caller)),
    )

  -- none of it stands
  module _ (look : Look) (looked : ClearedAs (BoardVisits (page_of p) (page_of p')) seen maker queue (Ok (Clear look))) (caller : new.caller ≡ record desk.caller { work = seeing look.stamp w }) (latest : HasStamp w.own w.stamp) where
    -- the larger of the worker's stamp, which is an event's, and of the last one
    grounded : (look.stamp.0 ≡ look.before.0) ⊎ HasStamp w.own look.stamp
    grounded =
        let how = looked.how.0 in
        let is : look.stamp.0 ≡ max seen.0 looked.old.last.0 = ap (λ (s : Stamp). s.0) how.raised in
        let before : look.before.0 ≡ looked.old.last.0 = ap (λ (s : Stamp). s.0) how.before in
        ⊎_elim (λ (less : looked.old.last.0 < w.stamp.0). inr (subst (HasStamp w.own) (sym (stamp_is look.stamp w.stamp.0 (omega (arith, is, less, same_stamp)))) latest)) (λ (le : w.stamp.0 ≤ looked.old.last.0). inl (omega (arith, is, before, le, same_stamp))) (below looked.old.last.0 w.stamp.0)

    looked_leads : Leads d desk new
    looked_leads =
        let there : Contains (page_of p').seen (Looked look) = subst (λ (l : List BoardNote). Contains l (Looked look)) (sym (looked.saw ∙ looked.grew)) (Contains-push looked.old.notes (Looked look)) in
        board_seen_leads step looked refl (All-cons (IsGrounded w.own) (Looked look) [] grounded (All-nil (IsGrounded w.own))) look.stamp caller (reached_last (page_of p').seen looked.new looked.saw looked.sound look.stamp looked.how.3)
        (λ whole on back. stamp_known whole (page_of p').seen (board_front step whole on) look.stamp (inr (look, there, refl)))

    looked_cleared : IsCleared d queue.0 new
    looked_cleared whole on later less =
        let before = looked_leads.before whole on in
        let higher = ap (λ (c : CallerState). c.work.stamp.0) caller in
        deserted d.setup (page_of p) (page_of p') (queue_page desk queue.0) seen later maker queue look whole.board (whole.queues queue.0) looked (board_before step).booted (subst (λ s. SawLeft d.setup queue.0 s (queue_page desk queue.0)) (sym saw) left.left) (omega (arith, less, higher, same_stamp))
        on.sound (board_front step whole on) (before.queues queue.0)

    pub looked_goes : new.queues.items ≡ desk.queues.items → Leads d desk new × IsDeserted d queue.0 new × OfDomain desk new × IsCleared d queue.0 new
    looked_goes same = (looked_leads, deserted_still d queue.0 desk new same looked_leads left, of_none desk new look.stamp caller, looked_cleared)

  -- nothing was noted, and the board's last stamp was seen, or where stamps came to their end that
  module _ (why : BoardRefused) (last : Stamp) (low : seen.0 ≤ 2 ^ 63) (refused : ClearedAs (BoardVisits (page_of p) (page_of p')) seen maker queue (Err why)) (caller : new.caller ≡ record desk.caller { work = seeing (seen_by (halt_by why) last) w }) where
    refused_leads : ReachesBoard (page_of p') last → Leads d desk new
    refused_leads reaches =
        let near = refused_near p p' seen maker queue why low refused in
        let front : (whole : Whole) → GoesOn d whole new → StartsWith whole.board.notes refused.old.notes = λ whole on. subst (StartsWith whole.board.notes) (refused.saw ∙ refused.grew ∙ append-nil refused.old.notes) (board_front step whole on) in
        board_seen_leads step refused refl (All-nil (IsGrounded w.own)) (seen_by (halt_by why) last) caller (seen_reached (page_of p') (halt_by why) last _ near reaches)
        (λ whole on back. seen_known whole (halt_by why) last _ near (reach_known step whole on last reaches)
        (larger_known whole seen refused.old.last (subst (IsKnown whole) (sym saw) (step.is.known_stamp whole back)) (stamp_known whole refused.old.notes (front whole on) refused.old.last (stamped queue.0 refused.old refused.was refused.read refused.how.1 refused.how.2))))

    pub refused_goes : ReachesBoard (page_of p') last → new.queues.items ≡ desk.queues.items → Leads d desk new × IsDeserted d queue.0 new × OfDomain desk new
    refused_goes reaches same =
        let leads = refused_leads reaches in
        (leads, deserted_still d queue.0 desk new same leads left, of_none desk new (seen_by (halt_by why) last) caller)

    -- and the worker is at that end
    pub refused_halts : IsHaltNear new (halt_by why)
    refused_halts = by (halt_by why) _ (refused_near p p' seen maker queue why low refused) caller
      where
        by : (halt : Halt) (n : ℕ) → EndsAt n halt → new.caller ≡ record desk.caller { work = seeing (seen_by halt last) w } → IsHaltNear new halt
        by halts.NoMemory n near so = tt
        by (halts.Worn stamp) n near so = let end = near.0 in let higher = ap (λ (c : CallerState). c.work.stamp.0) so in (end, omega (arith, end, same_stamp, higher, low))
