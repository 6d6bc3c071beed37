-- The desk of a worker that has done nothing, and the domain's own passes.
use Rattle.std.proofs.Common.{◌≡◌, ℕ, zero, suc, ◌+◌, ◌<◌, ◌≤◌, List, [], ◌∷◌, length, Some, None, refl, sym, ◌∙◌, ap, subst, arith, add-one}
use Rattle.std.specs.Prelude.{slice_index_or}
use Rattle.std.specs.List.{All, filter}
use Rattle.std.proofs.lemmas.List.Elements.{All-nil}
use Rattle.xa_client_worker.specs.xa_events.Board.{boot, published}
use Rattle.xa_client_worker.specs.xa_events.Caller.{ticks, tick_floor}
use Rattle.xa_client_worker.specs.xa_events.Homes.{home_of}
use Rattle.xa_client_worker.specs.xa_events.Homes.Home.{BoardHome, QueueHome}
use Rattle.xa_client_worker.specs.xa_stamp.declared.home.Stamped.{Stamped}
use Rattle.xa_client_worker.specs.xa_lock.declared.makers.Made.{Made}
use Rattle.xa_client_worker.specs.xa_lock.declared.pass.LockPass.{LockPass}
use Rattle.xa_client_worker.specs.xa_lock.declared.pass.Page.{Page}
use Rattle.xa_client_worker.specs.xa_lock.Known.{known as page_of}
use Rattle.xa_client_worker.specs.xa_lock.Makers.{noted_in}
use Rattle.xa_client_worker.specs.xa_lock.Pages.{StartsWith, first_own, first_page}
use Rattle.xa_client_worker.specs.xa_worker.Crew.{stands_at}
use Rattle.xa_client_worker.specs.xa_worker.Seen.{past_in}
use Rattle.xa_client_worker.specs.xa_cell.declared.tokens.Seat.{Seat}
use Rattle.xa_client_worker.specs.xa_cell.Known.{known}
use Rattle.xa_client_worker.specs.xa_cell.Views.{at}
use Rattle.xa_client_worker.specs.xa_held.declared.kept_board.BoardNote.{BoardNote}
use Rattle.xa_client_worker.specs.xa_held.declared.kept_queue.QueueNote.{QueueNote}
use Rattle.xa_client_worker.specs.xa_held.declared.kept_queue.QueueNote.TheVariants.{Opened}
use Rattle.xa_client_worker.specs.xa_held.declared.kept_queue.Setting.{Setting}
use Rattle.xa_client_worker.specs.xa_held.Joins.{changes_at, changes_page, events_at}
use Rattle.xa_client_worker.specs.xa_held.Notes.{made_page}
use Rattle.xa_client_worker.specs.xa_worker.Work.{WorkState}
use Rattle.xa_client_worker.specs.xa_worker.declared.own.Own.{Own}
use Rattle.xa_client_worker.specs.xa_caller.declared.cargo.Filling.{Filling}
use Rattle.xa_client_worker.specs.xa_caller.Caller.{CallerState}
use Rattle.xa_client_worker.specs.xa_caller.declared.phase.Phase.TheVariants.{Idle}
use Rattle.xa_client_worker.specs.xa_server.Told.{EndedFor}
use Rattle.xa_client_worker.specs.xa_server.Fillings.{WasTaken}
use Rattle.xa_client_worker.specs.xa_desk.declared.domain.Domain.{Domain}
use Rattle.xa_client_worker.specs.xa_desk.declared.desk.Desk.{Desk}
use Rattle.xa_client_worker.specs.xa_desk.Made.{IsMade}
use Rattle.xa_client_worker.specs.xa_desk.Whole.{Whole, IsKnown}
use Rattle.xa_client_worker.specs.xa_desk.Desks.{IsDesk, IsBoardPass, IsQueuePass, IsClockPass, IsGrounded, IsThere, IsAmong, page_in, queue_page}
use Rattle.xa_boot.specs.declared.closer.Closer.{Closer}
use Rattle.xa_boot.specs.declared.staff.Post.{Post}
use Rattle.xa_boot.specs.Booting.{IsClockFor, IsNewCloser, work_of}
use Rattle.xa_boot.specs.Opening.{IsBoot, opening}
use Rattle.xa_boot.specs.Supplies.{IsBoardFor, QueuePass}
use Rattle.xa_boot.specs.Staffing.{IsQueueFor, IsPost, IsNewDesk}
use Rattle.xa_boot.proofs.Dealt.{there-weaker}
use Rattle.xa_boot.proofs.Noted.{opening-changes, opening_grounded, all_reached, all_on_board, none_on_queue, is_work, all_boots, all_shown, last_known}

-- ---- passes

module _ (d : Domain) (own : List Stamped) (is : IsBoot d.setup own) where
  abbrev Notes : List BoardNote
  Notes = opening d.setup own

  pub booted : boot d.setup ≤ published (past_in (changes_at (opening d.setup own)))
  booted =
      let version = is.version in
      let whole = is.whole in
      let same = ap (λ (l : List Stamped). published (past_in l)) (opening-changes d.setup own) in
      omega (arith, version, whole, same)

  page_own : (worker : ℕ) → noted_in (changes_page (first_page worker Notes)).own ≡ filter (stands_at d.setup d.clients BoardHome) (first_own own worker)
  page_own zero = opening-changes d.setup own ∙ sym (all_on_board d.setup own is d.clients)
  page_own (suc k) = refl

  page_grounded : (worker : ℕ) → All (IsGrounded (first_own own worker)) (first_page worker Notes).own
  page_grounded zero = opening_grounded d.setup own own
  page_grounded (suc k) = All-nil (IsGrounded [])

  pub board_pass : (w : WorkState) (worker : ℕ) (pass : LockPass BoardNote) → IsBoardFor d.board (opening d.setup own) worker pass → w.id.0 ≡ worker → w.own ≡ first_own own worker → w.stamp.0 ≡ length own → IsBoardPass d w pass
  board_pass w worker pass its id noted stamp =
      let page : page_of pass ≡ first_page worker Notes = its.page in
      let seen : (page_of pass).seen ≡ Notes = ap (λ (p : Page BoardNote). p.seen) page in
      record {
        lock = its.lock_is;
        maker = ap (λ (p : Page BoardNote). p.maker) page ∙ sym id;
        sees = record { rest = _; seen = seen };
        booted = subst (λ (l : List BoardNote). boot d.setup ≤ published (past_in (changes_at l))) (sym seen) booted;
        own = ap (λ (p : Page BoardNote). noted_in (changes_page p).own) page ∙ page_own worker ∙ ap (filter (stands_at d.setup d.clients BoardHome)) (sym noted);
        grounded = subst (λ (p : Page BoardNote). All (IsGrounded w.own) p.own) (sym page) (subst (λ (l : List Stamped). All (IsGrounded l) (first_page worker Notes).own) (sym noted) (page_grounded worker));
        reached = subst (λ (l : List BoardNote). All (λ (x : Stamped). x.stamp.0 ≤ w.stamp.0) (changes_at l)) (sym seen)
            (subst (All (λ (x : Stamped). x.stamp.0 ≤ w.stamp.0)) (sym (opening-changes d.setup own)) (subst (λ n. All (λ (x : Stamped). x.stamp.0 ≤ n) own) (sym stamp) (all_reached d.setup own is)));
      }

queue_own : (its : Setting Filling) (worker : ℕ) → noted_in (made_page (first_page worker (Opened its ∷ []))).own ≡ []
queue_own its zero = refl
queue_own its (suc k) = refl

pub queue_pass : (d : Domain) (w : WorkState) (k worker : ℕ) (pass : LockPass (QueueNote Filling)) → IsQueueFor d k worker pass → w.id.0 ≡ worker → filter (stands_at d.setup d.clients (QueueHome (k + 1))) w.own ≡ [] → IsQueuePass d w k pass
queue_pass d w k worker pass it id none =
    let first : page_of pass ≡ first_page worker (Opened it.its ∷ []) = it.page in
    let seen : (page_of pass).seen ≡ Opened it.its ∷ [] = ap (λ (p : Page (QueueNote Filling)). p.seen) first in
    record {
      lock = it.lock;
      maker = ap (λ (p : Page (QueueNote Filling)). p.maker) first ∙ sym id;
      its = it.its;
      sees = record { rest = []; seen = seen };
      is = it.is;
      own = ap (λ (p : Page (QueueNote Filling)). noted_in (made_page p).own) first ∙ queue_own it.its worker ∙ sym none;
      reached = subst (λ (l : List (QueueNote Filling)). All (λ (x : Stamped). x.stamp.0 ≤ w.stamp.0) (events_at l)) (sym seen) (All-nil (λ (x : Stamped). x.stamp.0 ≤ w.stamp.0));
    }

-- ---- a desk

-- what the caller is
abbrev pub caller_at : Domain → ℕ → ℕ → Seat Filling → CallerState
caller_at d worker least seat = record { work = record { setup = d.setup; clients = d.clients; id = record { 0 = worker }; stamp = d.booted; own = []; room = 0 }; seat = seat; op = 0; sent = 0; least = least; priority = None; out = []; phase = Idle }

abbrev pub desk_at : CallerState → Post → Desk
desk_at caller post = record { caller = caller; reader = post.reader; board = Some post.board; queues = post.queues; clock = Some post.clock }

-- who noted nothing read no tick
floor_none : (clients worker tick : ℕ) → tick_floor clients worker [] ≤ tick
unfolding ticks
floor_none clients worker tick = omega arith

clock_own : (worker : ℕ) → noted_in (first_own [] worker) ≡ []
clock_own zero = refl
clock_own (suc k) = refl

clock_pass : (d : Domain) (worker least : ℕ) (post : Post) → IsClockFor d.clock worker post.clock → IsClockPass d (caller_at d worker least post.seat).work post.clock
clock_pass d worker least post it =
    let seen : (page_of post.clock).seen ≡ [] = ap (λ (p : Page Made). p.seen) it.page in
    record {
      lock = it.lock_is;
      maker = ap (λ (p : Page Made). p.maker) it.page;
      own = ap (λ (p : Page Made). noted_in p.own) it.page ∙ clock_own worker;
      reached = subst (λ (l : List Made). All (λ (x : Stamped). x.stamp.0 ≤ d.booted.0) (noted_in l)) (sym seen) (All-nil (λ (x : Stamped). x.stamp.0 ≤ d.booted.0));
      floor = floor_none d.clients worker _;
    }

module _ (d : Domain) (own : List Stamped) (k : ℕ) (post : Post) (least : ℕ) (is : IsBoot d.setup own) (its : IsPost d own (suc k) post) (reached : d.booted.0 ≡ length own) (version : least ≡ length own) where
  abbrev new : Desk
  new = desk_at (caller_at d (suc k) least post.seat) post

  none_filled : (n : ℕ) → All (EndedFor []) (at n (known post.seat)).filled
  none_filled n = subst (All (EndedFor [])) (sym (ap (λ p. p.filled) (its.seat.fresh.parts n))) (All-nil (EndedFor []))

  queue_none : (n : ℕ) → n < length d.queues.items → (page_in (slice_index_or post.queues.items n None)).own ≡ []
  queue_none n within = own_none (slice_index_or post.queues.items n None) (its.queues n within) where
    own_none : (o : QueuePass) → IsThere (IsQueueFor d n (suc k)) o → (page_in o).own ≡ []
    own_none None there = absurd there
    own_none (Some pass) there = ap (λ (p : Page (QueueNote Filling)). p.own) there.page

  is_desk : IsDesk d new
  is_desk =
      let changes = ap (λ (p : Page BoardNote). changes_at p.seen) its.board.page ∙ opening-changes d.setup own in
      let seen = ap (λ (l : List Stamped). published (past_in l)) changes in
      let whole = is.version in
      record {
        setup = refl;
        clients = refl;
        booted = omega arith;
        seat = its.seat.is;
        board = board_pass d own is new.caller.work (suc k) post.board its.board refl refl reached;
        least = omega (arith, version, whole, seen);
        count = its.count;
        queues = λ n within. there-weaker (IsQueueFor d n (suc k)) (IsQueuePass d new.caller.work n) (λ pass it. queue_pass d new.caller.work n (suc k) pass it refl refl) (slice_index_or post.queues.items n None) (its.queues n within);
        clock = clock_pass d (suc k) least post its.clock;
        made = All-nil (λ (x : Stamped). IsMade x.event);
        among = All-nil (λ (x : Stamped). IsAmong (length d.queues.items) (home_of d.setup d.clients x.event));
        filled = none_filled;
        took = All-nil (λ (x : Stamped). WasTaken (known post.seat) x.stamp x.event);
        known_stamp = λ whole on.
            let stamp : d.booted ≡ record { 0 = length own } = ap (λ n. record { 0 = n }) reached in
            let begins = subst (λ l. StartsWith whole.board.notes l) (ap (λ (p : Page BoardNote). p.seen) its.board.page) on.board in
            subst (IsKnown whole) (sym stamp) (last_known d.setup own is whole begins);
        shows = λ whole on. tt;
      }

  is_new : IsNewDesk d (suc k) new
  is_new = record { is = is_desk; id = refl; clients = refl; none = refl; idle = refl; made = refl; queues = λ n within. ap (λ m. (queue_page new m).own) (add-one n) ∙ queue_none n within }

-- a worker's desk, where it isn't the domain itself
pub new_desk : (d : Domain) (own : List Stamped) (worker : ℕ) (post : Post) (caller : CallerState) (least : ℕ) → 0 < worker → IsBoot d.setup own → IsPost d own worker post → d.booted.0 ≡ length own → least ≡ length own → caller ≡ caller_at d worker least post.seat → IsNewDesk d worker (desk_at caller post)
new_desk d own zero post caller least some is its reached version same = absurd (omega (arith, some))
new_desk d own (suc k) post caller least some is its reached version same = subst (λ (c : CallerState). IsNewDesk d (suc k) (desk_at c post)) (sym same) (is_new d own k post least is its reached version)

-- ---- the domain itself

pub new_closer : (d : Domain) (own : Own) (post : Post) → IsBoot d.setup own → IsPost d own 0 post → d.booted.0 ≡ length own → IsNewCloser d (record { seat = post.seat; board = Some post.board; queues = post.queues; clock = Some post.clock; own = own; seen = d.booted; halt = None })
new_closer d own post is its reached =
    let closer : Closer = record { seat = post.seat; board = Some post.board; queues = post.queues; clock = Some post.clock; own = own; seen = d.booted; halt = None } in
    let work : WorkState = work_of d closer in
    let bound = is.bound in
    let page = its.board.page in
    let on : (whole : Whole) → StartsWith whole.board.notes (page_in closer.board).seen → StartsWith whole.board.notes (opening d.setup own) = λ whole begins. subst (λ l. StartsWith whole.board.notes l) (ap (λ (p : Page BoardNote). p.seen) page) begins in
    record {
      seat = its.seat.is;
      fresh = its.seat.fresh;
      board = board_pass d own is work 0 post.board its.board refl refl reached;
      first = ap (λ (p : Page BoardNote). p.seen) page ∙ sym (ap (λ (p : Page BoardNote). p.own) page);
      count = its.count;
      queues = λ k within. there-weaker (IsQueueFor d k 0) (IsQueuePass d work k) (λ pass it. queue_pass d work k 0 pass it refl (none_on_queue d.setup own is d.clients (k + 1))) (slice_index_or post.queues.items k None) (its.queues k within);
      clock = its.clock;
      work = is_work d.setup own is d.clients;
      boots = all_boots d.setup own is;
      reached = subst (λ n. All (λ (x : Stamped). x.stamp.0 ≤ n) own) (sym reached) (all_reached d.setup own is);
      seen = refl;
      bound = omega (arith, reached, bound);
      known = λ whole sound begins.
          let stamp : d.booted ≡ record { 0 = length own } = ap (λ n. record { 0 = n }) reached in
          subst (IsKnown whole) (sym stamp) (last_known d.setup own is whole (on whole begins));
      shows = λ whole sound begins. all_shown d own is whole (on whole begins);
      halt = refl;
    }
