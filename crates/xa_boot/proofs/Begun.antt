-- The domain and what there is for its workers, put together.
use Rattle.std.proofs.Common.{◌≡◌, ℕ, zero, suc, ◌+◌, ◌<◌, ◌≤◌, cond, Bool, true, false, List, [], ◌∷◌, length, map, get_or, refl, sym, ◌∙◌, ap, subst, arith}
use Rattle.std.specs.List.{All}
use Rattle.std.proofs.lemmas.List.{length-map, get_or_default}
use Rattle.std.proofs.lemmas.List.Elements.{All-head, All-tail}
use Rattle.xa_client_worker.specs.xa_types.declared.stamp.Stamp.{Stamp}
use Rattle.xa_client_worker.specs.xa_events.Caller.{is_client}
use Rattle.xa_client_worker.specs.xa_events.Words.{EachNumbered}
use Rattle.xa_client_worker.specs.xa_lock.declared.guarded.Guarded.{Guarded}
use Rattle.xa_client_worker.specs.xa_lock.Known.{IsPassOf, passes_of}
use Rattle.xa_client_worker.specs.xa_cell.declared.tokens.Seat.{Seat}
use Rattle.xa_client_worker.specs.xa_cell.Known.{known, IsSeatOf, IsNew}
use Rattle.xa_client_worker.specs.xa_held.declared.kept_queue.KeptQueue.{KeptQueue}
use Rattle.xa_client_worker.specs.xa_held.declared.kept_queue.QueueNote.{QueueNote}
use Rattle.xa_client_worker.specs.xa_caller.declared.cargo.Filling.{Filling}
use Rattle.xa_client_worker.specs.xa_desk.declared.domain.Domain.{Domain}
use Rattle.xa_boot.specs.declared.staff.Staff.{Staff}
use Rattle.xa_boot.specs.Booting.{IsClockFor}
use Rattle.xa_boot.specs.Opening.{IsBoot, opening}
use Rattle.xa_boot.specs.Supplies.{limit_of, IsBoardFor, IsRoom}
use Rattle.xa_boot.specs.Locking.{EachPair, IsLocked}
use Rattle.xa_boot.specs.Staffing.{IsSeatFor, IsQueueFor}
use Rattle.xa_boot.specs.Hiring.{AreLeft}
use Rattle.xa_boot.specs.Founding.{AreSeats}
use Rattle.xa_boot.proofs.Dealt.{some_of}
use Rattle.xa_boot.proofs.Numbered.{numbered-here, numbered-all}
use Rattle.xa_boot.proofs.Pairs.{pair-length, pair-at}
use Rattle.xa_boot.proofs.Taking.{Passes}

-- ---- cells

-- each worker has 1 to 50 cells
limit_fits : (clients worker : ℕ) → (0 < limit_of clients worker) × (limit_of clients worker ≤ 50)
limit_fits clients zero = (omega arith, omega arith)
limit_fits clients (suc k) = by_kind (is_client clients (suc k)) where
  by_kind : (client : Bool) → (0 < cond client 50 16) × (cond client 50 16 ≤ 50)
  by_kind true = (omega arith, omega arith)
  by_kind false = (omega arith, omega arith)

pub limits_fit : (clients : ℕ) (limits : List ℕ) → EachNumbered (λ worker limit. limit ≡ limit_of clients worker) 0 limits → All (λ n. (0 < n) × (n ≤ 50)) limits
limits_fit clients limits each = numbered-all (λ worker limit. limit ≡ limit_of clients worker) (λ n. (0 < n) × (n ≤ 50)) (λ k n is. subst (λ m. (0 < m) × (m ≤ 50)) (sym is) (limit_fits clients k)) 0 limits each

module _ (d : Domain) where
  -- each worker's seat has as many cells as its limit says
  seats_for : (n : ℕ) (seats : List (Seat Filling)) → All (IsSeatOf d.cells) seats → All (λ (s : Seat Filling). IsNew s.first s.count (known s)) seats → EachNumbered (λ worker limit. limit ≡ limit_of d.clients worker) n (map (λ (s : Seat Filling). s.count) seats)
      → EachNumbered (IsSeatFor d) n seats
  seats_for n [] table fresh each = tt
  seats_for n (s ∷ seats) table fresh each =
      let New : Seat Filling → Type 0 = λ (x : Seat Filling). IsNew x.first x.count (known x) in (
        record { is = All-head (IsSeatOf d.cells) s seats table; fresh = All-head New s seats fresh; count = each.0 },
        seats_for (n + 1) seats (All-tail (IsSeatOf d.cells) s seats table) (All-tail New s seats fresh) each.1,
      )

  -- ---- queues

  module _ (workers : ℕ) (passes : List Passes) (each : EachPair (IsLocked d.setup d.clients d.cells d.booted workers) 0 d.queues.items passes) where
    locked_at : (k : ℕ) (queue : Guarded (KeptQueue Filling) (QueueNote Filling)) (its : Passes) → k < length d.queues.items → IsLocked d.setup d.clients d.cells d.booted workers k (get_or d.queues.items k queue) (get_or passes k its)
    locked_at k queue its within = let same : 0 + k ≡ k = omega arith in subst (λ n. IsLocked d.setup d.clients d.cells d.booted workers n (get_or d.queues.items k queue) (get_or passes k its)) same (pair-at (IsLocked d.setup d.clients d.cells d.booted workers) 0 d.queues.items passes each k queue its within)

    queues_for : (k : ℕ) (default : Passes) → k < length d.queues.items → EachNumbered (IsQueueFor d k) 0 (get_or passes k default).items
    queues_for k default within =
        let queue = some_of k d.queues.items within in
        let at = locked_at k queue default within in
        let is = at.is in
        let first = is.first_is in
        numbered-here (IsQueueFor d k) (get_or passes k default).items (λ worker pass inside. record {
          its = at.its;
          is = record { id = is.id; capacity = is.capacity; servers = is.servers; first = subst (λ (s : Stamp). s.0 ≤ d.booted.0) (sym first) (omega arith); clients = is.clients_are; cells = is.cells_are };
          lock = λ other. subst (λ (q : Guarded (KeptQueue Filling) (QueueNote Filling)). IsPassOf q (get_or (get_or passes k default).items worker pass)) (get_or_default d.queues.items k queue other within) (at.fresh.lock worker pass inside);
          page = at.fresh.page worker pass inside;
        })

    pub all_dealt : All (λ (queue : Guarded (KeptQueue Filling) (QueueNote Filling)). passes_of queue ≡ workers) d.queues.items
    all_dealt = λ k queue within.
        let count = pair-length (IsLocked d.setup d.clients d.cells d.booted workers) 0 d.queues.items passes each in
        let inside : k < length passes = omega (arith, within, count) in
        let at = locked_at k queue (some_of k passes inside) within in
        sym at.fresh.all ∙ at.count

  -- all workers are left
  pub all_left : (s : Staff) (limits : List ℕ) → IsBoot d.setup s.own → d.booted.0 ≡ length s.own → s.version ≡ length s.own → EachNumbered (IsBoardFor d.board (opening d.setup s.own)) 0 s.boards.items → length s.boards.items ≡ s.left → length s.readers.items ≡ s.left
      → EachNumbered (IsClockFor d.clock) 0 s.clocks.items → length s.clocks.items ≡ s.left → length s.rooms.items ≡ s.left → All (IsRoom (length d.setup.queues)) s.rooms.items → length d.queues.items ≡ length d.setup.queues → EachPair (IsLocked d.setup d.clients d.cells d.booted s.left) 0 d.queues.items s.queues.items
      → EachNumbered (λ worker limit. limit ≡ limit_of d.clients worker) 0 limits → length limits ≡ s.left → AreSeats d.cells limits s.seats.items → AreLeft d s.left s
  all_left s limits boot booted version boards each_board readers clocks each_clock rooms each_room queues locked limited each_limit seats =
      let same = pair-length (IsLocked d.setup d.clients d.cells d.booted s.left) 0 d.queues.items s.queues.items locked in
      let counted = ap length seats.counts in
      let mapped = length-map s.seats.items (λ (x : Seat Filling). x.count) in
      record {
        number = refl;
        full = record {
          seats = omega (arith, counted, mapped, each_limit);
          readers = readers;
          boards = each_board;
          queues = λ k passes within. let inside : k < length d.queues.items = omega (arith, within, same) in (locked_at s.left s.queues.items locked k (some_of k d.queues.items inside) passes inside).count;
          clocks = each_clock;
          rooms = rooms;
          each_room = subst (λ n. All (IsRoom n) s.rooms.items) (sym queues ∙ same) each_room;
        };
        staff = record {
          boot = boot;
          booted = booted;
          version = version;
          seats = seats_for 0 s.seats.items seats.table seats.fresh (subst (EachNumbered (λ worker limit. limit ≡ limit_of d.clients worker) 0) (sym seats.counts) limited);
          boards = boards;
          count = sym same;
          queues = queues_for s.left s.queues.items locked;
          clocks = clocks;
        };
      }
