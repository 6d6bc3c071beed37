-- One worker more gets what there is for it.
use Rattle.std.proofs.Common.{◌≡◌, ℕ, ◌+◌, ◌<◌, List, [], ◌∷◌, ◌++◌, Option, Some, None, length, get_or, sym, ◌∙◌, ap, subst, arith, length-append}
use Rattle.std.specs.List.{All}
use Rattle.std.proofs.lemmas.List.{get_or_append_left}
use Rattle.std.specs.declared.vec.Vec.{Vec}
use Rattle.std.specs.declared.alloc.Global.{Global}
use Rattle.xa_client_worker.specs.xa_events.Words.{EachNumbered}
use Rattle.xa_client_worker.specs.xa_stamp.declared.home.Stamped.{Stamped}
use Rattle.xa_client_worker.specs.xa_lock.declared.pass.LockPass.{LockPass}
use Rattle.xa_client_worker.specs.xa_desk.declared.domain.Domain.{Domain}
use Rattle.xa_client_worker.specs.xa_desk.Desks.{IsThere}
use Rattle.xa_boot.specs.declared.staff.Staff.{Staff}
use Rattle.xa_boot.specs.declared.staff.Post.{Post}
use Rattle.xa_boot.specs.Booting.{IsClockFor}
use Rattle.xa_boot.specs.Opening.{IsBoot, opening}
use Rattle.xa_boot.specs.Supplies.{IsBoardFor, IsRoom, QueuePass}
use Rattle.xa_boot.specs.Staffing.{IsSeatFor, IsQueueFor, IsPost, IsFull, IsStaff, AreTaken, Hires}
use Rattle.xa_boot.proofs.Numbered.{numbered-pop}
use Rattle.xa_boot.proofs.Taking.{Pass, Passes}

pub there-weaker : {E : Type 0} (P Q : LockPass E → Type 0) → ((pass : LockPass E) → P pass → Q pass) → (o : Option (LockPass E)) → IsThere P o → IsThere Q o
there-weaker P Q from None is = is
there-weaker P Q from (Some pass) is = from pass is

there-fact : {E : Type 0} (P : LockPass E → Type 0) (Q : Type 0) → ((pass : LockPass E) → P pass → Q) → (o : Option (LockPass E)) → IsThere P o → Q
there-fact P Q from None is = absurd is
there-fact P Q from (Some pass) is = from pass is

pub some_of : {X : Type 0} (k : ℕ) (xs : List X) → k < length xs → X
some_of k [] within = absurd (omega (arith, within))
some_of k (x ∷ xs) within = x

All-front : {X : Type 0} (P : X → Type 0) (xs ys : List X) → All P (xs ++ ys) → All P xs
All-front P xs ys all = λ k d within. let more = length-append xs ys in subst P (get_or_append_left xs ys d k within) (all k d (omega (arith, within, more)))

-- the last of a list that has one for each of so many
last-length : {X : Type 0} (old new : List X) (x : X) (left left' : ℕ) → old ≡ new ++ x ∷ [] → length old ≡ left' → left + 1 ≡ left' → length new ≡ left
last-length old new x left left' is count less = let more = length-append new (x ∷ []) in let same = ap length is in omega (arith, more, same, count, less)

last-numbered : {X : Type 0} (P : ℕ → X → Type 0) (old new : List X) (x : X) (left : ℕ) → old ≡ new ++ x ∷ [] → length new ≡ left → EachNumbered P 0 old → EachNumbered P 0 new × P left x
last-numbered P old new x left is count each =
    let parts = numbered-pop P 0 new x (subst (EachNumbered P 0) is each) in
    let same : 0 + length new ≡ left = omega (arith, count) in
    (parts.0, subst (λ k. P k x) same parts.1)

module _ (old new : Staff) (post : Post) (room : Vec QueuePass Global) (left : new.left + 1 ≡ old.left) (own : new.own ≡ old.own) (version : new.version ≡ old.version) (full : IsFull old)
    (seats : old.seats.items ≡ new.seats.items ++ post.seat ∷ []) (readers : old.readers.items ≡ new.readers.items ++ post.reader ∷ []) (boards : old.boards.items ≡ new.boards.items ++ post.board ∷ [])
    (clocks : old.clocks.items ≡ new.clocks.items ++ post.clock ∷ []) (rooms : old.rooms.items ≡ new.rooms.items ++ room ∷ []) (taken : AreTaken (length old.queues.items) old.queues.items new.queues.items post.queues.items) where
  count : length new.queues.items ≡ length old.queues.items
  count = taken.count

  -- of each queue one pass less is left
  each_left : (k : ℕ) (d : Passes) → k < length old.queues.items → length (get_or new.queues.items k d).items ≡ new.left
  each_left k d within =
      there-fact (λ pass. (get_or old.queues.items k d).items ≡ (get_or new.queues.items k d).items ++ pass ∷ []) (length (get_or new.queues.items k d).items ≡ new.left)
      (λ pass is. last-length (get_or old.queues.items k d).items (get_or new.queues.items k d).items pass new.left old.left is (full.queues k d within) left) (get_or post.queues.items k None) (taken.each k d within)

  is_full : IsFull new
  is_full = record {
    seats = last-length old.seats.items new.seats.items post.seat new.left old.left seats full.seats left;
    readers = last-length old.readers.items new.readers.items post.reader new.left old.left readers full.readers left;
    boards = last-length old.boards.items new.boards.items post.board new.left old.left boards full.boards left;
    queues = λ k d within. each_left k d (omega (arith, within, count));
    clocks = last-length old.clocks.items new.clocks.items post.clock new.left old.left clocks full.clocks left;
    rooms = last-length old.rooms.items new.rooms.items room new.left old.left rooms full.rooms left;
    each_room = subst (λ n. All (IsRoom n) new.rooms.items) (sym count) (All-front (IsRoom (length old.queues.items)) new.rooms.items (room ∷ []) (subst (All (IsRoom (length old.queues.items))) rooms full.each_room));
  }

  module _ (d : Domain) (is : IsStaff d old) where
    its_seat : EachNumbered (IsSeatFor d) 0 new.seats.items × IsSeatFor d new.left post.seat
    its_seat = last-numbered (IsSeatFor d) old.seats.items new.seats.items post.seat new.left seats is_full.seats is.seats

    its_board : EachNumbered (IsBoardFor d.board (opening d.setup old.own)) 0 new.boards.items × IsBoardFor d.board (opening d.setup old.own) new.left post.board
    its_board = last-numbered (IsBoardFor d.board (opening d.setup old.own)) old.boards.items new.boards.items post.board new.left boards is_full.boards is.boards

    its_clock : EachNumbered (IsClockFor d.clock) 0 new.clocks.items × IsClockFor d.clock new.left post.clock
    its_clock = last-numbered (IsClockFor d.clock) old.clocks.items new.clocks.items post.clock new.left clocks is_full.clocks is.clocks

    its_passes : (k : ℕ) (default : Passes) → k < length d.queues.items → (pass : Pass) → (get_or old.queues.items k default).items ≡ (get_or new.queues.items k default).items ++ pass ∷ []
        → EachNumbered (IsQueueFor d k) 0 (get_or new.queues.items k default).items × IsQueueFor d k new.left pass
    its_passes k default within pass last =
        let all = is.count in
        last-numbered (IsQueueFor d k) (get_or old.queues.items k default).items (get_or new.queues.items k default).items pass new.left last (each_left k default (omega (arith, within, all))) (is.queues k default within)

    is_post : IsPost d old.own new.left post
    is_post =
        let all = is.count in
        record {
          seat = its_seat.1;
          board = its_board.1;
          count = taken.each_taken ∙ is.count;
          queues = λ k within.
              let inside : k < length old.queues.items = omega (arith, within, all) in
              let default = some_of k old.queues.items inside in
              there-weaker (λ pass. (get_or old.queues.items k default).items ≡ (get_or new.queues.items k default).items ++ pass ∷ []) (IsQueueFor d k new.left) (λ pass last. (its_passes k default within pass last).1) (get_or post.queues.items k None) (taken.each k default inside);
          clock = its_clock.1;
        }

    is_staff : IsStaff d new
    is_staff =
        let all = is.count in
        record {
          boot = subst (IsBoot d.setup) (sym own) is.boot;
          booted = is.booted ∙ ap (λ (l : List Stamped). length l) (sym own);
          version = version ∙ is.version ∙ ap (λ (l : List Stamped). length l) (sym own);
          seats = its_seat.0;
          boards = subst (λ l. EachNumbered (IsBoardFor d.board (opening d.setup l)) 0 new.boards.items) (sym own) its_board.0;
          count = count ∙ is.count;
          queues = λ k default within.
              let inside : k < length old.queues.items = omega (arith, within, all) in
              there-fact (λ pass. (get_or old.queues.items k default).items ≡ (get_or new.queues.items k default).items ++ pass ∷ []) (EachNumbered (IsQueueFor d k) 0 (get_or new.queues.items k default).items) (λ pass last. (its_passes k default within pass last).0) (get_or post.queues.items k None) (taken.each k default inside);
          clocks = its_clock.0;
        }

  pub hired : Hires old new post
  hired = record { left = left; own = own; full = is_full; is_post = is_post; staff = is_staff }
