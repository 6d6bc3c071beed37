-- A worker's seat and passes are put behind those of the others.
use Rattle.std.proofs.Common.{◌≡◌, ℕ, ◌+◌, ◌<◌, ◌≤◌, List, [], ◌∷◌, ◌++◌, Option, Some, None, length, map, get_or, set, inl, inr, refl, sym, ◌∙◌, ap, subst, arith, length-append, vec_capacity}
use Rattle.std.specs.Prelude.{IsSome}
use Rattle.std.specs.List.{All}
use Rattle.std.proofs.lemmas.Bool.{cases_lt, cases_eq}
use Rattle.std.proofs.lemmas.List.{get_or_push, get_or_append_left, get_or-set_same, get_or-set_other, get_or_default, length-set, map-append}
use Rattle.std.specs.declared.vec.Vec.{Vec}
use Rattle.std.specs.declared.alloc.Global.{Global}
use Rattle.xa_boot.specs.xa_lock.declared.makers.Made.{Made}
use Rattle.xa_boot.specs.xa_lock.declared.pass.LockPass.{LockPass}
use Rattle.xa_boot.specs.xa_cell.declared.tokens.Seat.{Seat}
use Rattle.xa_boot.specs.xa_held.declared.kept_board.BoardNote.{BoardNote}
use Rattle.xa_boot.specs.xa_held.declared.kept_queue.QueueNote.{QueueNote}
use Rattle.xa_boot.specs.xa_caller.declared.cargo.Filling.{Filling}
use Rattle.xa_boot.specs.xa_desk.Desks.{IsThere}
use Rattle.xa_domain.specs.declared.tokens.Tokens.{Tokens}
use Rattle.xa_domain.specs.Leaving.{Leaving, AreTokens}
use Rattle.xa_domain.specs.Room.{AreNoTokens}
use Rattle.xa_domain.specs.Gathering.{HasSpace, HasTokenSpace, AreAdded, AddsTokens}

abbrev pub Pass : Type 0
Pass = LockPass (QueueNote Filling)

abbrev pub Passes : Type 0
Passes = Vec (LockPass (QueueNote Filling)) Global

-- ---- the passes of the queues, the last one first

-- so far, where these passes are left
pub record AreAddedSo (passes left : List (Option Pass)) (old now : List Passes) : Type 0 where
  pub count : length now ≡ length old
  pub fewer : length left ≤ length old
  pub front : (k : ℕ) → k < length left → get_or passes k None ≡ get_or left k None
  pub before : (k : ℕ) (d : Passes) → k < length left → get_or now k d ≡ get_or old k d
  pub behind : (k : ℕ) (d : Passes) → length left ≤ k → k < length old → IsThere (λ p. (get_or now k d).items ≡ (get_or old k d).items ++ p ∷ []) (get_or passes k None)
  pub capacity : (k : ℕ) (d : Passes) → vec_capacity (get_or now k d) ≡ vec_capacity (get_or old k d)

pub none_added : (passes : List (Option Pass)) (old : List Passes) → length passes ≡ length old → AreAddedSo passes passes old old
none_added passes old same = record {
  count = refl;
  fewer = omega (arith, same);
  front = λ k less. refl;
  before = λ k d less. refl;
  behind = λ k d least less. absurd (omega (arith, same, least, less));
  capacity = λ k d. refl;
}

pub added_more : (passes left left' : List (Option Pass)) (pass : Option Pass) (old now : List Passes) (its its' : Passes) → AreAddedSo passes left old now → left ≡ left' ++ pass ∷ [] → its ≡ get_or now (length left') its
    → IsThere (λ p. its'.items ≡ its.items ++ p ∷ []) pass → vec_capacity its' ≡ vec_capacity its → AreAddedSo passes left' old (set now (length left') its')
added_more passes left left' pass old now its its' so_far is at added same_room =
    let n : ℕ = length left' in
    let longer : length left ≡ n + 1 = ap length is ∙ length-append left' (pass ∷ []) in
    let count = so_far.count in
    let fewer = so_far.fewer in
    let inside : n < length now = omega (arith, longer, count, fewer) in
    let here : (d : Passes) → get_or (set now n its') n d ≡ its' = λ d. get_or-set_same now n its' d inside in
    let was : (d : Passes) → its ≡ get_or old n d = λ d. at ∙ get_or_default now n its d inside ∙ so_far.before n d (omega (arith, longer)) in
    let last : get_or passes n None ≡ pass = so_far.front n (omega (arith, longer)) ∙ ap (λ l. get_or l n None) is ∙ get_or_push left' pass None n refl in
    record {
      count = length-set now n its' ∙ count;
      fewer = omega (arith, longer, fewer);
      front = λ k less. so_far.front k (omega (arith, less, longer)) ∙ ap (λ l. get_or l k None) is ∙ get_or_append_left left' (pass ∷ []) None k less;
      before = λ k d less. let apart : k ≡ n → ⊥ = λ same. omega (arith, same, less) in get_or-set_other now n k its' d apart ∙ so_far.before k d (omega (arith, less, longer));
      behind = λ k d least less. elim (cases_lt n k) [
        | inl beyond ↦
            let apart : k ≡ n → ⊥ = λ same. omega (arith, same, beyond) in
            subst (λ (v : Passes). IsThere (λ p. v.items ≡ (get_or old k d).items ++ p ∷ []) (get_or passes k None)) (sym (get_or-set_other now n k its' d apart)) (so_far.behind k d (omega (arith, longer, beyond)) less)
        | inr up ↦
            let same : n ≡ k = omega (arith, least, up) in
            subst (λ j. IsThere (λ p. (get_or (set now n its') j d).items ≡ (get_or old j d).items ++ p ∷ []) (get_or passes j None)) same
            (subst (λ (v : Passes). IsThere (λ p. v.items ≡ (get_or old n d).items ++ p ∷ []) (get_or passes n None)) (sym (here d))
            (subst (λ (v : Passes). IsThere (λ p. its'.items ≡ v.items ++ p ∷ []) (get_or passes n None)) (was d)
            (subst (IsThere (λ p. its'.items ≡ its.items ++ p ∷ [])) (sym last) added)))
      ];
      capacity = λ k d. elim (cases_eq k n) [
        | inl same ↦
            subst (λ j. vec_capacity (get_or (set now n its') j d) ≡ vec_capacity (get_or old j d)) (sym same)
            (ap (λ (v : Passes). vec_capacity v) (here d) ∙ same_room ∙ ap (λ (v : Passes). vec_capacity v) (was d))
        | inr apart ↦ ap (λ (v : Passes). vec_capacity v) (get_or-set_other now n k its' d apart) ∙ so_far.capacity k d
      ];
    }

-- the pass that comes next has room
pub next_space : (passes left left' : List (Option Pass)) (pass : Option Pass) (old now : List Passes) (its : Passes) → AreAddedSo passes left old now → left ≡ left' ++ pass ∷ [] → its ≡ get_or now (length left') its → All (HasSpace 1) old → HasSpace 1 its
next_space passes left left' pass old now its so_far is at room =
    let n : ℕ = length left' in
    let longer : length left ≡ n + 1 = ap length is ∙ length-append left' (pass ∷ []) in
    let fewer = so_far.fewer in
    subst (HasSpace 1) (sym (at ∙ so_far.before n its (omega (arith, longer)))) (room n its (omega (arith, longer, fewer)))

pub next_within : (passes left left' : List (Option Pass)) (pass : Option Pass) (old now : List Passes) → AreAddedSo passes left old now → left ≡ left' ++ pass ∷ [] → length left' < length now
next_within passes left left' pass old now so_far is =
    let longer : length left ≡ length left' + 1 = ap length is ∙ length-append left' (pass ∷ []) in
    let fewer = so_far.fewer in
    let count = so_far.count in
    omega (arith, longer, fewer, count)

pub all_added : (passes left : List (Option Pass)) (old now : List Passes) → length left ≡ 0 → AreAddedSo passes left old now → AreAdded passes old now
all_added passes left old now none so_far = record {
  count = so_far.count;
  each = λ k d less. so_far.behind k d (omega (arith, none)) less;
  capacity = so_far.capacity;
}

-- ---- all of it

there_map : {E : Type 0} (old new : List (LockPass E)) (pass : Option (LockPass E)) → IsThere (λ p. new ≡ old ++ p ∷ []) pass → map Some new ≡ map Some old ++ pass ∷ []
there_map old new None is = absurd is
there_map old new (Some p) is = ap (map Some) is ∙ map-append Some old (p ∷ [])

there_more : {E : Type 0} (old new : List (LockPass E)) (pass : Option (LockPass E)) → IsThere (λ p. new ≡ old ++ p ∷ []) pass → length new ≡ length old + 1
there_more old new None is = absurd is
there_more old new (Some p) is = ap length is ∙ length-append old (p ∷ [])

pub there_some : {E : Type 0} (P : LockPass E → Type 0) (pass : Option (LockPass E)) → IsThere P pass → IsSome pass
there_some P None is = absurd is
there_some P (Some p) is = refl

pub adds_tokens : (seat : Seat Filling) (board : Option (LockPass BoardNote)) (queues : List (Option Pass)) (clock : Option (LockPass Made)) (old new : Tokens) → new.seats.items ≡ old.seats.items ++ seat ∷ [] → vec_capacity new.seats ≡ vec_capacity old.seats
    → IsThere (λ p. new.boards.items ≡ old.boards.items ++ p ∷ []) board → vec_capacity new.boards ≡ vec_capacity old.boards → AreAdded queues old.queues.items new.queues.items
    → IsThere (λ p. new.clocks.items ≡ old.clocks.items ++ p ∷ []) clock → vec_capacity new.clocks ≡ vec_capacity old.clocks → AddsTokens seat board queues clock old new
adds_tokens seat board queues clock old new seated seats boarded boards added clocked clocks = record {
  are = λ work n all so_far.
      let l : Leaving = record { work = work; seat = seat; board = board; queues = queues; clock = clock } in
      let count = so_far.count in
      record {
        seats_are = seated ∙ ap (λ s. s ++ seat ∷ []) so_far.seats_are ∙ sym (map-append (λ (x : Leaving). x.seat) all (l ∷ []));
        boards_are = there_map old.boards.items new.boards.items board boarded ∙ ap (λ s. s ++ board ∷ []) so_far.boards_are ∙ sym (map-append (λ (x : Leaving). x.board) all (l ∷ []));
        clocks_are = there_map old.clocks.items new.clocks.items clock clocked ∙ ap (λ s. s ++ clock ∷ []) so_far.clocks_are ∙ sym (map-append (λ (x : Leaving). x.clock) all (l ∷ []));
        count = added.count ∙ count;
        each = λ k d less.
            there_map (get_or old.queues.items k d).items (get_or new.queues.items k d).items (get_or queues k None) (added.each k d (omega (arith, less, count)))
            ∙ ap (λ s. s ++ get_or queues k None ∷ []) (so_far.each k d less) ∙ sym (map-append (λ (x : Leaving). get_or x.queues k None) all (l ∷ []));
      };
  space = λ more room.
      let seats_room = room.seats_space in
      let boards_room = room.boards_space in
      let clocks_room = room.clocks_space in
      let more_seats = ap length seated in
      let one_seat = length-append old.seats.items (seat ∷ []) in
      let one_board = there_more old.boards.items new.boards.items board boarded in
      let one_clock = there_more old.clocks.items new.clocks.items clock clocked in
      let count = added.count in
      record {
        seats_space = omega (arith, seats_room, more_seats, one_seat, seats);
        boards_space = omega (arith, boards_room, one_board, boards);
        clocks_space = omega (arith, clocks_room, one_clock, clocks);
        queues_space = λ k d less.
            let within : k < length old.queues.items = omega (arith, less, count) in
            let queue_room = room.queues_space k d within in
            let one = there_more (get_or old.queues.items k d).items (get_or new.queues.items k d).items (get_or queues k None) (added.each k d within) in
            let same = added.capacity k d in
            omega (arith, queue_room, one, same);
      };
}

-- ---- at the beginning

pub no_tokens : (queues workers : ℕ) (t : Tokens) → AreNoTokens queues workers t → AreTokens queues [] t
no_tokens queues workers t none =
    let count = none.count in
    record {
      seats_are = none.seats_room.0;
      boards_are = ap (map Some) none.boards_room.0;
      clocks_are = ap (map Some) none.clocks_room.0;
      count = count;
      each = λ k d less. ap (map Some) (none.queues_room k d (omega (arith, less, count))).0;
    }

pub empty_space : {X : Type 0} (n : ℕ) (v : Vec X Global) → v.items ≡ [] → n ≤ vec_capacity v → HasSpace n v
empty_space n v none room = let empty = ap length none in omega (arith, empty, room)

pub token_space : (queues workers : ℕ) (t : Tokens) → AreNoTokens queues workers t → HasTokenSpace workers t
token_space queues workers t none = record {
  seats_space = empty_space workers t.seats none.seats_room.0 none.seats_room.1;
  boards_space = empty_space workers t.boards none.boards_room.0 none.boards_room.1;
  clocks_space = empty_space workers t.clocks none.clocks_room.0 none.clocks_room.1;
  queues_space = λ k d less. let its = none.queues_room k d less in empty_space workers (get_or t.queues.items k d) its.0 its.1;
}

pub less_space : (n m : ℕ) (t : Tokens) → n ≤ m → HasTokenSpace m t → HasTokenSpace n t
less_space n m t less room =
    let seats = room.seats_space in
    let boards = room.boards_space in
    let clocks = room.clocks_space in
    record {
      seats_space = omega (arith, less, seats);
      boards_space = omega (arith, less, boards);
      clocks_space = omega (arith, less, clocks);
      queues_space = λ k d within. let its = room.queues_space k d within in omega (arith, less, its);
    }

-- each pass is there
pub all_some : (P : ℕ → Pass → Type 0) (n : ℕ) (passes : List (Option Pass)) → length passes ≡ n → ((k : ℕ) → k < n → IsThere (P k) (get_or passes k None)) → All IsSome passes
all_some P n passes count each = λ k d less.
    subst IsSome (get_or_default passes k None d less) (there_some (P k) (get_or passes k None) (each k (omega (arith, less, count))))
