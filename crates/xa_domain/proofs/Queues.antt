-- Queues are closed one after another.
use Rattle.std.proofs.Common.{◌≡◌, ℕ, suc, ◌+◌, ◌<◌, ◌≤◌, List, [], ◌∷◌, ◌++◌, length, drop, get_or, sym, ◌∙◌, ap, subst, arith, append_assoc, length-append, below_more, vec_capacity}
use Rattle.std.specs.declared.vec.Vec.{Vec}
use Rattle.std.specs.declared.alloc.Global.{Global}
use Rattle.std.proofs.Math.Seq.{get_or-append_seam}
use Rattle.std.proofs.lemmas.List.{get_or_append_left, length-map, map-append}
use Rattle.xa_boot.specs.xa_stamp.Home.{Notes}
use Rattle.xa_boot.specs.xa_stamp.declared.home.Stamped.{Stamped}
use Rattle.xa_boot.specs.xa_lock.declared.pass.LockPass.{LockPass}
use Rattle.xa_boot.specs.xa_lock.Known.{known as page_of}
use Rattle.xa_boot.specs.xa_lock.Makers.{noted_in}
use Rattle.xa_boot.specs.xa_lock.Pages.{Knows}
use Rattle.xa_boot.specs.xa_held.declared.kept_queue.QueueNote.{QueueNote}
use Rattle.xa_boot.specs.xa_held.declared.kept_queue.QueueNote.TheVariants.{Opened, By}
use Rattle.xa_boot.specs.xa_held.declared.kept_queue.Setting.{Setting}
use Rattle.xa_boot.specs.xa_held.Kept.{Kept, setting_of, notes_of}
use Rattle.xa_boot.specs.xa_held.Notes.{maker_of}
use Rattle.xa_boot.specs.xa_held.Visits.{Sees}
use Rattle.xa_boot.specs.xa_caller.declared.cargo.Filling.{Filling}
use Rattle.xa_domain.specs.Locks.{Locked, Passes, ClosesAs, Close, notes_in, noted_at}
use Rattle.xa_domain.proofs.Listed.{next_left}

-- ---- one queue

abbrev head_of : Setting Filling → List (QueueNote Filling) → Setting Filling
head_of d [] = d
head_of d (Opened s ∷ rest) = s
head_of d (By m ∷ rest) = d

-- the queue is what a pass saw
pub setting_is : (its : Setting Filling) (pass : LockPass (QueueNote Filling)) (kept : Kept Filling) → Sees its (page_of pass) → Knows maker_of (page_of pass) (notes_of kept) → setting_of kept ≡ its
setting_is its pass kept sees knows = ap (head_of its) (knows.1.1 ∙ ap (λ (l : List (QueueNote Filling)). l ++ knows.1.0) sees.seen)

-- ---- one after another

module _ (queues : List Locked) (passes : List Passes) (before : Vec Notes Global) where
  -- these are left, and the others were closed
  pub record ClosesSome (rest : List Locked) (back : List Passes) (now : Vec Notes Global) : Type 0 where
    pub kepts : List (Kept Filling)
    pub few : length kepts ≤ length queues
    pub close : Close queues passes kepts
    pub homes : notes_in now.items ≡ notes_in before.items ++ noted_at kepts
    pub room : vec_capacity now ≡ vec_capacity before
    pub left : rest ≡ drop (length kepts) queues
    pub behind : back ≡ drop (length kepts) passes

  module _ (rest : List Locked) (back : List Passes) (now : Vec Notes Global) (some : ClosesSome rest back now) where
    abbrev n : ℕ
    n = length some.kepts

    -- with the next one
    module _ (rest' : List Locked) (back' : List Passes) (queue : Locked) (its : Passes) (is : rest ≡ queue ∷ rest') (its_is : back ≡ its ∷ back') where
      pub place : (P : Locked → List (LockPass (QueueNote Filling)) → Type 0) → ((k : ℕ) (q : Locked) (p : Passes) → k < length queues → P (get_or queues k q) (get_or passes k p).items) → P queue its.items
      place P each =
          let q = next_left queues rest rest' n queue some.left is in
          let p = next_left passes back back' n its some.behind its_is in
          subst (λ x. P x its.items) (q.1 queue) (subst (λ (v : Passes). P (get_or queues n queue) v.items) (p.1 its) (each n queue its q.0))

      pub room_left : length before.items + length queues ≤ vec_capacity before → length now.items < vec_capacity now
      room_left room =
          let low = (next_left queues rest rest' n queue some.left is).0 in
          let same = some.room in
          let lengths = ap length some.homes in
          omega (arith, room, low, same, lengths, length-map now.items (λ (notes : Notes). notes.entries), length-append (notes_in before.items) (noted_at some.kepts), length-map before.items (λ (notes : Notes). notes.entries), length-map some.kepts (λ (kept : Kept Filling). noted_in kept.queue.entries))

      module _ (kept : Kept Filling) (closes : ClosesAs queue its.items kept) where
        abbrev kepts : List (Kept Filling)
        kepts = some.kepts ++ kept ∷ []

        abbrev At : ℕ → Type 0
        At j = (q : Locked) (p : Passes) (k : Kept Filling) → ClosesAs (get_or queues j q) (get_or passes j p).items (get_or kepts j k)

        before_it : (j : ℕ) → j < n → At j
        before_it j low q p k = subst (ClosesAs (get_or queues j q) (get_or passes j p).items) (sym (get_or_append_left some.kepts (kept ∷ []) k j low)) (some.close j q p k low)

        it : At n
        it q p k =
            let one = next_left queues rest rest' n queue some.left is in
            let two = next_left passes back back' n its some.behind its_is in
            subst (ClosesAs (get_or queues n q) (get_or passes n p).items) (sym (get_or-append_seam some.kepts kept [] k))
            (subst (λ (v : Passes). ClosesAs (get_or queues n q) v.items kept) (sym (two.1 p)) (subst (λ x. ClosesAs x its.items kept) (sym (one.1 q)) closes))

        pub one_more : (home : Notes) (now' : Vec Notes Global) → home.entries ≡ noted_in kept.queue.entries → now'.items ≡ now.items ++ home ∷ [] → vec_capacity now' ≡ vec_capacity now → ClosesSome rest' back' now'
        one_more home now' entries pushed cap =
            let one = next_left queues rest rest' n queue some.left is in
            let two = next_left passes back back' n its some.behind its_is in
            let low = one.0 in
            let more : length kepts ≡ suc n = omega (arith, length-append some.kepts (kept ∷ [])) in
            record {
              kepts = kepts;
              few = omega (arith, more, low);
              close = λ k q p kk within. below_more At n before_it it k (omega (arith, within, more)) q p kk;
              homes =
                  ap notes_in pushed ∙ map-append (λ (notes : Notes). notes.entries) now.items (home ∷ [])
                  ∙ ap (λ (e : List Stamped). notes_in now.items ++ e ∷ []) entries
                  ∙ ap (λ (l : List (List Stamped)). l ++ noted_in kept.queue.entries ∷ []) some.homes
                  ∙ append_assoc (notes_in before.items) (noted_at some.kepts) (noted_in kept.queue.entries ∷ [])
                  ∙ ap (λ (l : List (List Stamped)). notes_in before.items ++ l) (sym (map-append (λ (k : Kept Filling). noted_in k.queue.entries) some.kepts (kept ∷ [])));
              room = cap ∙ some.room;
              left = one.2 ∙ ap (λ m. drop m queues) (sym more);
              behind = two.2 ∙ ap (λ m. drop m passes) (sym more);
            }
