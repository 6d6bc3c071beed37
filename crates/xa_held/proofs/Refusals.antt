-- Why a queue refused a put, as it stood.
use Rattle.std.proofs.Common.{◌≡◌, ℕ, ◌^◌, ◌==◌, Bool, true, false, length, Some, None, refl, subst}
use Rattle.std.specs.Prelude.{if◌then◌else◌}
use Rattle.xa_types.specs.declared.stamp.Stamp.{Stamp}
use Rattle.xa_queue.specs.declared.queue.Refusal.{Refusal}
use Rattle.xa_queue.specs.declared.queue.Refusal.TheVariants as refusals
use Rattle.xa_queue.specs.Queue.{QueueState}
use Rattle.xa_queue.specs.Changes.{larger, put_refused}

abbrev pub Why : Bool → Bool → Bool → Bool → ℕ → Stamp → Refusal → Type 0
Why down closed full spent n worn refusals.Down = down ≡ true
Why down closed full spent n worn refusals.Closed = closed ≡ true
Why down closed full spent n worn (refusals.Full m) = (full ≡ true) × (m ≡ n)
Why down closed full spent n worn (refusals.Worn stamp) = (stamp ≡ worn) × (spent ≡ true)
Why down closed full spent n worn refusals.NoMemory = ⊥

why_is : (down closed full spent : Bool) (n : ℕ) (worn : Stamp) (why : Refusal)
    → (if down then Some refusals.Down else (if closed then Some refusals.Closed else (if full then Some (refusals.Full n) else (if spent then Some (refusals.Worn worn) else None)))) ≡ Some why → Why down closed full spent n worn why
why_is true closed full spent n worn why is = let same : refusals.Down ≡ why = cc is in subst (Why true closed full spent n worn) same refl
why_is false true full spent n worn why is = let same : refusals.Closed ≡ why = cc is in subst (Why false true full spent n worn) same refl
why_is false false true spent n worn why is = let same : refusals.Full n ≡ why = cc is in subst (Why false false true spent n worn) same (refl, refl)
why_is false false false true n worn why is = let same : refusals.Worn worn ≡ why = cc is in subst (Why false false false true n worn) same (refl, refl)
why_is false false false false n worn why is = absurd (cc is)

-- it was down, closed or full, or its stamps were at their end, where that one was seen
abbrev pub WhyOf : {C : Type 0} → Stamp → QueueState C → Refusal → Type 0
WhyOf seen q why = Why q.down q.closed (length q.waiting == q.capacity) (larger seen q == 2 ^ 63) (length q.waiting) (record { 0 = 2 ^ 63 }) why

pub why_refused : {C : Type 0} (seen : Stamp) (q : QueueState C) (why : Refusal) → put_refused seen q ≡ Some why → WhyOf seen q why
why_refused seen q why is = why_is q.down q.closed (length q.waiting == q.capacity) (larger seen q == 2 ^ 63) (length q.waiting) (record { 0 = 2 ^ 63 }) why is
