-- How a queue ends: nothing waits there once each of its servers is done, and it is down where all of them were given up.
use Rattle.std.proofs.Common.{◌≡◌, ◌⊎◌, ℕ, zero, suc, ◌+◌, ◌<◌, ◌≤◌, ◌==◌, true, if◌then◌else◌, List, [], ◌∷◌, ◌++◌, length, Some, None, inl, inr, refl, sym, ◌∙◌, ap, subst, arith, eqb-true}
use Rattle.std.proofs.lemmas.Bool.{cases_Bool, cases_eq, or_right}
use Rattle.xa_client_worker.specs.xa_types.declared.ids.RequestId.{RequestId}
use Rattle.xa_client_worker.specs.xa_types.declared.setup.Setup.{Setup}
use Rattle.xa_client_worker.specs.xa_types.declared.stamp.Stamp.{Stamp}
use Rattle.xa_client_worker.specs.xa_types.Setup.{queue_of}
use Rattle.xa_client_worker.specs.xa_events.declared.event.Event.{Event}
use Rattle.xa_client_worker.specs.xa_events.declared.event.Event.TheVariants.{Accept, Forward}
use Rattle.xa_client_worker.specs.xa_events.Cases.{HomePart, EntryHome}
use Rattle.xa_client_worker.specs.xa_events.Queue.{comes_in, goes_out, waiting, is_down, is_down_of}
use Rattle.xa_client_worker.specs.xa_events.Server.{AllGone, is_gone, is_gone_of}
use Rattle.xa_client_worker.specs.xa_events.Words.{AtEach, added, without}
use Rattle.xa_client_worker.proofs.xa_events.Merge.{seen_now, without_none}
use Rattle.xa_client_worker.specs.xa_stamp.declared.home.Stamped.{Stamped}
use Rattle.xa_client_worker.specs.xa_lock.Pages.{StartsWith}
use Rattle.xa_client_worker.specs.xa_worker.Seen.{past_in, SawFront}
use Rattle.xa_client_worker.proofs.xa_worker.Lists.{past_in-append, earlier_behind}

-- ---- a queue that is down

no_entry : (setup : Setup) (at queue : ℕ) (request : RequestId) (past : List Event) → EntryHome setup at past → is_down queue past ≡ true → (if at == queue then Some request else None) ≡ None
no_entry setup at queue request past part down = elim (cases_Bool (at == queue)) [
  | inl y ↦ absurd (cc (down, ap (λ n. is_down n past) (eqb-true at queue y), part.not_down))
  | inr n ↦ ap (λ b. if b then Some request else None) n
]

nothing_comes : (setup : Setup) (queue : ℕ) (e : Event) (past : List Event) → HomePart setup e past → is_down queue past ≡ true → comes_in queue e ≡ None
nothing_comes setup queue (Accept a) past part down = no_entry setup a.queue.0 queue a.request past part down
nothing_comes setup queue (Forward f) past part down = no_entry setup f.queue.0 queue f.request past part down
nothing_comes setup queue _ past part down = refl

-- it is down, and nothing waits there
abbrev IsSwept : Setup → ℕ → List Event → Type 0
IsSwept setup queue past = (is_down queue past ≡ true) × (waiting setup queue past ≡ [])

swept_more : (setup : Setup) (queue : ℕ) (e : Event) (past : List Event) → HomePart setup e past → IsSwept setup queue past → IsSwept setup queue (e ∷ past)
unfolding is_down waiting
swept_more setup queue e past part swept = (
  or_right (is_down_of queue e) (is_down queue past) swept.0,
  ap (λ o. added o (without (goes_out setup queue e) (waiting setup queue past))) (nothing_comes setup queue e past part swept.0) ∙ (ap (without (goes_out setup queue e)) swept.1 ∙ without_none (goes_out setup queue e)),
)

-- what was seen of a front, and each event of the home keeps, holds in the end
pub in_the_end : (setup : Setup) (P : List Event → Type 0) → ((e : Event) (past : List Event) → HomePart setup e past → P past → P (e ∷ past)) → (entries : List Stamped) (stamp : Stamp) → AtEach (HomePart setup) (past_in entries) → SawFront entries stamp P → P (past_in entries)
in_the_end setup P keeps entries stamp met saw =
    let rest = saw.stands.0 in
    let split = ap past_in saw.stands.1 ∙ past_in-append saw.front rest in
    subst P (sym split) (seen_now setup P keeps (past_in saw.front) (past_in rest ++ past_in saw.front) (subst (AtEach (HomePart setup)) split met) (earlier_behind (past_in rest) (past_in saw.front)) saw.shows)

pub swept_in_the_end : (setup : Setup) (queue : ℕ) (entries : List Stamped) (stamp : Stamp) → AtEach (HomePart setup) (past_in entries) → SawFront entries stamp (IsSwept setup queue) → IsSwept setup queue (past_in entries)
swept_in_the_end setup queue entries stamp met saw = in_the_end setup (IsSwept setup queue) (swept_more setup queue) entries stamp met saw

-- ---- not every server left others

pub gone_longer : (server : ℕ) (newer past : List Event) → is_gone server past ≡ true → is_gone server (newer ++ past) ≡ true
unfolding is_gone
gone_longer server [] past gone = gone
gone_longer server (e ∷ newer) past gone = or_right (is_gone_of server e) (is_gone server (newer ++ past)) (gone_longer server newer past gone)

-- of two fronts one begins with the other
one_of_both : {X : Type 0} (whole a b : List X) → StartsWith whole a → StartsWith whole b → StartsWith a b ⊎ StartsWith b a
one_of_both whole [] b starts other = inr (b, refl)
one_of_both whole (x ∷ a) [] starts other = inl (x ∷ a, refl)
one_of_both whole (x ∷ a) (y ∷ b) starts other =
    let split : x ∷ (a ++ starts.0) ≡ y ∷ (b ++ other.0) = sym starts.1 ∙ other.1 in
    let same : x ≡ y = cc split in
    let rest : a ++ starts.0 ≡ b ++ other.0 = cc split in
    elim (one_of_both (a ++ starts.0) a b (starts.0, refl) (other.0, rest)) [
      | inl shorter ↦ inl (shorter.0, ap (λ l. x ∷ l) shorter.1 ∙ ap (λ z. z ∷ (b ++ shorter.0)) same)
      | inr longer ↦ inr (longer.0, ap (λ l. y ∷ l) longer.1 ∙ ap (λ z. z ∷ (a ++ longer.0)) (sym same))
    ]

module _ (setup : Setup) (queue : ℕ) (entries : List Stamped) where
  abbrev NotAll : List Stamped → Type 0
  NotAll front = AllGone setup queue (past_in front) → ⊥

  -- a front in which that server is given up, and not each of the queue
  pub record LeftOthers (server : ℕ) : Type 0 where
    pub front : List Stamped
    pub stands : StartsWith entries front
    pub gone : is_gone server (past_in front) ≡ true
    pub others : NotAll front

  -- P holds of each of the first k servers that is of the queue
  abbrev Each : (ℕ → Type 0) → ℕ → Type 0
  Each P k = (server : ℕ) → 0 < server → server < k + 1 → queue_of setup server ≡ queue → P server

  one_more : (P : ℕ → Type 0) (k : ℕ) → Each P k → (queue_of setup (suc k) ≡ queue → P (suc k)) → Each P (suc k)
  one_more P k each last server some low of = elim (cases_eq server (suc k)) [ inl same ↦ subst P (sym same) (last (ap (queue_of setup) (sym same) ∙ of)) | inr less ↦ each server some (omega (arith, low, less)) of ]

  -- each of the first k is given up in a front that leaves others
  record AllOf (k : ℕ) : Type 0 where
    pub front : List Stamped
    pub stands : StartsWith entries front
    pub gone : Each (λ server. is_gone server (past_in front) ≡ true) k
    pub others : NotAll front

  gone_in : (server : ℕ) (long short : List Stamped) → StartsWith long short → is_gone server (past_in short) ≡ true → is_gone server (past_in long) ≡ true
  gone_in server long short starts gone = subst (λ past. is_gone server past ≡ true) (sym (ap past_in starts.1 ∙ past_in-append short starts.0)) (gone_longer server (past_in starts.0) (past_in short) gone)

  -- the longer of two fronts has them all
  both : (k : ℕ) → AllOf k → LeftOthers (suc k) → AllOf (suc k)
  both k all one = elim (one_of_both entries all.front one.front all.stands one.stands) [
    | inl short ↦ record {
      front = all.front;
      stands = all.stands;
      gone = one_more (λ server. is_gone server (past_in all.front) ≡ true) k all.gone (λ its. gone_in (suc k) all.front one.front short one.gone);
      others = all.others;
    }
    | inr short ↦ record {
      front = one.front;
      stands = one.stands;
      gone = one_more (λ server. is_gone server (past_in one.front) ≡ true) k (λ server some low of. gone_in server one.front all.front short (all.gone server some low of)) (λ its. one.gone);
      others = one.others;
    }
  ]

  module _ (X : Type 0) (done : Each (λ server. LeftOthers server ⊎ X) (length setup.servers)) where
    up_to : (start : ℕ) → LeftOthers start → (k : ℕ) → k ≤ length setup.servers → AllOf k ⊎ X
    up_to start left zero le = inl (record { front = left.front; stands = left.stands; gone = λ server some low of. absurd (omega (arith, some, low)); others = left.others })
    up_to start left (suc k) le = elim (up_to start left k (omega (arith, le))) [
      | inl all ↦ elim (cases_eq (queue_of setup (suc k)) queue) [
        | inl its ↦ elim (done (suc k) (omega arith) (omega (arith, le)) its) [ inl more ↦ inl (both k all more) | inr x ↦ inr x ]
        | inr other ↦ inl (record { front = all.front; stands = all.stands; gone = one_more (λ server. is_gone server (past_in all.front) ≡ true) k all.gone (λ its. absurd (other its)); others = all.others })
      ]
      | inr x ↦ inr x
    ]

    -- where each server of the queue left others, or shows X, and there is one, X holds
    pub not_all_left : (server : ℕ) → 0 < server → server < length setup.servers + 1 → queue_of setup server ≡ queue → X
    not_all_left server some low of = elim (done server some low of) [
      | inl left ↦ elim (up_to server left (length setup.servers) (omega arith)) [ inl all ↦ absurd (all.others all.gone) | inr x ↦ x ]
      | inr x ↦ x
    ]
