-- The log of the queues tells what was held since a worker's last event at a queue.
use Rattle.std.proofs.Common.{◌≡◌, ℕ, ◌<◌, ◌==◌, ◌||◌, ◌&&◌, not, if◌then◌else◌, Bool, true, false, cond, List, [], ◌∷◌, ◌++◌, length, reverse, get_or, Option, Some, None, inl, inr, refl, sym, ◌∙◌, ap, arith, eq-eqb, eqb-true, Decides}
use Rattle.std.specs.List.{filter, cons_option}
use Rattle.std.proofs.lemmas.List.{reverse-append}
use Rattle.std.proofs.lemmas.Bool.{cases_Bool, cases_eq, and_parts, and_from, or_cases, or_left, or_right, not-true, not_from_false, ne_eqb}
use Rattle.xa_types.specs.declared.setup.Setup.{Setup}
use Rattle.xa_events.specs.declared.event.Event.{Event}
use Rattle.xa_events.specs.Words.{count, IsEarlier}
use Rattle.xa_events.specs.Homes.{worker_of, at_home, of_worker, is_own_at, HeldSince}
use Rattle.xa_events.specs.Homes.Home.{QueueHome}
use Rattle.xa_events.specs.Queue.{waiting}
use Rattle.xa_events.specs.Views.{QueueView}
use Rattle.xa_events.proofs.Owns.{queue_own}
use Rattle.xa_events.proofs.WordsLemmas.{count_yes, count_no, counts_earlier}
use Rattle.xa_machine.specs.declared.queued.QueueRow.{QueueRow}
use Rattle.xa_machine.specs.declared.holding.Held.{Held}
use Rattle.xa_machine.specs.Shown.{queue_home, QueuesShow}
use Rattle.xa_machine.specs.Holds.{held_by, log_of, held}
use Rattle.xa_machine.proofs.Noting.{home_is, home_only, home_none}

-- so many wait
abbrev pub Waits : Setup → ℕ → ℕ → List Event → Type 0
Waits setup queue n moment = length (waiting setup queue moment) ≡ n

abbrev pub WasHeld : Setup → ℕ → ℕ → ℕ → ℕ → List Event → Type 0
WasHeld setup clients worker queue n past = HeldSince setup clients worker queue (Waits setup queue n) past

own_waits : (setup : Setup) (clients queue : ℕ) (moment : List Event) → length (waiting setup queue (filter (at_home setup clients (QueueHome queue)) moment)) ≡ length (waiting setup queue moment)
own_waits setup clients queue moment = ap (λ (v : QueueView). length v.waiting) (queue_own setup clients queue moment)

now_held : (setup : Setup) (clients worker queue n : ℕ) (past : List Event) → IsEarlier past past → Waits setup queue n past → WasHeld setup clients worker queue n past
now_held setup clients worker queue n past stood h = record { moment = past; stood = stood; own = refl; held = own_waits setup clients queue past ∙ h }

itself : (past : List Event) → IsEarlier past past
itself [] = refl
itself (e ∷ past) = inl refl

-- an event elsewhere
elsewhere : (setup : Setup) (clients worker queue n : ℕ) (e : Event) (past : List Event) → at_home setup clients (QueueHome queue) e ≡ false
    → (WasHeld setup clients worker queue n past → WasHeld setup clients worker queue n (e ∷ past)) × (WasHeld setup clients worker queue n (e ∷ past) → WasHeld setup clients worker queue n past)
elsewhere setup clients worker queue n e past off =
    let other : is_own_at setup clients worker queue e ≡ false = ap (λ b. b && of_worker clients worker e) off in
    let same : count (is_own_at setup clients worker queue) (e ∷ past) ≡ count (is_own_at setup clients worker queue) past = count_no (is_own_at setup clients worker queue) e past other in
    let kept : filter (at_home setup clients (QueueHome queue)) (e ∷ past) ≡ filter (at_home setup clients (QueueHome queue)) past =
    ap (λ b. cond b (e ∷ filter (at_home setup clients (QueueHome queue)) past) (filter (at_home setup clients (QueueHome queue)) past)) off in (
      λ h. record { moment = h.moment; stood = inr h.stood; own = h.own ∙ sym same; held = h.held },
      λ h. elim h.stood [
        | inl is ↦ record {
          moment = past;
          stood = itself past;
          own = refl;
          held = ap (λ es. length (waiting setup queue es)) (sym kept) ∙ (ap (λ es. length (waiting setup queue (filter (at_home setup clients (QueueHome queue)) es))) (sym is) ∙ h.held);
        }
        | inr older ↦ record { moment = h.moment; stood = older; own = h.own ∙ same; held = h.held }
      ],
    )

-- an event here
here : (setup : Setup) (clients worker queue n : ℕ) (e : Event) (past : List Event) (before : Bool) → at_home setup clients (QueueHome queue) e ≡ true → Decides before (WasHeld setup clients worker queue n past)
    → Decides ((not (worker_of clients e == worker) && before) || (length (waiting setup queue (e ∷ past)) == n)) (WasHeld setup clients worker queue n (e ∷ past))
here setup clients worker queue n e past before at so = (
  λ h. elim (or_cases (not (worker_of clients e == worker) && before) (length (waiting setup queue (e ∷ past)) == n) h) [
    | inl l ↦
        let parts = and_parts (not (worker_of clients e == worker)) before l in
        let was = so.0 parts.1 in
        let other : is_own_at setup clients worker queue e ≡ false = ap (λ b. b && of_worker clients worker e) at ∙ not-true (worker_of clients e == worker) parts.0 in
        record { moment = was.moment; stood = inr was.stood; own = was.own ∙ sym (count_no (is_own_at setup clients worker queue) e past other); held = was.held }
    | inr r ↦ now_held setup clients worker queue n (e ∷ past) (inl refl) (eqb-true (length (waiting setup queue (e ∷ past))) n r)
  ],
  λ h. elim h.stood [
    | inl is ↦
        let waits : length (waiting setup queue (e ∷ past)) ≡ n = sym (ap (λ es. length (waiting setup queue es)) is) ∙ (sym (own_waits setup clients queue h.moment) ∙ h.held) in
        or_right (not (worker_of clients e == worker) && before) (length (waiting setup queue (e ∷ past)) == n) (eq-eqb (length (waiting setup queue (e ∷ past))) n waits)
    | inr older ↦ elim (cases_Bool (worker_of clients e == worker)) [
      | inl y ↦
          let own : is_own_at setup clients worker queue e ≡ true = ap (λ b. b && of_worker clients worker e) at ∙ y in
          let more = count_yes (is_own_at setup clients worker queue) e past own in
          let few = counts_earlier (is_own_at setup clients worker queue) h.moment past older in
          let same = h.own in
          absurd (omega (arith, more, few, same))
      | inr un ↦
          let other : is_own_at setup clients worker queue e ≡ false = ap (λ b. b && of_worker clients worker e) at ∙ un in
          let was : WasHeld setup clients worker queue n past =
          record { moment = h.moment; stood = older; own = h.own ∙ count_no (is_own_at setup clients worker queue) e past other; held = h.held } in
          or_left (not (worker_of clients e == worker) && before) (length (waiting setup queue (e ∷ past)) == n) (and_from (not (worker_of clients e == worker)) before (not_from_false (worker_of clients e == worker) un) (so.1 was))
    ]
  ],
)

pub held_is : (setup : Setup) (clients worker queue n : ℕ) (past : List Event) → Decides (held queue worker n (log_of setup clients past)) (WasHeld setup clients worker queue n past)
unfolding waiting
held_is setup clients worker queue n [] = (
  λ h. record { moment = []; stood = refl; own = refl; held = sym (eqb-true n 0 h) },
  λ h. eq-eqb n 0 (sym h.held ∙ ap (λ es. length (waiting setup queue (filter (at_home setup clients (QueueHome queue)) es))) h.stood),
)
held_is setup clients worker queue n (e ∷ past) = more (queue_home setup e) refl (held_is setup clients worker queue n past)
  where
    more : (o : Option ℕ) → queue_home setup e ≡ o → Decides (held queue worker n (log_of setup clients past)) (WasHeld setup clients worker queue n past)
        → Decides (held queue worker n (cons_option (held_by setup clients e past o) (log_of setup clients past))) (WasHeld setup clients worker queue n (e ∷ past))
    more None is so = let ways = elsewhere setup clients worker queue n e past (home_none setup clients e queue is) in (λ h. ways.0 (so.0 h), λ h. so.1 (ways.1 h))
    more (Some q) is so = elim (cases_eq q queue) [
      | inl same ↦
          let at : at_home setup clients (QueueHome queue) e ≡ true = home_is setup clients queue e (is ∙ ap Some same) in
          let now = here setup clients worker queue n e past (held queue worker n (log_of setup clients past)) at so in
          let reads : held queue worker n (cons_option (held_by setup clients e past (Some q)) (log_of setup clients past))
          ≡ ((not (worker_of clients e == worker) && held queue worker n (log_of setup clients past)) || (length (waiting setup queue (e ∷ past)) == n)) =
          ap (λ b. if b then (not (worker_of clients e == worker) && held queue worker n (log_of setup clients past)) || (length (waiting setup q (e ∷ past)) == n) else held queue worker n (log_of setup clients past)) (eq-eqb q queue same)
          ∙ ap (λ k. (not (worker_of clients e == worker) && held queue worker n (log_of setup clients past)) || (length (waiting setup k (e ∷ past)) == n)) same in
          (λ h. now.0 (sym reads ∙ h), λ h. reads ∙ now.1 h)
      | inr ne ↦
          let ways = elsewhere setup clients worker queue n e past (home_only setup clients q e queue is (λ back. ne (sym back))) in
          let reads : held queue worker n (cons_option (held_by setup clients e past (Some q)) (log_of setup clients past)) ≡ held queue worker n (log_of setup clients past) =
          ap (λ b. if b then (not (worker_of clients e == worker) && held queue worker n (log_of setup clients past)) || (length (waiting setup q (e ∷ past)) == n) else held queue worker n (log_of setup clients past)) (ne_eqb q queue ne) in
          (λ h. ways.0 (so.0 (sym reads ∙ h)), λ h. reads ∙ so.1 (ways.1 h))
    ]

-- ---- the log goes on

abbrev as_held : ℕ → ℕ → ℕ → Held
as_held queue worker n = record { queue = queue; worker = worker; waiting = n }

pub log_put : (setup : Setup) (clients queue : ℕ) (e : Event) (past : List Event) (log : List Held) (one : Held) (rows : List QueueRow) → ((d : QueueRow) → one.waiting ≡ length (get_or rows queue d).waiting.items) → queue < length rows
    → one.queue ≡ queue → one.worker ≡ worker_of clients e → queue_home setup e ≡ Some queue → QueuesShow setup (e ∷ past) rows → log ≡ reverse (log_of setup clients past) → log ++ one ∷ [] ≡ reverse (log_of setup clients (e ∷ past))
log_put setup clients queue e past log one rows reads within at by is shows was =
    let made : one ≡ record { queue = queue; worker = worker_of clients e; waiting = length (waiting setup queue (e ∷ past)) } = same one at by (many rows within reads shows) in
    ap (λ xs. xs ++ one ∷ []) was ∙ (sym (reverse-append (one ∷ []) (log_of setup clients past)) ∙ ap reverse (ap (λ x. x ∷ log_of setup clients past) made ∙ ap (λ o. cons_option (held_by setup clients e past o) (log_of setup clients past)) (sym is)))
  where
    same : (x : Held) → x.queue ≡ queue → x.worker ≡ worker_of clients e → x.waiting ≡ length (waiting setup queue (e ∷ past)) → x ≡ record { queue = queue; worker = worker_of clients e; waiting = length (waiting setup queue (e ∷ past)) }
    same x a b c =
        let first : x ≡ record { queue = queue; worker = x.worker; waiting = x.waiting } = ap (λ (k : ℕ). as_held k x.worker x.waiting) a in
        first ∙ (ap (λ (k : ℕ). as_held queue k x.waiting) b ∙ ap (λ (k : ℕ). as_held queue (worker_of clients e) k) c)

    many : (rs : List QueueRow) → queue < length rs → ((d : QueueRow) → one.waiting ≡ length (get_or rs queue d).waiting.items) → QueuesShow setup (e ∷ past) rs → one.waiting ≡ length (waiting setup queue (e ∷ past))
    many [] w r s = absurd (omega (arith, w))
    many (x ∷ rs) w r s = r x ∙ ap length (s.each queue x w).waiting

pub log_same : (setup : Setup) (clients : ℕ) (e : Event) (past : List Event) (log : List Held) → queue_home setup e ≡ None → log ≡ reverse (log_of setup clients past) → log ≡ reverse (log_of setup clients (e ∷ past))
log_same setup clients e past log is was = was ∙ ap reverse (ap (λ o. cons_option (held_by setup clients e past o) (log_of setup clients past)) (sym is))
