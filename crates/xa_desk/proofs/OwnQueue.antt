-- The queue of a server that is busy is one of the domain's: it took its request from there.
use Rattle.std.proofs.Common.{◌≡◌, ◌<◌, ◌≤◌, ◌+◌, ◌-◌, ◌&&◌, ℕ, Bool, true, false, List, [], ◌∷◌, ◌++◌, map, length, Some, inl, inr, refl, sym, ◌∙◌, ap, subst, arith, eqb-true}
use Rattle.std.specs.Prelude.{nat_lt, nat_le}
use Rattle.std.specs.List.{All}
use Rattle.std.proofs.lemmas.Bool.{cases_Bool, and_parts, ltb-true, lt-leb}
use Rattle.std.proofs.lemmas.List.{reverse-append}
use Rattle.std.proofs.lemmas.List.Elements.{All-nil, All-cons, All-head, All-tail, All-append, All-same, All-filter}
use Rattle.xa_server.specs.xa_types.declared.setup.Setup.{Setup}
use Rattle.xa_server.specs.xa_types.Setup.{queue_of}
use Rattle.xa_server.specs.xa_events.declared.event.Event.{Event}
use Rattle.xa_server.specs.xa_events.declared.event.Event.TheVariants.{Take, End}
use Rattle.xa_server.specs.xa_events.declared.event.Outcome.{Outcome}
use Rattle.xa_server.specs.xa_events.declared.event.Outcome.TheVariants as outcomes
use Rattle.xa_server.specs.xa_types.declared.ids.CallerId.{CallerId}
use Rattle.xa_server.specs.xa_types.declared.ids.Generation.{Generation}
use Rattle.xa_server.specs.xa_events.Caller.{is_client, is_serving}
use Rattle.xa_server.specs.xa_events.Cases.{queue_by}
use Rattle.xa_server.specs.xa_events.Homes.{home_of, of_worker}
use Rattle.xa_server.specs.xa_events.Server.{doing, doing_after, after_end, is_busy, moves_server}
use Rattle.xa_server.specs.xa_events.Words.{latest}
use Rattle.xa_server.proofs.xa_events.WordsLemmas.{latest_yes, latest_no}
use Rattle.xa_server.specs.xa_stamp.declared.home.Stamped.{Stamped}
use Rattle.xa_server.specs.xa_worker.Seen.{past_in}
use Rattle.xa_server.specs.xa_worker.Work.{theirs}
use Rattle.xa_server.specs.xa_caller.Caller.{CallerState, MayCall}
use Rattle.xa_desk.specs.declared.domain.Domain.{Domain}
use Rattle.xa_desk.specs.declared.desk.Desk.{Desk}
use Rattle.xa_desk.specs.Desks.{IsDesk, IsDomain, IsAmong}

pub all_past : (P : Event → Type 0) (xs : List Stamped) → All (λ (x : Stamped). P x.event) xs → All P (past_in xs)
all_past P [] all = All-nil P
all_past P (x ∷ xs) all =
    All-same P (past_in (x ∷ xs)) (past_in xs ++ x.event ∷ []) (reverse-append (x.event ∷ []) (map (λ (y : Stamped). y.event) xs))
    (All-append P (past_in xs) (x.event ∷ []) (all_past P xs (All-tail (λ (y : Stamped). P y.event) x xs all)) (All-cons P x.event [] (All-head (λ (y : Stamped). P y.event) x xs all) (All-nil P)))

-- behind its end a server isn't busy
ended_idle : (outcome : Outcome) (g : Generation) → is_busy (after_end outcome g) ≡ false
ended_idle (outcomes.Returned code payload) g = refl
ended_idle (outcomes.Failed code payload) g = refl
ended_idle outcomes.BadReturn g = refl
ended_idle outcome g = refl

module _ (setup : Setup) (clients n server : ℕ) where
  abbrev IsHere : Event → Type 0
  IsHere e = IsAmong n (home_of setup clients e)

  abbrev IsQueue : ℕ → Type 0
  IsQueue queue = (0 < queue) × (queue < n + 1)

  by_move : (e : Event) → moves_server server e ≡ true → is_busy (doing_after (Some e)) ≡ true → IsHere e → IsQueue (queue_of setup server)
  by_move (Take t) moves busy here = subst (λ k. IsQueue (queue_of setup k)) (eqb-true t.server.0 server moves) here
  by_move (End e) moves busy here = absurd (cc (sym busy ∙ ended_idle e.outcome e.generation))
  by_move e moves busy here = absurd (cc busy)

  took_from : (past : List Event) → All IsHere past → is_busy (doing_after (latest (moves_server server) past)) ≡ true → IsQueue (queue_of setup server)
  took_from [] all busy = absurd (cc busy)
  took_from (e ∷ past) all busy = elim (cases_Bool (moves_server server e)) [
    | inl moves ↦ by_move e moves (subst (λ o. is_busy (doing_after o) ≡ true) (latest_yes (moves_server server) e past moves) busy) (All-head IsHere e past all)
    | inr none ↦ took_from past (All-tail IsHere e past all) (subst (λ o. is_busy (doing_after o) ≡ true) (latest_no (moves_server server) e past none) busy)
  ]

pub its_queue : (d : Domain) (desk : Desk) → IsDomain d → IsDesk d desk → is_serving desk.caller.work.clients desk.caller.work.id.0 (theirs desk.caller.work) ≡ true
    → (0 < queue_by d.setup d.clients desk.caller.work.id.0) × (queue_by d.setup d.clients desk.caller.work.id.0 < length d.setup.queues + 1)
unfolding doing
its_queue d desk domain is serving =
    let w = desk.caller.work in
    let n : ℕ = length d.queues.items in
    let here = All-filter (of_worker w.clients w.id.0) (IsHere d.setup d.clients n 0) (past_in w.own) (all_past (IsHere d.setup d.clients n 0) w.own is.among) in
    let busy = (and_parts (nat_lt w.clients w.id.0) (is_busy (doing (w.id.0 - w.clients) (theirs w))) serving).1 in
    let its = took_from d.setup d.clients n (w.id.0 - w.clients) (theirs w) here busy in
    let at_queue : IsQueue d.setup d.clients n 0 (queue_by d.setup d.clients w.id.0) = subst (λ k. IsQueue d.setup d.clients n 0 (queue_of d.setup (w.id.0 - k))) is.clients its in
    subst (λ (k : ℕ). (0 < queue_by d.setup d.clients w.id.0) × (queue_by d.setup d.clients w.id.0 < k + 1)) domain.queues at_queue

-- a caller above the clients is a server's
pub no_client : (clients caller : ℕ) → clients < caller → is_client clients caller ≡ false
no_client clients caller above = ap (λ (b : Bool). nat_le 1 caller && b) (lt-leb caller clients above) ∙ and_no (nat_le 1 caller)
  where
    and_no : (b : Bool) → (b && false) ≡ false
    and_no true = refl
    and_no false = refl

-- which of the two may call
pub calls_busy : (c : CallerState) → c.work.clients < c.work.id.0 → MayCall c → is_serving c.work.clients c.work.id.0 (theirs c.work) ≡ true
calls_busy c above (inl client) = absurd (cc (sym client ∙ no_client c.work.clients c.work.id.0 above))
calls_busy c above (inr serving) = serving

pub calls_itself : (c : CallerState) → c.work.id.0 ≤ c.work.clients → MayCall c → is_client c.work.clients c.work.id.0 ≡ true
calls_itself c low (inl client) = client
calls_itself c low (inr serving) = let above = ltb-true c.work.clients c.work.id.0 (and_parts (nat_lt c.work.clients c.work.id.0) _ serving).0 in absurd (omega (arith, low, above))

-- which of the two a desk's caller is, by its number
pub is_itself : (d : Domain) (desk : Desk) → IsDesk d desk → (id : CallerId) → id ≡ desk.caller.work.id → id.0 ≤ d.clients → MayCall desk.caller → is_client d.clients desk.caller.work.id.0 ≡ true
is_itself d desk is id its low may =
    let clients = is.clients in
    let number = ap (λ (i : CallerId). i.0) its in
    ap (λ (k : ℕ). is_client k desk.caller.work.id.0) (sym clients) ∙ calls_itself desk.caller (omega (arith, low, clients, number)) may

pub is_at_work : (d : Domain) (desk : Desk) → IsDesk d desk → (id : CallerId) → id ≡ desk.caller.work.id → d.clients < id.0 → MayCall desk.caller → is_serving desk.caller.work.clients desk.caller.work.id.0 (theirs desk.caller.work) ≡ true
is_at_work d desk is id its above may =
    let clients = is.clients in
    let number = ap (λ (i : CallerId). i.0) its in
    calls_busy desk.caller (omega (arith, above, clients, number)) may
