-- What holds of each queue, and the room that is left, once one more event is noted.
use Rattle.std.proofs.Common.{◌≡◌, ℕ, ◌+◌, ◌<◌, ◌≤◌, ◌^◌, ◌==◌, ◌||◌, not, Bool, true, false, cond, List, [], ◌∷◌, ◌++◌, length, map, inl, inr, refl, sym, ◌∙◌, ap, subst, arith, append-nil, eqb-true, length-append}
use Rattle.std.specs.Prelude.{max, Result, Ok, Err, OnOk, is_err}
use Rattle.std.specs.List.{All, filter, flat_map, list_any, IsDistinct}
use Rattle.std.proofs.Math.Bool.{or-false}
use Rattle.std.proofs.lemmas.Bool.{cases_Bool, cond_both, or_left, or_right, false≢true}
use Rattle.std.proofs.lemmas.Grind.{flat_map-append}
use Rattle.std.proofs.lemmas.List.{length-map, map-append}
use Rattle.std.proofs.lemmas.List.Folds.{list_any-append}
use Rattle.std.proofs.lemmas.List.Elements.{All-push}
use Rattle.xa_types.specs.declared.ids.CallerId.{CallerId}
use Rattle.xa_types.specs.declared.ids.QueueId.{QueueId}
use Rattle.xa_types.specs.declared.ids.ServerId.{ServerId}
use Rattle.xa_types.specs.declared.stamp.Stamp.{Stamp}
use Rattle.xa_events.specs.declared.event.Event.{Event}
use Rattle.xa_events.specs.declared.event.Event.TheVariants.{Accept, Forward}
use Rattle.xa_events.specs.Queue.{is_close_of, is_closed, is_down_of, is_down}
use Rattle.xa_stamp.specs.declared.home.Stamped.{Stamped}
use Rattle.xa_stamp.specs.Home.{Rises, last_stamp}
use Rattle.xa_stamp.proofs.Stamps.{Rises-push}
use Rattle.xa_lock.specs.declared.makers.Made.{Made}
use Rattle.xa_lock.specs.Makers.{KeptNotes, noted_in}
use Rattle.xa_queue.specs.declared.entry.Entry.{Entry}
use Rattle.xa_queue.specs.Queue.{QueueState, IsSound, same_server, has_server, none_left, gives_up, events_of, past_of}
use Rattle.xa_queue.specs.Changes.{larger, next_stamp, IsEntry}
use Rattle.xa_queue.specs.Kept.{servers_left}
use Rattle.xa_queue.proofs.Waiting.{eqb-flips, IsDistinct-one_more}
use Rattle.xa_queue.proofs.OneMore.{SameQueue, past-left}

-- ---- the servers that are left, once one more is given up

has_one_more : (s server : ServerId) (gone : List ServerId) → has_server s (gone ++ server ∷ []) ≡ (has_server s gone || (s.0 == server.0))
has_one_more s server gone = list_any-append (same_server s) gone (server ∷ []) ∙ ap (λ b. has_server s gone || b) (or-false (s.0 == server.0))

-- a filter that passes less keeps no more
fewer : {X : Type 0} (p q : X → Bool) → ((x : X) → q x ≡ true → p x ≡ true) → (xs : List X) → length (filter q xs) ≤ length (filter p xs)
fewer p q less [] = omega arith
fewer p q less (x ∷ xs) =
    let rest = fewer p q less xs in
    elim (cases_Bool (q x)) [
      | inl on ↦
          let more = ap (λ b. length (cond b (x ∷ filter q xs) (filter q xs))) on in
          let other = ap (λ b. length (cond b (x ∷ filter p xs) (filter p xs))) (less x on) in
          omega (arith, more, other, rest)
      | inr off ↦
          let same = ap (λ b. length (cond b (x ∷ filter q xs) (filter q xs))) off in
          elim (cases_Bool (p x)) [
            | inl on ↦ let other = ap (λ b. length (cond b (x ∷ filter p xs) (filter p xs))) on in omega (arith, same, other, rest)
            | inr out ↦ let other = ap (λ b. length (cond b (x ∷ filter p xs) (filter p xs))) out in omega (arith, same, other, rest)
          ]
    ]

is_left : (server s : ServerId) (gone : List ServerId) → not (has_server s (gone ++ server ∷ [])) ≡ true → not (has_server s gone) ≡ true
is_left server s gone left =
    elim (cases_Bool (has_server s gone)) [
      | inl on ↦ let there : has_server s (gone ++ server ∷ []) ≡ true = has_one_more s server gone ∙ or_left (has_server s gone) (s.0 == server.0) on in absurd (false≢true (sym (ap not there) ∙ left))
      | inr off ↦ ap not off
    ]

pub left-less : (server : ServerId) (gone servers : List ServerId) → has_server server servers ≡ true → has_server server gone ≡ false → length (servers_left (gone ++ server ∷ []) servers) + 1 ≤ length (servers_left gone servers)
left-less server gone [] own left = absurd (false≢true own)
left-less server gone (s ∷ servers) own left =
    let p : ServerId → Bool = λ x. not (has_server x gone) in
    let q : ServerId → Bool = λ x. not (has_server x (gone ++ server ∷ [])) in
    elim (cases_Bool (server.0 == s.0)) [
      | inl on ↦
          let out : has_server s (gone ++ server ∷ []) ≡ true = has_one_more s server gone ∙ or_right (has_server s gone) (s.0 == server.0) (eqb-flips s.0 server.0 ∙ on) in
          let there : has_server s gone ≡ false = ap (λ n. list_any (λ g. n == g.0) gone) (sym (eqb-true server.0 s.0 on)) ∙ left in
          let less = ap (λ b. length (cond b (s ∷ filter q servers) (filter q servers))) (ap not out) in
          let more = ap (λ b. length (cond b (s ∷ filter p servers) (filter p servers))) (ap not there) in
          let rest = fewer p q (λ x. is_left server x gone) servers in
          omega (arith, less, more, rest)
      | inr off ↦
          let rest = left-less server gone servers (sym (ap (λ b. b || list_any (λ own. server.0 == own.0) servers) off) ∙ own) left in
          elim (cases_Bool (q s)) [
            | inl on ↦
                let less = ap (λ b. length (cond b (s ∷ filter q servers) (filter q servers))) on in
                let more = ap (λ b. length (cond b (s ∷ filter p servers) (filter p servers))) (is_left server s gone on) in
                omega (arith, less, more, rest)
            | inr out ↦
                let less = ap (λ b. length (cond b (s ∷ filter q servers) (filter q servers))) out in
                elim (cases_Bool (p s)) [
                  | inl there ↦ let more = ap (λ b. length (cond b (s ∷ filter p servers) (filter p servers))) there in omega (arith, less, more, rest)
                  | inr gone' ↦ let more = ap (λ b. length (cond b (s ∷ filter p servers) (filter p servers))) gone' in omega (arith, less, more, rest)
                ]
          ]
    ]

-- no more are left than there are
pub few_left : (gone servers : List ServerId) → length (servers_left gone servers) ≤ length servers
few_left gone [] = omega arith
few_left gone (s ∷ servers) =
    let rest = few_left gone servers in
    cond_both (not (has_server s gone)) (s ∷ servers_left gone servers) (servers_left gone servers) (λ l. length l ≤ length (s ∷ servers)) (λ _. omega (arith, rest)) (λ _. omega (arith, rest))

pub one_most : (b : Bool) → cond b 0 1 ≤ 1
one_most true = omega arith
one_most false = omega arith

pub on_ok : {X Y P : Type 0} (r : Result X Y) → is_err r ≡ false → OnOk r P → P
on_ok (Ok x) fine holds = holds
on_ok (Err y) fine holds = absurd (false≢true (sym fine))

pub same_server-flips : (a b : ServerId) → same_server a b ≡ same_server b a
same_server-flips a b = eqb-flips a.0 b.0

-- all servers are left where none is given up
pub left-all : (servers : List ServerId) → servers_left [] servers ≡ servers
left-all [] = refl
left-all (s ∷ servers) = ap (λ l. s ∷ l) (left-all servers)

-- ---- the stamps

-- as many events as there were are there with one more
pub grown : {X : Type 0} (entries entries' : List X) (e : X) → entries' ≡ entries ++ e ∷ [] → (n : ℕ) → n ≤ length entries → n + 1 ≤ length entries'
grown {X} entries entries' e are n few = let more = ap length are in omega (arith, more, few, length-append entries (e ∷ []))

pub rises-noted : (seen stamp : Stamp) (e : Event) (first : Stamp) (entries : List Stamped) → Rises first entries → stamp.0 ≡ max seen.0 (last_stamp first entries) + 1 → stamp.0 ≤ 2 ^ 63 → Rises first (entries ++ record { stamp = stamp; event = e } ∷ [])
rises-noted seen stamp e first entries rises next bound = Rises-push first entries (record { stamp = stamp; event = e }) rises (omega (arith, next)) bound

-- stamps rise to 2^63 at most, so there are no more
pub few_rise : (first : Stamp) (entries : List Stamped) → Rises first entries → first.0 + length entries ≤ 2 ^ 63
few_rise first [] rises = omega (arith, rises)
few_rise first (e ∷ entries) rises = let rest = few_rise e.stamp entries rises.1 in omega (arith, rest, rises.0)

-- as many were noted as there are entries with makers
pub length-noted_in : (entries : List Made) → length (noted_in entries) ≡ length entries
length-noted_in entries = let bare : Made → Stamped = λ entry. entry.noted in length-map entries bare

module _ {C : Type 0} where
  -- the next stamp of a queue is the next one of its home
  pub next-noted : (seen stamp : Stamp) (q : QueueState C) (home : KeptNotes) → q.first ≡ home.first → home.entries ≡ q.entries → (larger seen q < 2 ^ 63) × (stamp ≡ next_stamp seen q) → (stamp.0 ≡ max seen.0 (last_stamp home.first (noted_in home.entries)) + 1) × (stamp.0 ≤ 2 ^ 63)
  next-noted seen stamp q home first entries fresh =
      let same : larger seen q ≡ max seen.0 (last_stamp home.first (noted_in home.entries)) = ap (λ f. max seen.0 (last_stamp f (noted_in q.entries))) first ∙ ap (λ l. max seen.0 (last_stamp home.first (noted_in l))) (sym entries) in
      let is : stamp.0 ≡ larger seen q + 1 = ap (λ (s : Stamp). s.0) fresh.1 in
      (is ∙ ap (λ n. n + 1) same, omega (arith, is, fresh.0))

  -- a server is given up
  pub own-noted : (q : QueueState C) (server : ServerId) → IsSound q → has_server server q.servers ≡ true → All (λ s. has_server s q.servers ≡ true) (q.gone ++ server ∷ [])
  own-noted q server sound own = All-push (λ s. has_server s q.servers ≡ true) q.gone server sound.own own

  pub once-noted : (q : QueueState C) (server : ServerId) → IsSound q → has_server server q.gone ≡ false → IsDistinct same_server (q.gone ++ server ∷ [])
  once-noted q server sound left = IsDistinct-one_more same_server same_server-flips q.gone server sound.once left

  -- what holds of a queue once the event is noted, but for its stamps
  pub record Stays (e : Event) (q left : QueueState C) : Type 0 where
    pub same : SameQueue q left
    pub few : length left.waiting ≤ left.capacity
    pub deserted : left.down ≡ true → none_left left ≡ true
    pub own : All (λ server. has_server server left.servers ≡ true) left.gone
    pub once : IsDistinct same_server left.gone
    pub given_up : left.gone ≡ q.gone ++ gives_up e
    pub shut : left.closed ≡ (is_close_of q.id.0 e || q.closed)
    pub fallen : left.down ≡ (is_down_of q.id.0 e || q.down)

  -- where the event ends nothing
  pub quiet : (e : Event) (q : QueueState C) (waits : List (Entry C)) (n : ℕ) → gives_up e ≡ [] → is_close_of q.id.0 e ≡ false → is_down_of q.id.0 e ≡ false → length waits ≤ q.capacity → IsSound q → Stays e q (record q { waiting = waits; takes = n })
  quiet e q waits n none unshut up few sound = record {
    same = record { id = refl; capacity = refl; servers = refl; first = refl; entries = refl };
    few = few;
    deserted = sound.deserted;
    own = sound.own;
    once = sound.once;
    given_up = sym (ap (λ l. q.gone ++ l) none ∙ append-nil q.gone);
    shut = sym (ap (λ b. b || q.closed) unshut);
    fallen = sym (ap (λ b. b || q.down) up);
  }

  -- the event that brings an entry ends nothing
  pub ends-nothing : (id : QueueId) (entry : Entry C) (e : Event) → IsEntry id entry e → (gives_up e ≡ []) × (is_close_of id.0 e ≡ false) × (is_down_of id.0 e ≡ false)
  ends-nothing id entry (Accept a) its = (refl, refl, refl)
  ends-nothing id entry (Forward f) its = (refl, refl, refl)
  ends-nothing id entry _ its = absurd its

  -- what holds of a queue holds with one more event
  pub sound-noted : (seen stamp : Stamp) (maker : CallerId) (e : Event) (q left : QueueState C) (home home' : KeptNotes) → q.first ≡ home.first → home.entries ≡ q.entries → (stamp.0 ≡ max seen.0 (last_stamp home.first (noted_in home.entries)) + 1) × (stamp.0 ≤ 2 ^ 63)
      → home'.entries ≡ home.entries ++ record { maker = maker; noted = record { stamp = stamp; event = e } } ∷ [] → IsSound q → Stays e q left → IsSound (record left { entries = home'.entries })
  unfolding is_closed is_down
  sound-noted seen stamp maker e q left home home' first at next more sound stays =
      let x : Stamped = record { stamp = stamp; event = e } in
      let entry : Made = record { maker = maker; noted = x } in
      let bare : Made → Stamped = λ made. made.noted in
      let event : Stamped → Event = λ noted. noted.event in
      let entries : home'.entries ≡ q.entries ++ entry ∷ [] = more ∙ ap (λ l. l ++ entry ∷ []) at in
      let whole : noted_in home'.entries ≡ noted_in q.entries ++ x ∷ [] = ap noted_in entries ∙ map-append bare q.entries (entry ∷ []) in
      let last : max seen.0 (last_stamp home.first (noted_in home.entries)) ≡ max seen.0 (last_stamp q.first (noted_in q.entries)) = ap (λ f. max seen.0 (last_stamp f (noted_in home.entries))) (sym first) ∙ ap (λ l. max seen.0 (last_stamp q.first (noted_in l))) at in
      let rises : Rises q.first (noted_in q.entries ++ x ∷ []) = rises-noted seen stamp e q.first (noted_in q.entries) sound.rises (next.0 ∙ ap (λ n. n + 1) last) next.1 in
      let past : past_of (record left { entries = home'.entries }) ≡ e ∷ past_of q = ap (λ l. past_of (record left { entries = l })) (entries ∙ ap (λ l. l ++ entry ∷ []) (sym stays.same.entries)) ∙ past-left stamp maker e q left stays.same in
      record {
        few = stays.few;
        deserted = stays.deserted;
        own = stays.own;
        once = stays.once;
        rises = subst (λ f. Rises f (noted_in home'.entries)) (sym stays.same.first) (subst (Rises q.first) (sym whole) rises);
        given_up = stays.given_up ∙ ap (λ l. l ++ gives_up e) sound.given_up ∙ sym (ap (flat_map gives_up) (ap (map event) whole ∙ map-append event (noted_in q.entries) (x ∷ [])) ∙ flat_map-append gives_up (events_of q) (e ∷ []) ∙ ap (λ l. flat_map gives_up (events_of q) ++ l) (append-nil (gives_up e)));
        shut = stays.shut ∙ ap (λ b. is_close_of q.id.0 e || b) sound.shut ∙ ap (λ id. is_closed id.0 (e ∷ past_of q)) (sym stays.same.id) ∙ ap (is_closed left.id.0) (sym past);
        fallen = stays.fallen ∙ ap (λ b. is_down_of q.id.0 e || b) sound.fallen ∙ ap (λ id. is_down id.0 (e ∷ past_of q)) (sym stays.same.id) ∙ ap (is_down left.id.0) (sym past);
      }

  -- one entry less waits
  pub one_less : (front : List (Entry C)) (entry : Entry C) (back all : List (Entry C)) → all ≡ front ++ entry ∷ back → length all ≡ length (front ++ back) + 1
  one_less front entry back all are = let whole = ap length are in omega (arith, whole, length-append front (entry ∷ back), length-append front back)
