-- An entry goes out: the queue reads as its events do with a take or a sweep more.
use Rattle.std.proofs.Common.{◌≡◌, ℕ, ◌+◌, ◌==◌, ◌||◌, true, false, cond, List, [], ◌∷◌, ◌++◌, map, Some, None, refl, sym, ◌∙◌, ap, subst, eq-eqb, eqb-true, inl, inr}
use Rattle.std.specs.Prelude.{if◌then◌else◌, slice_get}
use Rattle.std.specs.List.{All, list_any, IsDistinct}
use Rattle.std.proofs.lemmas.Bool.{cases_Bool, and_parts, true≢false}
use Rattle.std.proofs.lemmas.List.{map-append}
use Rattle.std.proofs.lemmas.List.Elements.{All-tail}
use Rattle.xa_types.specs.declared.ids.RequestId.{RequestId}
use Rattle.xa_types.specs.declared.ids.ServerId.{ServerId}
use Rattle.xa_types.specs.declared.ids.Generation.{Generation}
use Rattle.xa_types.specs.declared.setup.Setup.{Setup}
use Rattle.xa_types.specs.Setup.{queue_of}
use Rattle.xa_events.specs.declared.event.Event.TheVariants.{Sweep}
use Rattle.xa_events.specs.Words.{has, same_request, without}
use Rattle.xa_events.specs.Queue.{waiting, takes, is_down}
use Rattle.xa_events.specs.Request.{priority_at}
use Rattle.xa_events.specs.Order.{next_of}
use Rattle.xa_events.specs.Homes.Home.{QueueHome}
use Rattle.xa_events.specs.Views.{QueueView}
use Rattle.xa_events.proofs.WordsLemmas.{same_request_of}
use Rattle.xa_queue.specs.declared.entry.Entry.{Entry}
use Rattle.xa_queue.specs.Line.{IsNext}
use Rattle.xa_queue.specs.Queue.{QueueState, IsSound, past_of, has_server, all_gone}
use Rattle.xa_queue.specs.Changes.{taken}
use Rattle.xa_queue.specs.Reading.{Fits, IsRead, view_of}
use Rattle.xa_queue.proofs.Keeping.{All-without}
use Rattle.xa_queue.proofs.InOrder.{next-chosen}
use Rattle.xa_queue.proofs.Waiting.{any_at, IsDistinct-without, without-one}
use Rattle.xa_queue.proofs.OneMore.{Parts}

-- a server that is left among these shows that not all are gone
pub not_all_gone : (server : ServerId) (gone servers : List ServerId) → has_server server servers ≡ true → has_server server gone ≡ false → all_gone gone servers ≡ true → ⊥
not_all_gone server gone [] own left all = true≢false (sym own)
not_all_gone server gone (s ∷ servers) own left all =
    let parts = and_parts (has_server s gone) (all_gone gone servers) all in
    elim (cases_Bool (server.0 == s.0)) [
      | inl so ↦ let is : has_server server gone ≡ true = ap (λ n. list_any (λ g. n == g.0) gone) (eqb-true server.0 s.0 so) ∙ parts.0 in true≢false (sym is ∙ left)
      | inr not_so ↦ not_all_gone server gone servers (sym (ap (λ b. b || list_any (λ own. server.0 == own.0) servers) not_so) ∙ own) left parts.1
    ]

module _ {C : Type 0} where
  -- a queue with a server that is left is not down
  pub is_up : (q : QueueState C) (server : ServerId) → IsSound q → has_server server q.servers ≡ true → has_server server q.gone ≡ false → q.down ≡ false
  is_up q server sound own left = elim (cases_Bool q.down) [ inl down ↦ absurd (not_all_gone server q.gone q.servers own left (sound.deserted down)) | inr up ↦ up ]

  abbrev request_of : Entry C → RequestId
  request_of entry = entry.request

  -- what stays of the view's requests
  stay : (q : QueueState C) (front : List (Entry C)) (entry : Entry C) (back : List (Entry C)) → q.waiting ≡ front ++ entry ∷ back → IsDistinct same_request (map request_of q.waiting) → without (Some entry.request) (map request_of q.waiting) ≡ map request_of (front ++ back)
  stay q front entry back was once =
      let all : map request_of q.waiting ≡ map request_of front ++ entry.request ∷ map request_of back = ap (map request_of) was ∙ map-append request_of front (entry ∷ back) in
      ap (without (Some entry.request)) all ∙ without-one (map request_of front) entry.request (map request_of back) (subst (IsDistinct same_request) all once) ∙ sym (map-append request_of front back)

  once_stay : (q : QueueState C) (front : List (Entry C)) (entry : Entry C) (back : List (Entry C)) → q.waiting ≡ front ++ entry ∷ back → IsDistinct same_request (map request_of q.waiting) → IsDistinct same_request (map request_of (front ++ back))
  once_stay q front entry back was once =
      let all : map request_of q.waiting ≡ map request_of front ++ entry.request ∷ map request_of back = ap (map request_of) was ∙ map-append request_of front (entry ∷ back) in
      subst (IsDistinct same_request) (sym (map-append request_of front back)) (IsDistinct-without same_request (map request_of front) entry.request (map request_of back) (subst (IsDistinct same_request) all once))

  pub took : (setup : Setup) (q : QueueState C) (server : ServerId) (generation : Generation) (front : List (Entry C)) (entry : Entry C) (back : List (Entry C)) → q.waiting ≡ front ++ entry ∷ back → IsNext (q.takes + 1) front entry back → q.down ≡ false
      → has_server server q.servers ≡ true → Fits setup q → IsRead setup q → Parts setup (taken entry server generation q) q (record q { waiting = front ++ back; takes = q.takes + 1 })
  unfolding priority_at
  took setup q server generation front entry back was next up own fits read =
      let on : (queue_of setup server.0 == q.id.0) ≡ true = fits.servers server.0 ∙ own in
      let at : queue_of setup server.0 ≡ q.id.0 = eqb-true _ _ on in
      let view : List RequestId → ℕ → QueueView = λ waits n. record (view_of q) { waiting = waits; takes = n } in
      let waits : map request_of q.waiting ≡ waiting setup q.id.0 (past_of q) = ap (λ v. v.waiting) read.view in
      let all : map request_of q.waiting ≡ map request_of front ++ entry.request ∷ map request_of back = ap (map request_of) was ∙ map-append request_of front (entry ∷ back) in
      let priorities = subst (All (λ x. priority_at (past_of q) x.request ≡ x.priority)) was read.priorities in
      record {
        view = ap (λ l. view l (q.takes + 1)) (sym (stay q front entry back was read.once))
            ∙ ap (λ b. view (without (if b then Some entry.request else None) (map request_of q.waiting)) (cond b (q.takes + 1) q.takes)) (sym on);
        stand = λ clients. ap QueueHome at;
        met = record {
          not_down = ap (λ n. is_down n (past_of q)) at ∙ ap (λ v. v.down) (sym read.view) ∙ up;
          waits = ap (λ n. has entry.request (waiting setup n (past_of q))) at ∙ ap (has entry.request) (sym waits ∙ all) ∙ any_at (same_request entry.request) (map request_of front) entry.request (map request_of back) (same_request_of entry.request entry.request refl);
          count = ap (λ v. v.takes + 1) read.view ∙ ap (λ n. takes setup n (past_of q) + 1) (sym at);
        };
        ordered = ap (λ n. next_of (priority_at (past_of q)) (waiting setup n (past_of q)) (q.takes + 1)) at ∙ ap (λ l. next_of (priority_at (past_of q)) l (q.takes + 1)) (sym waits ∙ ap (map request_of) was)
            ∙ next-chosen (priority_at (past_of q)) (q.takes + 1) front back entry priorities next;
        priorities = All-without (λ x. priority_at (past_of q) x.request ≡ x.priority) front entry back priorities;
        once = once_stay q front entry back was read.once;
      }

  pub swept : (setup : Setup) (q : QueueState C) (entry : Entry C) (rest : List (Entry C)) → q.waiting ≡ entry ∷ rest → q.down ≡ true → IsRead setup q
      → Parts setup (Sweep (record { request = entry.request; queue = q.id })) q (record q { waiting = rest })
  unfolding priority_at
  swept setup q entry rest was down read =
      let on : (q.id.0 == q.id.0) ≡ true = eq-eqb q.id.0 q.id.0 refl in
      let view : List RequestId → QueueView = λ waits. record (view_of q) { waiting = waits } in
      let waits : map request_of q.waiting ≡ waiting setup q.id.0 (past_of q) = ap (λ v. v.waiting) read.view in
      record {
        view = ap view (sym (stay q [] entry rest was read.once)) ∙ ap (λ b. view (without (if b then Some entry.request else None) (map request_of q.waiting))) (sym on);
        stand = λ clients. refl;
        met = record {
          down = ap (λ v. v.down) (sym read.view) ∙ down;
          oldest = ap (λ l. slice_get l 0) (sym waits ∙ ap (map request_of) was);
        };
        ordered = tt;
        priorities = All-tail (λ x. priority_at (past_of q) x.request ≡ x.priority) entry rest (subst (All (λ x. priority_at (past_of q) x.request ≡ x.priority)) was read.priorities);
        once = once_stay q [] entry rest was read.once;
      }
