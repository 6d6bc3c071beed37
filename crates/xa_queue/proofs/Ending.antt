-- A server is given up, the queue goes down, or it is closed: it reads as its events do with one of these more.
use Rattle.std.proofs.Common.{◌≡◌, ℕ, ◌<◌, ◌==◌, ◌||◌, Bool, true, false, List, [], ◌∷◌, map, reverse, Some, None, inl, inr, refl, sym, ◌∙◌, ap, arith, eq-eqb, eqb-true}
use Rattle.std.specs.Prelude.{if◌then◌else◌}
use Rattle.std.specs.List.{filter_map, list_any, cons_option}
use Rattle.std.proofs.lemmas.Bool.{cases_Bool, and_parts, or_left, false≢true}
use Rattle.std.proofs.lemmas.List.{map-append, reverse-append}
use Rattle.xa_types.specs.declared.ids.ServerId.{ServerId}
use Rattle.xa_types.specs.declared.setup.Setup.{Setup}
use Rattle.xa_types.specs.Setup.{queue_of}
use Rattle.xa_events.specs.declared.event.Event.{Event}
use Rattle.xa_events.specs.declared.event.Event.TheVariants.{Gone, Down, Close}
use Rattle.xa_events.specs.Request.{priority_at}
use Rattle.xa_events.specs.Server.{is_gone, is_gone_of}
use Rattle.xa_events.specs.Homes.Home.{QueueHome}
use Rattle.xa_events.specs.Views.{QueueView, gone_from}
use Rattle.xa_queue.specs.Queue.{QueueState, past_of, has_server, all_gone, none_left}
use Rattle.xa_queue.specs.Changes.{with_gone}
use Rattle.xa_queue.specs.Reading.{Fits, IsRead, view_of}
use Rattle.xa_queue.proofs.Waiting.{eqb-flips, list_any-map, list_any-reverse}
use Rattle.xa_queue.proofs.OneMore.{Parts}

-- a server of the queue is given up where it is among those of the view
gone_one : (setup : Setup) (queue server : ℕ) → queue_of setup server ≡ queue → (e : Event) (rest : List ℕ) → list_any (λ gone. server == gone) (cons_option (gone_from setup queue e) rest) ≡ (is_gone_of server e || list_any (λ gone. server == gone) rest)
gone_one setup queue server at (Gone s) rest =
    elim (cases_Bool (queue_of setup s.0 == queue)) [
      | inl so ↦ ap (λ b. list_any (λ gone. server == gone) (cons_option (if b then Some s.0 else None) rest)) so ∙ ap (λ b. b || list_any (λ gone. server == gone) rest) (eqb-flips server s.0)
      | inr not_so ↦ ap (λ b. list_any (λ gone. server == gone) (cons_option (if b then Some s.0 else None) rest)) not_so ∙ sym (ap (λ b. b || list_any (λ gone. server == gone) rest) (other s.0 not_so))
    ]
  where
    other : (s : ℕ) → (queue_of setup s == queue) ≡ false → (s == server) ≡ false
    other s not_so = elim (cases_Bool (s == server)) [
      | inl so ↦ let on = eq-eqb (queue_of setup s) queue (ap (queue_of setup) (eqb-true s server so) ∙ at) in absurd (false≢true (sym not_so ∙ on))
      | inr apart ↦ apart
    ]
gone_one setup queue server at _ rest = refl

gone_read : (setup : Setup) (queue server : ℕ) → queue_of setup server ≡ queue → (past : List Event) → list_any (λ gone. server == gone) (filter_map (gone_from setup queue) past) ≡ is_gone server past
unfolding is_gone
gone_read setup queue server at [] = refl
gone_read setup queue server at (e ∷ past) = gone_one setup queue server at e (filter_map (gone_from setup queue) past) ∙ ap (λ b. is_gone_of server e || b) (gone_read setup queue server at past)

-- each server of the queue is given up
pub is_among : (server : ℕ) (gone servers : List ServerId) → all_gone gone servers ≡ true → list_any (λ own. server == own.0) servers ≡ true → list_any (λ g. server == g.0) gone ≡ true
is_among server gone [] all own = absurd (false≢true own)
is_among server gone (s ∷ servers) all own =
    let parts = and_parts (has_server s gone) (all_gone gone servers) all in
    elim (cases_Bool (server == s.0)) [
      | inl so ↦ ap (λ n. list_any (λ g. n == g.0) gone) (eqb-true server s.0 so) ∙ parts.0
      | inr not_so ↦ is_among server gone servers parts.1 (sym (ap (λ b. b || list_any (λ own. server == own.0) servers) not_so) ∙ own)
    ]

module _ {C : Type 0} where
  -- a server of the queue is given up by its events where it is so in its table
  is_gone-read : (setup : Setup) (q : QueueState C) (server : ℕ) → queue_of setup server ≡ q.id.0 → IsRead setup q → is_gone server (past_of q) ≡ list_any (λ gone. server == gone.0) q.gone
  is_gone-read setup q server at read =
      sym (gone_read setup q.id.0 server at (past_of q)) ∙ ap (λ v. list_any (λ gone. server == gone) v.gone) (sym read.view)
      ∙ list_any-reverse (λ gone. server == gone) (map (λ s. s.0) q.gone) ∙ list_any-map (λ gone. server == gone) (λ (s : ServerId). s.0) q.gone

  pub gave_up : (setup : Setup) (q : QueueState C) (server : ServerId) → 0 < q.id.0 → has_server server q.servers ≡ true → has_server server q.gone ≡ false → Fits setup q → IsRead setup q → Parts setup (Gone server) q (with_gone server q)
  unfolding priority_at
  gave_up setup q server known own left fits read =
      let on : (queue_of setup server.0 == q.id.0) ≡ true = fits.servers server.0 ∙ own in
      let at : queue_of setup server.0 ≡ q.id.0 = eqb-true _ _ on in
      let view : List ℕ → QueueView = λ gone. record (view_of q) { gone = gone } in
      let number : ServerId → ℕ = λ s. s.0 in
      record {
        view = ap view (ap reverse (map-append number q.gone (server ∷ [])) ∙ reverse-append (map number q.gone) (server.0 ∷ []))
            ∙ ap (λ b. view (cons_option (if b then Some server.0 else None) (reverse (map number q.gone)))) (sym on);
        stand = λ clients. ap QueueHome at;
        met = record { known = omega (arith, known, at); not_gone = is_gone-read setup q server.0 at read ∙ left };
        ordered = tt;
        priorities = read.priorities;
        once = read.once;
      }

  pub went_down : (setup : Setup) (q : QueueState C) → 0 < q.capacity → none_left q ≡ true → q.down ≡ false → Fits setup q → IsRead setup q → Parts setup (Down q.id) q (record q { down = true })
  unfolding priority_at
  went_down setup q some deserted up fits read =
      let on : (q.id.0 == q.id.0) ≡ true = eq-eqb q.id.0 q.id.0 refl in
      let view : Bool → QueueView = λ down. record (view_of q) { down = down } in
      record {
        view = ap view (sym (or_left (q.id.0 == q.id.0) q.down on));
        stand = λ clients. refl;
        met = record {
          known = let fit = fits.capacity in omega (arith, some, fit);
          not_down = ap (λ v. v.down) (sym read.view) ∙ up;
          gone = λ server low high at. is_gone-read setup q server at read ∙ is_among server q.gone q.servers deserted (sym (fits.servers server) ∙ eq-eqb _ _ at);
        };
        ordered = tt;
        priorities = read.priorities;
        once = read.once;
      }

  pub was_closed : (setup : Setup) (q : QueueState C) → 0 < q.capacity → q.closed ≡ false → Fits setup q → IsRead setup q → Parts setup (Close q.id) q (record q { closed = true })
  unfolding priority_at
  was_closed setup q some unshut fits read =
      let on : (q.id.0 == q.id.0) ≡ true = eq-eqb q.id.0 q.id.0 refl in
      let view : Bool → QueueView = λ closed. record (view_of q) { closed = closed } in
      record {
        view = ap view (sym (or_left (q.id.0 == q.id.0) q.closed on));
        stand = λ clients. refl;
        met = record {
          known = let fit = fits.capacity in omega (arith, some, fit);
          not_closed = ap (λ v. v.closed) (sym read.view) ∙ unshut;
        };
        ordered = tt;
        priorities = read.priorities;
        once = read.once;
      }
