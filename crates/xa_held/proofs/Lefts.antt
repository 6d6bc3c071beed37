-- Servers that are given up, as the machine has it.
use Rattle.std.proofs.Common.{◌≡◌, ℕ, ◌<◌, ◌≤◌, ◌==◌, ◌||◌, true, List, [], ◌∷◌, ◌++◌, map, reverse, refl, sym, ap, ◌∙◌, arith, eq-eqb, eqb-true, Ok, false, subst}
use Rattle.xa_held.proofs.Seen.{events_kept, events_more, sees_left, gone_seen}
use Rattle.xa_held.specs.Visits.{Visits}
use Rattle.xa_held.specs.Steps.{GaveUpAs}
use Rattle.xa_queue.specs.declared.told.GivenUp.{GivenUp}
use Rattle.xa_worker.proofs.Lists.{past_in-append}
use Rattle.xa_types.specs.declared.ids.CallerId.{CallerId}
use Rattle.std.specs.List.{flat_map, list_any, All}
use Rattle.std.specs.Cmp.Derive.{both_true}
use Rattle.std.proofs.lemmas.Bool.{or_left, or_right, false≢true}
use Rattle.std.proofs.lemmas.Grind.{flat_map-append}
use Rattle.std.proofs.lemmas.List.{map-append}
use Rattle.std.proofs.lemmas.List.Elements.{All-weaker}
use Rattle.xa_types.specs.declared.ids.ServerId.{ServerId}
use Rattle.xa_types.specs.declared.setup.Setup.{Setup}
use Rattle.xa_types.specs.declared.stamp.Stamp.{Stamp}
use Rattle.xa_types.specs.Setup.{queue_of}
use Rattle.xa_events.specs.declared.event.Event.{Event}
use Rattle.xa_events.specs.declared.event.Event.TheVariants.{Gone}
use Rattle.xa_events.specs.Server.{AllGone, is_gone, is_gone_of}
use Rattle.xa_events.proofs.There.{known_server}
use Rattle.xa_stamp.specs.declared.home.Stamped.{Stamped}
use Rattle.xa_lock.specs.declared.makers.Made.{Made}
use Rattle.xa_lock.specs.declared.pass.Page.{Page}
use Rattle.xa_lock.specs.Pages.{StartsWith}
use Rattle.xa_lock.specs.Makers.{noted_in}
use Rattle.xa_worker.specs.Seen.{past_in, SawFront}
use Rattle.xa_queue.specs.Queue.{IsSound, gives_up, has_server, all_gone, none_left}
use Rattle.xa_queue.proofs.Ending.{is_among}
use Rattle.xa_queue.proofs.Waiting.{eqb-flips, list_any-reverse}
use Rattle.xa_held.specs.declared.kept_queue.QueueNote.{QueueNote}
use Rattle.xa_held.specs.declared.kept_queue.QueueNote.TheVariants.{Opened, By}
use Rattle.xa_held.specs.Notes.{events_in, made_of, told}
use Rattle.xa_held.specs.Kept.{Kept, setting_of}
use Rattle.xa_held.specs.Joins.{events_at, HasServers, SawLeft}

gone_one : (server : ℕ) (e : Event) (rest : List ServerId) → list_any (λ g. server == g.0) (gives_up e ++ rest) ≡ (is_gone_of server e || list_any (λ g. server == g.0) rest)
gone_one server (Gone s) rest = ap (λ b. b || list_any (λ g. server == g.0) rest) (eqb-flips server s.0)
gone_one server _ rest = refl

gone_read : (server : ℕ) (events : List Event) → list_any (λ g. server == g.0) (flat_map gives_up events) ≡ list_any (is_gone_of server) events
gone_read server [] = refl
gone_read server (e ∷ events) = gone_one server e (flat_map gives_up events) ∙ ap (λ b. is_gone_of server e || b) (gone_read server events)

-- events that give up each of these servers leave none at a queue that has them
all_gone-read : (setup : Setup) (queue : ℕ) (servers : List ServerId) (events : List Event) → HasServers setup queue servers → all_gone (flat_map gives_up events) servers ≡ true → AllGone setup queue (reverse events)
unfolding is_gone
all_gone-read setup queue servers events has all = λ server low high at.
    list_any-reverse (is_gone_of server) events ∙ sym (gone_read server events) ∙ is_among server (flat_map gives_up events) servers all (sym (has server) ∙ eq-eqb (queue_of setup server) queue at)

events_in-at : (A : Type 0) (notes : List (QueueNote A)) → events_in notes ≡ map (λ (noted : Stamped). noted.event) (events_at notes)
events_in-at A [] = refl
events_in-at A (Opened s ∷ notes) = events_in-at A notes
events_in-at A (By m ∷ notes) = ap (λ (l : List Event). m.noted.event ∷ l) (events_in-at A notes)

pub kept_gone : {A : Type 0} (setup : Setup) (k : Kept A) → IsSound k.queue → none_left k.queue ≡ true → HasServers setup k.queue.id.0 k.queue.servers → AllGone setup k.queue.id.0 (past_in (noted_in k.queue.entries))
kept_gone setup k sound none has =
    all_gone-read setup k.queue.id.0 k.queue.servers (map (λ (noted : Stamped). noted.event) (noted_in k.queue.entries)) has (ap (λ l. all_gone l k.queue.servers) (sym sound.given_up) ∙ none)

-- and a queue each of whose servers its events give up has none left
each_gone : (gone servers : List ServerId) → ((s : ServerId) → has_server s servers ≡ true → has_server s gone ≡ true) → all_gone gone servers ≡ true
each_gone gone [] all = refl
each_gone gone (s ∷ servers) all =
    both_true (all s (or_left (s.0 == s.0) (has_server s servers) (eq-eqb s.0 s.0 refl))) (each_gone gone servers (λ t among. all t (or_right (t.0 == s.0) (has_server t servers) among)))

pub none_kept : {A : Type 0} (setup : Setup) (k : Kept A) → IsSound k.queue → 0 < k.queue.id.0 → HasServers setup k.queue.id.0 k.queue.servers → AllGone setup k.queue.id.0 (past_in (noted_in k.queue.entries)) → none_left k.queue ≡ true
unfolding is_gone
none_kept setup k sound some has all =
    let events : List Event = map (λ (noted : Stamped). noted.event) (noted_in k.queue.entries) in
    each_gone k.queue.gone k.queue.servers (λ s among.
    let at : queue_of setup s.0 ≡ k.queue.id.0 = eqb-true (queue_of setup s.0) k.queue.id.0 (has s.0 ∙ among) in
    let here = known_server setup s.0 (omega (arith, some, at)) in
    ap (list_any (λ g. s.0 == g.0)) sound.given_up ∙ gone_read s.0 events ∙ sym (list_any-reverse (is_gone_of s.0) events) ∙ all s.0 here.0 here.1 at)

pub seen_gone : {A : Type 0} (setup : Setup) (queue : ℕ) (seen : Stamp) (p : Page (QueueNote A)) → SawLeft setup queue seen p → AllGone setup queue (past_in (events_at p.seen))
seen_gone {A} setup queue seen p left =
    all_gone-read setup queue left.its.servers (map (λ (noted : Stamped). noted.event) (events_at p.seen)) left.servers (ap (λ l. all_gone (flat_map gives_up l) left.its.servers) (sym (events_in-at A p.seen)) ∙ left.gone)

pub events_front : (A : Type 0) (now seen : List (QueueNote A)) → StartsWith now seen → StartsWith (events_at now) (events_at seen)
events_front A now seen begins =
    let made : List (QueueNote A) → List Made = λ notes. flat_map (made_of {A = A}) notes in
    let bare : Made → Stamped = λ (z : Made). z.noted in
    (noted_in (made begins.0), ap (λ l. noted_in (made l)) begins.1 ∙ ap noted_in (flat_map-append (made_of {A = A}) seen begins.0) ∙ map-append bare (made seen) (made begins.0))

pub gone_front : {A : Type 0} (setup : Setup) (queue : ℕ) (seen stamp : Stamp) (p : Page (QueueNote A)) (now : List (QueueNote A)) → SawLeft setup queue seen p → StartsWith now p.seen → seen.0 < stamp.0 → SawFront (events_at now) stamp (AllGone setup queue)
gone_front {A} setup queue seen stamp p now left begins less = record {
  front = events_at p.seen;
  stands = events_front A now p.seen begins;
  before = All-weaker (λ (x : Stamped). x.stamp.0 ≤ seen.0) (λ (x : Stamped). x.stamp.0 < stamp.0) (λ x low. omega (arith, low, less)) (events_at p.seen) left.reached;
  shows = seen_gone setup queue seen p left;
}

-- the newest event gives the server up
gone_now : (s : ServerId) (e : Event) (past : List Event) → e ≡ Gone s → is_gone s.0 (e ∷ past) ≡ true
unfolding is_gone
gone_now s e past is = ap (λ (x : Event). list_any (is_gone_of s.0) (x ∷ past)) is ∙ or_left (s.0 == s.0) (list_any (is_gone_of s.0) past) (eq-eqb s.0 s.0 refl)

-- a pass that gave a server up saw whether any other is left
module _ {A : Type 0} {p p' : Page (QueueNote A)} (seen : Stamp) (maker : CallerId) (server : ServerId) (done : GivenUp) (left : GaveUpAs (Visits p p') seen maker server (Ok done)) (setup : Setup) (queue : ℕ) (id : left.new.queue.id.0 ≡ queue) (servers : HasServers setup queue left.new.queue.servers) where
  pub saw_left : (stamp : Stamp) → All (λ (x : Stamped). x.stamp.0 ≤ stamp.0) (events_at p'.seen) → done.last ≡ true → SawLeft setup queue stamp p'
  saw_left stamp reached last_one = record {
    its = setting_of left.new;
    sees = sees_left left;
    is = id;
    servers = servers;
    gone = ap (λ l. all_gone l left.new.queue.servers) (gone_seen left) ∙ sym left.how.1 ∙ last_one;
    reached = reached;
  }

  pub saw_others : 0 < queue → done.last ≡ false → (is_gone server.0 (past_in (events_at p'.seen)) ≡ true) × (AllGone setup queue (past_in (events_at p'.seen)) → ⊥)
  saw_others some not_last =
      let found : List Stamped = noted_in left.old.queue.entries in
      let now : events_at p'.seen ≡ noted_in left.new.queue.entries = ap events_at left.saw ∙ events_kept left.new in (
        ap (λ l. is_gone server.0 (past_in l)) (events_more left) ∙ ap (is_gone server.0) (past_in-append found (noted_in (told maker done.noted))) ∙ gone_now server done.noted.event.value (past_in found) left.how.0.event_is,
        λ all. false≢true (sym not_last ∙ left.how.1 ∙ none_kept setup left.new left.sound (omega (arith, id, some)) (subst (λ n. HasServers setup n left.new.queue.servers) (sym id) servers)
            (subst (λ n. AllGone setup n (past_in (noted_in left.new.queue.entries))) (sym id) (subst (λ l. AllGone setup queue (past_in l)) now all))),
      )
