-- What is read off a row, by the view that it shows.
use Rattle.std.proofs.Common.{◌≡◌, if◌then◌else◌, option_map, ℕ, suc, List, [], ◌∷◌, length, map, reverse, Option, Some, None, refl, sym, ◌∙◌, ap}
use Rattle.std.proofs.lemmas.List.{reverse-reverse, length-reverse}
use Rattle.xa_types.specs.declared.setup.Setup.{Setup}
use Rattle.xa_types.specs.declared.call.Mode.{Mode}
use Rattle.xa_types.specs.declared.setup.ServiceSetup.{ServiceSetup}
use Rattle.xa_types.specs.Setup.{service_named}
use Rattle.xa_types.specs.Rows.{Change, row_with, row_for}
use Rattle.xa_events.specs.declared.event.Event.{Event}
use Rattle.xa_events.specs.declared.event.Event.TheVariants.{End, Accept, Forward}
use Rattle.xa_events.specs.Words.{latest, same_request}
use Rattle.xa_events.specs.Board.{boot, changes, published}
use Rattle.xa_events.specs.Server.{doing, was_shut_down, last_outcome, outcome_in, moves_server}
use Rattle.std.proofs.Common.{Bool, true, false, cond}
use Rattle.xa_types.specs.declared.ids.RequestId.{RequestId}
use Rattle.xa_events.specs.Request.{priority_at, is_entry_of, priority_in, is_accept_of, SentAs, sent_as}
use Rattle.xa_events.specs.Caller.{next_priority}
use Rattle.xa_events.specs.Views.{server_view, queue_view, caller_view}
use Rattle.xa_machine.specs.declared.served.ServerRow.{ServerRow}
use Rattle.xa_machine.specs.declared.queued.QueueRow.{QueueRow}
use Rattle.xa_machine.specs.declared.caller.CallerRow.{CallerRow}
use Rattle.xa_machine.specs.declared.tables.BoardChange.{BoardChange}
use Rattle.xa_machine.specs.Tables.{last_by, ServerShows, QueueShows, CallerShows}
use Rattle.xa_machine.specs.Shown.{change_of}
use Rattle.xa_machine.specs.Here.{mode_in, mode_at}
use Rattle.xa_machine.specs.Reads.{last_as, ServerReads, QueueReads, CallerReads}

last_is : (o : Option Event) → last_by o ≡ last_as (outcome_in o)
last_is None = refl
last_is (Some (End e)) = refl
last_is (Some _) = refl

pub server_reads : (server : ℕ) (past : List Event) (row : ServerRow) → ServerShows row (server_view server past) → ServerReads server past row
unfolding doing was_shut_down last_outcome
server_reads server past row shows = record {
  doing = shows.doing;
  last = shows.last ∙ last_is (latest (moves_server server) past);
  starts = ap reverse shows.starts ∙ reverse-reverse _;
  gone = shows.gone;
  shut = shows.shut;
}

pub queue_reads : (setup : Setup) (queue : ℕ) (past : List Event) (row : QueueRow) → QueueShows row (queue_view setup queue past) → QueueReads setup queue past row
queue_reads setup queue past row shows = record { waiting = shows.waiting; takes = shows.takes; down = shows.down; closed = shows.closed }

pub caller_reads : (setup : Setup) (clients caller : ℕ) (past : List Event) (row : CallerRow) → CallerShows (boot setup) row (caller_view clients caller past) → CallerReads setup clients caller past row
unfolding next_priority
caller_reads setup clients caller past row shows = record {
  op = shows.op;
  just = shows.just;
  accepted = shows.accepted;
  descriptors = shows.descriptors;
  unanswered = shows.unanswered;
  version = shows.version;
  tick = shows.tick;
  left = shows.left;
  leaving = shows.leaving;
  asked = shows.asked;
  connections = shows.connections;
  broken = shows.broken;
  hand_closed = shows.hand_closed;
}

length_mapped : {X Y : Type 0} (f : X → Y) (xs : List X) → length (map f xs) ≡ length xs
length_mapped f [] = refl
length_mapped f (x ∷ xs) = ap (λ n. suc n) (length_mapped f xs)

pub published_is : (board : List BoardChange) (past : List Event) → map change_of board ≡ reverse (changes past) → length board ≡ published past
unfolding published
published_is board past h = sym (length_mapped change_of board) ∙ (ap length h ∙ length-reverse (changes past))

pub boot_is : (booting : List BoardChange) (all : List Change) → map change_of booting ≡ all → length booting ≡ length all
boot_is booting all h = sym (length_mapped change_of booting) ∙ ap length h

pub priority_none : (request : RequestId) → 0 ≡ priority_at [] request
unfolding priority_at
priority_none request = refl

made_of : (b : Bool) (e : Event) (old : Option Event) (n : ℕ) → n ≡ priority_in old → cond b (priority_in (Some e)) n ≡ priority_in (cond b (Some e) old)
made_of true e old n h = refl
made_of false e old n h = h

pub priority_more : (request : RequestId) (e : Event) (past : List Event) (n : ℕ) → n ≡ priority_at past request → cond (is_entry_of request e) (priority_in (Some e)) n ≡ priority_at (e ∷ past) request
unfolding priority_at
priority_more request e past n h = made_of (is_entry_of request e) e (latest (is_entry_of request) past) n h

pub priority_stops : (request : RequestId) (e : Event) (past : List Event) → is_entry_of request e ≡ true → priority_at (e ∷ past) request ≡ priority_in (Some e)
priority_stops request e past h = sym (priority_more request e past (priority_at past request) refl) ∙ ap (λ b. cond b (priority_in (Some e)) (priority_at past request)) h

pub priority_skips : (request : RequestId) (e : Event) (past : List Event) → is_entry_of request e ≡ false → priority_at (e ∷ past) request ≡ priority_at past request
priority_skips request e past h = sym (priority_more request e past (priority_at past request) refl) ∙ ap (λ b. cond b (priority_in (Some e)) (priority_at past request)) h

-- ---- the mode of a request

pub mode_none : (request : RequestId) → None ≡ option_map (λ (sent : SentAs). sent.mode) (sent_as request [])
unfolding sent_as
mode_none request = refl

accept_mode : (b : Bool) (sent : SentAs) (before : Option SentAs) (m : Option Mode) → m ≡ option_map (λ (s : SentAs). s.mode) before
    → cond b (Some sent.mode) m ≡ option_map (λ (s : SentAs). s.mode) (if b then Some sent else before)
accept_mode true sent before m h = refl
accept_mode false sent before m h = h

forward_mode : (b : Bool) (f : SentAs → SentAs) → ((s : SentAs) → (f s).mode ≡ s.mode) → (before : Option SentAs) (m : Option Mode) → m ≡ option_map (λ (s : SentAs). s.mode) before
    → m ≡ option_map (λ (s : SentAs). s.mode) (if b then option_map f before else before)
forward_mode true f same None m h = h
forward_mode true f same (Some s) m h = h ∙ ap Some (sym (same s))
forward_mode false f same before m h = h

pub mode_more : (request : RequestId) (e : Event) (past : List Event) (m : Option Mode) → m ≡ option_map (λ (sent : SentAs). sent.mode) (sent_as request past)
    → cond (is_accept_of request e) (mode_in e) m ≡ option_map (λ (sent : SentAs). sent.mode) (sent_as request (e ∷ past))
unfolding sent_as
mode_more request (Accept a) past m h = accept_mode (same_request a.request request) _ (sent_as request past) m h
mode_more request (Forward f) past m h = forward_mode (same_request f.request request) _ (λ s. refl) (sent_as request past) m h
mode_more request _ past m h = h

pub mode_stops : (request : RequestId) (e : Event) (past : List Event) → is_accept_of request e ≡ true → mode_at request (e ∷ past) ≡ mode_in e
mode_stops request e past h = sym (mode_more request e past (mode_at request past) refl) ∙ ap (λ b. cond b (mode_in e) (mode_at request past)) h

pub mode_skips : (request : RequestId) (e : Event) (past : List Event) → is_accept_of request e ≡ false → mode_at request (e ∷ past) ≡ mode_at request past
mode_skips request e past h = sym (mode_more request e past (mode_at request past) refl) ∙ ap (λ b. cond b (mode_in e) (mode_at request past)) h

-- ---- the priority that a service has of its own

own_same : (o : Option ServiceSetup) (service : List ℕ) (queue : ℕ) (a b : List ℕ) → (row_with o service queue a).priority ≡ (row_with o service queue b).priority
own_same None service queue a b = refl
own_same (Some configured) service queue a b = refl

pub own_is : (setup : Setup) (service : List ℕ) (queue : ℕ) (a b : List ℕ) → (row_for setup service queue a).priority ≡ (row_for setup service queue b).priority
own_is setup service queue a b = own_same (service_named setup service) service queue a b
