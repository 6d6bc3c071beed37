-- What a pass of a queue saw, as its worker may show it in the end.
use Rattle.std.proofs.Common.{◌≡◌, ◌≢◌, ◌≤◌, ◌<◌, ℕ, ◌==◌, ◌&&◌, Bool, true, false, List, [], ◌∷◌, ◌++◌, map, inl, inr, sym, ◌∙◌, ap, subst, arith}
use Rattle.std.proofs.Math.Bool.{and-false}
use Rattle.xa_server.specs.xa_lock.declared.pass.Page.{Page}
use Rattle.xa_server.specs.xa_held.Visits.{Visits}
use Rattle.xa_server.proofs.xa_held.Seen.{events_kept}
use Rattle.xa_server.proofs.xa_held.Counting.{own_counted}
use Rattle.std.specs.List.{All, filter, flat_map, Contains}
use Rattle.std.proofs.lemmas.Bool.{cases_Bool, ne_eqb, and_parts, and_from}
use Rattle.std.proofs.lemmas.Grind.{flat_map-append}
use Rattle.std.proofs.lemmas.List.Elements.{All-weaker, All-contains, All-contains_itself, Contains-append_left}
use Rattle.xa_server.specs.xa_types.declared.ids.RequestId.{RequestId}
use Rattle.xa_server.specs.xa_types.declared.setup.Setup.{Setup}
use Rattle.xa_server.specs.xa_types.Setup.{capacity_of, queue_of}
use Rattle.xa_server.specs.xa_events.declared.event.Event.{Event}
use Rattle.xa_server.specs.xa_events.Homes.{of_worker, at_home, is_own_at, is_take_by}
use Rattle.xa_server.specs.xa_events.Homes.Home.{QueueHome}
use Rattle.xa_server.specs.xa_events.Queue.{is_down, is_closed, waiting}
use Rattle.xa_server.specs.xa_events.State.{caller_of}
use Rattle.xa_server.specs.xa_events.Views.{QueueView}
use Rattle.xa_server.specs.xa_events.Words.{count}
use Rattle.xa_server.specs.xa_stamp.declared.home.Stamped.{Stamped}
use Rattle.xa_server.specs.xa_lock.declared.makers.Made.{Made}
use Rattle.xa_server.specs.xa_lock.Known.{known as page_of}
use Rattle.xa_server.specs.xa_lock.Makers.{maker_of as made_maker, noted_in}
use Rattle.xa_server.specs.xa_lock.Pages.{Knows}
use Rattle.xa_server.specs.xa_worker.Crew.{MayNote, stands_at}
use Rattle.xa_server.specs.xa_types.declared.stamp.Stamp.{Stamp}
use Rattle.xa_server.specs.xa_worker.Seen.{past_in, SawFront, IfNew}
use Rattle.xa_server.proofs.xa_worker.Before.{take_at_queue, take_by_worker}
use Rattle.xa_server.proofs.xa_worker.Lists.{count_part}
use Rattle.xa_server.specs.xa_queue.Reading.{AllNew, Fits}
use Rattle.xa_server.specs.xa_held.declared.kept_queue.QueueNote.{QueueNote}
use Rattle.xa_server.specs.xa_held.declared.kept_queue.QueueNote.TheVariants.{Opened, By}
use Rattle.xa_server.specs.xa_held.declared.kept_queue.Setting.{Setting}
use Rattle.xa_server.specs.xa_held.Joins.{events_at}
use Rattle.xa_server.specs.xa_held.Kept.{Kept, setting_of}
use Rattle.xa_server.specs.xa_held.Notes.{made_of, made_page}
use Rattle.xa_server.proofs.xa_held.Front.{made_in-notes}
use Rattle.xa_server.proofs.xa_worker.Noting.{not_theirs}
use Rattle.xa_server.specs.xa_caller.declared.cargo.Filling.{Filling}
use Rattle.xa_desk.specs.declared.domain.Domain.{Domain}
use Rattle.xa_desk.specs.declared.desk.Desk.{Desk}
use Rattle.xa_desk.specs.Whole.{Whole, entries_of}
use Rattle.xa_desk.specs.Desks.{IsQueuePass, IsSettingOf, GoesOn, IsDesk}
use Rattle.xa_desk.specs.Found.{SawAtQueue}
use Rattle.xa_desk.proofs.Visiting.{QueuePass, HasPass, front_at, seen_front, its_pass}

abbrev head_of : Setting Filling → List (QueueNote Filling) → Setting Filling
head_of default [] = default
head_of default (Opened setting ∷ rest) = setting
head_of default (By made ∷ rest) = default

-- an event that another worker noted isn't one of this worker
pub not_own : (setup : Setup) (clients worker queue maker : ℕ) (e : Event) → 0 < worker → MayNote clients maker e → maker ≢ worker → is_own_at setup clients worker queue e ≡ false
not_own setup clients worker queue maker e some (inl its) apart = ap (λ b. at_home setup clients (QueueHome queue) e && b) (ne_eqb _ worker (λ same. apart (sym its.1 ∙ same))) ∙ and-false (at_home setup clients (QueueHome queue) e)
not_own setup clients worker queue maker e some (inr domain) apart = ap (λ b. at_home setup clients (QueueHome queue) e && b) (not_theirs clients worker e some domain) ∙ and-false (at_home setup clients (QueueHome queue) e)

-- what fails a test fails one that asks no less
not_so : {X : Type 0} (p q : X → Bool) → ((x : X) → p x ≡ true → q x ≡ true) → (x : X) → q x ≡ false → p x ≡ false
not_so p q more x fails = elim (cases_Bool (p x)) [ inl y ↦ let is = more x y in absurd (cc (is, fails)) | inr n ↦ n ]

-- the events of a worker at a queue, among its own
pub count_theirs : (setup : Setup) (clients worker queue : ℕ) (past : List Event) → count (is_own_at setup clients worker queue) (filter (of_worker clients worker) past) ≡ count (is_own_at setup clients worker queue) past
count_theirs setup clients worker queue past = count_part (is_own_at setup clients worker queue) (of_worker clients worker) (λ e both. (and_parts (at_home setup clients (QueueHome queue) e) (of_worker clients worker e) both).1) past

module _ {d : Domain} {queue k : ℕ} {desk : Desk} {pass : QueuePass} (is : IsDesk d desk) (has : HasPass d queue k desk pass) where
  its : IsQueuePass d desk.caller.work k pass
  its = its_pass has is

  -- what holds of all that the pass saw was seen at the queue
  pub front_there : (P : List Event → Type 0) → ((whole : Whole) → GoesOn d whole desk → P (past_in (events_at (page_of pass).seen)))
      → (whole : Whole) → GoesOn d whole desk → (stamp : Stamp) → desk.caller.work.stamp.0 < stamp.0 → SawFront (entries_of whole (QueueHome queue)) stamp P
  front_there P holds whole on stamp less = record {
    front = events_at (page_of pass).seen;
    stands = seen_front has whole on;
    before = All-weaker (λ (x : Stamped). x.stamp.0 ≤ desk.caller.work.stamp.0) (λ (x : Stamped). x.stamp.0 < stamp.0) (λ x low. omega (arith, low, less)) (events_at (page_of pass).seen) its.reached;
    shows = holds whole on;
  }

  pub saw_there : (P : List Event → Type 0) → IfNew d.setup queue P (past_in (events_at (page_of pass).seen)) → SawAtQueue d queue desk P
  saw_there P holds = front_there (IfNew d.setup queue P) (λ whole on. holds)

  -- the queue that the pass left
  module _ {p : Page (QueueNote Filling)} {more : List Made} {How : Kept Filling → Kept Filling → Type 0} (visits : Visits p (page_of pass) more How) where
    abbrev kept : Kept Filling
    kept = visits.new

    pub setting : IsSettingOf d queue (setting_of visits.new)
    setting = subst (IsSettingOf d queue) (sym (ap (head_of its.its) (sym visits.saw ∙ its.sees.seen))) (subst (λ n. IsSettingOf d n its.its) (sym has.at) its.is)

    seen_is : events_at (page_of pass).seen ≡ noted_in kept.queue.entries
    seen_is = ap events_at visits.saw ∙ events_kept kept

    fits : Fits d.setup kept.queue
    fits = record {
      capacity = ap (capacity_of d.setup) setting.id ∙ sym setting.capacity;
      servers = λ server. ap (λ n. queue_of d.setup server == n) setting.id ∙ setting.servers server;
    }

    -- how it reads is how what the pass saw does
    read_there : (A : Type 0) (read : ℕ → List Event → A) → read kept.queue.id.0 (past_in (noted_in kept.queue.entries)) ≡ read queue (past_in (events_at (page_of pass).seen))
    read_there A read = ap (λ n. read n (past_in (noted_in kept.queue.entries))) setting.id ∙ ap (λ l. read queue (past_in l)) (sym seen_is)

    pub down_seen : visits.new.queue.down ≡ true → is_down queue (past_in (events_at (page_of pass).seen)) ≡ true
    down_seen down = sym (read_there Bool is_down) ∙ sym visits.sound.fallen ∙ down

    pub closed_seen : {b : Bool} → visits.new.queue.closed ≡ b → is_closed queue (past_in (events_at (page_of pass).seen)) ≡ b
    closed_seen closed = sym (read_there Bool is_closed) ∙ sym visits.sound.shut ∙ closed

    -- what waits there is read off what the pass saw, if no request was sent there while it waited there
    pub waits : AllNew d.setup queue (past_in (events_at (page_of pass).seen)) → map (λ entry. entry.request) visits.new.queue.waiting ≡ waiting d.setup queue (past_in (events_at (page_of pass).seen))
    waits new =
        let its_new : AllNew d.setup kept.queue.id.0 (past_in (noted_in kept.queue.entries)) =
        subst (λ n. AllNew d.setup n (past_in (noted_in kept.queue.entries))) (sym setting.id) (subst (λ l. AllNew d.setup queue (past_in l)) seen_is new) in
        ap (λ (v : QueueView). v.waiting) (visits.reads.reads d.setup fits its_new).view ∙ read_there (List RequestId) (waiting d.setup)

    -- of the worker's own events at the queue the pass saw all that pass such a test
    pub some_seen : (p : Event → Bool) → ((e : Event) → p e ≡ true → is_own_at d.setup d.clients desk.caller.work.id.0 queue e ≡ true) → 0 < desk.caller.work.id.0 → Knows made_maker (made_page (page_of pass)) visits.new.queue.entries
        → (whole : Whole) → GoesOn d whole desk → count p (past_in (events_at (page_of pass).seen)) ≡ count p (past_in desk.caller.work.own)
    some_seen p its_own some knows whole on =
        let id : ℕ = desk.caller.work.id.0 in
        let entries : List Made = kept.queue.entries in
        let made : List (QueueNote Filling) → List Made = λ l. flat_map (made_of {A = Filling}) l in
        let begins = front_at has whole on in
        let whole_is : (whole.queues queue).queue.entries ≡ entries ++ made begins.0 =
        sym (made_in-notes Filling (whole.queues queue).queue.entries) ∙ ap made begins.1 ∙ flat_map-append (made_of {A = Filling}) (page_of pass).seen begins.0 ∙ ap (λ l. made l ++ made begins.0) visits.saw ∙ ap (λ l. l ++ made begins.0) (made_in-notes Filling entries) in
        let May : Made → Type 0 = λ m. MayNote d.clients m.maker.0 m.noted.event in
        let may : All May entries = All-weaker (Contains entries) May (λ m here. All-contains May (entries ++ made begins.0) m (subst (All May) whole_is (on.may queue)) (Contains-append_left entries (made begins.0) m here)) entries (All-contains_itself entries) in
        let others : All (λ (e : Made). made_maker e ≢ id → p e.noted.event ≡ false) entries =
        All-weaker (λ (m : Made). MayNote d.clients m.maker.0 m.noted.event) (λ (e : Made). made_maker e ≢ id → p e.noted.event ≡ false) (λ e may apart. not_so p (is_own_at d.setup d.clients id queue) its_own e.noted.event (not_own d.setup d.clients id queue e.maker.0 e.noted.event some may apart)) entries may in
        ap (λ l. count p (past_in l)) seen_is
        ∙ own_counted d.setup d.clients id queue p (λ e is. (and_parts _ (of_worker d.clients id e) (its_own e is)).0) (made_page (page_of pass)) entries desk.caller.work.own its.maker knows (its.own ∙ ap (λ n. filter (stands_at d.setup d.clients (QueueHome n)) desk.caller.work.own) (sym has.at)) others

    -- all that the worker noted at the queue
    pub own_seen : 0 < desk.caller.work.id.0 → Knows made_maker (made_page (page_of pass)) visits.new.queue.entries → (whole : Whole) → GoesOn d whole desk
        → count (is_own_at d.setup d.clients desk.caller.work.id.0 queue) (past_in (events_at (page_of pass).seen)) ≡ count (is_own_at d.setup d.clients desk.caller.work.id.0 queue) (past_in desk.caller.work.own)
    own_seen = some_seen (is_own_at d.setup d.clients desk.caller.work.id.0 queue) (λ e is. is)

    -- and where it is a server's, of that queue, each request that this took
    pub takes_seen : (server : ℕ) → queue_of d.setup server ≡ queue → caller_of d.clients server ≡ desk.caller.work.id.0 → 0 < desk.caller.work.id.0 → Knows made_maker (made_page (page_of pass)) visits.new.queue.entries
        → (whole : Whole) → GoesOn d whole desk → count (is_take_by server) (past_in (events_at (page_of pass).seen)) ≡ count (is_take_by server) (past_in desk.caller.work.own)
    takes_seen server at number =
        some_seen (is_take_by server) (λ e is. and_from (at_home d.setup d.clients (QueueHome queue) e) (of_worker d.clients desk.caller.work.id.0 e)
        (subst (λ n. at_home d.setup d.clients (QueueHome n) e ≡ true) at (take_at_queue d.setup d.clients server e is)) (subst (λ n. of_worker d.clients n e ≡ true) number (take_by_worker d.clients server e is)))
