-- What a client's calls noted rests on looks.
use Rattle.std.proofs.Common.{◌≡◌, ℕ, ℤ, ◌+◌, ◌≤◌, Bool, true, false, max, length, List, [], ◌∷◌, ◌++◌, append-nil, append_assoc, Option, Some, None, Result, Ok, Err, inl, inr, refl, sym, ◌∙◌, ap, subst, arith}
use Rattle.std.specs.Prelude.{IfSome, IfOk, OnErr}
use Rattle.std.proofs.lemmas.List.Elements.{All-nil, All-cons, All-append, All-weaker}
use Rattle.xa_desk.specs.xa_types.declared.data.Data.{Data}
use Rattle.xa_desk.specs.xa_types.declared.data.Kind.{Kind}
use Rattle.xa_desk.specs.xa_types.declared.fault.Fault.{Fault}
use Rattle.xa_desk.specs.xa_types.declared.fault.Fault.TheVariants.{Inval, NoEnt, IType, Limit, System, Block}
use Rattle.xa_desk.specs.xa_types.declared.ids.QueueId.{QueueId}
use Rattle.xa_desk.specs.xa_types.declared.setup.Setup.{Setup}
use Rattle.xa_desk.specs.xa_types.declared.stamp.Stamp.{Stamp}
use Rattle.xa_desk.specs.xa_types.Found.{FoundRows}
use Rattle.xa_desk.specs.xa_events.declared.event.Event.TheVariants.{Answer, Priority}
use Rattle.xa_desk.specs.xa_events.declared.event.Evidence.{Evidence}
use Rattle.xa_desk.specs.xa_events.declared.event.Evidence.TheVariants.{Version, Cells, Argument, AllDown, Queue}
use Rattle.xa_desk.specs.xa_events.Answers.{answer_to}
use Rattle.xa_desk.specs.xa_events.Caller.{version_in}
use Rattle.xa_desk.specs.xa_stamp.declared.home.Stamped.{Stamped}
use Rattle.xa_desk.specs.xa_lock.Pages.{StartsWith}
use Rattle.xa_desk.specs.xa_queue.declared.queue.Refusal.{Refusal}
use Rattle.xa_desk.specs.xa_queue.declared.queue.Refusal.TheVariants as refusals
use Rattle.xa_desk.specs.xa_held.declared.kept_board.BoardNote.{BoardNote}
use Rattle.xa_desk.specs.xa_held.declared.kept_board.BoardNote.TheVariants.{Looked}
use Rattle.xa_desk.specs.xa_worker.declared.work.Halt.{Halt}
use Rattle.xa_desk.specs.xa_caller.declared.phase.Draft.{Draft}
use Rattle.xa_desk.specs.xa_caller.declared.outcomes.Step.{Step}
use Rattle.xa_desk.specs.xa_caller.declared.outcomes.Step.TheVariants as steps
use Rattle.xa_desk.specs.xa_caller.declared.outcomes.Stop.{Stop}
use Rattle.xa_desk.specs.xa_caller.declared.outcomes.Stop.TheVariants as stops
use Rattle.xa_desk.specs.xa_caller.declared.outcomes.Why.{Why}
use Rattle.xa_desk.specs.xa_caller.declared.outcomes.Why.TheVariants as reasons
use Rattle.xa_desk.specs.xa_worker.Work.{WorkState}
use Rattle.xa_desk.specs.xa_caller.Caller.{CallerState, room_to_send}
use Rattle.xa_desk.specs.xa_caller.Changes.{Refuses, SetsPriority, StopsAs, StepsAs, refused}
use Rattle.xa_desk.specs.xa_caller.Unsent.{ChecksAs, EndsAs, refused_for, other_step}
use Rattle.xa_desk.specs.declared.domain.Domain.{Domain}
use Rattle.xa_desk.specs.declared.desk.Desk.{Desk}
use Rattle.xa_desk.specs.Desks.{page_in, board_page, queue_page}
use Rattle.xa_desk.specs.Looks.{LookShowed, SeesWhy}
use Rattle.xa_desk.specs.Steps.{full_in}
use Rattle.xa_desk.proofs.Leading.{starts_same, starts_trans}
use Rattle.xa_calls.specs.Resting.{SawFull, RestsOn, NotedOn, version_named, full_named, full_shown}
use Rattle.xa_calls.specs.Going.{IsSame, FoundPending, told_by}
use Rattle.xa_calls.specs.Sending.{full_by, why_of}

-- ---- what was noted

some_weaker : {A : Type 0} (P Q : A → Type 0) → ((a : A) → P a → Q a) → (o : Option A) → IfSome o P → IfSome o Q
some_weaker P Q less None is = tt
some_weaker P Q less (Some a) is = less a is

pub noted_weaker : (Shown Shown' : ℕ → Type 0) (Full Full' : QueueId × ℕ → Type 0) → ((v : ℕ) → Shown v → Shown' v) → ((one : QueueId × ℕ) → Full one → Full' one) → (old old' new : List Stamped) → old' ≡ old → NotedOn Shown Full old new → NotedOn Shown' Full' old' new
noted_weaker Shown Shown' Full Full' shows fills old old' new was on = record {
  more = on.more;
  own = on.own ∙ ap (λ (l : List Stamped). l ++ on.more) (sym was);
  each = All-weaker (λ (x : Stamped). RestsOn Shown Full x.event) (λ (x : Stamped). RestsOn Shown' Full' x.event) (λ x rests. (some_weaker Shown Shown' shows (version_named x.event) rests.0, some_weaker Full Full' fills (full_named x.event) rests.1)) on.more on.each;
}

module _ (Shown : ℕ → Type 0) (Full : QueueId × ℕ → Type 0) where
  abbrev Rests : Stamped → Type 0
  Rests x = RestsOn Shown Full x.event

  pub noted_none : (old new : List Stamped) → new ≡ old → NotedOn Shown Full old new
  noted_none old new same = record { more = []; own = same ∙ sym (append-nil old); each = All-nil Rests }

  pub noted_one : (old new : List Stamped) (x : Stamped) → new ≡ old ++ x ∷ [] → RestsOn Shown Full x.event → NotedOn Shown Full old new
  noted_one old new x is rests = record { more = x ∷ []; own = is; each = All-cons Rests x [] rests (All-nil Rests) }

  pub noted_trans : (a b c : List Stamped) → NotedOn Shown Full a b → NotedOn Shown Full b c → NotedOn Shown Full a c
  noted_trans a b c ab bc = record {
    more = ab.more ++ bc.more;
    own = bc.own ∙ ap (λ (l : List Stamped). l ++ bc.more) ab.own ∙ append_assoc a ab.more bc.more;
    each = All-append Rests ab.more bc.more ab.each bc.each;
  }

  -- ---- by a step of the caller

  pub refused_noted : (op : ℕ) (fault : Fault) (evidence : Evidence) (stamp : Stamp) (old new : CallerState) → IfSome (version_in evidence) Shown → IfSome (full_shown evidence) Full → Refuses op fault evidence stamp new old → NotedOn Shown Full old.work.own new.work.own
  refused_noted op fault evidence stamp old new shown full refuses =
      noted_one old.work.own new.work.own (record { stamp = stamp; event = refused op fault evidence old }) (ap (λ (c : CallerState). c.work.own) refuses.made) (shown, full)

  pub checked_noted : (op : ℕ) (stop : Stop) (old new : CallerState) → ChecksAs op stop new old → NotedOn Shown Full old.work.own new.work.own
  checked_noted op (stops.Refused stamp) old new refuses = refused_noted op Inval Argument stamp old new tt tt refuses
  checked_noted op (stops.Halt halt) old new halts = noted_none old.work.own new.work.own (ap (λ (c : CallerState). c.work.own) halts.1)

  pub set_noted : (op : ℕ) (absolute : Bool) (amount : ℤ) (r : Result Stamp Halt) (old new : Desk) → IfOk r (λ stamp. SetsPriority op absolute amount stamp new.caller old.caller) → OnErr r (new ≡ old) → NotedOn Shown Full old.caller.work.own new.caller.work.own
  set_noted op absolute amount (Ok stamp) old new sets kept =
      noted_one old.caller.work.own new.caller.work.own (record { stamp = stamp; event = Priority (record { by = old.caller.work.id; op = op; absolute = absolute; amount = amount }) }) (ap (λ (c : CallerState). c.work.own) sets.made) (tt, tt)
  set_noted op absolute amount (Err halt) old new sets kept = noted_none old.caller.work.own new.caller.work.own (ap (λ (desk : Desk). desk.caller.work.own) kept)

  pub replied_noted : (expect : Option Kind) (step : Step) (old new : CallerState) → StepsAs expect step new old → NotedOn Shown Full old.work.own new.work.own
  replied_noted expect (steps.Told stamp) old new is =
      noted_one old.work.own new.work.own (record { stamp = stamp; event = Answer (record { by = old.work.id; op = old.op; request = is.sent.request; answer = answer_to expect is.reply }) }) (ap (λ (c : CallerState). c.work.own) is.noted.made) (tt, tt)
  replied_noted expect steps.Wait old new is = noted_none old.work.own new.work.own (ap (λ (c : CallerState). c.work.own) is.3)
  replied_noted expect (steps.Halt halt) old new is = noted_none old.work.own new.work.own (ap (λ (c : CallerState). c.work.own) is.made)
  replied_noted expect steps.Halted old new is = noted_none old.work.own new.work.own (ap (λ (c : CallerState). c.work.own) is.made)

-- of a request that isn't made by what was found
pub stopped_noted : (Full : QueueId × ℕ → Type 0) (setup : Setup) (op : ℕ) (payload : Data) (found : FoundRows) (stop : Stop) (old new : CallerState) → StopsAs setup op payload found stop new old → NotedOn (λ version. version ≡ found.version) Full old.work.own new.work.own
stopped_noted Full setup op payload found (stops.Refused stamp) old new (inl none) = elim none.1 [
  | inl rows ↦ refused_noted (λ version. version ≡ found.version) Full op NoEnt (Version found.version) stamp old new refl tt rows.1
  | inr rows ↦ refused_noted (λ version. version ≡ found.version) Full op IType (Version found.version) stamp old new refl tt rows.1
]
stopped_noted Full setup op payload found (stops.Refused stamp) old new (inr full) = refused_noted (λ version. version ≡ found.version) Full op Limit (Cells old.seat.count) stamp (record old { work = record old.work { room = max old.work.room (length old.out + room_to_send) }; seat = full.1.seat }) new tt tt full.1.refuses
stopped_noted Full setup op payload found (stops.Halt halt) old new (halts, inl kept) = noted_none (λ version. version ≡ found.version) Full old.work.own new.work.own (ap (λ (c : CallerState). c.work.own) kept)
stopped_noted Full setup op payload found (stops.Halt halt) old new (halts, inr over) = noted_none (λ version. version ≡ found.version) Full old.work.own new.work.own (ap (λ (c : CallerState). c.work.own) over.made)

-- and of one that no queue took, for that reason
pub unsent_noted : (draft : Draft) (why : Why) (no_block : Bool) (step : Step) (new left : CallerState) → EndsAs draft.op (refused_for draft why no_block) (other_step why) step new left
    → NotedOn (λ version. version ≡ draft.version) (λ one. full_in why ≡ Some one) left.work.own new.work.own
unsent_noted draft reasons.AllShut no_block (steps.Told stamp) new left ends = refused_noted (λ version. version ≡ draft.version) (λ one. full_in reasons.AllShut ≡ Some one) draft.op System (AllDown draft.version) stamp left new refl tt ends
unsent_noted draft reasons.AllShut no_block (steps.Halt halt) new left ends = noted_none (λ version. version ≡ draft.version) (λ one. full_in reasons.AllShut ≡ Some one) left.work.own new.work.own (ap (λ (c : CallerState). c.work.own) ends.1)
unsent_noted draft reasons.AllShut no_block steps.Wait new left ends = absurd ends
unsent_noted draft reasons.AllShut no_block steps.Halted new left ends = absurd ends
unsent_noted draft (reasons.Full queue n) true (steps.Told stamp) new left ends = refused_noted (λ version. version ≡ draft.version) (λ one. full_in (reasons.Full queue n) ≡ Some one) draft.op Block (Queue queue n) stamp left new tt refl ends
unsent_noted draft (reasons.Full queue n) true (steps.Halt halt) new left ends = noted_none (λ version. version ≡ draft.version) (λ one. full_in (reasons.Full queue n) ≡ Some one) left.work.own new.work.own (ap (λ (c : CallerState). c.work.own) ends.1)
unsent_noted draft (reasons.Full queue n) true steps.Wait new left ends = absurd ends
unsent_noted draft (reasons.Full queue n) true steps.Halted new left ends = absurd ends
unsent_noted draft (reasons.Full queue n) false step new left ends = noted_none (λ version. version ≡ draft.version) (λ one. full_in (reasons.Full queue n) ≡ Some one) left.work.own new.work.own (ap (λ (c : CallerState). c.work.own) ends.1)
unsent_noted draft (reasons.Halt halt) no_block step new left ends = noted_none (λ version. version ≡ draft.version) (λ one. full_in (reasons.Halt halt) ≡ Some one) left.work.own new.work.own (ap (λ (c : CallerState). c.work.own) ends.1)

-- ---- the same worker

-- it is the same worker's work, with that room still
abbrev pub SameWork : WorkState → WorkState → Type 0
SameWork old new = (new.id ≡ old.id) × (new.clients ≡ old.clients) × (2 ≤ old.room → 2 ≤ new.room)

-- where it became this
pub same_work : (old new left : WorkState) → new ≡ left → left.id ≡ old.id → left.clients ≡ old.clients → (2 ≤ old.room → 2 ≤ left.room) → SameWork old new
same_work old new left is id clients room = subst (SameWork old) (sym is) (id, clients, room)

pub same_desk : (old new : Desk) → SameWork old.caller.work new.caller.work → IsSame old new
same_desk old new same = record { id = same.0; clients = same.1; room = λ server had. same.2 had }

-- the work is as it was, but for what was noted and seen
pub same_by : (old new : Desk) (left : WorkState) → new.caller.work ≡ left → left.id ≡ old.caller.work.id → left.clients ≡ old.caller.work.clients → left.room ≡ old.caller.work.room → IsSame old new
same_by old new left is id clients room = same_desk old new (same_work old.caller.work new.caller.work left is id clients (λ had. omega (arith, had, room)))

pub checked_same : (op : ℕ) (stop : Stop) (old new : Desk) → ChecksAs op stop new.caller old.caller → IsSame old new
checked_same op (stops.Refused stamp) old new refuses = same_by old new _ (ap (λ (c : CallerState). c.work) refuses.made) refl refl refl
checked_same op (stops.Halt halt) old new halts = same_by old new _ (ap (λ (c : CallerState). c.work) halts.1) refl refl refl

pub replied_same : (expect : Option Kind) (step : Step) (old new : Desk) → StepsAs expect step new.caller old.caller → IsSame old new
replied_same expect (steps.Told stamp) old new is = let room = is.room in same_desk old new (same_work old.caller.work new.caller.work _ (ap (λ (c : CallerState). c.work) is.noted.made) refl refl (λ had. omega (arith, room)))
replied_same expect steps.Wait old new is = same_by old new _ (ap (λ (c : CallerState). c.work) is.3) refl refl refl
replied_same expect (steps.Halt halt) old new is = same_by old new _ (ap (λ (c : CallerState). c.work) is.made) refl refl refl
replied_same expect steps.Halted old new is = same_by old new _ (ap (λ (c : CallerState). c.work) is.made) refl refl refl

-- a look that told nothing found the cell pending
pub pending : (expect : Option Kind) (step : Step) (old new : Desk) → StepsAs expect step new.caller old.caller → new ≡ record old { caller = new.caller } → told_by step ≡ Ok false → FoundPending old new
pending expect (steps.Told stamp) old new is rest waits = absurd (cc waits)
pending expect steps.Wait old new is rest waits = record { sent = is.0; phase = is.1; looked_at = is.2; rest = rest ∙ ap (λ (c : CallerState). record old { caller = c }) is.3 }
pending expect (steps.Halt halt) old new is rest waits = absurd (cc waits)
pending expect steps.Halted old new is rest waits = absurd (cc waits)

-- ---- looks

pub board_same : (old new : Desk) → new.board ≡ old.board → StartsWith (board_page new).seen (board_page old).seen
board_same old new same = subst (λ o. StartsWith (page_in o).seen (board_page old).seen) (sym same) (starts_same (board_page old).seen)

pub look_grew : (old new : Desk) (version : ℕ) → LookShowed old new version → StartsWith (board_page new).seen (board_page old).seen
look_grew old new version is = starts_trans (board_page new).seen is.before (board_page old).seen (Looked is.look ∷ is.rest, is.stands) is.later

module _ (old mid new : Desk) (version : ℕ) where
  -- a look stands as the worker goes on
  pub look_later : StartsWith (board_page new).seen (board_page mid).seen → new.caller.work.id ≡ mid.caller.work.id → LookShowed old mid version → LookShowed old new version
  look_later grew id is = record {
    before = is.before;
    look = is.look;
    rest = is.rest ++ grew.0;
    stands = grew.1 ∙ ap (λ (l : List BoardNote). l ++ grew.0) is.stands ∙ append_assoc is.before (Looked is.look ∷ is.rest) grew.0;
    its = is.its ∙ sym id;
    later = is.later;
    shows = is.shows;
  }

  -- and is behind all that was earlier
  pub look_earlier : StartsWith (board_page mid).seen (board_page old).seen → LookShowed mid new version → LookShowed old new version
  look_earlier grew is = record {
    before = is.before;
    look = is.look;
    rest = is.rest;
    stands = is.stands;
    its = is.its;
    later = starts_trans is.before (board_page mid).seen (board_page old).seen is.later grew;
    shows = is.shows;
  }

module _ (d : Domain) (old mid new : Desk) (one : QueueId × ℕ) where
  pub full_later : ((queue : ℕ) → StartsWith (queue_page new queue).seen (queue_page mid queue).seen) → SawFull d old mid one → SawFull d old new one
  full_later grew is = record { front = is.front; stands = starts_trans (queue_page new one.0.0).seen (queue_page mid one.0.0).seen is.front (grew one.0.0) is.stands; later = is.later; shows = is.shows }

  pub full_earlier : ((queue : ℕ) → StartsWith (queue_page mid queue).seen (queue_page old queue).seen) → SawFull d mid new one → SawFull d old new one
  full_earlier grew is = record { front = is.front; stands = is.stands; later = starts_trans is.front (queue_page mid one.0.0).seen (queue_page old one.0.0).seen is.later (grew one.0.0); shows = is.shows }

-- which queue was full, behind a queue that refused
module _ (d : Domain) (first old new : Desk) (grew : (queue : ℕ) → StartsWith (queue_page new queue).seen (queue_page old queue).seen) (since : (queue : ℕ) → StartsWith (queue_page new queue).seen (queue_page first queue).seen) where
  in_result : Option (QueueId × ℕ) → Result (Option (QueueId × ℕ)) Halt → Option (QueueId × ℕ)
  in_result default (Ok full) = full
  in_result default (Err halt) = default

  pub full_stays : (full : Option (QueueId × ℕ)) → IfSome full (SawFull d first old) → IfSome full (SawFull d first new)
  full_stays full is = some_weaker (SawFull d first old) (SawFull d first new) (λ one. full_later d first old new one grew) full is

  pub full_next : (queue : QueueId) (why : Refusal) (full full' : Option (QueueId × ℕ)) → full_by queue why full ≡ Ok full' → SeesWhy d queue.0 why new → IfSome full (SawFull d first old) → IfSome full' (SawFull d first new)
  unfolding in_result
  full_next queue refusals.Down full full' is sees was = subst (λ f. IfSome f (SawFull d first new)) (ap (in_result full) is) (full_stays full was)
  full_next queue refusals.Closed full full' is sees was = subst (λ f. IfSome f (SawFull d first new)) (ap (in_result full) is) (full_stays full was)
  full_next queue (refusals.Full n) full full' is sees was =
      subst (λ f. IfSome f (SawFull d first new)) (ap (in_result full) is) (record { front = (queue_page new queue.0).seen; stands = starts_same (queue_page new queue.0).seen; later = since queue.0; shows = sees })
  full_next queue (refusals.Worn stamp) full full' is sees was = absurd (cc is)
  full_next queue refusals.NoMemory full full' is sees was = absurd (cc is)

-- the queue that is told to be full is that one
pub full_told : (full : Option (QueueId × ℕ)) (one : QueueId × ℕ) → full_in (why_of full) ≡ Some one → (P : QueueId × ℕ → Type 0) → IfSome full P → P one
full_told None one is P holds = absurd (cc is)
full_told (Some other) one is P holds = let same : other ≡ one = cc is in subst P same holds
