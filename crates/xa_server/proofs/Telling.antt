-- The ends behind what seats filled.
use Rattle.std.proofs.Common.{◌≡◌, ℕ, zero, suc, ◌≤◌, List, [], ◌∷◌, ◌++◌, Option, Some, None, if◌then◌else◌, refl, sym, ◌∙◌, ap, subst, arith}
use Rattle.std.specs.Prelude.{IsSome, IsSomeAnd, IfSome, slice_set}
use Rattle.std.specs.List.{All, Contains}
use Rattle.std.proofs.lemmas.List.Elements.{All-push, All-weaker, Contains-push, Contains-append_left}
use Rattle.xa_caller.specs.xa_types.declared.stamp.Stamp.{Stamp}
use Rattle.xa_caller.specs.xa_types.declared.ids.RequestId.{RequestId}
use Rattle.xa_caller.specs.xa_types.declared.reply.Answer.{Answer}
use Rattle.xa_caller.specs.xa_events.declared.event.Ended.{Ended}
use Rattle.xa_caller.specs.xa_events.declared.event.Event.TheVariants.{End, Sweep}
use Rattle.xa_caller.specs.xa_events.declared.event.Outcome.{Outcome}
use Rattle.xa_caller.specs.xa_events.declared.event.StopCause.{StopCause}
use Rattle.xa_caller.specs.xa_events.declared.event.Swept.{Swept}
use Rattle.xa_caller.specs.xa_events.declared.event.Doing.{Doing}
use Rattle.xa_caller.specs.xa_events.declared.event.Doing.TheVariants.{Busy}
use Rattle.xa_caller.specs.xa_types.declared.ids.QueueId.{QueueId}
use Rattle.xa_caller.specs.xa_events.Answers.{reply_of}
use Rattle.xa_caller.specs.xa_events.Request.{Settlement, settlement_in}
use Rattle.xa_caller.specs.xa_events.Request.Settlement.{EndedBy, SweptAway}
use Rattle.xa_caller.proofs.xa_events.WordsLemmas.{same_request_of}
use Rattle.xa_caller.specs.xa_stamp.declared.home.Stamped.{Stamped}
use Rattle.xa_caller.specs.xa_stamp.Home.{last_stamp}
use Rattle.xa_caller.proofs.xa_stamp.Stamps.{last_stamp-push}
use Rattle.xa_caller.specs.xa_worker.Crew.{no_stamp}
use Rattle.xa_caller.specs.xa_queue.declared.entry.Entry.{Entry}
use Rattle.xa_caller.specs.xa_cell.declared.tokens.Ticket.{Ticket}
use Rattle.xa_caller.specs.xa_cell.declared.view.Opening.{Opening}
use Rattle.xa_caller.specs.xa_cell.declared.view.Part.{Part}
use Rattle.xa_caller.specs.xa_cell.declared.view.View.{View}
use Rattle.xa_caller.specs.xa_cell.declared.filler.Filled.{Filled}
use Rattle.xa_caller.specs.xa_cell.declared.filler.Filled.TheVariants as fills
use Rattle.xa_caller.specs.xa_cell.Views.{nth, at, fill}
use Rattle.xa_caller.specs.xa_cell.Known.{named}
use Rattle.xa_caller.specs.xa_cell.Calls.{Settles as SettlesCell}
use Rattle.xa_caller.specs.Drafts.{Cargo}
use Rattle.xa_caller.specs.declared.cargo.Filling.{Filling}
use Rattle.xa_caller.specs.xa_worker.Work.{WorkState}
use Rattle.xa_server.specs.declared.slot.ServerSlot.{ServerSlot}
use Rattle.xa_server.specs.declared.closing.Closing.{Closing}
use Rattle.xa_server.specs.declared.closing.Given.{Given}
use Rattle.xa_server.specs.Changes.{closing_of, Ends, Closes, Finishes, DiesBusy, DiesIdle, DiesFrom, Dies}
use Rattle.xa_server.specs.Noting.{with_room}
use Rattle.xa_server.specs.Doings.{outcome_of}
use Rattle.xa_server.specs.Told.{GivenTo, GivenAs, HasStamp, IsEnded, EndedFor, FilledByEnds, Backs, IsBacked, NamesIts}
use Rattle.xa_server.proofs.Reading.{end_of}

-- a part is set, and what holds of it and of all others holds of each
set_each : (P : Part Filling → Type 0) (ps : List (Part Filling)) (k : ℕ) (p : Part Filling) → ((j : ℕ) → P (nth ps j)) → P p → (j : ℕ) → P (nth (slice_set ps k p) j)
set_each P [] k p each is j = each j
set_each P (q ∷ ps) zero p each is zero = is
set_each P (q ∷ ps) zero p each is (suc j) = each (suc j)
set_each P (q ∷ ps) (suc k) p each is zero = each zero
set_each P (q ∷ ps) (suc k) p each is (suc j) = set_each P ps k p (λ i. each (suc i)) is j

module _ (entries : List Stamped) where
  by_ends : Part Filling → Type 0
  by_ends p = All (EndedFor entries) p.filled

  settled_so : (k : ℕ) (o : Opening) (filling : Filling) (v w : View Filling) (outcome : Filled Filling) → SettlesCell k o filling v w outcome → EndedFor entries (fill o filling) → FilledByEnds entries v → FilledByEnds entries w
  unfolding by_ends
  settled_so k o filling v w fills.Delivered is ended each j =
      subst (λ (u : View Filling). by_ends (at j u)) (sym is)
      (set_each by_ends v.parts k (record (at k v) { filled = (at k v).filled ++ fill o filling ∷ [] }) each (All-push (EndedFor entries) (at k v).filled (fill o filling) (each k) ended) j)
  settled_so k o filling v w (fills.Dropped back) is ended each j =
      subst (λ (u : View Filling). by_ends (at j u)) (sym is.1) (set_each by_ends v.parts k (record (at k v) { dropped = (at k v).dropped ++ o.number ∷ [] }) each (each k) j)

  given_so : (ticket : Option (Ticket Filling)) (answer : Option Answer) (first stamp : Stamp) (v w : View Filling) (became : Given) → GivenTo ticket answer stamp v w became → first.0 ≤ stamp.0 → (IsSome answer → HasStamp entries stamp) → Backs entries ticket answer first → FilledByEnds entries v → FilledByEnds entries w
  given_so None answer first stamp v w became is later has backs each = subst (FilledByEnds entries) (sym is.1) each
  given_so (Some ticket) None first stamp v w became spent later has backs each =
      let o = spent.filled.0 in
      settled_so ticket.cell o spent.filling v w spent.outcome spent.filled.2 (subst (λ a. IfSome a (IsEnded entries o.request spent.filling.stamp)) (sym spent.says) tt) each
  given_so (Some ticket) (Some answer) first stamp v w became spent later has backs each =
      let o = spent.filled.0 in
      let settles = backs.2 o spent.filled.1 in
      let by = settles.by in
      let stamped = ap (λ (s : Stamp). s.0) spent.stamped in
      settled_so ticket.cell o spent.filling v w spent.outcome spent.filled.2
      (subst (λ a. IfSome a (IsEnded entries o.request spent.filling.stamp)) (sym spent.says) (record {
        entry = backs.0;
        stands = backs.1;
        settles = record { by = omega (arith, by, later, stamped); tells = settles.tells };
        has = subst (HasStamp entries) (sym spent.stamped) (has refl);
      })) each

pub given_ended : (entries : List Stamped) (closing : Closing) (stamp : Stamp) (v w : View Filling) (became : Given) → GivenAs closing stamp v w became → closing.stamp.0 ≤ stamp.0 → (IsSome closing.answer → HasStamp entries stamp) → IsBacked entries closing → FilledByEnds entries v → FilledByEnds entries w
given_ended entries closing stamp v w became is later has backs each = given_so entries closing.ticket closing.answer closing.stamp stamp v w became is later has backs each

-- ---- what a slot closes

settles_end : (e : Ended) (request : RequestId) → request ≡ e.request → IsSomeAnd (settlement_in request (End e)) (λ (how : Settlement). reply_of (EndedBy e.outcome) ≡ reply_of how)
settles_end e request is = subst (λ b. IsSomeAnd (if b then Some (EndedBy e.outcome) else None) (λ (how : Settlement). reply_of (EndedBy e.outcome) ≡ reply_of how)) (sym (same_request_of e.request request (sym is))) refl

names_it : (hand : Option (Entry Cargo)) (entry : Entry Cargo) → hand ≡ Some entry → NamesIts hand → (o : Opening) → named entry.cargo.ticket ≡ o ∷ [] → o.request ≡ entry.request
names_it hand entry is names = subst NamesIts is names

same_entry : (a b : Entry Cargo) (hand : Option (Entry Cargo)) → hand ≡ Some a → hand ≡ Some b → a ≡ b
same_entry a b hand x y = ap (entry_in a) (sym x ∙ y)
  where
    entry_in : Entry Cargo → Option (Entry Cargo) → Entry Cargo
    entry_in default (Some entry) = entry
    entry_in default None = default

pub backed : (outcome : Outcome) (stamp : Stamp) (closing : Closing) (after before : ServerSlot) (new old : WorkState) → Ends outcome stamp after before new old → Closes (reply_of (EndedBy outcome)) stamp before.hand closing → NamesIts before.hand → IsBacked new.own closing
backed outcome stamp closing after before new old ends closes names =
    let e : Ended = end_of before ends.entry outcome in
    let x : Stamped = record { stamp = stamp; event = End e } in
    let own : new.own ≡ old.own ++ x ∷ [] = ap (λ (w : WorkState). w.own) ends.noted.made in
    let same : ends.entry ≡ closes.entry = same_entry ends.entry closes.entry before.hand ends.in_hand closes.in_hand in
    subst (IsBacked new.own) (sym closes.is) (
      x,
      subst (λ (l : List Stamped). Contains l x) (sym own) (Contains-push old.own x),
      λ o named_so.
          record { by = omega arith; tells = settles_end e o.request (names_it before.hand closes.entry closes.in_hand names o named_so ∙ ap (λ (entry : Entry Cargo). entry.request) (sym same)) },
    )

-- ---- further entries

ended_stays : (entries further : List Stamped) (request : RequestId) (stamp : Stamp) (answer : Option Answer) → IfSome answer (IsEnded entries request stamp) → IfSome answer (IsEnded (entries ++ further) request stamp)
ended_stays entries further request stamp None ended = tt
ended_stays entries further request stamp (Some answer) ended = record {
  entry = ended.entry;
  stands = Contains-append_left entries further ended.entry ended.stands;
  settles = ended.settles;
  has = (ended.has.0, Contains-append_left entries further ended.has.0 ended.has.1, ended.has.2);
}

pub fillings_stay : (entries further : List Stamped) (view : View Filling) → FilledByEnds entries view → FilledByEnds (entries ++ further) view
fillings_stay entries further view each k = All-weaker (EndedFor entries) (EndedFor (entries ++ further)) (λ fill ended. ended_stays entries further fill.opening.request fill.answer.stamp fill.answer.answer ended) (at k view).filled (each k)

closing_stays : (entries further : List Stamped) (ticket : Option (Ticket Filling)) (answer : Option Answer) (stamp : Stamp) → Backs entries ticket answer stamp → Backs (entries ++ further) ticket answer stamp
closing_stays entries further None answer stamp backs = tt
closing_stays entries further (Some ticket) None stamp backs = tt
closing_stays entries further (Some ticket) (Some answer) stamp backs = (backs.0, Contains-append_left entries further backs.0 backs.1, backs.2)

pub closings_stay : (entries further : List Stamped) (closing : Closing) → IsBacked entries closing → IsBacked (entries ++ further) closing
closings_stay entries further closing backs = closing_stays entries further closing.ticket closing.answer closing.stamp backs

-- ---- what the calls close

-- the last stamp is that of the event that came last
newest : (old : List Stamped) (x : Stamped) (new : List Stamped) → new ≡ old ++ x ∷ [] → last_stamp no_stamp new ≡ x.stamp.0
newest old x new is = ap (last_stamp no_stamp) is ∙ last_stamp-push no_stamp old x

-- the stamp of what is closed is that of the end
closed_at : (answer : Answer) (stamp : Stamp) (hand : Option (Entry Cargo)) (closing : Closing) → Closes answer stamp hand closing → closing.stamp.0 ≡ stamp.0
closed_at answer stamp hand closing closes = ap (λ (c : Closing). c.stamp.0) closes.is

pub finish_backed : (outcome : Outcome) (closing : Closing) (after before : ServerSlot) (new old : WorkState) → Finishes outcome closing after before new old → NamesIts before.hand → IsBacked new.own closing × (closing.stamp.0 ≤ last_stamp no_stamp new.own)
finish_backed outcome closing after before new old f names =
    let at = closed_at (reply_of (EndedBy outcome)) f.stamp before.hand closing f.closes in
    let now = newest old.own (record { stamp = f.stamp; event = _ }) new.own (ap (λ (w : WorkState). w.own) f.ends.noted.made) in
    (backed outcome f.stamp closing f.ended before new (with_room 3 old) f.ends f.closes names, omega (arith, at, now))

dies_busy : (cause : StopCause) (closing : Closing) (after before : ServerSlot) (new old : WorkState) → DiesBusy cause closing after before new old → NamesIts before.hand → IsBacked new.own closing × (closing.stamp.0 ≤ last_stamp no_stamp new.own)
dies_busy cause closing after before new old d names =
    let at = closed_at (reply_of (EndedBy (outcome_of cause))) d.stamp before.hand closing d.closes in
    let between = ap (λ (w : WorkState). w.stamp.0) d.ends.noted.made in
    let next = d.stops.noted.next in
    let own = ap (λ (w : WorkState). w.own) d.stops.noted.made in
    let now = newest d.between.own (record { stamp = d.stop; event = _ }) new.own own in
    let ended = backed (outcome_of cause) d.stamp closing d.ended before d.between old d.ends d.closes names in
    (subst (λ (l : List Stamped). IsBacked l closing) (sym own) (closings_stay d.between.own _ closing ended), omega (arith, at, between, next, now))

dies_idle : (cause : StopCause) (closing : Closing) (after before : ServerSlot) (new old : WorkState) → DiesIdle cause closing after before new old → IsBacked new.own closing × (closing.stamp.0 ≤ last_stamp no_stamp new.own)
dies_idle cause closing after before new old d =
    let at = ap (λ (s : Stamp). s.0) d.stamped in
    let now = newest old.own (record { stamp = d.stop; event = _ }) new.own (ap (λ (w : WorkState). w.own) d.stops.noted.made) in
    (subst (λ (t : Option (Ticket Filling)). Backs new.own t closing.answer closing.stamp) (sym d.nobody) tt, omega (arith, at, now))

dies_from : (doing : Doing) (cause : StopCause) (closing : Closing) (after before : ServerSlot) (new old : WorkState) → DiesFrom doing cause closing after before new old → NamesIts before.hand → IsBacked new.own closing × (closing.stamp.0 ≤ last_stamp no_stamp new.own)
dies_from (Busy generation request) cause closing after before new old d names = dies_busy cause closing after before new old d names
dies_from _ cause closing after before new old d names = dies_idle cause closing after before new old d

pub death_backed : (cause : StopCause) (closing : Closing) (after before : ServerSlot) (new old : WorkState) → Dies cause closing after before new old → NamesIts before.hand → IsBacked new.own closing × (closing.stamp.0 ≤ last_stamp no_stamp new.own)
death_backed cause closing after before new old d names = dies_from before.doing cause closing after before new old d names

settles_sweep : (x : Swept) (request : RequestId) → request ≡ x.request → IsSomeAnd (settlement_in request (Sweep x)) (λ (how : Settlement). reply_of SweptAway ≡ reply_of how)
settles_sweep x request is = subst (λ b. IsSomeAnd (if b then Some SweptAway else None) (λ (how : Settlement). reply_of SweptAway ≡ reply_of how)) (sym (same_request_of x.request request (sym is))) refl

pub sweep_backed : (entries : List Stamped) (entry : Entry Cargo) (queue : QueueId) (stamp : Stamp) → Contains entries (record { stamp = stamp; event = Sweep (record { request = entry.request; queue = queue }) })
    → NamesIts (Some entry) → IsBacked entries (closing_of entry (Some (reply_of SweptAway)) stamp tt)
sweep_backed entries entry queue stamp stands names =
    (record { stamp = stamp; event = Sweep (record { request = entry.request; queue = queue }) }, stands, λ o named_so. record { by = omega arith; tells = settles_sweep (record { request = entry.request; queue = queue }) o.request (names o named_so) })
