-- Who was told was told behind the end of a life.
use Rattle.std.proofs.Common.{◌≡◌, ℕ, zero, suc, true, false, List, [], ◌∷◌, ◌++◌, Option, Some, None, refl, sym, ◌∙◌, ap, subst, arith}
use Rattle.std.specs.Prelude.{IfSome, slice_set, ⊤}
use Rattle.std.specs.List.{All, Contains}
use Rattle.std.proofs.lemmas.Bool.{false≢true}
use Rattle.std.proofs.lemmas.List.{append_assoc, append-nil}
use Rattle.std.proofs.lemmas.List.Elements.{All-head, All-tail, All-push, All-weaker}
use Rattle.xa_desk.specs.xa_types.declared.stamp.Stamp.{Stamp}
use Rattle.xa_desk.specs.xa_types.declared.reply.Answer.{Answer}
use Rattle.xa_desk.specs.xa_types.declared.ids.RequestId.{RequestId}
use Rattle.xa_desk.specs.xa_events.declared.event.Event.{Event}
use Rattle.xa_desk.specs.xa_events.declared.event.Event.TheVariants.{Sweep, Start, StartFailed, Stop}
use Rattle.xa_desk.specs.xa_stamp.declared.home.Stamped.{Stamped}
use Rattle.xa_desk.specs.xa_stamp.Home.{last_stamp}
use Rattle.xa_desk.specs.xa_worker.Crew.{no_stamp}
use Rattle.xa_desk.specs.xa_worker.Seen.{past_in}
use Rattle.xa_desk.proofs.xa_worker.Lists.{past_in-append}
use Rattle.xa_desk.specs.xa_cell.declared.tokens.Seat.{Seat}
use Rattle.xa_desk.specs.xa_cell.declared.tokens.Ticket.{Ticket}
use Rattle.xa_desk.specs.xa_cell.declared.view.Fill.{Fill}
use Rattle.xa_desk.specs.xa_cell.declared.view.Opening.{Opening}
use Rattle.xa_desk.specs.xa_cell.declared.view.Part.{Part}
use Rattle.xa_desk.specs.xa_cell.declared.view.View.{View}
use Rattle.xa_desk.specs.xa_cell.declared.filler.Filled.{Filled}
use Rattle.xa_desk.specs.xa_cell.declared.filler.Filled.TheVariants as fills
use Rattle.xa_desk.specs.xa_cell.Calls.{Settles}
use Rattle.xa_desk.specs.xa_cell.Known.{known}
use Rattle.xa_desk.specs.xa_cell.Views.{nth, at, fill}
use Rattle.xa_desk.specs.xa_caller.declared.cargo.Filling.{Filling}
use Rattle.xa_desk.specs.xa_server.declared.closing.Given.{Given}
use Rattle.xa_desk.specs.xa_server.Told.{GivenTo, IsEnded, EndedFor, FilledByEnds}
use Rattle.xa_desk.specs.declared.domain.Domain.{Domain}
use Rattle.xa_desk.specs.declared.desk.Desk.{Desk}
use Rattle.xa_desk.specs.Desks.{Leads}
use Rattle.xa_desk.specs.xa_server.declared.closing.Closing.{Closing}
use Rattle.xa_server_worker.specs.Behind.{ends_by, is_ending, SweepsOr, OnlySweeps, stops_by_exit, NoExitNext, IsBehindEnd, FilledBehind, AllBehind, TellsLast, ToldAll, ToldBefore, IsCalm, ToldBy}
use Rattle.xa_server_worker.specs.Steps.{GivenBy, Tells}

-- ---- what comes behind the end of a life

or_more : {X Y : Type 0} (e : Event) → (X → Y) → SweepsOr e X → SweepsOr e Y
or_more (Start s) f is = tt
or_more (StartFailed s) f is = tt
or_more (Sweep x) f is = f is
or_more _ f is = absurd is

only_more : (Rest : Type 0) (after rest : List Stamped) → OnlySweeps ⊥ after → OnlySweeps Rest (after ++ rest)
only_more Rest [] rest is = absurd is
only_more Rest (x ∷ after) rest is = or_more x.event (only_more Rest after rest) is

only_push : (Rest : Type 0) (after : List Stamped) (x : Stamped) → SweepsOr x.event Rest → OnlySweeps ⊤ after → OnlySweeps Rest (after ++ x ∷ [])
only_push Rest [] x here is = here
only_push Rest (y ∷ after) x here is = or_more y.event (only_push Rest after x here) is

-- what ends no life, and what may come behind one that ended, is no Stop by TPEXIT
ends_none : (e : Event) → ends_by e false ≡ false → stops_by_exit e ≡ false
ends_none (Stop x) is = absurd (cc is)
ends_none _ is = refl

sweeps_none : (X : Type 0) (e : Event) → SweepsOr e X → stops_by_exit e ≡ false
sweeps_none X (Stop x) is = absurd is
sweeps_none X _ is = refl

next_more : (L M : Type 0) (after rest : List Stamped) → (M → NoExitNext L rest) → NoExitNext M after → NoExitNext L (after ++ rest)
next_more L M [] rest here is = here is
next_more L M (x ∷ after) rest here is = is

-- ---- who was told with a stamp

behind_more : {R L M : Type 0} (own rest : List Stamped) (stamp : Stamp) → (M → NoExitNext L rest) → IsBehindEnd ⊥ M own stamp → IsBehindEnd R L (own ++ rest) stamp
behind_more {R} {L} {M} own rest stamp next is = record {
  before = is.before;
  after = is.after ++ rest;
  parts = ap (λ (l : List Stamped). l ++ rest) is.parts ∙ append_assoc is.before is.after rest;
  last = is.last;
  quiet = λ ending. only_more R is.after rest (is.quiet ending);
  stays = next_more L M is.after rest next is.stays;
}

behind_push : {R L : Type 0} (own : List Stamped) (x : Stamped) (stamp : Stamp) → SweepsOr x.event R → IsBehindEnd ⊤ ⊤ own stamp → IsBehindEnd R L (own ++ x ∷ []) stamp
behind_push {R} {L} own x stamp here is = record {
  before = is.before;
  after = is.after ++ x ∷ [];
  parts = ap (λ (l : List Stamped). l ++ x ∷ []) is.parts ∙ append_assoc is.before is.after (x ∷ []);
  last = is.last;
  quiet = λ ending. only_push R is.after x here (is.quiet ending);
  stays = next_more L ⊤ is.after (x ∷ []) (λ any. sweeps_none R x.event here) is.stays;
}

behind_here : {R : Type 0} (own : List Stamped) (stamp : Stamp) → last_stamp no_stamp own ≡ stamp.0 → (is_ending (past_in own) ≡ true → R) → IsBehindEnd R ⊤ own stamp
behind_here own stamp last quiet = record { before = own; after = []; parts = sym (append-nil own); last = last; quiet = quiet; stays = tt }

-- ---- each filling of a seat

all_behind : {R L Q M : Type 0} (own own' : List Stamped) (view : View Filling) → ((stamp : Stamp) → IsBehindEnd R L own stamp → IsBehindEnd Q M own' stamp) → AllBehind R L own view → AllBehind Q M own' view
all_behind {R} {L} {Q} {M} own own' view more all k = All-weaker (FilledBehind R L own) (FilledBehind Q M own') (λ fill is. by fill.answer.stamp fill.answer.answer is) (at k view).filled (all k)
  where
    by : (stamp : Stamp) (o : Option Answer) → IfSome o (λ answer. IsBehindEnd R L own stamp) → IfSome o (λ answer. IsBehindEnd Q M own' stamp)
    by stamp None is = tt
    by stamp (Some answer) is = more stamp is

-- a part is set, and what holds of it and of all others holds of each
set_each : (P : Part Filling → Type 0) (ps : List (Part Filling)) (k : ℕ) (p : Part Filling) → ((j : ℕ) → P (nth ps j)) → P p → (j : ℕ) → P (nth (slice_set ps k p) j)
set_each P [] k p each is j = each j
set_each P (q ∷ ps) zero p each is zero = is
set_each P (q ∷ ps) zero p each is (suc j) = each (suc j)
set_each P (q ∷ ps) (suc k) p each is zero = each zero
set_each P (q ∷ ps) (suc k) p each is (suc j) = set_each P ps k p (λ i. each (suc i)) is j

module _ (P : Fill Filling → Type 0) where
  abbrev each_filled : Part Filling → Type 0
  each_filled p = All P p.filled

  settled_so : (k : ℕ) (o : Opening) (filling : Filling) (v w : View Filling) (outcome : Filled Filling) → Settles k o filling v w outcome → P (fill o filling) → ((j : ℕ) → All P (at j v).filled) → (j : ℕ) → All P (at j w).filled
  settled_so k o filling v w fills.Delivered is new each j =
      subst (λ (u : View Filling). each_filled (at j u)) (sym is)
      (set_each each_filled v.parts k (record (at k v) { filled = (at k v).filled ++ fill o filling ∷ [] }) each (All-push P (at k v).filled (fill o filling) (each k) new) j)
  settled_so k o filling v w (fills.Dropped back) is new each j =
      subst (λ (u : View Filling). each_filled (at j u)) (sym is.1) (set_each each_filled v.parts k (record (at k v) { dropped = (at k v).dropped ++ o.number ∷ [] }) each (each k) j)

given_so : {R : Type 0} (own : List Stamped) (ticket : Option (Ticket Filling)) (answer : Option Answer) (stamp : Stamp) (v w : View Filling) (became : Given) → GivenTo ticket answer stamp v w became → IsBehindEnd R ⊤ own stamp → AllBehind R ⊤ own v → AllBehind R ⊤ own w
given_so {R} own None answer stamp v w became is new all = subst (AllBehind R ⊤ own) (sym is.1) all
given_so {R} own (Some ticket) answer stamp v w became spent new all =
    settled_so (FilledBehind R ⊤ own) ticket.cell spent.filled.0 spent.filling v w spent.outcome spent.filled.2 (by spent.filling.answer) all
  where
    by : (o : Option Answer) → IfSome o (λ (a : Answer). IsBehindEnd R ⊤ own spent.filling.stamp)
    by None = tt
    by (Some a) = subst (IsBehindEnd R ⊤ own) (sym spent.stamped) new

given_by : {R : Type 0} (closing : Option Closing) (old : Desk) (after : View Filling) → GivenBy closing old after → (is_ending (past_in old.caller.work.own) ≡ true → R) → AllBehind R ⊤ old.caller.work.own (known old.caller.seat) → AllBehind R ⊤ old.caller.work.own after
given_by {R} None old after same quiet all = subst (AllBehind R ⊤ old.caller.work.own) (sym same) all
given_by {R} (Some closing) old after (became, given) quiet all =
    let own : List Stamped = old.caller.work.own in
    given_so own closing.ticket closing.answer (record { 0 = last_stamp no_stamp own }) (known old.caller.seat) after became given (behind_here own (record { 0 = last_stamp no_stamp own }) refl quiet) all

-- ---- at a desk

module _ (old new : Desk) where
  abbrev own : List Stamped
  own = old.caller.work.own

  abbrev own' : List Stamped
  own' = new.caller.work.own

  at_seat : {R L Q M : Type 0} (more : List Stamped) → own' ≡ more → new.caller.seat ≡ old.caller.seat → ((stamp : Stamp) → IsBehindEnd R L own stamp → IsBehindEnd Q M more stamp) → AllBehind R L own (known old.caller.seat) → AllBehind Q M own' (known new.caller.seat)
  at_seat {R} {L} {Q} {M} more is seat goes all =
      subst (λ (l : List Stamped). AllBehind Q M l (known new.caller.seat)) (sym {A = List Stamped} is)
      (subst (λ (s : Seat Filling). AllBehind Q M more (known s)) (sym seat) (all_behind own more (known old.caller.seat) goes all))

  -- nothing was noted, and nobody told
  pub still_behind : (R : Type 0) → own' ≡ own → new.caller.seat ≡ old.caller.seat → AllBehind R ⊤ own (known old.caller.seat) → AllBehind R ⊤ own' (known new.caller.seat)
  still_behind R is seat = at_seat own is seat (λ stamp behind. behind)

  pub still_before : own' ≡ own → new.caller.seat ≡ old.caller.seat → ToldBefore old → ToldBefore new
  still_before is seat = at_seat own is seat (λ stamp behind. behind)

  -- whatever was noted, where each that was told was told behind a start, and before the last event
  pub leads_behind : {d : Domain} → Leads d old new → new.caller.seat ≡ old.caller.seat → ToldBefore old → ToldBefore new
  leads_behind leads seat = at_seat (own ++ leads.own.0) leads.own.1 seat (λ stamp behind. behind_more own leads.own.0 stamp (λ none. absurd none) behind)

  -- or what begins with no Stop by TPEXIT
  pub more_behind : (R L : Type 0) (rest : List Stamped) → own' ≡ own ++ rest → new.caller.seat ≡ old.caller.seat → NoExitNext L rest → ToldAll old → AllBehind R L own' (known new.caller.seat)
  more_behind R L rest is seat next = at_seat (own ++ rest) is seat (λ stamp behind. behind_more own rest stamp (λ any. next) behind)

  -- a start, or a sweep
  pub push_behind : (R L : Type 0) (x : Stamped) → own' ≡ own ++ x ∷ [] → new.caller.seat ≡ old.caller.seat → SweepsOr x.event R → TellsLast old → AllBehind R L own' (known new.caller.seat)
  push_behind R L x is seat here = at_seat (own ++ x ∷ []) is seat (λ stamp behind. behind_push own x stamp here behind)

  ending_push : (x : Stamped) → own' ≡ own ++ x ∷ [] → is_ending (past_in own') ≡ ends_by x.event (is_ending (past_in own))
  ending_push x is = ap (λ (l : List Stamped). is_ending (past_in l)) is ∙ ap is_ending (past_in-append own (x ∷ []))

  -- an event that ends no life
  pub calm_before : (x : Stamped) → own' ≡ own ++ x ∷ [] → new.caller.seat ≡ old.caller.seat → ends_by x.event false ≡ false → IsCalm old → ToldBefore new
  calm_before x is seat ends calm = more_behind ⊥ ⊥ (x ∷ []) is seat (ends_none x.event ends) calm.0

  pub calm_push : (x : Stamped) → own' ≡ own ++ x ∷ [] → new.caller.seat ≡ old.caller.seat → ends_by x.event false ≡ false → IsCalm old → IsCalm new
  calm_push x is seat ends calm = (more_behind ⊥ ⊤ (x ∷ []) is seat (ends_none x.event ends) calm.0, ending_push x is ∙ ap (ends_by x.event) calm.1 ∙ ends)

  pub still_calm : own' ≡ own → new.caller.seat ≡ old.caller.seat → IsCalm old → IsCalm new
  still_calm is seat calm = (still_behind ⊥ is seat calm.0, ap (λ (l : List Stamped). is_ending (past_in l)) is ∙ calm.1)

  -- events that end no life, where the seat filled none
  pub calm_called : (rest : List Stamped) → own' ≡ own ++ rest → ((k : ℕ) → (at k (known new.caller.seat)).filled ≡ (at k (known old.caller.seat)).filled) → All (λ (x : Stamped). ends_by x.event false ≡ false) rest → IsCalm old → IsCalm new
  calm_called rest is fills ends calm = (
    (λ k. subst (λ (l : List Stamped). All (FilledBehind ⊥ ⊤ l) (at k (known new.caller.seat)).filled) (sym {A = List Stamped} is)
        (subst (All (FilledBehind ⊥ ⊤ (own ++ rest))) (sym (fills k)) (all_behind own (own ++ rest) (known old.caller.seat) (λ stamp behind. behind_more own rest stamp (λ any. none_first rest ends) behind) calm.0 k))),
    ap (λ (l : List Stamped). is_ending (past_in l)) is ∙ still_ending own rest calm.1 ends,
  )
    where
      none_first : (more : List Stamped) → All (λ (x : Stamped). ends_by x.event false ≡ false) more → NoExitNext ⊤ more
      none_first [] none = tt
      none_first (x ∷ more) none = ends_none x.event (All-head (λ (y : Stamped). ends_by y.event false ≡ false) x more none)

      still_ending : (before more : List Stamped) → is_ending (past_in before) ≡ false → All (λ (x : Stamped). ends_by x.event false ≡ false) more → is_ending (past_in (before ++ more)) ≡ false
      still_ending before [] goes none = ap (λ (l : List Stamped). is_ending (past_in l)) (append-nil before) ∙ goes
      still_ending before (x ∷ more) goes none =
          let again : is_ending (past_in (before ++ x ∷ [])) ≡ false = ap is_ending (past_in-append before (x ∷ [])) ∙ (ap (ends_by x.event) goes ∙ All-head (λ (y : Stamped). ends_by y.event false ≡ false) x more none) in
          ap (λ (l : List Stamped). is_ending (past_in l)) (sym (append_assoc before (x ∷ []) more)) ∙ still_ending (before ++ x ∷ []) more again (All-tail (λ (y : Stamped). ends_by y.event false ≡ false) x more none)

  -- its server was started
  pub start_calm : (x : Stamped) → own' ≡ own ++ x ∷ [] → new.caller.seat ≡ old.caller.seat → SweepsOr x.event ⊥ → ends_by x.event (is_ending (past_in own)) ≡ false → TellsLast old → IsCalm new
  start_calm x is seat starts ends told = (push_behind ⊥ ⊤ x is seat starts told, ending_push x is ∙ ends)

  -- somebody is told
  tells_behind : (R : Type 0) {d : Domain} {closing : Option Closing} → Tells d closing old new → (is_ending (past_in own) ≡ true → R) → AllBehind R ⊤ own (known old.caller.seat) → AllBehind R ⊤ own' (known new.caller.seat)
  tells_behind R {d} {closing} tells quiet all =
      subst (λ (l : List Stamped). AllBehind R ⊤ l (known new.caller.seat)) (sym {A = List Stamped} (ap (λ (desk : Desk). desk.caller.work.own) tells.rest)) (given_by closing old (known new.caller.seat) tells.given quiet all)

  pub tells_last : {d : Domain} {closing : Option Closing} → Tells d closing old new → TellsLast old → TellsLast new
  tells_last tells all = tells_behind ⊤ tells (λ ending. tt) all

  pub tells_calm : {d : Domain} {closing : Option Closing} → Tells d closing old new → IsCalm old → IsCalm new
  tells_calm tells calm = (tells_behind ⊥ tells (λ ending. absurd (false≢true (sym calm.1 ∙ ending))) calm.0, ap (λ (desk : Desk). is_ending (past_in desk.caller.work.own)) tells.rest ∙ calm.1)

-- ---- where less is asked

pub told_last : (M : Type 0) (desk : Desk) → AllBehind ⊥ M desk.caller.work.own (known desk.caller.seat) → TellsLast desk
told_last M desk all =
    all_behind {R = ⊥} {L = M} {Q = ⊤} {M = ⊤} desk.caller.work.own desk.caller.work.own (known desk.caller.seat)
    (λ stamp behind. subst (λ (l : List Stamped). IsBehindEnd ⊤ ⊤ l stamp) (append-nil desk.caller.work.own) (behind_more {R = ⊤} {L = ⊤} {M = M} desk.caller.work.own [] stamp (λ any. tt) behind)) all

pub by_told : {X : Type 0} (going : List X) (desk : Desk) → ToldBy going desk → TellsLast desk
by_told [] desk told = told
by_told (life ∷ more) desk calm = told_last ⊤ desk calm.0

-- a worker that noted nothing told nobody
pub first_told : (desk : Desk) → desk.caller.work.own ≡ [] → FilledByEnds desk.caller.work.own (known desk.caller.seat) → TellsLast desk
first_told desk none filled k = All-weaker (EndedFor desk.caller.work.own) (FilledBehind ⊤ ⊤ desk.caller.work.own) (λ fill is. by fill.opening.request fill.answer.stamp fill.answer.answer is) (at k (known desk.caller.seat)).filled (filled k)
  where
    by : (request : RequestId) (stamp : Stamp) (o : Option Answer) → IfSome o (IsEnded desk.caller.work.own request stamp) → IfSome o (λ answer. IsBehindEnd ⊤ ⊤ desk.caller.work.own stamp)
    by request stamp None is = tt
    by request stamp (Some answer) is = let empty : Contains [] is.entry = subst (λ (l : List Stamped). Contains l is.entry) none is.stands in absurd (omega (arith, empty.1))
