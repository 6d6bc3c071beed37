-- What the workers leave is taken from them, one after the other.
use Rattle.std.proofs.Common.{◌≡◌, ℕ, suc, ◌+◌, ◌≤◌, List, [], ◌∷◌, ◌++◌, Option, Some, None, length, map, inl, inr, refl, sym, ◌∙◌, ap, subst, arith, length-append, append-nil, append_assoc}
use Rattle.std.specs.Prelude.{IfSome, IsSome, IsSomeAnd, vec_capacity}
use Rattle.std.specs.List.{All, AllZip, Contains, filter}
use Rattle.std.proofs.lemmas.Option.{slice_get_read}
use Rattle.std.proofs.lemmas.Slice.Zip.{AllZip-long}
use Rattle.std.proofs.Math.Seq.{get_or-append_seam}
use Rattle.std.proofs.lemmas.List.{map-append, get_or_append_left}
use Rattle.std.proofs.lemmas.List.Elements.{All-nil, All-push, All-pop, All-head, All-tail, Contains-push, Contains-append_left}
use Rattle.std.specs.declared.vec.Vec.{Vec}
use Rattle.std.specs.declared.alloc.Global.{Global}
use Rattle.xa_boot.specs.xa_types.Setup.{numbered, queue_of}
use Rattle.xa_boot.specs.xa_events.Homes.Home.{CallerHome}
use Rattle.xa_boot.specs.xa_events.Words.{EachNumbered}
use Rattle.xa_boot.specs.xa_stamp.declared.home.Stamped.{Stamped}
use Rattle.xa_boot.specs.xa_stamp.Home.{Notes}
use Rattle.xa_boot.specs.xa_lock.declared.makers.Made.{Made}
use Rattle.xa_boot.specs.xa_lock.declared.pass.LockPass.{LockPass}
use Rattle.xa_boot.specs.xa_cell.declared.tokens.Seat.{Seat}
use Rattle.xa_boot.specs.xa_worker.Crew.{stands_at}
use Rattle.xa_boot.specs.xa_held.declared.kept_board.BoardNote.{BoardNote}
use Rattle.xa_boot.specs.xa_held.declared.kept_queue.QueueNote.{QueueNote}
use Rattle.xa_boot.specs.xa_worker.declared.work.Halt.{Halt}
use Rattle.xa_boot.specs.xa_worker.declared.work.Halt.TheVariants as halts
use Rattle.xa_boot.specs.xa_worker.Work.{WorkState, IsSound}
use Rattle.xa_boot.specs.xa_caller.declared.cargo.Filling.{Filling}
use Rattle.xa_boot.specs.xa_pipe.Standing.{LifeState, Ending}
use Rattle.xa_history.specs.xa_script.declared.script.Client.{Client}
use Rattle.xa_boot.specs.xa_server.Served.{StarterShows}
use Rattle.xa_boot.specs.xa_desk.declared.domain.Domain.{Domain}
use Rattle.xa_boot.specs.xa_desk.declared.desk.Desk.{Desk}
use Rattle.xa_boot.specs.xa_desk.declared.stopped.Stopped.{Stopped}
use Rattle.xa_boot.specs.xa_desk.declared.stopped.Stopped.TheVariants.{Here, Elsewhere}
use Rattle.xa_boot.specs.xa_desk.Desks.{IsDesk, IsBoardPass, IsQueuePass, IsClockPass}
use Rattle.xa_boot.specs.xa_desk.Halting.{IsStopAt}
use Rattle.xa_boot.specs.xa_desk.Parting.{IsLeft}
use Rattle.xa_boot.specs.xa_desk.declared.departure.Done.{Done}
use Rattle.xa_boot.proofs.xa_client_worker.Ending.{stopped_still}
use Rattle.xa_boot.specs.xa_client_worker.declared.working.ClientWorker.{ClientWorker}
use Rattle.xa_boot.specs.xa_client_worker.declared.working.ClientWorker.TheVariants.{Ready, Working as AtWork, Left}
use Rattle.xa_boot.specs.xa_client_worker.declared.working.Ended.{Ended}
use Rattle.xa_boot.specs.xa_client_worker.Ending.{MayEnd, EndsAs, here_by}
use Rattle.xa_boot.specs.xa_server_worker.Lives.{ServerShows}
use Rattle.xa_boot.specs.xa_server_worker.declared.working.ServerWorker.{ServerWorker}
use Rattle.xa_boot.specs.xa_server_worker.Working.{cut_in}
use Rattle.xa_boot.specs.declared.closer.Closer.{Closer}
use Rattle.xa_boot.specs.Booting.{work_of}
use Rattle.xa_history.specs.Ended.{HasMadeAll, ServerEnd}
use Rattle.xa_domain.specs.Working.{EachDone, IsDone, IsGone, IsOver}
use Rattle.xa_domain.specs.Closing.{KeepsItsOwn, IsHaltBy, HasClosed}
use Rattle.xa_domain.specs.declared.gathering.Gathered.{Gathered}
use Rattle.xa_domain.specs.Joined.{end_of}
use Rattle.xa_domain.specs.Leaving.{Leaving, AreTokens, leaving_of, itself_of}
use Rattle.xa_domain.specs.Room.{IsNothing}
use Rattle.xa_domain.specs.Gathered.{IsLeftDesk, IsStopAmong, home_of_desk, HasGathered}
use Rattle.xa_domain.specs.declared.tokens.Tokens.{Tokens}
use Rattle.xa_domain.specs.Gathering.{HasSpace, HasTokenSpace, HasWorkerSpace, HasServerSpace, KeepsServers, AddsTokens, HasTaken, IsBeforeClients, HasClients, HasClientsSo, IsGivenUp, IsBeforeServers, HasServers, HasServersSo}
use Rattle.xa_domain.specs.Stops.{first_of, first_among, why_left}
use Rattle.xa_domain.proofs.GivenUp.{shows_still}
use Rattle.xa_domain.proofs.Adding.{no_tokens, token_space, empty_space, less_space, there_some, all_some}

-- ---- why it stopped

pub if_first : (P : Stopped → Type 0) (a b : Option Stopped) → IfSome a P → IfSome b P → IfSome (first_of a b) P
if_first P (Some (Here halt)) b p q = p
if_first P (Some Elsewhere) (Some s) p q = q
if_first P (Some Elsewhere) None p q = p
if_first P None (Some s) p q = q
if_first P None None p q = p

pub first_none : (a b : Option Stopped) → first_of a b ≡ None → (a ≡ None) × (b ≡ None)
first_none (Some (Here halt)) b is = absurd (cc is)
first_none (Some Elsewhere) (Some s) is = absurd (cc is)
first_none (Some Elsewhere) None is = absurd (cc is)
first_none None (Some s) is = absurd (cc is)
first_none None None is = (refl, refl)

first_push : (before : Option Stopped) (stops : List (Option Stopped)) (next : Option Stopped) → first_among before (stops ++ next ∷ []) ≡ first_of (first_among before stops) next
first_push before [] next = refl
first_push before (one ∷ stops) next = first_push (first_of before one) stops next

first_append : (before : Option Stopped) (stops more : List (Option Stopped)) → first_among before (stops ++ more) ≡ first_among (first_among before stops) more
first_append before [] more = refl
first_append before (one ∷ stops) more = first_append (first_of before one) stops more

-- with one more that stopped for that reason
first_more : {X : Type 0} (why : X → Option Stopped) (xs : List X) (x : X) (before now new next : Option Stopped) → new ≡ first_of now next → now ≡ first_among before (map why xs) → why x ≡ next → new ≡ first_among before (map why (xs ++ x ∷ []))
first_more why xs x before now new next is has same =
    is ∙ ap (λ (o : Option Stopped). first_of o next) has ∙ sym (ap (first_among before) (map-append why xs (x ∷ []) ∙ ap (λ (o : Option Stopped). map why xs ++ o ∷ []) same) ∙ first_push before (map why xs) next)

stops_more : (itself : WorkState) (desks more : List Desk) (s : Stopped) → IsStopAmong itself desks s → IsStopAmong itself (desks ++ more) s
stops_more itself desks more (Here halts.NoMemory) is = tt
stops_more itself desks more (Here (halts.Worn stamp)) is = (is.0, elim is.1 [ inl x ↦ inl x | inr y ↦ inr (y.0, Contains-append_left desks more y.0 y.1, y.2) ])
stops_more itself desks more Elsewhere is = tt

stops_last : (itself : WorkState) (desks : List Desk) (desk : Desk) (s : Stopped) → IsStopAt desk s → IsStopAmong itself (desks ++ desk ∷ []) s
stops_last itself desks desk (Here halts.NoMemory) is = tt
stops_last itself desks desk (Here (halts.Worn stamp)) is = (is.0, inr (desk, Contains-push desks desk, is.1))
stops_last itself desks desk Elsewhere is = tt

if_some : (P Q : Stopped → Type 0) (o : Option Stopped) → ((s : Stopped) → P s → Q s) → IfSome o P → IfSome o Q
if_some P Q None f p = tt
if_some P Q (Some s) f p = f s p

halt_stops : (d : Domain) (clients : List ClientWorker) (closer : Closer) (desks : List Desk) (o : Option Halt) → IfSome o (IsHaltBy clients closer) → IfSome (here_by o) (IsStopAmong (work_of d closer) desks)
halt_stops d clients closer desks None is = tt
halt_stops d clients closer desks (Some halts.NoMemory) is = tt
halt_stops d clients closer desks (Some (halts.Worn stamp)) is = (is.0, inl is.1)

no_halt : (o : Option Halt) → here_by o ≡ None → o ≡ None
no_halt None is = refl
no_halt (Some halt) is = absurd (cc is)

-- ---- one more worker

numbered-push : {X : Type 0} (P : ℕ → X → Type 0) (n : ℕ) (xs : List X) (x : X) → EachNumbered P n xs → P (n + length xs) x → EachNumbered P n (xs ++ x ∷ [])
numbered-push P n [] x each is = (subst (λ k. P k x) (omega arith) is, tt)
numbered-push P n (y ∷ xs) x each is = let same : n + suc (length xs) ≡ n + 1 + length xs = omega arith in (each.0, numbered-push P (n + 1) xs x each.1 (subst (λ k. P k x) same is))

home_same : (d : Domain) (desk : Desk) (work : WorkState) (entries : List Stamped) → IsDesk d desk → work ≡ desk.caller.work → entries ≡ filter (stands_at work.setup work.clients (CallerHome work.id.0)) work.own → entries ≡ home_of_desk d desk
home_same d desk work entries at_desk same is =
    let w : WorkState = desk.caller.work in
    is ∙ ap (λ (x : WorkState). filter (stands_at x.setup x.clients (CallerHome x.id.0)) x.own) same
    ∙ ap (λ setup. filter (stands_at setup w.clients (CallerHome w.id.0)) w.own) at_desk.setup ∙ ap (λ n. filter (stands_at d.setup n (CallerHome w.id.0)) w.own) at_desk.clients

module _ {L T : Type 0} (d : Domain) (itself : Leaving) where
  pub taken_more : (desks : List Desk) (old new : Gathered L T) (desk : Desk) (notes : Notes) (why : Option Stopped) → HasTaken d itself desks old → IsLeftDesk d (length desks + 1) desk
      → AddsTokens desk.caller.seat desk.board desk.queues.items desk.clock old.tokens new.tokens → new.callers.items ≡ old.callers.items ++ notes ∷ [] → notes.entries ≡ home_of_desk d desk
      → new.stopped ≡ first_of old.stopped why → IfSome why (IsStopAt desk) → HasTaken d itself (desks ++ desk ∷ []) new
  taken_more desks old new desk notes why taken left adds pushed home stopped halts =
      let entries : Notes → List Stamped = λ (n : Notes). n.entries in
      let P : Stopped → Type 0 = IsStopAmong itself.work (desks ++ desk ∷ []) in
      let number : length desks + 1 ≡ 1 + length desks = omega arith in
      record {
        tokens_are = subst (λ l. AreTokens (length d.queues.items) (itself ∷ l) new.tokens) (sym (map-append leaving_of desks (desk ∷ []))) (adds.are desk.caller.work (length d.queues.items) (itself ∷ map leaving_of desks) taken.tokens_are);
        callers_are = ap (map entries) pushed ∙ map-append entries old.callers.items (notes ∷ []) ∙ ap (λ l. l ++ notes.entries ∷ []) taken.callers_are ∙ ap (λ e. map (home_of_desk d) desks ++ e ∷ []) home ∙ sym (map-append (home_of_desk d) desks (desk ∷ []));
        each_desk = numbered-push (IsLeftDesk d) 1 desks desk taken.each_desk (subst (λ n. IsLeftDesk d n desk) number left);
        worn = subst (λ o. IfSome o P) (sym stopped) (if_first P old.stopped why (if_some (IsStopAmong itself.work desks) P old.stopped (stops_more itself.work desks (desk ∷ [])) taken.worn) (if_some (IsStopAt desk) P why (stops_last itself.work desks desk) halts));
      }

-- its seat and passes may be added
pub may_add : (d : Domain) (desk : Desk) (t : Tokens) (all : List Leaving) → IsDesk d desk → AreTokens (length d.queues.items) all t → IsSome desk.board × (length desk.queues.items ≡ length t.queues.items) × All IsSome desk.queues.items × IsSome desk.clock
may_add d desk t all is are = (
  there_some (IsBoardPass d desk.caller.work) desk.board is.board,
  is.count ∙ sym are.count,
  all_some (IsQueuePass d desk.caller.work) (length d.queues.items) desk.queues.items is.count is.queues,
  there_some (IsClockPass d desk.caller.work) desk.clock is.clock,
)

-- so may those that it left
pub done_may_add : (d : Domain) (done : Done) (desk : Desk) (t : Tokens) (all : List Leaving) → IsLeft done desk → IsDesk d desk → AreTokens (length d.queues.items) all t
    → IsSome done.board × (length done.queues.items ≡ length t.queues.items) × All IsSome done.queues.items × IsSome done.clock
done_may_add d done desk t all left is are =
    let may = may_add d desk t all is are in (
      subst (λ (b : Option (LockPass BoardNote)). IsSome b) (sym left.board) may.0,
      ap (λ (v : Vec (Option (LockPass (QueueNote Filling))) Global). length v.items) left.queues ∙ may.1,
      subst (λ (v : Vec (Option (LockPass (QueueNote Filling))) Global). All IsSome v.items) (sym left.queues) may.2,
      subst (λ (o : Option (LockPass Made)). IsSome o) (sym left.clock) may.3,
    )

adds_left : (done : Done) (desk : Desk) (old new : Tokens) → IsLeft done desk → AddsTokens done.left.seat done.board done.queues.items done.clock old new → AddsTokens desk.caller.seat desk.board desk.queues.items desk.clock old new
adds_left done desk old new left adds =
    subst (λ (s : Seat Filling). AddsTokens s desk.board desk.queues.items desk.clock old new) left.seat
    (subst (λ (b : Option (LockPass BoardNote)). AddsTokens done.left.seat b desk.queues.items desk.clock old new) left.board
    (subst (λ (q : Vec (Option (LockPass (QueueNote Filling))) Global). AddsTokens done.left.seat done.board q.items desk.clock old new) left.queues
    (subst (λ (o : Option (LockPass Made)). AddsTokens done.left.seat done.board done.queues.items o old new) left.clock adds)))

-- ---- clients

first_done : (d : Domain) (n : ℕ) (scripts : List Client) (client : ClientWorker) (left : List ClientWorker) → EachDone d n scripts (client ∷ left)
    → (script : Client) × (rest : List Client) × (scripts ≡ script ∷ rest) × IsDone d n script.ops client × EachDone d (n + 1) rest left
first_done d n [] client left each = absurd each
first_done d n (script ∷ rest) client left each = (script, rest, refl, each.0, each.1)

may_end : (d : Domain) (n : ℕ) (script : Client) (client : ClientWorker) → IsDone d n script.ops client → MayEnd d client
may_end d n script (Ready desk) done = absurd done
may_end d n script AtWork done = absurd done
may_end d n script (Left ended) done = tt

is_gone : (d : Domain) (n : ℕ) (script : Client) (client : ClientWorker) (ended : Ended) → IsDone d n script.ops client → EndsAs d client ended → IsGone d n script.ops ended × (client ≡ Left ended)
is_gone d n script (Ready desk) ended done ends = absurd done
is_gone d n script AtWork ended done ends = absurd done
is_gone d n script (Left e) ended done ends = (subst (IsGone d n script.ops) (sym ends) done, ap Left (sym ends))

zip_push : {A B : Type 0} (R : A → B → Type 0) (xs : List A) (ys : List B) (x : A) (y : B) → AllZip R xs ys → R x y → AllZip R (xs ++ x ∷ []) (ys ++ y ∷ [])
zip_push R [] [] x y all is = (is, tt)
zip_push R [] (b ∷ ys) x y all is = absurd all
zip_push R (a ∷ xs) [] x y all is = absurd all
zip_push R (a ∷ xs) (b ∷ ys) x y all is = (all.0, zip_push R xs ys x y all.1 is)

no_more : (d : Domain) (n : ℕ) (scripts : List Client) → EachDone d n scripts [] → scripts ≡ []
no_more d n [] each = refl
no_more d n (s ∷ scripts) each = absurd each

module _ {L T : Type 0} (d : Domain) (itself : Leaving) (scripts : List Client) (clients : List ClientWorker) (old : Gathered L T) where
  pub no_clients : IsBeforeClients d itself scripts clients old → HasClientsSo d itself scripts clients clients old old
  no_clients before = record {
    its = [];
    later = scripts;
    front = [];
    scripts_are = refl;
    clients_are = refl;
    has = record { desks = []; taken = before.taken; count = refl; keep = λ whole hold. All-nil (KeepsItsOwn d whole); made = λ none. tt; why = refl; before = λ none. none };
    left = before.done;
  }

  pub next_may_end : (rest left : List ClientWorker) (client : ClientWorker) (now : Gathered L T) → HasClientsSo d itself scripts clients rest old now → rest ≡ client ∷ left → MayEnd d client
  next_may_end rest left client now so_far is =
      let next = first_done d (length so_far.front + 1) so_far.later client left (subst (EachDone d (length so_far.front + 1) so_far.later) is so_far.left) in
      may_end d (length so_far.front + 1) next.0 client next.3

  pub client_may_add : (rest left : List ClientWorker) (client : ClientWorker) (ended : Ended) (now : Gathered L T) → HasClientsSo d itself scripts clients rest old now → rest ≡ client ∷ left → EndsAs d client ended
      → IsSome ended.done.board × (length ended.done.queues.items ≡ length now.tokens.queues.items) × All IsSome ended.done.queues.items × IsSome ended.done.clock
  client_may_add rest left client ended now so_far is ends =
      let n : ℕ = length so_far.front + 1 in
      let next = first_done d n so_far.later client left (subst (EachDone d n so_far.later) is so_far.left) in
      let gone : IsGone d n next.0.ops ended × (client ≡ Left ended) = is_gone d n next.0 client ended next.3 ends in
      done_may_add d ended.done gone.0.desk now.tokens (itself ∷ map leaving_of so_far.has.desks) gone.0.left gone.0.is so_far.has.taken.tokens_are

  pub all_clients : (rest : List ClientWorker) (now : Gathered L T) → rest ≡ [] → HasClientsSo d itself scripts clients rest old now → HasClients d itself scripts clients old now
  all_clients rest now none so_far =
      let no_script : so_far.later ≡ [] = no_more d (length so_far.front + 1) so_far.later (subst (EachDone d (length so_far.front + 1) so_far.later) none so_far.left) in
      let clients_are : so_far.front ≡ clients = sym (append-nil so_far.front) ∙ ap (λ l. so_far.front ++ l) (sym none) ∙ so_far.clients_are in
      let scripts_are : so_far.its ≡ scripts = sym (append-nil so_far.its) ∙ ap (λ l. so_far.its ++ l) (sym no_script) ∙ so_far.scripts_are in
      subst (λ ss. HasClients d itself ss clients old now) scripts_are (subst (λ cs. HasClients d itself so_far.its cs old now) clients_are so_far.has)

  -- one more, which left
  pub clients_more : (rest left : List ClientWorker) (client : ClientWorker) (ended : Ended) (now new : Gathered L T) (notes : Notes) → HasClientsSo d itself scripts clients rest old now → rest ≡ client ∷ left → EndsAs d client ended
      → new.stopped ≡ first_of now.stopped ended.stopped → AddsTokens ended.done.left.seat ended.done.board ended.done.queues.items ended.done.clock now.tokens new.tokens → new.callers.items ≡ now.callers.items ++ notes ∷ []
      → notes.entries ≡ filter (stands_at ended.done.left.work.setup ended.done.left.work.clients (CallerHome ended.done.left.work.id.0)) ended.done.left.work.own → IsSound ended.done.left.work
      → HasClientsSo d itself scripts clients left old new
  clients_more rest left client ended now new notes so_far is ends stopped adds pushed home sound =
      let n : ℕ = length so_far.front + 1 in
      let has = so_far.has in
      let count : length has.desks ≡ length so_far.front = has.count in
      let next = first_done d n so_far.later client left (subst (EachDone d n so_far.later) is so_far.left) in
      let gone : IsGone d n next.0.ops ended × (client ≡ Left ended) = is_gone d n next.0 client ended next.3 ends in
      let desk : Desk = gone.0.desk in
      let as_left = gone.0.left in
      let number : n ≡ length has.desks + 1 = omega (arith, count) in
      let more_desks = length-append has.desks (desk ∷ []) in
      let more_front = length-append so_far.front (client ∷ []) in
      let left_desk : IsLeftDesk d (length has.desks + 1) desk = subst (λ k. IsLeftDesk d k desk) number (record { is = gone.0.is; id = gone.0.id; sound = subst IsSound as_left.work sound; shut = as_left.shut }) in
      let added = adds_left ended.done desk now.tokens new.tokens as_left adds in
      let none_before : new.stopped ≡ None → (now.stopped ≡ None) × (ended.stopped ≡ None) = λ none. first_none now.stopped ended.stopped (sym stopped ∙ none) in
      record {
        its = so_far.its ++ next.0 ∷ [];
        later = next.1;
        front = so_far.front ++ client ∷ [];
        scripts_are = append_assoc so_far.its (next.0 ∷ []) next.1 ∙ ap (λ l. so_far.its ++ l) (sym next.2) ∙ so_far.scripts_are;
        clients_are = append_assoc so_far.front (client ∷ []) left ∙ ap (λ l. so_far.front ++ l) (sym is) ∙ so_far.clients_are;
        has = record {
          desks = has.desks ++ desk ∷ [];
          taken = taken_more d itself has.desks now new desk notes ended.stopped has.taken left_desk added pushed (home_same d desk ended.done.left.work notes.entries gone.0.is as_left.work home) stopped gone.0.halts;
          count = omega (arith, more_desks, more_front, count);
          keep = λ whole hold.
              let parts = All-pop (λ (x : Desk). All (Contains (whole.callers x.caller.work.id.0)) (home_of_desk d x)) (has.desks ++ desk ∷ []) has.desks (Some desk) refl hold in
              All-push (KeepsItsOwn d whole) so_far.front client (has.keep whole parts.0)
              (subst (KeepsItsOwn d whole) (sym gone.1) (subst (λ (w : WorkState). All (Contains (whole.callers w.id.0)) (filter (stands_at d.setup d.clients (CallerHome w.id.0)) w.own)) (sym as_left.work) parts.1));
          made = λ none. zip_push (λ (c : Client) (x : Desk). HasMadeAll d c.ops x) so_far.its has.desks next.0 desk (has.made (none_before none).0) (gone.0.all (none_before none).1);
          why = first_more why_left so_far.front client old.stopped now.stopped new.stopped ended.stopped stopped has.why (ap why_left gone.1);
          before = λ none. has.before (none_before none).0;
        };
        left = let one : n + 1 ≡ length (so_far.front ++ client ∷ []) + 1 = omega (arith, more_front) in subst (λ k. EachDone d k next.1 left) one next.4;
      }

-- ---- servers

module _ {L T : Type 0} (d : Domain) (shows : T → StarterShows) (itself : Leaving) (desks : List Desk) (servers : List (ServerWorker L T)) (old : Gathered L T) (starts : IsBeforeServers d shows itself desks servers old) where
  pub no_servers : HasServersSo d shows itself desks servers servers old old
  no_servers = record {
    front = [];
    servers_are = refl;
    has = record {
      ends = [];
      given_up = tt;
      taken = subst (λ l. HasTaken d itself l old) (sym (append-nil desks)) starts.taken;
      why = refl;
      before = λ none. none;
      going = λ none. All-nil (λ (w : ServerWorker L T). w.stopped ≡ None);
      lives_are = ap (map (λ (v : Vec Ending Global). v.items)) starts.no_lives;
      cut_are = ap (map cut_in) starts.no_cut;
      starters_are = starts.no_starters;
    };
    left = starts.over;
  }

  pub next_over : (rest left : List (ServerWorker L T)) (w : ServerWorker L T) (now : Gathered L T) → HasServersSo d shows itself desks servers rest old now → rest ≡ w ∷ left → (n : ℕ) × IsOver d shows n w
  next_over rest left w now so_far is = let n : ℕ = length so_far.front + 1 in (n, (subst (EachNumbered (IsOver d shows) n) is so_far.left).0)

  pub server_may_add : (rest : List (ServerWorker L T)) (done : Done) (ended : Desk) (now : Gathered L T) → HasServersSo d shows itself desks servers rest old now → IsLeft done ended → IsDesk d ended
      → IsSome done.board × (length done.queues.items ≡ length now.tokens.queues.items) × All IsSome done.queues.items × IsSome done.clock
  server_may_add rest done ended now so_far left is = done_may_add d done ended now.tokens (itself ∷ map leaving_of (desks ++ so_far.has.ends)) left is so_far.has.taken.tokens_are

  pub all_servers : (rest : List (ServerWorker L T)) (now : Gathered L T) → rest ≡ [] → HasServersSo d shows itself desks servers rest old now → HasServers d shows itself desks servers old now
  all_servers rest now none so_far =
      subst (λ ws. HasServers d shows itself desks ws old now) (sym (append-nil so_far.front) ∙ ap (λ l. so_far.front ++ l) (sym none) ∙ so_far.servers_are) so_far.has

  -- one more, which is given up
  pub servers_more : (rest left : List (ServerWorker L T)) (w : ServerWorker L T) (done : Done) (ended : Desk) (now new : Gathered L T) (notes : Notes)
      → HasServersSo d shows itself desks servers rest old now → rest ≡ w ∷ left → IsLeft done ended → IsGivenUp d w.desk ended
      → new.stopped ≡ first_of now.stopped w.stopped → AddsTokens done.left.seat done.board done.queues.items done.clock now.tokens new.tokens → new.callers.items ≡ now.callers.items ++ notes ∷ []
      → notes.entries ≡ filter (stands_at done.left.work.setup done.left.work.clients (CallerHome done.left.work.id.0)) done.left.work.own → IsSound done.left.work
      → new.lives.items ≡ now.lives.items ++ w.served.lives ∷ [] → new.cut.items ≡ now.cut.items ++ w.cut ∷ [] → new.starters.items ≡ now.starters.items ++ w.served.starter ∷ []
      → HasServersSo d shows itself desks servers left old new
  servers_more rest left w done ended now new notes so_far is as_left given stopped adds pushed home sound lives cut starters =
      let n : ℕ = length so_far.front + 1 in
      let has = so_far.has in
      let each : EachNumbered (IsOver d shows) n (w ∷ left) = subst (EachNumbered (IsOver d shows) n) is so_far.left in
      let over : IsOver d shows n w = each.0 in
      let id = over.id in
      let count = starts.count in
      let same = ap (λ (work : WorkState). work.id.0) given.work in
      let before : List Desk = desks ++ has.ends in
      let many = length-append desks has.ends in
      let each_front = AllZip-long (λ (x : ServerWorker L T) (desk : Desk). IsGivenUp d x.desk desk) so_far.front has.ends has.given_up in
      let number : ended.caller.work.id.0 ≡ length before + 1 = omega (arith, same, id, count, many, each_front) in
      let more_front = length-append so_far.front (w ∷ []) in
      let left_desk : IsLeftDesk d (length before + 1) ended = record { is = given.leads.desk; id = number; sound = subst IsSound as_left.work sound; shut = as_left.shut } in
      let halts : IfSome w.stopped (IsStopAt ended) = if_some (IsStopAt w.desk) (IsStopAt ended) w.stopped (λ s. stopped_still d w.desk ended s given.work) over.halts in
      let none_before : new.stopped ≡ None → (now.stopped ≡ None) × (w.stopped ≡ None) = λ none. first_none now.stopped w.stopped (sym stopped ∙ none) in
      let items : Vec Ending Global → List Ending = λ (v : Vec Ending Global). v.items in
      record {
        front = so_far.front ++ w ∷ [];
        servers_are = append_assoc so_far.front (w ∷ []) left ∙ ap (λ l. so_far.front ++ l) (sym is) ∙ so_far.servers_are;
        has = record {
          ends = has.ends ++ ended ∷ [];
          given_up = zip_push (λ (x : ServerWorker L T) (desk : Desk). IsGivenUp d x.desk desk) so_far.front has.ends w ended has.given_up given;
          taken = subst (λ l. HasTaken d itself l new) (append_assoc desks has.ends (ended ∷ []))
              (taken_more d itself before now new ended notes w.stopped has.taken left_desk (adds_left done ended now.tokens new.tokens as_left adds) pushed (home_same d ended done.left.work notes.entries given.leads.desk as_left.work home) stopped halts);
          before = λ none. has.before (none_before none).0;
          why = first_more (λ (x : ServerWorker L T). x.stopped) so_far.front w old.stopped now.stopped new.stopped w.stopped stopped has.why refl;
          going = λ none. All-push (λ (x : ServerWorker L T). x.stopped ≡ None) so_far.front w (has.going (none_before none).0) (none_before none).1;
          lives_are = ap (map items) lives ∙ map-append items now.lives.items (w.served.lives ∷ []) ∙ ap (λ l. l ++ w.served.lives.items ∷ []) has.lives_are ∙ sym (map-append (λ (x : ServerWorker L T). x.served.lives.items) so_far.front (w ∷ []));
          cut_are = ap (map cut_in) cut ∙ map-append cut_in now.cut.items (w.cut ∷ []) ∙ ap (λ l. l ++ cut_in w.cut ∷ []) has.cut_are ∙ sym (map-append (λ (x : ServerWorker L T). cut_in x.cut) so_far.front (w ∷ []));
          starters_are = starters ∙ ap (λ l. l ++ w.served.starter ∷ []) has.starters_are ∙ sym (map-append (λ (x : ServerWorker L T). x.served.starter) so_far.front (w ∷ []));
        };
        left = let one : n + 1 ≡ length (so_far.front ++ w ∷ []) + 1 = omega (arith, more_front) in subst (λ k. EachNumbered (IsOver d shows) k left) one each.1;
      }

-- ---- all of it

-- the one behind these
numbered_last : {X : Type 0} (front rest : List X) (x : X) (n : ℕ) → n ≡ length front + 1 → numbered n (front ++ x ∷ rest) ≡ Some x
numbered_last front rest x n is =
    let next : n ≡ suc (length front) = omega (arith, is) in
    let more = length-append front (x ∷ rest) in
    ap (λ k. numbered k (front ++ x ∷ rest)) next ∙ slice_get_read (front ++ x ∷ rest) (length (front ++ x ∷ rest)) (length front) x refl (omega (arith, more)) (sym (get_or-append_seam front x rest x))

made_each : (d : Domain) (front desks more : List Desk) (scripts : List Client) (n : ℕ) → n ≡ length front + 1 → AllZip (λ (c : Client) (desk : Desk). HasMadeAll d c.ops desk) scripts desks
    → EachNumbered (λ k (c : Client). IsSomeAnd (numbered k (front ++ (desks ++ more))) (HasMadeAll d c.ops)) n scripts
made_each d front desks more [] n is all = tt
made_each d front [] more (c ∷ scripts) n is all = absurd all
made_each d front (desk ∷ desks) more (c ∷ scripts) n is all =
    let longer = length-append front (desk ∷ []) in
    let next : n + 1 ≡ length (front ++ desk ∷ []) + 1 = omega (arith, is, longer) in (
      subst (λ o. IsSomeAnd o (HasMadeAll d c.ops)) (sym (numbered_last front (desks ++ more) desk n is)) all.0,
      subst (λ l. EachNumbered (λ k (x : Client). IsSomeAnd (numbered k l) (HasMadeAll d x.ops)) (n + 1) scripts) (append_assoc front (desk ∷ []) (desks ++ more)) (made_each d (front ++ desk ∷ []) desks more scripts (n + 1) next all.1),
    )

-- the same where less is asked
pub shows_weaker : (d : Domain) (name : List ℕ) (queue server : ℕ) (desk : Desk) (lives : List Ending) (cut : List LifeState) (shown : StarterShows) (Whole Less : Type 0) → (Less → Whole) → ServerShows d name queue server desk lives cut shown Whole → ServerShows d name queue server desk lives cut shown Less
shows_weaker d name queue server desk lives cut shown Whole Less from is = record {
  lives_are = is.lives_are;
  taken = is.taken;
  cut_off = is.cut_off;
  so_far = is.so_far;
  told = is.told;
  none_cut = λ whole. is.none_cut (from whole);
  lived = λ whole. is.lived (from whole);
  called = λ whole. is.called (from whole);
  started = λ whole. is.started (from whole);
  done = λ whole. is.done (from whole);
}

module _ {L T : Type 0} (d : Domain) (shows : T → StarterShows) where
  shows_each : (Whole : Type 0) (front : List Desk) (servers : List (ServerWorker L T)) (ends : List Desk) (n : ℕ) → d.clients + n ≡ length front + 1 → EachNumbered (IsOver d shows) n servers → AllZip (λ (w : ServerWorker L T) (desk : Desk). IsGivenUp d w.desk desk) servers ends
      → (Whole → All (λ (w : ServerWorker L T). w.stopped ≡ None) servers)
      → EachNumbered (λ k (x : ServerEnd). IsSomeAnd (numbered (d.clients + k) (front ++ ends)) (λ desk. ServerShows d x.shown.name (queue_of d.setup k) k desk x.lives x.cut x.shown Whole)) n (map (end_of shows) servers)
  shows_each Whole front [] ends n is over given going = tt
  shows_each Whole front (w ∷ servers) [] n is over given going = absurd given
  shows_each Whole front (w ∷ servers) (desk ∷ ends) n is over given going =
      let end = end_of shows w in
      let longer = length-append front (desk ∷ []) in
      let next : d.clients + (n + 1) ≡ length (front ++ desk ∷ []) + 1 = omega (arith, is, longer) in
      let whole : Whole → w.stopped ≡ None = λ all. All-head (λ (x : ServerWorker L T). x.stopped ≡ None) w servers (going all) in (
        subst (λ o. IsSomeAnd o (λ desk. ServerShows d end.shown.name (queue_of d.setup n) n desk end.lives end.cut end.shown Whole)) (sym (numbered_last front ends desk (d.clients + n) is))
            (shows_weaker d end.shown.name (queue_of d.setup n) n desk end.lives end.cut end.shown (w.stopped ≡ None) Whole whole (shows_still given.0 (queue_of d.setup n) n over.0.shown)),
        subst (λ l. EachNumbered (λ k (x : ServerEnd). IsSomeAnd (numbered (d.clients + k) l) (λ desk. ServerShows d x.shown.name (queue_of d.setup k) k desk x.lives x.cut x.shown Whole)) (n + 1) (map (end_of shows) servers)) (append_assoc front (desk ∷ []) ends)
            (shows_each Whole (front ++ desk ∷ []) servers ends (n + 1) next over.1 given.1 (λ all. All-tail (λ (x : ServerWorker L T). x.stopped ≡ None) w servers (going all))),
      )

  -- nothing was taken but the domain's own
  pub nothing_taken : (queues clients servers : ℕ) (closer : Closer) (room : Gathered L T) (t : Tokens) → IsNothing queues clients servers room → queues ≡ length d.queues.items → AddsTokens closer.seat closer.board closer.queues.items closer.clock room.tokens t → HasTaken d (itself_of d closer) [] (record room { tokens = t })
  nothing_taken queues clients servers closer room t nothing count adds = record {
    tokens_are = subst (λ n. AreTokens n (itself_of d closer ∷ []) t) count (adds.are (work_of d closer) queues [] (no_tokens queues (clients + servers + 1) room.tokens nothing.tokens_room));
    callers_are = ap (map (λ (n : Notes). n.entries)) nothing.callers_room.0;
    each_desk = tt;
    worn = subst (λ o. IfSome o (IsStopAmong (work_of d closer) [])) (sym nothing.going) tt;
  }

  pub before_servers : (queues clients count : ℕ) (itself : Leaving) (scripts : List Client) (workers : List ClientWorker) (servers : List (ServerWorker L T)) (room : Gathered L T) (t : Tokens) (g : Gathered L T) → IsNothing queues clients count room → KeepsServers (record room { tokens = t }) g
      → length workers ≡ d.clients → (has : HasClients d itself scripts workers (record room { tokens = t }) g) → EachNumbered (IsOver d shows) 1 servers → IsBeforeServers d shows itself has.desks servers g
  before_servers queues clients count itself scripts workers servers room t g nothing kept all has over = record {
    over = over;
    taken = has.taken;
    count = has.count ∙ all;
    no_lives = ap (λ (v : Vec (Vec Ending Global) Global). v.items) kept.same_lives ∙ nothing.lives_room.0;
    no_cut = ap (λ (v : Vec (Option LifeState) Global). v.items) kept.same_cut ∙ nothing.cut_room.0;
    no_starters = ap (λ (v : Vec T Global). v.items) kept.same_starters ∙ nothing.starters_room.0;
  }

  pub gathered : (scripts : List Client) (clients : List ClientWorker) (servers : List (ServerWorker L T)) (closer : Closer) (g0 g1 g2 : Gathered L T) (why : Option Stopped) → g0.stopped ≡ None → length clients ≡ d.clients → EachNumbered (IsOver d shows) 1 servers → HasClosed d clients closer
      → (has : HasClients d (itself_of d closer) scripts clients g0 g1) → HasServers d shows (itself_of d closer) has.desks servers g1 g2 → why ≡ first_of g2.stopped (here_by closer.halt) → HasGathered d shows scripts clients servers closer (record g2 { stopped = why })
  gathered scripts clients servers closer g0 g1 g2 why going all over closed has more is =
      let StopOf : ServerWorker L T → Option Stopped = λ (x : ServerWorker L T). x.stopped in
      let ends : List Desk = more.ends in
      let desks : List Desk = has.desks ++ ends in
      let count = has.count in
      let many = length-append has.desks ends in
      let each_server = AllZip-long (λ (w : ServerWorker L T) (desk : Desk). IsGivenUp d w.desk desk) servers ends more.given_up in
      let stopped : Option Stopped = first_of g2.stopped (here_by closer.halt) in
      let none_before : stopped ≡ None → (g2.stopped ≡ None) × (here_by closer.halt ≡ None) = first_none g2.stopped (here_by closer.halt) in
      let P : Stopped → Type 0 = IsStopAmong (work_of d closer) desks in
      let first : d.clients + 1 ≡ length has.desks + 1 = omega (arith, count, all) in
      subst (λ (s : Option Stopped). HasGathered d shows scripts clients servers closer (record g2 { stopped = s })) (sym is) (record {
        desks = desks;
        tokens_are = more.taken.tokens_are;
        callers_are = more.taken.callers_are;
        count = omega (arith, count, many, each_server, all);
        each_desk = more.taken.each_desk;
        keep = λ whole hold. has.keep whole (λ k x less. subst (λ y. All (Contains (whole.callers y.caller.work.id.0)) (home_of_desk d y)) (get_or_append_left has.desks ends x k less) (hold k x (omega (arith, less, many))));
        made = λ none. made_each d [] has.desks ends scripts 1 refl (has.made (more.before (none_before none).0));
        each = shows_each (stopped ≡ None) has.desks servers ends 1 first over more.given_up (λ none. more.going (none_before none).0);
        why = ap (λ (o : Option Stopped). first_of o (here_by closer.halt)) (more.why ∙ ap (λ (o : Option Stopped). first_among o (map StopOf servers)) (has.why ∙ ap (λ (o : Option Stopped). first_among o (map why_left clients)) going))
            ∙ sym (first_push None (map why_left clients ++ map StopOf servers) (here_by closer.halt) ∙ ap (λ (o : Option Stopped). first_of o (here_by closer.halt)) (first_append None (map why_left clients) (map StopOf servers)));
        itself = λ none. no_halt closer.halt (none_before none).1;
        worn = if_first P g2.stopped (here_by closer.halt) more.taken.worn (halt_stops d clients closer desks closer.halt closed.halts);
        lives_are = more.lives_are;
        cut_are = more.cut_are;
        starters_are = more.starters_are;
      })

-- ---- room

module _ {L T : Type 0} where
  pub less_workers : (n m : ℕ) (g : Gathered L T) → n ≤ m → HasWorkerSpace m g → HasWorkerSpace n g
  less_workers n m g less room = let callers = room.callers_space in record { tokens_space = less_space n m g.tokens less room.tokens_space; callers_space = omega (arith, less, callers) }

  -- there is room for the one that comes next
  pub next_room : {X : Type 0} (all rest left : List X) (x : X) (old now : Gathered L T) → rest ≡ x ∷ left → ((more : ℕ) → HasWorkerSpace (length all + more) old → HasWorkerSpace (length rest + more) now) → HasWorkerSpace (length all) old → HasWorkerSpace 1 now
  next_room all rest left x old now is keeps room =
      let same : length all ≡ length all + 0 = omega arith in
      let some = ap length is in
      less_workers 1 (length rest + 0) now (omega (arith, some)) (keeps 0 (subst (λ n. HasWorkerSpace n old) same room))

  pub one_worker_less : (n m : ℕ) (seat : Seat Filling) (board : Option (LockPass BoardNote)) (queues : List (Option (LockPass (QueueNote Filling)))) (clock : Option (LockPass Made)) (notes : Notes) (old new : Gathered L T)
      → m ≡ n + 1 → AddsTokens seat board queues clock old.tokens new.tokens
      → new.callers.items ≡ old.callers.items ++ notes ∷ [] → vec_capacity new.callers ≡ vec_capacity old.callers → HasWorkerSpace m old → HasWorkerSpace n new
  one_worker_less n m seat board queues clock notes old new one adds pushed same room =
      let callers = room.callers_space in
      let more = ap length pushed in
      let longer = length-append old.callers.items (notes ∷ []) in
      record { tokens_space = adds.space n (subst (λ k. HasTokenSpace k old.tokens) one room.tokens_space); callers_space = omega (arith, callers, more, longer, same, one) }

  pub room_after : (queues clients servers : ℕ) (seat : Seat Filling) (board : Option (LockPass BoardNote)) (passes : List (Option (LockPass (QueueNote Filling)))) (clock : Option (LockPass Made)) (room : Gathered L T) (t : Tokens)
      → IsNothing queues clients servers room → AddsTokens seat board passes clock room.tokens t
      → HasWorkerSpace (clients + servers) (record room { tokens = t })
  room_after queues clients servers seat board passes clock room t nothing adds = record {
    tokens_space = adds.space (clients + servers) (token_space queues (clients + servers + 1) room.tokens nothing.tokens_room);
    callers_space = empty_space (clients + servers) room.callers nothing.callers_room.0 nothing.callers_room.1;
  }

  pub server_room : (queues clients servers : ℕ) (room : Gathered L T) (t : Tokens) (g : Gathered L T) → IsNothing queues clients servers room → KeepsServers (record room { tokens = t }) g → HasWorkerSpace servers g → HasServerSpace servers g
  server_room queues clients servers room t g nothing kept space = record {
    worker_space = space;
    lives_space = subst (HasSpace servers) (sym kept.same_lives) (empty_space servers room.lives nothing.lives_room.0 nothing.lives_room.1);
    cut_space = subst (HasSpace servers) (sym kept.same_cut) (empty_space servers room.cut nothing.cut_room.0 nothing.cut_room.1);
    starters_space = subst (HasSpace servers) (sym kept.same_starters) (empty_space servers room.starters nothing.starters_room.0 nothing.starters_room.1);
  }

pub one_less : {X : Type 0} (n m : ℕ) (x : X) (old new : Vec X Global) → m ≡ n + 1 → new.items ≡ old.items ++ x ∷ [] → vec_capacity new ≡ vec_capacity old → HasSpace m old → HasSpace n new
one_less n m x old new one pushed same room =
    let more = ap length pushed in
    let longer = length-append old.items (x ∷ []) in
    omega (arith, room, more, longer, same, one)
