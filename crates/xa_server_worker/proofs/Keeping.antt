-- The lives of a server as its worker goes on.
use Rattle.std.proofs.Common.{◌≡◌, ◌≢◌, ◌≤◌, ℕ, zero, suc, ◌+◌, ◌==◌, ◌&&◌, Bool, true, false, cond, List, [], ◌∷◌, ◌++◌, map, Option, None, refl, sym, ◌∙◌, ap, subst, append-nil, arith, append_assoc, Some}
use Rattle.xa_desk.specs.xa_caller.declared.phase.Phase.TheVariants as phases
use Rattle.xa_desk.specs.xa_caller.declared.phase.Phase.{Phase}
use Rattle.xa_desk.specs.xa_events.Local.{worker_events}
use Rattle.std.specs.Prelude.{reverse, take, drop}
use Rattle.std.specs.List.{All, cons_option, filter_map}
use Rattle.std.proofs.lemmas.Bool.{ne_eqb, false≢true}
use Rattle.std.proofs.Common.{eq-eqb, eqb-true}
use Rattle.std.proofs.lemmas.List.{map_push, reverse-append}
use Rattle.std.proofs.lemmas.List.Elements.{All-nil, All-cons, All-head, All-tail, All-push, All-append, All-weaker}
use Rattle.xa_desk.specs.xa_types.declared.ids.Generation.{Generation}
use Rattle.xa_desk.specs.xa_types.declared.setup.Setup.{Setup}
use Rattle.xa_desk.specs.xa_types.declared.call.Op.{Op}
use Rattle.xa_desk.specs.xa_types.declared.ids.RequestId.{RequestId}
use Rattle.xa_desk.specs.xa_worker.Going.{FitEach}
use Rattle.xa_desk.specs.xa_events.declared.event.Event.{Event}
use Rattle.xa_desk.specs.xa_events.declared.event.Event.TheVariants.{Take, Forward, Gone, Start, StartFailed, End, Stop, Accept}
use Rattle.xa_desk.specs.xa_events.declared.event.Taken.{Taken}
use Rattle.xa_desk.specs.xa_events.Words.{AtEach, count}
use Rattle.xa_desk.specs.xa_events.Homes.{Home, of_worker}
use Rattle.xa_desk.specs.xa_events.Homes.Home.{QueueHome}
use Rattle.xa_desk.specs.xa_events.Caller.{is_call_of, newest_call, op_of, accepted_in, just_accepted}
use Rattle.xa_desk.specs.xa_events.Said.{is_op}
use Rattle.xa_desk.specs.xa_events.State.{caller_of}
use Rattle.xa_desk.specs.xa_events.Server.{doing}
use Rattle.xa_desk.specs.xa_events.declared.event.Doing.{Doing}
use Rattle.xa_desk.specs.xa_events.declared.event.Doing.TheVariants.{Busy}
use Rattle.xa_desk.specs.xa_events.Cases.{IsShut}
use Rattle.xa_desk.specs.xa_frame.declared.frame.Frame.{Frame}
use Rattle.xa_desk.specs.xa_stamp.declared.home.Stamped.{Stamped}
use Rattle.xa_desk.specs.xa_worker.Seen.{past_in, SawQueue}
use Rattle.xa_desk.proofs.xa_worker.Lists.{count_part, past_in-append}
use Rattle.xa_desk.specs.xa_held.declared.cargo.Invocation.{Invocation}
use Rattle.xa_desk.specs.xa_worker.Work.{WorkState, theirs}
use Rattle.xa_desk.specs.xa_pipe.Frames.{is_of_life, is_take_in, is_busy_in}
use Rattle.xa_desk.specs.xa_pipe.Life.{stops_life, StopsSpent}
use Rattle.xa_desk.specs.xa_pipe.Standing.{LifeState, Ending, invokes_of}
use Rattle.xa_desk.specs.xa_pipe.Following.{is_of, due_in_life, AreCall, HasStopped}
use Rattle.xa_desk.proofs.xa_pipe.Followed.{stopped_beside}
use Rattle.xa_desk.proofs.xa_pipe.Dues.{call_of_none, due_beside, due_elsewhere}
use Rattle.xa_desk.proofs.xa_worker.Calls.{call_of_worker}
use Rattle.xa_desk.specs.declared.domain.Domain.{Domain}
use Rattle.xa_desk.specs.declared.desk.Desk.{Desk}
use Rattle.xa_desk.specs.Whole.{entries_of, Whole}
use Rattle.xa_desk.specs.Desks.{Leads, FitsCalls, GoesOn, IsOver}
use Rattle.xa_desk.specs.Serving.{IsSentFor}
use Rattle.xa_server_worker.specs.Lives.{generation_in, lives_in, fails_start, failed_starts, IsHanded, EndsShut, IsLived}
use Rattle.xa_server_worker.specs.Steps.{Steps}
use Rattle.xa_server_worker.specs.Standing.{HasLived, HasCalled, IsGoing}
use Rattle.xa_desk.proofs.xa_pipe.Followed.{follows_led, stopped_led}
use Rattle.xa_server_worker.specs.Reasons.{ShowsReason}
use Rattle.xa_server_worker.proofs.Reasons.{reason_led}

-- ---- events of one life

-- the event is of that life, or gives the server up
abbrev pub OfLife : ℕ → Event → Type 0
OfLife g (Take t) = t.generation.0 ≡ g
OfLife g (Forward f) = f.generation.0 ≡ g
OfLife g (End e) = e.generation.0 ≡ g
OfLife g (Stop x) = x.generation.0 ≡ g
OfLife g (Gone s) = Unit {0}
OfLife g _ = ⊥

and_no : (a b : Bool) → b ≡ false → (a && b) ≡ false
and_no true b off = off
and_no false b off = refl

-- so it is of no other life
pub other_life : (server g h : ℕ) → h ≢ g → (e : Event) → OfLife g e → is_of server h e ≡ false
other_life server g h apart (Take t) its = and_no (t.server.0 == server) (t.generation.0 == h) (ne_eqb t.generation.0 h (λ same. apart (sym same ∙ its)))
other_life server g h apart (Forward f) its = and_no (f.server.0 == server) (f.generation.0 == h) (ne_eqb f.generation.0 h (λ same. apart (sym same ∙ its)))
other_life server g h apart (End e) its = and_no (e.server.0 == server) (e.generation.0 == h) (ne_eqb e.generation.0 h (λ same. apart (sym same ∙ its)))
other_life server g h apart (Stop x) its = and_no (x.server.0 == server) (x.generation.0 == h) (ne_eqb x.generation.0 h (λ same. apart (sym same ∙ its)))
other_life server g h apart (Gone s) its = refl
other_life server g h apart _ its = absurd its

-- and no start
no_start : (server g : ℕ) (e : Event) → OfLife g e → generation_in server e ≡ None
no_start server g (Take t) its = refl
no_start server g (Forward f) its = refl
no_start server g (End e) its = refl
no_start server g (Stop x) its = refl
no_start server g (Gone s) its = refl
no_start server g _ its = absurd its

no_failure : (server g : ℕ) (e : Event) → OfLife g e → fails_start server e ≡ false
no_failure server g (Take t) its = refl
no_failure server g (Forward f) its = refl
no_failure server g (End e) its = refl
no_failure server g (Stop x) its = refl
no_failure server g (Gone s) its = refl
no_failure server g _ its = absurd its

-- what gives nothing of some is what it gives of the others
pub skip_map : {Y : Type 0} (f : Event → Option Y) (more own : List Event) → All (λ (e : Event). f e ≡ None) more → filter_map f (more ++ own) ≡ filter_map f own
skip_map f [] own none = refl
skip_map f (e ∷ more) own none = ap (λ o. cons_option o (filter_map f (more ++ own))) (All-head (λ (x : Event). f x ≡ None) e more none) ∙ skip_map f more own (All-tail (λ (x : Event). f x ≡ None) e more none)

pub skip_count : (p : Event → Bool) (more own : List Event) → All (λ (e : Event). p e ≡ false) more → count p (more ++ own) ≡ count p own
skip_count p [] own none = refl
skip_count p (e ∷ more) own none = ap (λ b. cond b (count p (more ++ own) + 1) (count p (more ++ own))) (All-head (λ (x : Event). p x ≡ false) e more none) ∙ skip_count p more own (All-tail (λ (x : Event). p x ≡ false) e more none)

-- ---- what was handed on

wider : (n : ℕ) (asked more : List Frame) (f : Frame) → take 1 (drop n asked) ≡ f ∷ [] → take 1 (drop n (asked ++ more)) ≡ f ∷ []
wider zero [] more f is = absurd (cc is)
wider zero (x ∷ asked) more f is = is
wider (suc n) [] more f is = absurd (cc is)
wider (suc n) (x ∷ asked) more f is = wider n asked more f is

-- what takes were sent for
abbrev pub Sendings : Type 1
Sendings = Taken → Invocation → Type 0

module _ (server g : ℕ) where
  handed_one : (asked more : List Frame) (Sent Still : Sendings) → ((t : Taken) (what : Invocation) → Sent t what → Still t what) → (e : Event) (before : List Event) → IsHanded server g asked Sent e before → IsHanded server g (asked ++ more) Still e before
  handed_one asked more Sent Still on (Take t) before handed = λ its.
      let it = handed its in
      (it.0, on t it.0 it.1, wider (count (is_take_in server g) before) asked more _ it.2)
  handed_one asked more Sent Still on _ before handed = tt

  pub handed_wider : (asked more : List Frame) (Sent Still : Sendings) → ((t : Taken) (what : Invocation) → Sent t what → Still t what) → (own : List Event) → AtEach (IsHanded server g asked Sent) own → AtEach (IsHanded server g (asked ++ more) Still) own
  handed_wider asked more Sent Still on [] each = tt
  handed_wider asked more Sent Still on (e ∷ own) each = (handed_one asked more Sent Still on e own each.0, handed_wider asked more Sent Still on own each.1)

  handed_none : (asked : List Frame) (Sent : Sendings) (e : Event) (before : List Event) → is_of server g e ≡ false → IsHanded server g asked Sent e before
  handed_none asked Sent (Take t) before other = λ its. absurd (false≢true (sym other ∙ its))
  handed_none asked Sent _ before other = tt

  pub handed_more : (asked : List Frame) (Sent : Sendings) (more own : List Event) → All (λ (e : Event). is_of server g e ≡ false) more → AtEach (IsHanded server g asked Sent) own → AtEach (IsHanded server g asked Sent) (more ++ own)
  handed_more asked Sent [] own none each = each
  handed_more asked Sent (e ∷ more) own none each =
      (handed_none asked Sent e (more ++ own) (All-head (λ (x : Event). is_of server g x ≡ false) e more none), handed_more asked Sent more own (All-tail (λ (x : Event). is_of server g x ≡ false) e more none) each)

  -- what was sent so in the end was so for a desk that goes on, too
  pub handed_led : (d : Domain) (queue : ℕ) (old new : Desk) (asked : List Frame) (own : List Event) → Leads d old new → AtEach (IsHanded server g asked (IsSentFor d queue old)) own → AtEach (IsHanded server g asked (IsSentFor d queue new)) own
  handed_led d queue old new asked own leads each =
      subst (λ (fs : List Frame). AtEach (IsHanded server g fs (IsSentFor d queue new)) own) (append-nil asked)
      (handed_wider asked [] (IsSentFor d queue old) (IsSentFor d queue new) (λ t what sent whole on. sent whole (leads.before whole on)) own each)

-- ---- what isn't among the worker's own events isn't among all that it noted

count_append : (p : Event → Bool) (xs ys : List Event) → count p (xs ++ ys) ≡ count p xs + count p ys
count_append p [] ys = omega arith
count_append p (x ∷ xs) ys = by (p x) (count_append p xs ys)
  where
    by : (b : Bool) → count p (xs ++ ys) ≡ count p xs + count p ys → cond b (count p (xs ++ ys) + 1) (count p (xs ++ ys)) ≡ cond b (count p xs + 1) (count p xs) + count p ys
    by true is = omega (arith, is)
    by false is = is

pub none_counted : (p : Event → Bool) (xs : List Stamped) → count p (past_in xs) ≡ 0 → All (λ (x : Stamped). p x.event ≡ false) xs
none_counted p [] none = All-nil (λ (x : Stamped). p x.event ≡ false)
none_counted p (x ∷ xs) none =
    let parts : count p (past_in (x ∷ xs)) ≡ count p (past_in xs) + count p (x.event ∷ []) = ap (count p) (past_in-append (x ∷ []) xs) ∙ count_append p (past_in xs) (x.event ∷ []) in
    All-cons (λ (y : Stamped). p y.event ≡ false) x xs (by (p x.event) refl (omega (arith, none, parts))) (none_counted p xs (omega (arith, none, parts)))
  where
    by : (b : Bool) → p x.event ≡ b → count p (x.event ∷ []) ≡ 0 → p x.event ≡ false
    by false is nothing = is
    by true is nothing = absurd (let one : count p (x.event ∷ []) ≡ 1 = ap (λ (b : Bool). cond b 1 0) is in omega (arith, one, nothing))

pub stops_none : (server g : ℕ) (e : Event) → is_of server g e ≡ false → stops_life server g e ≡ false
stops_none server g (Stop x) other = other
stops_none server g _ other = refl

-- an end of a life of the server is the worker's own
pub stops_own : (clients worker server g : ℕ) → clients + server ≡ worker → (e : Event) → stops_life server g e ≡ true → of_worker clients worker e ≡ true
stops_own clients worker server g number (Stop x) is = eq-eqb (clients + x.server.0) worker (ap (λ n. clients + n) (eqb_left x.server.0 x.generation.0 is) ∙ number)
  where
    eqb_left : (s h : ℕ) → is_of_life server g s h ≡ true → s ≡ server
    eqb_left s h is = eqb-true s server (by (s == server) (h == g) is)
      where
        by : (a b : Bool) → (a && b) ≡ true → a ≡ true
        by true b is = refl
        by false b is = is
stops_own clients worker server g number _ is = absurd (false≢true is)

-- ---- what was noted, and lives that ended

no_call : (caller g : ℕ) (e : Event) → OfLife g e → is_call_of caller e ≡ false
no_call caller g (Take t) its = refl
no_call caller g (Forward f) its = refl
no_call caller g (End e) its = refl
no_call caller g (Stop x) its = refl
no_call caller g (Gone s) its = refl
no_call caller g _ its = absurd its

pub no_calls : (caller g : ℕ) (more : List Event) → All (OfLife g) more → All (λ (e : Event). is_call_of caller e ≡ false) more
no_calls caller g more its = All-weaker (OfLife g) (λ (e : Event). is_call_of caller e ≡ false) (no_call caller g) more its

-- what the worker noted since, beside the lives of its server but the one with that number: it is no event of theirs, and tells nothing in them
pub record Spares (d : Domain) (server made : ℕ) (more : List Event) (old new : Desk) : Type 0 where
  pub steps : Steps d more old new
  pub number : old.caller.work.clients + server ≡ old.caller.work.id.0
  pub others : (g : ℕ) → g ≢ made → All (λ (e : Event). is_of server g e ≡ false) more
  pub due : (g : ℕ) → g ≢ made → due_in_life d.clients server g (theirs new.caller.work) ≡ due_in_life d.clients server g (theirs old.caller.work)

-- and no start
pub record Adds (d : Domain) (server made : ℕ) (more : List Event) (old new : Desk) : Type 0 where
  pub spares : Spares d server made more old new
  pub starts : All (λ (e : Event). generation_in server e ≡ None) more
  pub failures : All (λ (e : Event). fails_start server e ≡ false) more

-- so it is with what is of no life of the server, and of no call
pub spares_by : {d : Domain} {old new : Desk} {more : List Event} → Steps d more old new → (server made : ℕ) → old.caller.work.clients + server ≡ old.caller.work.id.0 → ((g : ℕ) → g ≢ made → All (λ (e : Event). is_of server g e ≡ false) more)
    → All (λ (e : Event). is_call_of (caller_of d.clients server) e ≡ false) more → Spares d server made more old new
spares_by {d} {old} {new} {more} steps server made number others idle = record {
  steps = steps;
  number = number;
  others = others;
  due = λ g apart. ap (due_in_life d.clients server g) steps.own ∙ due_beside d.clients server g more (theirs old.caller.work) (others g apart) idle;
}

-- the events of that life are so
pub life_adds : {d : Domain} {old new : Desk} {more : List Event} → Steps d more old new → (server made : ℕ) → old.caller.work.clients + server ≡ old.caller.work.id.0 → All (OfLife made) more → Adds d server made more old new
life_adds {d} {old} {new} {more} steps server made number its =
    let others : (g : ℕ) → g ≢ made → All (λ (e : Event). is_of server g e ≡ false) more = λ g apart. All-weaker (OfLife made) (λ (e : Event). is_of server g e ≡ false) (other_life server made g apart) more its in
    record {
      spares = spares_by steps server made number others (no_calls (caller_of d.clients server) made more its);
      starts = All-weaker (OfLife made) (λ (e : Event). generation_in server e ≡ None) (no_start server made) more its;
      failures = All-weaker (OfLife made) (λ (e : Event). fails_start server e ≡ false) (no_failure server made) more its;
    }

-- and so are those of a new call that was made in it
pub call_no_start : (caller n server : ℕ) (e : Event) → is_op caller n e ≡ true → generation_in server e ≡ None
call_no_start caller n server (Start b) is = absurd (cc is)
call_no_start caller n server _ is = refl

pub call_no_failure : (caller n server : ℕ) (e : Event) → is_op caller n e ≡ true → fails_start server e ≡ false
call_no_failure caller n server (StartFailed b) is = absurd (cc is)
call_no_failure caller n server _ is = refl

-- what holds of each event of a call
pub each_call : (caller n : ℕ) (P : Event → Type 0) → ((e : Event) → is_op caller n e ≡ true → P e) → (more : List Event) → AreCall caller n more → All P more
each_call caller n P each (e ∷ []) is = All-cons P e [] (each e is) (All-nil P)
each_call caller n P each (e ∷ a ∷ []) (is, other, its, accepts) = All-cons P e (a ∷ []) (each e is) (All-cons P a [] (each a its) (All-nil P))
each_call caller n P each [] are = absurd are
each_call caller n P each (e ∷ a ∷ b ∷ more) are = absurd are

not_busy : (g made : ℕ) (doing : Doing) (generation : Generation) (request : RequestId) → doing ≡ Busy generation request → generation.0 ≡ made → g ≢ made → is_busy_in g doing ≡ false
not_busy g made doing generation request is number apart = ap (is_busy_in g) is ∙ ne_eqb generation.0 g (λ same. apart (sym same ∙ number))

pub call_adds : {d : Domain} {old new : Desk} {more : List Event} → Steps d more old new → (server made n : ℕ) (generation : Generation) (request : RequestId) → old.caller.work.clients + server ≡ old.caller.work.id.0
    → AreCall (caller_of d.clients server) n more → count (is_op (caller_of d.clients server) n) (theirs old.caller.work) ≡ 0 → doing server (theirs old.caller.work) ≡ Busy generation request → generation.0 ≡ made
    → Adds d server made more old new
call_adds {d} {old} {new} {more} steps server made n generation request number are fresh busy its = record {
  spares = record {
    steps = steps;
    number = number;
    others = λ g apart. each_call (caller_of d.clients server) n (λ (e : Event). is_of server g e ≡ false) (call_of_none (caller_of d.clients server) n server g) more are;
    due = λ g apart. ap (due_in_life d.clients server g) steps.own
        ∙ due_elsewhere d.clients server g n more (theirs old.caller.work) are fresh (not_busy g made (doing server (theirs old.caller.work)) generation request busy its apart);
  };
  starts = each_call (caller_of d.clients server) n (λ (e : Event). generation_in server e ≡ None) (call_no_start (caller_of d.clients server) n server) more are;
  failures = each_call (caller_of d.clients server) n (λ (e : Event). fails_start server e ≡ false) (call_no_failure (caller_of d.clients server) n server) more are;
}

module _ {d : Domain} {old new : Desk} {more : List Event} (steps : Steps d more old new) where
  -- what was noted since passes no test that the worker's own events alone pass, where none of these does
  pub rest_none : (p : Event → Bool) → ((e : Event) → p e ≡ true → of_worker old.caller.work.clients old.caller.work.id.0 e ≡ true) → All (λ (e : Event). p e ≡ false) more → All (λ (x : Stamped). p x.event ≡ false) steps.leads.own.0
  rest_none p its none =
      let w : WorkState = old.caller.work in
      let w' : WorkState = new.caller.work in
      let rest : List Stamped = steps.leads.own.0 in
      let its' : (e : Event) → p e ≡ true → of_worker w'.clients w'.id.0 e ≡ true = λ e is. ap (λ n. of_worker n w'.id.0 e) steps.clients ∙ (ap (λ i. of_worker w.clients i.0 e) steps.id ∙ its e is) in
      let now : count p (theirs w') ≡ count p (past_in w'.own) = count_part p (of_worker w'.clients w'.id.0) its' (past_in w'.own) in
      let before : count p (theirs w) ≡ count p (past_in w.own) = count_part p (of_worker w.clients w.id.0) its (past_in w.own) in
      let same : count p (theirs w') ≡ count p (theirs w) = ap (count p) steps.own ∙ skip_count p more (theirs w) none in
      let parts : count p (past_in w'.own) ≡ count p (past_in rest) + count p (past_in w.own) = ap (λ l. count p (past_in l)) steps.leads.own.1 ∙ ap (count p) (past_in-append w.own rest) ∙ count_append p (past_in rest) (past_in w.own) in
      none_counted p rest (omega (arith, now, before, same, parts))

  pub shut_on : (queue : ℕ) (over : Ending) → old.caller.work.clients + over.life.server.0 ≡ old.caller.work.id.0 → All (λ (e : Event). is_of over.life.server.0 over.life.generation.0 e ≡ false) more → EndsShut d queue old over → EndsShut d queue new over
  shut_on queue over number none shut whole on =
      let P : Stamped → Type 0 = λ x. stops_life over.life.server.0 over.life.generation.0 x.event ≡ true → SawQueue d.setup queue (entries_of whole (QueueHome queue)) x.stamp (IsShut d.setup queue) in
      let unstopped = rest_none (stops_life over.life.server.0 over.life.generation.0) (stops_own old.caller.work.clients old.caller.work.id.0 over.life.server.0 over.life.generation.0 number)
      (All-weaker (λ (e : Event). is_of over.life.server.0 over.life.generation.0 e ≡ false) (λ (e : Event). stops_life over.life.server.0 over.life.generation.0 e ≡ false) (stops_none over.life.server.0 over.life.generation.0) more none) in
      subst (All P) (sym {A = List Stamped} steps.leads.own.1)
      (All-append P old.caller.work.own steps.leads.own.0 (shut whole (steps.leads.before whole on))
      (All-weaker (λ (x : Stamped). stops_life over.life.server.0 over.life.generation.0 x.event ≡ false) P (λ x off is. absurd (false≢true (sym off ∙ is))) steps.leads.own.0 unstopped))

  pub going_on : (queue : ℕ) (own : List Event) (life : LifeState) → IsGoing d queue old own life → IsGoing d queue new own life
  going_on queue own life is =
      record { follows = follows_led d.setup (ShowsReason d old) (ShowsReason d new) (reason_led d old new steps.leads) d.clients life own is.follows; handed = handed_led life.server.0 life.generation.0 d queue old new (invokes_of life) own steps.leads is.handed }

-- its server's calls had come to their end before its end, which isn't among these
spent_more : (clients server g : ℕ) (more own : List Event) → All (λ (e : Event). is_of server g e ≡ false) more → AtEach (StopsSpent clients server g) own → AtEach (StopsSpent clients server g) (more ++ own)
spent_more clients server g [] own none each = each
spent_more clients server g (e ∷ more) own none each = (
  λ stops. absurd (false≢true (sym (stops_none server g e (All-head (λ (x : Event). is_of server g x ≡ false) e more none)) ∙ stops)),
  spent_more clients server g more own (All-tail (λ (x : Event). is_of server g x ≡ false) e more none) each,
)

module _ {d : Domain} {old new : Desk} {more : List Event} {server made : ℕ} (spares : Spares d server made more old new) where
  abbrev steps : Steps d more old new
  steps = spares.steps

  -- a life that ended stays so
  pub lived_one : (name : List ℕ) (queue : ℕ) (over : Ending) → over.life.generation.0 ≢ made → IsLived d name queue server old over → IsLived d name queue server new over
  lived_one name queue over apart is =
      let g : ℕ = over.life.generation.0 in
      let none = spares.others g apart in
      let ours : All (λ (e : Event). is_of over.life.server.0 g e ≡ false) more = subst (λ s. All (λ (e : Event). is_of s g e ≡ false) more) (sym is.its) none in
      let due : due_in_life d.clients over.life.server.0 g (more ++ theirs old.caller.work) ≡ due_in_life d.clients over.life.server.0 g (theirs old.caller.work) =
      ap (due_in_life d.clients over.life.server.0 g) (sym steps.own) ∙ subst (λ s. due_in_life d.clients s g (theirs new.caller.work) ≡ due_in_life d.clients s g (theirs old.caller.work)) (sym is.its) (spares.due g apart) in
      record {
        over_is = is.over_is;
        its = is.its;
        named = is.named;
        stopped = subst (HasStopped d.setup d.clients (ShowsReason d new) over) (sym {A = List Event} steps.own)
            (stopped_beside d.setup d.clients over more (theirs old.caller.work) ours due (stopped_led d.setup (ShowsReason d old) (ShowsReason d new) (reason_led d old new steps.leads) d.clients over (theirs old.caller.work) is.stopped));
        shut = λ turn. shut_on steps queue over (ap (λ s. old.caller.work.clients + s) is.its ∙ spares.number) ours (is.shut turn);
        spent = λ turn. subst (AtEach (StopsSpent d.clients over.life.server.0 g)) (sym {A = List Event} steps.own) (spent_more d.clients over.life.server.0 g more (theirs old.caller.work) ours (is.spent turn));
        handed = subst (AtEach (IsHanded server g (invokes_of over.life) (IsSentFor d queue new))) (sym {A = List Event} steps.own)
            (handed_more server g (invokes_of over.life) (IsSentFor d queue new) more (theirs old.caller.work) none (handed_led server g d queue old new (invokes_of over.life) (theirs old.caller.work) steps.leads is.handed));
      }

  -- and so do all, where that life is none of theirs
  pub lived_all : (name : List ℕ) (queue : ℕ) (lives : List Ending) → All (λ (over : Ending). over.life.generation.0 ≢ made) lives → All (IsLived d name queue server old) lives → All (IsLived d name queue server new) lives
  lived_all name queue [] apart each = All-nil (IsLived d name queue server new)
  lived_all name queue (over ∷ lives) apart each =
      All-cons (IsLived d name queue server new) over lives
      (lived_one name queue over (All-head (λ (x : Ending). x.life.generation.0 ≢ made) over lives apart) (All-head (IsLived d name queue server old) over lives each))
      (lived_all name queue lives (All-tail (λ (x : Ending). x.life.generation.0 ≢ made) over lives apart) (All-tail (IsLived d name queue server old) over lives each))

  unborn_more : (g : ℕ) → g ≢ made → All (λ (e : Event). is_of server g e ≡ false) (theirs old.caller.work) → All (λ (e : Event). is_of server g e ≡ false) (theirs new.caller.work)
  unborn_more g apart unborn =
      let P : Event → Type 0 = λ e. is_of server g e ≡ false in
      subst (All P) (sym {A = List Event} steps.own) (All-append P more (theirs old.caller.work) (spares.others g apart) unborn)

module _ {d : Domain} {old new : Desk} {more : List Event} {server made : ℕ} (adds : Adds d server made more old new) where
  abbrev its_steps : Steps d more old new
  its_steps = adds.spares.steps

  pub lives_same : lives_in server (theirs new.caller.work) ≡ lives_in server (theirs old.caller.work)
  lives_same = ap (lives_in server) its_steps.own ∙ ap reverse (skip_map (generation_in server) more (theirs old.caller.work) adds.starts)

  pub failed_same : failed_starts server (theirs new.caller.work) ≡ failed_starts server (theirs old.caller.work)
  failed_same = ap (failed_starts server) its_steps.own ∙ skip_count (fails_start server) more (theirs old.caller.work) adds.failures

  -- ---- with the life that goes on

  -- the life that goes on noted these
  pub lives_on : (name : List ℕ) (queue : ℕ) (lives : List Ending) (g : Generation) → HasLived d name queue server made old lives (g ∷ []) → HasLived d name queue server made new lives (g ∷ [])
  lives_on name queue lives g is = record {
    are = is.are ∙ sym lives_same;
    each = lived_all adds.spares name queue lives (All-weaker (λ (x : Ending). x.life.generation.0 + 1 ≤ made) (λ (x : Ending). x.life.generation.0 ≢ made) (λ x low same. absurd (omega (arith, low, same))) lives is.earlier) is.each;
    earlier = is.earlier;
    unborn = λ h above. unborn_more adds.spares h (λ same. absurd (omega (arith, same, above))) (is.unborn h above);
    untold = λ h above. adds.spares.due h (λ same. absurd (omega (arith, same, above))) ∙ is.untold h above;
  }

  -- and ended, as it is kept
  pub lives_end : (name : List ℕ) (queue : ℕ) (lives : List Ending) (over : Ending) → over.life.generation.0 ≡ made → IsLived d name queue server new over
      → HasLived d name queue server made old lives (over.life.generation ∷ []) → HasLived d name queue server made new (lives ++ over ∷ []) []
  lives_end name queue lives over last ended is =
      let on = lives_on name queue lives over.life.generation is in
      record {
        are = append-nil (map (λ (x : Ending). x.life.generation) (lives ++ over ∷ [])) ∙ map_push (λ (x : Ending). x.life.generation) lives over ∙ on.are;
        each = All-push (IsLived d name queue server new) lives over on.each ended;
        earlier = All-push (λ (x : Ending). x.life.generation.0 + 0 ≤ made) lives over (All-weaker (λ (x : Ending). x.life.generation.0 + 1 ≤ made) (λ (x : Ending). x.life.generation.0 + 0 ≤ made) (λ x low. omega (arith, low)) lives on.earlier) (omega (arith, last));
        unborn = on.unborn;
        untold = on.untold;
      }

-- while the server is off nothing of a life is noted
pub lives_off : {d : Domain} {old new : Desk} {more : List Event} {server : ℕ} → ((g : ℕ) → Adds d server g more old new) → (name : List ℕ) (queue made : ℕ) (lives : List Ending) → HasLived d name queue server made old lives [] → HasLived d name queue server made new lives []
lives_off {d} {old} {new} {more} {server} adds name queue made lives is = record {
  are = is.are ∙ sym (lives_same (adds 0));
  each = lived_all (adds (made + 1)).spares name queue lives (All-weaker (λ (x : Ending). x.life.generation.0 + 0 ≤ made) (λ (x : Ending). x.life.generation.0 ≢ made + 1) (λ x low same. absurd (omega (arith, low, same))) lives is.earlier) is.each;
  earlier = is.earlier;
  unborn = λ h above. unborn_more (adds made).spares h (λ same. absurd (omega (arith, same, above))) (is.unborn h above);
  untold = λ h above. (adds made).spares.due h (λ same. absurd (omega (arith, same, above))) ∙ is.untold h above;
}

-- ---- its calls

newest_kept : (caller : ℕ) (e : Event) (past : List Event) → is_call_of caller e ≡ false → newest_call caller (e ∷ past) ≡ newest_call caller past
unfolding newest_call
newest_kept caller e past none = rw none refl

pub newest_same : (caller : ℕ) (more own : List Event) → All (λ (e : Event). is_call_of caller e ≡ false) more → newest_call caller (more ++ own) ≡ newest_call caller own
newest_same caller [] own none = refl
newest_same caller (e ∷ more) own none =
    newest_kept caller e (more ++ own) (All-head (λ (x : Event). is_call_of caller x ≡ false) e more none) ∙ newest_same caller more own (All-tail (λ (x : Event). is_call_of caller x ≡ false) e more none)

-- what was noted behind these is of no call
fit_more : (setup : Setup) (clients : ℕ) (entries : Home → List Stamped) (caller : ℕ) (ops : List Op) (own rest : List Stamped) → All (λ (x : Stamped). is_call_of caller x.event ≡ false) rest → FitEach setup clients entries caller ops own
    → FitEach setup clients entries caller ops (own ++ rest)
fit_more setup clients entries caller ops own [] none fits = subst (FitEach setup clients entries caller ops) (sym (append-nil own)) fits
fit_more setup clients entries caller ops own (x ∷ rest) none fits =
    let first = All-head (λ (y : Stamped). is_call_of caller y.event ≡ false) x rest none in
    subst (FitEach setup clients entries caller ops) (append_assoc own (x ∷ []) rest)
    (fit_more setup clients entries caller ops (own ++ x ∷ []) rest (All-tail (λ (y : Stamped). is_call_of caller y.event ≡ false) x rest none)
    (subst (AtEach _) (sym (reverse-append own (x ∷ []))) ((λ is. absurd (false≢true (sym first ∙ is))), fits)))

-- no request of its calls is out, so that the last is over
none_over : (phase : Phase) (ops : List Op) (newest : Option Event) → accepted_in newest ≡ None → IsOver phase ops newest
none_over phases.Idle ops None none = refl
none_over phases.Idle ops (Some (Accept a)) none = absurd (cc none)
none_over phases.Idle ops (Some _) none = refl
none_over (phases.Prepared draft) ops None none = refl
none_over (phases.Prepared draft) ops (Some (Accept a)) none = absurd (cc none)
none_over (phases.Prepared draft) ops (Some _) none = refl
none_over (phases.Sent sent) ops newest none = tt
none_over (phases.Lost request) ops newest none = tt

pub desk_over : (d : Domain) (desk : Desk) (ops : List Op) → desk.caller.work.clients ≡ d.clients → just_accepted desk.caller.work.id.0 (theirs desk.caller.work) ≡ None
    → IsOver desk.caller.phase ops (newest_call desk.caller.work.id.0 (worker_events d.clients desk.caller.work.id.0 (past_in desk.caller.work.own)))
desk_over d desk ops clients none =
    none_over desk.caller.phase ops (newest_call desk.caller.work.id.0 (worker_events d.clients desk.caller.work.id.0 (past_in desk.caller.work.own)))
    (subst (λ (n : ℕ). accepted_in (newest_call desk.caller.work.id.0 (worker_events n desk.caller.work.id.0 (past_in desk.caller.work.own))) ≡ None) clients none)

module _ {d : Domain} {old new : Desk} {more : List Event} (steps : Steps d more old new) where
  -- what it noted is of no call
  pub fits_still : (ops : List Op) → All (λ (e : Event). is_call_of old.caller.work.id.0 e ≡ false) more → just_accepted new.caller.work.id.0 (theirs new.caller.work) ≡ None → FitsCalls d ops old → FitsCalls d ops new
  fits_still ops none over fits = record { each = each_still; over = desk_over d new ops steps.leads.desk.clients over }
    where
      each_still : (whole : Whole) → GoesOn d whole new → FitEach d.setup d.clients (entries_of whole) new.caller.work.id.0 ops new.caller.work.own
      each_still whole on =
          let caller : ℕ = old.caller.work.id.0 in
          subst (λ i. FitEach d.setup d.clients (entries_of whole) i ops new.caller.work.own) (ap (λ i. i.0) (sym steps.id))
          (subst (FitEach d.setup d.clients (entries_of whole) caller ops) (sym {A = List Stamped} steps.leads.own.1)
          (fit_more d.setup d.clients (entries_of whole) caller ops old.caller.work.own steps.leads.own.0 (rest_none steps (is_call_of caller) (call_of_worker old.caller.work.clients caller) none) (fits.each whole (steps.leads.before whole on))))

  pub called_still : (ops : List Op) → All (λ (e : Event). is_call_of old.caller.work.id.0 e ≡ false) more → HasCalled d ops old → HasCalled d ops new
  called_still ops none is =
      let caller : ℕ = old.caller.work.id.0 in
      let same : newest_call new.caller.work.id.0 (theirs new.caller.work) ≡ newest_call caller (theirs old.caller.work) =
      ap (λ i. newest_call i.0 (theirs new.caller.work)) steps.id ∙ (ap (newest_call caller) steps.own ∙ newest_same caller more (theirs old.caller.work) none) in
      record {
        last = ap op_of same ∙ is.last;
        over = ap accepted_in same ∙ is.over;
        fits = λ behind. fits_still (ops ++ behind) none (ap accepted_in same ∙ is.over) (is.fits behind);
      }
