-- What was due to the program of a life by its server's events, and how that grows.
use Rattle.std.proofs.Common.{◌≡◌, ℕ, zero, suc, ◌+◌, ◌%◌, ◌^◌, ◌==◌, ◌&&◌, not, Bool, true, false, List, [], ◌∷◌, ◌++◌, length, Option, Some, None, refl, sym, ◌∙◌, ap, append-nil, eq-eqb, eqb-true, arith}
use Rattle.std.specs.Prelude.{cond, take, drop, map, nat_lt, if◌then◌else◌}
use Rattle.std.specs.List.{All, filter}
use Rattle.std.proofs.lemmas.Bool.{and_parts}
use Rattle.std.proofs.lemmas.List.{length-append}
use Rattle.std.proofs.lemmas.List.Elements.{All-head, All-tail, filter-append}
use Rattle.xa_types.specs.declared.reply.Reply.{Reply as Told}
use Rattle.xa_types.specs.declared.reply.Reply.TheVariants.{Answered}
use Rattle.xa_frame.specs.declared.frame.Frame.{Frame}
use Rattle.xa_events.specs.declared.event.Event.{Event}
use Rattle.xa_events.specs.declared.event.Event.TheVariants.{Take, Forward, Start, StartFailed, End, Stop, Accept, Answer}
use Rattle.xa_events.specs.declared.event.Doing.{Doing}
use Rattle.xa_events.specs.declared.event.Taken.{Taken}
use Rattle.xa_events.specs.Words.{count, latest, from_each}
use Rattle.xa_events.specs.State.{caller_of}
use Rattle.xa_events.specs.Server.{doing, doing_after, moves_server}
use Rattle.xa_events.specs.Caller.{is_call_of, op_in, last_op, newest_call, op_of}
use Rattle.xa_events.specs.Said.{is_op, reply_shown_by, reply_at}
use Rattle.xa_pipe.specs.Frames.{is_of_life, is_take_in, invocation, is_busy_in, is_call_in, is_answered, replied_at, reply_frame, is_invoke_body, invokes_in}
use Rattle.xa_pipe.specs.Following.{is_of, is_accept, AreCall, shape, due_at, due_in_life}

-- ---- calls

-- an event of a call is no move of a server
pub call_moves_none : (caller n server : ℕ) (e : Event) → is_op caller n e ≡ true → moves_server server e ≡ false
call_moves_none caller n server (Take t) is = absurd (cc is)
call_moves_none caller n server (Forward f) is = absurd (cc is)
call_moves_none caller n server (Start b) is = absurd (cc is)
call_moves_none caller n server (StartFailed b) is = absurd (cc is)
call_moves_none caller n server (End e) is = absurd (cc is)
call_moves_none caller n server (Stop x) is = absurd (cc is)
call_moves_none caller n server e is = refl

-- nor one of a life's own events
pub call_of_none : (caller n server g : ℕ) (e : Event) → is_op caller n e ≡ true → is_of server g e ≡ false
call_of_none caller n server g (Take t) is = absurd (cc is)
call_of_none caller n server g (Forward f) is = absurd (cc is)
call_of_none caller n server g (End e) is = absurd (cc is)
call_of_none caller n server g (Stop x) is = absurd (cc is)
call_of_none caller n server g e is = refl

call_take_none : (caller n server g : ℕ) (e : Event) → is_op caller n e ≡ true → is_take_in server g e ≡ false
call_take_none caller n server g (Take t) is = absurd (cc is)
call_take_none caller n server g e is = refl

its_number : (caller n : ℕ) (e : Event) → is_op caller n e ≡ true → op_in e ≡ n
its_number caller n e is = eqb-true (op_in e) n (and_parts (is_call_of caller e) (op_in e == n) is).1

is_call : (caller n : ℕ) (e : Event) → is_op caller n e ≡ true → is_call_of caller e ≡ true
is_call caller n e is = (and_parts (is_call_of caller e) (op_in e == n) is).0

-- what is of one call is of no other
other_call : (caller n k : ℕ) (m : Event) → is_op caller n m ≡ true → (k == n) ≡ false → is_op caller k m ≡ false
other_call caller n k m is other = by_one (is_op caller k m) refl
  where
    by_one : (b : Bool) → is_op caller k m ≡ b → is_op caller k m ≡ false
    by_one false same = same
    by_one true same = let equal : (k == n) ≡ true = eq-eqb k n (sym (its_number caller k m same) ∙ its_number caller n m is) in absurd (cc (sym equal ∙ other))

count_less : {X : Type 0} (p : X → Bool) (m : X) (all : List X) → p m ≡ false → count p (m ∷ all) ≡ count p all
count_less p m all none = rw none refl

count_more : {X : Type 0} (p : X → Bool) (m : X) (all : List X) → p m ≡ true → count p (m ∷ all) ≡ count p all + 1
count_more p m all one = rw one refl

-- none of these is counted
pub none_counted : {X : Type 0} (p : X → Bool) (m : X) (all : List X) → count p (m ∷ all) ≡ 0 → (p m ≡ false) × (count p all ≡ 0)
none_counted p m all none = by_one (p m) refl
  where
    by_one : (b : Bool) → p m ≡ b → (p m ≡ false) × (count p all ≡ 0)
    by_one false is = (is, sym (count_less p m all is) ∙ none)
    by_one true is = absurd (omega (arith, count_more p m all is, none))

module _ (clients server g : ℕ) where
  abbrev caller : ℕ
  caller = caller_of clients server

  -- ---- what is added changes nothing that was due

  replied_step : (e : Event) (before all now : List Event) → (is_call_of caller e ≡ true → is_answered caller now e ≡ is_answered caller all e)
      → replied_at clients server g now e before ≡ replied_at clients server g all e before
  replied_step e before all now same = by_one (is_call_of caller e) refl
    where
      by_one : (b : Bool) → is_call_of caller e ≡ b → replied_at clients server g now e before ≡ replied_at clients server g all e before
      by_one true is = ap (λ (answered : Bool). if is_call_in clients server g e before && not answered then reply_frame (invocation server g before) (reply_shown_by e before) ∷ [] else []) (same is)
      by_one false is = rw is refl

  due_step : (e : Event) (before all now : List Event) → (is_call_of caller e ≡ true → is_answered caller now e ≡ is_answered caller all e) → due_at clients server g now e before ≡ due_at clients server g all e before
  due_step (Take t) before all now same = refl
  due_step e before all now same = ap (λ (fs : List Frame). map (λ (f : Frame). Some f) fs) (replied_step e before all now same)

  answered_idle : (m e : Event) (all : List Event) → is_call_of caller m ≡ false → is_answered caller (m ∷ all) e ≡ is_answered caller all e
  answered_idle m (Accept a) all idle = let none : is_op caller a.op m ≡ false = rw idle refl in ap (λ (k : ℕ). nat_lt 1 k) (count_less (is_op caller a.op) m all none)
  answered_idle m e all idle = refl

  answered_other : (n : ℕ) (m e : Event) (all : List Event) → is_op caller n m ≡ true → is_op caller n e ≡ false → is_call_of caller e ≡ true → is_answered caller (m ∷ all) e ≡ is_answered caller all e
  answered_other n m (Accept a) all is other called =
      let apart : (a.op == n) ≡ false = rw called at other in
      ap (λ (k : ℕ). nat_lt 1 k) (count_less (is_op caller a.op) m all (other_call caller n a.op m is apart))
  answered_other n m e all is other called = refl

  due_same : (all now past : List Event) → ((e : Event) (before : List Event) → due_at clients server g now e before ≡ due_at clients server g all e before)
      → from_each (due_at clients server g now) past ≡ from_each (due_at clients server g all) past
  due_same all now [] same = refl
  due_same all now (e ∷ past) same =
      ap (λ (fs : List (Option Frame)). fs ++ due_at clients server g now e past) (due_same all now past same)
      ∙ ap (λ (fs : List (Option Frame)). from_each (due_at clients server g all) past ++ fs) (same e past)

  due_fresh : (n : ℕ) (m : Event) (all past : List Event) → is_op caller n m ≡ true → count (is_op caller n) past ≡ 0
      → from_each (due_at clients server g (m ∷ all)) past ≡ from_each (due_at clients server g all) past
  due_fresh n m all [] is none = refl
  due_fresh n m all (e ∷ past) is none =
      let parts = none_counted (is_op caller n) e past none in
      ap (λ (fs : List (Option Frame)). fs ++ due_at clients server g (m ∷ all) e past) (due_fresh n m all past is parts.1)
      ∙ ap (λ (fs : List (Option Frame)). from_each (due_at clients server g all) past ++ fs) (due_step e past all (m ∷ all) (λ called. answered_other n m e all is parts.0 called))

  -- ---- one event more

  replied_idle : (e : Event) (all past : List Event) → is_call_in clients server g e past ≡ false → replied_at clients server g all e past ≡ []
  replied_idle e all past idle = rw idle refl

  not_due : (e : Event) (all past : List Event) → is_of server g e ≡ false → is_call_in clients server g e past ≡ false → due_at clients server g all e past ≡ []
  not_due (Take t) all past other idle = rw other refl
  not_due e all past other idle = ap (λ (fs : List Frame). map (λ (f : Frame). Some f) fs) (replied_idle e all past idle)

  idle_in : (e : Event) (past : List Event) → is_call_of caller e ≡ false → is_call_in clients server g e past ≡ false
  idle_in e past idle = rw idle refl

  neither : (e : Event) (all past : List Event) → is_take_in server g e ≡ false → is_call_of caller e ≡ false → due_at clients server g all e past ≡ []
  neither (Take t) all past other idle = rw other refl
  neither e all past other idle = ap (λ (fs : List Frame). map (λ (f : Frame). Some f) fs) (replied_idle e all past (idle_in e past idle))

  -- one that is none of the life's, and of no call
  pub due_idle : (e : Event) (own : List Event) → is_of server g e ≡ false → is_call_of caller e ≡ false → due_in_life clients server g (e ∷ own) ≡ due_in_life clients server g own
  due_idle e own other idle =
      ap (λ (fs : List (Option Frame)). from_each (due_at clients server g (e ∷ own)) own ++ fs) (not_due e (e ∷ own) own other (idle_in e own idle))
      ∙ (append-nil (from_each (due_at clients server g (e ∷ own)) own)
      ∙ due_same own (e ∷ own) own (λ x before. due_step x before own (e ∷ own) (λ called. answered_idle e x own idle)))

  -- one that is neither a take nor of a call
  pub due_unmoved : (e : Event) (own : List Event) → is_take_in server g e ≡ false → is_call_of caller e ≡ false → due_in_life clients server g (e ∷ own) ≡ due_in_life clients server g own
  due_unmoved e own other idle =
      ap (λ (fs : List (Option Frame)). from_each (due_at clients server g (e ∷ own)) own ++ fs) (neither e (e ∷ own) own other idle)
      ∙ (append-nil (from_each (due_at clients server g (e ∷ own)) own)
      ∙ due_same own (e ∷ own) own (λ x before. due_step x before own (e ∷ own) (λ called. answered_idle e x own idle)))

  pub due_take : (t : Taken) (own : List Event) → is_of_life server g t.server.0 t.generation.0 ≡ true → due_in_life clients server g (Take t ∷ own) ≡ due_in_life clients server g own ++ None ∷ []
  due_take t own its =
      ap (λ (fs : List (Option Frame)). from_each (due_at clients server g (Take t ∷ own)) own ++ fs) (rw its refl)
      ∙ ap (λ (fs : List (Option Frame)). fs ++ None ∷ []) (due_same own (Take t ∷ own) own (λ x before. due_step x before own (Take t ∷ own) (λ called. answered_idle (Take t) x own refl)))

  -- ---- one call more

  -- what is due by it: the REPLY, where the server is busy in the life
  abbrev told_by : Bool → List Event → Told → List (Option Frame)
  told_by busy own reply = if busy then Some (reply_frame (invocation server g own) reply) ∷ [] else []

  told_if : (busy : Bool) (own : List Event) (reply : Told) → map (λ (f : Frame). Some f) (if busy then reply_frame (invocation server g own) reply ∷ [] else []) ≡ told_by busy own reply
  told_if true own reply = refl
  told_if false own reply = refl

  replied_last : (e : Event) (all past : List Event) → is_call_of caller e ≡ true → is_answered caller all e ≡ false
      → replied_at clients server g all e past ≡ (if is_busy_in g (doing server past) then reply_frame (invocation server g past) (reply_shown_by e past) ∷ [] else [])
  replied_last e all past called whole = by_one (is_busy_in g (doing server past)) refl
    where
      by_one : (b : Bool) → is_busy_in g (doing server past) ≡ b
          → replied_at clients server g all e past ≡ (if is_busy_in g (doing server past) then reply_frame (invocation server g past) (reply_shown_by e past) ∷ [] else [])
      by_one true is = rw called (rw whole (rw is refl))
      by_one false is = rw called (rw is refl)

  replied_none : (e : Event) (all past : List Event) → is_answered caller all e ≡ true → replied_at clients server g all e past ≡ []
  replied_none e all past answered = by_one (is_call_in clients server g e past) refl
    where
      by_one : (b : Bool) → is_call_in clients server g e past ≡ b → replied_at clients server g all e past ≡ []
      by_one true is = rw is (rw answered refl)
      by_one false is = rw is refl

  due_last : (n : ℕ) (e : Event) (all past : List Event) → is_op caller n e ≡ true → is_answered caller all e ≡ false
      → due_at clients server g all e past ≡ told_by (is_busy_in g (doing server past)) past (reply_shown_by e past)
  due_last n (Take t) all past is whole = absurd (cc is)
  due_last n e all past is whole =
      ap (λ (fs : List Frame). map (λ (f : Frame). Some f) fs) (replied_last e all past (is_call caller n e is) whole) ∙ told_if (is_busy_in g (doing server past)) past (reply_shown_by e past)

  due_answered : (a : Event) (all past : List Event) → is_accept a ≡ true → is_answered caller all a ≡ true → due_at clients server g all a past ≡ []
  due_answered (Accept a) all past accepts answered = ap (λ (fs : List Frame). map (λ (f : Frame). Some f) fs) (replied_none (Accept a) all past answered)
  due_answered a all past accepts answered = absurd (cc accepts)

  first_whole : (n : ℕ) (e : Event) (own : List Event) → is_op caller n e ≡ true → count (is_op caller n) own ≡ 0 → is_answered caller (e ∷ own) e ≡ false
  first_whole n (Accept a) own is none =
      ap (λ (k : ℕ). nat_lt 1 (count (is_op caller k) (Accept a ∷ own))) (its_number caller n (Accept a) is)
      ∙ ap (λ (k : ℕ). nat_lt 1 k) (count_more (is_op caller n) (Accept a) own is ∙ ap (λ (k : ℕ). k + 1) none)
  first_whole n e own is none = refl

  other_whole : (e : Event) (all : List Event) → is_accept e ≡ false → is_answered caller all e ≡ false
  other_whole (Accept a) all no_accept = absurd (cc no_accept)
  other_whole e all no_accept = refl

  both_answered : (n : ℕ) (e a : Event) (own : List Event) → is_op caller n e ≡ true → is_op caller n a ≡ true → is_accept a ≡ true → count (is_op caller n) own ≡ 0 → is_answered caller (e ∷ a ∷ own) a ≡ true
  both_answered n e (Accept a) own is its accepts none =
      ap (λ (k : ℕ). nat_lt 1 (count (is_op caller k) (e ∷ Accept a ∷ own))) (its_number caller n (Accept a) its)
      ∙ ap (λ (k : ℕ). nat_lt 1 k) (count_more (is_op caller n) e (Accept a ∷ own) is ∙ ap (λ (k : ℕ). k + 1) (count_more (is_op caller n) (Accept a) own its ∙ ap (λ (k : ℕ). k + 1) none))
  both_answered n e a own is its accepts none = absurd (cc accepts)

  due_one : (n : ℕ) (e : Event) (own : List Event) → is_op caller n e ≡ true → count (is_op caller n) own ≡ 0
      → due_in_life clients server g (e ∷ own) ≡ due_in_life clients server g own ++ told_by (is_busy_in g (doing server own)) own (reply_shown_by e own)
  due_one n e own is none =
      ap (λ (fs : List (Option Frame)). fs ++ due_at clients server g (e ∷ own) e own) (due_fresh n e own own is none)
      ∙ ap (λ (fs : List (Option Frame)). due_in_life clients server g own ++ fs) (due_last n e (e ∷ own) own is (first_whole n e own is none))

  same_doing : (n : ℕ) (a : Event) (own : List Event) → is_op caller n a ≡ true → doing server (a ∷ own) ≡ doing server own
  unfolding doing
  same_doing n a own is = rw (call_moves_none caller n server a is) refl

  same_invocation : (n : ℕ) (a : Event) (own : List Event) → is_op caller n a ≡ true → invocation server g (a ∷ own) ≡ invocation server g own
  unfolding invocation
  same_invocation n a own is = rw (call_take_none caller n server g a is) refl

  due_two : (n : ℕ) (e a : Event) (own : List Event) → is_op caller n e ≡ true → is_accept e ≡ false → is_op caller n a ≡ true → is_accept a ≡ true → count (is_op caller n) own ≡ 0
      → due_in_life clients server g (e ∷ a ∷ own) ≡ due_in_life clients server g own ++ told_by (is_busy_in g (doing server own)) own (reply_shown_by e (a ∷ own))
  due_two n e a own is other its accepts none =
      let all = e ∷ a ∷ own in
      let earlier : from_each (due_at clients server g all) own ≡ due_in_life clients server g own = due_fresh n e (a ∷ own) own is none ∙ due_fresh n a own own its none in
      let nothing : due_at clients server g all a own ≡ [] = due_answered a all own accepts (both_answered n e a own is its accepts none) in
      let last : due_at clients server g all e (a ∷ own) ≡ told_by (is_busy_in g (doing server own)) own (reply_shown_by e (a ∷ own))
      = due_last n e all (a ∷ own) is (other_whole e all other)
      ∙ (ap (λ (d : Doing). told_by (is_busy_in g d) (a ∷ own) (reply_shown_by e (a ∷ own))) (same_doing n a own its)
      ∙ ap (λ (tag : ℕ). if is_busy_in g (doing server own) then Some (reply_frame tag (reply_shown_by e (a ∷ own))) ∷ [] else []) (same_invocation n a own its)) in
      ap (λ (fs : List (Option Frame)). (from_each (due_at clients server g all) own ++ fs) ++ due_at clients server g all e (a ∷ own)) nothing
      ∙ (ap (λ (fs : List (Option Frame)). fs ++ due_at clients server g all e (a ∷ own)) (append-nil (from_each (due_at clients server g all) own) ∙ earlier)
      ∙ ap (λ (fs : List (Option Frame)). due_in_life clients server g own ++ fs) last)

  newest_told : (n : ℕ) (e : Event) (past : List Event) → is_op caller n e ≡ true → reply_at (e ∷ past) caller n ≡ reply_shown_by e past
  unfolding reply_at
  newest_told n e past is = rw is refl

  -- by a whole call that is new: its REPLY, with what the caller was told, where the server was busy in the life
  pub due_calls : (n : ℕ) (more own : List Event) → AreCall caller n more → count (is_op caller n) own ≡ 0
      → due_in_life clients server g (more ++ own) ≡ due_in_life clients server g own ++ told_by (is_busy_in g (doing server own)) own (reply_at (more ++ own) caller n)
  due_calls n (e ∷ []) own are none =
      due_one n e own are none ∙ ap (λ (reply : Told). due_in_life clients server g own ++ told_by (is_busy_in g (doing server own)) own reply) (sym (newest_told n e own are))
  due_calls n (e ∷ a ∷ []) own (is, other, its, accepts) none =
      due_two n e a own is other its accepts none
      ∙ ap (λ (reply : Told). due_in_life clients server g own ++ told_by (is_busy_in g (doing server own)) own reply) (sym (newest_told n e (a ∷ own) is))
  due_calls n [] own are none = absurd are
  due_calls n (e ∷ a ∷ b ∷ more) own are none = absurd are

module _ (clients server g : ℕ) where
  -- events of other lives that are of no call tell nothing in the life
  pub due_beside : (more own : List Event) → All (λ (e : Event). is_of server g e ≡ false) more → All (λ (e : Event). is_call_of (caller_of clients server) e ≡ false) more
      → due_in_life clients server g (more ++ own) ≡ due_in_life clients server g own
  due_beside [] own others idle = refl
  due_beside (e ∷ more) own others idle =
      due_idle clients server g e (more ++ own) (All-head (λ (x : Event). is_of server g x ≡ false) e more others) (All-head (λ (x : Event). is_call_of (caller_of clients server) x ≡ false) e more idle)
      ∙ due_beside more own (All-tail (λ (x : Event). is_of server g x ≡ false) e more others) (All-tail (λ (x : Event). is_call_of (caller_of clients server) x ≡ false) e more idle)

  -- nor does a new call that was made in another life
  pub due_elsewhere : (n : ℕ) (more own : List Event) → AreCall (caller_of clients server) n more → count (is_op (caller_of clients server) n) own ≡ 0 → is_busy_in g (doing server own) ≡ false
      → due_in_life clients server g (more ++ own) ≡ due_in_life clients server g own
  due_elsewhere n more own are none other =
      due_calls clients server g n more own are none
      ∙ (ap (λ (busy : Bool). due_in_life clients server g own ++ (if busy then Some (reply_frame (invocation server g own) (reply_at (more ++ own) (caller_of clients server) n)) ∷ [] else [])) other
      ∙ append-nil (due_in_life clients server g own))

-- what counts no call counts the same behind one
pub call_counts_none : (by n : ℕ) (p : Event → Bool) → ((e : Event) → is_op by n e ≡ true → p e ≡ false) → (more own : List Event) → AreCall by n more → count p (more ++ own) ≡ count p own
call_counts_none by n p none (e ∷ []) own are = count_less p e own (none e are)
call_counts_none by n p none (e ∷ a ∷ []) own (is, other, its, accepts) = count_less p e (a ∷ own) (none e is) ∙ count_less p a own (none a its)
call_counts_none by n p none [] own are = absurd are
call_counts_none by n p none (e ∷ a ∷ b ∷ more) own are = absurd are

-- what each event of a call leaves as it is stays behind the call
pub call_keeps : (by n : ℕ) {X : Type 0} (read : List Event → X) → ((e : Event) (past : List Event) → is_op by n e ≡ true → read (e ∷ past) ≡ read past) → (more own : List Event) → AreCall by n more
    → read (more ++ own) ≡ read own
call_keeps by n read same (e ∷ []) own are = same e own are
call_keeps by n read same (e ∷ a ∷ []) own (is, other, its, accepts) = same e (a ∷ own) is ∙ same a own its
call_keeps by n read same [] own are = absurd are
call_keeps by n read same (e ∷ a ∷ b ∷ more) own are = absurd are

pub call_takes_none : (caller n server g : ℕ) (e : Event) → is_op caller n e ≡ true → is_take_in server g e ≡ false
call_takes_none caller n server g e is = call_take_none caller n server g e is

-- ---- among the events of a run

module _ (its : Event → Bool) where
  count_among : (p : Event → Bool) → ((e : Event) → p e ≡ true → its e ≡ true) → (past : List Event) → count p (filter its past) ≡ count p past
  count_among p among [] = refl
  count_among p among (e ∷ past) = by_one (its e) refl (count_among p among past)
    where
      none : (b : Bool) → p e ≡ b → its e ≡ false → p e ≡ false
      none true is other = absurd (cc (sym (among e is) ∙ other))
      none false is other = is

      by_one : (b : Bool) → its e ≡ b → count p (filter its past) ≡ count p past → count p (cond b (e ∷ filter its past) (filter its past)) ≡ count p (e ∷ past)
      by_one true is same = ap (λ (k : ℕ). cond (p e) (k + 1) k) same
      by_one false is same = same ∙ sym (count_less p e past (none (p e) refl is))

  latest_among : (p : Event → Bool) → ((e : Event) → p e ≡ true → its e ≡ true) → (past : List Event) → latest p (filter its past) ≡ latest p past
  latest_among p among [] = refl
  latest_among p among (e ∷ past) = by_one (its e) (p e) refl refl (latest_among p among past)
    where
      by_one : (b c : Bool) → its e ≡ b → p e ≡ c → latest p (filter its past) ≡ latest p past → latest p (cond b (e ∷ filter its past) (filter its past)) ≡ latest p (e ∷ past)
      by_one true true is passes same = rw passes refl
      by_one true false is passes same = rw passes same
      by_one false true is passes same = absurd (cc (sym (among e passes) ∙ is))
      by_one false false is passes same = rw passes same

  module _ (clients server g : ℕ) (called : (e : Event) → is_call_of (caller_of clients server) e ≡ true → its e ≡ true) (moved : (e : Event) → moves_server server e ≡ true → its e ≡ true)
      (taken : (e : Event) → is_take_in server g e ≡ true → its e ≡ true) where
    same_doing_among : (past : List Event) → doing server (filter its past) ≡ doing server past
    unfolding doing
    same_doing_among past = ap doing_after (latest_among (moves_server server) moved past)

    same_invocation_among : (past : List Event) → invocation server g (filter its past) ≡ invocation server g past
    unfolding invocation
    same_invocation_among past = ap (λ (k : ℕ). k % 2 ^ 32) (count_among (is_take_in server g) taken past)

    same_last_op : (past : List Event) → last_op (caller_of clients server) (filter its past) ≡ last_op (caller_of clients server) past
    unfolding newest_call
    same_last_op past = ap op_of (latest_among (is_call_of (caller_of clients server)) called past)

    same_answered : (e : Event) (all : List Event) → is_answered (caller_of clients server) (filter its all) e ≡ is_answered (caller_of clients server) all e
    same_answered (Accept a) all = ap (λ (k : ℕ). nat_lt 1 k) (count_among (is_op (caller_of clients server) a.op) (λ e is. called e (and_parts (is_call_of (caller_of clients server) e) (op_in e == a.op) is).0) all)
    same_answered e all = refl

    same_told : (e : Event) (past : List Event) → is_call_of (caller_of clients server) e ≡ true → reply_shown_by e (filter its past) ≡ reply_shown_by e past
    same_told (Answer a) past is =
        let by : a.by.0 ≡ caller_of clients server = eqb-true a.by.0 (caller_of clients server) (and_parts (a.by.0 == caller_of clients server) (nat_lt 0 a.op) is).0 in
        let last : last_op a.by.0 (filter its past) ≡ last_op a.by.0 past
        = ap (λ (k : ℕ). last_op k (filter its past)) by ∙ (same_last_op past ∙ sym (ap (λ (k : ℕ). last_op k past) by)) in
        ap (λ (k : ℕ). Answered (if k == a.op then 0 else a.request.number) a.answer) last
    same_told e past is = refl

    replied_among : (e : Event) (all past : List Event) → replied_at clients server g (filter its all) e (filter its past) ≡ replied_at clients server g all e past
    replied_among e all past = by_one (is_call_of (caller_of clients server) e) refl
      where
        by_one : (b : Bool) → is_call_of (caller_of clients server) e ≡ b → replied_at clients server g (filter its all) e (filter its past) ≡ replied_at clients server g all e past
        by_one true is =
            ap (λ (d : Doing). if (is_call_of (caller_of clients server) e && is_busy_in g d) && not (is_answered (caller_of clients server) (filter its all) e) then reply_frame (invocation server g (filter its past)) (reply_shown_by e (filter its past)) ∷ [] else []) (same_doing_among past)
            ∙ (ap (λ (answered : Bool). if is_call_in clients server g e past && not answered then reply_frame (invocation server g (filter its past)) (reply_shown_by e (filter its past)) ∷ [] else []) (same_answered e all)
            ∙ (ap (λ (tag : ℕ). if is_call_in clients server g e past && not (is_answered (caller_of clients server) all e) then reply_frame tag (reply_shown_by e (filter its past)) ∷ [] else []) (same_invocation_among past)
            ∙ ap (λ (reply : Told). if is_call_in clients server g e past && not (is_answered (caller_of clients server) all e) then reply_frame (invocation server g past) reply ∷ [] else []) (same_told e past is)))
        by_one false is = rw is refl

    due_here : (e : Event) (all past : List Event) → due_at clients server g (filter its all) e (filter its past) ≡ due_at clients server g all e past
    due_here (Take t) all past = refl
    due_here e all past = ap (λ (fs : List Frame). map (λ (f : Frame). Some f) fs) (replied_among e all past)

    not_its : (e : Event) → its e ≡ false → (p : Event → Bool) → ((x : Event) → p x ≡ true → its x ≡ true) → p e ≡ false
    not_its e other p among = by_one (p e) refl
      where
        by_one : (b : Bool) → p e ≡ b → p e ≡ false
        by_one true is = absurd (cc (sym (among e is) ∙ other))
        by_one false is = is

    none_due : (e : Event) (all past : List Event) → is_take_in server g e ≡ false → is_call_of (caller_of clients server) e ≡ false → due_at clients server g all e past ≡ []
    none_due (Take t) all past other idle = rw other refl
    none_due e all past other idle = ap (λ (fs : List Frame). map (λ (f : Frame). Some f) fs) (replied_idle clients server g e all past (idle_in clients server g e past idle))

    due_filtered : (all past : List Event) → from_each (due_at clients server g (filter its all)) (filter its past) ≡ from_each (due_at clients server g all) past
    due_filtered all [] = refl
    due_filtered all (e ∷ past) = by_one (its e) refl (due_filtered all past)
      where
        by_one : (b : Bool) → its e ≡ b → from_each (due_at clients server g (filter its all)) (filter its past) ≡ from_each (due_at clients server g all) past
            → from_each (due_at clients server g (filter its all)) (cond b (e ∷ filter its past) (filter its past)) ≡ from_each (due_at clients server g all) (e ∷ past)
        by_one true is same =
            ap (λ (fs : List (Option Frame)). fs ++ due_at clients server g (filter its all) e (filter its past)) same
            ∙ ap (λ (fs : List (Option Frame)). from_each (due_at clients server g all) past ++ fs) (due_here e all past)
        by_one false is same =
            same ∙ (sym (append-nil (from_each (due_at clients server g all) past))
            ∙ sym (ap (λ (fs : List (Option Frame)). from_each (due_at clients server g all) past ++ fs) (none_due e all past (not_its e is (is_take_in server g) taken) (not_its e is (is_call_of (caller_of clients server)) called))))

    -- what was due by the worker's own events is what was due by all
    pub due_among : (past : List Event) → due_in_life clients server g (filter its past) ≡ due_in_life clients server g past
    due_among past = due_filtered past past

-- ---- with its INVOKEs

-- these frames, with these in place of the INVOKEs
abbrev pub fill : List (Option Frame) → List Frame → List Frame
fill [] invokes = []
fill (None ∷ rest) [] = fill rest []
fill (None ∷ rest) (f ∷ invokes) = f ∷ fill rest invokes
fill (Some f ∷ rest) invokes = f ∷ fill rest invokes

abbrev pub is_open : Option Frame → Bool
is_open None = true
is_open (Some f) = false

pub refill : (fs : List Frame) → fill (shape fs) (invokes_in fs) ≡ fs
refill [] = refl
refill (f ∷ fs) = by_one (is_invoke_body f.body) (refill fs)
  where
    by_one : (b : Bool) → fill (shape fs) (invokes_in fs) ≡ fs → fill ((if b then None else Some f) ∷ shape fs) (cond b (f ∷ invokes_in fs) (invokes_in fs)) ≡ f ∷ fs
    by_one true same = ap (λ (gs : List Frame). f ∷ gs) same
    by_one false same = ap (λ (gs : List Frame). f ∷ gs) same

drop_none : (n : ℕ) (fs : List Frame) → fs ≡ [] → drop n fs ≡ []
drop_none zero fs none = none
drop_none (suc n) [] none = refl
drop_none (suc n) (f ∷ fs) none = absurd (cc none)

fill_append : (rest more : List (Option Frame)) (invokes : List Frame) → fill (rest ++ more) invokes ≡ fill rest invokes ++ fill more (drop (length (filter is_open rest)) invokes)
fill_append [] more invokes = refl
fill_append (None ∷ rest) more [] = fill_append rest more [] ∙ ap (λ (fs : List Frame). fill rest [] ++ fill more fs) (drop_none (length (filter is_open rest)) [] refl ∙ sym (drop_none (length (filter is_open (None ∷ rest))) [] refl))
fill_append (None ∷ rest) more (f ∷ invokes) = ap (λ (fs : List Frame). f ∷ fs) (fill_append rest more invokes)
fill_append (Some f ∷ rest) more invokes = ap (λ (fs : List Frame). f ∷ fs) (fill_append rest more invokes)

pub fill_some : (fs invokes : List Frame) → fill (map (λ (f : Frame). Some f) fs) invokes ≡ fs
fill_some [] invokes = refl
fill_some (f ∷ fs) invokes = ap (λ (gs : List Frame). f ∷ gs) (fill_some fs invokes)

pub fill_one : (invokes : List Frame) → fill (None ∷ []) invokes ≡ take 1 invokes
fill_one [] = refl
fill_one (f ∷ invokes) = refl

none_open : (fs : List Frame) → filter is_open (map (λ (f : Frame). Some f) fs) ≡ []
none_open [] = refl
none_open (f ∷ fs) = none_open fs

module _ (clients server g : ℕ) (all : List Event) where
  open_step : (e : Event) (past : List Event) → length (filter is_open (due_at clients server g all e past)) ≡ cond (is_take_in server g e) 1 0
  open_step (Take t) past = by_one (is_of_life server g t.server.0 t.generation.0)
    where
      by_one : (b : Bool) → length (filter is_open (if b then None ∷ [] else [])) ≡ cond b 1 0
      by_one true = refl
      by_one false = refl
  open_step e past = ap length (none_open (replied_at clients server g all e past))

  -- an INVOKE is due for each take
  pub opens : (past : List Event) → length (filter is_open (from_each (due_at clients server g all) past)) ≡ count (is_take_in server g) past
  opens [] = refl
  opens (e ∷ past) =
      ap length (filter-append is_open (from_each (due_at clients server g all) past) (due_at clients server g all e past))
      ∙ (length-append (filter is_open (from_each (due_at clients server g all) past)) (filter is_open (due_at clients server g all e past))
      ∙ (ap (λ (n : ℕ). n + length (filter is_open (due_at clients server g all e past))) (opens past)
      ∙ (ap (λ (n : ℕ). count (is_take_in server g) past + n) (open_step e past) ∙ by_one (is_take_in server g e))))
    where
      by_one : (b : Bool) → count (is_take_in server g) past + cond b 1 0 ≡ cond b (count (is_take_in server g) past + 1) (count (is_take_in server g) past)
      by_one true = refl
      by_one false = omega arith

  -- behind frames that fill what was due, those that fill what is due by one event more
  pub fills : (e : Event) (past : List Event) (written invokes more : List Frame) → written ≡ fill (from_each (due_at clients server g all) past) invokes
      → more ≡ fill (due_at clients server g all e past) (drop (count (is_take_in server g) past) invokes) → written ++ more ≡ fill (from_each (due_at clients server g all) (e ∷ past)) invokes
  fills e past written invokes more before now =
      let due = from_each (due_at clients server g all) past in
      ap (λ (fs : List Frame). fs ++ more) before
      ∙ (ap (λ (fs : List Frame). fill due invokes ++ fs) (now ∙ ap (λ (n : ℕ). fill (due_at clients server g all e past) (drop n invokes)) (sym (opens past)))
      ∙ sym (fill_append due (due_at clients server g all e past) invokes))
