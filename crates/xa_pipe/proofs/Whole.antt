-- A life whose link gives all that its program says: its requests end as that says.
use Rattle.std.proofs.Common.{◌≡◌, ◌⊎◌, ℕ, ◌≤◌, Bool, true, false, List, [], ◌∷◌, ◌++◌, length, Option, Some, inl, inr, refl, sym, ap, subst, ◌∙◌, append_assoc, append-nil, arith}
use Rattle.std.specs.Prelude.{IfSome}
use Rattle.std.specs.List.{All}
use Rattle.std.proofs.lemmas.List.{length-append}
use Rattle.std.proofs.lemmas.List.Elements.{All-head, All-tail}
use Rattle.xa_types.specs.declared.setup.Setup.{Setup}
use Rattle.xa_link.specs.Told.{Empty}
use Rattle.xa_frame.specs.declared.frame.Frame.{Frame}
use Rattle.xa_frame.specs.Spelling.{spelled, all_spelled, HasSpelling}
use Rattle.xa_frame.proofs.FrontLemmas.{no_other, is_whole, is_partial, still_malformed}
use Rattle.xa_events.specs.declared.event.Event.{Event}
use Rattle.xa_events.specs.Words.{AtEach}
use Rattle.xa_events.specs.declared.event.Outcome.TheVariants.{Starved as StarvedOutcome}
use Rattle.xa_events.specs.declared.event.StopCause.{StopCause}
use Rattle.xa_events.specs.declared.event.StopCause.TheVariants.{Shutdown, Exit, EndOfInput, ReadFault, WriteFault, BadBytes, OutOfTurn, Starved}
use Rattle.xa_pipe.specs.Life.{Says, Turn, Finish, Written, Occurrence, Reasons, MayFail, EndsAs, EachCame, AllCame, MaySay, IsCounted, Shows, StopsSpent, cause_of, stops_life, came_in, finishes_in, lost_by, may_end, tag_after}
use Rattle.xa_pipe.specs.declared.turn.Turn.TheVariants.{AwaitsReady, AwaitsNext, AwaitsInvoke, Serving, Finishing, Performing, Exited}
use Rattle.xa_pipe.specs.declared.turn.Written.TheVariants.{Whole, Cut, Missing}
use Rattle.xa_pipe.specs.Standing.{Ending, IsLife, returned, last_turn}
use Rattle.xa_pipe.specs.Whole.{GivesAll, CameAsSaid, CallsLeft}
use Rattle.xa_pipe.proofs.Coming.{came_length}
use Rattle.xa_pipe.proofs.Saying.{all_spelt, finishes_append, answers_next}

-- ---- two lists of frames in the same octets

-- one list is the other and more, and so are the octets behind them
abbrev Continues : List Frame → List Frame → List ℕ → List ℕ → Type 0
Continues fs gs x y = (ks : List Frame) × (gs ≡ fs ++ ks) × (x ≡ all_spelled ks ++ y)

fronts : (fs gs : List Frame) (x y : List ℕ) → All HasSpelling fs → All HasSpelling gs → all_spelled fs ++ x ≡ all_spelled gs ++ y → Continues fs gs x y ⊎ Continues gs fs y x
fronts [] gs x y hf hg e = inl (gs, refl, e)
fronts (f ∷ fs) [] x y hf hg e = inr (f ∷ fs, refl, sym e)
fronts (f ∷ fs) (g ∷ gs) x y hf hg e =
    let one = no_other f g (all_spelled fs ++ x) (all_spelled gs ++ y) (All-head HasSpelling f fs hf) (All-head HasSpelling g gs hg)
    (sym (append_assoc (spelled f) (all_spelled fs) x) ∙ (e ∙ append_assoc (spelled g) (all_spelled gs) y)) in
    longer one.0 (fronts fs gs x y (All-tail HasSpelling f fs hf) (All-tail HasSpelling g gs hg) one.1)
  where
    longer : f ≡ g → Continues fs gs x y ⊎ Continues gs fs y x → Continues (f ∷ fs) (g ∷ gs) x y ⊎ Continues (g ∷ gs) (f ∷ fs) y x
    longer first (inl (ks, same, octets)) = inl (ks, cc (first, same), octets)
    longer first (inr (ks, same, octets)) = inr (ks, cc (first, same), octets)

-- ---- a life that ends with a request in hand

module _ (name : List ℕ) (returned n : ℕ) (fs : List Frame) (turn : Turn) (here : Says name returned fs Serving) (left : Option (List ℕ)) (others : List ℕ) (held : left ≡ Some others) (rest y : List ℕ) (written : Written) where
  -- where its RETURN or FORWARD stands whole, the life doesn't end there but by want of memory
  whole_finish : (k : Frame) (ks : List Frame) → Says name n (fs ++ k ∷ ks) turn → HasSpelling k → rest ++ others ≡ spelled k ++ y
      → (cause : StopCause) → may_end cause Serving written ≡ true → IsCounted cause 0 0
      → Shows (record { name = name; tag = tag_after returned; frames = fs; turn = Serving; written = written }) cause rest left → cause ≡ Starved
  whole_finish k ks says spelling stands Shutdown may counted shows = absurd cc may
  whole_finish k ks says spelling stands Exit may counted shows = absurd cc may
  whole_finish k ks says spelling stands EndOfInput may counted (partial, empty) =
      let none : others ≡ [] = subst (λ (told : Option (List ℕ)). Empty told) held empty in
      let stands_so : rest ≡ spelled k ++ y = sym (append-nil rest) ∙ (ap (λ (xs : List ℕ). rest ++ xs) (sym none) ∙ stands) in
      absurd (cc (sym (is_partial rest partial) ∙ is_whole rest k y (record { spelling = spelling; whole = stands_so })))
  whole_finish k ks says spelling stands ReadFault may counted shows = absurd (omega (arith, counted.0))
  whole_finish k ks says spelling stands WriteFault may counted shows = absurd (omega (arith, counted.1))
  whole_finish k ks says spelling stands (BadBytes place) may counted (at, malformed) =
      absurd ((still_malformed rest others malformed).not_whole k y (record { spelling = spelling; whole = stands }))
  whole_finish k ks says spelling stands (OutOfTurn kind tag) may counted (f, more, begins, is_kind, is_tag, not) =
      let same = no_other f k (more ++ others) y begins.spelling spelling
      (sym (append_assoc (spelled f) more others) ∙ (ap (λ (xs : List ℕ). xs ++ others) (sym begins.whole) ∙ stands)) in
      absurd (not (subst (λ (h : Frame). MaySay name (tag_after returned) Serving h) (sym same.0) (answers_next name returned n fs ks k turn here says)))
  whole_finish k ks says spelling stands Starved may counted shows = refl

-- ---- what each RETURN and FORWARD came to

module _ (setup : Setup) (Why : Reasons) where
  -- what came of some of them is as said, whatever more would be said
  said_front : (finishes more : List Finish) (came : List Occurrence) → EachCame setup Why finishes came → CameAsSaid setup Why (finishes ++ more) came
  said_front [] more [] each = tt
  said_front [] more (c ∷ came) each = absurd each
  said_front (r ∷ finishes) more [] each = absurd each
  said_front (r ∷ finishes) more (c ∷ []) each = inl each.0
  said_front (r ∷ finishes) more (c ∷ d ∷ came) each = (each.0, said_front finishes more (d ∷ came) each.1)

  -- and the one behind them may be lost where memory runs out
  said_lost : (finishes more : List Finish) (earlier : List Occurrence) (last : Occurrence) → EachCame setup Why finishes earlier → EndsAs StarvedOutcome last.event
      → length (earlier ++ last ∷ []) ≤ length (finishes ++ more) → CameAsSaid setup Why (finishes ++ more) (earlier ++ last ∷ [])
  said_lost [] [] [] last each lost few = absurd (omega (arith, few))
  said_lost [] (r ∷ more) [] last each lost few = inr lost
  said_lost [] more (c ∷ earlier) last each lost few = absurd each
  said_lost (r ∷ finishes) more [] last each lost few = absurd each
  said_lost (r ∷ finishes) more (c ∷ []) last each lost few = (each.0, said_lost finishes more [] last each.1 lost (omega (arith, few)))
  said_lost (r ∷ finishes) more (c ∷ d ∷ earlier) last each lost few = (each.0, said_lost finishes more (d ∷ earlier) last each.1 lost (omega (arith, few)))

-- ---- calls

-- where the calls of the server hadn't come to their end before an end of the life, the life didn't end behind them
still_calls : (clients server g : ℕ) (cause : StopCause) (past : List Event) → cause_of server g past ≡ Some cause → AtEach (CallsLeft clients server g) past → AtEach (StopsSpent clients server g) past → ⊥
still_calls clients server g cause [] why left_some spent = cc why
still_calls clients server g cause (e ∷ past) why left_some spent = by_one (stops_life server g e) refl (λ earlier. still_calls clients server g cause past earlier left_some.1 spent.1)
  where
    by_one : (b : Bool) → stops_life server g e ≡ b → (cause_of server g past ≡ Some cause → ⊥) → ⊥
    by_one true is before = omega (arith, left_some.0 is, spent.0 is)
    by_one false is before = before (rw is at why)

none_more : {X : Type 0} (xs ys : List X) → length (xs ++ ys) ≤ length xs → xs ++ ys ≡ xs
none_more xs [] few = append-nil xs
none_more xs (y ∷ ys) few = absurd (omega (arith, few, length-append xs (y ∷ ys)))

module _ (setup : Setup) (Why : Reasons) (name : List ℕ) (returned n : ℕ) (frames all : List Frame) (last_turn : Turn) (cause : StopCause) (written : Written) (says : Says name n all last_turn) (came : List Occurrence)
    (left : Option (List ℕ)) (others rest more : List ℕ) (held : left ≡ Some others) (few : length came ≤ length (finishes_in all)) where
  abbrev Both : Type 0
  Both = Continues frames all (rest ++ others) more ⊎ Continues all frames more (rest ++ others)

  longer : (fs ks gs : List Frame) → gs ≡ fs ++ ks → finishes_in gs ≡ finishes_in fs ++ finishes_in ks
  longer fs ks gs same = ap (λ (hs : List Frame). finishes_in hs) same ∙ finishes_append fs ks

  -- what came of the requests, of which none was in hand
  none_in_hand : EachCame setup Why (finishes_in frames) came → Both → CameAsSaid setup Why (finishes_in all) came
  none_in_hand each (inl (ks, same, stands)) = subst (λ (rs : List Finish). CameAsSaid setup Why rs came) (sym (longer frames ks all same)) (said_front setup Why (finishes_in frames) (finishes_in ks) came each)
  none_in_hand each (inr (ks, same, stands)) =
      let so = longer all ks frames same in
      let many = came_length setup Why (finishes_in frames) came each in
      let alike : finishes_in frames ≡ finishes_in all = so ∙ none_more (finishes_in all) (finishes_in ks) (omega (arith, few, many, ap length so)) in
      subst (λ (rs : List Finish). CameAsSaid setup Why rs came) alike
      (subst (λ (rs : List Finish). CameAsSaid setup Why rs came) (append-nil (finishes_in frames)) (said_front setup Why (finishes_in frames) [] came each))

  one_in_hand : (earlier : List Occurrence) (last : Occurrence) → came ≡ earlier ++ last ∷ [] → EachCame setup Why (finishes_in frames) earlier → EndsAs (lost_by cause) last.event
      → ((k : Frame) (ks : List Frame) (y : List ℕ) → Says name n (frames ++ k ∷ ks) last_turn → HasSpelling k → rest ++ others ≡ spelled k ++ y → cause ≡ Starved) → Both → CameAsSaid setup Why (finishes_in all) came
  one_in_hand earlier last is each lost starves (inl ([], same, stands)) =
      let many = came_length setup Why (finishes_in frames) earlier each in
      absurd (omega (arith, few, many, ap length is, length-append earlier (last ∷ []), ap length (ap (λ (fs : List Frame). finishes_in fs) (same ∙ append-nil frames))))
  one_in_hand earlier last is each lost starves (inl (k ∷ ks, same, stands)) =
      let so : Says name n (frames ++ k ∷ ks) last_turn = subst (λ (fs : List Frame). Says name n fs last_turn) same says in
      let spelt = All-head HasSpelling k ks (All-behind frames (k ∷ ks) (all_spelt so)) in
      let starved = starves k ks (all_spelled ks ++ more) so spelt (stands ∙ append_assoc (spelled k) (all_spelled ks) more) in
      let wide = longer frames (k ∷ ks) all same in
      let enough = subst (λ (rs : List Finish). length (earlier ++ last ∷ []) ≤ length rs) wide (subst (λ (os : List Occurrence). length os ≤ length (finishes_in all)) is few) in
      let ended = said_lost setup Why (finishes_in frames) (finishes_in (k ∷ ks)) earlier last each (subst (λ (c : StopCause). EndsAs (lost_by c) last.event) starved lost) enough in
      subst (λ (os : List Occurrence). CameAsSaid setup Why (finishes_in all) os) (sym is)
      (subst (λ (rs : List Finish). CameAsSaid setup Why rs (earlier ++ last ∷ [])) (sym wide) ended)
    where
      All-behind : (fs gs : List Frame) → All HasSpelling (fs ++ gs) → All HasSpelling gs
      All-behind [] gs h = h
      All-behind (f ∷ fs) gs h = All-behind fs gs (All-tail HasSpelling f (fs ++ gs) h)
  one_in_hand earlier last is each lost starves (inr (ks, same, stands)) =
      let many = came_length setup Why (finishes_in frames) earlier each in
      absurd (omega (arith, few, many, ap length is, length-append earlier (last ∷ []), ap length (longer all ks frames same), length-append (finishes_in all) (finishes_in ks)))

  -- as a call was to be made, a life ends for want of memory alone
  calls_starved : (why : StopCause) (last : Written) → may_end why Performing last ≡ true → why ≡ Starved
  calls_starved Starved last may = refl
  calls_starved Shutdown last may = absurd (cc may)
  calls_starved Exit last may = absurd (cc may)
  calls_starved EndOfInput Whole may = absurd (cc may)
  calls_starved EndOfInput Cut may = absurd (cc may)
  calls_starved EndOfInput Missing may = absurd (cc may)
  calls_starved ReadFault Whole may = absurd (cc may)
  calls_starved ReadFault Cut may = absurd (cc may)
  calls_starved ReadFault Missing may = absurd (cc may)
  calls_starved (BadBytes place) Whole may = absurd (cc may)
  calls_starved (BadBytes place) Cut may = absurd (cc may)
  calls_starved (BadBytes place) Missing may = absurd (cc may)
  calls_starved (OutOfTurn kind tag) Whole may = absurd (cc may)
  calls_starved (OutOfTurn kind tag) Cut may = absurd (cc may)
  calls_starved (OutOfTurn kind tag) Missing may = absurd (cc may)
  calls_starved WriteFault Whole may = absurd (cc may)
  calls_starved WriteFault Cut may = absurd (cc may)
  calls_starved WriteFault Missing may = absurd (cc may)

  by_turn : (turn : Turn) → (turn ≡ Finishing → ⊥) → Says name returned frames turn → AllCame setup Why cause turn (finishes_in frames) came → may_end cause turn written ≡ true → IsCounted cause 0 0
      → Shows (record { name = name; tag = tag_after returned; frames = frames; turn = turn; written = written }) cause rest left → Both → CameAsSaid setup Why (finishes_in all) came
  by_turn AwaitsReady left_some here each may counted shows both = none_in_hand each both
  by_turn AwaitsNext left_some here each may counted shows both = none_in_hand each both
  by_turn AwaitsInvoke left_some here each may counted shows both = none_in_hand each both
  by_turn Serving left_some here (earlier, last, is, each, lost) may counted shows both =
      one_in_hand earlier last is each lost (λ k ks y so spelt stands. whole_finish name returned n frames last_turn here left others held rest y written k ks so spelt stands cause may counted shows) both
  by_turn Performing left_some here (earlier, last, is, each, lost) may counted shows both = one_in_hand earlier last is each lost (λ k ks y so spelt stands. calls_starved cause written may) both
  by_turn Finishing left_some here each may counted shows both = absurd (left_some refl)
  by_turn Exited left_some here each may counted shows both = none_in_hand each both

pub ends_as_said : (setup : Setup) (clients : ℕ) (past : List Event) (over : Ending) (frames : List Frame) → IsLife setup clients past over → AtEach (CallsLeft clients over.life.server.0 over.life.generation.0) past
    → over.life.link.reads ≡ 0 → over.life.link.writes ≡ 0
    → GivesAll over.life.name frames over.life.link → length (came_in over.life.server.0 over.life.generation.0 past) ≤ length (finishes_in frames)
    → CameAsSaid setup (MayFail setup clients) (finishes_in frames) (came_in over.life.server.0 over.life.generation.0 past)
ends_as_said setup clients past over frames is left_some no_reads no_writes gives few =
    let life = over.life in
    let ended = is.over_is in
    let came = came_in life.server.0 life.generation.0 past in
    let told = subst (λ (t : Option (List ℕ)). IfSome t (λ octets. (rest : List ℕ) × (octets ≡ all_spelled life.said ++ rest) × Shows (last_turn over) over.cause rest life.link.left)) gives.given ended.gave in
    let octets : all_spelled life.said ++ (told.0 ++ gives.others) ≡ all_spelled frames ++ gives.more =
    sym (append_assoc (all_spelled life.said) told.0 gives.others) ∙ (ap (λ (xs : List ℕ). xs ++ gives.others) (sym told.1) ∙ gives.whole) in
    let counted = subst (λ (writes : ℕ). IsCounted over.cause 0 writes) no_writes (subst (λ (reads : ℕ). IsCounted over.cause reads life.link.writes) no_reads ended.counted) in
    by_turn setup (MayFail setup clients) life.name (returned life) gives.returned life.said frames gives.turn over.cause over.written gives.says came life.link.left gives.others told.0 gives.more gives.held few
    life.turn (λ finishing. still_calls clients life.server.0 life.generation.0 over.cause past is.stopped left_some (is.spent finishing)) ended.says is.came ended.may counted told.2 (fronts life.said frames (told.0 ++ gives.others) gives.more (all_spelt ended.says) (all_spelt gives.says) octets)
