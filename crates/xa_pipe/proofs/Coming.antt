-- What the takes of a life came to, how that grows, and where it stays.
use Rattle.std.proofs.Common.{◌≡◌, ◌⊎◌, ℕ, ℤ, suc, Bool, true, false, List, [], ◌∷◌, ◌++◌, length, inl, inr, refl, ◌∙◌, ap, subst, sym}
use Rattle.std.specs.Prelude.{◌&&◌, if◌then◌else◌}
use Rattle.xa_types.specs.declared.setup.Setup.{Setup}
use Rattle.xa_types.specs.declared.data.Data.{Data}
use Rattle.xa_types.specs.declared.call.Rval.{Rval}
use Rattle.xa_types.specs.declared.call.Rval.TheVariants.{Success, Fail, Exit as ExitValue}
use Rattle.xa_types.specs.Kind.{is_sound}
use Rattle.xa_events.specs.declared.event.Ended.{Ended}
use Rattle.xa_events.specs.declared.event.Forwarded.{Forwarded}
use Rattle.xa_events.specs.declared.event.Event.{Event}
use Rattle.xa_events.specs.declared.event.Event.TheVariants.{Forward, End}
use Rattle.xa_pipe.specs.declared.hearing.Finish.TheVariants.{Returns, Forwards}
use Rattle.xa_events.specs.declared.event.Outcome.{Outcome}
use Rattle.xa_events.specs.declared.event.Outcome.TheVariants.{BadReturn, BadForward, Starved}
use Rattle.xa_events.specs.declared.event.StopCause.{StopCause}
use Rattle.xa_events.specs.Finishing.{returned}
use Rattle.xa_pipe.specs.Frames.{is_of_life}
use Rattle.xa_pipe.specs.Life.{Turn, Finish, Occurrence, Reasons, MayFail, EndsAs, IsForwarded, ComesTo, EachCame, AllCame, CameBy, is_held, came_in, finishes_in}
use Rattle.xa_pipe.specs.declared.turn.Turn.TheVariants.{AwaitsReady, AwaitsNext}
use Rattle.xa_pipe.specs.Pipe.{Piped, CutOff}
use Rattle.xa_pipe.specs.Standing.{Ending, IsLife}
use Rattle.xa_pipe.proofs.Saying.{none_returned}

-- the end of a request of the life is one more
pub came_end : (server g : ℕ) (e : Ended) (past : List Event) → is_of_life server g e.server.0 e.generation.0 ≡ true
    → came_in server g (End e ∷ past) ≡ came_in server g past ++ (record { event = End e; before = past }) ∷ []
came_end server g e past is = rw is refl

-- and so is its forward
pub came_forward : (server g : ℕ) (f : Forwarded) (past : List Event) → is_of_life server g f.server.0 f.generation.0 ≡ true
    → came_in server g (Forward f ∷ past) ≡ came_in server g past ++ (record { event = Forward f; before = past }) ∷ []
came_forward server g f past is = rw is refl

returned_no : (value : Rval) (code : ℤ) (payload : Data) → returned value code payload ≡ Starved → ⊥
returned_no Success code payload e = cc e
returned_no Fail code payload e = cc e
returned_no ExitValue code payload e = cc e

-- no RETURN says that memory ran out
says_no : (stands : Bool) (value : Rval) (code : ℤ) (payload : Data) → (if stands then returned value code payload else BadReturn) ≡ Starved → ⊥
says_no true value code payload e = returned_no value code payload e
says_no false value code payload e = cc e

both_no : (event : Event) (outcome : Outcome) → (outcome ≡ Starved → ⊥) → EndsAs outcome event → EndsAs Starved event → ⊥
both_no (End e) outcome never as_said starved = never (sym as_said ∙ starved)
both_no event outcome never as_said starved = absurd as_said

module _ (setup : Setup) (Why : Reasons) where
  -- each came, and one more did
  pub came_push : (finishes : List Finish) (came : List Occurrence) (back : Finish) (last : Occurrence) → EachCame setup Why finishes came → ComesTo setup Why back last
      → EachCame setup Why (finishes ++ back ∷ []) (came ++ last ∷ [])
  came_push [] [] back last each comes = (comes, tt)
  came_push [] (c ∷ came) back last each comes = absurd each
  came_push (r ∷ finishes) [] back last each comes = absurd each
  came_push (r ∷ finishes) (c ∷ came) back last each comes = (each.0, came_push finishes came back last each.1 comes)

  -- there are as many as RETURNs and FORWARDs
  pub came_length : (finishes : List Finish) (came : List Occurrence) → EachCame setup Why finishes came → length finishes ≡ length came
  came_length [] [] each = refl
  came_length [] (c ∷ came) each = absurd each
  came_length (r ∷ finishes) [] each = absurd each
  came_length (r ∷ finishes) (c ∷ came) each = ap suc (came_length finishes came each.1)

  -- ---- want of memory

  -- and no FORWARD
  forwarded_no : (service : List ℕ) (payload : Data) (event : Event) (before : List Event) → IsForwarded Why service payload event before → EndsAs Starved event → ⊥
  forwarded_no service payload (End e) before ((version, failed), why) starved = let other : BadForward version ≡ Starved = sym failed ∙ starved in cc other
  forwarded_no service payload event before goes_on starved = absurd starved

  comes_no : (back : Finish) (o : Occurrence) → ComesTo setup Why back o → EndsAs Starved o.event → ⊥
  comes_no (Returns back) o comes starved = both_no o.event _ (says_no (is_sound setup back.payload && true) back.value back.code back.payload) comes starved
  comes_no (Forwards forward) o comes starved = forwarded_no forward.service forward.payload o.event o.before comes starved

  each_no : (finishes : List Finish) (earlier later : List Occurrence) (o : Occurrence) → EachCame setup Why finishes (earlier ++ o ∷ later) → EndsAs Starved o.event → ⊥
  each_no [] [] later o each starved = each
  each_no [] (c ∷ earlier) later o each starved = each
  each_no (r ∷ finishes) [] later o each starved = comes_no r o each.0 starved
  each_no (r ∷ finishes) (c ∷ earlier) later o each starved = each_no finishes earlier later o each.1 starved

  -- what stands before the last of a list stands before another element, or is that one
  last_no : (finishes : List Finish) (front earlier later : List Occurrence) (last o next : Occurrence) → front ++ last ∷ [] ≡ earlier ++ o ∷ next ∷ later
      → EachCame setup Why finishes front → EndsAs Starved o.event → ⊥
  last_no finishes [] [] later last o next e each starved = cc e
  last_no finishes [] (c ∷ []) later last o next e each starved = cc e
  last_no finishes [] (c ∷ d ∷ earlier) later last o next e each starved = cc e
  last_no [] (f ∷ front) earlier later last o next e each starved = each
  last_no (r ∷ finishes) (f ∷ front) [] later last o next e each starved = let same : o ≡ f = cc e in comes_no r f each.0 (subst (λ (c : Occurrence). EndsAs Starved c.event) same starved)
  last_no (r ∷ finishes) (f ∷ front) (c ∷ earlier) later last o next e each starved = last_no finishes front earlier later last o next (cc e) each.1 starved

  starved_in : (cause : StopCause) (held : Bool) (finishes : List Finish) (came earlier later : List Occurrence) (o : Occurrence) → CameBy held setup Why cause finishes came
      → came ≡ earlier ++ o ∷ later → EndsAs Starved o.event → (held ≡ true) × (later ≡ [])
  starved_in cause true finishes came earlier [] o all is starved = (refl, refl)
  starved_in cause true finishes came earlier (next ∷ later) o (front, last, same, each, lost) is starved = absurd (last_no finishes front earlier later last o next (sym same ∙ is) each starved)
  starved_in cause false finishes came earlier later o each is starved = absurd (each_no finishes earlier later o (subst (λ (os : List Occurrence). EachCame setup Why finishes os) is each) starved)

-- a request that ends as Starved is the last of its life, and was in hand as that ended
pub starved_last : (setup : Setup) (clients : ℕ) (past : List Event) (over : Ending) (earlier later : List Occurrence) (o : Occurrence) → IsLife setup clients past over
    → came_in over.life.server.0 over.life.generation.0 past ≡ earlier ++ o ∷ later → EndsAs Starved o.event → (is_held over.life.turn ≡ true) × (later ≡ [])
starved_last setup clients past over earlier later o it is starved =
    starved_in setup (MayFail setup clients) over.cause (is_held over.life.turn) (finishes_in over.life.said) (came_in over.life.server.0 over.life.generation.0 past) earlier later o it.came is starved

-- ---- as the life ends

module _ (setup : Setup) (Why : Reasons) where
  -- no request is in hand as the program is to greet
  pub came_greeting : (cause : StopCause) (turn : Turn) (finishes : List Finish) (came : List Occurrence) → (turn ≡ AwaitsReady) ⊎ (turn ≡ AwaitsNext)
      → EachCame setup Why finishes came → AllCame setup Why cause turn finishes came
  came_greeting cause turn finishes came (inl ready) each = subst (λ (t : Turn). AllCame setup Why cause t finishes came) (sym ready) each
  came_greeting cause turn finishes came (inr next) each = subst (λ (t : Turn). AllCame setup Why cause t finishes came) (sym next) each

  -- and none was, where it hadn't greeted yet
  pub came_cut_off : (name : List ℕ) (pipe : Piped) (cause : StopCause) (cut : CutOff name pipe cause) → AllCame setup Why cause cut.turn (finishes_in cut.frames) []
  came_cut_off name pipe cause cut =
      came_greeting cause cut.turn (finishes_in cut.frames) [] cut.greets (subst (λ (rs : List Finish). EachCame setup Why rs []) (sym (none_returned cut.says)) tt)
