-- How a request that is taken had been sent: as the last event says that sent it to a queue.
use Rattle.std.proofs.Common.{◌≡◌, ℕ, true, false, List, [], ◌∷◌, Option, Some, None, option_map, inl, inr, refl, sym, ◌∙◌, ap, subst}
use Rattle.std.specs.Prelude.{IfSome, IsSomeAnd}
use Rattle.std.specs.List.{All}
use Rattle.std.proofs.lemmas.Bool.{cases_Bool}
use Rattle.std.proofs.lemmas.List.Elements.{All-head, All-tail}
use Rattle.xa_client_worker.specs.xa_types.declared.call.Mode.TheVariants.{Reply}
use Rattle.xa_client_worker.specs.xa_types.declared.ids.RequestId.{RequestId}
use Rattle.xa_client_worker.specs.xa_events.declared.event.Event.{Event}
use Rattle.xa_client_worker.specs.xa_events.declared.event.Event.TheVariants.{Accept, Forward}
use Rattle.xa_client_worker.specs.xa_events.declared.event.Forwarded.{Forwarded}
use Rattle.xa_client_worker.specs.xa_events.Caller.{is_conversational}
use Rattle.xa_client_worker.specs.xa_events.Request.{is_entry_of, SentAs, sent_as, sent_after}
use Rattle.xa_client_worker.specs.xa_events.Words.{latest, same_request}
use Rattle.xa_client_worker.proofs.xa_events.LastEntry.{Shows}
use Rattle.xa_client_worker.proofs.xa_events.WordsLemmas.{latest_yes, latest_no}
use Rattle.xa_client_worker.specs.xa_frame.declared.frame.Body.TheVariants.{Invoke}
use Rattle.xa_client_worker.specs.xa_held.declared.cargo.Invocation.{Invocation}
use Rattle.xa_client_worker.specs.xa_held.Kept.{Brings}
use Rattle.xa_client_worker.specs.xa_pipe.Frames.{invoke_with}
use Rattle.xa_client_worker.specs.xa_pipe.Pipe.{invoke_frame}
use Rattle.xa_client_worker.specs.xa_desk.Made.{IsMade}

-- it was sent to be answered, for that service, routine and data
abbrev AsAsked : Invocation → SentAs → Type 0
AsAsked what sent = (sent.service ≡ what.service) × (sent.routine ≡ what.routine) × (sent.mode ≡ Reply) × (sent.payload ≡ what.payload)

abbrev pub IsAsked : Invocation → Option SentAs → Type 0
IsAsked what o = IsSomeAnd o (AsAsked what)

pub asked_frame : (what : Invocation) (number : ℕ) (o : Option SentAs) → IsAsked what o → invoke_with number o ≡ invoke_frame what.service what.routine number what.payload ∷ []
asked_frame what number None asked = absurd asked
asked_frame what number (Some sent) asked =
    ap (λ s. (record { tag = number; body = Invoke s sent.routine sent.mode sent.payload }) ∷ []) asked.0
    ∙ (ap (λ r. (record { tag = number; body = Invoke what.service r sent.mode sent.payload }) ∷ []) asked.1
    ∙ (ap (λ m. (record { tag = number; body = Invoke what.service what.routine m sent.payload }) ∷ []) asked.2
    ∙ ap (λ p. (record { tag = number; body = Invoke what.service what.routine Reply p }) ∷ []) asked.3))

both : {X : Type 0} (P Q : X → Type 0) (o : Option X) → IfSome o P → IsSomeAnd o Q → IsSomeAnd o P
both P Q None holds some = absurd some
both P Q (Some x) holds some = holds

-- ---- the mode: each request that is accepted wants a reply, and a forward keeps that

abbrev Wants : Option SentAs → Type 0
Wants o = IfSome o (λ (sent : SentAs). sent.mode ≡ Reply)

module _ (r : RequestId) where
  abbrev passed : Forwarded → SentAs → SentAs
  passed f sent = record { service = f.service; queue = f.queue; routine = f.routine; priority = f.priority; mode = sent.mode; payload = f.payload; hop = f.hop }

  wants_passed : (f : Forwarded) (before : Option SentAs) → Wants before → Wants (option_map (passed f) before)
  wants_passed f None wants = tt
  wants_passed f (Some sent) wants = wants

  wants_after : (e : Event) (before : Option SentAs) → IsMade e → Wants before → Wants (sent_after r e before)
  wants_after (Accept a) before made wants = elim (cases_Bool (same_request a.request r)) [ inl y ↦ rw y made | inr n ↦ rw n wants ]
  wants_after (Forward f) before made wants = elim (cases_Bool (same_request f.request r)) [ inl y ↦ rw y (wants_passed f before wants) | inr n ↦ rw n wants ]
  wants_after _ before made wants = wants

  wants_reply : (past : List Event) → All IsMade past → Wants (sent_as r past)
  unfolding sent_as
  wants_reply [] made = tt
  wants_reply (e ∷ past) made = wants_after e (sent_as r past) (All-head IsMade e past made) (wants_reply past (All-tail IsMade e past made))

  -- ---- the rest is the last entry's

  module _ (what : Invocation) where
    asked_passed : (f : Forwarded) (before : Option SentAs) → Brings r what (Forward f) → Wants before → IfSome (option_map (passed f) before) (AsAsked what)
    asked_passed f None brings wants = tt
    asked_passed f (Some sent) brings wants = (brings.1, brings.2, wants, brings.3)

    asked_here : (e : Event) (before : Option SentAs) → is_entry_of r e ≡ true → Brings r what e → Wants before → IfSome (sent_after r e before) (AsAsked what)
    asked_here (Accept a) before its brings wants = rw its (brings.1, brings.2, brings.3, brings.4)
    asked_here (Forward f) before its brings wants = rw its (asked_passed f before brings wants)
    asked_here _ before its brings wants = absurd brings

    same_sent : (e : Event) (before : Option SentAs) → is_entry_of r e ≡ false → sent_after r e before ≡ before
    same_sent (Accept a) before none = rw none refl
    same_sent (Forward f) before none = rw none refl
    same_sent _ before none = refl

    asked_last : (past : List Event) → All IsMade past → IsSomeAnd (latest (is_entry_of r) past) (Brings r what) → IfSome (sent_as r past) (AsAsked what)
    unfolding sent_as
    asked_last [] made brings = absurd brings
    asked_last (e ∷ past) made brings =
        let made_before = All-tail IsMade e past made in
        elim (cases_Bool (is_entry_of r e)) [
          | inl y ↦ asked_here e (sent_as r past) y (subst (λ (o : Option Event). IsSomeAnd o (Brings r what)) (latest_yes (is_entry_of r) e past y) brings) (wants_reply past made_before)
          | inr n ↦ subst (λ (o : Option SentAs). IfSome o (AsAsked what)) (sym (same_sent e (sent_as r past) n)) (asked_last past made_before (subst (λ (o : Option Event). IsSomeAnd o (Brings r what)) (latest_no (is_entry_of r) e past n) brings))
        ]

    some_sent : (past : List Event) (o : Option Event) → Shows r past o → IsSomeAnd o (Brings r what) → IfSome (sent_as r past) (AsAsked what) → IsAsked what (sent_as r past)
    some_sent past None shows brings its = absurd brings
    some_sent past (Some (Accept a)) shows brings its = both (AsAsked what) (λ (sent : SentAs). sent.mode ≡ a.mode) (sent_as r past) its shows.1
    some_sent past (Some (Forward f)) shows brings its = both (AsAsked what) (λ (sent : SentAs). is_conversational sent.mode ≡ false) (sent_as r past) its shows.1
    some_sent past (Some _) shows brings its = absurd brings

    -- what the last entry brought is how the request was sent
    pub asked_as_brought : (past : List Event) → All IsMade past → Shows r past (latest (is_entry_of r) past) → IsSomeAnd (latest (is_entry_of r) past) (Brings r what) → IsAsked what (sent_as r past)
    asked_as_brought past made shows brings = some_sent past (latest (is_entry_of r) past) shows brings (asked_last past made brings)
