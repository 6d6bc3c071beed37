-- What an end of a conversation did, by one event more, and what an ending tells.
use Rattle.std.proofs.Common.{◌≡◌, ℕ, ◌==◌, ◌||◌, Bool, true, false, List, [], ◌∷◌, Some, None, refl, subst, Decides}
use Rattle.std.specs.List.{cons_option}
use Rattle.std.specs.Prelude.{◌&&◌, if◌then◌else◌}
use Rattle.xa_types.specs.declared.ids.RequestId.{RequestId}
use Rattle.xa_events.specs.declared.event.Event.{Event}
use Rattle.xa_events.specs.declared.event.Event.TheVariants.{Break}
use Rattle.xa_events.specs.Words.{has, same_request, Was}
use Rattle.xa_events.specs.Cases.{BeganAt}
use Rattle.xa_types.specs.declared.data.Data.{Data}
use Rattle.xa_events.specs.Conversation.{Side, begins_with, broken, done_after, end_done, is_begun, IsClosing, IsSent, Told}
use Rattle.xa_machine.specs.Ends.{breaks}

with_broken : (b : Bool) (request broke : RequestId) (rest : List RequestId) → (b && same_request request broke) || has request rest ≡ has request (cons_option (if b then Some broke else None) rest)
with_broken true request broke rest = refl
with_broken false request broke rest = refl

pub broken_more : (caller : ℕ) (request : RequestId) (e : Event) (past : List Event) → breaks caller request e || has request (broken caller past) ≡ has request (broken caller (e ∷ past))
unfolding broken
broken_more caller request (Break b) past = with_broken (b.by.0 == caller) request b.request (broken caller past)
broken_more caller request _ past = refl

pub done_more : (caller : ℕ) (side : Side) (request : RequestId) (e : Event) (past : List Event) → done_after caller side request e (broken caller past) (end_done caller side request past) ≡ end_done caller side request (e ∷ past)
unfolding end_done
done_more caller side request e past = refl

pub begun_more : (side : Side) (request : RequestId) (e : Event) (past : List Event) → begins_with side request e || is_begun side request past ≡ is_begun side request (e ∷ past)
unfolding is_begun
begun_more side request e past = refl

pub broken_none : (caller : ℕ) (request : RequestId) → false ≡ has request (broken caller [])
unfolding broken
broken_none caller request = refl

pub done_none : (caller : ℕ) (side : Side) (request : RequestId) → record { sent = 0; received = 0; turn = None } ≡ end_done caller side request []
unfolding end_done
done_none caller side request = refl

pub begun_none : (side : Side) (request : RequestId) → false ≡ is_begun side request []
unfolding is_begun
begun_none side request = refl

-- ---- the other end, by what is equal to it

pub found_sent : (b : Bool) (past : List Event) (side other : Side) (r named : RequestId) (n sent : ℕ) (payload : Data) (passes : Bool) → other ≡ side → named ≡ r → sent ≡ n
    → Decides b (Was (IsSent other named sent payload passes) past) → Decides b (Was (IsSent side r n payload passes) past)
found_sent b past side other r named n sent payload passes one two three d =
    subst (λ (x : Side). Decides b (Was (IsSent x r n payload passes) past)) one
    (subst (λ (x : RequestId). Decides b (Was (IsSent other x n payload passes) past)) two (subst (λ (x : ℕ). Decides b (Was (IsSent other named x payload passes) past)) three d))

pub found_closed : (b : Bool) (clients : ℕ) (past : List Event) (side other : Side) (r named : RequestId) (n sent : ℕ) (P : Told → Type 0) → other ≡ side → named ≡ r → sent ≡ n
    → Decides b (Was (IsClosing clients other named sent (BeganAt named past) P) past) → Decides b (Was (IsClosing clients side r n (BeganAt r past) P) past)
found_closed b clients past side other r named n sent P one two three d =
    subst (λ (x : Side). Decides b (Was (IsClosing clients x r n (BeganAt r past) P) past)) one
    (subst (λ (x : RequestId). Decides b (Was (IsClosing clients other x n (BeganAt x past) P) past)) two (subst (λ (x : ℕ). Decides b (Was (IsClosing clients other named x (BeganAt named past) P) past)) three d))
