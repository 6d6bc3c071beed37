-- A client that gives up what is out, and leaves.
use Rattle.std.proofs.Common.{◌≡◌, ℕ, ◌+◌, true, List, [], ◌∷◌, ◌++◌, length, map, Some, inr, refl, sym, ◌∙◌, ap, subst, arith, eq-eqb, if◌then◌else◌, None}
use Rattle.xa_types.specs.declared.ids.CallerId.{CallerId}
use Rattle.xa_types.specs.declared.ids.RequestId.{RequestId}
use Rattle.xa_types.specs.declared.stamp.Stamp.{Stamp}
use Rattle.xa_events.specs.declared.event.Event.TheVariants.{Cancel, Leave}
use Rattle.xa_events.specs.declared.event.Cancelled.{Cancelled}
use Rattle.xa_events.specs.Caller.{may_give_up, open_descriptors}
use Rattle.xa_events.specs.Words.{has, without}
use Rattle.xa_events.specs.Views.{CallerView}
use Rattle.xa_stamp.specs.declared.home.Stamped.{Stamped}
use Rattle.xa_cell.specs.declared.cells.Cells.{Cells}
use Rattle.xa_cell.specs.declared.tokens.Seat.{Seat}
use Rattle.xa_cell.specs.declared.view.View.{View}
use Rattle.xa_cell.specs.Known.{known, SameSeat}
use Rattle.xa_cell.specs.Places.{Shuts}
use Rattle.xa_cell.proofs.OpenPlaces.{one_less_open}
use Rattle.xa_worker.specs.Work.{WorkState, IsNext, noted_here, theirs}
use Rattle.xa_caller.specs.declared.cargo.Filling.{Filling}
use Rattle.xa_caller.specs.declared.phase.Open.{Open}
use Rattle.std.specs.Prelude.{slice_get}
use Rattle.xa_caller.specs.Descriptors.{StandsAt}
use Rattle.xa_caller.specs.Phases.{request_of, place_of}
use Rattle.xa_caller.specs.Caller.{view_of}
use Rattle.xa_caller.specs.Changes.{FillsNoMore, GivesUp}
use Rattle.xa_caller.specs.Kept.{IsLeaving, AreMine}
use Rattle.xa_caller.proofs.Next.{has_one}
use Rattle.xa_caller.proofs.Ordering.{without_one, ascends-out}
use Rattle.xa_caller.proofs.Reading.{view-more}

pub fills_trans : (u v w : View Filling) → FillsNoMore u v → FillsNoMore v w → FillsNoMore u w
fills_trans u v w f g = record { taken = λ k x is. g.taken k x (f.taken k x is); filled = λ k. g.filled k ∙ f.filled k }

-- it may give up the first that is out
pub gives_next : (w : WorkState) (seat : Seat Filling) (o : Open) (os : List Open) (x : Cancelled) → IsLeaving w seat (o ∷ os) → x.by ≡ w.id → x.op ≡ 0 → x.request ≡ o.request → IsNext w (Cancel x)
gives_next w seat o os x l by none its = record {
  its = ap (λ (id : CallerId). id.0) by;
  met = record {
    call = inr (none, subst (λ (id : CallerId). may_give_up w.clients id.0 (theirs w) ≡ true) (sym by) (rw (l.client, l.stands) refl));
    caller = ap (λ (r : RequestId). r.caller) its ∙ l.mine.0 ∙ sym by;
    is_open = subst (λ (id : CallerId). has x.request (open_descriptors id.0 (theirs w)) ≡ true) (sym by)
        (subst (λ (rs : List RequestId). has x.request rs ≡ true) (sym l.descriptors) (subst (λ (r : RequestId). has r (o.request ∷ map request_of os) ≡ true) (sym its) (has_one [] (map request_of os) o.request)));
  };
}

-- and is left with the others
pub gave_first : (cells : Cells Filling) (w : WorkState) (seat t : Seat Filling) (o : Open) (os : List Open) (stamp : Stamp) (x : Cancelled) → IsLeaving w seat (o ∷ os) → x.by ≡ w.id → x.request ≡ o.request → SameSeat cells seat t → Shuts o.place.cell (known seat) (known t)
    → IsLeaving (noted_here (record { stamp = stamp; event = Cancel x }) w) t os
gave_first cells w seat t o os stamp x l by its same shut =
    let e : Stamped = record { stamp = stamp; event = Cancel x } in
    let by' : x.by.0 ≡ w.id.0 = ap (λ id. id.0) by in
    let viewed = view-more w e by' in
    let room = l.room in
    record {
      client = l.client;
      stands = ap (λ (v : CallerView). v.left) viewed ∙ l.stands;
      descriptors = ap (λ (v : CallerView). v.descriptors) viewed ∙ ap (λ b. without (if b then Some x.request else None) (view_of w).descriptors) (eq-eqb x.by.0 w.id.0 by') ∙ ap (λ (r : RequestId). without (Some r) (view_of w).descriptors) its
          ∙ ap (without (Some o.request)) l.descriptors ∙ without_one 0 l.high [] (map request_of os) o.request l.rise;
      unconnected = ap (λ (v : CallerView). v.connections) viewed ∙ l.unconnected;
      high = l.high;
      rise = ascends-out 0 l.high [] (map request_of os) o.request l.rise;
      mine = subst (λ (n : ℕ). AreMine w.id t.first (t.first + n) os) (sym same.2) (subst (λ (n : ℕ). AreMine w.id n (n + seat.count) os) (sym same.1) l.mine.3);
      places = one_less_open [] (map place_of os) o.request seat l.places shut;
      room = omega (arith, room);
    }

-- one more is given up
pub gives_more : (front : List Open) (o : Open) (new mid old : WorkState) → GivesUp front mid old → GivesUp (o ∷ []) new mid → GivesUp (front ++ o ∷ []) new old
gives_more [] o new mid old is more = subst (λ (w : WorkState). GivesUp (o ∷ []) new w) is more
gives_more (p ∷ front) o new mid old gives more = (gives.0, gives.1, gives_more front o new mid _ gives.2 more)

-- it leaves
pub leaving_next : (w : WorkState) (seat : Seat Filling) (out : List Open) (id : CallerId) → IsLeaving w seat out → out ≡ [] → id ≡ w.id → IsNext w (Leave id)
leaving_next w seat out id l none is =
    subst (λ (i : CallerId). IsNext w (Leave i)) (sym is) (record {
      its = refl;
      met = record { known = l.client; not_left = l.stands; none = l.descriptors ∙ ap (map request_of) none; unconnected = l.unconnected };
    })

-- the first was taken out
pub first_taken : (all left : List Open) (o : Open) → (s : StandsAt 0 o all) × (left ≡ s.front ++ s.back) → all ≡ o ∷ left
first_taken all left o (s, is) = s.is ∙ go s.front s.back o s.before ∙ ap (λ (l : List Open). o ∷ l) (sym is)
  where
    go : (front back : List Open) (o : Open) → length front ≡ 0 → front ++ o ∷ back ≡ o ∷ (front ++ back)
    go [] back o none = refl
    go (x ∷ front) back o none = absurd (cc none)

pub first_of : (all : List Open) (o : Open) → slice_get all 0 ≡ Some o → (rest : List Open) × (all ≡ o ∷ rest)
first_of [] o found = absurd (cc found)
first_of (y ∷ ys) o found = (ys, ap (λ (z : Open). z ∷ ys) (cc found))
