-- What the seats of all callers show together of one answer.
use Rattle.std.proofs.Common.{◌≡◌, ℕ, true, false, cond, List, [], ◌∷◌, ◌++◌, Option, Some, None, inl, inr, refl, sym, ◌∙◌, ap, subst, arith}
use Rattle.std.specs.Prelude.{IsSomeAnd, IfSome}
use Rattle.std.specs.List.{All, Contains, flat_map}
use Rattle.std.proofs.lemmas.List.Elements.{All-nil, All-cons, All-head, All-tail, All-append, All-contains, All-contains_itself, All-weaker}
use Rattle.std.proofs.lemmas.Bool.{cases_Bool}
use Rattle.xa_caller.specs.xa_types.declared.fault.Fault.TheVariants.{OType}
use Rattle.xa_caller.specs.xa_types.declared.data.Data.{Data}
use Rattle.xa_caller.specs.xa_types.declared.ids.RequestId.{RequestId}
use Rattle.xa_caller.specs.xa_types.declared.data.Kind.{Kind}
use Rattle.xa_caller.specs.xa_types.declared.reply.Answer.{Answer as Reply}
use Rattle.xa_caller.specs.xa_types.declared.reply.Answer.TheVariants.{Success, Failed, Error}
use Rattle.xa_caller.specs.xa_types.declared.setup.Setup.{Setup}
use Rattle.xa_caller.specs.xa_types.declared.stamp.Stamp.{Stamp}
use Rattle.xa_caller.specs.xa_types.Kind.{kind_of}
use Rattle.xa_caller.specs.xa_events.declared.event.Event.{Event}
use Rattle.xa_caller.specs.xa_events.declared.event.Event.TheVariants.{Answer}
use Rattle.xa_caller.specs.xa_events.declared.event.Replied.{Replied}
use Rattle.xa_caller.specs.xa_events.Answers.{reply_of, answer_to, under_kind, kind_fits, has_kind, has_payload, IsAnswerTo}
use Rattle.xa_caller.specs.xa_events.Homes.{Home}
use Rattle.xa_caller.specs.xa_events.Request.{Settlement, settlement_in}
use Rattle.xa_caller.specs.xa_stamp.declared.home.Stamped.{Stamped}
use Rattle.xa_caller.specs.xa_worker.Seen.{WasTold}
use Rattle.xa_caller.specs.xa_cell.declared.tokens.Seat.{Seat}
use Rattle.xa_caller.specs.xa_cell.declared.view.Fill.{Fill}
use Rattle.xa_caller.specs.xa_cell.declared.view.Part.{Part}
use Rattle.xa_caller.specs.xa_cell.Views.{at}
use Rattle.xa_caller.specs.xa_cell.Known.{known}
use Rattle.xa_caller.specs.xa_cell.Law.{parts_of, Answered}
use Rattle.xa_caller.specs.declared.cargo.Filling.{Filling}
use Rattle.xa_server.specs.Fillings.{TookFor, WasTaken, AnswersTaken, EndsAt, HasEnd, AllEnded}

taken_in : Seat Filling → ℕ → List (Fill Filling)
taken_in seat k = (at k (known seat)).taken

-- what holds of what all seats have, each has
pub each_seat : (f : Part Filling → List (Fill Filling)) (Q : Fill Filling → Type 0) (k : ℕ) (seats : List (Seat Filling)) (fill : Fill Filling) (seat : Seat Filling)
    → All Q (flat_map f (parts_of k seats)) → Contains seats seat → Contains (f (at k (known seat))) fill → Q fill
each_seat f Q k seats fill seat all among here = All-contains Q (f (at k (known seat))) fill (All-contains (λ s. All Q (f (at k (known s)))) seats seat (split seats all) among) here
  where
    front : (xs ys : List (Fill Filling)) → All Q (xs ++ ys) → All Q xs × All Q ys
    front [] ys all = (All-nil Q, all)
    front (x ∷ xs) ys all = let rest = front xs ys (All-tail Q x (xs ++ ys) all) in (All-cons Q x xs (All-head Q x (xs ++ ys) all) rest.0, rest.1)

    split : (ss : List (Seat Filling)) → All Q (flat_map f (parts_of k ss)) → All (λ s. All Q (f (at k (known s)))) ss
    split [] all = All-nil (λ s. All Q (f (at k (known s))))
    split (s ∷ ss) all = let both = front (f (at k (known s))) (flat_map f (parts_of k ss)) all in All-cons (λ s. All Q (f (at k (known s)))) s ss both.0 (split ss both.1)

-- what holds of what each seat has, holds of what all have
pub all_seats : (f : Part Filling → List (Fill Filling)) (Q : Fill Filling → Type 0) (k : ℕ) (seats : List (Seat Filling)) → All (λ s. All Q (f (at k (known s)))) seats → All Q (flat_map f (parts_of k seats))
all_seats f Q k [] each = All-nil Q
all_seats f Q k (s ∷ ss) each = All-append Q (f (at k (known s))) (flat_map f (parts_of k ss)) (All-head (λ s. All Q (f (at k (known s)))) s ss each) (all_seats f Q k ss (All-tail (λ s. All Q (f (at k (known s)))) s ss each))

misfit : (wanted : Kind) (kind : Option Kind) → kind_fits wanted kind ≡ false → has_kind kind ≡ true
misfit wanted None bad = cc bad
misfit wanted (Some kind) bad = refl

under_as : (expect : Option Kind) (payload : Data) (answer : Reply) (settlement : Settlement) → reply_of settlement ≡ answer → has_payload answer ≡ has_kind (kind_of payload) → IsAnswerTo (under_kind expect payload answer) settlement
under_as None payload answer settlement is of = inl (sym is)
under_as (Some wanted) payload answer settlement is of =
    elim (cases_Bool (kind_fits wanted (kind_of payload))) [
      | inl y ↦ subst (λ b. IsAnswerTo (cond b answer (Error OType)) settlement) (sym y) (inl (sym is))
      | inr n ↦ subst (λ b. IsAnswerTo (cond b answer (Error OType)) settlement) (sym n) (inr (refl, ap has_payload is ∙ of ∙ misfit wanted (kind_of payload) n))
    ]

-- an answer under a kind is that answer, or TPEOTYPE where data came back
told_as : (expect : Option Kind) (answer : Reply) (settlement : Settlement) → reply_of settlement ≡ answer → IsAnswerTo (answer_to expect answer) settlement
told_as expect (Success code payload) settlement is = under_as expect payload (Success code payload) settlement is refl
told_as expect (Failed code payload) settlement is = under_as expect payload (Failed code payload) settlement is refl
told_as expect (Error fault) settlement is = inl (sym is)

-- a settlement to which a filling is the reply has the answer that is told of it
pub shown : (found : Option Settlement) (told : Reply) (expect : Option Kind) (reply : Reply) → told ≡ answer_to expect reply → IsSomeAnd found (λ s. reply ≡ reply_of s) → IsSomeAnd found (IsAnswerTo told)
shown None told expect reply e h = h
shown (Some s) told expect reply e h = subst (λ answer. IsAnswerTo answer s) (sym e) (told_as expect reply s (sym h))

-- the end of an answer that was taken stands at the home that the filling's end has
pub was_told : (setup : Setup) (clients : ℕ) (entries : Home → List Stamped) (seats : List (Seat Filling)) → ((k : ℕ) → Answered k seats) → All (λ s. AllEnded entries (known s)) seats
    → (seat : Seat Filling) → Contains seats seat → (stamp : Stamp) (a : Replied) → TookFor (known seat) stamp a → (own : List Event) → WasTold setup clients entries stamp own (Answer a)
was_told setup clients entries seats answered ends seat among stamp a took own =
    let each : All (λ s. All (HasEnd entries) (at took.cell (known s)).filled) seats = All-weaker (λ (s : Seat Filling). AllEnded entries (known s)) (λ s. All (HasEnd entries) (at took.cell (known s)).filled) (λ s h. h.each took.cell) seats ends in
    let filled : Contains (flat_map (λ (p : Part Filling). p.filled) (parts_of took.cell seats)) took.fill =
    each_seat (λ (p : Part Filling). p.taken) (Contains (flat_map (λ (p : Part Filling). p.filled) (parts_of took.cell seats))) took.cell seats took.fill seat (answered took.cell).taken among took.taken in
    let one = All-contains (HasEnd entries) (flat_map (λ (p : Part Filling). p.filled) (parts_of took.cell seats)) took.fill (all_seats (λ (p : Part Filling). p.filled) (HasEnd entries) took.cell seats each) filled in
    let ended : EndsAt entries took.fill.opening.request took.fill.answer.stamp took.reply = subst (λ (r : Option Reply). IfSome r (EndsAt entries took.fill.opening.request took.fill.answer.stamp)) took.says one in
    let by = ended.settles.by in
    let before = took.before in (
      ended.home,
      record {
        entry = ended.entry;
        stands = ended.stands;
        before = omega (arith, by, before);
        shows = shown (settlement_in a.request ended.entry.event) a.answer took.expect took.reply took.told
            (subst (λ (r : RequestId). IsSomeAnd (settlement_in r ended.entry.event) (λ s. took.reply ≡ reply_of s)) took.request ended.settles.tells);
      },
    )

-- what a seat took has its end
pub taken_ended : (entries : Home → List Stamped) (seats : List (Seat Filling)) → ((k : ℕ) → Answered k seats) → All (λ s. AllEnded entries (known s)) seats
    → (seat : Seat Filling) → Contains seats seat → (k : ℕ) → All (HasEnd entries) (at k (known seat)).taken
taken_ended entries seats answered ends seat among k =
    let each : All (λ s. All (HasEnd entries) (at k (known s)).filled) seats = All-weaker (λ (s : Seat Filling). AllEnded entries (known s)) (λ s. All (HasEnd entries) (at k (known s)).filled) (λ s h. h.each k) seats ends in
    All-weaker (Contains (at k (known seat)).taken) (HasEnd entries) (λ f taken.
    All-contains (HasEnd entries) (flat_map (λ (p : Part Filling). p.filled) (parts_of k seats)) f (all_seats (λ (p : Part Filling). p.filled) (HasEnd entries) k seats each)
    (each_seat (λ (p : Part Filling). p.taken) (Contains (flat_map (λ (p : Part Filling). p.filled) (parts_of k seats))) k seats f seat (answered k).taken among taken)) (at k (known seat)).taken (All-contains_itself (at k (known seat)).taken)

pub each_told : (setup : Setup) (clients : ℕ) (entries : Home → List Stamped) (seats : List (Seat Filling)) → ((k : ℕ) → Answered k seats) → All (λ s. AllEnded entries (known s)) seats
    → (seat : Seat Filling) → Contains seats seat → (own : List Stamped) → AnswersTaken (known seat) own
    → All (λ x. (a : Replied) → x.event ≡ Answer a → (before : List Event) → WasTold setup clients entries x.stamp before (Answer a)) own
each_told setup clients entries seats answered ends seat among own taken =
    All-weaker (λ (x : Stamped). WasTaken (known seat) x.stamp x.event) (λ x. (a : Replied) → x.event ≡ Answer a → (before : List Event) → WasTold setup clients entries x.stamp before (Answer a))
    (λ x t a is before. was_told setup clients entries seats answered ends seat among x.stamp a (subst (WasTaken (known seat) x.stamp) is t) before) own taken
