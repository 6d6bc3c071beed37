-- The ends of what a seat filled stand behind each change of its view, and of the answers what it took.
use Rattle.std.proofs.Common.{ℕ, List, [], ◌∷◌, ◌++◌, Option, Some, None}
use Rattle.std.specs.List.{All, Contains}
use Rattle.std.proofs.lemmas.List.Elements.{All-same, All-push, All-weaker}
use Rattle.xa_caller.specs.xa_types.declared.stamp.Stamp.{Stamp}
use Rattle.xa_caller.specs.xa_events.declared.event.Event.{Event}
use Rattle.xa_caller.specs.xa_events.declared.event.Event.TheVariants as events
use Rattle.xa_caller.specs.xa_events.Homes.{Home}
use Rattle.xa_caller.specs.xa_stamp.declared.home.Stamped.{Stamped}
use Rattle.xa_caller.specs.xa_cell.declared.view.Opening.{Opening}
use Rattle.xa_caller.specs.xa_cell.declared.view.View.{View}
use Rattle.xa_caller.specs.xa_cell.Growing.{Keeps, TakesMore, FillsMore}
use Rattle.xa_caller.specs.xa_cell.Views.{at, fill}
use Rattle.xa_caller.specs.declared.cargo.Filling.{Filling}
use Rattle.xa_server.specs.Growing.{Grows}
use Rattle.std.specs.Prelude.{IfSome}
use Rattle.xa_caller.specs.xa_types.declared.ids.RequestId.{RequestId}
use Rattle.xa_caller.specs.xa_types.declared.reply.Answer.{Answer as Reply}
use Rattle.xa_server.specs.Fillings.{WasTaken, AnswersTaken, EndsAt, HasEnd, AllEnded}
use Rattle.xa_server.proofs.Growth.{only_at}

pub still_taken : (v w : View Filling) → Grows v w → (stamp : Stamp) (e : Event) → WasTaken v stamp e → WasTaken w stamp e
still_taken v w g stamp (events.Answer a) t = record {
  cell = t.cell;
  fill = t.fill;
  expect = t.expect;
  taken = g.taken t.cell t.fill t.taken;
  request = t.request;
  reply = t.reply;
  says = t.says;
  before = t.before;
  told = t.told;
}
still_taken v w g stamp _ t = tt

pub all_taken : (own : List Stamped) (v w : View Filling) → Grows v w → AnswersTaken v own → AnswersTaken w own
all_taken own v w g h = All-weaker (λ (x : Stamped). WasTaken v x.stamp x.event) (λ x. WasTaken w x.stamp x.event) (λ x t. still_taken v w g x.stamp x.event t) own h

pub ends_kept : (entries : Home → List Stamped) (v w : View Filling) → Keeps v w → AllEnded entries v → AllEnded entries w
ends_kept entries v w g h = record { each = λ k. All-same (HasEnd entries) (at k w).filled (at k v).filled (g.each k).filled (h.each k) }

pub ends_taking : (entries : Home → List Stamped) (k : ℕ) (a : Filling) (v w : View Filling) → TakesMore k a v w → AllEnded entries v → AllEnded entries w
ends_taking entries k a v w g h = record {
  each = only_at (λ j. All (HasEnd entries) (at j w).filled) k (All-same (HasEnd entries) (at k w).filled (at k v).filled g.filled (h.each k))
      (λ j ne. All-same (HasEnd entries) (at j w).filled (at j v).filled (g.others j ne).filled (h.each j));
}

pub ends_filling : (entries : Home → List Stamped) (k : ℕ) (o : Opening) (a : Filling) (v w : View Filling) → FillsMore k o a v w → HasEnd entries (fill o a) → AllEnded entries v → AllEnded entries w
ends_filling entries k o a v w g e h = record {
  each = only_at (λ j. All (HasEnd entries) (at j w).filled) k
      (All-same (HasEnd entries) (at k w).filled ((at k v).filled ++ fill o a ∷ []) g.filled (All-push (HasEnd entries) (at k v).filled (fill o a) (h.each k) e))
      (λ j ne. All-same (HasEnd entries) (at j w).filled (at j v).filled (g.others j ne).filled (h.each j));
}

one_later : (entries later : Home → List Stamped) → ((home : Home) (x : Stamped) → Contains (entries home) x → Contains (later home) x)
    → (request : RequestId) (stamp : Stamp) (answer : Option Reply) → IfSome answer (EndsAt entries request stamp) → IfSome answer (EndsAt later request stamp)
one_later entries later more request stamp None e = tt
one_later entries later more request stamp (Some answer) e = record {
  home = e.home;
  entry = e.entry;
  stands = more e.home e.entry e.stands;
  settles = e.settles;
  where_ = e.where_;
  has = (e.has.0, more e.where_ e.has.0 e.has.1, e.has.2);
}

pub ends_later : (entries later : Home → List Stamped) (v : View Filling) → ((home : Home) (x : Stamped) → Contains (entries home) x → Contains (later home) x) → AllEnded entries v → AllEnded later v
ends_later entries later v more h = record {
  each = λ k. All-weaker (HasEnd entries) (HasEnd later) (λ f e. one_later entries later more f.opening.request f.answer.stamp f.answer.answer e) (at k v).filled (h.each k);
}
