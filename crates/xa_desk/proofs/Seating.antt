-- What a seat took and filled, as it goes on.
use Rattle.std.proofs.Common.{◌≡◌, ℕ, List, refl, sym, subst}
use Rattle.std.specs.List.{All, Contains}
use Rattle.std.proofs.lemmas.List.Elements.{All-weaker, All-contains, All-contains_itself}
use Rattle.xa_server.specs.xa_types.declared.setup.Setup.{Setup}
use Rattle.xa_server.specs.xa_types.declared.stamp.Stamp.{Stamp}
use Rattle.xa_server.specs.xa_events.declared.event.Event.{Event}
use Rattle.xa_server.specs.xa_events.declared.event.Event.TheVariants.{Answer}
use Rattle.xa_server.specs.xa_events.Homes.{Home, home_of}
use Rattle.xa_server.specs.xa_events.Homes.Home.{CallerHome}
use Rattle.xa_server.specs.xa_stamp.declared.home.Stamped.{Stamped}
use Rattle.xa_server.specs.xa_cell.declared.tokens.Seat.{Seat}
use Rattle.xa_server.specs.xa_cell.declared.view.Fill.{Fill}
use Rattle.xa_server.specs.xa_cell.declared.view.View.{View}
use Rattle.xa_server.specs.xa_cell.Growing.{Keeps}
use Rattle.xa_server.specs.xa_cell.Known.{known}
use Rattle.xa_server.specs.xa_cell.Views.{at}
use Rattle.xa_server.specs.xa_caller.declared.cargo.Filling.{Filling}
use Rattle.xa_server.specs.Told.{EndedFor, FilledByEnds}
use Rattle.xa_server.specs.Fillings.{WasTaken, AnswersTaken, HasEnd}
use Rattle.xa_desk.specs.Whole.{Whole, entries_of}

-- what the one seat took the other did too
abbrev pub TakesAll : View Filling → View Filling → Type 0
TakesAll v w = (k : ℕ) (f : Fill Filling) → Contains (at k v).taken f → Contains (at k w).taken f

-- what was taken before had ended
pub taken_before : (whole : Whole) (old new : Seat Filling) → TakesAll (known old) (known new) → ((k : ℕ) → All (HasEnd (entries_of whole)) (at k (known new)).taken) → (k : ℕ) → All (HasEnd (entries_of whole)) (at k (known old)).taken
taken_before whole old new stands ended k =
    All-weaker (Contains (at k (known old)).taken) (HasEnd (entries_of whole)) (λ f here. All-contains (HasEnd (entries_of whole)) (at k (known new)).taken f (ended k) (stands k f here)) (at k (known old)).taken (All-contains_itself (at k (known old)).taken)

-- each answer that was taken was so still
pub took_on : (own : List Stamped) (v w : View Filling) → TakesAll v w → AnswersTaken v own → AnswersTaken w own
took_on own v w takes all = All-weaker (λ (x : Stamped). WasTaken v x.stamp x.event) (λ (x : Stamped). WasTaken w x.stamp x.event) (λ x is. by x.stamp x.event is) own all
  where
    by : (stamp : Stamp) (e : Event) → WasTaken v stamp e → WasTaken w stamp e
    by stamp (Answer a) is = record { cell = is.cell; fill = is.fill; expect = is.expect; taken = takes is.cell is.fill is.taken; request = is.request; reply = is.reply; says = is.says; before = is.before; told = is.told }
    by stamp _ is = tt

-- none is at a home that is no caller's
pub none_taken : (setup : Setup) (clients : ℕ) (home : Home) (v : View Filling) (more : List Stamped) → ((caller : ℕ) → CallerHome caller ≡ home → ⊥) → All (λ (x : Stamped). home_of setup clients x.event ≡ home) more → AnswersTaken v more
none_taken setup clients home v more apart at = All-weaker (λ (x : Stamped). home_of setup clients x.event ≡ home) (λ (x : Stamped). WasTaken v x.stamp x.event) (λ x here. by x.stamp x.event here) more at
  where
    by : (stamp : Stamp) (e : Event) → home_of setup clients e ≡ home → WasTaken v stamp e
    by stamp (Answer a) here = absurd (apart a.by.0 here)
    by stamp _ here = tt

-- and it filled no more
pub record TakesOn (v w : View Filling) : Type 0 where
  pub taken : TakesAll v w
  pub filled : (k : ℕ) → (at k w).filled ≡ (at k v).filled

pub takes_same : (v : View Filling) → TakesOn v v
takes_same v = record { taken = λ k f here. here; filled = λ k. refl }

pub keeps_on : (v w : View Filling) → Keeps v w → TakesOn v w
keeps_on v w keeps = record { taken = λ k f here. subst (λ l. Contains l f) (sym (keeps.each k).taken) here; filled = λ k. (keeps.each k).filled }

pub filled_on : (own : List Stamped) (v w : View Filling) → TakesOn v w → FilledByEnds own v → FilledByEnds own w
filled_on own v w on filled k = subst (All (EndedFor own)) (sym {A = List (Fill Filling)} (on.filled k)) (filled k)
