use Rattle.std.proofs.Common.{List, subst, IsPermutation, IsSorted}
use Rattle.std.proofs.lemmas.List.Sorted.{All-permutation}
use Rattle.std.specs.Result.{IfOk}
use Rattle.std.proofs.lemmas.Result.{IfOk-weaker}
use Rattle.xa_events.specs.declared.event.Event.{Event}
use Rattle.xa_stamp.specs.Home.{Notes}
use Rattle.xa_stamp.specs.Merge.{places_from, place_cmp, StandAt, IsMerged}
use Rattle.xa_stamp.proofs.Places.{IsThere, all_there}
use Rattle.xa_stamp.proofs.merging.merge.Goals as goal

pub events_at-requires : goal.events_at-requires
events_at-requires c =
    let homes = c.slice-homes.result.now in
    rw c.deref.ensures.value (All-permutation (IsThere homes) _ _ c.sort_unstable.ensures.permutation (rw c.in_ok-places.ensures (all_there homes)))

pub returns : goal.returns
returns c =
    let homes = c.slice-homes.result.now in
    let places = c.deref.result.now in
    let all : IsPermutation (places_from 0 homes) places = rw (← c.in_ok-places.ensures, c.deref.ensures.value) c.sort_unstable.ensures.permutation in
    let ordered : IsSorted place_cmp places = rw c.deref.ensures.value c.sort_unstable.ensures.sorted in
    let merged : (events : List Event) → StandAt homes places events → IsMerged homes events = λ events stand. record { places = places; all = all; ordered = ordered; theirs = stand } in
    let P : List Notes → Type 0 = λ notes. IfOk c.events_at.result (λ events. IsMerged notes events.items) in
    subst P c.slice-homes.ensures (IfOk-weaker c.events_at.result (λ events. StandAt homes places events.items) (λ events. IsMerged homes events.items) (λ events stand. merged events.items stand) c.events_at.ensures)
