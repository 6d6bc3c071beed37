use Rattle.std.proofs.Common.{◌≡◌, ◌∙◌, [], ◌∷◌, ◌++◌, List, sym, ap, reverse, subst}
use Rattle.xa_events.specs.State.{State}
use Rattle.xa_types.specs.Rows.{rows}
use Rattle.xa_events.specs.Board.{change_in, changes}
use Rattle.xa_events.specs.Cases.{Case, rows_now}
use Rattle.xa_machine.specs.Versions.{version_rows, next_rows}
use Rattle.xa_machine.proofs.Boards.{standing_is}
use Rattle.xa_events.specs.declared.event.Event.{Event}
use Rattle.xa_machine.specs.Kept.{IsPlaced, Reached}
use Rattle.xa_machine.specs.Whole.{IsPlaceOf, TablesShow}
use Rattle.xa_machine.proofs.Scans.{newest}
use Rattle.xa_machine.proofs.Placing.{case_placed, case_takes, case_accepts}
use Rattle.xa_machine.proofs.machine.Machine.note.Goals as goal

pub place_of-place-requires : goal.place_of-place-requires
place_of-place-requires c =
    let case = subst (λ (s : State). Case s c.args.event.now) (sym c.self.view_is) c.requires in
    subst (λ (s : State). IsPlaced s c.args.event.now) c.self.view_is
    (case_placed c.self.inside.setup c.self.inside.clients (reverse c.self.inside.events.items) c.self.inside.tables c.args.event.now c.self.invariant.tabled case)

pub invariant_of-self-2 : goal.invariant_of-self-2
invariant_of-self-2 c =
    let case = subst (λ (s : State). Case s c.args.event.now) (sym c.self.view_is) c.requires in
    let place = subst (λ (s : State). IsPlaceOf s.setup s.clients c.args.event.now c.place_of-place.result) (sym c.self.view_is) c.place_of-place.ensures.place in
    let past : List Event = reverse c.self.inside.events.items in
    let was = c.reserve-2.ensures.shows c.self.inside.setup c.self.inside.clients past c.self.invariant.tabled in
    let stands : c.standing.result.now ≡ rows c.self.inside.setup (changes past) =
    subst (λ (s : State). c.standing.result.now ≡ rows_now s.setup s.past) (sym c.self.view_is) c.standing.ensures ∙ standing_is c.self.inside.setup past in
    let next : version_rows c.in_ok-version.version ≡ next_rows c.self.inside.setup (change_in c.args.event.now) (rows c.self.inside.setup (changes past)) =
    c.in_ok-version.ensures ∙ ap (next_rows c.self.inside.setup (change_in c.args.event.now)) stands in
    let tabled = c.note.ensures c.self.inside.setup past place (case_takes c.self.inside.setup c.self.inside.clients past c.args.event.now case) (case_accepts c.self.inside.setup c.self.inside.clients past c.args.event.now case) next was in
    let same : reverse c.push_reserved.new.self.items ≡ c.args.event.now ∷ past =
    ap reverse (c.push_reserved.ensures.items ∙ ap (λ (xs : List Event). xs ++ c.in_ok-copied.copied ∷ []) c.reserve.ensures.items) ∙ (newest c.self.inside.events.items c.in_ok-copied.copied ∙ ap (λ (e : Event). e ∷ past) c.in_ok-copied.ensures) in
    record {
      sound = c.self.invariant.sound;
      shaped = c.self.invariant.shaped;
      tabled = subst (λ (xs : List Event). TablesShow c.self.inside.setup c.self.inside.clients xs c.note.new.self) (sym same) tabled;
      reached = subst (λ (xs : List Event). Reached c.self.inside.setup c.self.inside.clients xs) (sym same) (case, c.self.invariant.reached);
    }
