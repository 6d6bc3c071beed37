use Rattle.std.proofs.Common.{ℕ, List, [], ◌∷◌, ◌++◌, refl, sym, ap, ◌∙◌, subst}
use Rattle.std.proofs.lemmas.List.Elements.{All-filter, All-push}
use Rattle.xa_events.specs.declared.event.Event.{Event}
use Rattle.xa_events.specs.declared.event.Event.TheVariants.{Advertise}
use Rattle.xa_types.specs.declared.row.Row.{Row}
use Rattle.xa_board.specs.Changes.{next_change, without}
use Rattle.xa_held.specs.Board.{Held, IsPlaced}
use Rattle.xa_held.specs.InnerBoard.{held_of}
use Rattle.xa_held.proofs.Climbing.{sound_change, kept_behind}
use Rattle.xa_held.proofs.kept_board.KeptBoard.advertise.Goals as goal

pub invariant_of-self-2 : goal.invariant_of-self-2
invariant_of-self-2 c =
    let old : Held = held_of c.self.inside in
    let done = c.in_ok-changed.changed in
    let new : Held = held_of (record { board = c.advertise.new.self; setup = c.self.inside.setup; last = done.noted.stamp; notes = c.and-self-inside.result }) in
    let event : Event = Advertise (record { by = c.args.by; op = c.args.op; service = c.args.row.service; queue = c.args.row.queue; routine = c.args.row.routine; version = done.version }) in
    let rows : List Row = without c.args.row.service c.args.row.queue.0 old.board.rows ++ c.args.row ∷ [] in
    sound_change c.args.seen old new c.self.invariant refl done.version c.args.maker done.noted event rows
    (record {
      next = c.in_ok-changed.ensures.value ∙ ap (λ (n : ℕ). next_change (record { 0 = n }) old.board) c.max.ensures;
      event_is = c.in_ok-changed.ensures.noted;
      board = c.in_ok-changed.ensures.changed;
      last = refl;
    })
    done.noted.bound
    (kept_behind c.self.inside.setup.value c.self.inside.notes.items c.and-self-inside.result.items _ c.and-self-inside.ensures)
    (All-push (IsPlaced c.self.inside.setup.value) (without c.args.row.service c.args.row.queue.0 old.board.rows) c.args.row (All-filter _ (IsPlaced c.self.inside.setup.value) old.board.rows c.self.invariant.placed) (subst (λ (held : Held). IsPlaced held.setup c.args.row) (sym c.self.view_is) c.requires.placed))
