use Rattle.std.proofs.Common.{◌≡◌, ℕ, ◌≤◌, ◌^◌, [], ◌∷◌, refl, sym, ap, ◌∙◌, subst, arith}
use Rattle.xa_types.specs.declared.stamp.Stamp.{Stamp}
use Rattle.xa_held.specs.declared.kept_board.BoardNote.TheVariants.{Looked}
use Rattle.xa_held.specs.declared.kept_board.Look.{Look}
use Rattle.xa_held.specs.Board.{Held, raised, Turns}
use Rattle.xa_held.specs.BoardSteps.{IsLook}
use Rattle.xa_board.specs.Changes.{rows_on}
use Rattle.xa_held.specs.InnerBoard.{held_of}
use Rattle.xa_held.proofs.Climbing.{sound_look, no_row, kept_behind}
use Rattle.xa_held.proofs.kept_board.KeptBoard.clear.Goals as goal

pub invariant_of-self : goal.invariant_of-self
invariant_of-self c =
    let old : Held = held_of c.self.inside in
    let stamp : Stamp = record { 0 = c.max.result } in
    let new : Held = held_of (record { board = c.self.inside.board; setup = c.self.inside.setup; last = stamp; notes = c.and-self-inside.result }) in
    let look : Look = record { maker = c.args.maker; stamp = stamp; before = c.self.inside.last } in
    sound_look c.args.seen old new c.self.invariant refl look (ap (λ (n : ℕ). record { 0 = n }) c.max.ensures) refl c.requires refl refl
    (kept_behind c.self.inside.setup.value c.self.inside.notes.items c.and-self-inside.result.items _ c.and-self-inside.ensures)

pub returns-in_default : goal.returns-in_default
returns-in_default c =
    let stamp : Stamp = record { 0 = c.max.result } in
    let old : Held = held_of c.self.inside in
    let new : Held = held_of (record { board = c.self.inside.board; setup = c.self.inside.setup; last = stamp; notes = c.and-self-inside.result }) in
    let is : stamp ≡ raised c.args.seen old = ap (λ (n : ℕ). record { 0 = n }) c.max.ensures in
    let none : rows_on c.args.queue.0 old.board.rows ≡ [] = no_row (rows_on c.args.queue.0 old.board.rows) (sym c.in_default.is ∙ c.service_on.ensures.value) in
    let bound : stamp.0 ≤ 2 ^ 63 = omega (arith, c.max.ensures, c.requires, c.self.invariant.bound) in
    let look : Look = record { maker = c.args.maker; stamp = stamp; before = c.self.inside.last } in
    subst (λ (held : Held). Turns held new (Looked look ∷ []) (λ old new. IsLook c.args.seen c.args.maker look old × (rows_on c.args.queue.0 old.board.rows ≡ []) × (new.board ≡ old.board) × (new.last ≡ stamp))) c.self.view_is
    (record { first = refl; setup = refl; notes = kept_behind c.self.inside.setup.value c.self.inside.notes.items c.and-self-inside.result.items _ c.and-self-inside.ensures; how = (record { its = refl; before = refl; raised = is; bound = bound }, none, refl, refl) })
