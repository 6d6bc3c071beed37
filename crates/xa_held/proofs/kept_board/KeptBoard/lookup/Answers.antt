use Rattle.std.proofs.Common.{◌≡◌, ℕ, ◌≤◌, ◌^◌, [], ◌∷◌, max, refl, sym, ap, ◌∙◌, subst, arith}
use Rattle.xa_types.specs.declared.stamp.Stamp.{Stamp}
use Rattle.xa_held.specs.declared.kept_board.BoardNote.TheVariants.{Looked}
use Rattle.xa_held.specs.declared.kept_board.Look.{Look}
use Rattle.xa_held.specs.Board.{Held, raised, Turns}
use Rattle.xa_held.specs.BoardSteps.{IsLook}
use Rattle.xa_board.specs.Reader.{Finds}
use Rattle.xa_held.specs.InnerBoard.{held_of}
use Rattle.xa_held.proofs.Climbing.{sound_look, kept_behind}
use Rattle.xa_held.proofs.kept_board.KeptBoard.lookup.Goals as goal

-- the larger of 0 and a stamp
is_raised : (last : Stamp) (old : Held) → old.last ≡ last → last ≡ raised (record { 0 = 0 }) old
is_raised last old is = let same = ap (λ (s : Stamp). s.0) is in let wrap : ℕ → Stamp = λ n. record { 0 = n } in ap wrap (omega (arith, same))

pub invariant_of-self : goal.invariant_of-self
invariant_of-self c =
    let old : Held = held_of c.self.inside in
    let last : Stamp = c.self.inside.last in
    let new : Held = held_of (record { board = c.self.inside.board; setup = c.self.inside.setup; last = last; notes = c.and-self-inside.result }) in
    let look : Look = record { maker = c.args.maker; stamp = last; before = last } in
    sound_look (record { 0 = 0 }) old new c.self.invariant refl look (is_raised last old refl) refl (omega arith) refl refl
    (kept_behind c.self.inside.setup.value c.self.inside.notes.items c.and-self-inside.result.items _ c.and-self-inside.ensures)
