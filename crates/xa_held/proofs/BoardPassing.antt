-- What a pass knows of the board once it has left.
use Rattle.std.proofs.Common.{◌≡◌, ◌<◌, ◌≤◌, ℕ, zero, suc, arith, inl, inr, List, [], ◌∷◌, ◌++◌, append_assoc, length, refl, sym, ap, ◌∙◌, subst}
use Rattle.std.specs.Prelude.{◌⊎◌}
use Rattle.std.specs.List.{All}
use Rattle.std.proofs.lemmas.List.Elements.{All-nil, All-map, All-weaker}
use Rattle.xa_types.specs.declared.setup.Setup.{Setup}
use Rattle.xa_types.specs.declared.stamp.Stamp.{Stamp}
use Rattle.xa_lock.specs.declared.pass.Page.{Page}
use Rattle.xa_lock.specs.Pages.{StartsWith, GrewBy, Knows, page_seeing, page_leaving}
use Rattle.xa_board.specs.Board.{ReadsAsNoted, version_of}
use Rattle.xa_stamp.specs.declared.home.Stamped.{Stamped}
use Rattle.xa_lock.specs.declared.makers.Made.{Made}
use Rattle.xa_lock.specs.Makers.{noted_in}
use Rattle.xa_held.specs.declared.kept_board.BoardNote.{BoardNote}
use Rattle.xa_held.specs.declared.kept_board.BoardNote.TheVariants.{Opened, By, Looked}
use Rattle.xa_held.specs.Board.{Held, IsSoundBoard, Turns, maker_of, made_in, top}
use Rattle.xa_held.specs.Joins.{changes_at}
use Rattle.xa_held.proofs.Climbing.{below, topped}
use Rattle.xa_held.specs.BoardVisits.{SeesBoard, BoardVisits, HasStampIn, ReachesBoard}
use Rattle.xa_held.proofs.Pages.{grown_by, same_maker, own_more}

nothing : (entries : List Stamped) → length entries ≡ 0 → entries ≡ []
nothing [] none = refl
nothing (x ∷ rest) none = absurd (cc none)

-- what a pass reaches that saw the board so
pub reaches : (new : Held) (p : Page BoardNote) (last : Stamp) → p.seen ≡ new.notes → IsSoundBoard new → ReadsAsNoted new.board → (version_of new.board ≡ 0 → last.0 ≡ 0) → (0 < version_of new.board → last ≡ new.last) → ReachesBoard p last
reaches new p last saw sound reads none some =
    let at : ℕ = top new.board.first.0 new.notes in
    let Low : Stamped → Type 0 = λ x. x.stamp.0 ≤ last.0 in
    let changes : changes_at p.seen ≡ new.board.entries = ap changes_at saw ∙ sound.noted in
    elim (some_or_none (version_of new.board)) [
      | inl is_zero ↦
          let bare : new.board.entries ≡ [] = nothing new.board.entries (sym reads.changes ∙ is_zero) in
          let is = none is_zero in
          record { each = subst (All Low) (sym {A = List Stamped} (changes ∙ bare)) (All-nil Low); bound = omega (arith, is); is = inl is }
      | inr any ↦
          let is : last.0 ≡ new.last.0 = ap (λ (s : Stamp). s.0) (some any) in
          let low = (below new.board.first.0 new.notes sound.climbs).1 in
          record {
            each = subst (λ (l : List BoardNote). All Low (changes_at l)) (sym saw) (All-map Low (λ (m : Made). m.noted) (made_in new.notes) (All-weaker (λ (m : Made). m.noted.stamp.0 ≤ at) (λ (m : Made). m.noted.stamp.0 ≤ last.0) (λ m le. omega (arith, le, sound.latest, is)) (made_in new.notes) low));
            bound = omega (arith, is, sound.bound);
            is = elim (topped new.board.first.0 new.notes last (sound.latest ∙ sym is)) [
              | inl bare ↦
                  let empty : new.board.entries ≡ [] = sym sound.noted ∙ ap noted_in bare.1 in
                  let length_is : version_of new.board ≡ 0 = reads.changes ∙ ap length empty in
                  absurd (omega (arith, any, length_is))
              | inr stands ↦ inr (subst (λ l. HasStampIn l last) (sym saw) stands)
            ];
          }
    ]
  where
    some_or_none : (n : ℕ) → (n ≡ 0) ⊎ (0 < n)
    some_or_none zero = inl refl
    some_or_none (suc n) = inr (omega arith)

abbrev setup_in : Setup → List BoardNote → Setup
setup_in d [] = d
setup_in d (Opened s ∷ rest) = s
setup_in d (By m ∷ rest) = d
setup_in d (Looked l ∷ rest) = d

-- what a pass saw first stands first there
pub setup_is : (p : Page BoardNote) (board : Held) → StartsWith board.notes p.seen → IsSoundBoard board → (s : Setup) → SeesBoard s p → board.setup ≡ s
setup_is p board begins sound s sees = ap (setup_in s) (sym sound.opened.1 ∙ begins.1 ∙ ap (λ (l : List BoardNote). l ++ begins.0) sees.seen)

-- the pass p entered, was q there, found `old`, and left `new`
module _ (p q : Page BoardNote) (old new : Held) (found : q ≡ page_seeing p old.notes) (knows : Knows maker_of p old.notes) where
  pub grown : (more : List BoardNote) (How : Held → Held → Type 0) → All (λ (z : BoardNote). maker_of z ≡ p.maker) more → Turns old new more How → GrewBy maker_of q.maker q.seen new.notes
  grown more How ours t = grown_by p q old.notes new.notes more found t.notes maker_of ours

  module _ (q' : Page BoardNote) (after : q' ≡ page_leaving q new.notes) (was : IsSoundBoard old) (read : ReadsAsNoted old.board) (sound : IsSoundBoard new) (reads : ReadsAsNoted new.board) where
    pub visits : (more : List BoardNote) (How : Held → Held → Type 0) → Turns old new more How → BoardVisits p q' more How
    visits more How t = record {
      old = old;
      new = new;
      knew = knows;
      was = was;
      read = read;
      setup = λ s sees. sym t.setup ∙ setup_is p new (knows.1.0 ++ more, t.notes ∙ ap (λ (l : List BoardNote). l ++ more) knows.1.1 ∙ append_assoc p.seen knows.1.0 more) sound s sees;
      same = t.setup;
      first = t.first;
      grew = t.notes;
      maker = same_maker p q old.notes new.notes more found t.notes q' after;
      own = own_more p q old.notes new.notes more found t.notes q' after;
      saw = ap (λ (z : Page BoardNote). z.seen) after;
      sound = sound;
      reads = reads;
      how = t.how;
    }
