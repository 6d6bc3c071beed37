use Rattle.std.proofs.Common.{◌≡◌, true, reverse, map, refl, sym, ◌∙◌, ap, subst, arith, length, ℕ, [], ◌∷◌, ◌++◌}
use Rattle.std.specs.List.{filter}
use Rattle.xa_restart.specs.Rule.{RestartState, IsLast, may_start_by}
use Rattle.xa_restart.specs.Within.{is_within}
use Rattle.xa_restart.specs.Kept.{standing_of, Recalls}
use Rattle.xa_restart.proofs.Recalling.{recalls-more, starts-more, room_by, filtered_count}
use Rattle.xa_restart.proofs.lives.Lives.record_start.Goals as goal

pub push_reserved-requires : goal.push_reserved-requires
push_reserved-requires c =
    let s : RestartState = standing_of c.self.inside in
    let may : may_start_by s c.args.now ≡ true = subst (λ (u : RestartState). may_start_by u c.args.now ≡ true) (sym c.self.view_is) c.requires.may in
    let last : IsLast c.args.now s.starts = subst (λ (u : RestartState). IsLast c.args.now u.starts) (sym c.self.view_is) c.requires.last in
    let i = c.self.invariant in
    let few = room_by s.restart s.maxgen s.grace c.self.inside.recent.items s.starts c.args.now i.recalls may last _ refl in
    let kept = ap length c.forget.ensures.kept ∙ filtered_count (is_within s.grace c.args.now) c.self.inside.recent.items in
    let room = c.forget.ensures.capacity in
    omega (arith, few, kept, room, i.room)

pub invariant_of-self : goal.invariant_of-self
invariant_of-self c =
    let s : RestartState = standing_of c.self.inside in
    let i = c.self.invariant in
    let last : IsLast c.args.now s.starts = subst (λ (u : RestartState). IsLast c.args.now u.starts) (sym c.self.view_is) c.requires.last in
    let now : ℕ = c.args.now in
    let recent : c.push_reserved.new.self.items ≡ filter (is_within s.grace now) c.self.inside.recent.items ++ now ∷ [] =
    c.push_reserved.ensures.items ∙ ap (λ xs. xs ++ now ∷ []) c.forget.ensures.kept in
    let starts = ap (λ pairs. reverse (map (λ pair. pair.0) pairs)) c.and-self-inside.ensures ∙ starts-more c.self.inside.made.items now in
    record {
      recalls = subst (λ xs. Recalls s.grace xs (reverse (map (λ pair. pair.0) c.and-self-inside.result.items))) (sym recent)
          (subst (Recalls s.grace (filter (is_within s.grace now) c.self.inside.recent.items ++ now ∷ [])) (sym starts)
          (recalls-more s.grace now c.self.inside.recent.items s.starts i.recalls last));
      room = omega (arith, i.room, c.forget.ensures.capacity, c.push_reserved.ensures.capacity);
    }
