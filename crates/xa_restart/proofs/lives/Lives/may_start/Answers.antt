use Rattle.std.proofs.Common.{◌≡◌, ◌==◌, ◌&&◌, length, nat_lt, false, sym, ◌∙◌, ap, subst}
use Rattle.std.specs.List.{count_by}
use Rattle.xa_events.specs.Words.{count}
use Rattle.xa_restart.specs.Rule.{RestartState, IsLast, may_start_by}
use Rattle.xa_restart.specs.Within.{is_within}
use Rattle.xa_restart.specs.Kept.{standing_of, is_nil}
use Rattle.xa_restart.proofs.Recalling.{count_is, rule_more, is_nil_length}
use Rattle.xa_restart.proofs.lives.Lives.may_start.Goals as goal

pub returns-then-self : goal.returns-then-self
returns-then-self c = subst (λ (u : RestartState). IsLast c.args.now u.starts → nat_lt c.lately.result c.from.result ≡ may_start_by u c.args.now) c.self.view_is (λ last.
    let s : RestartState = standing_of c.self.inside in
    let i = c.self.invariant in
    let w = is_within s.grace c.args.now in
    let len = ap length (sym c.deref.ensures.value) ∙ c.deref.ensures.len in
    let some : is_nil s.starts ≡ false = sym i.recalls.some ∙ sym (is_nil_length c.self.inside.recent.items) ∙ ap (λ n. n == 0) len ∙ sym c.if-is_empty.ensures in
    let counted : c.lately.result ≡ count w s.starts = c.lately.ensures ∙ ap (count_by w) c.deref.ensures.value ∙ sym (count_is w c.self.inside.recent.items) ∙ i.recalls.same c.args.now last in
    ap (λ n. nat_lt n c.from.result) counted
    ∙ ap (λ n. nat_lt (count w s.starts) n) c.from.ensures
    ∙ ap (λ restart. restart && nat_lt (count w s.starts) s.maxgen) (sym c.if-self.true)
    ∙ sym (rule_more s.restart s.maxgen s.grace s.starts c.args.now some))
