-- What a caller was told of its calls is told by its own events.
use Rattle.std.proofs.Common.{◌≡◌, ℕ, ◌==◌, ◌&&◌, Bool, true, false, List, [], ◌∷◌, inl, inr, refl, sym, ◌∙◌, ap, subst, eqb-true, if◌then◌else◌}
use Rattle.std.specs.List.{filter}
use Rattle.std.proofs.lemmas.Bool.{cases_Bool, and_parts}
use Rattle.xa_types.specs.declared.reply.Reply.TheVariants.{Answered as AnsweredReply}
use Rattle.xa_types.specs.declared.setup.Setup.{Setup}
use Rattle.xa_events.specs.declared.event.Event.{Event}
use Rattle.xa_events.specs.declared.event.Event.TheVariants.{Answer}
use Rattle.xa_events.specs.Homes.{of_worker}
use Rattle.xa_events.specs.Caller.{is_call_of, op_in, op_of, newest_call}
use Rattle.xa_events.specs.Local.{worker_events}
use Rattle.xa_events.specs.Said.{is_op, reply_shown_by, reply_at}
use Rattle.xa_events.proofs.Merge.{called_own}
use Rattle.xa_worker.proofs.Lists.{filter-yes, filter-no}
use Rattle.xa_worker.proofs.Calls.{call_of_worker}

shown_own : (setup : Setup) (clients caller : ℕ) (e : Event) (past : List Event) → of_worker clients caller e ≡ true → reply_shown_by e (worker_events clients caller past) ≡ reply_shown_by e past
shown_own setup clients caller (Answer a) past mine =
    let last = subst (λ (n : ℕ). newest_call n (worker_events clients caller past) ≡ newest_call n past) (sym (eqb-true a.by.0 caller mine)) (called_own setup clients past caller) in
    ap (λ o. AnsweredReply (if op_of o == a.op then 0 else a.request.number) a.answer) last
shown_own setup clients caller _ past mine = refl

pub reply_own : (setup : Setup) (clients caller op : ℕ) (past : List Event) → reply_at (worker_events clients caller past) caller op ≡ reply_at past caller op
unfolding reply_at
reply_own setup clients caller op [] = refl
reply_own setup clients caller op (e ∷ past) =
    let own = worker_events clients caller past in
    let rest = reply_own setup clients caller op past in
    elim (cases_Bool (of_worker clients caller e)) [
      | inl mine ↦
          ap (λ es. reply_at es caller op) (filter-yes (of_worker clients caller) e past mine)
          ∙ (ap (λ r. if is_op caller op e then r else reply_at own caller op) (shown_own setup clients caller e past mine) ∙ ap (λ r. if is_op caller op e then reply_shown_by e past else r) rest)
      | inr other ↦
          let none : is_op caller op e ≡ false = elim (cases_Bool (is_op caller op e)) [
            | inl y ↦ let mine = call_of_worker clients caller e (and_parts (is_call_of caller e) (op_in e == op) y).0 in absurd (cc (mine, other))
            | inr n ↦ n
          ] in
          ap (λ es. reply_at es caller op) (filter-no (of_worker clients caller) e past other) ∙ (rest ∙ sym (ap (λ b. if b then reply_shown_by e past else reply_at past caller op) none))
    ]
