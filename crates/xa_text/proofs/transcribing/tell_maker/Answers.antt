use Rattle.std.proofs.Common.{◌≡◌, ◌+◌, ◌-◌, ◌<◌, ◌==◌, ℕ, [], length, sym, ◌∙◌, subst, arith}
use Rattle.std.proofs.lemmas.Bool.{ne_eqb}
use Rattle.xa_events.specs.Caller.{is_call_of}
use Rattle.xa_text.specs.declared.transcribing.Told.{Told}
use Rattle.xa_text.proofs.Telling.{all_passed, one_told}
use Rattle.xa_text.proofs.transcribing.tell_maker.Goals as goal
use Rattle.xa_text.proofs.transcribing.tell_maker.Goals.{else-by-gt0-via-then-by-gt0+else-by-len, else-by-gt0-via-else-by-gt0}

pub returns-in_default : goal.returns-in_default
returns-in_default c past turn old = all_passed c.args.names.now c.args.told.now.items c.args.event.now past (λ k low. c.in_default.ensures (k + 1)) old

pub returns-in_ok-own : goal.returns-in_ok-own
returns-in_ok-own c past turn old =
    let by = c.from-by.result in
    let place = by - 1 in
    let told = c.args.told.now.items in
    let names = c.args.names.now in
    let was = c.index_mut-own.result.now in
    let name = c.index-names-by.result in
    let new : Told = record { text = c.tell.new.out; place = c.in_ok-own.field-0 } in
    let next : by ≡ place + 1 = omega arith in
    let inside : place < length told = omega arith in
    let of : (client : ℕ) → is_call_of client c.args.event.now ≡ (by == client) = subst (λ n. (client : ℕ) → is_call_of client c.args.event.now ≡ (n == client)) (sym c.from-by.ensures) c.in-Some.ensures in
    one_told names told by place c.args.event.now past name new next inside of c.index-names-by.is old
    (c.in_ok-own.ensures [] past (rw next (old.each place (omega (arith, inside, old.len)) name was c.index-names-by.is c.index_mut-own.ensures.value)) (turn by (omega arith) (omega (arith, inside, old.len))))

pub returns-else-by-gt0 : goal.returns-else-by-gt0
returns-else-by-gt0 c past turn old =
    let by = c.from-by.result in
    let of : (client : ℕ) → is_call_of client c.args.event.now ≡ (by == client) = subst (λ n. (client : ℕ) → is_call_of client c.args.event.now ≡ (n == client)) (sym c.from-by.ensures) c.in-Some.ensures in
    let none : (k : ℕ) → k < length c.args.names.now → by ≡ k + 1 → ⊥ = λ k low same. elim c.else-by-gt0.branch [
      | else-by-gt0-via-then-by-gt0+else-by-len w ↦ absurd (omega (arith, low, same, old.len, w.if-by-len.false))
      | else-by-gt0-via-else-by-gt0 w ↦ absurd (omega (arith, same, w.if-by-gt0.false))
    ] in
    all_passed c.args.names.now c.args.told.now.items c.args.event.now past (λ k low. of (k + 1) ∙ ne_eqb by (k + 1) (none k low)) old
