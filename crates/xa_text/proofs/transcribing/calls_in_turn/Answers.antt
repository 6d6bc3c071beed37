use Rattle.std.proofs.Common.{rules, ◌≡◌, ℕ, inl, inr, reverse, subst, arith}
use Rattle.std.proofs.lemmas.Bool.{cases_lt}
use Rattle.xa_text.specs.InTurn.{CallsInTurn}
use Rattle.xa_text.proofs.transcribing.calls_in_turn.Goals as goal

pub returns-then-not-client_in_turn : goal.returns-then-not-client_in_turn
returns-then-not-client_in_turn c = (λ no. absurd (search rules), λ all. c.if-not-client_in_turn.ensures.1 (all c.loop-client.client (omega arith) (omega arith)))

pub loop-client-preserved : goal.loop-client-preserved
loop-client-preserved c = λ k low high. elim (cases_lt k c.loop-client.client) [
  | inl below ↦ c.loop-client.invariant k low below
  | inr from ↦ let is : c.loop-client.client ≡ k = omega arith in subst (λ (n : ℕ). CallsInTurn n (reverse c.args.history.now)) is (c.if-not-client_in_turn.ensures.0 (search rules))
]

pub returns-else-not-client_in_turn : goal.returns-else-not-client_in_turn
returns-else-not-client_in_turn c = (
  λ yes client low high. elim (cases_lt client c.loop-client.client) [
    | inl below ↦ c.loop-client.invariant client low below
    | inr from ↦ let is : c.loop-client.client ≡ client = omega arith in subst (λ (n : ℕ). CallsInTurn n (reverse c.args.history.now)) is (c.if-not-client_in_turn.ensures.0 (search rules))
  ],
  λ all. search rules,
)
