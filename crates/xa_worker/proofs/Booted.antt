-- Where a server is busy, the boot made a change: until one stood no request could be sent, and no server advertise.
use Rattle.std.proofs.Common.{◌≡◌, ℕ, ◌-◌, ◌<◌, List, [], ◌∷◌, length, drop, Option, None, inl, inr, refl, sym, ◌∙◌, ap, subst, arith}
use Rattle.std.specs.Prelude.{IsSome, IsSomeAnd}
use Rattle.std.specs.List.{cons_option}
use Rattle.std.proofs.Math.Seq.{drop-nil}
use Rattle.std.proofs.lemmas.Bool.{cases_lt}
use Rattle.std.proofs.lemmas.Option.{slice_get_within}
use Rattle.xa_types.specs.declared.ids.Generation.{Generation}
use Rattle.xa_types.specs.declared.ids.RequestId.{RequestId}
use Rattle.xa_types.specs.declared.row.Row.{Row}
use Rattle.xa_types.specs.declared.setup.Setup.{Setup}
use Rattle.xa_types.specs.Rows.{Change, configured, rows, row_of}
use Rattle.xa_events.specs.declared.event.Event.{Event}
use Rattle.xa_events.specs.declared.event.Event.TheVariants.{Advertise, Withdraw, Accept}
use Rattle.xa_events.specs.declared.event.Doing.TheVariants.{Busy}
use Rattle.xa_events.specs.Board.{change_in, changes, published, boot, rows_of_version}
use Rattle.xa_events.specs.Server.{doing, in_hand}
use Rattle.xa_events.specs.Cases.{Case, RowStands}
use Rattle.xa_events.proofs.LastEntry.{IsKnown}
use Rattle.xa_events.proofs.Merge.{state, AllCases, known_from}
use Rattle.xa_events.proofs.Stages.{stage, stays, Found}
use Rattle.xa_events.proofs.Stages.Stage.{Unknown, Held}
use Rattle.xa_worker.proofs.Before.{option_cases}
use Rattle.xa_worker.proofs.Owned.{hand_busy}

-- the board has no change, and no request was sent
record IsQuiet (past : List Event) : Type 0 where
  pub unchanged : changes past ≡ []
  pub unsent : (r : RequestId) → stage r past ≡ Unknown

module _ (setup : Setup) (clients : ℕ) where
  no_row : (v : ℕ) (service : List ℕ) (queue : ℕ) (past : List Event) → changes past ≡ [] → row_of service queue (rows_of_version setup past v) ≡ None
  unfolding rows_of_version
  no_row v service queue past none = ap (λ (cs : List Change). row_of service queue (rows setup (drop (length cs - v) cs))) none ∙ ap (λ (cs : List Change). row_of service queue (rows setup cs)) (drop-nil (0 - v))

  module _ (none : boot setup ≡ 0) (past : List Event) (known : IsKnown (state setup clients past)) (quiet : IsQuiet past) where
    not_busy : (server : ℕ) (generation : Generation) (r : RequestId) → doing server past ≡ Busy generation r → ⊥
    not_busy server generation r busy = let both : Unknown ≡ Held server = sym (quiet.unsent r) ∙ known.agree.busy server generation r busy in cc both

    no_hand : (caller : ℕ) → IsSome (in_hand clients caller past) → ⊥
    no_hand caller some = elim (option_cases (in_hand clients caller past)) [
      | inl empty ↦ let z = subst IsSome empty some in cc z
      | inr has ↦ let busy = hand_busy clients caller past has.0 has.1 in not_busy (caller - clients) busy.1.0 has.0 busy.1.1
    ]

    none_stands : (v : ℕ) (service : List ℕ) (queue : ℕ) (P : Row → Type 0) → RowStands setup v service queue P past → ⊥
    none_stands v service queue P stands = subst (λ (o : Option Row). IsSomeAnd o P) (no_row v service queue past quiet.unchanged) stands.row

    unchanged_by : (e : Event) → Case (state setup clients past) e → change_in e ≡ None
    unchanged_by (Advertise a) case = elim case.home [
      | inl its ↦ let within = slice_get_within (configured setup) (published past) _ its.booting in absurd (omega (arith, within, none))
      | inr its ↦ elim case.worker [
        | inl domain ↦ absurd (omega (arith, its.server, domain.domain))
        | inr by ↦ absurd (no_hand a.by.0 by.busy)
      ]
    ]
    unchanged_by (Withdraw w) case = let z = subst IsSome (no_row (published past) w.service w.queue.0 past quiet.unchanged) case.home.stands in absurd (cc z)
    unchanged_by _ case = refl

    unsent_by : (e : Event) (r : RequestId) → Case (state setup clients past) e → Found setup e Unknown → ⊥
    unsent_by (Accept a) r case found = none_stands a.version a.service a.queue.0 _ case.before.named
    unsent_by _ r case found = found

    quiet_more : (e : Event) → Case (state setup clients past) e → IsQuiet (e ∷ past)
    unfolding changes
    quiet_more e case = record {
      unchanged = ap (λ o. cons_option o (changes past)) (unchanged_by e case) ∙ quiet.unchanged;
      unsent = λ r. stays (state setup clients past) e r Unknown case known.agree (quiet.unsent r) (λ moves found. unsent_by e r case found);
    }

  quiet_from : boot setup ≡ 0 → (past : List Event) → AllCases setup clients past → IsQuiet past
  unfolding changes stage
  quiet_from none [] cases = record { unchanged = refl; unsent = λ r. refl }
  quiet_from none (e ∷ past) cases = quiet_more none past (known_from setup clients past cases.1) (quiet_from none past cases.1) e cases.0

  pub boot_some : (past : List Event) → AllCases setup clients past → (server : ℕ) (generation : Generation) (r : RequestId) → doing server past ≡ Busy generation r → 0 < boot setup
  boot_some past cases server generation r busy = elim (cases_lt 0 (boot setup)) [
    | inl some ↦ some
    | inr less ↦ let none : boot setup ≡ 0 = omega (arith, less) in absurd (not_busy none past (known_from setup clients past cases) (quiet_from none past cases) server generation r busy)
  ]
