-- A server that was given up was not shut down, by its worker's own events.
use Rattle.std.proofs.Common.{◌≡◌, ℕ, ◌==◌, true, false, List, [], ◌∷◌, inl, inr, refl, ◌∙◌, ap, subst, eqb-true}
use Rattle.std.proofs.lemmas.Bool.{cases_Bool, or_cases}
use Rattle.xa_client_worker.specs.xa_types.declared.setup.Setup.{Setup}
use Rattle.xa_client_worker.specs.xa_events.declared.event.Doing.TheVariants.{Off}
use Rattle.xa_client_worker.specs.xa_events.declared.event.Event.{Event}
use Rattle.xa_client_worker.specs.xa_events.declared.event.Event.TheVariants.{Take, Forward, Gone, Start, StartFailed, End, Stop}
use Rattle.xa_client_worker.specs.xa_events.Cases.{WorkerPart}
use Rattle.xa_client_worker.specs.xa_events.Server.{doing, doing_after, moves_server, stops_server, is_shutdown_stop, is_gone, is_gone_of, was_shut_down}
use Rattle.xa_client_worker.specs.xa_events.Words.{AtEach}
use Rattle.xa_client_worker.proofs.xa_events.WordsLemmas.{latest_no}

module _ (setup : Setup) (clients server : ℕ) where
  -- it is off, and wasn't shut down
  pub record IsOff (past : List Event) : Type 0 where
    pub off : doing server past ≡ Off
    pub not_shut : was_shut_down server past ≡ false

  -- what moves it doesn't come once it is given up
  no_move : (e : Event) (past : List Event) → WorkerPart setup clients e past → IsOff past → is_gone server past ≡ true → moves_server server e ≡ false
  no_move (Take t) past part is gone = elim (cases_Bool (t.server.0 == server)) [ inl y ↦ absurd (cc (is.off, ap (λ n. doing n past) (eqb-true t.server.0 server y), part.idle)) | inr n ↦ n ]
  no_move (Forward f) past part is gone = elim (cases_Bool (f.server.0 == server)) [ inl y ↦ absurd (cc (is.off, ap (λ n. doing n past) (eqb-true f.server.0 server y), part.busy)) | inr n ↦ n ]
  no_move (Start b) past part is gone = elim (cases_Bool (b.server.0 == server)) [ inl y ↦ absurd (cc (gone, ap (λ n. is_gone n past) (eqb-true b.server.0 server y), part.not_gone)) | inr n ↦ n ]
  no_move (StartFailed b) past part is gone = elim (cases_Bool (b.server.0 == server)) [ inl y ↦ absurd (cc (gone, ap (λ n. is_gone n past) (eqb-true b.server.0 server y), part.not_gone)) | inr n ↦ n ]
  no_move (End e) past part is gone = elim (cases_Bool (e.server.0 == server)) [ inl y ↦ absurd (cc (is.off, ap (λ n. doing n past) (eqb-true e.server.0 server y), part.busy)) | inr n ↦ n ]
  no_move (Stop x) past part is gone = elim (cases_Bool (x.server.0 == server)) [
    | inl y ↦
        let same = ap (λ n. doing n past) (eqb-true x.server.0 server y) in
        absurd (elim part.alive [ inl idle ↦ let does = idle.0 in cc (is.off, same, does) | inr dying ↦ let does = dying.0 in cc (is.off, same, does) ])
    | inr n ↦ n
  ]
  no_move _ past part is gone = refl

  no_stop : (e : Event) → moves_server server e ≡ false → stops_server server e ≡ false
  no_stop (Stop x) n = n
  no_stop _ n = refl

  unmoved : (e : Event) (past : List Event) → moves_server server e ≡ false → IsOff past → IsOff (e ∷ past)
  unfolding doing was_shut_down
  unmoved e past n is = record {
    off = ap doing_after (latest_no (moves_server server) e past n) ∙ is.off;
    not_shut = ap is_shutdown_stop (latest_no (stops_server server) e past (no_stop e n)) ∙ is.not_shut;
  }

  -- it is off as it is given up
  off_then : (e : Event) (past : List Event) → WorkerPart setup clients e past → is_gone_of server e ≡ true → IsOff (e ∷ past)
  off_then (Gone s) past part its =
      let same : s.0 ≡ server = eqb-true s.0 server its in
      unmoved (Gone s) past refl (record { off = subst (λ n. doing n past ≡ Off) same part.off; not_shut = subst (λ n. was_shut_down n past ≡ false) same part.not_shut_down })
  off_then _ past part its = absurd (cc its)

  pub not_both : (past : List Event) → AtEach (WorkerPart setup clients) past → is_gone server past ≡ true → IsOff past
  unfolding is_gone
  not_both [] met gone = absurd (cc gone)
  not_both (e ∷ past) met gone = elim (or_cases (is_gone_of server e) (is_gone server past) gone) [
    | inl its ↦ off_then e past met.0 its
    | inr before ↦ let is = not_both past met.1 before in unmoved e past (no_move e past met.0 is before) is
  ]
