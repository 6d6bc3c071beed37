-- A server that was shut down or is given up is off.
use Rattle.std.proofs.Common.{◌≡◌, ℕ, ◌==◌, true, false, List, ◌∷◌, Some, inl, inr, ◌⊎◌, refl, sym, ◌∙◌, ap, subst, eqb-true}
use Rattle.std.proofs.lemmas.Bool.{cond_both, or_cases}
use Rattle.xa_events.specs.declared.event.Event.{Event}
use Rattle.xa_events.specs.declared.event.Event.TheVariants.{Take, Forward, Gone, Start, End, Stop}
use Rattle.xa_events.specs.declared.event.Doing.{Doing}
use Rattle.xa_events.specs.declared.event.Doing.TheVariants.{Off}
use Rattle.xa_events.specs.Words.{latest}
use Rattle.xa_events.specs.State.{State}
use Rattle.xa_events.specs.Server.{doing, doing_after, moves_server, was_shut_down, is_gone, stops_server, is_shutdown_stop}
use Rattle.xa_events.specs.Cases.{Case}
use Rattle.xa_events.specs.Laws.{LawOfServers}
use Rattle.xa_events.proofs.WordsLemmas.{latest_no}

-- what a server does is by this event where it moves the server, and else what it did
pub doing_both : (server : ℕ) (e : Event) (past : List Event) (P : Doing → Type 0) → (moves_server server e ≡ true → P (doing_after (Some e))) → (moves_server server e ≡ false → P (doing server past)) → P (doing server (e ∷ past))
unfolding doing
doing_both server e past P here other = cond_both (moves_server server e) (Some e) (latest (moves_server server) past) (λ o. P (doing_after o)) here other

-- the server was shut down or is given up
abbrev pub IsEnded : ℕ → List Event → Type 0
IsEnded server past = (was_shut_down server past ≡ true) ⊎ (is_gone server past ≡ true)

-- what moves a server that has ended leaves it off
moved : (s : State) (e : Event) (server : ℕ) → Case s e → LawOfServers s.past → moves_server server e ≡ true → IsEnded server (e ∷ s.past) → doing_after (Some e) ≡ Off
unfolding was_shut_down is_gone
moved s (Take t) server case law y h = cc (law server h, ap (λ n. doing n s.past) (eqb-true t.server.0 server y), case.worker.idle)
moved s (Forward f) server case law y h = cc (law server h, ap (λ n. doing n s.past) (eqb-true f.server.0 server y), case.worker.busy)
moved s (Start b) server case law y (inl h) = cc (h, ap (λ n. was_shut_down n s.past) (eqb-true b.server.0 server y), case.worker.not_shut_down)
moved s (Start b) server case law y (inr h) = cc (h, ap (λ n. is_gone n s.past) (eqb-true b.server.0 server y), case.worker.not_gone)
moved s (End e) server case law y h = cc (law server h, ap (λ n. doing n s.past) (eqb-true e.server.0 server y), case.worker.busy)
moved s _ server case law y h = refl

-- what doesn't move it finds it off
unmoved : (s : State) (e : Event) (server : ℕ) → Case s e → LawOfServers s.past → moves_server server e ≡ false → IsEnded server (e ∷ s.past) → doing server s.past ≡ Off
unfolding was_shut_down is_gone
unmoved s (Gone gone) server case law n (inl h) = law server (inl h)
unmoved s (Gone gone) server case law n (inr h) = elim (or_cases (gone.0 == server) (is_gone server s.past) h) [
  | inl y ↦ subst (λ n. doing n s.past ≡ Off) (eqb-true gone.0 server y) case.worker.off
  | inr k ↦ law server (inr k)
]
unmoved s (Stop x) server case law n (inl h) = law server (inl (sym (ap is_shutdown_stop (latest_no (stops_server server) (Stop x) s.past n)) ∙ h))
unmoved s (Stop x) server case law n (inr h) = law server (inr h)
unmoved s _ server case law n h = law server h

pub servers_more : (s : State) (e : Event) → Case s e → LawOfServers s.past → LawOfServers (e ∷ s.past)
servers_more s e case law = λ server h. doing_both server e s.past (λ d. d ≡ Off) (λ y. moved s e server case law y h) (λ n. unmoved s e server case law n h)
