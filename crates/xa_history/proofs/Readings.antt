-- What is read of a server's starts and lives is read off its own worker's events alone.
use Rattle.std.proofs.Common.{◌≡◌, ℕ, ◌==◌, if◌then◌else◌, Bool, true, false, List, [], ◌∷◌, Option, Some, None, inl, inr, refl, sym, ◌∙◌, ap, subst, eq-eqb, eqb-true}
use Rattle.std.specs.Prelude.{reverse}
use Rattle.std.specs.List.{filter, filter_map, cons_option}
use Rattle.std.proofs.lemmas.Bool.{cases_Bool, and_parts}
use Rattle.xa_client_worker.specs.xa_events.declared.event.Event.{Event}
use Rattle.xa_client_worker.specs.xa_events.declared.event.Event.TheVariants.{Take, Forward, Start, StartFailed, End, Stop}
use Rattle.xa_client_worker.specs.xa_events.Words.{AtEach, count}
use Rattle.xa_client_worker.specs.xa_events.Caller.{op_of}
use Rattle.xa_client_worker.proofs.xa_events.Merge.{AtEach-here, called_own}
use Rattle.xa_client_worker.specs.xa_types.declared.setup.Setup.{Setup}
use Rattle.xa_client_worker.specs.xa_events.Homes.{of_worker}
use Rattle.xa_client_worker.specs.xa_events.Local.{worker_events}
use Rattle.xa_client_worker.specs.xa_events.Server.{moves_server, starts, start_in}
use Rattle.xa_client_worker.specs.xa_events.State.{caller_of}
use Rattle.xa_client_worker.proofs.xa_worker.Lists.{filter-yes, filter-no, count_part}
use Rattle.xa_client_worker.specs.xa_pipe.Frames.{is_of_life, is_take_in}
use Rattle.xa_client_worker.specs.xa_pipe.Life.{stops_life, StopsSpent}
use Rattle.xa_client_worker.specs.xa_pipe.Following.{is_of}
use Rattle.xa_server_worker.specs.Lives.{generation_in, lives_in, fails_start, failed_starts}

-- what gives nothing of those that don't pass gives the same of those that do
filter_map_part : {X Y : Type 0} (f : X → Option Y) (q : X → Bool) → ((x : X) → q x ≡ false → f x ≡ None) → (xs : List X) → filter_map f (filter q xs) ≡ filter_map f xs
filter_map_part f q none [] = refl
filter_map_part f q none (x ∷ xs) = elim (cases_Bool (q x)) [
  | inl y ↦ ap (filter_map f) (filter-yes q x xs y) ∙ ap (cons_option (f x)) (filter_map_part f q none xs)
  | inr n ↦ ap (filter_map f) (filter-no q x xs n) ∙ (filter_map_part f q none xs ∙ sym (ap (λ (o : Option _). cons_option o (filter_map f xs)) (none x n)))
]

-- what holds of each that passes, beside those that do, holds of each beside all
AtEach_whole : {X : Type 0} (q : X → Bool) (P Q : X → List X → Type 0) → ((x : X) (before : List X) → (q x ≡ true → P x (filter q before)) → Q x before) → (xs : List X) → AtEach P (filter q xs) → AtEach Q xs
AtEach_whole q P Q whole [] each = tt
AtEach_whole q P Q whole (x ∷ xs) each = (
  whole x xs (λ passes. AtEach-here q P x xs passes each),
  AtEach_whole q P Q whole xs (elim (cases_Bool (q x)) [
    | inl y ↦ let both : AtEach P (x ∷ filter q xs) = subst (AtEach P) (filter-yes q x xs y) each in both.1
    | inr n ↦ subst (AtEach P) (filter-no q x xs n) each
  ]),
)

module _ (clients server : ℕ) where
  abbrev its : List Event → List Event
  its past = worker_events clients (caller_of clients server) past

  abbrev is_its : Event → Bool
  is_its e = of_worker clients (caller_of clients server) e

  same_caller : (s : ℕ) → (s == server) ≡ true → (caller_of clients s == caller_of clients server) ≡ true
  same_caller s same = eq-eqb (caller_of clients s) (caller_of clients server) (ap (caller_of clients) (eqb-true s server same))

  other_server : (s : ℕ) → (caller_of clients s == caller_of clients server) ≡ false → (s == server) ≡ false
  other_server s other = elim (cases_Bool (s == server)) [ inl y ↦ let same = same_caller s y in absurd (cc (same, other)) | inr n ↦ n ]

  no_generation : (e : Event) → is_its e ≡ false → generation_in server e ≡ None
  no_generation (Start s) other = ap (λ (b : Bool). if b then Some s.generation else None) (other_server s.server.0 other)
  no_generation _ other = refl

  no_start : (e : Event) → is_its e ≡ false → start_in server e ≡ None
  no_start (Start s) other = ap (λ (b : Bool). if b then Some s.tick else None) (other_server s.server.0 other)
  no_start (StartFailed s) other = ap (λ (b : Bool). if b then Some s.tick else None) (other_server s.server.0 other)
  no_start _ other = refl

  its_failure : (e : Event) → fails_start server e ≡ true → is_its e ≡ true
  its_failure (StartFailed s) fails = same_caller s.server.0 fails
  its_failure _ fails = absurd (cc fails)

  pub lives_own : (past : List Event) → lives_in server (its past) ≡ lives_in server past
  lives_own past = ap reverse (filter_map_part (generation_in server) is_its no_generation past)

  pub starts_own : (past : List Event) → starts server (its past) ≡ starts server past
  unfolding starts
  starts_own past = filter_map_part (start_in server) is_its no_start past

  pub failed_own : (past : List Event) → failed_starts server (its past) ≡ failed_starts server past
  failed_own past = count_part (fails_start server) is_its its_failure past

  -- what moves the server is its own worker's
  pub of_moved : (e : Event) → moves_server server e ≡ true → is_its e ≡ true
  of_moved (Take t) is = same_caller t.server.0 is
  of_moved (Forward f) is = same_caller f.server.0 is
  of_moved (Start s) is = same_caller s.server.0 is
  of_moved (StartFailed s) is = same_caller s.server.0 is
  of_moved (End e) is = same_caller e.server.0 is
  of_moved (Stop x) is = same_caller x.server.0 is
  of_moved _ is = absurd (cc is)

  -- ---- one life

  module _ (g : ℕ) where
    of_server : (s h : ℕ) → is_of_life server g s h ≡ true → (caller_of clients s == caller_of clients server) ≡ true
    of_server s h is = same_caller s (and_parts (s == server) (h == g) is).0

    pub of_life : (e : Event) → is_of server g e ≡ true → is_its e ≡ true
    of_life (Take t) is = of_server t.server.0 t.generation.0 is
    of_life (Forward f) is = of_server f.server.0 f.generation.0 is
    of_life (End e) is = of_server e.server.0 e.generation.0 is
    of_life (Stop x) is = of_server x.server.0 x.generation.0 is
    of_life _ is = absurd (cc is)

    pub take_of_life : (e : Event) → is_take_in server g e ≡ true → is_of server g e ≡ true
    take_of_life (Take t) is = is
    take_of_life _ is = absurd (cc is)

    pub stop_of_life : (e : Event) → stops_life server g e ≡ true → is_of server g e ≡ true
    stop_of_life (Stop x) is = is
    stop_of_life _ is = absurd (cc is)

    pub stopped_own : (past : List Event) → count (stops_life server g) (its past) ≡ count (stops_life server g) past
    stopped_own past = count_part (stops_life server g) is_its (λ e is. of_life e (stop_of_life e is)) past

    pub taken_own : (past : List Event) → count (is_take_in server g) (its past) ≡ count (is_take_in server g) past
    taken_own past = count_part (is_take_in server g) is_its (λ e is. of_life e (take_of_life e is)) past

    -- an end of the life behind the last call that its server noted came behind its last call in the run
    spent_before : (setup : Setup) (e : Event) (before : List Event) → (is_its e ≡ true → StopsSpent clients server g e (its before)) → StopsSpent clients server g e before
    spent_before setup e before spent stops = ap op_of (sym (called_own setup clients before (caller_of clients server))) ∙ spent (of_life e (stop_of_life e stops)) stops

    pub spent_own : (setup : Setup) (past : List Event) → AtEach (StopsSpent clients server g) (its past) → AtEach (StopsSpent clients server g) past
    spent_own setup past spent = AtEach_whole is_its (StopsSpent clients server g) (StopsSpent clients server g) (spent_before setup) past spent
