-- The work of a worker with one event more.
use Rattle.std.proofs.Common.{◌≡◌, ℕ, ◌<◌, ◌≤◌, ◌^◌, true, false, List, [], ◌∷◌, ◌++◌, inl, inr, refl, sym, ◌∙◌, ap, subst, arith, eq-eqb, ne_eqb}
use Rattle.std.proofs.Common.{Result, Ok, Err}
use Rattle.std.proofs.lemmas.Bool.{false≢true}
use Rattle.std.specs.Prelude.{OnOk, is_err, map, reverse}
use Rattle.std.specs.List.{filter}
use Rattle.std.proofs.lemmas.List.{append-nil, reverse-append}
use Rattle.std.proofs.lemmas.List.Elements.{All-push, filter-append}
use Rattle.xa_types.specs.declared.setup.Setup.{Setup}
use Rattle.xa_events.specs.declared.event.Event.{Event}
use Rattle.xa_events.specs.declared.event.Event.TheVariants.{Advertise, Withdraw, Sweep, Down, Close}
use Rattle.xa_events.specs.Words.{AtEach}
use Rattle.xa_events.specs.Homes.{worker_of, of_worker, home_of, at_home, same_home}
use Rattle.xa_events.specs.Homes.Home.{CallerHome}
use Rattle.xa_events.specs.Cases.{WorkerPart}
use Rattle.xa_events.specs.Local.{worker_events}
use Rattle.xa_stamp.specs.declared.home.Stamped.{Stamped}
use Rattle.xa_stamp.specs.Home.{last_stamp}
use Rattle.xa_stamp.proofs.Stamps.{Rises-push}
use Rattle.xa_worker.specs.Seen.{past_in}
use Rattle.xa_worker.specs.Crew.{no_stamp, MayNote, IsOfDomain, stands_at}
use Rattle.xa_worker.proofs.Lists.{filter-yes, filter-no, past_in-append, map-reverse}
use Rattle.xa_worker.specs.Work.{WorkState, IsSound, IsNext, theirs, noted}

-- one event more is the worker's
pub theirs-more : (w : WorkState) (x : Stamped) → worker_of w.clients x.event ≡ w.id.0 → theirs (noted x w) ≡ x.event ∷ theirs w
theirs-more w x its =
    ap (worker_events w.clients w.id.0) (past_in-append w.own (x ∷ [])) ∙ filter-yes (of_worker w.clients w.id.0) x.event (past_in w.own) (eq-eqb (worker_of w.clients x.event) w.id.0 its)

-- an event of the domain is no worker's
pub not_theirs : (clients worker : ℕ) (e : Event) → 0 < worker → IsOfDomain e → of_worker clients worker e ≡ false
not_theirs clients worker (Advertise a) some d = ne_eqb a.by.0 worker (λ same. let zero = d.domain in absurd (omega (arith, same, zero)))
not_theirs clients worker (Withdraw w) some d = ne_eqb w.by.0 worker (λ same. let zero = d.domain in absurd (omega (arith, same, zero)))
not_theirs clients worker (Sweep x) some d = ne_eqb 0 worker (λ same. absurd (omega (arith, same)))
not_theirs clients worker (Down queue) some d = ne_eqb 0 worker (λ same. absurd (omega (arith, same)))
not_theirs clients worker (Close queue) some d = ne_eqb 0 worker (λ same. absurd (omega (arith, same)))
not_theirs clients worker _ some d = absurd d

pub theirs-same : (w : WorkState) (x : Stamped) → 0 < w.id.0 → IsOfDomain x.event → theirs (noted x w) ≡ theirs w
theirs-same w x some domain =
    ap (worker_events w.clients w.id.0) (past_in-append w.own (x ∷ [])) ∙ filter-no (of_worker w.clients w.id.0) x.event (past_in w.own) (not_theirs w.clients w.id.0 x.event some domain)

-- what holds of the work still does with an event of the worker's more
pub sound-noted : (w : WorkState) (x : Stamped) → IsSound w → 0 < w.id.0 → last_stamp no_stamp w.own < x.stamp.0 → x.stamp.0 ≤ 2 ^ 63 → IsNext w x.event → IsSound (noted x w)
sound-noted w x sound some later bound next = record {
  rises = Rises-push no_stamp w.own x sound.rises later bound;
  may = All-push (λ (y : Stamped). MayNote w.clients w.id.0 y.event) w.own x sound.may (inl (some, next.its));
  met = subst (AtEach (WorkerPart w.setup w.clients)) (sym (theirs-more w x next.its)) (next.met, sound.met);
}

-- and with one of the domain's
pub sound_for_domain : (w : WorkState) (x : Stamped) → IsSound w → 0 < w.id.0 → last_stamp no_stamp w.own < x.stamp.0 → x.stamp.0 ≤ 2 ^ 63 → IsOfDomain x.event → IsSound (noted x w)
sound_for_domain w x sound some later bound domain = record {
  rises = Rises-push no_stamp w.own x sound.rises later bound;
  may = All-push (λ (y : Stamped). MayNote w.clients w.id.0 y.event) w.own x sound.may (inr domain);
  met = subst (AtEach (WorkerPart w.setup w.clients)) (sym (theirs-same w x some domain)) sound.met;
}

-- the worker's own home has one event more of those that stand there
pub here-more : (setup : Setup) (clients worker : ℕ) (own : List Stamped) (x : Stamped) → home_of setup clients x.event ≡ CallerHome worker → filter (stands_at setup clients (CallerHome worker)) own ++ x ∷ [] ≡ filter (stands_at setup clients (CallerHome worker)) (own ++ x ∷ [])
here-more setup clients worker own x here =
    let at = stands_at setup clients (CallerHome worker) in
    let on : at x ≡ true = ap (λ home. same_home home (CallerHome worker)) here ∙ eq-eqb worker worker refl in
    sym (filter-append at own (x ∷ []) ∙ ap (λ xs. filter at own ++ xs) (filter-yes at x [] on))

pub here-same : (setup : Setup) (clients worker : ℕ) (own : List Stamped) (x : Stamped) → at_home setup clients (CallerHome worker) x.event ≡ false → filter (stands_at setup clients (CallerHome worker)) own ≡ filter (stands_at setup clients (CallerHome worker)) (own ++ x ∷ [])
here-same setup clients worker own x off =
    let at = stands_at setup clients (CallerHome worker) in
    sym (filter-append at own (x ∷ []) ∙ ap (λ xs. filter at own ++ xs) (filter-no at x [] off) ∙ append-nil (filter at own))

-- no event of the domain stands there
pub domain_elsewhere : (setup : Setup) (clients worker : ℕ) (e : Event) → IsOfDomain e → at_home setup clients (CallerHome worker) e ≡ false
domain_elsewhere setup clients worker (Advertise a) d = refl
domain_elsewhere setup clients worker (Withdraw w) d = refl
domain_elsewhere setup clients worker (Sweep x) d = refl
domain_elsewhere setup clients worker (Down queue) d = refl
domain_elsewhere setup clients worker (Close queue) d = refl
domain_elsewhere setup clients worker _ d = absurd d

pub on_ok : {X Y P : Type 0} (r : Result X Y) → is_err r ≡ false → OnOk r P → P
on_ok (Ok x) fine holds = holds
on_ok (Err y) fine holds = absurd (false≢true (sym fine))

-- what holds of each with those before it holds also with one more, where it does of that one
pub each-more : (P : Stamped → List Event → Type 0) (own : List Stamped) (x : Stamped) → AtEach (λ (y : Stamped) older. P y (map (λ (z : Stamped). z.event) older)) (reverse own) → P x (past_in own)
    → AtEach (λ (y : Stamped) older. P y (map (λ (z : Stamped). z.event) older)) (reverse (own ++ x ∷ []))
each-more P own x each here =
    subst (AtEach (λ (y : Stamped) older. P y (map (λ (z : Stamped). z.event) older))) (sym (reverse-append own (x ∷ []))) (subst (P x) (sym (map-reverse (λ (y : Stamped). y.event) own)) here, each)
