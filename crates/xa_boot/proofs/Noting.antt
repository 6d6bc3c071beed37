-- One change more is advertised.
use Rattle.std.proofs.Common.{◌≡◌, ℕ, zero, suc, ◌+◌, ◌<◌, ◌≤◌, List, [], ◌∷◌, ◌++◌, length, get_or, map, reverse, drop, drop-cons, Option, Some, None, Ok, inl, refl, sym, ◌∙◌, ap, ap₂, subst, arith, add-one, length-append}
use Rattle.std.specs.Prelude.{slice_get}
use Rattle.std.specs.List.{flat_map}
use Rattle.std.proofs.lemmas.List.{map-append, reverse-append, length-reverse}
use Rattle.xa_client_worker.specs.xa_types.declared.row.Row.{Row}
use Rattle.xa_client_worker.specs.xa_types.declared.setup.Setup.{Setup}
use Rattle.xa_client_worker.specs.xa_types.declared.setup.ServiceSetup.{ServiceSetup}
use Rattle.xa_client_worker.specs.xa_types.declared.ids.CallerId.{CallerId}
use Rattle.xa_client_worker.specs.xa_types.Rows.{Change, Put, row_with, row_for, changes_of, configured}
use Rattle.xa_client_worker.specs.xa_types.Setup.{service_named, queue_named}
use Rattle.xa_client_worker.specs.xa_events.declared.event.Event.{Event}
use Rattle.xa_client_worker.specs.xa_events.declared.event.Event.TheVariants.{Advertise}
use Rattle.xa_client_worker.specs.xa_events.declared.event.Advertised.{Advertised}
use Rattle.xa_client_worker.specs.xa_events.Board.{published, changes}
use Rattle.xa_client_worker.specs.xa_events.Cases.{HomePart}
use Rattle.xa_client_worker.specs.xa_events.Words.{AtEach}
use Rattle.xa_client_worker.specs.xa_stamp.declared.home.Stamped.{Stamped}
use Rattle.xa_client_worker.proofs.xa_stamp.Stamps.{last_stamp-push}
use Rattle.xa_client_worker.specs.xa_lock.Makers.{made_by}
use Rattle.xa_client_worker.specs.xa_worker.Seen.{past_in}
use Rattle.xa_client_worker.proofs.xa_worker.Lists.{past_in-append, map-reverse}
use Rattle.xa_client_worker.specs.xa_board.declared.board.Changed.{Changed}
use Rattle.xa_client_worker.specs.xa_board.Board.{put_of, stamp_of}
use Rattle.xa_client_worker.specs.xa_held.declared.kept_board.BoardNote.{BoardNote}
use Rattle.xa_client_worker.specs.xa_held.declared.kept_board.BoardNote.TheVariants.{Opened, By}
use Rattle.xa_client_worker.specs.xa_held.Board.{Turns, IsPlaced}
use Rattle.xa_client_worker.specs.xa_held.BoardSteps.{AdvertisedAs}
use Rattle.xa_boot.specs.declared.advertising.Opening.{Opening}
use Rattle.xa_boot.specs.Booting.{IsBoots}
use Rattle.xa_boot.specs.Opening.{IsNextNote, opening, puts, Remain, Passed}

-- ---- lists

pub dropped : {X : Type 0} (n : ℕ) (xs : List X) (y : X) (ys : List X) → drop n xs ≡ y ∷ ys → (slice_get xs n ≡ Some y) × (drop (suc n) xs ≡ ys)
dropped zero [] y ys is = absurd (cc is)
dropped zero (x ∷ xs) y ys is = (cc is, cc is)
dropped (suc n) [] y ys is = absurd (cc is)
dropped (suc n) (x ∷ xs) y ys is = dropped n xs y ys is

pub drop_next : {X : Type 0} (xs : List X) (i : ℕ) (x : X) → i < length xs → x ≡ get_or xs i x → drop i xs ≡ x ∷ drop (i + 1) xs
drop_next xs i x within is = drop-cons xs i x within ∙ ap₂ (λ y n. y ∷ drop n xs) (sym is) (sym (add-one i))

pub drop_all : {X : Type 0} (n : ℕ) (xs : List X) → length xs ≤ n → drop n xs ≡ []
drop_all zero [] few = refl
drop_all zero (x ∷ xs) few = absurd (omega (arith, few))
drop_all (suc n) [] few = refl
drop_all (suc n) (x ∷ xs) few = drop_all n xs (omega (arith, few))

-- ---- a row as it is configured

put-with : (found : Option ServiceSetup) (service : List ℕ) (queue : ℕ) (routine : List ℕ) → put_of (row_with found service queue routine) ≡ Put service queue routine
put-with None service queue routine = refl
put-with (Some it) service queue routine = refl

pub put-for : (setup : Setup) (service : List ℕ) (queue : ℕ) (routine : List ℕ) (row : Row) → row ≡ row_for setup service queue routine → put_of row ≡ Put service queue routine
put-for setup service queue routine row is = ap put_of is ∙ put-with (service_named setup service) service queue routine

pub is_placed : (setup : Setup) (service : List ℕ) (queue : ℕ) (routine : List ℕ) (row : Row) → row ≡ row_for setup service queue routine → (0 < queue) × (queue < length setup.queues + 1) → IsPlaced setup row
is_placed setup service queue routine row is on =
    let put = put-for setup service queue routine row is in
    let its : row.service ≡ service = cc put in
    let at : row.queue.0 ≡ queue = cc put in
    let by : row.routine ≡ routine = cc put in
    record {
      configured = is ∙ ap₂ (λ s q. row_for setup s q routine) (sym its) (sym at) ∙ ap (row_for setup row.service row.queue.0) (sym by);
      some = omega (arith, on.0, at);
      least = omega (arith, on.1, at);
    }

-- ---- a note more

abbrev pub domain : CallerId
domain = record { 0 = 0 }

published_more : (a : Advertised) (past : List Event) → published (Advertise a ∷ past) ≡ published past + 1
unfolding published changes
published_more a past = sym (add-one (length (changes past)))

past_in-push : (own : List Stamped) (x : Stamped) → past_in (own ++ x ∷ []) ≡ x.event ∷ past_in own
past_in-push own x = past_in-append own (x ∷ [])

opening-push : (setup : Setup) (own : List Stamped) (x : Stamped) → opening setup own ++ By (record { maker = domain; noted = x }) ∷ [] ≡ opening setup (own ++ x ∷ [])
opening-push setup own x =
    let by : List Stamped → List BoardNote = λ xs. map By (made_by domain xs) in
    ap (λ (l : List BoardNote). Opened setup ∷ l) (sym (ap (map By) (map-append (λ (noted : Stamped). record { maker = domain; noted = noted }) own (x ∷ [])) ∙ map-append By (made_by domain own) (made_by domain (x ∷ []))))

pub passed : (setup : Setup) (service : List ℕ) (queue : ℕ) (routine : List ℕ) (row : Row) (done : Changed) (old new : Opening) → row ≡ row_for setup service queue routine
    → AdvertisedAs (Turns old.board new.board) (record { 0 = 0 }) domain domain 0 row (Ok done)
    → new.own ≡ old.own ++ (record { stamp = done.noted.stamp; event = done.noted.event.value }) ∷ [] → Passed setup (Put service queue routine ∷ []) old new
passed setup service queue routine row done old new its turns noted = λ rest is.
    let own : List Stamped = old.own in
    let n : ℕ = length own in
    let x : Stamped = record { stamp = done.noted.stamp; event = done.noted.event.value } in
    let makes = turns.how.1 in
    let event : Event = Advertise (record { by = domain; op = 0; service = row.service; queue = row.queue; routine = row.routine; version = done.version }) in
    let put : put_of row ≡ Put service queue routine = put-for setup service queue routine row its in
    let next = dropped n (configured setup) (Put service queue routine) rest is.rest_is in
    let stamp = ap (λ (p : ℕ × _). p.1.0) makes.next in
    let time : x.stamp.0 ≡ n + 1 = omega (arith, stamp, is.stamp, is.last) in
    let more : length (own ++ x ∷ []) ≡ n + 1 = length-append own (x ∷ []) in
    let before : published (map (λ (y : Stamped). y.event) (reverse own)) ≡ n = ap published (map-reverse (λ (y : Stamped). y.event) own) ∙ is.version in
    let here : published (past_in new.own) ≡ n + 1 = ap (λ l. published (past_in l)) noted ∙ ap published (past_in-push own x) ∙ ap (λ e. published (e ∷ past_in own)) makes.event_is ∙ published_more _ (past_in own) ∙ ap (λ k. k + 1) is.version in
    let count : length new.own ≡ n + 1 = ap length noted ∙ more in
    let at : length (reverse own) ≡ n = length-reverse own in
    record {
      boots = subst (λ (l : List Stamped). AtEach (IsNextNote setup) (reverse l)) (sym noted) (subst (AtEach (IsNextNote setup)) (sym (reverse-append own (x ∷ []))) (
        record {
          boots = subst IsBoots (sym makes.event_is) (refl, refl);
          next = omega (arith, time, at);
          met = subst (λ (e : Event). HomePart setup e (map (λ (y : Stamped). y.event) (reverse own))) (sym makes.event_is) (inl (record {
            domain = refl;
            booting = ap (slice_get (configured setup)) before ∙ next.0 ∙ ap Some (sym put);
            version = ap (λ (p : ℕ × _). p.0) makes.next ∙ ap (λ k. k + 1) (ap (λ l. published (past_in l)) is.entries ∙ is.version ∙ sym before);
          }));
        },
        is.boots,
      ));
      notes = turns.notes ∙ ap (λ l. l ++ By (record { maker = domain; noted = x }) ∷ []) is.notes ∙ opening-push setup own x ∙ ap (opening setup) (sym noted);
      by = turns.setup ∙ is.by;
      entries = ap (λ b. b.entries) makes.board ∙ ap (λ l. l ++ (record { stamp = done.noted.stamp; event = event }) ∷ []) is.entries ∙ ap (λ e. own ++ (record { stamp = done.noted.stamp; event = e }) ∷ []) (sym makes.event_is) ∙ sym noted;
      version = here ∙ sym count;
      stamp = ap stamp_of makes.board ∙ last_stamp-push old.board.board.first old.board.board.entries (record { stamp = done.noted.stamp; event = event }) ∙ time ∙ sym count;
      last = ap (λ s. s.0) makes.last ∙ time ∙ sym count;
      rest_is = ap (λ k. drop k (configured setup)) (count ∙ add-one n) ∙ next.1;
    }

-- ---- what remains

pub first_put : (setup : Setup) (service : ServiceSetup) (names : List (List ℕ)) (i : ℕ) (name : List ℕ) (queue : ℕ) (rest : List Change) (o : Opening) → i < length names → name ≡ get_or names i name → queue ≡ queue_named setup name
    → Remain setup (puts setup service (drop i names) ++ rest) o → Remain setup (Put service.name queue service.routine ∷ (puts setup service (drop (i + 1) names) ++ rest)) o
first_put setup service names i name queue rest o within is number remain =
    let later = puts setup service (drop (i + 1) names) ++ rest in
    subst (λ q. Remain setup (Put service.name q service.routine ∷ later) o) (sym number) (subst (λ left. Remain setup (puts setup service left ++ rest) o) (drop_next names i name within is) remain)

pub first_service : (setup : Setup) (services : List ServiceSetup) (i : ℕ) (service : ServiceSetup) (o : Opening) → i < length services → service ≡ get_or services i service
    → Remain setup (flat_map (changes_of setup) (drop i services)) o → Remain setup (changes_of setup service ++ flat_map (changes_of setup) (drop (i + 1) services)) o
first_service setup services i service o within is remain = subst (λ left. Remain setup (flat_map (changes_of setup) left) o) (drop_next services i service within is) remain
