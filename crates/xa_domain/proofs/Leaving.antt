-- Clients that left: their last stamps, which are known, and their leaves, which the domain is told when it closes queues.
use Rattle.std.proofs.Common.{◌≡◌, ◌⊎◌, ◌<◌, ◌≤◌, ◌^◌, ℕ, ◌+◌, max, Bool, true, false, List, [], ◌∷◌, ◌++◌, length, Option, Some, None, inl, inr, refl, sym, ◌∙◌, ap, subst, arith, eq-eqb, ⊎_elim}
use Rattle.std.specs.Prelude.{is_some}
use Rattle.std.specs.List.{All, Contains, filter}
use Rattle.std.proofs.lemmas.Bool.{cases_Bool}
use Rattle.std.proofs.lemmas.List.Elements.{All-nil, All-cons, All-head, All-tail, All-push, All-weaker, All-contains, Contains-append_left, Contains-push}
use Rattle.xa_boot.specs.xa_types.declared.call.Op.{Op}
use Rattle.xa_boot.specs.xa_types.declared.ids.CallerId.{CallerId}
use Rattle.xa_boot.specs.xa_types.declared.stamp.Stamp.{Stamp}
use Rattle.xa_boot.specs.xa_events.declared.event.Event.TheVariants.{Leave}
use Rattle.xa_boot.specs.xa_events.Caller.{is_leave_of}
use Rattle.xa_boot.specs.xa_events.Homes.Home.{CallerHome}
use Rattle.xa_boot.specs.xa_events.Words.{EachNumbered}
use Rattle.xa_boot.specs.xa_stamp.declared.home.Stamped.{Stamped}
use Rattle.xa_boot.specs.xa_worker.Crew.{stands_at}
use Rattle.xa_boot.specs.xa_worker.Seen.{SawEntry}
use Rattle.xa_boot.proofs.xa_worker.Lists.{filter-yes, filter-no}
use Rattle.xa_boot.proofs.xa_cell.Lists.{below}
use Rattle.xa_boot.specs.xa_worker.Work.{WorkState}
use Rattle.xa_history.specs.xa_script.declared.script.Client.{Client}
use Rattle.xa_boot.specs.xa_desk.declared.domain.Domain.{Domain}
use Rattle.xa_boot.specs.xa_desk.Whole.{Whole, IsKnown}
use Rattle.xa_boot.proofs.xa_desk.Visiting.{stamp_is}
use Rattle.xa_boot.specs.xa_client_worker.declared.working.ClientWorker.{ClientWorker}
use Rattle.xa_boot.specs.xa_client_worker.declared.working.ClientWorker.TheVariants.{Left}
use Rattle.xa_boot.specs.xa_client_worker.declared.working.Ended.{Ended}
use Rattle.xa_domain.specs.Working.{IsGone, EachDone}
use Rattle.xa_domain.specs.Closing.{KeepsItsOwn, HasLeftBy, IsBehindAll}

-- ---- what a client that left noted

-- what passes and is among these is among those that pass
passing_in : {X : Type 0} (Q : X → Type 0) (p : X → Bool) (xs : List X) → All Q (filter p xs) → All (λ x. p x ≡ true → Q x) xs
passing_in Q p [] all = All-nil (λ x. p x ≡ true → Q x)
passing_in {X} Q p (x ∷ xs) all =
    elim (cases_Bool (p x)) [
      | inl y ↦ let here : All Q (x ∷ filter p xs) = subst (All Q) (filter-yes p x xs y) all in All-cons (λ z. p z ≡ true → Q z) x xs (λ yes. All-head Q x (filter p xs) here) (passing_in Q p xs (All-tail Q x (filter p xs) here))
      | inr n ↦ All-cons (λ z. p z ≡ true → Q z) x xs (λ yes. absurd (cc (yes, n))) (passing_in Q p xs (subst (All Q) (filter-no p x xs n) all))
    ]

-- the leave of the client with that number, with its last stamp
abbrev leave_of : ℕ → Ended → Stamped
leave_of client ended = record { stamp = ended.done.left.work.stamp; event = Leave (record { 0 = client }) }

-- where it keeps its own, its leave stands at its home
leave_stands : (d : Domain) (whole : Whole) (client : ℕ) (ended : Ended) → KeepsItsOwn d whole (Left ended) → ended.done.left.work.id.0 ≡ client → Contains ended.done.left.work.own (leave_of client ended) → Contains (whole.callers client) (leave_of client ended)
leave_stands d whole client ended keeps id noted =
    let at : ℕ → Stamped → Bool = λ n. stands_at d.setup d.clients (CallerHome n) in
    let Stands : Stamped → Type 0 = Contains (whole.callers client) in
    let kept : All Stands (filter (at client) ended.done.left.work.own) = subst (λ n. All (Contains (whole.callers n)) (filter (at n) ended.done.left.work.own)) id keeps in
    All-contains (λ x. at client x ≡ true → Stands x) ended.done.left.work.own (leave_of client ended) (passing_in Stands (at client) ended.done.left.work.own kept) noted (eq-eqb client client refl)

-- what the domain is told of it
one_told : (d : Domain) (whole : Whole) (seen stamp : Stamp) (client : ℕ) (worker : ClientWorker) → seen.0 < stamp.0 → HasLeftBy seen client worker → KeepsItsOwn d whole worker → SawEntry (whole.callers client) stamp (λ e. is_leave_of client e ≡ true)
one_told d whole seen stamp client (Left ended) less left keeps = record {
  entry = leave_of client ended;
  stands = leave_stands d whole client ended keeps left.1 left.3;
  before = let by = left.2 in omega (arith, by, less);
  shows = eq-eqb client client refl;
}
one_told d whole seen stamp client _ less left keeps = absurd left

pub each_told : (d : Domain) (whole : Whole) (seen stamp : Stamp) → seen.0 < stamp.0 → (n : ℕ) (clients : List ClientWorker) → EachNumbered (HasLeftBy seen) n clients → All (KeepsItsOwn d whole) clients
    → (client : ℕ) → n ≤ client → client < n + length clients → SawEntry (whole.callers client) stamp (λ e. is_leave_of client e ≡ true)
each_told d whole seen stamp less n [] left keeps client least within = absurd (omega (arith, least, within))
each_told d whole seen stamp less n (worker ∷ clients) left keeps client least within =
    ⊎_elim (λ (above : n < client). each_told d whole seen stamp less (n + 1) clients left.1 (All-tail (KeepsItsOwn d whole) worker clients keeps) client (omega (arith, above)) (omega (arith, within)))
    (λ (le : client ≤ n). let same : n ≡ client = omega (arith, le, least) in
    one_told d whole seen stamp client worker less (subst (λ k. HasLeftBy seen k worker) same left.0) (All-head (KeepsItsOwn d whole) worker clients keeps))
    (below n client)

-- those that left by a stamp left by a later one
one_later : (a b : Stamp) → a.0 ≤ b.0 → (client : ℕ) (worker : ClientWorker) → HasLeftBy a client worker → HasLeftBy b client worker
one_later a b le client (Left ended) left = (left.0, left.1, let by = left.2 in omega (arith, by, le), left.3)
one_later a b le client _ left = absurd left

pub left_later : (a b : Stamp) → a.0 ≤ b.0 → (n : ℕ) (clients : List ClientWorker) → EachNumbered (HasLeftBy a) n clients → EachNumbered (HasLeftBy b) n clients
left_later a b le n [] left = tt
left_later a b le n (worker ∷ clients) left = (one_later a b le n worker left.0, left_later a b le (n + 1) clients left.1)

-- ---- the greatest of their stamps

-- the client didn't stop before, and has no greater stamp
abbrev pub HasReached : Stamp → ClientWorker → Type 0
HasReached last (Left ended) = (ended.stopped ≡ None) × (ended.done.left.work.stamp.0 ≤ last.0)
HasReached last worker = ⊥

-- the stamp is that of one of these clients
abbrev IsOfOne : Stamp → List ClientWorker → Type 0
IsOfOne last clients = (ended : Ended) × Contains clients (Left ended) × (last ≡ ended.done.left.work.stamp)

-- the stamp is the greatest of that one and of these clients' last ones
pub record IsGreatest (seen : Stamp) (clients : List ClientWorker) (last : Stamp) : Type 0 where
  pub least : seen.0 ≤ last.0
  pub bound : last.0 ≤ 2 ^ 63
  pub reached : All (HasReached last) clients
  pub its : (last ≡ seen) ⊎ IsOfOne last clients

pub greatest_none : (seen : Stamp) → seen.0 ≤ 2 ^ 63 → IsGreatest seen [] seen
greatest_none seen bound = record { least = omega arith; bound = bound; reached = All-nil (HasReached seen); its = inl refl }

reached_more : (a b : Stamp) → a.0 ≤ b.0 → (worker : ClientWorker) → HasReached a worker → HasReached b worker
reached_more a b le (Left ended) is = (is.0, let by = is.1 in omega (arith, by, le))
reached_more a b le _ is = absurd is

pub none_by : {X : Type 0} (o : Option X) → is_some o ≡ false → o ≡ None
none_by None none = refl
none_by (Some x) none = cc none

-- with one client more
pub greatest_more : (seen last : Stamp) (front : List ClientWorker) (ended : Ended) → ended.stopped ≡ None → ended.done.left.work.stamp.0 ≤ 2 ^ 63 → IsGreatest seen front last → IsGreatest seen (front ++ Left ended ∷ []) (record { 0 = max last.0 ended.done.left.work.stamp.0 })
greatest_more seen last front ended none low is =
    let stamp : Stamp = ended.done.left.work.stamp in
    let next : Stamp = record { 0 = max last.0 stamp.0 } in
    let all : List ClientWorker = front ++ Left ended ∷ [] in
    let least = is.least in
    let bound = is.bound in
    record {
      least = omega (arith, least);
      bound = omega (arith, bound, low);
      reached = All-push (HasReached next) front (Left ended) (All-weaker (HasReached last) (HasReached next) (reached_more last next (omega arith)) front is.reached) (none, omega arith);
      its = ⊎_elim (λ (less : last.0 < stamp.0). inr (ended, Contains-push front (Left ended), sym (stamp_is stamp next.0 (omega (arith, less)))))
          (λ (le : stamp.0 ≤ last.0). let same : next ≡ last = sym (stamp_is last next.0 (omega (arith, le))) in
          elim is.its [ inl first ↦ inl (same ∙ first) | inr one ↦ inr (one.0, Contains-append_left front (Left ended ∷ []) (Left one.0) one.1, same ∙ one.2) ])
          (below last.0 stamp.0);
    }

-- ---- by how they are done

-- a client that is done and didn't stop before left with its last stamp
gone_left : (d : Domain) (client : ℕ) (ops : List Op) (ended : Ended) → IsGone d client ops ended → ended.stopped ≡ None → (ended.done.left.work.id.0 ≡ client) × Contains ended.done.left.work.own (leave_of client ended)
gone_left d client ops ended gone none =
    let id : ended.done.left.work.id.0 ≡ client = ap (λ (w : WorkState). w.id.0) gone.left.work ∙ gone.id in
    let wrap : ℕ → CallerId = λ n. record { 0 = n } in
    let Noted : WorkState → Type 0 = λ w. Contains w.own (record { stamp = w.stamp; event = Leave w.id }) in
    let here : Noted ended.done.left.work = subst Noted (sym gone.left.work) (gone.all none).made.left in
    (id, subst (λ (i : CallerId). Contains ended.done.left.work.own (record { stamp = ended.done.left.work.stamp; event = Leave i })) (ap wrap id) here)

module _ (d : Domain) where
  all_left : (last : Stamp) (n : ℕ) (scripts : List Client) (clients : List ClientWorker) → EachDone d n scripts clients → All (HasReached last) clients → EachNumbered (HasLeftBy last) n clients
  all_left last n [] [] done reached = tt
  all_left last n (script ∷ scripts) (Left ended ∷ clients) done reached =
      let here = All-head (HasReached last) (Left ended) clients reached in
      let left = gone_left d n script.ops ended done.0 here.0 in
      ((here.0, left.0, here.1, left.1), all_left last (n + 1) scripts clients done.1 (All-tail (HasReached last) (Left ended) clients reached))
  all_left last n (script ∷ scripts) (worker ∷ clients) done reached = absurd done.0
  all_left last n scripts clients done reached = absurd done

  -- the last stamp of a client that is known
  abbrev KnownOf : Whole → ClientWorker → Type 0
  KnownOf whole (Left ended) = IsKnown whole ended.done.left.work.stamp
  KnownOf whole worker = Unit {0}

  one_known : (whole : Whole) (client : ℕ) (ops : List Op) (ended : Ended) → IsGone d client ops ended → ended.stopped ≡ None → KeepsItsOwn d whole (Left ended) → IsKnown whole ended.done.left.work.stamp
  one_known whole client ops ended gone none keeps =
      let left = gone_left d client ops ended gone none in
      inr (inl (CallerHome client, (leave_of client ended, leave_stands d whole client ended keeps left.0 left.1, refl)))

  all_known : (whole : Whole) (last : Stamp) (n : ℕ) (scripts : List Client) (clients : List ClientWorker) → EachDone d n scripts clients → All (HasReached last) clients → All (KeepsItsOwn d whole) clients → All (KnownOf whole) clients
  all_known whole last n [] [] done reached keeps = All-nil (KnownOf whole)
  all_known whole last n (script ∷ scripts) (Left ended ∷ clients) done reached keeps =
      All-cons (KnownOf whole) (Left ended) clients
      (one_known whole n script.ops ended done.0 (All-head (HasReached last) (Left ended) clients reached).0 (All-head (KeepsItsOwn d whole) (Left ended) clients keeps))
      (all_known whole last (n + 1) scripts clients done.1 (All-tail (HasReached last) (Left ended) clients reached) (All-tail (KeepsItsOwn d whole) (Left ended) clients keeps))
  all_known whole last n (script ∷ scripts) (worker ∷ clients) done reached keeps = absurd done.0
  all_known whole last n scripts clients done reached keeps = absurd done

pub behind_all : (seen last : Stamp) (clients : List ClientWorker) → IsGreatest seen clients last → IsBehindAll seen clients last
behind_all seen last clients is = record {
  least = is.least;
  bound = is.bound;
  left = λ d n scripts done. all_left d last n scripts clients done is.reached;
  known_last = λ d n scripts whole done keeps first. elim is.its [
    | inl same ↦ subst (IsKnown whole) (sym same) first
    | inr one ↦ subst (IsKnown whole) (sym one.2) (All-contains (KnownOf d whole) clients (Left one.0) (all_known d whole last n scripts clients done is.reached keeps) one.1)
  ];
}
