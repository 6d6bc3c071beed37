-- What each worker noted stands at the homes, and what stands there was noted by one of the workers.
use Rattle.std.proofs.Common.{◌≡◌, ℕ, ◌<◌, ◌==◌, Bool, true, List, [], ◌∷◌, map, Option, Some, None, inl, inr, refl, sym, subst, arith}
use Rattle.std.specs.Prelude.{option_map}
use Rattle.std.specs.List.{All, Contains, filter}
use Rattle.std.proofs.lemmas.Bool.{cases_Bool, cases_lt}
use Rattle.std.proofs.lemmas.List.Elements.{All-nil, All-cons, All-head, All-tail, All-weaker, All-contains, All-contains_itself, All-filter, filter_passes}
use Rattle.xa_client_worker.specs.xa_types.Setup.{numbered}
use Rattle.xa_client_worker.specs.xa_events.Homes.{Home, home_of}
use Rattle.xa_client_worker.specs.xa_events.Homes.Home.{BoardHome, QueueHome, ClockHome, CallerHome}
use Rattle.xa_client_worker.specs.xa_stamp.declared.home.Stamped.{Stamped}
use Rattle.xa_client_worker.specs.xa_lock.declared.makers.Made.{Made}
use Rattle.xa_client_worker.specs.xa_lock.Makers.{maker_of, noted_in, made_by}
use Rattle.xa_client_worker.specs.xa_lock.Pages.{entries_by}
use Rattle.xa_client_worker.specs.xa_worker.Crew.{MayNote, stands_at}
use Rattle.xa_client_worker.specs.xa_worker.Ending.{list_in, workers_of}
use Rattle.xa_client_worker.proofs.xa_worker.Growing.{all_of_maker}
use Rattle.xa_client_worker.proofs.xa_worker.Lists.{filter-yes, filter-no, same_home-is, All-homes, All-makers}
use Rattle.xa_client_worker.specs.xa_held.declared.kept_board.BoardNote.{BoardNote}
use Rattle.xa_client_worker.specs.xa_held.declared.kept_board.BoardNote.TheVariants.{Opened, By, Looked}
use Rattle.xa_client_worker.specs.xa_held.declared.kept_queue.QueueNote.{QueueNote}
use Rattle.xa_client_worker.specs.xa_held.declared.kept_queue.QueueNote.TheVariants as notes
use Rattle.xa_client_worker.specs.xa_held.Board.{made_in, maker_of as change_maker}
use Rattle.xa_client_worker.specs.xa_held.Kept.{Kept, setting_of}
use Rattle.xa_client_worker.specs.xa_held.Notes.{maker_of as note_maker}
use Rattle.xa_client_worker.proofs.xa_held.Front.{note}
use Rattle.xa_client_worker.specs.xa_worker.Work.{WorkState}
use Rattle.xa_client_worker.specs.xa_server.Fillings.{StandAt}
use Rattle.xa_client_worker.specs.xa_caller.declared.cargo.Filling.{Filling}
use Rattle.xa_client_worker.specs.xa_desk.declared.domain.Domain.{Domain}
use Rattle.xa_client_worker.specs.xa_desk.declared.desk.Desk.{Desk}
use Rattle.xa_client_worker.specs.xa_desk.Whole.{entries_of}
use Rattle.xa_history.specs.Joined.{Back, whole_of, kept_of, noted_of, AllLeft}
use Rattle.xa_history.proofs.Listed.{all_mapped, all_both, numbered_map, nothing_past}
use Rattle.xa_history.proofs.Left.{Left, same_homes, each_left}

-- ---- what a worker noted

-- what holds of all entries holds of one maker's
part_of : (P : Stamped → Type 0) (k : ℕ) (es : List Made) → All P (noted_in es) → All P (noted_in (entries_by maker_of k es))
part_of P k [] all = all
part_of P k (e ∷ es) all =
    let by : Made → Bool = λ x. maker_of x == k in
    let rest = part_of P k es (All-tail P e.noted (noted_in es) all) in
    elim (cases_Bool (by e)) [
      | inl y ↦ subst (λ (l : List Made). All P (noted_in l)) (sym (filter-yes by e es y)) (All-cons P e.noted (noted_in (filter by es)) (All-head P e.noted (noted_in es) all) rest)
      | inr n ↦ subst (λ (l : List Made). All P (noted_in l)) (sym (filter-no by e es n)) rest
    ]

-- it stands at the homes
abbrev StandsThere : Domain → Back → Stamped → Type 0
StandsThere d b x = Contains (noted_in (kept_of b (home_of d.setup d.clients x.event))) x

stands_here : (d : Domain) (b : Back) (worker : ℕ) (own : List Stamped) → Left d b worker own → (home : Home) → All (StandsThere d b) (filter (stands_at d.setup d.clients home) own)
stands_here d b worker own left home =
    let at : Stamped → Bool = stands_at d.setup d.clients home in
    let entries = noted_in (kept_of b home) in
    all_both (Contains entries) (λ y. at y ≡ true) (StandsThere d b) (filter at own)
    (λ y in_home passes. subst (λ (h : Home). Contains (noted_in (kept_of b h)) y) (sym (same_home-is (home_of d.setup d.clients y.event) home passes)) in_home)
    (subst (All (Contains entries)) (left.theirs home) (part_of (Contains entries) worker (kept_of b home) (All-contains_itself entries))) (filter_passes at own)

pub stands : (d : Domain) (b : Back) (worker : ℕ) (own : List Stamped) → Left d b worker own → StandAt d.setup d.clients (λ home. noted_in (kept_of b home)) own
stands d b worker own left x among = All-contains (StandsThere d b) own x (All-homes d.setup d.clients (StandsThere d b) own (stands_here d b worker own left)) among

pub stands_whole : (d : Domain) (b : Back) (worker : ℕ) (own : List Stamped) → Left d b worker own → StandAt d.setup d.clients (entries_of (whole_of d b)) own
stands_whole d b worker own left x among = subst (λ (l : List Stamped). Contains l x) (sym (same_homes d b (home_of d.setup d.clients x.event))) (stands d b worker own left x among)

-- ---- makers

change_makers : (workers : ℕ) (notes : List BoardNote) → All (λ note. change_maker note < workers) notes → All (λ entry. maker_of entry < workers) (made_in notes)
change_makers workers [] all = All-nil (λ entry. maker_of entry < workers)
change_makers workers (Opened setup ∷ notes) all = change_makers workers notes (All-tail (λ note. change_maker note < workers) (Opened setup) notes all)
change_makers workers (By made ∷ notes) all =
    All-cons (λ entry. maker_of entry < workers) made (made_in notes) (All-head (λ note. change_maker note < workers) (By made) notes all) (change_makers workers notes (All-tail (λ note. change_maker note < workers) (By made) notes all))
change_makers workers (Looked look ∷ notes) all = change_makers workers notes (All-tail (λ note. change_maker note < workers) (Looked look) notes all)

module _ (d : Domain) (b : Back) (domain : WorkState) (desks : List Desk) (all : AllLeft d b domain desks) where
  abbrev workers : ℕ
  workers = workers_of d.setup d.clients

  abbrev IsLow : Made → Type 0
  IsLow entry = maker_of entry < workers

  queue_makers : (queue : ℕ) (o : Option (Kept Filling)) → numbered queue b.queues ≡ o → All IsLow (list_in (option_map (λ (kept : Kept Filling). kept.queue.entries) o))
  queue_makers queue None there = All-nil IsLow
  queue_makers queue (Some kept) there =
      let Low : QueueNote Filling → Type 0 = λ its. note_maker its < workers in
      all_mapped Low (note {A = Filling}) kept.queue.entries (All-tail Low (notes.Opened (setting_of kept)) (map (note {A = Filling}) kept.queue.entries) (all.each queue kept there).makers)

  pub makers_at : (home : Home) → All IsLow (kept_of b home)
  makers_at BoardHome = change_makers workers b.board.notes all.makers
  makers_at (QueueHome queue) = subst (λ (o : Option (List Made)). All IsLow (list_in o)) (sym (numbered_map (λ (kept : Kept Filling). kept.queue.entries) queue b.queues)) (queue_makers queue (numbered queue b.queues) refl)
  makers_at ClockHome = all.movers
  makers_at (CallerHome caller) = elim (cases_lt caller workers) [
    | inl low ↦ All-weaker (λ (entry : Made). maker_of entry ≡ caller) IsLow (λ entry is. omega (arith, is, low)) (made_by (record { 0 = caller }) (list_in (numbered caller b.own))) (all_of_maker (record { 0 = caller }) caller (list_in (numbered caller b.own)) refl)
    | inr high ↦ subst (λ (l : List Stamped). All IsLow (made_by (record { 0 = caller }) l)) (sym (nothing_past caller b.own (let own = all.own in let count = all.count in omega (arith, high, own, count)))) (All-nil IsLow)
  ]

  -- each worker's part of a home
  pub at_makers : (Q : ℕ → Stamped → Type 0) (home : Home) → ((worker : ℕ) → worker < workers → All (Q worker) (noted_of domain desks worker)) → All (λ (entry : Made). Q (maker_of entry) entry.noted) (kept_of b home)
  at_makers Q home each =
      All-makers workers Q (kept_of b home)
      (λ worker low. subst (All (Q worker)) (sym ((each_left d b domain desks all worker low).theirs home)) (All-filter (stands_at d.setup d.clients home) (Q worker) (noted_of domain desks worker) (each worker low))) (makers_at home)

  pub may_at : (home : Home) → All (λ (entry : Made). MayNote d.clients entry.maker.0 entry.noted.event) (kept_of b home)
  may_at home = at_makers (λ worker x. MayNote d.clients worker x.event) home (λ worker low. (each_left d b domain desks all worker low).work.may)
