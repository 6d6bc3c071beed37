-- What each worker left at the homes: the domain itself, and each caller by its desk.
use Rattle.std.proofs.Common.{◌≡◌, ◌⊎◌, ℕ, zero, suc, ◌+◌, ◌<◌, Bool, false, List, [], ◌∷◌, length, Option, Some, None, inl, inr, refl, sym, ◌∙◌, ap, subst, arith}
use Rattle.std.specs.Prelude.{slice_index_or, option_map}
use Rattle.std.specs.List.{All, filter}
use Rattle.std.proofs.lemmas.Bool.{cases_Bool, cases_lt}
use Rattle.std.proofs.lemmas.Option.{slice_get_past}
use Rattle.std.proofs.lemmas.List.Elements.{All-weaker}
use Rattle.xa_client_worker.specs.xa_types.declared.setup.Setup.{Setup}
use Rattle.xa_client_worker.specs.xa_types.Setup.{numbered}
use Rattle.xa_client_worker.specs.xa_events.declared.event.Event.{Event}
use Rattle.xa_client_worker.specs.xa_events.declared.event.Event.TheVariants.{Advertise, Withdraw, Sweep, Down, Close}
use Rattle.xa_client_worker.specs.xa_events.Homes.{Home, home_of, at_home, same_home}
use Rattle.xa_client_worker.specs.xa_events.Homes.Home.{BoardHome, QueueHome, ClockHome, CallerHome}
use Rattle.xa_client_worker.specs.xa_stamp.declared.home.Stamped.{Stamped}
use Rattle.xa_client_worker.specs.xa_lock.declared.makers.Made.{Made}
use Rattle.xa_client_worker.specs.xa_lock.declared.pass.LockPass.{LockPass}
use Rattle.xa_client_worker.specs.xa_lock.declared.pass.Page.{Page}
use Rattle.xa_client_worker.specs.xa_lock.Known.{known as page_of}
use Rattle.xa_client_worker.specs.xa_lock.Makers.{maker_of, noted_in}
use Rattle.xa_client_worker.specs.xa_lock.Pages.{Knows, entries_by}
use Rattle.xa_client_worker.specs.xa_worker.Crew.{MayNote, stands_at}
use Rattle.xa_client_worker.specs.xa_worker.Ending.{list_in, workers_of}
use Rattle.xa_client_worker.proofs.xa_worker.Lists.{filter-none, same_home-is}
use Rattle.xa_client_worker.proofs.xa_worker.Ending.{own_theirs}
use Rattle.xa_client_worker.proofs.xa_worker.Growing.{noted_made}
use Rattle.xa_client_worker.specs.xa_ticks.Clock.{made_in as moves_in}
use Rattle.xa_client_worker.specs.xa_held.Board.{made_in, maker_of as change_maker}
use Rattle.xa_client_worker.specs.xa_held.Joins.{changes_page}
use Rattle.xa_client_worker.specs.xa_held.Kept.{Kept, notes_of}
use Rattle.xa_client_worker.specs.xa_held.Notes.{maker_of as note_maker, made_page}
use Rattle.xa_client_worker.proofs.xa_held.Front.{knows_events}
use Rattle.xa_client_worker.proofs.xa_held.Fronts.{knows_changes}
use Rattle.xa_client_worker.specs.xa_worker.Work.{WorkState, IsWorkOf}
use Rattle.xa_client_worker.specs.xa_caller.declared.cargo.Filling.{Filling}
use Rattle.xa_client_worker.specs.xa_desk.declared.domain.Domain.{Domain}
use Rattle.xa_client_worker.specs.xa_desk.declared.desk.Desk.{Desk}
use Rattle.xa_client_worker.specs.xa_desk.Whole.{entries_of}
use Rattle.xa_client_worker.specs.xa_desk.Made.{IsMade}
use Rattle.xa_client_worker.specs.xa_desk.Desks.{IsAmong, IsThere, IsGrounded, IsBoardPass, IsQueuePass, IsClockPass}
use Rattle.xa_history.specs.Joined.{Back, no_queue, kept_or, whole_of, kept_of, noted_of, HasLeft, IsDomainOf, AllLeft}
use Rattle.xa_history.proofs.Listed.{all_numbered, numbered_map, one_there}

-- what a worker left that noted these
pub record Left (d : Domain) (b : Back) (worker : ℕ) (own : List Stamped) : Type 0 where
  pub work : IsWorkOf d.setup d.clients worker own
  pub made : All (λ (x : Stamped). IsMade x.event) own
  pub grounded : All (IsGrounded own) (entries_by change_maker worker b.board.notes)
  pub theirs : (home : Home) → noted_in (entries_by maker_of worker (kept_of b home)) ≡ filter (stands_at d.setup d.clients home) own
  pub home : list_in (numbered worker b.own) ≡ filter (stands_at d.setup d.clients (CallerHome worker)) own

-- ---- the homes with makers and without

-- the clock's entries without their makers are what they were
pub bare_moves : (entries : List Stamped) → noted_in (moves_in entries) ≡ entries
bare_moves [] = refl
bare_moves (x ∷ entries) = ap (λ (l : List Stamped). x ∷ l) (bare_moves entries)

in_option : (default : Kept Filling) (o : Option (Kept Filling)) → default.queue.entries ≡ [] → list_in (option_map (λ (kept : Kept Filling). kept.queue.entries) o) ≡ (kept_or default o).queue.entries
in_option default None none = sym none
in_option default (Some kept) none = refl

pub same_queue : (d : Domain) (b : Back) (queue : ℕ) → kept_of b (QueueHome queue) ≡ ((whole_of d b).queues queue).queue.entries
same_queue d b queue = ap list_in (numbered_map (λ (kept : Kept Filling). kept.queue.entries) queue b.queues) ∙ in_option (no_queue d queue) (numbered queue b.queues) refl

pub same_homes : (d : Domain) (b : Back) (home : Home) → entries_of (whole_of d b) home ≡ noted_in (kept_of b home)
same_homes d b BoardHome = refl
same_homes d b (QueueHome queue) = ap noted_in (sym (same_queue d b queue))
same_homes d b ClockHome = refl
same_homes d b (CallerHome caller) = sym (noted_made (record { 0 = caller }) (list_in (numbered caller b.own)))

-- ---- homes at which a worker noted nothing

-- the domain noted nothing at the clock
off_clock : (setup : Setup) (clients : ℕ) (e : Event) → MayNote clients 0 e → at_home setup clients ClockHome e ≡ false
off_clock setup clients e (inl its) = let some = its.0 in absurd (omega (arith, some))
off_clock setup clients (Advertise a) (inr domain) = refl
off_clock setup clients (Withdraw w) (inr domain) = refl
off_clock setup clients (Sweep x) (inr domain) = refl
off_clock setup clients (Down queue) (inr domain) = refl
off_clock setup clients (Close queue) (inr domain) = refl
off_clock setup clients _ (inr domain) = absurd domain

-- nor at the home of a caller
off_callers : (setup : Setup) (clients caller : ℕ) (e : Event) → MayNote clients 0 e → at_home setup clients (CallerHome caller) e ≡ false
off_callers setup clients caller e (inl its) = let some = its.0 in absurd (omega (arith, some))
off_callers setup clients caller (Advertise a) (inr domain) = refl
off_callers setup clients caller (Withdraw w) (inr domain) = refl
off_callers setup clients caller (Sweep x) (inr domain) = refl
off_callers setup clients caller (Down queue) (inr domain) = refl
off_callers setup clients caller (Close queue) (inr domain) = refl
off_callers setup clients caller _ (inr domain) = absurd domain

off_queue : (n queue : ℕ) (home : Home) → IsAmong n home → (queue ≡ 0) ⊎ (n < queue) → same_home home (QueueHome queue) ≡ false
off_queue n queue home among out = elim (cases_Bool (same_home home (QueueHome queue))) [
  | inl y ↦
      let its : IsAmong n (QueueHome queue) = subst (IsAmong n) (same_home-is home (QueueHome queue) y) among in
      let some = its.0 in
      let low = its.1 in
      absurd (elim out [ inl none ↦ omega (arith, some, none) | inr past ↦ omega (arith, low, past) ])
  | inr off ↦ off
]

-- ---- at all homes, by what is known at the locks and at the own home

module _ (d : Domain) (b : Back) (worker : ℕ) (own : List Stamped) where
  record Locks : Type 0 where
    pub board : noted_in (entries_by maker_of worker (made_in b.board.notes)) ≡ filter (stands_at d.setup d.clients BoardHome) own
    pub queues : (queue : ℕ) → noted_in (entries_by maker_of worker ((whole_of d b).queues queue).queue.entries) ≡ filter (stands_at d.setup d.clients (QueueHome queue)) own
    pub clock : noted_in (entries_by maker_of worker (moves_in b.clock.entries)) ≡ filter (stands_at d.setup d.clients ClockHome) own
    pub home : list_in (numbered worker b.own) ≡ filter (stands_at d.setup d.clients (CallerHome worker)) own

  all_theirs : IsWorkOf d.setup d.clients worker own → Locks → (home : Home) → noted_in (entries_by maker_of worker (kept_of b home)) ≡ filter (stands_at d.setup d.clients home) own
  all_theirs work locks BoardHome = locks.board
  all_theirs work locks (QueueHome queue) = ap (λ (l : List Made). noted_in (entries_by maker_of worker l)) (same_queue d b queue) ∙ locks.queues queue
  all_theirs work locks ClockHome = locks.clock
  all_theirs work locks (CallerHome caller) =
      own_theirs d.setup d.clients (record { 0 = caller }) worker (list_in (numbered caller b.own)) own work.may
      (λ same. subst (λ (c : ℕ). list_in (numbered c b.own) ≡ filter (stands_at d.setup d.clients (CallerHome c)) own) same locks.home)

  -- a page of a home has what the worker noted there
  by_page : (page : Page Made) (entries : List Made) (home : Home) → page.maker ≡ worker → Knows maker_of page entries → noted_in page.own ≡ filter (stands_at d.setup d.clients home) own → noted_in (entries_by maker_of worker entries) ≡ filter (stands_at d.setup d.clients home) own
  by_page page entries home maker knows is = ap (λ (n : ℕ). noted_in (entries_by maker_of n entries)) (sym maker) ∙ ap noted_in knows.0 ∙ is

-- the domain itself
domain_home : (d : Domain) (b : Back) (domain : WorkState) → IsDomainOf d b domain → list_in (numbered 0 b.own) ≡ filter (stands_at d.setup d.clients (CallerHome 0)) domain.own
domain_home d b domain is =
    let at : Stamped → Bool = stands_at d.setup d.clients (CallerHome 0) in
    sym (filter-none at domain.own (All-weaker (λ (x : Stamped). MayNote d.clients 0 x.event) (λ (x : Stamped). at x ≡ false) (λ x may. off_callers d.setup d.clients 0 x.event may) domain.own is.work.may))

domain_clock : (d : Domain) (b : Back) (domain : WorkState) → IsDomainOf d b domain → noted_in (entries_by maker_of 0 (moves_in b.clock.entries)) ≡ filter (stands_at d.setup d.clients ClockHome) domain.own
domain_clock d b domain is =
    let at : Stamped → Bool = stands_at d.setup d.clients ClockHome in
    ap noted_in is.at_clock ∙ sym (filter-none at domain.own (All-weaker (λ (x : Stamped). MayNote d.clients 0 x.event) (λ (x : Stamped). at x ≡ false) (λ x may. off_clock d.setup d.clients x.event may) domain.own is.work.may))

pub domain_left : (d : Domain) (b : Back) (domain : WorkState) → IsDomainOf d b domain → Left d b 0 domain.own
domain_left d b domain is = record {
  work = is.work;
  made = is.made;
  grounded = subst (All (IsGrounded domain.own)) (sym is.knows_board.0 ∙ ap (λ (n : ℕ). entries_by change_maker n b.board.notes) is.boards) is.grounded;
  theirs = all_theirs d b 0 domain.own is.work (record {
    board = by_page d b 0 domain.own (changes_page is.board) (made_in b.board.notes) BoardHome is.boards (knows_changes is.board b.board is.knows_board) is.at_board;
    queues = λ queue. by_page d b 0 domain.own (made_page (is.page queue)) ((whole_of d b).queues queue).queue.entries (QueueHome queue) (is.pages queue) (knows_events (is.page queue) ((whole_of d b).queues queue) (is.knows queue)) (is.at_queue queue);
    clock = domain_clock d b domain is;
    home = domain_home d b domain is;
  });
  home = domain_home d b domain is;
}

both_there : {E : Type 0} (P Q : LockPass E → Type 0) (R : Type 0) (o : Option (LockPass E)) → IsThere P o → IsThere Q o → ((pass : LockPass E) → P pass → Q pass → R) → R
both_there P Q R None p q f = absurd p
both_there P Q R (Some pass) p q f = f pass p q

-- a caller by its desk, where the locks gave as many queues back as the domain has
module _ (d : Domain) (b : Back) (count : length b.queues ≡ length d.queues.items) where
  nothing_there : (queue : ℕ) → (queue ≡ 0) ⊎ (length d.queues.items < queue) → ((whole_of d b).queues queue).queue.entries ≡ []
  nothing_there zero out = refl
  nothing_there (suc k) (inl none) = absurd (omega (arith, none))
  nothing_there (suc k) (inr past) = ap (λ (o : Option (Kept Filling)). (kept_or (no_queue d (suc k)) o).queue.entries) (slice_get_past b.queues k (omega (arith, past, count)))

  module _ (desk : Desk) (left : HasLeft d b desk) where
    abbrev its_own : List Stamped
    its_own = desk.caller.work.own

    abbrev number : ℕ
    number = desk.caller.work.id.0

    its_work : IsWorkOf d.setup d.clients number its_own
    its_work = subst (λ (n : ℕ). IsWorkOf d.setup n number its_own) left.is.clients (subst (λ (s : Setup). IsWorkOf s desk.caller.work.clients number its_own) left.is.setup left.sound)

    abbrev Theirs : ℕ → Type 0
    Theirs queue = noted_in (entries_by maker_of number ((whole_of d b).queues queue).queue.entries) ≡ filter (stands_at d.setup d.clients (QueueHome queue)) its_own

    nowhere : (queue : ℕ) → (queue ≡ 0) ⊎ (length d.queues.items < queue) → Theirs queue
    nowhere queue out =
        let at : Stamped → Bool = stands_at d.setup d.clients (QueueHome queue) in
        ap (λ (l : List Made). noted_in (entries_by maker_of number l)) (nothing_there queue out)
        ∙ sym (filter-none at its_own (All-weaker (λ (x : Stamped). IsAmong (length d.queues.items) (home_of d.setup d.clients x.event)) (λ (x : Stamped). at x ≡ false)
        (λ x among. off_queue (length d.queues.items) queue (home_of d.setup d.clients x.event) among out) its_own left.is.among))

    there : (k : ℕ) → k < length d.queues.items → Theirs (k + 1)
    there k low =
        let kept : Kept Filling = (whole_of d b).queues (k + 1) in
        both_there (λ pass. Knows note_maker (page_of pass) (notes_of kept)) (IsQueuePass d desk.caller.work k) (Theirs (k + 1)) (slice_index_or desk.queues.items k None) (left.queues k low) (left.is.queues k low)
        (λ pass knows is. by_page d b number its_own (made_page (page_of pass)) kept.queue.entries (QueueHome (k + 1)) is.maker (knows_events (page_of pass) kept knows) is.own)

    at_queues : (queue : ℕ) → Theirs queue
    at_queues zero = nowhere zero (inl refl)
    at_queues (suc k) = elim (cases_lt k (length d.queues.items)) [
      | inl low ↦ let next : k + 1 ≡ suc k = omega arith in subst Theirs next (there k low)
      | inr past ↦ nowhere (suc k) (inr (omega (arith, past)))
    ]

    at_board : noted_in (entries_by maker_of number (made_in b.board.notes)) ≡ filter (stands_at d.setup d.clients BoardHome) its_own
    at_board =
        both_there (λ pass. Knows change_maker (page_of pass) b.board.notes) (IsBoardPass d desk.caller.work) (noted_in (entries_by maker_of number (made_in b.board.notes)) ≡ filter (stands_at d.setup d.clients BoardHome) its_own) desk.board left.board left.is.board
        (λ pass knows is. by_page d b number its_own (changes_page (page_of pass)) (made_in b.board.notes) BoardHome is.maker (knows_changes (page_of pass) b.board knows) is.own)

    at_clock : noted_in (entries_by maker_of number (moves_in b.clock.entries)) ≡ filter (stands_at d.setup d.clients ClockHome) its_own
    at_clock =
        both_there (λ pass. Knows maker_of (page_of pass) (moves_in b.clock.entries)) (IsClockPass d desk.caller.work) (noted_in (entries_by maker_of number (moves_in b.clock.entries)) ≡ filter (stands_at d.setup d.clients ClockHome) its_own) desk.clock left.clock left.is.clock
        (λ pass knows is. by_page d b number its_own (page_of pass) (moves_in b.clock.entries) ClockHome is.maker knows is.own)

    its_grounded : All (IsGrounded its_own) (entries_by change_maker number b.board.notes)
    its_grounded =
        both_there (λ pass. Knows change_maker (page_of pass) b.board.notes) (IsBoardPass d desk.caller.work) (All (IsGrounded its_own) (entries_by change_maker number b.board.notes)) desk.board left.board left.is.board
        (λ pass knows is. subst (All (IsGrounded its_own)) (sym knows.0 ∙ ap (λ (n : ℕ). entries_by change_maker n b.board.notes) is.maker) is.grounded)

    pub desk_left : Left d b number its_own
    desk_left = record {
      work = its_work;
      made = left.is.made;
      grounded = its_grounded;
      theirs = all_theirs d b number its_own its_work (record { board = at_board; queues = at_queues; clock = at_clock; home = left.home });
      home = left.home;
    }

-- ---- of each worker

module _ (d : Domain) (b : Back) (domain : WorkState) (desks : List Desk) (all : AllLeft d b domain desks) where
  pub queues_count : length b.queues ≡ length d.queues.items
  queues_count = all.queues ∙ sym all.is.queues

  pub each_worker : (P : ℕ → List Stamped → Type 0) → P 0 domain.own → ((worker : ℕ) (desk : Desk) → numbered worker desks ≡ Some desk → P worker desk.caller.work.own) → (worker : ℕ) → worker < workers_of d.setup d.clients → P worker (noted_of domain desks worker)
  each_worker P itself by_desk zero low = itself
  each_worker P itself by_desk (suc k) low =
      let one = one_there desks k (let count = all.count in omega (arith, low, count)) in
      subst (λ (o : Option Desk). P (suc k) (list_in (option_map (λ (desk : Desk). desk.caller.work.own) o))) (sym one.1) (by_desk (suc k) one.0 one.1)

  pub has_left : (worker : ℕ) (desk : Desk) → numbered worker desks ≡ Some desk → HasLeft d b desk
  has_left worker desk there = all_numbered (HasLeft d b) worker desks desk all.left there

  pub each_left : (worker : ℕ) → worker < workers_of d.setup d.clients → Left d b worker (noted_of domain desks worker)
  each_left = each_worker (Left d b) (domain_left d b domain all.itself)
      (λ worker desk there. subst (λ (n : ℕ). Left d b n desk.caller.work.own) (all.ids worker desk there) (desk_left d b queues_count desk (has_left worker desk there)))
