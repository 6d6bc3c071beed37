-- Each stamp of a worker is one more than that of an event, also where the worker had it from a look at the board.
use Rattle.std.proofs.Common.{◌≡◌, ◌⊎◌, ℕ, ◌<◌, List, [], ◌∷◌, inl, inr, refl, sym, ◌∙◌, ap, subst}
use Rattle.std.specs.List.{All, Contains}
use Rattle.std.proofs.lemmas.List.Elements.{All-nil, All-cons, All-head, All-tail, All-weaker, All-contains, All-contains_itself}
use Rattle.xa_client_worker.specs.xa_types.declared.stamp.Stamp.{Stamp}
use Rattle.xa_client_worker.specs.xa_events.Homes.{Home, home_of}
use Rattle.xa_client_worker.specs.xa_events.Homes.Home.{BoardHome}
use Rattle.xa_client_worker.specs.xa_stamp.declared.home.Stamped.{Stamped}
use Rattle.xa_client_worker.specs.xa_lock.Makers.{noted_in}
use Rattle.xa_client_worker.specs.xa_lock.Pages.{entries_by}
use Rattle.xa_client_worker.specs.xa_worker.Crew.{IsNextStamp}
use Rattle.xa_client_worker.specs.xa_worker.Ending.{workers_of}
use Rattle.xa_client_worker.proofs.xa_worker.Before.{All-on}
use Rattle.xa_client_worker.specs.xa_held.declared.kept_board.BoardNote.{BoardNote}
use Rattle.xa_client_worker.specs.xa_held.declared.kept_board.BoardNote.TheVariants.{Opened, By, Looked}
use Rattle.xa_client_worker.specs.xa_held.Board.{Climbs, maker_of as change_maker}
use Rattle.xa_client_worker.specs.xa_held.Joins.{changes_at}
use Rattle.xa_client_worker.specs.xa_worker.Work.{WorkState}
use Rattle.xa_client_worker.specs.xa_server.Told.{HasStamp}
use Rattle.xa_client_worker.specs.xa_desk.declared.domain.Domain.{Domain}
use Rattle.xa_client_worker.specs.xa_desk.declared.desk.Desk.{Desk}
use Rattle.xa_client_worker.specs.xa_desk.Whole.{IsKnown}
use Rattle.xa_client_worker.specs.xa_desk.Desks.{IsGrounded}
use Rattle.xa_history.specs.Joined.{Back, whole_of, kept_of, noted_of, AllLeft}
use Rattle.xa_history.proofs.Listed.{all_makers}
use Rattle.xa_history.proofs.Left.{same_homes, each_left}
use Rattle.xa_history.proofs.Standing.{stands}
use Rattle.xa_history.proofs.Crew.{each_shown}

module _ (entries : Home → List Stamped) where
  -- 0, or the stamp of an event
  abbrev pub IsOfEvent : ℕ → Type 0
  IsOfEvent n = (n ≡ 0) ⊎ ((home : Home) × (x : Stamped) × Contains (entries home) x × (x.stamp.0 ≡ n))

  -- a look left the last stamp, or has that of an event
  abbrev pub IsGround : BoardNote → Type 0
  IsGround (Looked look) = (look.stamp.0 ≡ look.before.0) ⊎ IsOfEvent look.stamp.0
  IsGround its = Unit {0}

  abbrev pub IsOfEventIn : BoardNote → Type 0
  IsOfEventIn (Looked look) = IsOfEvent look.stamp.0
  IsOfEventIn its = Unit {0}

  pub event_stamp : (home : Home) (stamp : Stamp) → HasStamp (entries home) stamp → IsOfEvent stamp.0
  event_stamp home stamp has = inr (home, has.0, has.1, ap (λ (s : Stamp). s.0) has.2)

  pub ground : (own : List Stamped) → ((x : Stamped) → Contains own x → (home : Home) × Contains (entries home) x) → (its : BoardNote) → IsGrounded own its → IsGround its
  ground own stand (Looked look) is = elim is [
    | inl same ↦ inl same
    | inr has ↦ let there = stand has.0 has.1 in inr (event_stamp there.0 look.stamp (has.0, there.1, has.2))
  ]
  ground own stand _ is = tt

  pub looks_known : (least : ℕ) (notes : List BoardNote) → IsOfEvent least → Climbs least notes → All IsGround notes → All (Contains (entries BoardHome)) (changes_at notes) → All IsOfEventIn notes
  looks_known least [] before climbs grounds there = All-nil IsOfEventIn
  looks_known least (Opened setup ∷ notes) before climbs grounds there = All-cons IsOfEventIn (Opened setup) notes tt (looks_known least notes before climbs (All-tail IsGround (Opened setup) notes grounds) there)
  looks_known least (By made ∷ notes) before climbs grounds there =
      let here : IsOfEvent made.noted.stamp.0 = inr (BoardHome, made.noted, All-head (Contains (entries BoardHome)) made.noted (changes_at notes) there, refl) in
      All-cons IsOfEventIn (By made) notes tt (looks_known made.noted.stamp.0 notes here climbs.1 (All-tail IsGround (By made) notes grounds) (All-tail (Contains (entries BoardHome)) made.noted (changes_at notes) there))
  looks_known least (Looked look ∷ notes) before climbs grounds there =
      let here : IsOfEvent look.stamp.0 = elim (All-head IsGround (Looked look) notes grounds) [
        | inl same ↦ subst IsOfEvent (sym (same ∙ climbs.2)) before
        | inr its ↦ its
      ] in
      All-cons IsOfEventIn (Looked look) notes here (looks_known look.stamp.0 notes here climbs.1 (All-tail IsGround (Looked look) notes grounds) there)

module _ (d : Domain) (b : Back) (domain : WorkState) (desks : List Desk) (all : AllLeft d b domain desks) where
  abbrev held : Home → List Stamped
  held home = noted_in (kept_of b home)

  its_grounds : (worker : ℕ) → worker < workers_of d.setup d.clients → All (IsGround held) (entries_by change_maker worker b.board.notes)
  its_grounds worker low =
      let left = each_left d b domain desks all worker low in
      let own = noted_of domain desks worker in
      All-weaker (IsGrounded own) (IsGround held) (ground held own (λ x here. (home_of d.setup d.clients x.event, stands d b worker own left x here))) (entries_by change_maker worker b.board.notes) left.grounded

  grounds : All (IsGround held) b.board.notes
  grounds = all_makers (IsGround held) change_maker (workers_of d.setup d.clients) b.board.notes its_grounds all.makers

  looks : All (IsOfEventIn held) b.board.notes
  looks = looks_known held b.board.board.first.0 b.board.notes (inl all.board.begins) all.board.climbs grounds (All-contains_itself (changes_at b.board.notes))

  pub known_stamp : (stamp : Stamp) → IsKnown (whole_of d b) stamp → IsOfEvent held stamp.0
  known_stamp stamp (inl none) = inl none
  known_stamp stamp (inr (inl at)) = event_stamp held at.0 stamp (subst (λ (l : List Stamped). HasStamp l stamp) (same_homes d b at.0) at.1)
  known_stamp stamp (inr (inr look)) = subst (IsOfEvent held) (ap (λ (s : Stamp). s.0) look.2) (All-contains (IsOfEventIn held) b.board.notes (Looked look.0) looks look.1)

  pub stamps_next : (worker : ℕ) → worker < workers_of d.setup d.clients → All (λ (x : Stamped). IsNextStamp held x.stamp) (noted_of domain desks worker)
  stamps_next worker low =
      All-on (λ (x : Stamped). IsNextStamp held x.stamp) [] (noted_of domain desks worker)
      (λ before after x at. let shown = each_shown d b domain desks all worker low before after x at in record { before = shown.before.0; next = shown.next; known = known_stamp shown.before shown.known_before })
