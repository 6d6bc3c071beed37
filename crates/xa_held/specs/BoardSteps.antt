-- What a call of the board under a lock answers, by how the board changes: at the board itself, or for a worker's pass (this project's own).
use Rattle.std.specs.Prelude.{◌≡◌, ◌⊎◌, ℕ, ◌+◌, ◌≤◌, ◌^◌, Bool, List, [], ◌∷◌, ◌++◌, Option, Some, None, Result, Ok, Err, slice_get}
use Rattle.xa_types.specs.declared.ids.CallerId.{CallerId}
use Rattle.xa_types.specs.declared.ids.QueueId.{QueueId}
use Rattle.xa_types.specs.declared.row.Row.{Row}
use Rattle.xa_types.specs.declared.stamp.Stamp.{Stamp}
use Rattle.xa_types.specs.Found.{FoundRows}
use Rattle.xa_events.specs.declared.event.Event.{Event}
use Rattle.xa_events.specs.declared.event.Event.TheVariants.{Advertise, Withdraw}
use Rattle.xa_stamp.specs.declared.told.Noted.{Noted}
use Rattle.xa_board.specs.declared.board.Changed.{Changed}
use Rattle.xa_board.specs.declared.board.BoardRefused.{BoardRefused}
use Rattle.xa_board.specs.declared.board.BoardRefused.TheVariants.{NoMemory}
use Rattle.xa_board.specs.Board.{version_of}
use Rattle.xa_board.specs.Reader.{Finds}
use Rattle.xa_board.specs.Changes.{next_change, changed, without, rows_on, advertise_refused, withdraw_refused}
use Rattle.xa_held.specs.declared.kept_board.BoardNote.{BoardNote}
use Rattle.xa_held.specs.declared.kept_board.BoardNote.TheVariants.{By, Looked}
use Rattle.xa_held.specs.declared.kept_board.Look.{Look}
use Rattle.xa_held.specs.declared.kept_board.Clearing.{Clearing}
use Rattle.xa_held.specs.declared.kept_board.Clearing.TheVariants.{Withdrew, Clear}
use Rattle.xa_held.specs.Board.{Held, raised as raised_by}

-- the event that was told of
abbrev pub change : CallerId → Noted → List BoardNote
change maker noted = By (record { maker = maker; noted = record { stamp = noted.stamp; event = noted.event.value } }) ∷ []

-- the board has that event more, which is told with the next version and the next stamp, and these rows
pub record Makes (seen : Stamp) (version : ℕ) (noted : Noted) (event : Event) (rows : List Row) (old new : Held) : Type 0 where
  pub next : (version, noted.stamp) ≡ next_change (raised_by seen old) old.board
  pub event_is : noted.event.value ≡ event
  pub board : new.board ≡ changed old.board noted.stamp event rows
  pub last : new.last ≡ noted.stamp

-- that maker looked at the board, and had seen that stamp, behind which all later changes are
pub record IsLook (seen : Stamp) (maker : CallerId) (look : Look) (old : Held) : Type 0 where
  pub its : look.maker ≡ maker
  pub before : look.before ≡ old.last
  pub raised : look.stamp ≡ raised_by seen old
  pub bound : look.stamp.0 ≤ 2 ^ 63

-- the row is withdrawn, for that caller
abbrev pub withdrawal : CallerId → ℕ → List ℕ → QueueId → ℕ → Event
withdrawal by op service queue version = Withdraw (record { by = by; op = op; service = service; queue = queue; version = version })

module _ (Change : List BoardNote → (Held → Held → Type 0) → Type 0) where
  -- nothing is noted and nothing changes, for this reason or since memory ran out
  abbrev pub Refuses : (Held → Option BoardRefused) → BoardRefused → Type 0
  Refuses barred why = Change [] (λ old new. (new ≡ old) × ((barred old ≡ Some why) ⊎ (why ≡ NoMemory)))

  abbrev pub AdvertisedAs : Stamp → CallerId → CallerId → ℕ → Row → Result Changed BoardRefused → Type 0
  AdvertisedAs seen maker by op row (Ok done) = Change (change maker done.noted) (λ old new. (advertise_refused (raised_by seen old) row old.board ≡ None)
      × Makes seen done.version done.noted (Advertise (record { by = by; op = op; service = row.service; queue = row.queue; routine = row.routine; version = done.version })) (without row.service row.queue.0 old.board.rows ++ row ∷ []) old new)
  AdvertisedAs seen maker by op row (Err why) = Refuses (λ old. advertise_refused (raised_by seen old) row old.board) why

  abbrev pub WithdrewAs : Stamp → CallerId → CallerId → ℕ → List ℕ → QueueId → Result Changed BoardRefused → Type 0
  WithdrewAs seen maker by op service queue (Ok done) = Change (change maker done.noted) (λ old new. (withdraw_refused (raised_by seen old) service queue.0 old.board ≡ None)
      × Makes seen done.version done.noted (withdrawal by op service queue done.version) (without service queue.0 old.board.rows) old new)
  WithdrewAs seen maker by op service queue (Err why) = Refuses (λ old. withdraw_refused (raised_by seen old) service queue.0 old.board) why

  -- the domain withdraws the first row of the queue, or none stands
  abbrev pub ClearedAs : Stamp → CallerId → QueueId → Result Clearing BoardRefused → Type 0
  ClearedAs seen maker queue (Ok (Withdrew noted)) = Change (change maker noted) (λ old new. (row : Row) × (slice_get (rows_on queue.0 old.board.rows) 0 ≡ Some row)
      × Makes seen (version_of old.board + 1) noted (withdrawal (record { 0 = 0 }) 0 row.service queue (version_of old.board + 1)) (without row.service queue.0 old.board.rows) old new)
  ClearedAs seen maker queue (Ok (Clear look)) = Change (Looked look ∷ []) (λ old new. IsLook seen maker look old × (rows_on queue.0 old.board.rows ≡ []) × (new.board ≡ old.board) × (new.last ≡ look.stamp))
  ClearedAs seen maker queue (Err why) = Change [] (λ old new. (new ≡ old) × (row : Row) × (slice_get (rows_on queue.0 old.board.rows) 0 ≡ Some row) × ((withdraw_refused (raised_by seen old) row.service queue.0 old.board ≡ Some why) ⊎ (why ≡ NoMemory)))

  -- the service was looked up, which left that look, raised no stamp and changed nothing else
  abbrev pub LookedUpAs : CallerId → List ℕ → Bool → FoundRows → Look → Type 0
  LookedUpAs maker service conversational found look = Change (Looked look ∷ []) (λ old new. IsLook (record { 0 = 0 }) maker look old × (new.board ≡ old.board) × (new.last ≡ old.last) × Finds old.board service conversational found)
