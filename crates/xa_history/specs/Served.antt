-- What a run of a domain comes to: where its events are recorded, and what they, its lives and its starters say (this project's own).
use Rattle.std.specs.Prelude.{◌≡◌, ◌⊎◌, ℕ, ◌+◌, ◌<◌, ◌≤◌, ◌^◌, ◌==◌, ◌&&◌, if◌then◌else◌, Bool, List, [], ◌∷◌, ◌++◌, length, map, reverse, Option, Some, None}
use Rattle.std.specs.List.{All, Contains, flat_map}
use Rattle.xa_client_worker.specs.xa_types.declared.ids.Generation.{Generation}
use Rattle.xa_client_worker.specs.xa_types.declared.setup.ServerSetup.{ServerSetup}
use Rattle.xa_client_worker.specs.xa_types.declared.setup.Setup.{Setup}
use Rattle.xa_client_worker.specs.xa_types.Setup.{numbered}
use Rattle.xa_client_worker.specs.xa_events.declared.event.Event.{Event}
use Rattle.xa_client_worker.specs.xa_events.declared.event.Event.TheVariants.{Take}
use Rattle.xa_client_worker.specs.xa_events.Calls.{MadeCalls}
use Rattle.xa_client_worker.specs.xa_events.Homes.{Home, home_of, of_worker, all_homes}
use Rattle.xa_client_worker.specs.xa_events.Laws.{LawOfEnds, LawOfAnswers, LawOfVersions, LawOfServers}
use Rattle.xa_client_worker.specs.xa_events.Order.{TakesInOrder}
use Rattle.xa_client_worker.specs.xa_events.Run.{Run, IsFinal}
use Rattle.xa_client_worker.specs.xa_events.Request.{sent_as}
use Rattle.xa_client_worker.specs.xa_events.Server.{starts}
use Rattle.xa_client_worker.specs.xa_events.State.{opening, caller_of}
use Rattle.xa_client_worker.specs.xa_events.Words.{EachNumbered, count, from_each}
use Rattle.xa_client_worker.specs.xa_stamp.declared.home.Stamped.{Stamped}
use Rattle.xa_client_worker.specs.xa_stamp.Home.{Notes, Rises}
use Rattle.xa_client_worker.specs.xa_stamp.Merge.{stamps_of}
use Rattle.xa_client_worker.specs.xa_worker.Ending.{AreAll, list_in}
use Rattle.xa_client_worker.specs.xa_ticks.Clock.{made_in as moves_in}
use Rattle.xa_client_worker.specs.xa_held.Board.{made_in}
use Rattle.xa_client_worker.specs.xa_held.Kept.{Kept}
use Rattle.xa_client_worker.specs.xa_worker.declared.work.Halt.{Halt}
use Rattle.xa_client_worker.specs.xa_worker.declared.work.Halt.TheVariants.{NoMemory, Worn}
use Rattle.xa_client_worker.specs.xa_caller.declared.cargo.Filling.{Filling}
use Rattle.xa_script.specs.declared.script.Client.{Client}
use Rattle.xa_client_worker.specs.xa_frame.declared.frame.Frame.{Frame}
use Rattle.xa_client_worker.specs.xa_pipe.Frames.{is_of_life, invocation, invoke_with}
use Rattle.xa_client_worker.specs.xa_pipe.Standing.{LifeState, Ending, IsLife, invokes_of}
use Rattle.xa_client_worker.specs.xa_server.Served.{StarterShows}
use Rattle.xa_client_worker.specs.xa_desk.declared.domain.Domain.{Domain}
use Rattle.xa_client_worker.specs.xa_desk.Made.{IsMade}
use Rattle.xa_server_worker.specs.Lives.{calls_of_all, lives_in, failed_starts, HasStarted, HasStartedSoFar, IsCut}
use Rattle.xa_history.specs.Joined.{Back}
use Rattle.xa_history.specs.Told.{AreTold}

-- ---- the homes

-- these are all homes that a domain leaves, in their order
abbrev pub HoldAll : Domain → Back → List Notes → Type 0
HoldAll d b homes = AreAll d.setup d.clients (made_in b.board.notes) (moves_in b.clock.entries) (map (λ (kept : Kept Filling). kept.queue.entries) b.queues) b.own homes

-- only events of that home stand there, and each has a greater stamp than the one before it
pub record IsOwn (setup : Setup) (clients : ℕ) (home : Home) (notes : Notes) : Type 0 where
  pub own : All (λ (noted : Stamped). home_of setup clients noted.event ≡ home) notes.entries
  pub rises : Rises (record { 0 = 0 }) notes.entries

-- there is one for each of these homes, in their order
abbrev pub EachOwn : Setup → ℕ → List Home → List Notes → Type 0
EachOwn setup clients [] [] = Unit {0}
EachOwn setup clients (home ∷ homes) (notes ∷ all) = IsOwn setup clients home notes × EachOwn setup clients homes all
EachOwn setup clients homes all = ⊥

-- the event is that worker's, and has that stamp
abbrev pub is_made_at : ℕ → ℕ → ℕ → Stamped → Bool
is_made_at clients worker stamp noted = of_worker clients worker noted.event && (noted.stamp.0 == stamp)

-- each event stands at its own home, stamps rise along each home, and no two events of a client or a server have the same stamp: so they rise along each of
-- these, in the order of the merge. The domain's own events, which servers may note too, rise along each home. Each answer tells what befell its request,
-- behind the end of a life that ended with that
pub record IsRecorded (setup : Setup) (clients : ℕ) (homes : List Notes) : Type 0 where
  pub each : EachOwn setup clients (all_homes setup clients) homes
  pub workers : (worker stamp : ℕ) → 0 < worker → count (is_made_at clients worker stamp) (flat_map (λ (notes : Notes). notes.entries) homes) ≤ 1
  pub told : AreTold setup clients homes

-- stamps came to their end, where that is why the run halted: an event has the last one
abbrev pub IsWorn : Halt → List Notes → Type 0
IsWorn NoMemory homes = Unit {0}
IsWorn (Worn stamp) homes = (stamp.0 ≡ 2 ^ 63) × Contains (stamps_of homes) stamp.0

-- ---- the machine

-- each of these clients, of so many, made exactly its calls; the first has that number
abbrev pub EachMadeCalls : Setup → ℕ → ℕ → List Client → List Event → Type 0
EachMadeCalls setup count number clients past = EachNumbered (λ k (client : Client). MadeCalls setup count k client.ops past) number clients

-- laws of every run, by counts alone: each request is accepted once, taken once for each time that it was sent, and settled once; each answer is the only
-- one of its request, and what befell that; what a caller reads of the board never gets older; and a server that was shut down or given up is off
pub record IsLawful (clients : ℕ) (past : List Event) : Type 0 where
  pub ends_once : LawOfEnds past
  pub answers_once : LawOfAnswers past
  pub reads_forward : LawOfVersions clients past
  pub ended_servers_are_off : LawOfServers past

-- the events are one history of the machine, from its opening to its end, and lawful: each queue was taken in order, each client made exactly its
-- calls, and the domain made no other kind of event than its own; past is the same events, the newest first
pub record IsHistoryAt (setup : Setup) (clients : List Client) (history past : List Event) : Type 0 where
  pub run : Run (opening setup (length clients)) history (record { setup = setup; clients = length clients; past = past })
  pub final : IsFinal (record { setup = setup; clients = length clients; past = past })
  pub lawful : IsLawful (length clients) past
  pub ordered : TakesInOrder setup past
  pub calls : EachMadeCalls setup (length clients) 1 clients past
  pub made : All IsMade past

abbrev pub IsHistory : Setup → List Client → List Event → Type 0
IsHistory setup clients history = IsHistoryAt setup clients history (reverse history)

-- ---- the pipes; lives and starters stand by server

-- the name of a server, if there is one
abbrev pub server_name_in : Option ServerSetup → List ℕ
server_name_in None = []
server_name_in (Some server) = server.name

abbrev pub name_of : Setup → ℕ → List ℕ
name_of setup server = server_name_in (numbered server setup.servers)

-- the life is one of that server, which has the name that is configured, and what it and its link show is what the events say of it
abbrev pub IsLifeOf : Setup → ℕ → List Event → ℕ → Ending → Type 0
IsLifeOf setup clients past server over = (over.life.server.0 ≡ server) × (over.life.name ≡ name_of setup server) × IsLife setup clients past over

abbrev pub generations_of : List Ending → List Generation
generations_of lives = map (λ (over : Ending). over.life.generation) lives

abbrev pub lives_of : List Ending → List LifeState
lives_of lives = map (λ (over : Ending). over.life) lives

-- the INVOKEs of a life, the oldest first: one for each request that its server took, with what the request was sent for last
abbrev pub invoke_at : ℕ → ℕ → Event → List Event → List Frame
invoke_at server g (Take t) before = if is_of_life server g t.server.0 t.generation.0 then invoke_with (invocation server g (Take t ∷ before)) (sent_as t.request before) else []
invoke_at server g e before = []

abbrev pub invokes_in : ℕ → ℕ → List Event → List Frame
invokes_in server g past = from_each (invoke_at server g) past

-- just these were due to the life's program
abbrev pub IsAsked : ℕ → List Event → LifeState → Type 0
IsAsked server past life = invokes_of life ≡ invokes_in server life.generation.0 past

-- there is a list for each server, and its lives are the server's starts that succeeded; in each of them the INVOKEs of its requests were due
pub record AreLives (setup : Setup) (past : List Event) (lives : List (List Ending)) : Type 0 where
  pub all : length lives ≡ length setup.servers
  pub each : EachNumbered (λ server its. generations_of its ≡ lives_in server past) 1 lives
  pub asked : EachNumbered (λ server its. All (IsAsked server past) (lives_of its)) 1 lives

-- the starter is that of the server with that number, and shows what starts its worker made
pub record IsStarterOf (setup : Setup) (server : ℕ) (shown : StarterShows) (past : List Event) : Type 0 where
  pub its : shown.name ≡ name_of setup server
  pub started : HasStarted (name_of setup server) (length (starts server past)) (failed_starts server past) shown

-- what went through the pipes is the history's: each server has its starter, which was asked for the server's starts, the lives are the
-- starts that succeeded, each link's octets are those of its events, and each server made exactly the calls that the programs of its lives asked for
pub record IsCarried {S : Type 0} (shows : S → StarterShows) (setup : Setup) (clients : ℕ) (past : List Event) (lives : List (List Ending)) (starters : List S) : Type 0 where
  pub all : length starters ≡ length setup.servers
  pub lives_are : AreLives setup past lives
  pub pipes : EachNumbered (λ server its. All (IsLifeOf setup clients past server) its) 1 lives
  pub calls : EachNumbered (λ server its. MadeCalls setup clients (caller_of clients server) (calls_of_all its) past) 1 lives
  pub each : EachNumbered (λ server starter. IsStarterOf setup server (shows starter) past) 1 starters

-- ---- how a run ends

-- the merged events are the whole history, and the pipes are its
pub record IsServedWhole {S : Type 0} (shows : S → StarterShows) (setup : Setup) (clients : List Client) (events : List Event) (lives : List (List Ending)) (starters : List S) : Type 0 where
  pub machine : IsHistory setup clients events
  pub carried : IsCarried shows setup (length clients) (reverse events) lives starters

-- a server's starts that succeeded are its lives that ended, and then that which went on at the halt and was cut; in each of them the INVOKEs of its
-- requests were due, and the link of the one that was cut took the octets of those
pub record AreLivesOf (setup : Setup) (past : List Event) (server : ℕ) (lives : List Ending) (cut : List LifeState) : Type 0 where
  pub are : generations_of lives ++ map (λ (life : LifeState). life.generation) cut ≡ lives_in server past
  pub asked : All (IsAsked server past) (lives_of lives ++ cut)
  pub cut_off : All (IsCut (name_of setup server) server past) cut

-- so it is with each server; where one has no list it was not started
pub record AreLivesSoFar (setup : Setup) (past : List Event) (lives : List (List Ending)) (cut : List (List LifeState)) : Type 0 where
  pub lives_count : length lives ≤ length setup.servers
  pub cut_count : length cut ≤ length setup.servers
  pub each : (server : ℕ) → 0 < server → server < length setup.servers + 1 → AreLivesOf setup past server (list_in (numbered server lives)) (list_in (numbered server cut))

-- the starter is that of the server with that number, and was asked for its starts, and for one more at most, whose event isn't noted
pub record IsStarterSoFar (setup : Setup) (server : ℕ) (shown : StarterShows) (past : List Event) : Type 0 where
  pub its : shown.name ≡ name_of setup server
  pub started : HasStartedSoFar (name_of setup server) (length (starts server past)) (failed_starts server past) shown

-- each server has its starter; where memory ran out before there was any, there is none
abbrev pub HasStarters : {S : Type 0} → Halt → Setup → List S → Type 0
HasStarters NoMemory setup starters = (length starters ≡ length setup.servers) ⊎ (starters ≡ [])
HasStarters (Worn stamp) setup starters = length starters ≡ length setup.servers

-- the merged events are the first of a run, and lawful, and the lives and the starters' starts are those of these events; of the clients only their number counts, and of
-- what the links of lives that ended show nothing is said
pub record IsServedSoFar {S : Type 0} (shows : S → StarterShows) (halt : Halt) (setup : Setup) (clients : ℕ) (events : List Event) (lives : List (List Ending)) (cut : List (List LifeState)) (starters : List S) : Type 0 where
  pub run : Run (opening setup clients) events (record { setup = setup; clients = clients; past = reverse events })
  pub lawful : IsLawful clients (reverse events)
  pub made : All IsMade (reverse events)
  pub all : HasStarters halt setup starters
  pub lives_are : AreLivesSoFar setup (reverse events) lives cut
  pub each : EachNumbered (λ server starter. IsStarterSoFar setup server (shows starter) (reverse events)) 1 starters
