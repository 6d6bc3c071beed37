-- What a run of `run`, `record` or `play` comes to (this project's own).
use Rattle.std.specs.Prelude.{◌≡◌, ◌⊎◌, ◌≤◌, ℕ, List, [], length, reverse, map, Option, Some, ⊤, Result, Ok, Err}
use Rattle.std.specs.declared.vec.Vec.{Vec}
use Rattle.std.specs.declared.alloc.Global.{Global}
use Rattle.xa_domain.specs.xa_types.declared.setup.Setup.{Setup}
use Rattle.xa_domain.specs.xa_link.Links.{SourceShows, SinkShows}
use Rattle.xa_domain.specs.xa_link.Told.{Rose, Grew, GrewByPart}
use Rattle.xa_domain.specs.xa_link.Reads.{Holds}
use Rattle.xa_domain.specs.xa_events.declared.event.Event.{Event}
use Rattle.xa_domain.specs.xa_stamp.Home.{Notes}
use Rattle.xa_domain.specs.xa_stamp.Merge.{IsMerged, IsDense}
use Rattle.xa_domain.specs.xa_script.declared.script.Client.{Client}
use Rattle.xa_domain.specs.xa_script.Script.{IsScript, IsFirstFault}
use Rattle.xa_config.specs.Document.{IsConfiguration}
use Rattle.xa_text.specs.Transcript.{transcript}
use Rattle.xa_audit.specs.Record.{IsRecord}
use Rattle.xa_audit.specs.Audit.{IsAudited, Answers}
use Rattle.xa_audit.specs.declared.judging.Verdict.{Verdict}
use Rattle.xa_audit.specs.declared.judging.Verdict.TheVariants as verdicts
use Rattle.xa_audit.specs.declared.auditing.AuditRefused.{AuditRefused}
use Rattle.xa_audit.specs.declared.auditing.AuditRefused.TheVariants as refusals
use Rattle.xa_domain.specs.xa_worker.declared.work.Halt.{Halt}
use Rattle.xa_domain.specs.xa_worker.declared.work.Halt.TheVariants as halts
use Rattle.xa_domain.specs.xa_pipe.Standing.{LifeState, Ending}
use Rattle.xa_domain.specs.xa_server.Served.{StarterShows}
use Rattle.xa_domain.specs.xa_history.Served.{IsRecorded, IsServedWhole, IsServedSoFar, IsWorn}
use Rattle.xa_domain.specs.Serving.{HasHomes, IsNoneCut}
use Rattle.xa_domain.specs.xa_server_worker.Working.{cut_in}
use Rattle.xa_program.specs.declared.outcome.Outcome.{Outcome}
use Rattle.xa_program.specs.declared.words.Command.{Command}
use Rattle.xa_program.specs.declared.words.Command.TheVariants.{Record, Audit, Play, Server}
use Rattle.xa_program.specs.declared.telling.Form.{Form}
use Rattle.xa_program.specs.declared.telling.Form.TheVariants as forms
use Rattle.xa_program.specs.declared.status.Status.{Status}
use Rattle.xa_program.specs.declared.status.Status.TheVariants.{Done, Usage, ConfigRead, ConfigFault, ScriptRead, TooLong, BadLine, WriteFault, NoMemory, Worn, BadRecord, NotARun}
use Rattle.xa_program.specs.declared.status.Input.TheVariants as inputs
use Rattle.xa_program.specs.Input.{InputTells, CameWhole, CameOver, input_by}
use Rattle.xa_program.specs.Configuration.{ShelfTells, IsSetup, LacksSetup, longest_configuration}

-- ---- what comes in and what goes out

-- how long a script may be, in octets
abbrev pub longest_script : ℕ
longest_script = 1_048_576

-- how many clients a script of the command may have
abbrev pub most_clients : Command → ℕ
most_clients (Play service) = 1
most_clients command = 64

-- what came from the input is a script for the setup with these clients, of whom there are so many at most, and not too long
abbrev pub IsTheScript : Setup → ℕ → InputTells → List Client → Type 0
IsTheScript setup most input clients = (octets : List ℕ) × CameWhole input octets × (length octets ≤ longest_script) × IsScript setup most octets (record { clients = clients })

-- what came from the input isn't too long, and its first line at fault for the setup, where so many clients may be, is that one with that least cause
abbrev pub HasFirstFault : Setup → ℕ → InputTells → ℕ → ℕ → Type 0
HasFirstFault setup most input line cause = (octets : List ℕ) × CameWhole input octets × (length octets ≤ longest_script) × IsFirstFault setup most octets line cause

-- what the input and the output show of a run: what the input tells of its octets, what the output took, and how often a read or a write
-- failed
pub record Streams : Type 0 where
  pub input : InputTells
  pub reads_before : ℕ
  pub reads_after : ℕ
  pub took_before : Option (List ℕ)
  pub took_after : Option (List ℕ)
  pub writes_before : ℕ
  pub writes_after : ℕ

-- what they show, by what each shows
abbrev pub streams_by : {I O : Type 0} → (I → SourceShows) → (O → SinkShows) → I → I → O → O → Streams
streams_by reads writes input input_after out out_after = record {
  input = input_by reads input input_after;
  reads_before = (reads input).faults;
  reads_after = (reads input_after).faults;
  took_before = (writes out).took;
  took_after = (writes out_after).took;
  writes_before = (writes out).faults;
  writes_after = (writes out_after).faults;
}

-- no failed read of the input was counted
abbrev pub ReadsWell : Streams → Type 0
ReadsWell streams = streams.reads_after ≡ streams.reads_before

-- no failed write to the output was counted
abbrev pub WritesWell : Streams → Type 0
WritesWell streams = streams.writes_after ≡ streams.writes_before

-- the output was left alone
pub record IsSilent (streams : Streams) : Type 0 where
  pub took : streams.took_after ≡ streams.took_before
  pub writes : WritesWell streams

-- the input was left alone
pub record IsUnread (streams : Streams) : Type 0 where
  pub left : streams.input.left_after ≡ streams.input.left
  pub gave : streams.input.gave_after ≡ streams.input.gave
  pub reads : ReadsWell streams

-- the input and the output were left alone
pub record IsIdle (streams : Streams) : Type 0 where
  pub left : streams.input.left_after ≡ streams.input.left
  pub gave : streams.input.gave_after ≡ streams.input.gave
  pub reads : ReadsWell streams
  pub silent : IsSilent streams

-- ---- what a run hands back

-- the homes, the history, and by server the lives that ended, the one that went on at a halt, and the starter
pub record Handed (S : Type 0) : Type 0 where
  pub homes : List Notes
  pub history : List Event
  pub lives : List (List Ending)
  pub cut : List (List LifeState)
  pub starters : List S

-- what the outcome hands back
abbrev pub handed_by : {Y L S : Type 0} → Outcome Y L S → Handed S
handed_by outcome = record {
  homes = outcome.homes.homes;
  history = outcome.history.items;
  lives = map (λ (v : Vec Ending Global). v.items) outcome.lives.items;
  cut = map cut_in outcome.cut.items;
  starters = outcome.starters.items;
}

-- nothing
pub record HandsNothing {S : Type 0} (handed : Handed S) : Type 0 where
  pub no_home : handed.homes ≡ []
  pub no_event : handed.history ≡ []
  pub no_life : handed.lives ≡ []
  pub none_cut : handed.cut ≡ []
  pub no_starter : handed.starters ≡ []

abbrev pub names_of : List Client → List (List ℕ)
names_of clients = map (λ client. client.name) clients

-- what came from the input, to its end, is the script of these clients; the history is the merge of the homes, each event of which stands at its own, with
-- dense stamps that rise, and is the whole run of the setup with these clients, and the pipes are its; no life was cut
pub record IsServedRun {S : Type 0} (shows : S → StarterShows) (streams : Streams) (setup : Setup) (most : ℕ) (clients : List Client) (handed : Handed S) : Type 0 where
  pub script : IsTheScript setup most streams.input clients
  pub reads : ReadsWell streams
  pub merged : IsMerged handed.homes handed.history
  pub recorded : IsRecorded setup (length clients) handed.homes
  pub dense : IsDense (record { 0 = 0 }) handed.homes
  pub whole : IsServedWhole shows setup clients handed.history handed.lives handed.starters
  pub none_cut : IsNoneCut handed.cut

-- what came from the input, to its end, is the script of these clients, and nothing was written; the merge of the homes, each event of which
-- stands at its own, with dense stamps that rise, is the beginning of a run of the setup with so many clients, and the lives and the starters' starts are those of these events; the history is that
-- merge, or there is none
pub record IsHaltedRun {S : Type 0} (shows : S → StarterShows) (streams : Streams) (halt : Halt) (setup : Setup) (most : ℕ) (clients : List Client) (handed : Handed S) : Type 0 where
  pub script : IsTheScript setup most streams.input clients
  pub reads : ReadsWell streams
  pub silent : IsSilent streams
  pub merged : (handed.history ≡ []) ⊎ IsMerged handed.homes handed.history
  pub recorded : HasHomes shows setup clients (Some halt) handed.homes handed.starters
  pub dense : IsDense (record { 0 = 0 }) handed.homes
  pub so_far : (events : List Event) → IsMerged handed.homes events → IsServedSoFar shows halt setup (length clients) events handed.lives handed.cut handed.starters

-- ---- what is written

-- what the command writes of a run: a transcript, or the record with the configuration that the file holds, which isn't too long, and says that setup
abbrev pub Writes : (List ℕ → Option (Option (List ℕ))) → Command → Setup → Form → Type 0
Writes file (Record name) setup (forms.Record config) = Holds (file name) config × (length config ≤ longest_configuration) × IsConfiguration config setup
Writes file (Record name) setup forms.Transcript = ⊥
Writes file command setup forms.Transcript = ⊤
Writes file command setup (forms.Record config) = ⊥

-- the octets are the record of that configuration, these clients and that history; its events come to a run, and what is answered of it is that, or
-- memory ran out
pub record IsRunRecord (config : List ℕ) (names : List (List ℕ)) (history : List Event) (octets : List ℕ) : Type 0 where
  pub spelled : IsRecord octets config names history
  pub audited : IsAudited octets (verdicts.Run (length history))
  pub answered : (answer : Result Verdict AuditRefused) → Answers octets answer → (answer ≡ Ok (verdicts.Run (length history))) ⊎ (answer ≡ Err refusals.NoMemory)

-- what is due of a history of these clients: the lines of its transcript, or its record
abbrev pub IsDue : Form → List Client → List Event → List ℕ → Type 0
IsDue forms.Transcript clients history octets = octets ≡ transcript (names_of clients) (reverse history)
IsDue (forms.Record config) clients history octets = IsRunRecord config (names_of clients) history octets

-- ---- how a run ends

-- how serving the script ends, and what that shows, where that is the setup, so many clients may be, and a history is written in that form
abbrev pub ScriptEnds : {S : Type 0} → (S → StarterShows) → Streams → Setup → ℕ → Form → Status → Handed S → Type 0
ScriptEnds shows streams setup most form Done handed =
    (clients : List Client) × IsServedRun shows streams setup most clients handed
    × ((octets : List ℕ) × IsDue form clients handed.history octets × Grew streams.took_before streams.took_after octets) × WritesWell streams
ScriptEnds shows streams setup most form WriteFault handed =
    (clients : List Client) × IsServedRun shows streams setup most clients handed
    × ((octets : List ℕ) × IsDue form clients handed.history octets × GrewByPart streams.took_before streams.took_after octets) × Rose streams.writes_before streams.writes_after
ScriptEnds shows streams setup most form ScriptRead handed = Rose streams.reads_before streams.reads_after × IsSilent streams
ScriptEnds shows streams setup most form (TooLong inputs.Script) handed = CameOver streams.input longest_script × ReadsWell streams × IsSilent streams
ScriptEnds shows streams setup most form (BadLine line cause) handed = HasFirstFault setup most streams.input line cause × ReadsWell streams × IsSilent streams
ScriptEnds shows streams setup most form (Worn stamp) handed = (clients : List Client) × IsHaltedRun shows streams (halts.Worn stamp) setup most clients handed × IsWorn (halts.Worn stamp) handed.homes
ScriptEnds shows streams setup most form NoMemory handed =
    (ReadsWell streams × IsSilent streams × HandsNothing handed) ⊎ ((clients : List Client) × IsHaltedRun shows streams halts.NoMemory setup most clients handed)
ScriptEnds shows streams setup most form status handed = ⊥

-- whether the command serves a script
abbrev pub Serves : Command → Type 0
Serves (Server name) = ⊥
Serves (Audit name) = ⊥
Serves command = ⊤

-- how `run CONFIG`, `record CONFIG` and `play SERVICE` end, and what that shows: without a setup, or as serving the script by their setup does
abbrev pub RunEnds : {S : Type 0} → (S → StarterShows) → ShelfTells → Streams → Command → Status → Handed S → Type 0
RunEnds shows shelf streams command ConfigRead handed = LacksSetup shelf command ConfigRead × IsIdle streams
RunEnds shows shelf streams command (TooLong inputs.Configuration) handed = LacksSetup shelf command (TooLong inputs.Configuration) × IsIdle streams
RunEnds shows shelf streams command (ConfigFault number key) handed = LacksSetup shelf command (ConfigFault number key) × IsIdle streams
RunEnds shows shelf streams command NoMemory handed =
    (IsIdle streams × HandsNothing handed)
    ⊎ ((setup : Setup) × (form : Form) × IsSetup shelf.file command setup × Writes shelf.file command setup form × ScriptEnds shows streams setup (most_clients command) form NoMemory handed)
RunEnds shows shelf streams command status handed =
    (setup : Setup) × (form : Form) × IsSetup shelf.file command setup × Writes shelf.file command setup form × ScriptEnds shows streams setup (most_clients command) form status handed

-- where the words, the configuration, the input, the script or a record were refused, nothing is handed back
abbrev pub EndsEarly : {S : Type 0} → Status → Handed S → Type 0
EndsEarly Usage handed = HandsNothing handed
EndsEarly ConfigRead handed = HandsNothing handed
EndsEarly (ConfigFault number key) handed = HandsNothing handed
EndsEarly (TooLong which) handed = HandsNothing handed
EndsEarly ScriptRead handed = HandsNothing handed
EndsEarly (BadLine line cause) handed = HandsNothing handed
EndsEarly (BadRecord line) handed = HandsNothing handed
EndsEarly NotARun handed = HandsNothing handed
EndsEarly status handed = ⊤

-- the run came to its end, or stamps or memory came to theirs
abbrev pub EndsWithoutFault : Status → Type 0
EndsWithoutFault Done = ⊤
EndsWithoutFault (Worn stamp) = ⊤
EndsWithoutFault NoMemory = ⊤
EndsWithoutFault status = ⊥
