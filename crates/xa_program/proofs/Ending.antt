-- How a run ends, by how its parts do.
use Rattle.std.proofs.Common.{◌≡◌, ℕ, List, length, reverse, Option, Some, None, inl, inr, refl, sym, subst}
use Rattle.xa_domain.specs.xa_types.declared.setup.Setup.{Setup}
use Rattle.xa_domain.specs.xa_events.declared.event.Event.{Event}
use Rattle.xa_domain.specs.xa_stamp.Merge.{IsMerged, IsDense}
use Rattle.xa_domain.specs.xa_server.Served.{StarterShows}
use Rattle.xa_domain.specs.xa_link.Starts.{ShelfShows}
use Rattle.xa_domain.specs.xa_script.declared.script.Client.{Client}
use Rattle.xa_text.specs.InTurn.{AllInTurn}
use Rattle.xa_text.proofs.InTurn.{run_in_turn}
use Rattle.xa_domain.specs.xa_worker.declared.work.Halt.{Halt}
use Rattle.xa_domain.specs.xa_worker.declared.work.Halt.TheVariants as halts
use Rattle.xa_domain.specs.xa_history.Served.{IsServedSoFar, IsWorn}
use Rattle.xa_domain.specs.Serving.{HasHomes, ServeEnds}
use Rattle.xa_program.specs.declared.words.Command.{Command}
use Rattle.xa_program.specs.declared.telling.Form.{Form}
use Rattle.xa_program.specs.declared.telling.Form.TheVariants as forms
use Rattle.xa_program.specs.declared.status.Status.{Status}
use Rattle.xa_program.specs.declared.status.Status.TheVariants.{Done, ConfigRead, ScriptRead, TooLong, BadLine, WriteFault, NoMemory, Worn}
use Rattle.xa_program.specs.declared.status.Input.TheVariants as inputs
use Rattle.xa_program.specs.Configuration.{ShelfTells, IsSetup, CountsFile, AsksFiles, AsksShelf, KeepsShelf, file_named}
use Rattle.xa_program.specs.Headline.{Streams, Handed, ReadsWell, IsTheScript, IsServedRun, IsHaltedRun, Writes, IsDue, ScriptEnds, RunEnds, most_clients}
use Rattle.xa_program.specs.Progress.{IsWritten, Says, IsUntold, TellingEnds}
use Rattle.xa_program.proofs.Recorded.{recorded}
use Rattle.xa_program.proofs.SoFar.{whole_so_far}

-- ---- the parts

module _ {S : Type 0} (shows : S → StarterShows) (setup : Setup) (clients : List Client) (handed : Handed S) where
  abbrev Serves : Option Halt → Type 0
  Serves halt = ServeEnds shows setup clients halt handed.homes handed.lives handed.cut handed.starters

  -- the calls of a run that came to its end are in turn
  pub turns : (halt : Option Halt) → Serves halt → halt ≡ None → (events : List Event) → IsMerged handed.homes events → AllInTurn (length clients) (reverse events)
  turns None ends over events merged = λ client low high. let whole = ends.comes events merged in run_in_turn setup (length clients) events _ whole.0.machine.run client
  turns (Some halt) ends over events merged = absurd (cc over)

  module _ (streams : Streams) (most : ℕ) (script : IsTheScript setup most streams.input clients) (reads : ReadsWell streams) where
    halted : (halt : Halt) → HasHomes shows setup clients (Some halt) handed.homes handed.starters → IsDense (record { 0 = 0 }) handed.homes
        → IsUntold handed.homes streams.took_before streams.took_after streams.writes_before streams.writes_after handed.history
        → ((events : List Event) → IsMerged handed.homes events → IsServedSoFar shows halt setup (length clients) events handed.lives handed.cut handed.starters)
        → IsHaltedRun shows streams halt setup most clients handed
    halted halt homed dense untold sound = record {
      script = script;
      reads = reads;
      silent = record { took = untold.took; writes = untold.wrote };
      merged = untold.merged;
      recorded = homed;
      dense = dense;
      so_far = sound;
    }

    whole : Serves None → IsMerged handed.homes handed.history → IsServedRun shows streams setup most clients handed
    whole ends merged =
        let comes = ends.comes handed.history merged in
        record { script = script; reads = reads; merged = merged; recorded = let all = ends.homed in all.recorded; dense = ends.dense; whole = comes.0; none_cut = comes.1 }

    -- what was written is what is due
    due : (form : Form) (octets : List ℕ) → Says setup form → IsServedRun shows streams setup most clients handed → IsWritten form clients handed.history octets → IsDue form clients handed.history octets
    due forms.Transcript octets says run is = is
    due (forms.Record config) octets says run is = let its = run.whole in recorded setup clients config octets handed.history says its.machine is.0 is.1

    -- how serving a script and telling it end
    pub served_ends : (form : Form) → Says setup form → (halt : Option Halt) (status : Status) → Serves halt
        → TellingEnds halt handed.homes form clients streams.took_before streams.took_after streams.writes_before streams.writes_after status handed.history
        → ScriptEnds shows streams setup most form status handed
    served_ends form says None Done ends told =
        let run = whole ends told.0 in
        let lines = told.1 in
        (clients, run, (lines.0, due form lines.0 says run lines.1, lines.2), told.2)
    served_ends form says None WriteFault ends told =
        let run = whole ends told.0 in
        let lines = told.1 in
        (clients, run, (lines.0, due form lines.0 says run lines.1, lines.2), told.2)
    served_ends form says None NoMemory ends told =
        inr (clients, halted halts.NoMemory (inl ends.homed) ends.dense told (λ events merged. whole_so_far shows setup clients events handed.lives handed.cut handed.starters (ends.comes events merged)))
    served_ends form says (Some halts.NoMemory) NoMemory ends told = inr (clients, halted halts.NoMemory ends.homed ends.dense told ends.comes)
    served_ends form says (Some (halts.Worn stamp)) (Worn last) ends told =
        subst (λ s. (clients : List Client) × IsHaltedRun shows streams (halts.Worn s) setup most clients handed × IsWorn (halts.Worn s) handed.homes) (sym told.0)
        (clients, halted (halts.Worn stamp) ends.homed ends.dense told.1 ends.comes, ends.worn)
    served_ends form says halt status ends told = absurd told

-- how serving a script ends, at that status
pub ends_as : {S : Type 0} (shows : S → StarterShows) (streams : Streams) (setup : Setup) (most : ℕ) (form : Form) (status other : Status) (handed : Handed S)
    → ScriptEnds shows streams setup most form status handed → status ≡ other → ScriptEnds shows streams setup most form other handed
ends_as shows streams setup most form status other handed ends is = subst (λ s. ScriptEnds shows streams setup most form s handed) is ends

-- ---- the run

module _ {S : Type 0} (shows : S → StarterShows) (shelf : ShelfTells) (streams : Streams) (handed : Handed S) where
  -- a run with a setup
  run_ends : (command : Command) (setup : Setup) (form : Form) (status : Status) → IsSetup shelf.file command setup → Writes shelf.file command setup form
      → ScriptEnds shows streams setup (most_clients command) form status handed → RunEnds shows shelf streams command status handed
  run_ends command setup form Done is writes ends = (setup, form, is, writes, ends)
  run_ends command setup form WriteFault is writes ends = (setup, form, is, writes, ends)
  run_ends command setup form ScriptRead is writes ends = (setup, form, is, writes, ends)
  run_ends command setup form (TooLong inputs.Script) is writes ends = (setup, form, is, writes, ends)
  run_ends command setup form (BadLine line cause) is writes ends = (setup, form, is, writes, ends)
  run_ends command setup form (Worn stamp) is writes ends = (setup, form, is, writes, ends)
  run_ends command setup form NoMemory is writes ends = inr (setup, form, is, writes, ends)
  run_ends command setup form status is writes ends = absurd ends

  pub run_so : (command : Command) (setup : Setup) (form : Form) (most : ℕ) (status : Status) → IsSetup shelf.file command setup → Writes shelf.file command setup form → most ≡ most_clients command
      → ScriptEnds shows streams setup most form status handed → RunEnds shows shelf streams command status handed
  run_so command setup form most status is writes few ends = run_ends command setup form status is writes (subst (λ (n : ℕ). ScriptEnds shows streams setup n form status handed) few ends)

-- ---- the shelf

-- no read of a file failed
counts_kept : (named : Option (List ℕ)) (status : Status) (before after : ℕ) → (status ≡ ConfigRead → ⊥) → after ≡ before → CountsFile named status before after
counts_kept (Some name) ConfigRead before after other same = absurd (other refl)
counts_kept named status before after other same = same

-- the command asked for its files
asks_files : (command : Command) (status : Status) (before after : Option (List (List ℕ))) → AsksFiles command before after → AsksShelf (Some command) status before after
asks_files command NoMemory before after asks = inr asks
asks_files command status before after asks = asks

pub shelf_kept : (command : Command) (status : Status) (before after : ShelfShows) → (status ≡ ConfigRead → ⊥) → after.faults ≡ before.faults → AsksFiles command before.asked after.asked → KeepsShelf (Some command) status before after
shelf_kept command status before after other same asks = record {
  counts = counts_kept (file_named command) status before.faults after.faults other same;
  asks = asks_files command status before.asked after.asked asks;
}
