-- A run in which nothing fails comes to its end, or to that of stamps or memory.
use Rattle.std.proofs.Common.{◌≡◌, ◌≤◌, ◌<◌, ℕ, List, length, Option, Some, ◌++◌, ◌∙◌, inl, inr, ap, sym, subst, arith}
use Rattle.std.specs.Prelude.{IfSome}
use Rattle.std.proofs.lemmas.List.{append_cancel_left}
use Rattle.xa_domain.specs.xa_types.declared.setup.Setup.{Setup}
use Rattle.xa_domain.specs.xa_link.Told.{Rose, Grew}
use Rattle.xa_domain.specs.xa_link.Reads.{Holds, HoldsMore}
use Rattle.xa_domain.specs.xa_server.Served.{StarterShows}
use Rattle.xa_domain.specs.xa_script.declared.script.Script.{Script}
use Rattle.xa_domain.specs.xa_script.Script.{IsScript, IsFirstFault}
use Rattle.xa_domain.proofs.xa_script.ReadLines.{no_fault}
use Rattle.xa_config.specs.Document.{IsConfiguration, IsFirstFault as IsFirstConfigFault}
use Rattle.xa_config.specs.Faults.{fault}
use Rattle.xa_config.proofs.OneReading as readings
use Rattle.xa_program.specs.declared.words.Command.{Command}
use Rattle.xa_program.specs.declared.words.Command.TheVariants.{Run, Record, Audit, Play, Server}
use Rattle.xa_program.specs.declared.telling.Form.{Form}
use Rattle.xa_program.specs.declared.status.Status.{Status}
use Rattle.xa_program.specs.declared.status.Status.TheVariants.{Done, ConfigRead, ConfigFault, ScriptRead, TooLong, BadLine, WriteFault, NoMemory, Worn}
use Rattle.xa_program.specs.declared.status.Input.TheVariants as inputs
use Rattle.xa_program.specs.Configuration.{ShelfTells, HasFault, LacksConfiguration, LacksSetup, SaysSetup, IsSetup, TellsConfiguration, TellsSetup, longest_configuration}
use Rattle.xa_program.specs.Headline.{Streams, Handed, ScriptEnds, RunEnds, EndsWithoutFault, longest_script, most_clients}
use Rattle.xa_program.specs.Input.{InputTells, CameWhole, CameOver, Tells}

-- ---- the script

-- more octets than those that are told
not_over : (input : InputTells) (octets : List ℕ) → CameOver input longest_script → Tells input octets → length octets ≤ longest_script → ⊥
not_over input octets over (inl told) short =
    omega (arith, subst (λ (o : Option (List ℕ)). IfSome o (λ xs. longest_script < length xs)) told over.held, short)
not_over input octets over (inr (before, gave, gave_after)) short =
    let grew = subst (λ (o : Option (List ℕ)). Grew o input.gave_after over.given.0) gave over.given.2 in
    let both : Some (before ++ octets) ≡ Some (before ++ over.given.0) = sym gave_after ∙ grew in
    let same : octets ≡ over.given.0 = append_cancel_left before octets over.given.0 (cc both) in
    omega (arith, ap length same, over.given.1, short)

-- what came whole is what is told
same_octets : (input : InputTells) (octets came : List ℕ) → CameWhole input came → Tells input octets → octets ≡ came
same_octets input octets came whole (inl told) = subst (λ (o : Option (List ℕ)). IfSome o (λ xs. xs ≡ came)) told whole.held
same_octets input octets came whole (inr (before, gave, gave_after)) =
    let grew = subst (λ (o : Option (List ℕ)). Grew o input.gave_after came) gave whole.given in
    let both : Some (before ++ octets) ≡ Some (before ++ came) = sym gave_after ∙ grew in
    append_cancel_left before octets came (cc both)

script_comes : {S : Type 0} (shows : S → StarterShows) (streams : Streams) (setup : Setup) (most : ℕ) (form : Form) (status : Status) (handed : Handed S)
    (octets : List ℕ) (script : Script) → ScriptEnds shows streams setup most form status handed
    → Tells streams.input octets → length octets ≤ longest_script → IsScript setup most octets script
    → (Rose streams.reads_before streams.reads_after → ⊥) → (Rose streams.writes_before streams.writes_after → ⊥) → EndsWithoutFault status
script_comes shows streams setup most form Done handed octets script ends told short is_script reads writes = tt
script_comes shows streams setup most form NoMemory handed octets script ends told short is_script reads writes = tt
script_comes shows streams setup most form (Worn stamp) handed octets script ends told short is_script reads writes = tt
script_comes shows streams setup most form WriteFault handed octets script ends told short is_script reads writes = absurd (writes ends.3)
script_comes shows streams setup most form ScriptRead handed octets script ends told short is_script reads writes = absurd (reads ends.0)
script_comes shows streams setup most form (TooLong inputs.Script) handed octets script ends told short is_script reads writes =
    absurd (not_over streams.input octets ends.0 told short)
script_comes shows streams setup most form (BadLine line cause) handed octets script ends told short is_script reads writes =
    let fault = ends.0 in
    let same = same_octets streams.input octets fault.0 fault.1 told in
    absurd (no_fault setup most octets line cause script.clients is_script (subst (λ (o : List ℕ). IsFirstFault setup most o line cause) (sym same) fault.3))
script_comes shows streams setup most form status handed octets script ends told short is_script reads writes = absurd ends

-- ---- the configuration

not_longer : (file : Option (Option (List ℕ))) (octets : List ℕ) → file ≡ Some (Some octets) → length octets ≤ longest_configuration → HoldsMore file longest_configuration → ⊥
not_longer file octets told short more =
    let held = subst (λ (o : Option (Option (List ℕ))). HoldsMore o longest_configuration) told more in
    let same : octets ≡ held.0 = let both = held.1 in cc both in
    omega (arith, ap length same, held.2, short)

not_faulty : (file : Option (Option (List ℕ))) (octets : List ℕ) (setup : Setup) (number : ℕ) (key : List ℕ) → file ≡ Some (Some octets) → IsConfiguration octets setup → HasFault file number key → ⊥
not_faulty file octets setup number key told good bad =
    let held = subst (λ (o : Option (Option (List ℕ))). HasFault o number key) told bad in
    let same : octets ≡ held.0 = let both = held.1 in cc both in
    readings.no_fault octets (fault key number) setup (subst (λ (o : List ℕ). IsFirstConfigFault o (fault key number)) (sym same) held.3) good

-- no configuration that is told and isn't too long is refused
no_refusal : (shelf : ShelfTells) (name : List ℕ) (setup : Setup) (status : Status) → TellsConfiguration (shelf.file name) setup → LacksConfiguration shelf name status
    → (Rose shelf.faults shelf.faults_after → ⊥) → ⊥
no_refusal shelf name setup ConfigRead (octets, told, short, good) why failed = failed why
no_refusal shelf name setup (TooLong inputs.Configuration) (octets, told, short, good) why failed = not_longer (shelf.file name) octets told short why
no_refusal shelf name setup (ConfigFault number key) (octets, told, short, good) why failed = not_faulty (shelf.file name) octets setup number key told good why
no_refusal shelf name setup status tells why failed = why

no_lack : (shelf : ShelfTells) (command : Command) (setup : Setup) (status : Status) → TellsSetup shelf.file command setup → LacksSetup shelf command status → (Rose shelf.faults shelf.faults_after → ⊥) → ⊥
no_lack shelf (Run name) setup status tells why failed = no_refusal shelf name setup status tells why failed
no_lack shelf (Record name) setup status tells why failed = no_refusal shelf name setup status tells why failed
no_lack shelf command setup status tells why failed = why

same_file : (told : Option (Option (List ℕ))) (octets : List ℕ) (setup other : Setup) → told ≡ Some (Some octets) → IsConfiguration octets setup
    → SaysSetup told other → setup ≡ other
same_file told octets setup other is good found =
    let held = subst (λ (t : Option (Option (List ℕ))). Holds t found.0) is found.1 in
    let same : octets ≡ found.0 = cc held in
    readings.one_setup octets setup other good (subst (λ (o : List ℕ). IsConfiguration o other) (sym same) found.3)

-- the command has one setup
same_setup : (file : List ℕ → Option (Option (List ℕ))) (command : Command) (setup other : Setup) → TellsSetup file command setup → IsSetup file command other → setup ≡ other
same_setup file (Run name) setup other tells is = same_file (file name) tells.0 setup other tells.1 tells.3 is
same_setup file (Record name) setup other tells is = same_file (file name) tells.0 setup other tells.1 tells.3 is
same_setup file (Play service) setup other tells is = tells ∙ sym is
same_setup file (Audit name) setup other tells is = absurd is
same_setup file (Server name) setup other tells is = absurd is

-- ---- the run

pub nothing_else : {S : Type 0} (shows : S → StarterShows) (shelf : ShelfTells) (streams : Streams) (command : Command) (status : Status) (handed : Handed S)
    (setup : Setup) (octets : List ℕ) (script : Script) → RunEnds shows shelf streams command status handed → TellsSetup shelf.file command setup
    → Tells streams.input octets → length octets ≤ longest_script → IsScript setup (most_clients command) octets script
    → (Rose shelf.faults shelf.faults_after → ⊥) → (Rose streams.reads_before streams.reads_after → ⊥) → (Rose streams.writes_before streams.writes_after → ⊥) → EndsWithoutFault status
nothing_else shows shelf streams command NoMemory handed setup octets script ends configured told short is_script files reads writes = tt
nothing_else shows shelf streams command ConfigRead handed setup octets script ends configured told short is_script files reads writes =
    absurd (no_lack shelf command setup ConfigRead configured ends.0 files)
nothing_else shows shelf streams command (TooLong inputs.Configuration) handed setup octets script ends configured told short is_script files reads writes =
    absurd (no_lack shelf command setup (TooLong inputs.Configuration) configured ends.0 files)
nothing_else shows shelf streams command (ConfigFault number key) handed setup octets script ends configured told short is_script files reads writes =
    absurd (no_lack shelf command setup (ConfigFault number key) configured ends.0 files)
nothing_else shows shelf streams command status handed setup octets script ends configured told short is_script files reads writes =
    let same = same_setup shelf.file command setup ends.0 configured ends.2 in
    script_comes shows streams ends.0 (most_clients command) ends.1 status handed octets script ends.4 told short (subst (λ (s : Setup). IsScript s (most_clients command) octets script) same is_script) reads writes
