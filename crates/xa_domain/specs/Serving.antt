-- What serving a script comes to (this project's own).
use Rattle.std.specs.Prelude.{◌≡◌, ◌⊎◌, ℕ, ◌≤◌, List, [], length, Option, Some, None, IfSome}
use Rattle.std.specs.List.{All}
use Rattle.xa_boot.specs.xa_types.declared.setup.Setup.{Setup}
use Rattle.xa_boot.specs.xa_events.declared.event.Event.{Event}
use Rattle.xa_boot.specs.xa_stamp.Home.{Notes}
use Rattle.xa_boot.specs.xa_stamp.Merge.{IsDense, IsMerged}
use Rattle.xa_boot.specs.xa_worker.declared.work.Halt.{Halt}
use Rattle.xa_boot.specs.xa_worker.declared.work.Halt.TheVariants.{NoMemory}
use Rattle.xa_history.specs.xa_script.declared.script.Client.{Client}
use Rattle.xa_boot.specs.xa_pipe.Standing.{LifeState, Ending}
use Rattle.xa_boot.specs.xa_server.Served.{StarterShows}
use Rattle.xa_boot.specs.xa_server_worker.Lives.{HasStarted}
use Rattle.xa_domain.specs.Working.{IsBuiltClient}
use Rattle.xa_history.specs.Served.{IsRecorded, IsServedWhole, IsServedSoFar, IsWorn}

-- at most 64 clients, each with fewer than 2^32 calls, of which each is a tpcall, sets a priority, or would change the board or the clock
pub record IsBuilt (clients : List Client) : Type 0 where
  pub few : length clients ≤ 64
  pub calls : All IsBuiltClient clients

-- no life was cut
abbrev pub IsNoneCut : List (List LifeState) → Type 0
IsNoneCut cut = All (λ (of_server : List LifeState). of_server ≡ []) cut

module _ {S : Type 0} (shows : S → StarterShows) (setup : Setup) (clients : List Client) where
  -- every home is handed back, and each server's starter
  pub record HasAll (homes : List Notes) (starters : List S) : Type 0 where
    pub recorded : IsRecorded setup (length clients) homes
    pub started : length starters ≡ length setup.servers

  -- no start was asked of these starters, where they tell it, and none failed
  abbrev pub AreUnasked : List S → Type 0
  AreUnasked starters = All (λ s. HasStarted (shows s).name 0 0 (shows s)) starters

  -- what is handed back of homes and starters: where memory ran out before the boot there is no home, and then no start was asked
  abbrev pub HasHomes : Option Halt → List Notes → List S → Type 0
  HasHomes (Some NoMemory) homes starters = HasAll homes starters ⊎ ((homes ≡ []) × AreUnasked starters)
  HasHomes halt homes starters = HasAll homes starters

  -- what the merged events are, by whether the run halted; cut are the lives that went on at a halt
  abbrev pub ComesTo : Option Halt → List Event → List (List Ending) → List (List LifeState) → List S → Type 0
  ComesTo None events lives cut starters = IsServedWhole shows setup clients events lives starters × IsNoneCut cut × (length cut ≡ length setup.servers)
  ComesTo (Some halt) events lives cut starters = IsServedSoFar shows halt setup (length clients) events lives cut starters

  -- how serving ends: each event stands at its own home, with dense stamps that rise, and the merge of the homes comes to that
  pub record ServeEnds (halt : Option Halt) (homes : List Notes) (lives : List (List Ending)) (cut : List (List LifeState)) (starters : List S) : Type 0 where
    pub homed : HasHomes halt homes starters
    pub dense : IsDense (record { 0 = 0 }) homes
    pub worn : IfSome halt (λ why. IsWorn why homes)
    pub comes : (events : List Event) → IsMerged homes events → ComesTo halt events lives cut starters
