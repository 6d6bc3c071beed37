-- A caller made its calls, by its own events and by what it saw, and so in the merge.
use Rattle.std.proofs.Common.{◌≡◌, ℕ, zero, suc, false, List, length, reverse, Option, Some, None, refl, sym, ◌∙◌, ap, subst}
use Rattle.std.specs.Prelude.{option_map}
use mathlib.Core.Path.{fun_ext}
use Rattle.xa_client_worker.specs.xa_types.declared.call.Op.{Op}
use Rattle.xa_client_worker.specs.xa_types.Setup.{numbered}
use Rattle.xa_client_worker.specs.xa_events.Calls.{MadeCalls, awaits_answer}
use Rattle.xa_client_worker.specs.xa_events.Caller.{accepted_in, last_op, newest_call, op_of}
use Rattle.xa_client_worker.specs.xa_events.declared.event.Event.{Event}
use Rattle.xa_client_worker.specs.xa_events.declared.event.Event.TheVariants.{Accept}
use Rattle.xa_client_worker.specs.xa_events.Homes.{Home}
use Rattle.xa_client_worker.specs.xa_events.Local.{worker_events}
use Rattle.xa_client_worker.specs.xa_stamp.declared.home.Stamped.{Stamped}
use Rattle.xa_client_worker.specs.xa_stamp.Home.{Notes}
use Rattle.xa_client_worker.specs.xa_stamp.Merge.{IsMerged}
use Rattle.xa_client_worker.specs.xa_lock.Makers.{noted_in}
use Rattle.xa_client_worker.specs.xa_worker.Calls.{MadeOwn}
use Rattle.xa_client_worker.specs.xa_worker.Ending.{list_in, workers_of}
use Rattle.xa_client_worker.specs.xa_worker.Seen.{past_in}
use Rattle.xa_client_worker.specs.xa_worker.Going.{FitEach}
use Rattle.xa_client_worker.proofs.xa_worker.Joined.{caller_made_calls}
use Rattle.xa_client_worker.specs.xa_worker.Work.{WorkState, theirs}
use Rattle.xa_client_worker.specs.xa_desk.declared.domain.Domain.{Domain}
use Rattle.xa_client_worker.specs.xa_desk.declared.desk.Desk.{Desk}
use Rattle.xa_client_worker.specs.xa_desk.Whole.{entries_of}
use Rattle.xa_client_worker.specs.xa_desk.Desks.{FitsCalls}
use Rattle.xa_history.specs.Joined.{Back, whole_of, kept_of, noted_of, AllLeft}
use Rattle.xa_history.specs.Served.{HoldAll}
use Rattle.xa_history.proofs.Left.{same_homes}
use Rattle.xa_history.proofs.Going.{one_goes_on}
use Rattle.xa_history.proofs.Crew.{desks_are_crew}
use Rattle.xa_history.proofs.Homes.{homes_met}
use Rattle.xa_history.proofs.Numbered.{numbered_within}
use Rattle.xa_history.proofs.Own.{is_worker, its_theirs}
use Rattle.xa_history.proofs.Recorded.{names, names_are}

-- what a caller noted is what its desk has
pub noted_is : (domain : WorkState) (desks : List Desk) (caller : ℕ) (desk : Desk) → numbered caller desks ≡ Some desk → noted_of domain desks caller ≡ desk.caller.work.own
noted_is domain desks zero desk there = absurd (cc there)
noted_is domain desks (suc n) desk there = ap (λ (o : Option Desk). list_in (option_map (λ (desk : Desk). desk.caller.work.own) o)) there

pub made_own : (d : Domain) (b : Back) (domain : WorkState) (desks : List Desk) → AllLeft d b domain desks → (caller : ℕ) (desk : Desk) → numbered caller desks ≡ Some desk → (ops : List Op) → FitsCalls d ops desk
    → last_op caller (worker_events d.clients caller (past_in desk.caller.work.own)) ≡ length ops → awaits_answer ops (newest_call caller (worker_events d.clients caller (past_in desk.caller.work.own))) ≡ false
    → MadeOwn d.setup d.clients (λ home. noted_in (kept_of b home)) caller ops (noted_of domain desks caller)
made_own d b domain desks all caller desk there ops fits whole over =
    let own : List Stamped = desk.caller.work.own in
    let fit : FitEach d.setup d.clients (entries_of (whole_of d b)) caller ops own = subst (λ (n : ℕ). FitEach d.setup d.clients (entries_of (whole_of d b)) n ops own) (all.ids caller desk there) (fits.each (whole_of d b) (one_goes_on d b domain desks all caller desk there)) in
    subst (MadeOwn d.setup d.clients (λ home. noted_in (kept_of b home)) caller ops) (sym (noted_is domain desks caller desk there)) (record {
      all = whole;
      each = subst (λ (entries : Home → List Stamped). FitEach d.setup d.clients entries caller ops own) (fun_ext (same_homes d b)) fit;
      over = over;
    })

-- where nothing was just accepted, no answer is to come
pub over_now : (ops : List Op) (newest : Option Event) → accepted_in newest ≡ None → awaits_answer ops newest ≡ false
over_now ops None is = refl
over_now ops (Some (Accept a)) is = absurd (cc is)
over_now ops (Some _) is = refl

-- a caller that came to the last of its calls made them in the merge
pub made_in_merge : (d : Domain) (b : Back) (domain : WorkState) (desks : List Desk) → AllLeft d b domain desks → (homes : List Notes) (events : List Event) → HoldAll d b homes → IsMerged homes events
    → (caller : ℕ) (desk : Desk) → numbered caller desks ≡ Some desk → (ops : List Op) → FitsCalls d ops desk
    → last_op desk.caller.work.id.0 (theirs desk.caller.work) ≡ length ops → awaits_answer ops (newest_call desk.caller.work.id.0 (worker_events d.clients desk.caller.work.id.0 (past_in desk.caller.work.own))) ≡ false → MadeCalls d.setup d.clients caller ops (reverse events)
made_in_merge d b domain desks all homes events hold merged caller desk there ops fits last over =
    let id : desk.caller.work.id.0 ≡ caller = all.ids caller desk there in
    let same : theirs desk.caller.work ≡ worker_events d.clients caller (past_in desk.caller.work.own) = its_theirs d b domain desks all caller desk there in
    let newest : newest_call desk.caller.work.id.0 (theirs desk.caller.work) ≡ newest_call caller (worker_events d.clients caller (past_in desk.caller.work.own)) = ap (λ (n : ℕ). newest_call n (theirs desk.caller.work)) id ∙ ap (newest_call caller) same in
    caller_made_calls d.setup d.clients (workers_of d.setup d.clients) (kept_of b) (noted_of domain desks) (desks_are_crew d b domain desks all) (names d b domain desks all) homes events (names_are d b domain desks all homes hold) merged (homes_met d b domain desks all) caller
    (numbered_within caller desks desk there).0 (is_worker d b domain desks all caller desk there) ops
    (made_own d b domain desks all caller desk there ops fits
    (subst (λ (o : Option Event). op_of o ≡ length ops) newest last)
    (subst (λ (n : ℕ). awaits_answer ops (newest_call n (worker_events d.clients n (past_in desk.caller.work.own))) ≡ false) id over))
