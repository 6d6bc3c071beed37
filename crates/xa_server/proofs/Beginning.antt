-- A slot stands where nothing was noted yet.
use Rattle.std.proofs.Common.{◌≡◌, List, [], length, refl, sym, ◌∙◌, ap, arith}
use Rattle.std.specs.Prelude.{IsSomeAnd}
use Rattle.xa_caller.specs.xa_types.declared.ids.ServerId.{ServerId}
use Rattle.xa_caller.specs.xa_types.declared.setup.ServerSetup.{ServerSetup}
use Rattle.xa_caller.specs.xa_types.Setup.{numbered}
use Rattle.xa_caller.specs.xa_events.declared.event.Event.{Event}
use Rattle.xa_caller.specs.xa_events.Local.{worker_events}
use Rattle.xa_caller.specs.xa_events.State.{caller_of}
use Rattle.xa_caller.specs.xa_events.Server.{starts, is_gone, doing_after, outcome_in, is_shutdown_stop}
use Rattle.xa_caller.specs.xa_events.Caller.{open_descriptors}
use Rattle.xa_caller.specs.xa_events.Conversation.{connections}
use Rattle.xa_caller.specs.xa_events.Views.{server_view}
use Rattle.xa_caller.specs.xa_stamp.declared.home.Stamped.{Stamped}
use Rattle.xa_caller.specs.xa_worker.Seen.{past_in}
use Rattle.xa_restart.specs.Rule.{RestartState, IsRuleOf}
use Rattle.xa_caller.specs.xa_worker.Work.{WorkState, theirs}
use Rattle.xa_server.specs.Changes.{new_slot}
use Rattle.xa_server.specs.Doings.{last_of}
use Rattle.xa_server.specs.Slot.{Stands}

pub new_stands : (server : ServerId) (restarts : RestartState) (w : WorkState) → caller_of w.clients server.0 ≡ w.id.0 → IsSomeAnd (numbered server.0 w.setup.servers) (λ (configured : ServerSetup). IsRuleOf configured restarts.restart restarts.maxgen restarts.grace)
    → restarts.starts ≡ [] → w.own ≡ [] → Stands (new_slot server restarts) w
unfolding open_descriptors connections starts is_gone
new_stands server restarts w number rule fresh none =
    let past : theirs w ≡ [] = ap (λ (l : List Stamped). worker_events w.clients w.id.0 (past_in l)) none in
    let view = λ (l : List Event). server_view server.0 l in
    record {
      tables = record {
        worker = record { number = number; rule = rule; none = ap (open_descriptors w.id.0) past; unconnected = ap (connections w.id.0) past };
        reads = record {
          moved = ap (λ (l : List Event). doing_after (view l).moved) past;
          ended = ap (λ (l : List Event). last_of (outcome_in (view l).moved)) past;
          started = ap (λ (l : List Event). (view l).starts) past ∙ sym fresh;
          count = ap length fresh;
          given_up = ap (λ (l : List Event). (view l).gone) past;
          stopped = ap (λ (l : List Event). is_shutdown_stop (view l).stopped) past;
        };
        few = omega arith;
        ready = omega arith;
      };
      hand = refl;
    }
