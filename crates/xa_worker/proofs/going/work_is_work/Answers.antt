use Rattle.std.proofs.lemmas.List.Elements.{All-push}
use Rattle.xa_stamp.specs.declared.home.Stamped.{Stamped}
use Rattle.xa_events.specs.declared.event.Event.{Event}
use Rattle.std.specs.Prelude.{List, map}
use Rattle.std.proofs.Common.{subst, sym}
use Rattle.xa_worker.specs.Seen.{SawFronts, IsBehind}
use Rattle.xa_worker.proofs.Lists.{map-reverse}
use Rattle.xa_worker.proofs.Noting.{each-more}
use Rattle.xa_worker.proofs.going.work_is_work.Goals as goal

pub returns : goal.returns
returns c last seen old x work sound behind saw = record {
  rises = sound.rises;
  may = sound.may;
  met = sound.met;
  behind = All-push (λ (y : Stamped). IsBehind last y.stamp y.event) old.own x work.behind behind;
  saw = each-more (λ (y : Stamped) (past : List Event). SawFronts old.setup old.clients seen y.stamp y.event past) old.own x work.saw saw;
}
