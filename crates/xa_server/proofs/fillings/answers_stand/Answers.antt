use Rattle.std.proofs.lemmas.List.Elements.{All-push}
use Rattle.xa_caller.specs.xa_stamp.declared.home.Stamped.{Stamped}
use Rattle.xa_server.specs.Fillings.{WasTaken}
use Rattle.xa_server.proofs.Ends.{all_taken}
use Rattle.xa_server.proofs.fillings.answers_stand.Goals as goal

pub returns : goal.returns
returns c = record { grows = all_taken; more = λ own x v h t. All-push (λ (y : Stamped). WasTaken v y.stamp y.event) own x h t }
