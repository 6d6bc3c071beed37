use Rattle.xa_caller.specs.Unsent.{MayBe}
use Rattle.xa_trials_callers.specs.Callers.{HasDraft}
use Rattle.xa_trials_callers.proofs.clients.put.Given as goal

abbrev pub invariant-loop-attempt : goal.invariant-loop-attempt
invariant-loop-attempt g l = record {
  draft : HasDraft l.setup l.cells l.client.last l.found l.entry l.client.caller;
  why : MayBe l.setup l.why;
}
