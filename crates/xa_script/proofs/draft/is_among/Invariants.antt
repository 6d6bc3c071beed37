use Rattle.std.proofs.Common.{◌≡◌, drop}
use Rattle.xa_types.specs.Configured.{is_among}
use Rattle.xa_script.specs.Script.{client_names}
use Rattle.xa_script.proofs.draft.is_among.Given as goal

abbrev pub invariant-loop-client : goal.invariant-loop-client
invariant-loop-client l = is_among (client_names (drop l.client-index l.clients)) l.word ≡ is_among (client_names l.clients) l.word
