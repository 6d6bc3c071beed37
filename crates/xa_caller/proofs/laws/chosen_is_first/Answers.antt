use Rattle.xa_types.specs.Kind.{kind_of}
use Rattle.xa_caller.proofs.Next.{first_found}
use Rattle.xa_caller.proofs.laws.chosen_is_first.Goals as goal

pub returns : goal.returns
returns c setup service payload rows row all is = first_found setup service (kind_of payload) rows row all is
