use Rattle.xa_config.proofs.OneReading.{one_setup, no_fault, one_fault}
use Rattle.xa_config.proofs.laws.one_reading.Goals as goal

pub returns-clause-setup : goal.returns-clause-setup
returns-clause-setup c = λ octets setup other x y. one_setup octets setup other x y

pub returns-clause-none : goal.returns-clause-none
returns-clause-none c = λ octets told setup x y. no_fault octets told setup x y

pub returns-clause-fault : goal.returns-clause-fault
returns-clause-fault c = λ octets told other x y. one_fault octets told other x y
