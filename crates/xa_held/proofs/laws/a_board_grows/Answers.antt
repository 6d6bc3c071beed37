use Rattle.std.proofs.Common.{[]}
use Rattle.xa_held.proofs.Fronts.{version_grows, sees_on}
use Rattle.xa_held.proofs.Standing.{found_grows}
use Rattle.xa_held.proofs.laws.a_board_grows.Goals as goal

pub returns-clause-version : goal.returns-clause-version
returns-clause-version c = λ seen board begins sound. version_grows seen board begins sound

pub returns-clause-found : goal.returns-clause-found
returns-clause-found c = λ p p' name wanted found visits. found_grows p p' [] name wanted found found.stamp visits

pub returns-clause-setup : goal.returns-clause-setup
returns-clause-setup c = λ setup p p' begins sees. sees_on setup p p' begins sees
