use Rattle.std.proofs.Common.{[]}
use Rattle.xa_held.proofs.Standing.{version_seen, found_stands, found_configured, found_placed, found_listed}
use Rattle.xa_held.proofs.laws.a_found_row_stands.Goals as goal

pub returns-clause-version : goal.returns-clause-version
returns-clause-version c = λ p p' now name wanted found stamp visits begins less. version_seen p p' now name wanted found stamp visits begins less

pub returns-clause-rows : goal.returns-clause-rows
returns-clause-rows c = λ setup p p' now name wanted found stamp conversational routine payload visits begins less. found_stands p p' now name wanted found stamp setup conversational routine payload visits begins less

pub returns-clause-configured : goal.returns-clause-configured
returns-clause-configured c = λ setup p p' name wanted found visits sees. found_configured p p' [] name wanted found found.stamp setup visits sees

pub returns-clause-listed : goal.returns-clause-listed
returns-clause-listed c = λ setup p p' now name wanted found stamp visits sees begins less. found_listed p p' now name wanted found stamp setup visits sees begins less

pub returns-clause-placed : goal.returns-clause-placed
returns-clause-placed c = λ setup p p' name wanted found visits sees. found_placed p p' [] name wanted found found.stamp setup visits sees
