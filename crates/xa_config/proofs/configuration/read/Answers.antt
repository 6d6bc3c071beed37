use Rattle.toml.specs.View.{view}
use Rattle.xa_config.proofs.Reading.{refuses, configures}
use Rattle.xa_config.proofs.configuration.read.Goals as goal

pub returns-clause-configured : goal.returns-clause-configured
returns-clause-configured c = configures (view c.in_ok-document.document) c.setup_of.result c.setup_of.ensures

pub returns-clause-refused : goal.returns-clause-refused
returns-clause-refused c = refuses c.args.octets.now (view c.in_ok-document.document) _ c.setup_of.result c.in_ok-document.ensures.found c.setup_of.ensures
