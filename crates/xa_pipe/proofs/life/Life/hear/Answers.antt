use Rattle.xa_pipe.specs.Standing.{tag_of}
use Rattle.xa_pipe.proofs.Asking.{acting_says}
use Rattle.xa_pipe.proofs.life.Life.hear.Goals as goal

pub acted-act-requires : goal.acted-act-requires
acted-act-requires g c = acting_says c.args.self.name (tag_of c.args.self) c.args.self.turn c.in_ok-life.field-0.frame c.requires c.in_ok-life.ensures.heard.may
