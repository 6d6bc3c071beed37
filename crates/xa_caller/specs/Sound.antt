-- An answer that has a spelling (this project's own).
use Rattle.std.specs.Prelude.{Option, IfSome}
use Rattle.xa_types.specs.declared.reply.Answer.{Answer}
use Rattle.xa_frame.specs.Spelling.{IsAnswer}

-- the answer has a spelling, if there is one
abbrev pub IsSoundAnswer : Option Answer → Type 0
IsSoundAnswer answer = IfSome answer IsAnswer
