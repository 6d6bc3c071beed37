use Rattle.xa_frame.proofs.FrontLemmas.{partial_answer, malformed_answer, whole_answer}
use Rattle.xa_frame.proofs.reader.Reader.next.Goals as goal

pub returns-clause-partial : goal.returns-clause-partial
returns-clause-partial c = partial_answer _ _ _ c.answer.ensures

pub returns-clause-malformed : goal.returns-clause-malformed
returns-clause-malformed c = malformed_answer _ _ _ c.answer.ensures

pub returns-clause-whole : goal.returns-clause-whole
returns-clause-whole c = whole_answer _ _ _ c.answer.ensures
