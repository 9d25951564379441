-- `calls::reading::read_text` meets its contract: a refused text is told by its refusal, and an accepted one is handed on with its model.
-- From the reading of a text. Assumes nothing.
use Rattle.std.proofs.Common.{refl}
use Rattle.calls.proofs.Laws.Answers.{few, is_read}
use Rattle.calls.proofs.reading.read_text.Goals as goal

pub invariant_of-result : goal.invariant_of-result
invariant_of-result c = record { few = few (is_read _ c.read_model.ensures c.in_ok-model.was) }

pub returns-clause-read : goal.returns-clause-read
returns-clause-read c = record { same = refl; read = is_read _ c.read_model.ensures c.in_ok-model.was }
