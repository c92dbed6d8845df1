use Rattle.playing.proofs.Examples.{worked_examples}
use Rattle.playing.proofs.worked.worked_examples.Goals as goal

pub returns : goal.returns
returns c = worked_examples
