use Rattle.renderers.proofs.Turns.{each_by_its_word}
use Rattle.renderers.proofs.tape.each_by_its_word.Goals as goal

pub returns : goal.returns
returns c = each_by_its_word c.args.words.now
