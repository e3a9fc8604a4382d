-- `words::arguments::with_space`: the word, then the space.
use Rattle.words.specs.Joined.{with_space}
use Rattle.words.proofs.arguments.with_space.Goals as goal

pub returns : goal.returns
returns c = with_space _ c.with_word-at.ensures c.append.ensures
