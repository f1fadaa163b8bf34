-- `list_ends::put_line` meets its contract: the word, and its numbers. Assumes nothing.
use Rattle.list_digits.specs.Puts.{both_put}
use Rattle.list_ends.specs.Parts.{line_word}
use Rattle.list_ends.proofs.put_line.Goals as goal

pub returns : goal.returns
returns g c = both_put (line_word _ _) c.put_word-next.ensures c.put_numbers.ensures
