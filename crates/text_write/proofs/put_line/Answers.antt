-- `text_write::put_line` meets its contract: the word, and its fields. Assumes nothing.
use Rattle.std.proofs.lemmas.List.{map-id}
use Rattle.text_write.proofs.put_line.Goals as goal

pub put_line-requires : goal.put_line-requires
put_line-requires c = rw (c.word_of.ensures, map-id c.args.fields.now) c.requires

pub returns : goal.returns
returns c = rw (c.word_of.ensures, map-id c.args.fields.now) at c.put_line.ensures
