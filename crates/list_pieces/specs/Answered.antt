-- What a call that lists answers, as the paper has it, and how many bytes it wrote: none where it is refused. Assumes nothing.
use Rattle.std.specs.Prelude.{Result, Ok, Err}
use Rattle.whole.specs.Plain.{ℕ}
use Rattle.paper.specs.Replies.{Listing}
use Rattle.paper.specs.declared.Unlisted.{Unlisted}
use Rattle.list_pieces.specs.declared.Piece.{Piece}

abbrev pub answer_of : Result Piece Unlisted → Listing
answer_of (Ok p) = Ok p.pause
answer_of (Err x) = Err x

abbrev pub count_of : Result Piece Unlisted → ℕ
count_of (Ok p) = p.count
count_of (Err x) = 0
