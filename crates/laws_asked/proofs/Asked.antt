-- Worked examples of the requests of document 02, in the form of E1 to E10: a table for each request and one theorem over it. Assumes nothing.
use Rattle.std.specs.Prelude.{◌≡◌}
use Rattle.whole.specs.Plain.{refl, map}
use Rattle.paper.specs.Computing.{computing}
use Rattle.paper.proofs.Examples.{lines, tabbed}
use Rattle.laws_asked.specs.Asked.{put_over, saved_again, e1, mixed, savings}

pub savings_hold : map saved_again savings ≡ savings
unfolding computing tabbed lines put_over saved_again e1 mixed savings
savings_hold = refl
