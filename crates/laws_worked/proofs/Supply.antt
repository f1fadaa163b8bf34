-- The power-frequency source worked: a table in the form of E1 to E10's. Assumes nothing.
use Rattle.std.specs.Prelude.{◌≡◌}
use Rattle.whole.specs.Plain.{refl, map}
use Rattle.paper.specs.Computing.{computing}
use Rattle.paper.proofs.Examples.{lines, place_of, looked, goes, played, replay, tabbed}
use Rattle.laws_worked.specs.Supply.{swings, supplies}

pub supplies_hold : map replay supplies ≡ supplies
unfolding computing place_of looked goes played replay tabbed lines swings supplies
supplies_hold = refl
