-- E3 by pieces: a buffer of 4,160 bytes takes one step at a time; and two nodes that float, in the first area and in the second. Assumes nothing.
use Rattle.std.specs.Prelude.{Ok, Err}
use Rattle.std.specs.Prelude.{◌≡◌, ◌∷◌}
use Rattle.whole.specs.Plain.{refl, [], replicate, Words, z}
use Rattle.paper.specs.declared.Pause.TheVariants.{More, Done, Stopped}
use Rattle.paper.specs.declared.Unlisted.TheVariants.{State}
use Rattle.paper.specs.declared.Refusal.TheVariants.{Floating}
use Rattle.paper.specs.Limits as Limits
use Rattle.paper.specs.Reading.{read_of}
use Rattle.paper.specs.Resetting.{fresh}
use Rattle.paper.specs.Pieces.{list_of, stop_area, stop_number, stop_place}
use Rattle.paper.specs.Computing.{computing}
use Rattle.paper.proofs.Examples.{lines, tabbed}

unfoldable pub coil : Words
coil = (read_of (lines ("study 1000 2 0" ∷ "VS 1 1000 1 0" ∷ "L 1 0 1000000" ∷ [])) (replicate Limits.network_words z)).network

pub first_piece : ((list_of coil fresh 4160).answer ≡ Ok More) × ((list_of coil fresh 4160).written ≡ lines ("v 1 1 1000" ∷ "i 1 1 500000000" ∷ []))
unfolding computing coil lines tabbed
first_piece = (refl, refl)

pub last_piece : ((list_of coil (list_of coil fresh 4160).after 4160).answer ≡ Ok Done)
    × ((list_of coil (list_of coil fresh 4160).after 4160).written ≡ lines ("v 2 1 1000" ∷ "i 2 1 1500000000" ∷ "done 2" ∷ []))
unfolding computing coil lines tabbed
last_piece = (refl, refl)

unfoldable pub afloat : Words
afloat = (read_of (lines ("study 1000 1 0" ∷ "R 1 2 1000" ∷ [])) (replicate Limits.network_words z)).network

unfoldable pub earthed : Words
earthed = (read_of (lines ("study 1000 1 0" ∷ "R 1 0 1000" ∷ "R 2 3 1000" ∷ [])) (replicate Limits.network_words z)).network

pub stop_piece : ((list_of afloat fresh 4160).answer ≡ Ok (Stopped 1 (Floating 1))) × ((list_of afloat fresh 4160).written ≡ lines ("stop 1 1 14 1" ∷ []))
    × ((list_of afloat (list_of afloat fresh 4160).after 4160).answer ≡ Ok (Stopped 1 (Floating 1)))
unfolding computing afloat lines tabbed
stop_piece = (refl, refl, refl)

pub stop_second : let x = (list_of earthed fresh 4160).answer in (stop_area x ≡ 2) × (stop_number x ≡ 14) × (stop_place x ≡ 2)
    × ((list_of earthed (list_of earthed fresh 4160).after 4160).answer ≡ Err State)
unfolding computing earthed lines tabbed
stop_second = (refl, refl, refl, refl)
