-- How one study is laid out, worked: node 4 is named by no row, and is an area of its own. Assumes nothing.
use Rattle.std.specs.Prelude.{Ok, Err, ◌≡◌, ◌∷◌}
use Rattle.whole.specs.Plain.{refl, [], pos, replicate, set, Words, z}
use Rattle.paper.specs.Limits as Limits
use Rattle.paper.specs.Reading.{read_of}
use Rattle.paper.specs.Computing.{computing}
use Rattle.paper.proofs.Examples.{lines, tabbed}
use Rattle.call_shape.specs.declared.Unasked.TheVariants.{Nothing, Network, Store}
use Rattle.call_shape.specs.Asked.{place_from, branch_row, areas_in, area_in, row_in, of_network, areas_asked, area_asked, row_asked}

unfoldable pub net : Words
net = (read_of (lines ("study 1000 9 0" ∷ "VS 1 1000 1 0" ∷ "R 1 2 1000" ∷ "LINE 2 3 400000 2000" ∷ "IS 3 5 1 0" ∷ "R 5 0 1000" ∷ [])) (replicate Limits.network_words z)).network

-- areas by the lowest node of each, the line's two ends apart
pub areas_told : (areas_asked net ∷ area_asked net 0 ∷ area_asked net 1 ∷ area_asked net 2 ∷ area_asked net 3 ∷ area_asked net 4 ∷ area_asked net 5 ∷ area_asked net 6 ∷ [])
    ≡ (Ok 4 ∷ Err Nothing ∷ Ok 1 ∷ Ok 1 ∷ Ok 2 ∷ Ok 3 ∷ Ok 4 ∷ Err Nothing ∷ [])
unfolding computing lines tabbed net place_from branch_row areas_in area_in row_in of_network
areas_told = refl

-- rows 1 and 4 are sources
pub rows_told : (row_asked net 0 ∷ row_asked net 1 ∷ row_asked net 2 ∷ row_asked net 3 ∷ row_asked net 4 ∷ []) ≡ (Err Nothing ∷ Ok 2 ∷ Ok 3 ∷ Ok 5 ∷ Err Nothing ∷ [])
unfolding computing lines tabbed net place_from branch_row areas_in area_in row_in of_network
rows_told = refl

-- a length before a damaged word, and both before a node or a branch that is not there
pub refused_told : (areas_asked (replicate 1023 z) ∷ area_asked (replicate 1023 z) 9 ∷ areas_asked (set net 4 (pos 1)) ∷ row_asked (set net 4 (pos 1)) 9 ∷ []) ≡ (Err Store ∷ Err Store ∷ Err Network ∷ Err Network ∷ [])
unfolding computing lines tabbed net place_from branch_row areas_in area_in row_in of_network
refused_told = refl
