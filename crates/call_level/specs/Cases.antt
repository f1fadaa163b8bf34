-- What a listing of a network that passes answers, case by case. Assumes nothing.
use Rattle.std.specs.Prelude.{Err}
use Rattle.std.specs.Prelude.{◌≡◌, ◌&&◌, ◌||◌}
use Rattle.whole.specs.Plain.{ℕ, refl, ◌∙◌, Bool, true, false, cond, not, List, []}
use Rattle.whole.specs.Plain.{arith, Words}
use Rattle.paper.specs.Replies.{Listing}
use Rattle.paper.specs.declared.Unlisted.TheVariants.{State}
use Rattle.paper.specs.Areas.{Net}
use Rattle.paper.specs.Records.{well_formed}
use Rattle.paper.specs.Advance.{Memory}
use Rattle.paper.specs.Pieces.{Listed, listed, level, piece_of, on_level}
use Rattle.list_digits.specs.Puts.{puts_none}
use Rattle.list_pieces.specs.Sofar.{Gives}

-- a refused call writes nothing
pub gives_none : {l : Listed} (out : List ℕ) (x : Listing) (m : Memory) → l ≡ listed x [] m → Gives l out x 0 out m
gives_none out x m e = rw e (record { answer = refl; puts = puts_none out 0; fit = omega arith; memory = refl })

-- 10, or the piece
swapped : {A : Type 0} (a b : Bool) (x y : A) → cond (not a || not b) x y ≡ cond (a && b) y x
swapped true true x y = refl
swapped true false x y = refl
swapped false b x y = refl

pub judged : (net : Words) (N : Net) (m : Memory) (room : ℕ) (t : Bool) → (well_formed N m.records m.froms m.tos && level N m.records) ≡ t
    → on_level net N m room ≡ cond t (piece_of net N m room) (listed (Err State) [] m)
unfolding on_level
judged net N m room t e = swapped (well_formed N m.records m.froms m.tos) (level N m.records) _ _ ∙ rw e
