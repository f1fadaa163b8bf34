-- The power-frequency source worked: a table in the form of E1 to E10's. Assumes nothing.
use Rattle.std.specs.Prelude.{Ok, Err}
use Rattle.std.specs.Prelude.{◌∷◌, ◌++◌}
use Rattle.whole.specs.Plain.{ℕ, suc, List, [], ℤ, pos, negsuc, replicate, z}
use Rattle.paper.specs.declared.Fault.TheVariants.{Form, Node, Value, Double, Full}
use Rattle.paper.specs.declared.Unread.TheVariants.{Line}
use Rattle.paper.proofs.Examples.{Example, Call, runs, call, volts, lines}

-- step by step from step k on, node 1's voltage
unfoldable pub swings : ℕ → List ℤ → List Call
swings k [] = []
swings k (x ∷ xs) = call 1 (Ok k) (volts 1 x ∷ []) ∷ swings (suc k) xs

unfoldable pub supplies : List Example
supplies =
    -- "From start, with n steps since": 0 before it, and the whole peak at it
    runs (lines ("study 1000000 7 0" ∷ "VC 1 1000 2 50000" ∷ "R 1 0 1000000" ∷ [])) (Ok tt)
    (swings 1 (z ∷ pos 1000 ∷ pos 951 ∷ pos 810 ∷ pos 590 ∷ pos 313 ∷ z ∷ []))
    -- "the index is 1024 times that over 10^12, rounded down": 102.4, 204.8 and 307.2
    ∷ runs (lines ("study 1000000 4 0" ∷ "VC 1 20000000 1 100000" ∷ [])) (Ok tt)
    (swings 1 (pos 20000000 ∷ pos 16209143 ∷ pos 6273634 ∷ negsuc 6156991 ∷ []))
    -- "the other quarters by symmetry", "rounded toward zero" on either side of it, and "modulo 10^12" after ten steps
    ∷ runs (lines ("study 1000000 12 0" ∷ "VC 1 -1000 1 100000" ∷ [])) (Ok tt)
    (swings 1 (negsuc 999 ∷ negsuc 809 ∷ negsuc 312 ∷ pos 307 ∷ pos 806 ∷ pos 1000 ∷ pos 810 ∷ pos 313 ∷ negsuc 306 ∷ negsuc 805 ∷ negsuc 999 ∷ negsuc 809 ∷ []))
    -- "5 covers any two of VS and VC"
    ∷ runs (lines ("study 1000 1 0" ∷ "VS 1 5 1 0" ∷ "VC 1 7 1 50000" ∷ [])) (Err (Line 3 Double)) []
    ∷ runs (lines ("study 1000 1 0" ∷ "VC 1 7 1 50000" ∷ "VS 1 5 1 0" ∷ [])) (Err (Line 3 Double)) []
    ∷ runs (lines ("study 1000 1 0" ∷ "VC 1 7 1 50000" ∷ "VC 1 7 1 50000" ∷ [])) (Err (Line 3 Double)) []
    -- "6 counts a VC as a source": the 17th
    ∷ runs (lines ("study 1000 1 0" ∷ (replicate 16 "IS 1 0 1 0" ++ ("VC 1 0 1 1" ∷ [])))) (Err (Line 18 Full)) []
    ∷ runs (lines ("study 1000 1 0" ∷ "VC 1 0 1 1" ∷ replicate 16 "IS 2 0 1 0")) (Err (Line 18 Full)) []
    -- "frequency in mHz (1 to 100,000)", the peak and the start as a VS has them; ground; a number short; another word
    ∷ runs (lines ("study 1000 1 0" ∷ "VC 1 7 1 100001" ∷ [])) (Err (Line 2 Value)) []
    ∷ runs (lines ("study 1000 1 0" ∷ "VC 1 7 1 0" ∷ [])) (Err (Line 2 Value)) []
    ∷ runs (lines ("study 1000 1 0" ∷ "VC 1 20000001 1 1" ∷ [])) (Err (Line 2 Value)) []
    ∷ runs (lines ("study 1000 1 0" ∷ "VC 1 -20000001 1 1" ∷ [])) (Err (Line 2 Value)) []
    ∷ runs (lines ("study 1000 1 0" ∷ "VC 1 -20000000 1000000 100000" ∷ [])) (Ok tt) []
    ∷ runs (lines ("study 1000 1 0" ∷ "VC 1 7 0 1" ∷ [])) (Err (Line 2 Value)) []
    ∷ runs (lines ("study 1000 1 0" ∷ "VC 1 7 1000001 1" ∷ [])) (Err (Line 2 Value)) []
    ∷ runs (lines ("study 1000 1 0" ∷ "VC 0 7 1 1" ∷ [])) (Err (Line 2 Node)) []
    ∷ runs (lines ("study 1000 1 0" ∷ "VC 33 7 1 1" ∷ [])) (Err (Line 2 Node)) []
    ∷ runs (lines ("study 1000 1 0" ∷ "VC 1 -0 1 1" ∷ [])) (Err (Line 2 Form)) []
    ∷ runs (lines ("study 1000 1 0" ∷ "VC 1 7 1" ∷ [])) (Err (Line 2 Form)) []
    ∷ runs (lines ("study 1000 1 0" ∷ "VD 1 7 1 1" ∷ [])) (Err (Line 2 Form)) []
    ∷ []
