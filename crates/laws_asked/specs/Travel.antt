-- "Travel times between steps": worked examples as one table with one theorem over it, in the form of E1 to E10; and where every travel time is a whole
-- number of steps, 01's definitions are what they were. Assumes nothing.
use Rattle.std.specs.Prelude.{Ok, Err}
use Rattle.std.specs.Prelude.{◌+◌, ◌-◌, ◌*◌, ◌%◌, ◌≤◌, ◌<◌, ◌≡◌, ◌&&◌, ◌∷◌}
use Rattle.whole.specs.Plain.{ℕ, zero, suc, refl, ◌∙◌, Bool, true, false, cond, not}
use Rattle.whole.specs.Plain.{List, [], map, eqb, ltb, ℤ, length, get_or, take, eq-eqb, le-ltb, mod-add-div', zero-mul, arith, Words, z, word, sum}
use Rattle.paper.specs.declared.Fault.TheVariants.{Full}
use Rattle.paper.specs.declared.Unread.TheVariants.{Line}
use Rattle.paper.specs.declared.Refusal.TheVariants.{Wait}
use Rattle.paper.specs.Rows.{Row, is_line, travel, step_length}
use Rattle.paper.specs.Faults.{travel_fault, delay, rest, slots}
use Rattle.paper.specs.Areas.{Net, step}
use Rattle.paper.specs.Records.{offset}
use Rattle.paper.specs.Legs.{sent_at, sent_to}
use Rattle.paper.specs.Computing.{computing}
use Rattle.paper.proofs.Examples.{Example, runs, lists, call, lines, place_of, looked, goes, played, replay, tabbed}
use Rattle.laws_facts.specs.Travels.{received_whole, slots_whole}

-- ---- the table

unfoldable pub travels : List Example
travels =
    -- a quarter of the way: steps 3 and 4 of node 2 are 1500 and 2000
    lists (lines ("study 1000 4 0" ∷ "VS 1 1000 1 0" ∷ "LINE 1 2 400000 2250" ∷ []))
    (lines ("v 1 1 1000" ∷ "v 1 2 0" ∷ "i 1 1 2500000000 0" ∷
    "v 2 1 1000" ∷ "v 2 2 0" ∷ "i 2 1 2500000000 0" ∷
    "v 3 1 1000" ∷ "v 3 2 1500" ∷ "i 3 1 2500000000 0" ∷
    "v 4 1 1000" ∷ "v 4 2 2000" ∷ "i 4 1 2500000000 0" ∷
    "done 4" ∷ []))
    -- "rounded down" also for negative differences; toward zero the to end's current of step 2 would be 334, with the weights exchanged node 2 would then be
    -- -5, and with 2q slots it would be -12 at step 3
    ∷ lists (lines ("study 3 6 1000000000000000" ∷ "VS 1 -7 1 0" ∷ "LINE 1 2 999999999 4" ∷ "R 2 0 300000000000" ∷ []))
    (lines ("v 1 1 -7" ∷ "v 1 2 0" ∷ "i 1 1 -7000 0" ∷ "i 1 2 0" ∷
    "v 2 1 -7" ∷ "v 2 2 -9" ∷ "i 2 1 -7000 333" ∷ "i 2 2 -27" ∷
    "v 3 1 -7" ∷ "v 3 2 -14" ∷ "i 3 1 -1222 0" ∷ "i 3 2 -42" ∷
    "v 4 1 -7" ∷ "v 4 2 -10" ∷ "i 4 1 5222 148" ∷ "i 4 2 -30" ∷
    "v 5 1 -7" ∷ "v 5 2 -4" ∷ "i 5 1 4234 -74" ∷ "i 5 2 -12" ∷
    "v 6 1 -7" ∷ "v 6 2 -2" ∷ "i 6 1 -1000 436" ∷ "i 6 2 -6" ∷
    "done 6" ∷ []))
    -- "The wait rule reads k - q, the count difference allowed is q": q is 1
    ∷ runs (lines ("study 1000 8 0" ∷ "VS 1 1000 1 0" ∷ "LINE 1 2 400000 1500" ∷ [])) (Ok tt)
    (call 1 (Ok 1) [] ∷ call 1 (Err (Wait 1)) [] ∷ call 2 (Ok 1) [] ∷ call 2 (Ok 2) [] ∷ call 1 (Ok 2) [] ∷ call 1 (Ok 3) [] ∷ call 2 (Ok 3) [] ∷ [])
    -- "6 counts the new slots": 2,048 steps and a rest need 4,097, one step less and a rest 4,095
    ∷ runs (lines ("study 2 1 0" ∷ "VS 1 1000 1 0" ∷ "LINE 1 2 400000 4097" ∷ [])) (Err (Line 3 Full)) []
    ∷ runs (lines ("study 2 1 0" ∷ "VS 1 1000 1 0" ∷ "LINE 1 2 400000 4096" ∷ [])) (Ok tt) []
    ∷ runs (lines ("study 2 1 0" ∷ "VS 1 1000 1 0" ∷ "LINE 1 2 400000 4095" ∷ [])) (Ok tt) []
    ∷ []

pub travels_hold : map replay travels ≡ travels
unfolding computing place_of looked goes played replay tabbed lines travels
travels_hold = refl

-- ---- "r = 0 stays as it was"

-- as 01 had them: 4 "travel not a multiple of the step"; "2d" slots; "what the far end sent at step k - d, or 0 where k - d < 1"; "step s in place s mod 2d"
unfoldable pub fault_before : Row → Row → Bool
fault_before head r = is_line r && not (eqb (travel r % step_length head) 0)

unfoldable pub slots_before : Row → Row → ℕ
slots_before head r = cond (is_line r) (2 * delay (step_length head) r) 0

unfoldable pub sent_before : Net → ℕ → ℕ → Row → Words → ℤ
sent_before N k i r store =
    let s = k - delay (step N) r in
    cond (ltb 0 s) (word store (sum (slots_before N.head) (take i N.rows) + s % slots_before N.head r)) z

pub fault_as_before : (head r : Row) → 1 ≤ travel r → rest (step_length head) r ≡ 0 → travel_fault head r ≡ fault_before head r
unfolding travel_fault fault_before
fault_as_before head r one e = rw (eq-eqb (rest (step_length head) r) 0 e, le-ltb (travel r) (step_length head) (long (delay (step_length head) r) refl))
  where
    long : (q : ℕ) → delay (step_length head) r ≡ q → step_length head ≤ travel r
    long zero f = let g : delay (step_length head) r * step_length head ≡ 0 = rw f (zero-mul (step_length head)) in absurd (omega (arith, e, mod-add-div' (travel r) (step_length head)))
    long (suc q) f = let g : delay (step_length head) r * step_length head ≡ step_length head + q * step_length head = rw f (omega arith) in omega (arith, mod-add-div' (travel r) (step_length head))

-- a network all of whose lines are so
module _ (N : Net) (even : (i : ℕ) → i < length N.rows → is_line (get_or N.rows i []) ≡ true → rest (step N) (get_or N.rows i []) ≡ 0) where
  pub slots_as_before : (r : Row) → (is_line r ≡ true → rest (step N) r ≡ 0) → slots N.head r ≡ slots_before N.head r
  unfolding slots slots_before
  slots_as_before r h = elim (is_line r) as (λ b. is_line r ≡ b → slots N.head r ≡ slots_before N.head r) [ true ↦ λ e. slots_whole N.head r (h e) | false ↦ λ e. rw e ] refl

  sums : (l : List Row) (i : ℕ) → ((j : ℕ) → j < length l → is_line (get_or l j []) ≡ true → rest (step N) (get_or l j []) ≡ 0)
      → sum (slots N.head) (take i l) ≡ sum (slots_before N.head) (take i l)
  unfolding sum
  sums l zero h = refl
  sums [] (suc i) h = refl
  sums (r ∷ l) (suc i) h = rw (slots_as_before r (h 0 (omega arith)), sums l i (λ j p. h (suc j) (omega arith)))

  pub sent_as_before : (k i : ℕ) → i < length N.rows → is_line (get_or N.rows i []) ≡ true → (store : Words)
      → sent_to N k i (get_or N.rows i []) store ≡ sent_before N k i (get_or N.rows i []) store
  unfolding sent_to sent_before sent_at offset
  sent_as_before k i h l store =
      let r = get_or N.rows i [] in
      received_whole N.head r (even i h l) k (λ s. word store (offset N i + s % slots N.head r)) ∙ rw (slots_as_before r (even i h), sums N.rows i even)
