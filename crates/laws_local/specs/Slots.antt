-- "Each line end keeps its last" sent values "in a store of its own; slots stand in table order", step s in place s mod their number: no two lines
-- share a slot, and a step writes one slot of each of its own line ends. Assumes nothing.
use Rattle.std.specs.Prelude.{◌+◌, ◌*◌, ◌%◌, ◌≤◌, ◌<◌, ◌≡◌, ◌≢◌, ◌&&◌}
use Rattle.whole.specs.Plain.{ℕ, refl, sym, ap, ◌∙◌, Bool, true, List, ℤ}
use Rattle.whole.specs.Plain.{length, mod-lt, add_left_cancel, dec_lt, arith, Words, word}
use Rattle.whole.specs.Folds.{and_left}
use Rattle.paper.specs.Rows.{is_line}
use Rattle.paper.specs.Faults.{delay, depth, slots}
use Rattle.paper.specs.Areas.{Net, step}
use Rattle.paper.specs.Records.{offset, slot_count}
use Rattle.paper.specs.Legs.{End, Branch, Heard, legs_by, legs_of, passed_on}
use Rattle.paper.specs.Advance.{put_if, put_sent, new_store}
use Rattle.laws_facts.specs.Nets.{row_at, slots_within, slots_apart}
use Rattle.laws_local.specs.Sound.{Sound}
use Rattle.laws_local.specs.Own.{row_is, legs_length, branch_is}
use Rattle.laws_local.specs.Puts.{put_length, put_other, put_same, turns_length, turns_other, turns_put}

abbrev pub slots_at : Net → ℕ → ℕ
slots_at N i = slots N.head (row_at N i)

abbrev pub delay_at : Net → ℕ → ℕ
delay_at N i = delay (step N) (row_at N i)

pub line_slots : (N : Net) (i : ℕ) → is_line (row_at N i) ≡ true → slots_at N i ≡ 2 * delay_at N i + depth N.head (row_at N i)
unfolding slots
line_slots N i e = rw e refl

-- a line has a slot at least
pub some_slots : (N : Net) (i : ℕ) → Sound N → is_line (row_at N i) ≡ true → 0 < slots_at N i
some_slots N i f e = rw (line_slots N i e) (omega (arith, f.travels i e))

-- the slot of step s
abbrev pub slot_of : Net → ℕ → ℕ → ℕ
slot_of N i s = offset N i + s % slots_at N i

-- ---- a line's slots lie before those of the lines below it

-- places s of line i and t of line j are the same only where the lines and the places are
pub apart : (N : Net) (i j s t : ℕ) → i < length N.rows → j < length N.rows → s < slots_at N i → t < slots_at N j → (i ≡ j → s ≢ t) → offset N i + s ≢ offset N j + t
apart N i j s t u v p q h e = go (dec_lt i j) (dec_lt j i)
  where
    go : Dec (i < j) → Dec (j < i) → ⊥
    go (yes l) d = omega (arith, slots_apart N i j l u)
    go (no l) (yes m) = omega (arith, slots_apart N j i m v)
    go (no l) (no m) = let g : i ≡ j = omega arith in h g (add_left_cancel (offset N i) (e ∙ ap (λ (x : ℕ). offset N x + t) (sym g)))

-- and they are all of the store's used part
pub slots_inside : (N : Net) (i s : ℕ) → i < length N.rows → s < slots_at N i → offset N i + s < slot_count N
slots_inside N i s h p = omega (arith, slots_within N i h)

-- ---- what a step writes at one end of its lines

module _ (N : Net) (a k : ℕ) (recs : Words) (ears : List Heard) (v : Words) (end : Branch → End) where
  abbrev pub sends : ℕ → Bool
  sends i = is_line (row_at N i) && (end (legs_by N a k recs ears i)).own

  abbrev pub sent : Words → Words
  sent w = new_store N k end (legs_of N a k recs ears) v w

  abbrev value : ℕ → ℤ
  value i = passed_on v (row_at N i) (end (legs_by N a k recs ears i)).wire

  pub sent_as : (i : ℕ) (w : Words) → i < length N.rows → put_sent N k end (legs_of N a k recs ears) v i w ≡ put_if (sends i) w (slot_of N i k) (value i)
  unfolding put_sent
  sent_as i w h = rw (branch_is N a k recs ears i h, row_is N a k recs ears i)

  sent_one : (i : ℕ) (w : Words) → length (put_sent N k end (legs_of N a k recs ears) v i w) ≡ length w
  unfolding put_sent
  sent_one i w = put_length _ w _ _

  pub sent_length : (w : Words) → length (sent w) ≡ length w
  unfolding new_store
  sent_length w = turns_length (put_sent N k end (legs_of N a k recs ears) v) (length (legs_of N a k recs ears)) sent_one w

  -- a slot that is none of those of step k
  pub sent_other : (j : ℕ) → ((i : ℕ) → i < length N.rows → sends i ≡ true → j ≢ slot_of N i k) → (w : Words) → word (sent w) j ≡ word w j
  unfolding new_store
  sent_other j h w =
      turns_other (put_sent N k end (legs_of N a k recs ears) v) (length (legs_of N a k recs ears)) j
      (λ i u p. let l : i < length N.rows = rw (legs_length N a k recs ears) at p in rw (sent_as i u l) (put_other (sends i) u (slot_of N i k) j (value i) (h i l))) w

  -- "It then sends -(g·v + i)", to the slot of its step
  pub sent_put : Sound N → (w : Words) → slot_count N ≤ length w → (i : ℕ) → i < length N.rows → sends i ≡ true → word (sent w) (slot_of N i k) ≡ value i
  unfolding new_store
  sent_put f w long i h o =
      turns_put (put_sent N k end (legs_of N a k recs ears) v) (length (legs_of N a k recs ears)) i (slot_of N i k) (value i) w (rw (legs_length N a k recs ears) h) sent_one
      (λ u l. rw (sent_as i u h) (put_same (sends i) u (slot_of N i k) (value i) o (rw l (omega (arith, slots_inside N i (k % slots_at N i) h (mod-lt k (some_slots N i f line)))))))
      (λ m u l q.
      let p : m < length N.rows = rw (legs_length N a k recs ears) at q in
      rw (sent_as m u p) (put_other (sends m) u (slot_of N m k) (slot_of N i k) (value m)
      (λ e. apart N i m (k % slots_at N i) (k % slots_at N m) h p (mod-lt k (some_slots N i f line)) (mod-lt k (some_slots N m f (and_left (is_line (row_at N m)) _ e))) (λ g. absurd (omega arith)))))
    where
      line : is_line (row_at N i) ≡ true
      line = and_left (is_line (row_at N i)) (end (legs_by N a k recs ears i)).own o
