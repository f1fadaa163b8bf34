-- "An area's advance writes only the slots of its own line ends": whose each word of a line store is, and that a call leaves every word of the
-- records and stores that is not its area's. Assumes nothing.
use Rattle.std.specs.Prelude.{◌+◌, ◌%◌, ◌≤◌, ◌<◌, ◌≡◌, ◌≢◌, ◌&&◌, ◌∷◌}
use Rattle.whole.specs.Plain.{ℕ, zero, suc, refl, ap, ◌∙◌, true, cond, List, []}
use Rattle.whole.specs.Plain.{leb, ltb, length, get_or, take, leb-true, lt-ltb, le-ltb, le-leb, mod-lt, arith, Words}
use Rattle.whole.specs.Plain.{word, sum}
use Rattle.whole.specs.Folds.{and_left, and_right}
use Rattle.paper.specs.Rows.{Row, is_line, from, to}
use Rattle.paper.specs.Faults.{slots}
use Rattle.paper.specs.Areas.{Net, area_of, area_count}
use Rattle.paper.specs.Records.{offset, owner_of, well_formed}
use Rattle.paper.specs.Legs.{Heard, heard}
use Rattle.paper.specs.Advance.{Memory, Advanced, written, on_net}
use Rattle.laws_facts.specs.Nets.{row_at}
use Rattle.laws_local.specs.Sound.{Sound}
use Rattle.laws_local.specs.Own.{from_own, to_own}
use Rattle.laws_local.specs.Written.{records_keep}
use Rattle.laws_local.specs.Slots.{slots_at, slot_of, some_slots, sent_other}
use Rattle.laws_local.specs.Outcome.{step_of, legs_now, volts_of, Outcome, no_area, done, waits, stops, takes, outcome}

-- the area of the line end that keeps word j, the slots of `rows` beginning at `off`; 0 for an unused word
unfoldable pub keeper_in : Net → (Row → ℕ) → ℕ → List Row → ℕ → ℕ
keeper_in N end off [] j = 0
keeper_in N end off (r ∷ rows) j =
    let o = keeper_in N end (off + slots N.head r) rows j in
    cond (leb off j && ltb j (off + slots N.head r)) (area_of N (end r)) o

-- of the from-end store (`end` is `from`) or of the to-end store (`to`)
unfoldable pub keeper_of : Net → (Row → ℕ) → ℕ → ℕ
keeper_of N end j = keeper_in N end 0 N.rows j

keeper_in_lem : (N : Net) (end : Row → ℕ) (off : ℕ) (rows : List Row) (i s : ℕ) → i < length rows → s < slots N.head (get_or rows i [])
    → keeper_in N end off rows (off + sum (slots N.head) (take i rows) + s) ≡ area_of N (end (get_or rows i []))
unfolding keeper_in sum
keeper_in_lem N end off [] i s h p = absurd (omega arith)
keeper_in_lem N end off (r ∷ rows) zero s h p =
    let e : off + 0 + s ≡ off + s = omega arith in
    rw (e, le-leb off (off + s) (omega arith), lt-ltb (off + s) (off + slots N.head r) (omega arith))
keeper_in_lem N end off (r ∷ rows) (suc i) s h p =
    let j = off + (slots N.head r + sum (slots N.head) (take i rows)) + s in
    let e : j ≡ off + slots N.head r + sum (slots N.head) (take i rows) + s = omega arith in
    rw (le-leb off j (omega arith), le-ltb j (off + slots N.head r) (omega arith), e) (keeper_in_lem N end (off + slots N.head r) rows i s (omega arith) p)

pub keeper_of_lem : (N : Net) (end : Row → ℕ) (i s : ℕ) → i < length N.rows → s < slots_at N i → keeper_of N end (offset N i + s) ≡ area_of N (end (row_at N i))
unfolding keeper_of offset
keeper_of_lem N end i s h p =
    let e : offset N i + s ≡ 0 + offset N i + s = omega arith in
    ap (keeper_in N end 0 N.rows) e ∙ keeper_in_lem N end 0 N.rows i s h p

-- ---- a call

-- every word that is not area a's own is as it was
pub record OnlyOwn (N : Net) (a : ℕ) (m n : Memory) : Type 0 where
  pub records : (j : ℕ) → owner_of N j ≢ a → word n.records j ≡ word m.records j
  pub froms : (j : ℕ) → keeper_of N from j ≢ a → word n.froms j ≡ word m.froms j
  pub tos : (j : ℕ) → keeper_of N to j ≢ a → word n.tos j ≡ word m.tos j

nothing_written : (N : Net) (a : ℕ) (m : Memory) → OnlyOwn N a m m
nothing_written N a m = record { records = λ j n. refl; froms = λ j n. refl; tos = λ j n. refl }

-- the slot of a line end that a step sends from is its area's
sends_own : (N : Net) (a k : ℕ) (end : Row → ℕ) (i : ℕ) → Sound N → i < length N.rows → is_line (row_at N i) ≡ true → area_of N (end (row_at N i)) ≡ a
    → keeper_of N end (slot_of N i k) ≡ a
sends_own N a k end i f h l o = keeper_of_lem N end i (k % slots_at N i) h (mod-lt k (some_slots N i f l)) ∙ o

step_own : (N : Net) (a : ℕ) (m : Memory) → Sound N → 1 ≤ a → a ≤ area_count N
    → OnlyOwn N a m (written N a (step_of N a m) (legs_now N a m) (volts_of N a (step_of N a m) (legs_now N a m)) m)
unfolding written
step_own N a m f one most = record {
  records = λ j n. records_keep N a k (legs_now N a m) v m.records j n;
  froms = λ j n. sent_other N a k m.records ears v (λ b. b.is_from_end) j
      (λ i h o e. n (rw e (sends_own N a k from i f h (and_left (is_line (row_at N i)) _ o)
      (rw (and_left (is_line (row_at N i)) _ o) at (from_own N a k m.records ears i (and_right (is_line (row_at N i)) _ o)))))) m.froms;
  tos = λ j n. sent_other N a k m.records ears v (λ b. b.is_to_end) j
      (λ i h o e. n (rw e (sends_own N a k to i f h (and_left (is_line (row_at N i)) _ o)
      (to_own N a k m.records ears i (and_left (is_line (row_at N i)) _ o) (and_right (is_line (row_at N i)) _ o))))) m.tos;
}
  where
    k : ℕ
    k = step_of N a m

    ears : List Heard
    ears = heard N a k m.froms m.tos

    v : Words
    v = volts_of N a k (legs_now N a m)

-- T-local, its second half: a call of area a writes nothing but what is a's
pub writes_own : (N : Net) (a : ℕ) (m : Memory) → Sound N → well_formed N m.records m.froms m.tos ≡ true → OnlyOwn N a m (on_net N a m).after
writes_own N a m f good = go (outcome N a m good)
  where
    by : (r : Advanced) → on_net N a m ≡ r → OnlyOwn N a m r.after → OnlyOwn N a m (on_net N a m).after
    by r e h = rw e h

    go : Outcome N a m → OnlyOwn N a m (on_net N a m).after
    go (no_area e x) = by _ x (nothing_written N a m)
    go (done e d x) = by _ x (nothing_written N a m)
    go (waits r e d l x) = by _ x (nothing_written N a m)
    go (stops y s e d l v x) = by _ x (nothing_written N a m)
    go (takes e d l v x) =
        by _ x (step_own N a m f (leb-true 1 a (and_left (leb 1 a) (leb a (area_count N)) e)) (leb-true a (area_count N) (and_right (leb 1 a) (leb a (area_count N)) e)))
