-- The facts of a network, in one record: all that a step, a check or a promise may take as known of a record that passes refusal 8, or of a table
-- that passes. Assumes nothing.
use Rattle.std.specs.Prelude.{◌+◌, ◌*◌, ◌≤◌, ◌<◌, ◌≡◌, ◌↔◌}
use Rattle.whole.specs.Plain.{ℕ, suc, max, refl, sym, Bool, true, false}
use Rattle.whole.specs.Plain.{[], pos, length, get_or, take, get_or-eq_default, ne_eqb, dec_lt}
use Rattle.whole.specs.Plain.{arith, Words, z, word, nat, count}
use Rattle.std.proofs.Common.{add-one}
use Rattle.whole.specs.Folds.{count_next}
use Rattle.whole.specs.Most.{most_at, most_least}
use Rattle.whole.specs.Prefix.{sum_below, sum_within, total_alone}
use Rattle.whole.specs.Written.{count_take}
use Rattle.paper.specs.Limits as Limits
use Rattle.paper.specs.Rows.{Row, is_branch, is_source, is_line, is_breaker, from, to}
use Rattle.paper.specs.Faults.{fixes, slots}
use Rattle.paper.specs.Network.{table_of, is_network}
use Rattle.paper.specs.Areas.{Net, net_of, net_on, area_of, area_count, row_area, joins, branch_number}
use Rattle.paper.specs.Records.{latch_at, offset, slot_count}
use Rattle.paper.specs.Latch.{holds}
use Rattle.paper.specs.Sources.{source, held}
use Rattle.paper.specs.Legs.{is_open, conducts}
use Rattle.laws_paths.specs.Paths.{Linked}
use Rattle.laws_paths.specs.Meaning.{area_joins}
use Rattle.laws_facts.specs.Sound.{StudySound, RowSound}
use Rattle.laws_facts.specs.Layout as Layout

abbrev pub row_at : Net → ℕ → Row
row_at N i = get_or N.rows i []

pub record NetSound (N : Net) : Type 0 where
  pub study : StudySound N.head
  pub row : (i : ℕ) → i < length N.rows → RowSound N.head N.nodes (row_at N i)
  pub node_most : N.nodes ≤ Limits.node_end
  pub row_most : length N.rows ≤ Limits.row_end
  pub branch_most : count is_branch N.rows ≤ Limits.branch_end
  pub source_most : count is_source N.rows ≤ Limits.source_end
  pub slot_most : slot_count N ≤ Limits.store_words
  pub once : (i j n : ℕ) → i < length N.rows → j < length N.rows → fixes n (row_at N i) ≡ true → fixes n (row_at N j) ≡ true → i ≡ j
  pub area_length : length N.areas ≡ suc N.nodes
  pub area_ground : area_of N 0 ≡ 0
  pub area_least : (n : ℕ) → 1 ≤ n → n ≤ N.nodes → 1 ≤ area_of N n
  pub area_most : (n : ℕ) → n ≤ N.nodes → area_of N n ≤ n
  pub area_one : (i : ℕ) → i < length N.rows → joins (row_at N i) ≡ true → area_of N (from (row_at N i)) ≡ area_of N (to (row_at N i))
  pub area_some : (a : ℕ) → 1 ≤ a → a ≤ area_count N → (n : ℕ) × ((1 ≤ n) × ((n ≤ N.nodes) × (area_of N n ≡ a)))
  pub area_linked : (n p : ℕ) → 1 ≤ n → n ≤ N.nodes → 1 ≤ p → p ≤ N.nodes → Linked (area_joins N.rows) n p ↔ (area_of N n ≡ area_of N p)

-- ---- slots: "slots stand in table order"

pub slots_within : (N : Net) (i : ℕ) → i < length N.rows → offset N i + slots N.head (row_at N i) ≤ slot_count N
unfolding offset slot_count
slots_within N i h = sum_within [] (slots N.head) N.rows i h

pub slots_apart : (N : Net) (i j : ℕ) → i < j → i < length N.rows → offset N i + slots N.head (row_at N i) ≤ offset N j
unfolding offset
slots_apart N i j l h = sum_below [] (slots N.head) N.rows i j l h

-- ---- of the records only an SW's latch tells what its row conducts
pub conducts_same : (N : Net) (recs recs' : Words) (k i : ℕ) → (is_breaker (row_at N i) ≡ true → word recs (latch_at i) ≡ word recs' (latch_at i)) → conducts N recs k i ≡ conducts N recs' k i
unfolding conducts is_open holds
conducts_same N recs recs' k i same = elim (is_breaker (row_at N i)) as (λ b. is_breaker (row_at N i) ≡ b → conducts N recs k i ≡ conducts N recs' k i) [
  | true ↦ λ e. rw (same e)
  | false ↦ λ e. rw e
] refl

-- ---- a fixed node's voltage is that of its one VS or VC

pub held_is : (N : Net) → NetSound N → (k n i : ℕ) → i < length N.rows → fixes n (row_at N i) ≡ true → held N k n ≡ source N k (row_at N i)
unfolding held
held_is N s k n i h f = total_alone [] (fixes n) (source N k) N.rows i h f others
  where
    others : (j : ℕ) → j < length N.rows → (i ≡ j → ⊥) → fixes n (row_at N j) ≡ false
    others j q u = go (fixes n (row_at N j)) refl
      where
        go : (b : Bool) → fixes n (row_at N j) ≡ b → b ≡ false
        go true g = absurd (u (s.once i j n h q f g))
        go false g = refl

-- ---- areas

pub area_of_lem : (N : Net) (n : ℕ) → area_of N n ≤ area_count N
unfolding area_count
area_of_lem N n = go (dec_lt n (length N.areas))
  where
    go : Dec (n < length N.areas) → area_of N n ≤ area_count N
    go (yes h) = most_at (λ a. a) 0 N.areas 0 n h
    go (no h) = let z : area_of N n ≡ 0 = get_or-eq_default N.areas 0 (omega arith) in omega arith

pub area_count_most : (N : Net) → NetSound N → area_count N ≤ N.nodes
unfolding area_count
area_count_most N s = most_least (λ a. a) 0 N.nodes N.areas 0 (omega arith) (λ i h. let k : i ≤ N.nodes = omega (arith, s.area_length) in omega (arith, s.area_most i k))

-- the area of an R, L, C, SW or SWT is that of each of its ends that is not ground
module _ (N : Net) (s : NetSound N) (i : ℕ) (h : i < length N.rows) (b : is_branch (row_at N i) ≡ true) (p : is_line (row_at N i) ≡ false) where
  both_off : 1 ≤ from (row_at N i) → 1 ≤ to (row_at N i) → joins (row_at N i) ≡ true
  unfolding joins
  both_off f t = rw (b, p, ne_eqb (from (row_at N i)) 0 (λ q. omega arith), ne_eqb (to (row_at N i)) 0 (λ q. omega arith))

  pub row_area_from : 1 ≤ from (row_at N i) → row_area N (row_at N i) ≡ area_of N (from (row_at N i))
  row_area_from f = go (dec_lt (from (row_at N i)) (to (row_at N i)))
    where
      go : Dec (from (row_at N i) < to (row_at N i)) → row_area N (row_at N i) ≡ area_of N (from (row_at N i))
      go (yes l) =
          let m : max (from (row_at N i)) (to (row_at N i)) ≡ to (row_at N i) = omega arith in
          rw m (sym (s.area_one i h (both_off f (omega arith))))
      go (no l) = let m : max (from (row_at N i)) (to (row_at N i)) ≡ from (row_at N i) = omega arith in rw m

  pub row_area_to : 1 ≤ to (row_at N i) → row_area N (row_at N i) ≡ area_of N (to (row_at N i))
  row_area_to t = go (dec_lt (from (row_at N i)) (to (row_at N i)))
    where
      go : Dec (from (row_at N i) < to (row_at N i)) → row_area N (row_at N i) ≡ area_of N (to (row_at N i))
      go (yes l) = let m : max (from (row_at N i)) (to (row_at N i)) ≡ to (row_at N i) = omega arith in rw m
      go (no l) =
          let m : max (from (row_at N i)) (to (row_at N i)) ≡ from (row_at N i) = omega arith in
          rw m (s.area_one i h (both_off (omega arith) t))

-- ---- "Branches are numbered from 1 in table order, sources not counted"

pub branch_number_most : (N : Net) → NetSound N → (i : ℕ) → branch_number N i ≤ Limits.branch_end
unfolding branch_number
branch_number_most N s i = omega (arith, count_take is_branch N.rows i, s.branch_most)

pub branch_number_next : (N : Net) (i : ℕ) → i < length N.rows → is_branch (row_at N i) ≡ true → branch_number N (suc i) ≡ suc (branch_number N i)
unfolding branch_number
branch_number_next N i h b =
    let c : count is_branch (take (i + 1) N.rows) ≡ count is_branch (take i N.rows) + 1 = rw b at (count_next is_branch N.rows i [] h) in
    omega (arith, rw add-one at c)

-- ---- of a record

abbrev pub net_in : Words → Net
net_in net = net_of (table_of net)

module _ (net : Words) (e : is_network net ≡ true) where
  pub network_length : length net ≡ Limits.network_words
  network_length = Layout.network_length net e

  -- the number of rows
  pub row_count : length (net_in net).rows ≡ nat (word net 3)
  unfolding net_of net_on
  row_count = Layout.row_count net e

  pub row_count_word : word net 3 ≡ pos (length (net_in net).rows)
  unfolding net_of net_on
  row_count_word = Layout.row_count_word net e

  -- the words of row i, and the study's
  pub row_word : (i j : ℕ) → i < length (net_in net).rows → j < 8 → word (row_at (net_in net) i) j ≡ word net (8 + 8 * i + j)
  unfolding net_of net_on
  row_word = Layout.row_word net e

  pub head_word : (j : ℕ) → j < 3 → word (net_in net).head (suc j) ≡ word net j
  unfolding net_of net_on
  head_word = Layout.head_word net e

  -- a row has the words of its kind's fields and no more
  pub row_room : (i : ℕ) → i < length (net_in net).rows → length (row_at (net_in net) i) ≤ Layout.room_of (row_at (net_in net) i)
  unfolding net_of net_on
  row_room = Layout.row_room_in net e

  pub row_beyond : (i j : ℕ) → i < length (net_in net).rows → Layout.room_of (row_at (net_in net) i) ≤ j → word (row_at (net_in net) i) j ≡ z
  row_beyond i j h k = get_or-eq_default (row_at (net_in net) i) z (omega (arith, row_room i h))

  pub head_zero : (k : ℕ) → 4 ≤ k → k < 8 → word net k ≡ z
  head_zero = Layout.head_zero net e

  -- the words that no row has
  pub after_rows : (k : ℕ) → 8 + 8 * length (net_in net).rows ≤ k → word net k ≡ z
  unfolding net_of net_on
  after_rows = Layout.after_rows net e
