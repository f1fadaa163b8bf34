-- The voltages by node before solving, sources at the area's fixed nodes and 0 elsewhere: node by node, how many, and in range. Assumes nothing.
use Rattle.std.specs.Prelude.{◌≤◌, ◌<◌, ◌≡◌, ◌&&◌}
use Rattle.whole.specs.Plain.{ℕ, zero, suc, refl, sym, ap, ◌∙◌, Bool, true, false, cond, and-false}
use Rattle.whole.specs.Plain.{[], eqb, ℤ, nat_abs, length, set, replicate, length-set, length-replicate}
use Rattle.whole.specs.Plain.{get_or-eq_default, eqb-true, le_trans, dec_lt, arith, Words, z, word, any, numbers}
use Rattle.whole.specs.Folds.{and_left, and_right, fold_keeps}
use Rattle.whole.specs.Filled.{get_d_same}
use Rattle.whole.specs.Written.{some_at, fold_set, total_none, kept_in, kept_out}
use Rattle.paper.specs.Limits as Limits
use Rattle.paper.specs.Rows.{is_fixing, at}
use Rattle.paper.specs.Classes.{fixing_source}
use Rattle.paper.specs.Faults.{fixes}
use Rattle.paper.specs.Areas.{Net, area_of, fixed, nodes_of}
use Rattle.paper.specs.Sources.{source, held}
use Rattle.paper.proofs.Kept.{either}
use Rattle.paper.specs.Solve.{still_of}
use Rattle.laws_facts.specs.Nets.{NetSound, row_at, held_is}
use Rattle.laws_volts.specs.Range.{set_end}
use Rattle.laws_volts.specs.Sources.{source_size}

-- ground and what is past the last node are in no area
pub area_node : (N : Net) → NetSound N → (a : ℕ) → 1 ≤ a → (n : ℕ) → area_of N n ≡ a → (1 ≤ n) × (n ≤ N.nodes)
area_node N s a one zero e = absurd (omega (arith, s.area_ground, e))
area_node N s a one (suc n) e = (omega arith, go (dec_lt N.nodes (suc n)))
  where
    go : Dec (N.nodes < suc n) → suc n ≤ N.nodes
    go (yes l) = absurd (omega (arith, get_or-eq_default N.areas 0 {n = suc n} (omega (arith, s.area_length)), e))
    go (no l) = omega arith

abbrev Volts : Words → Type 0
Volts v = (length v ≡ suc Limits.node_end) × ((n : ℕ) → nat_abs (word v n) ≤ Limits.voltage_end)

module _ (N : Net) (s : NetSound N) (a k : ℕ) where
  -- ---- what a VS or a VC holds its node at

  abbrev volt : ℕ → ℤ
  volt = held N k

  -- it is a node off ground, and the source's peak is in range
  with_vs : (n : ℕ) → fixed N n ≡ true → (1 ≤ n) × (n ≤ N.nodes) × (nat_abs (volt n) ≤ Limits.voltage_end)
  unfolding fixed fixes
  with_vs n e =
      let o = some_at (fixes n) N.rows [] e in
      let r = row_at N o.place in
      let v : is_fixing r ≡ true = and_left (is_fixing r) (eqb (at r) n) o.passes in
      let q : at r ≡ n = eqb-true (at r) n (and_right (is_fixing r) (eqb (at r) n) o.passes) in
      let t = (s.row o.place o.within).source (fixing_source r v) in
      (omega (arith, q, t.at_in.least), omega (arith, q, t.at_in.most), rw (held_is N s k n o.place o.within o.passes) (le_trans (source_size N k r) (t.volt_most v)))

  without_vs : (n : ℕ) → fixed N n ≡ false → volt n ≡ z
  unfolding fixed held
  without_vs n e = total_none (fixes n) (source N k) N.rows e

  -- ---- node by node

  -- an area's node has what its VS or VC holds, and 0 without one; any other node has 0
  pub still_at : (n : ℕ) → n ≤ Limits.node_end → word (still_of N a k) n ≡ cond (eqb (area_of N n) a) (held N k n) z
  unfolding still_of nodes_of
  still_at n h =
      fold_set (fixed N) volt (replicate (suc Limits.node_end) z) (nodes_of N a) n z (rw (length-replicate (suc Limits.node_end) z) (omega arith))
      ∙ ap (λ (x : ℤ). cond (any (λ m. eqb m n) (nodes_of N a) && fixed N n) (volt n) x) (get_d_same (suc Limits.node_end) n z)
      ∙ by (here n) refl (fixed N n) refl
    where
      here : ℕ → Bool
      here m = eqb (area_of N m) a

      by : (b : Bool) → here n ≡ b → (f : Bool) → fixed N n ≡ f → cond (any (λ m. eqb m n) (nodes_of N a) && f) (volt n) z ≡ cond b (volt n) z
      by true e true g = let v = with_vs n g in rw (kept_in here 1 N.nodes n e v.0 (omega (arith, v.1)))
      by true e false g = rw (and-false (any (λ m. eqb m n) (nodes_of N a))) (sym (without_vs n g))
      by false e f g = rw (kept_out here (numbers 1 N.nodes) n e)

  pub still_ground : word (still_of N a k) 0 ≡ z
  still_ground = still_at 0 (omega arith) ∙ either (λ x. x ≡ z) (eqb (area_of N 0) a) (volt 0) z (by (fixed N 0) refl) refl
    where
      by : (f : Bool) → fixed N 0 ≡ f → volt 0 ≡ z
      by true g = absurd (omega (arith, (with_vs 0 g).0))
      by false g = without_vs 0 g

  -- ---- how many, and in range

  still_volts : Volts (still_of N a k)
  unfolding still_of
  still_volts =
      fold_keeps Volts (λ v n. cond (fixed N n) (set v n (volt n)) v) (λ v n u. put v n u (fixed N n) refl) _ (nodes_of N a)
      (length-replicate (suc Limits.node_end) z, λ n. rw (get_d_same (suc Limits.node_end) n z) (omega arith))
    where
      put : (v : Words) (n : ℕ) → Volts v → (f : Bool) → fixed N n ≡ f → Volts (cond f (set v n (volt n)) v)
      put v n u true g = (length-set v n (volt n) ∙ u.0, λ i. set_end v n i Limits.voltage_end (volt n) (with_vs n g).2 (u.1 i))
      put v n u false g = u

  pub still_length : length (still_of N a k) ≡ suc Limits.node_end
  still_length = still_volts.0

  pub still_end : (n : ℕ) → nat_abs (word (still_of N a k) n) ≤ Limits.voltage_end
  still_end = still_volts.1
