-- What an area's legs and nodes write into the records. Assumes nothing.
use Rattle.std.specs.Prelude.{◌+◌, ◌-◌, ◌≤◌, ◌<◌, ◌≡◌, ◌⊎◌, ◌&&◌, ◌||◌, ◌∷◌}
use Rattle.whole.specs.Plain.{ℕ, suc, refl, sym, ◌∙◌, true≢false, inr, ⊎_elim, Bool, true, false, cond, List, [], eqb, ℤ, pos, nat_abs}
use Rattle.whole.specs.Plain.{length, get_or, set, get_or-set_other, ne_eqb, ℕ_discrete, arith, Words, z, word, fold}
use Rattle.plan_rows.specs.Planned.{Plan}
use Rattle.paper.specs.Limits as Limits
use Rattle.paper.specs.Records.{counts, voltages, outdone, histories, peaks, peak_steps, latches, current_at, to_current_at, history_at, latch_at}
use Rattle.paper.specs.Advance.{put_if}
use Rattle.step_legs.specs.declared.Wire.{Wire}
use Rattle.step_legs.specs.Wires.{Wires}
use Rattle.step_legs.specs.Shares.{Volts}
use Rattle.step_latch.specs.Parting.{leg_parts, latch_put}

-- a leg's part of its row's words, by its current and what it passes on: at the from end the latch of an SW that parts, the current, and the history of
-- an L or a C; a line's current at its to end
unfoldable pub leg_put : Plan → ℕ → Wire → Words → Words
leg_put plan k w r =
    cond (eqb w.end 1) (put_if (eqb w.kind 2 || eqb w.kind 3) (set (latch_put plan k w r) (current_at w.row) w.current) (history_at w.row) w.passed)
    (put_if (eqb w.kind 4) r (to_current_at w.row) w.current)

-- the voltage x of node n, from 1; and its peak with the peak's step, at step 1 and where its magnitude is greater
unfoldable pub node_put : ℕ → ℕ → ℤ → Words → Words
node_put k n x r =
    let u = set r (voltages.start + n - 1) x in
    let b = outdone k x (word u (peaks.start + n - 1)) in
    put_if b (put_if b u (peaks.start + n - 1) (pos (nat_abs x))) (peak_steps.start + n - 1) (pos k)

-- the same of some nodes
unfoldable pub nodes_put : ℕ → Words → List ℕ → Words → Words
nodes_put k v nodes r = fold (λ u n. node_put k n (word v n) u) r nodes

-- and the area's count
unfoldable pub area_put : ℕ → Words → List ℕ → ℕ → Words → Words
area_put k v nodes a r = nodes_put k v nodes (set r (counts.start + (a - 1)) (pos k))

-- the legs' parts, one after the other
abbrev pub leg_turn : Plan → ℕ → Words → Wire → Words
leg_turn plan k r w = leg_put plan k w r

unfoldable pub legs_put : Plan → ℕ → List Wire → Words → Words
legs_put plan k legs r = fold (leg_turn plan k) r legs

abbrev pub records_put : Plan → List Wire → List ℕ → Words → ℕ → ℕ → Words → Words
records_put plan legs nodes v a k r = legs_put plan k legs (area_put k v nodes a r)

pub record Nodes (nodes : List ℕ) : Type 0 where
  pub end : (i : ℕ) → i < length nodes → get_or nodes i 0 ≤ Limits.node_end

-- the legs, nodes and voltages of a step, and records to be written
pub record Recordable (legs : List Wire) (nodes : List ℕ) (v records : Words) (area k : ℕ) : Type 0 where
  pub wires : Wires legs
  pub nodes_end : Nodes nodes
  pub volts : Volts v
  pub long : length records ≡ Limits.record_words
  pub area_least_lem : 1 ≤ area
  pub area_most_lem : area ≤ Limits.node_end
  pub step_most : k ≤ Limits.steps_end

-- an L or a C is no breaker
pub held_unparted : (plan : Plan) (k : ℕ) (w : Wire) (r : Words) → (eqb w.kind 2 || eqb w.kind 3) ≡ true → leg_parts plan k w r ≡ false
unfolding leg_parts
held_unparted plan k w r h = rw (no_breaker w.kind h)
  where
    no_breaker : (n : ℕ) → (eqb n 2 || eqb n 3) ≡ true → eqb n 5 ≡ false
    no_breaker n e = elim (ℕ_discrete n 5) [ yes q ↦ absurd (true≢false (sym (rw q at e))) | no q ↦ ne_eqb n 5 q ]

-- ---- the latches: where no breaker parted, all are as they were
pub record Unparted (parted : Bool) (before after : Words) : Type 0 where
  pub latch : parted ≡ false → (i : ℕ) → word after (latch_at i) ≡ word before (latch_at i)

put_else : (b : Bool) (r : Words) (i j : ℕ) (x : ℤ) → (j ≡ i → ⊥) → word (put_if b r i x) j ≡ word r j
unfolding put_if
put_else true r i j x h = get_or-set_other r i j x z h
put_else false r i j x h = refl

-- a leg's turn
pub leg_latches : (plan : Plan) (k : ℕ) (w : Wire) (r : Words) → w.row < Limits.row_end → (eqb w.end 1 && leg_parts plan k w r) ≡ false
    → (j : ℕ) → word (leg_put plan k w r) (latch_at j) ≡ word r (latch_at j)
unfolding leg_put latch_put put_if
leg_latches plan k w r h e j = go (eqb w.end 1) e
  where
    i : ℤ
    i = w.current

    go : (b : Bool) → (b && leg_parts plan k w r) ≡ false
        → word (cond b (put_if (eqb w.kind 2 || eqb w.kind 3) (set (put_if (leg_parts plan k w r) r (latch_at w.row) (pos k)) (current_at w.row) i) (history_at w.row) w.passed) (put_if (eqb w.kind 4) r (to_current_at w.row) i)) (latch_at j) ≡ word r (latch_at j)
    go true q = put_else (eqb w.kind 2 || eqb w.kind 3) _ (history_at w.row) (latch_at j) w.passed (λ d. omega arith) ∙ get_or-set_other (put_if (leg_parts plan k w r) r (latch_at w.row) (pos k)) (current_at w.row) (latch_at j) i z (λ d. omega arith) ∙ rw q
    go false q = put_else (eqb w.kind 4) r (to_current_at w.row) (latch_at j) i (λ d. omega arith)

-- the nodes' turns leave the currents and the latches
pub nodes_else : (k : ℕ) (v : Words) (nodes : List ℕ) (r : Words) → Nodes nodes → (j : ℕ) → 64 ≤ j → (j < histories.start) ⊎ (latches.start ≤ j) → word (nodes_put k v nodes r) j ≡ word r j
unfolding nodes_put node_put fold
nodes_else k v [] r h j l m = refl
nodes_else k v (n ∷ nodes) r h j l m =
    let q : n ≤ Limits.node_end = h.end 0 (omega arith) in
    nodes_else k v nodes (node_put k n (word v n) r) (record { end = λ i q. h.end (suc i) (omega arith) }) j l m
    ∙ put_else _ _ (peak_steps.start + n - 1) j _ (⊎_elim (λ x d. omega arith) (λ x d. omega arith) m)
    ∙ put_else _ _ (peaks.start + n - 1) j _ (⊎_elim (λ x d. omega arith) (λ x d. omega arith) m)
    ∙ get_or-set_other r (voltages.start + n - 1) j _ z (λ d. omega arith)

-- the count's and the nodes', before the legs'
pub begun_latches : (nodes : List ℕ) (v r : Words) {after : Words} (a k : ℕ) {parted : Bool} → Nodes nodes → 1 ≤ a → a ≤ Limits.node_end
    → Unparted parted (area_put k v nodes a r) after → Unparted parted r after
unfolding area_put
begun_latches nodes v r a k n one most u = record {
  latch = λ e j. u.latch e j ∙ nodes_else k v nodes (set r (counts.start + (a - 1)) (pos k)) n (latch_at j) (omega arith) (inr (omega arith)) ∙ get_or-set_other r (counts.start + (a - 1)) (latch_at j) (pos k) z (λ d. omega arith);
}
