-- Sums by node, gathered leg by leg onto what was there: a node has the sum over the legs that leave it more. Assumes nothing.
use Rattle.std.specs.Prelude.{◌+◌, ◌≤◌, ◌<◌, ◌≡◌, ◌+ℤ◌, ◌-ℤ◌}
use Rattle.whole.specs.Plain.{ℕ, suc, refl, sym, ap, ◌∙◌, Bool, true, false, cond, List, eqb, ℤ}
use Rattle.whole.specs.Plain.{+ℤ_assoc, +ℤ_idl, +ℤ_idr, set, take, length, length-set, replicate}
use Rattle.whole.specs.Plain.{get_or-set_same, get_or-set_other, eqb-true, eqb-false, arith, Words, z, word, total}
use Rattle.std.specs.Int.{w64}
use Rattle.std.proofs.Common.{SFits}
use Rattle.whole.specs.Filled.{get_d_same}
use Rattle.paper.specs.Limits as Limits
use Rattle.paper.specs.Legs.{Leg}
use Rattle.paper.specs.Solve.{leaves}
use Rattle.step_legs.specs.declared.Wire.{Wire}
use Rattle.step_legs.specs.Wires.{leg_at, legs_in}
use Rattle.step_legs.specs.Leaving.{leaving, leaving_more}

-- w has, by node, what `start` has and the sum of f over the legs that leave it
pub record Sums (start : Words) (f : Leg → ℤ) (legs : List Leg) (w : Words) : Type 0 where
  pub long : length w ≡ suc Limits.node_end
  pub at : (p : ℕ) → p ≤ Limits.node_end → word w p ≡ word start p +ℤ leaving p f legs

pub sums_start : {start : Words} (f : Leg → ℤ) (legs : List Wire) → length start ≡ suc Limits.node_end → Sums start f (take 0 (legs_in legs)) start
unfolding leaving total
sums_start {start} f legs e = record { long = e; at = λ p l. sym (+ℤ_idr (word start p)) }

-- from 0 at every node
abbrev pub none : Words
none = replicate (suc Limits.node_end) z

pub from_none : (p : ℕ) (x : ℤ) → word none p +ℤ x ≡ x
from_none p x = ap (λ (y : ℤ). y +ℤ x) (get_d_same (suc Limits.node_end) p z) ∙ +ℤ_idl x

pub sums_at : {f : Leg → ℤ} {legs : List Leg} {w : Words} → Sums none f legs w → (p : ℕ) → p ≤ Limits.node_end → word w p ≡ leaving p f legs
sums_at {f} {legs} s p l = s.at p l ∙ from_none p (leaving p f legs)

module _ {start : Words} (f : Leg → ℤ) (legs : List Wire) (j : ℕ) (h : j < length legs) {w : Words} (s : Sums start f (take j (legs_in legs)) w) (node : (leg_at legs j).near ≤ Limits.node_end) where
  abbrev near : ℕ
  near = (leg_at legs j).near

  abbrev added : Words
  added = set w near (word w near +ℤ f (leg_at legs j))

  -- the leg's own node, and another
  by_node : (p : ℕ) → p ≤ Limits.node_end → (t : Bool) → eqb near p ≡ t → word added p ≡ word start p +ℤ leaving p f (take j (legs_in legs)) +ℤ cond t (f (leg_at legs j)) z
  by_node p l true e =
      let q : near ≡ p = eqb-true near p e in
      rw (← q) (get_or-set_same w near _ z (omega (arith, s.long)) ∙ ap (λ (x : ℤ). x +ℤ f (leg_at legs j)) (s.at near node))
  by_node p l false e = get_or-set_other w near p _ z (λ q. eqb-false near p e (sym q)) ∙ s.at p l ∙ sym (+ℤ_idr (word start p +ℤ leaving p f (take j (legs_in legs))))

  pub sums_more : Sums start f (take (j + 1) (legs_in legs)) added
  unfolding leaves
  sums_more = record {
    long = length-set w near _ ∙ s.long;
    at = λ p l.
        by_node p l (eqb near p) refl
        ∙ +ℤ_assoc (word start p) (leaving p f (take j (legs_in legs))) (cond (eqb near p) (f (leg_at legs j)) z)
        ∙ ap (λ (x : ℤ). word start p +ℤ x) (sym (leaving_more legs j h p f));
  }

  -- the leg's node with the leg added
  pub sum_after : word w near +ℤ f (leg_at legs j) ≡ word start near +ℤ leaving near f (take (j + 1) (legs_in legs))
  sum_after = sym (get_or-set_same w near _ z (omega (arith, s.long))) ∙ sums_more.at near node

-- the sum at the leg's node, from 0, before the leg and after it
pub sum_room : (f : Leg → ℤ) (legs : List Wire) (j : ℕ) → j < length legs → {w : Words} → Sums none f (take j (legs_in legs)) w → (node : (leg_at legs j).near ≤ Limits.node_end)
    → ((i : ℕ) → i ≤ length legs → SFits w64 (leaving (leg_at legs j).near f (take i (legs_in legs))))
    → ((leg_at legs j).near < suc Limits.node_end) × SFits w64 (word w (leg_at legs j).near) × SFits w64 (word w (leg_at legs j).near +ℤ f (leg_at legs j))
sum_room f legs j h s node fit =
    (omega arith, rw (sums_at s _ node) (fit j (omega arith)), rw (sum_after f legs j h s node ∙ from_none (leg_at legs j).near _) (fit (j + 1) (omega arith)))

-- ---- the difference of two, at the first n places

pub record Near (n : ℕ) (a b : Words) : Type 0 where
  pub long : n ≤ length a
  pub wide : n ≤ length b
  pub one : (p : ℕ) → p < n → SFits w64 (word a p)
  pub other : (p : ℕ) → p < n → SFits w64 (word b p)
  pub less : (p : ℕ) → p < n → SFits w64 (word a p -ℤ word b p)
