-- Legs written anew, one after another: what stays where each keeps what the network and the switches settle. Assumes nothing.
use Rattle.std.specs.Prelude.{◌<◌, ◌≡◌, ◌∷◌}
use Rattle.whole.specs.Plain.{ℕ, zero, suc, refl, sym, ap, ◌∙◌, List, [], map, eqb, length, set}
use Rattle.whole.specs.Plain.{length-map, ext_get_or, arith, count}
use Rattle.whole.specs.Folds.{count_map, get_d_map}
use Rattle.paper.specs.Solve.{leaves}
use Rattle.step_legs.specs.declared.Wire.{Wire}
use Rattle.step_legs.specs.Wires.{leg_of, no_wire, settled, wire_at, legs_in, Wired, Wires}

-- the legs keep what the network and the switches settle
pub record SameBut (before after : List Wire) : Type 0 where
  pub long : length after ≡ length before
  pub same : (j : ℕ) → j < length before → settled (wire_at after j) ≡ settled (wire_at before j)

pub same_then : {a b c : List Wire} → SameBut a b → SameBut b c → SameBut a c
same_then s t = record { long = t.long ∙ s.long; same = λ j h. t.same j (omega (arith, s.long)) ∙ s.same j h }

-- a leg that keeps it stays within its ends
pub wired_same : {v w : Wire} → settled w ≡ settled v → Wired v → Wired w
wired_same {v} {w} e t = record {
  near_end = rw near t.near_end;
  far_end = rw far t.far_end;
  row_below = rw row t.row_below;
  end_end = rw end t.end_end;
  kind_end = rw kind t.kind_end;
  g_sign = rw g t.g_sign;
  g_end = rw g t.g_end;
}
  where
    near : w.near ≡ v.near
    near = ap (λ (x : Wire). x.near) e

    far : w.far ≡ v.far
    far = ap (λ (x : Wire). x.far) e

    row : w.row ≡ v.row
    row = ap (λ (x : Wire). x.row) e

    end : w.end ≡ v.end
    end = ap (λ (x : Wire). x.end) e

    kind : w.kind ≡ v.kind
    kind = ap (λ (x : Wire). x.kind) e

    g : w.g ≡ v.g
    g = ap (λ (x : Wire). x.g) e

-- the sums over them fit as before
pub wires_same : {before after : List Wire} → SameBut before after → Wires before → Wires after
unfolding legs_in leaves
wires_same {before} {after} s w = record {
  wired = λ j h. let k : j < length before = omega (arith, s.long) in wired_same (s.same j k) (w.wired j k);
  few = λ p. rw (by_near p after ∙ ap (count (λ n. eqb n p)) nears ∙ sym (by_near p before)) (w.few p);
}
  where
    near : Wire → ℕ
    near w = w.near

    by_near : (p : ℕ) (legs : List Wire) → count (leaves p) (map leg_of legs) ≡ count (λ n. eqb n p) (map near legs)
    by_near p legs = count_map (leaves p) leg_of legs ∙ sym (count_map (λ n. eqb n p) near legs)

    nears : map near after ≡ map near before
    nears = ext_get_or 0 (map near after) (map near before) (length-map after near ∙ s.long ∙ sym (length-map before near)) (λ j h.
        let k : j < length before = omega (arith, length-map after near, s.long) in
        get_d_map near after j no_wire 0 (omega (arith, s.long)) ∙ ap near (s.same j k) ∙ sym (get_d_map near before j no_wire 0 k))

-- ---- the first j legs written, as a pass has them before leg j
module _ (g : Wire → Wire) where
  unfoldable pub written_to : ℕ → List Wire → List Wire
  written_to zero legs = legs
  written_to (suc j) [] = []
  written_to (suc j) (l ∷ legs) = g l ∷ written_to j legs

  pub to_here : (j : ℕ) (legs : List Wire) → wire_at (written_to j legs) j ≡ wire_at legs j
  unfolding written_to
  to_here zero legs = refl
  to_here (suc j) [] = refl
  to_here (suc j) (l ∷ legs) = to_here j legs

  pub to_next : (j : ℕ) (legs : List Wire) → j < length legs → set (written_to j legs) j (g (wire_at legs j)) ≡ written_to (suc j) legs
  unfolding written_to
  to_next j [] h = absurd (omega arith)
  to_next zero (l ∷ legs) h = refl
  to_next (suc j) (l ∷ legs) h = ap (λ (m : List Wire). g l ∷ m) (to_next j legs (omega arith))

  pub to_all : (legs : List Wire) → written_to (length legs) legs ≡ map g legs
  unfolding written_to
  to_all [] = refl
  to_all (l ∷ legs) = ap (λ (m : List Wire). g l ∷ m) (to_all legs)

  pub to_length : (j : ℕ) (legs : List Wire) → length (written_to j legs) ≡ length legs
  unfolding written_to
  to_length zero legs = refl
  to_length (suc j) [] = refl
  to_length (suc j) (l ∷ legs) = ap suc (to_length j legs)

  -- what the writing of a leg does not touch
  pub stays : {B : Type 0} (f : Wire → B) → ((l : Wire) → f (g l) ≡ f l) → (j : ℕ) (legs : List Wire) (i : ℕ) → f (wire_at (written_to j legs) i) ≡ f (wire_at legs i)
  unfolding written_to
  stays f e zero legs i = refl
  stays f e (suc j) [] i = refl
  stays f e (suc j) (l ∷ legs) zero = e l
  stays f e (suc j) (l ∷ legs) (suc i) = stays f e j legs i

  pub to_same : ((l : Wire) → settled (g l) ≡ settled l) → (j : ℕ) (legs : List Wire) → SameBut legs (written_to j legs)
  to_same same j legs = record { long = to_length j legs; same = λ i h. stays settled same j legs i }
