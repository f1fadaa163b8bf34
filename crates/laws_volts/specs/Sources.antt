-- How large a source's value gets. Assumes nothing.
use Rattle.std.specs.Prelude.{◌-◌, ◌*◌, ◌/◌, ◌^◌, ◌≤◌, ◌<◌, ◌≡◌, ◌*ℤ◌}
use Rattle.whole.specs.Plain.{ℕ, refl, ap, ◌∙◌, Bool, true, false, cond, ltb, ℤ, pos, nat_abs}
use Rattle.whole.specs.Plain.{quot_z, ltb-true, div-le_of_le-mul, mul-le-mul_left, arith, z}
use Rattle.whole.specs.Int.{abs_mul}
use Rattle.whole.specs.Rounding.{part_size, quot_abs}
use Rattle.num_cosine.specs.Cosine.{cosine}
use Rattle.num_cosine.proofs.Most.{cosine_most}
use Rattle.paper.specs.Rows.{Row, is_vC, peak, start, rise}
use Rattle.paper.specs.Areas.{Net}
use Rattle.paper.specs.Sources.{risen, index, swung, source}
use Rattle.paper.proofs.Kept.{either}

-- neither on its way up nor as it swings is a source larger than its peak
pub risen_size : (r : Row) (n : ℕ) → nat_abs (risen r n) ≤ nat_abs (peak r)
unfolding risen
risen_size r n = during (ltb n (rise r)) refl
  where
    during : (b : Bool) → ltb n (rise r) ≡ b → nat_abs (cond b (quot_z (peak r *ℤ pos n) (pos (rise r))) (peak r)) ≤ nat_abs (peak r)
    during true e =
        let l : n < rise r = ltb-true n (rise r) e in
        (part_size {x = peak r} {m = nat_abs (peak r)} n (rise r) (omega arith) (record { size = omega arith })).size
    during false e = omega arith

pub swung_size : (x : ℤ) (p : ℕ) → nat_abs (swung x p) ≤ nat_abs x
unfolding swung
swung_size x p =
    let c = cosine (index p) in
    let e : nat_abs (quot_z (x *ℤ c) (pos (2 ^ 30))) ≡ nat_abs x * nat_abs c / 2 ^ 30 = quot_abs (x *ℤ c) (2 ^ 30) ∙ ap (λ (k : ℕ). k / 2 ^ 30) (abs_mul x c) in
    let g : nat_abs x * nat_abs c ≤ 2 ^ 30 * nat_abs x = omega (arith, mul-le-mul_left (nat_abs x) (cosine_most (index p)).size) in
    omega (arith, e, div-le_of_le-mul (2 ^ 30) g)

pub source_size : (N : Net) (k : ℕ) (r : Row) → nat_abs (source N k r) ≤ nat_abs (peak r)
unfolding source
source_size N k r =
    either (λ x. nat_abs x ≤ nat_abs (peak r)) (ltb k (start r)) z _ (omega arith)
    (either (λ x. nat_abs x ≤ nat_abs (peak r)) (is_vC r) _ _ (swung_size (peak r) _) (risen_size r (k - start r)))
