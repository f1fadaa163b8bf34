-- `plan_lay::pace` meets its contract: the product of a step length and a frequency fits, and so does its negative. Assumes nothing.
use Rattle.std.specs.Prelude.{◌*◌, ◌^◌, ◌≤◌, ◌<◌, ◌≡◌, ◌*ℤ◌}
use Rattle.whole.specs.Plain.{ℕ, sym, ◌∙◌, true, ℤ, pos, neg_ℤ, mag, +ℤ_idl, length, eq-eqb, ne_eqb, le_trans, mul-le-mul_left}
use Rattle.whole.specs.Plain.{mul-le-mul_right, arith, Words, word}
use Rattle.std.specs.Int.{w64}
use Rattle.std.proofs.Common.{SFits, to_z, of_z, to_z-of_z}
use Rattle.whole.specs.Int.{abs_neg, read64, fits64}
use Rattle.paper.specs.Limits as Limits
use Rattle.paper.specs.Rows.{Row, is_source, frequency}
use Rattle.paper.specs.Network.{is_network}
use Rattle.paper.specs.Areas.{step}
use Rattle.plan_ends.specs.Kinds.{kind_is}
use Rattle.laws_facts.specs.Sound.{SourceSound}
use Rattle.laws_facts.specs.Nets.{net_in, row_at, network_length, head_word}
use Rattle.laws_facts.proofs.Nets.{net_sound}
use Rattle.plan_lay.specs.Sources.{pace_swings, pace_rises}
use Rattle.plan_lay.proofs.pace.Goals as goal

-- the step length, the fourth field of whatever source, and their product
module _ (net : Words) (e : is_network net ≡ true) (i : ℕ) (h : i < length (net_in net).rows) (s : is_source (row_at (net_in net) i) ≡ true) where
  abbrev row : Row
  row = row_at (net_in net) i

  sound : SourceSound (net_in net).nodes row
  sound = ((net_sound net e).row i h).source s

  abbrev product : ℕ
  product = step (net_in net) * frequency row

  first : mag (word net 0) < 2 ^ 63 → to_z w64 (of_z w64 (word net 0)) ≡ pos (step (net_in net))
  first f = read64 _ f ∙ sym (head_word net e 0 (omega arith)) ∙ (net_sound net e).study.step_in.is_nat

  last : (x : ℤ) → mag x < 2 ^ 63 → x ≡ word row 4 → to_z w64 (of_z w64 x) ≡ pos (frequency row)
  last x f q = read64 _ f ∙ q ∙ sound.last_in.is_nat

  product_is : (x : ℤ) → mag (word net 0) < 2 ^ 63 → mag x < 2 ^ 63 → x ≡ word row 4 → to_z w64 (of_z w64 (word net 0)) *ℤ to_z w64 (of_z w64 x) ≡ pos product
  product_is x f g q = rw (first f, last x g q)

  product_most : product ≤ Limits.step_length_end * Limits.frequency_end
  product_most = le_trans (mul-le-mul_right (frequency row) (net_sound net e).study.step_in.most) (mul-le-mul_left Limits.step_length_end sound.last_in.most)

  product_fits : SFits w64 (pos product)
  product_fits = fits64 (pos product) (omega (arith, product_most))

  product_read : (x : ℤ) → mag (word net 0) < 2 ^ 63 → mag x < 2 ^ 63 → x ≡ word row 4 → to_z w64 (of_z w64 (to_z w64 (of_z w64 (word net 0)) *ℤ to_z w64 (of_z w64 x))) ≡ pos product
  product_read x f g q = rw (product_is x f g q) (to_z-of_z product_fits)

  minus_fits : SFits w64 (neg_ℤ (pos product))
  minus_fits = fits64 (neg_ℤ (pos product)) (rw (abs_neg (pos product)) (omega (arith, product_most)))

pub returns-in-Vc : goal.returns-in-Vc
returns-in-Vc c =
    let N = net_in c.args.net.words.now in
    let q = product_read _ c.args.net.passes _ c.requires.i_in_bounds c.requires.i_value c.value-last.result (omega arith) c.value-last.type_inv c.value-last.ensures in
    rw (q, +ℤ_idl (neg_ℤ (pos (product c.args.net.words.now c.args.net.passes c.args.i c.requires.i_in_bounds c.requires.i_value))))
    (to_z-of_z (minus_fits _ c.args.net.passes _ c.requires.i_in_bounds c.requires.i_value) ∙ pace_swings N (row_at N c.args.i) (eq-eqb _ 8 (sym c.in-Vc.ensures)))

pub returns-in_default : goal.returns-in_default
returns-in_default c =
    let N = net_in c.args.net.words.now in
    last _ c.args.net.passes _ c.requires.i_in_bounds c.requires.i_value c.value-last.result c.value-last.type_inv c.value-last.ensures
    ∙ pace_rises N (row_at N c.args.i) (ne_eqb _ 8 (λ q. c.in_default.not-Vc (kind_is (c.kind.ensures ∙ q))))

pub bounds-net-0 : goal.bounds-net-0
bounds-net-0 c = omega (arith, network_length c.args.net.words.now c.args.net.passes)

pub overflow_mul-result : goal.overflow_mul-result
overflow_mul-result c =
    rw (product_is _ c.args.net.passes _ c.requires.i_in_bounds c.requires.i_value c.value-last.result (omega arith) c.value-last.type_inv c.value-last.ensures)
    (product_fits _ c.args.net.passes _ c.requires.i_in_bounds c.requires.i_value)

pub overflow_sub-result : goal.overflow_sub-result
overflow_sub-result c =
    let q = product_read _ c.args.net.passes _ c.requires.i_in_bounds c.requires.i_value c.value-last.result (omega arith) c.value-last.type_inv c.value-last.ensures in
    rw (q, +ℤ_idl (neg_ℤ (pos (product c.args.net.words.now c.args.net.passes c.args.i c.requires.i_in_bounds c.requires.i_value))))
    (minus_fits _ c.args.net.passes _ c.requires.i_in_bounds c.requires.i_value)
