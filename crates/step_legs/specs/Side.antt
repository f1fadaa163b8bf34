-- Which end of its row a leg is: what its name tells of its number. Assumes nothing.
use Rattle.std.specs.Prelude.{◌≡◌}
use Rattle.whole.specs.Plain.{ℕ, refl, true, false, cond, eqb}
use Rattle.paper.specs.declared.Side.{Side}
use Rattle.paper.specs.declared.Side.TheVariants.{From, To}
use Rattle.paper.specs.Sides.{side_by}

pub from_is : (e : ℕ) → side_by e ≡ From → eqb e 1 ≡ true
from_is e q = elim (eqb e 1) as (λ t. cond t From To ≡ From → t ≡ true) [ true ↦ λ d. refl | false ↦ λ d. cc ] q

pub to_is : (e : ℕ) → side_by e ≡ To → eqb e 1 ≡ false
to_is e q = elim (eqb e 1) as (λ t. cond t From To ≡ To → t ≡ false) [ true ↦ λ d. cc | false ↦ λ d. refl ] q
