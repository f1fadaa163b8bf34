-- `step_floating::reaches` meets its contract: `l.g == 0` is a test of bits. Assumes nothing.
use Rattle.std.specs.Prelude.{◌≡◌}
use Rattle.whole.specs.Plain.{suc, ap, false, eqb, ℤ, pos, negsuc, eq-eqb, ne_eqb, arith, nat}
use mir.Syntax.{w64}
use mir.Val.{of_z}
use Rattle.whole.specs.Int.{is_lit}
use Rattle.whole.specs.Size.{fits}
use Rattle.step_floating.specs.Search.{reaches}
use Rattle.step_floating.specs.Visits.{some_named}
use Rattle.step_floating.proofs.reaches.Goals as goal

nat-zero : (x : ℤ) → nat x ≡ 0 → x ≡ pos 0
nat-zero (pos n) e = ap pos e
nat-zero (negsuc n) e = absurd (let z : suc n ≡ 0 = e in omega arith)

live : (x : ℤ) → (of_z w64 x ≡ 0 → ⊥) → eqb (nat x) 0 ≡ false
live x h = ne_eqb (nat x) 0 (λ e. h (ap (of_z w64) (nat-zero x e)))

pub returns-then-l-eq0 : goal.returns-then-l-eq0
unfolding reaches
returns-then-l-eq0 c = rw (is_lit 0 (fits c.requires.g_end tt) c.if-l-eq0.true)

pub returns-in-0-eq0 : goal.returns-in-0-eq0
unfolding reaches
returns-in-0-eq0 c = rw (live _ c.if-l-eq0.false, eq-eqb _ 0 c.in-0-eq0.is-0, c.in-0-eq0.is-1)

pub returns-in-0-default : goal.returns-in-0-default
unfolding reaches
returns-in-0-default c = rw (live _ c.if-l-eq0.false, eq-eqb _ 0 c.in-0-default.is-0) (some_named _ c.in-0-default.is-1.1)

pub returns-in_default-eq0 : goal.returns-in_default-eq0
unfolding reaches
returns-in_default-eq0 c = rw (live _ c.if-l-eq0.false, ne_eqb _ 0 c.in_default-eq0.is-0.1, eq-eqb _ 0 c.in_default-eq0.is-1) (some_named _ c.in_default-eq0.is-0.1)

pub returns-in_default : goal.returns-in_default
unfolding reaches
returns-in_default c = rw (live _ c.if-l-eq0.false, ne_eqb _ 0 c.in_default.is-0.1, ne_eqb _ 0 c.in_default.is-1.1)
