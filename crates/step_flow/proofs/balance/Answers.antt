-- `step_flow::balance` meets its contract: the search from the free node on. Assumes nothing.
use Rattle.std.specs.Prelude.{Some, ◌+◌, ◌-◌, ◌≤◌, ◌<◌, ◌≡◌, ◌-ℤ◌}
use Rattle.whole.specs.Plain.{ℕ, zero, suc, first, cond, refl, sym, ap, ◌∙◌, Bool, true, false, not, List, ℤ, get_or, length, drop, get_or-drop, arith, nat, Words, word, z, up_to}
use Rattle.whole.specs.Named.{named}
use mir.Syntax.{w64}
use mir.Val.{SFits, to_z, of_z}
use mir.Facts.{to_z-of_z}
use Rattle.paper.specs.Limits as Limits
use Rattle.step_legs.specs.Free.{Free, first_here, first_done}
use Rattle.step_legs.specs.Sums.{Near}
use Rattle.step_flow.specs.Past.{past, first_past}
use Rattle.step_flow.proofs.balance.Goals as goal

-- the turn's node, and its place in both tables
module _ (out given : Words) (one : ℕ) (free : List ℕ) (f : Free free) (n : Near Limits.node_end (drop 1 out) (drop one given)) (i : ℕ) (l : i < length free) where
  abbrev node : ℕ
  node = get_or free i 0

  placed : (1 ≤ node) × (node - 1 < Limits.node_end) × (1 + (node - 1) ≡ node)
  placed = let a = f.above i l in (a, omega (arith, a, f.node i l), omega (arith, a))

  injects : word (drop one given) (node - 1) ≡ word given (one + (node - 1))
  injects = get_or-drop one given (node - 1) z

  leaves : word (drop 1 out) (node - 1) ≡ word out node
  leaves = get_or-drop 1 out (node - 1) z ∙ ap (word out) placed.2

  fit : SFits w64 (word out node) × SFits w64 (word given (one + (node - 1))) × SFits w64 (word out node -ℤ word given (one + (node - 1)))
  fit = (rw leaves at (n.one _ placed.1), rw injects at (n.other _ placed.1), rw (leaves, injects) at (n.less _ placed.1))

  told : {limit : ℤ} {r : Bool} → SFits w64 limit
      → r ≡ up_to (nat (to_z w64 (of_z w64 limit))) (to_z w64 (of_z w64 (to_z w64 (of_z w64 (word out node)) -ℤ to_z w64 (of_z w64 (word given (one + (node - 1)))))))
      → not r ≡ past (nat limit) (drop 1 out) (drop one given) node
  unfolding past
  told h e = rw (leaves, injects) (ap not (simp (to_z-of_z, h, fit.0, fit.1, fit.2) at e))

  turn : {limit : ℤ} {r : Bool} → SFits w64 limit
      → r ≡ up_to (nat (to_z w64 (of_z w64 limit))) (to_z w64 (of_z w64 (to_z w64 (of_z w64 (word out node)) -ℤ to_z w64 (of_z w64 (word given (one + (node - 1)))))))
      → first_past (nat (to_z w64 (of_z w64 limit))) (drop 1 out) (drop one given) free ≡ first (past (nat (to_z w64 (of_z w64 limit))) (drop 1 out) (drop one given)) (drop i free)
      → (t : Bool) → not r ≡ t → first_past (nat limit) (drop 1 out) (drop one given) free ≡ cond t node (first (past (nat limit) (drop 1 out) (drop one given)) (drop (i + 1) free))
  turn h e s t q = first_here _ free i _ l (simp (to_z-of_z, h) at s) t (sym (told h e) ∙ q)

pub loop-p-init : goal.loop-p-init
unfolding first_past
loop-p-init c = refl

pub overflow_sub-leaving : goal.overflow_sub-leaving
overflow_sub-leaving c =
    let a = c.args in
    let f = fit a.leaving.now a.injected.now a.one a.free.now c.requires.free.0 c.requires.near c.loop-p.p-index c.loop-p-test.true in
    simp (to_z-of_z, f.0, f.1) f.2

-- a node has a name
named_is : (p : ℕ) → 1 ≤ p → Some p ≡ named p
named_is zero h = absurd (omega arith)
named_is (suc n) h = refl

pub returns-then-not-within : goal.returns-then-not-within
returns-then-not-within c =
    let a = c.args in
    let l = c.loop-p-test.true in
    let t = turn a.leaving.now a.injected.now a.one a.free.now c.requires.free.0 c.requires.near c.loop-p.p-index l c.ranges.limit c.within.ensures c.loop-p.invariant true (ap not c.if-not-within.true) in
    named_is (get_or a.free.now c.loop-p.p-index 0) (c.requires.free.0.above c.loop-p.p-index l) ∙ sym (ap named t)

pub loop-p-preserved : goal.loop-p-preserved
loop-p-preserved c =
    let a = c.args in
    let l = c.loop-p-test.true in
    let t = turn a.leaving.now a.injected.now a.one a.free.now c.requires.free.0 c.requires.near c.loop-p.p-index l c.ranges.limit c.within.ensures c.loop-p.invariant false (ap not c.if-not-within.false) in
    simp (to_z-of_z, c.ranges.limit) t

pub returns : goal.returns
returns c = sym (ap named (simp (to_z-of_z, c.ranges.limit) at c.loop-p.invariant ∙ first_done _ c.args.free.now c.loop-p.p-index c.loop-p-test.false))
