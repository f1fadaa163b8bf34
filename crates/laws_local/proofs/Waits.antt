-- Where no line waits, the counts allow an area its step. Assumes nothing.
use Rattle.std.specs.Prelude.{◌+◌, ◌≤◌, ◌≡◌, ◌&&◌, ◌||◌}
use Rattle.whole.specs.Plain.{ℕ, refl, sym, ◌∙◌, Bool, true, false}
use Rattle.whole.specs.Plain.{true≢false, [], ltb-false, eq-eqb}
use Rattle.whole.specs.Plain.{Words}
use Rattle.whole.specs.Places.{place_none}
use Rattle.paper.specs.Rows.{is_line, from, to}
use Rattle.paper.specs.Areas.{Net}
use Rattle.paper.specs.Legs.{here}
use Rattle.paper.specs.Advance.{late, waits_for, first_late}
use Rattle.laws_facts.specs.Nets.{row_at}
use Rattle.laws_local.specs.Slots.{delay_at}
use Rattle.laws_local.specs.Waits.{late_place, count_at_node, Allowed}
use Rattle.laws_local.specs.Waits as Waits

module _ (N : Net) (a k : ℕ) (recs : Words) where
  abbrev Free : Type 0
  Free = Waits.Free N a k recs

  pub free_allowed : (i : ℕ) → is_line (row_at N i) ≡ true → waits_for N a k recs (row_at N i) ≡ false → Allowed N a k recs i
  unfolding waits_for
  free_allowed i l e = record { at_from = λ q. side_from (eq-eqb _ a q); at_to = λ q. side_to (eq-eqb _ a q) }
    where
      go : (x y u v : Bool) → (x && y) || (u && v) ≡ false → (x ≡ true → y ≡ false) × (u ≡ true → v ≡ false)
      go true true u v e = absurd (true≢false e)
      go true false true v e = ((λ _. refl), λ _. e)
      go true false false v e = ((λ _. refl), λ p. absurd (true≢false (sym p)))
      go false y true v e = ((λ p. absurd (true≢false (sym p))), λ _. e)
      go false y false v e = ((λ p. absurd (true≢false (sym p))), λ p. absurd (true≢false (sym p)))

      both : (here N a (from (row_at N i)) ≡ true → late N recs k (row_at N i) (to (row_at N i)) ≡ false) × (here N a (to (row_at N i)) ≡ true → late N recs k (row_at N i) (from (row_at N i)) ≡ false)
      both = go _ _ _ _ (rw l at e)

      side_from : here N a (from (row_at N i)) ≡ true → k ≤ count_at_node N recs (to (row_at N i)) + delay_at N i
      side_from q = ltb-false _ k (both.0 q)

      side_to : here N a (to (row_at N i)) ≡ true → k ≤ count_at_node N recs (from (row_at N i)) + delay_at N i
      side_to q = ltb-false _ k (both.1 q)

  pub not_late : first_late N a k recs 0 N.rows ≡ 0 → Free
  not_late e i h l = free_allowed i l (place_none (waits_for N a k recs) [] 0 N.rows (sym (late_place N a k recs 0 N.rows) ∙ e) i h)
