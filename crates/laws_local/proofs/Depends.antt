-- "Over two well-formed states, an advance depends on nothing but the network, its own area's records, the far counts and the far values it
-- reads." Assumes nothing.
use Rattle.std.specs.Prelude.{◌+◌, ◌<◌, ◌≡◌, ◌&&◌, ◌||◌, ◌∷◌}
use Rattle.whole.specs.Plain.{ℕ, suc, refl, sym, ◌∙◌, Bool, true, false}
use Rattle.whole.specs.Plain.{List, [], ltb, length, get_or, eqb-true}
use Rattle.whole.specs.Plain.{arith}
use Rattle.whole.specs.Places.{place}
use Rattle.paper.specs.Rows.{Row, is_line, from, to}
use Rattle.paper.specs.Areas.{Net}
use Rattle.paper.specs.Records.{well_formed}
use Rattle.paper.specs.Legs.{here}
use Rattle.paper.specs.Advance.{Memory, late, waits_for, first_late, on_net}
use Rattle.laws_facts.specs.Nets.{row_at}
use Rattle.laws_local.specs.Sound.{Sound}
use Rattle.laws_local.specs.Slots.{delay_at}
use Rattle.laws_local.specs.Waits.{count_at_node, late_place}
use Rattle.laws_local.specs.Outcome.{step_of}
use Rattle.laws_local.specs.Depends.{SameOut, SameLengths, same_out, SameFor, heard_same}

module _ (N : Net) (a k : ℕ) where
  side_same : (x : Bool) (c c' d : ℕ) → (x ≡ true → c ≡ c') → x && ltb (c + d) k ≡ x && ltb (c' + d) k
  side_same true c c' d h = rw (h refl)
  side_same false c c' d h = refl

  waits_same : (m m' : Memory) → SameFor N a k m m' → (i : ℕ) → i < length N.rows → waits_for N a k m.records (row_at N i) ≡ waits_for N a k m'.records (row_at N i)
  unfolding waits_for
  waits_same m m' s i h = go (is_line (row_at N i)) refl
    where
      go : (x : Bool) → is_line (row_at N i) ≡ x
          → x && ((here N a (from (row_at N i)) && late N m.records k (row_at N i) (to (row_at N i))) || (here N a (to (row_at N i)) && late N m.records k (row_at N i) (from (row_at N i))))
          ≡ x && ((here N a (from (row_at N i)) && late N m'.records k (row_at N i) (to (row_at N i))) || (here N a (to (row_at N i)) && late N m'.records k (row_at N i) (from (row_at N i))))
      go false e = refl
      go true e =
          rw (
            side_same (here N a (from (row_at N i))) (count_at_node N m.records (to (row_at N i))) (count_at_node N m'.records (to (row_at N i))) (delay_at N i) (λ q. s.to_counts i h e (eqb-true _ a q)),
            side_same (here N a (to (row_at N i))) (count_at_node N m.records (from (row_at N i))) (count_at_node N m'.records (from (row_at N i))) (delay_at N i) (λ q. s.from_counts i h e (eqb-true _ a q)),
          )

  place_same : (p q : Row → Bool) (n : ℕ) (l : List Row) → ((i : ℕ) → i < length l → p (get_or l i []) ≡ q (get_or l i [])) → place p n l ≡ place q n l
  unfolding place
  place_same p q n [] h = refl
  place_same p q n (r ∷ l) h = rw (h 0 (omega arith), place_same p q (suc n) l (λ i b. h (suc i) (omega arith)))

  late_same : (m m' : Memory) → SameFor N a k m m' → first_late N a k m.records 0 N.rows ≡ first_late N a k m'.records 0 N.rows
  late_same m m' s = late_place N a k m.records 0 N.rows ∙ place_same _ _ 0 N.rows (waits_same m m' s) ∙ sym (late_place N a k m'.records 0 N.rows)

-- T-local
pub depends_on : (N : Net) (a : ℕ) (m m' : Memory) → Sound N → SameLengths m m'
    → well_formed N m.records m.froms m.tos ≡ true → well_formed N m'.records m'.froms m'.tos ≡ true
    → SameFor N a (step_of N a m) m m' → SameOut m m' (on_net N a m) (on_net N a m')
depends_on N a m m' f l good good' s =
    same_out N a m m' f l good good' s.own (λ _ _. late_same N a (step_of N a m) m m' s)
    (λ _ _. heard_same N a (step_of N a m) m.froms m.tos m'.froms m'.tos s.to_sent s.from_sent)
