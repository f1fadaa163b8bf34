-- Demand 3: any two orders of calls, refused ones among them, with equal counts of accepted advances in every area, agree in everything. Assumes
-- nothing.
use Rattle.std.specs.Prelude.{◌≡◌}
use Rattle.whole.specs.Plain.{ℕ, sym, ◌∙◌, List}
use Rattle.whole.specs.Plain.{Words}
use Rattle.paper.specs.Advance.{Memory}
use Rattle.laws_order.specs.Orders as O
use Rattle.laws_demands.specs.Said.{IsArea}
use Rattle.laws_runs.specs.Runs.{Lent, from_reset, accepts, taken}
use Rattle.laws_runs.specs.Moves.{Inv, moves}
use Rattle.laws_runs.specs.Orders.{start_inv, run_is, told_is, count_is, diamond, same_counts}

module _ (net : Words) (lent : Memory) (ok : Lent net lent) where
  open from_reset net lent use {N, start, at}

  -- T-order
  pub orders_agree : (w v : List ℕ) → ((a : ℕ) → IsArea N a → taken net a w start ≡ taken net a v start)
      → (at w ≡ at v) × ((a : ℕ) → accepts net a w start ≡ accepts net a v start)
  orders_agree w v h =
      let r = O.orders_agree (moves net ok.network) (Inv net ok.network) (diamond net lent ok) w v start (start_inv net lent ok) (λ a. count_is net lent ok a w ∙ same_counts net lent ok w v h a ∙ sym (count_is net lent ok a v)) in
      (sym (run_is net lent ok w start) ∙ r.0 ∙ run_is net lent ok v start, λ a. sym (told_is net lent ok a w start) ∙ r.1 a ∙ told_is net lent ok a v start)
