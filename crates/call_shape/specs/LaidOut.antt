-- What a question about a network's layout is answered from: the plan, the areas by node and the counts, of a record that passes. Assumes nothing.
use Rattle.std.specs.Prelude.{Ok, Err, ◌≤◌, ◌≡◌}
use Rattle.whole.specs.Plain.{ℕ, suc, List, ap, ◌∙◌, true, eq-eqb, le-leb, length, arith, Words}
use Rattle.paper.specs.Limits as Limits
use Rattle.paper.specs.Network.{is_network}
use Rattle.paper.specs.Areas.{Net, branch_number}
use Rattle.laws_facts.specs.Nets.{net_in}
use Rattle.plan_record.specs.Mapped.{Mapped}
use Rattle.plan_rows.specs.Planned.{Plan, Planned, totals_of, row_in, row_of}
use Rattle.plan_rows.specs.declared.Row.{Row}
use Rattle.plan_rows.specs.declared.Totals.{Totals}
use Rattle.call_network.specs.Admitted.{admitted, fit_length, fit_network, unfit}
use Rattle.call_shape.specs.Asked.{Asked, unasked_of, of_network, place_from, branch_row, place_same}

pub record LaidOut (net : Words) (plan : Plan) (areas : List ℕ) (totals : Totals) : Type 0 where
  pub network : is_network net ≡ true
  pub planned : Planned (net_in net) plan
  pub mapped : Mapped (net_in net) areas
  pub counts : totals ≡ totals_of (net_in net)
  -- whatever is asked is asked of this network
  pub asked : (f : Net → Asked) → of_network net f ≡ f (net_in net)

-- a refusal is the answer to whatever is asked
pub refuses : (net : Words) {x : _} → Err x ≡ admitted net → (f : Net → Asked) → of_network net f ≡ Err (unasked_of x)
unfolding of_network
refuses net {x} e f = unfit net (λ y. Err (unasked_of y)) _ e

pub asks : (net : Words) {u : Unit {0}} → Ok u ≡ admitted net → (f : Net → Asked) → of_network net f ≡ f (net_in net)
unfolding of_network
asks net e f = rw (eq-eqb (length net) Limits.network_words (fit_length net e), fit_network net e)

pub laid_out : {net : Words} {u : Unit {0}} {plan : Plan} {areas : List ℕ} {totals : Totals} → Ok u ≡ admitted net → Planned (net_in net) plan × Mapped (net_in net) areas → totals ≡ totals_of (net_in net)
    → LaidOut net plan areas totals
laid_out {net} e p c = record { network = fit_network net e; planned = p.0; mapped = p.1; counts = c; asked = asks net e }

-- the plan's numbers of branches are the paper's
pub place_is : {net : Words} {plan : Plan} {areas : List ℕ} {totals : Totals} (branch : ℕ) → LaidOut net plan areas totals → 1 ≤ branch
    → place_from (λ i. (row_in plan i).number) branch 0 totals.rows ≡ branch_row (net_in net) branch
unfolding branch_row row_of
place_is {net} {plan} branch p one =
    let N = net_in net in
    rw (le-leb 1 branch one)
    (ap (λ (t : Totals). place_from (λ i. (row_in plan i).number) branch 0 t.rows) p.counts
    ∙ place_same _ (λ i. branch_number N (suc i)) branch 0 (length N.rows) (λ i h. ap (λ (r : Row). r.number) (p.planned.row i (omega (arith, h)))))
