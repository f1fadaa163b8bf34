-- Which network a plan is of. Below the plan no function has the network record: what is said there is said of every network that the plan is of, and
-- asked where there is one. Assumes nothing.
use Rattle.std.specs.Prelude.{◌≡◌}
use Rattle.whole.specs.Plain.{true, Words}
use Rattle.paper.specs.Network.{is_network}
use Rattle.paper.specs.Areas.{Net}
use Rattle.laws_facts.specs.Nets.{NetSound, net_in}
use Rattle.laws_facts.proofs.Nets.{net_sound}
use Rattle.plan_rows.specs.declared.Totals.{Totals}
use Rattle.plan_rows.specs.Planned.{Plan, Planned, totals_of}

pub record Of (N : Net) (plan : Plan) (totals : Totals) : Type 0 where
  pub sound : NetSound N
  pub planned : Planned N plan
  pub counts : totals ≡ totals_of N

-- some network
pub record OfSome (plan : Plan) (totals : Totals) : Type 0 where
  pub net : Net
  pub of : Of net plan totals

-- of the record's network
pub of_record : (net : Words) {plan : Plan} {totals : Totals} → is_network net ≡ true → Planned (net_in net) plan → totals ≡ totals_of (net_in net) → Of (net_in net) plan totals
of_record net e p t = record { sound = net_sound net e; planned = p; counts = t }
