-- What is planned of a network record that passes is planned of its network. Assumes nothing.
use Rattle.std.specs.Prelude.{◌≡◌}
use Rattle.whole.specs.Plain.{ℕ, true, List, Words}
use Rattle.paper.specs.Network.{is_network}
use Rattle.laws_facts.specs.Nets.{net_in}
use Rattle.plan_record.specs.Mapped.{Mapped}
use Rattle.plan_rows.specs.declared.Totals.{Totals}
use Rattle.plan_rows.specs.Planned.{Plan, Planned, totals_of}
use Rattle.plan_net.specs.Of.{of_record}
use Rattle.call_state.specs.Judged.{MappedOf}

pub mapped_of : (net : Words) {plan : Plan} {areas : List ℕ} {totals : Totals} → is_network net ≡ true → Planned (net_in net) plan × Mapped (net_in net) areas
    → totals ≡ totals_of (net_in net) → MappedOf (net_in net) plan areas totals
mapped_of net e p t = record { of = of_record net e p.0 t; mapped = p.1 }
