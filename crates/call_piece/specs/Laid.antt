-- The tables of a network's areas as they are laid, before any step: what a piece of the listing begins from. Assumes nothing.
use Rattle.whole.specs.Plain.{ℕ, List, arith, Words}
use Rattle.std.specs.Prelude.{Float}
use Rattle.paper.specs.Advance.{Memory}
use Rattle.paper.specs.Pieces.{steps_taken}
use Rattle.laws_facts.specs.Nets.{net_in}
use Rattle.plan_rows.specs.declared.Totals.{Totals}
use Rattle.plan_rows.specs.Planned.{Plan}
use Rattle.plan_net.specs.Of.{Of}
use Rattle.plan_own.specs.declared.Own.{Own}
use Rattle.plan_own.specs.Owns.{Laid, Unprepared}
use Rattle.step_legs.specs.declared.Wire.{Wire}
use Rattle.step_legs.specs.declared.Source.{Source}
use Rattle.step_factors.specs.Factors.{Square}
use Rattle.list_round.specs.Round.{InStep, AllTables}
use Rattle.list_pieces.specs.Begun.{Begins}

module _ (net : Words) {plan : Plan} {owns : List Own} {totals : Totals} {legs : List Wire} {nodes : List ℕ} {sources : List Source} (o : Of (net_in net) plan totals) (l : Laid (net_in net) owns legs nodes sources)
    (u : Unprepared (net_in net) owns) where
  laid_tables : (recs : Words) (f : List (List Float)) → Square f → AllTables net 1 recs plan owns legs nodes sources f
  laid_tables recs f q =
      record {
        sound = o.sound;
        planned = o.planned;
        least = omega arith;
        most = omega arith;
        long = l.long;
        tables = l.tables;
        square = q;
        ours = λ a i h. l.ours a i (omega arith);
        apart = λ a b i h k. l.apart a b i h (omega arith);
        kept = λ a j i h k r. absurd (omega (arith, u.until a i (omega arith)));
      }

  pub begins : {m : Memory} → InStep net (steps_taken (net_in net) m.records) m → Begins net plan totals owns legs nodes sources m
  begins {m} v = record { of = o; tables = laid_tables m.records; level = v }
