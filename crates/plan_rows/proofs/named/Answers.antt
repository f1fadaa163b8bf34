-- `plan_rows::named` meets its contract. Assumes nothing.
use Rattle.whole.specs.Plain.{arith}
use Rattle.laws_facts.proofs.Nets.{net_sound}
use Rattle.plan_rows.specs.Decoded.{from_in, named_is}
use Rattle.plan_rows.proofs.named.Goals as goal

pub number-requires : goal.number-requires
number-requires c =
    record {
      i_in_bounds = (c.requires, omega arith);
      j_value = (from_in (net_sound _ c.args.net.passes) c.args.i c.requires).is_nat;
    }

pub returns : goal.returns
returns c =
    omega (arith, c.max.ensures, c.number.ensures, c.to_at.ensures, named_is (net_sound _ c.args.net.passes) c.args.i c.requires)
