-- `plan_record::Record::kind` meets its contract: the number is one of the table's. Assumes nothing.
use Rattle.std.specs.Prelude.{◌≡◌}
use Rattle.whole.specs.Plain.{refl, sym, ap, ◌∙◌, arith, nat}
use Rattle.paper.specs.Rows as Rows
use Rattle.paper.specs.Kinds.{number_by, none_by}
use Rattle.laws_facts.specs.Nets.{net_in, row_at}
use Rattle.laws_facts.proofs.Nets.{net_sound}
use Rattle.plan_record.proofs.Record.kind.Goals as goal
use Rattle.plan_record.proofs.Record.kind.Goals.{After-number}

pub number-requires : goal.number-requires
number-requires c =
    let k = ((net_sound c.args.self.words.now c.args.self.passes).row c.args.i c.requires).kind_is in
    record { i_in_bounds = (c.requires, omega arith); j_value = rw k refl }

read : (c : After-number) → c.number.result ≡ Rows.kind (row_at (net_in c.args.self.words.now) c.args.i)
read c = c.number.ensures ∙ ap nat ((net_sound c.args.self.words.now c.args.self.passes).row c.args.i c.requires).kind_is

pub unreachable-requires : goal.unreachable-requires
unreachable-requires c =
    let s = (net_sound c.args.self.words.now c.args.self.passes).row c.args.i c.requires in
    omega (arith, none_by c.number.result (sym c.of.ensures ∙ c.in-None.is), read c.before.before, s.kind_most)

pub returns : goal.returns
returns c = number_by c.number.result (sym c.of.ensures ∙ c.in-Some.is) ∙ read c.before.before
