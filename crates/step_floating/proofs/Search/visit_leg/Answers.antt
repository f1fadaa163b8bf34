-- `step_floating::Search::visit_leg` meets its contract: what is found is a node, for which the list has room. Assumes nothing.
use Rattle.std.specs.Prelude.{◌≡◌}
use Rattle.whole.specs.Plain.{sym, ◌∙◌, ne_eqb, arith}
use Rattle.step_legs.specs.Wires.{leg_of}
use Rattle.step_floating.specs.Search.{finds, reach, enlist, longer}
use Rattle.step_floating.specs.Marks.{unseen_set}
use Rattle.step_floating.specs.Found.{Found, found_end, finds_found}
use Rattle.step_floating.specs.Visits.{named_some, named_not, none_named}
use Rattle.step_floating.proofs.Search.visit_leg.Goals as goal
use Rattle.step_floating.proofs.Search.visit_leg.Goals.{In-Some}

found_is : (c : In-Some) → c.in-Some.found ≡ finds (leg_of c.args.l) c.args.n c.args.self.now.marks
found_is c = sym (named_some _ (sym c.finds.ensures ∙ c.in-Some.is))

some : (c : In-Some) → c.in-Some.found ≡ 0 → ⊥
some c = named_not _ (sym c.finds.ensures ∙ c.in-Some.is)

what : (c : In-Some) → Found (leg_of c.args.l) c.args.self.now.marks c.in-Some.found
what c = finds_found (leg_of c.args.l) c.args.n c.args.self.now.marks c.requires.1.own (found_is c) (some c)

pub bounds-self-found : goal.bounds-self-found
bounds-self-found c = let h = found_end c.requires.0.near_end c.requires.0.far_end (what c.before) in omega (arith, h)

pub bounds-self-self : goal.bounds-self-self
bounds-self-self c =
    let f = what c.before in
    omega (arith, c.requires.1.room, unseen_set c.args.self.now.marks c.in-Some.found (λ e. some c.before (sym f.unreached ∙ e)))

pub returns-in-Some : goal.returns-in-Some
unfolding reach enlist longer
returns-in-Some c = let d = c.before.before in rw (← found_is d, ne_eqb _ 0 (some d))

pub returns-in_default : goal.returns-in_default
unfolding reach enlist longer
returns-in_default c = rw (none_named _ (sym c.in_default.is ∙ c.finds.ensures))
