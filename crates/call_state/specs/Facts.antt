-- What a well-formed state gives its callers: counts that are numbers of steps, none past the study's. Assumes nothing.
use Rattle.std.specs.Prelude.{◌+◌, ◌-◌, ◌≤◌, ◌≡◌}
use Rattle.whole.specs.Plain.{ℕ, refl, sym, ap, true, true≢false, List, ℤ, pos, negsuc, non_neg}
use Rattle.whole.specs.Plain.{length, take, leb-true, eq-eqb, ne_eqb, le_trans, ℕ_discrete, arith, Words, word, nat}
use Rattle.whole.specs.Plain.{up_to, every}
use Rattle.whole.specs.Folds.{and_left, and_right}
use Rattle.whole.specs.Within.{take_every}
use Rattle.paper.specs.Limits as Limits
use Rattle.paper.specs.Areas.{Net, area_of, area_count}
use Rattle.paper.specs.Records.{count_of, well_formed}
use Rattle.laws_facts.specs.Nets.{area_of_lem}
use Rattle.plan_rows.specs.Planned.{Plan}
use Rattle.plan_rows.specs.declared.Totals.{Totals}
use Rattle.paper.proofs.Apart.{state_records}
use Rattle.plan_net.specs.Of.{Of}
use Rattle.call_counts.specs.Counts.{CountsIn, Counted}
use Rattle.call_counts.specs.Lines.{counted}
use Rattle.call_counts.specs.Level.{taken_by}
use Rattle.call_state.specs.Judged.{Long, MappedOf, part_formed, section_formed, counts_formed, NodesCounted}
use Rattle.call_state.specs.Formed.{few, counts_formed_lem}

number_is : (x : ℤ) → non_neg x ≡ true → x ≡ pos (nat x)
number_is (pos n) e = refl
number_is (negsuc n) e = absurd (true≢false (sym e))

-- ---- of counts in order

module _ (recs : Words) (areas most : ℕ) (long : length recs ≡ Limits.record_words) (fit : areas ≤ Limits.node_end)
    (e : counts_formed recs areas most ≡ true) where
  count_most : (a : ℕ) → 1 ≤ a → a ≤ areas → count_of recs a ≤ most
  unfolding counts_formed section_formed part_formed up_to
  count_most a l h =
      let sizes = and_left _ _ (and_right (every non_neg (take Limits.node_end recs)) _ e) in
      leb-true _ _ (take_every (up_to most) (0 + areas - 0) recs sizes (a - 1) (omega arith) (omega arith))

  pub counts_in : most ≤ Limits.steps_end → CountsIn recs areas
  unfolding counts_formed
  counts_in m =
      let signs = and_left (every non_neg (take Limits.node_end recs)) _ e in
      record {
        at = λ a l h.
            record {
              least = l;
              there = omega arith;
              number = number_is (word recs (a - 1)) (take_every non_neg Limits.node_end recs signs (a - 1) (omega arith) (omega arith));
              most = le_trans (count_most a l h) m;
            };
      }

-- each node is of one of the areas
pub nodes_counted : {N : Net} {plan : Plan} {areas : List ℕ} {t : Totals} {recs : Words} → MappedOf N plan areas t → CountsIn recs t.areas → NodesCounted areas t.nodes recs
nodes_counted {N} {plan} {areas} {t} {recs} o c =
    let n : t.nodes ≡ N.nodes = ap (λ (u : Totals). u.nodes) o.of.counts in
    let a : t.areas ≡ area_count N = ap (λ (u : Totals). u.areas) o.of.counts in
    let s = o.of.sound in
    record {
      few = omega (arith, s.node_most);
      node = λ i l h. rw (o.mapped.area_at i (omega (arith, s.node_most))) (c.at (area_of N i) (s.area_least i l (omega arith)) (omega (arith, area_of_lem N i)));
    }

-- ---- of a state that is well formed

module _ {N : Net} {plan : Plan} {t : Totals} {recs froms tos : Words} (o : Of N plan t) (k : Long recs froms tos)
    (e : well_formed N recs froms tos ≡ true) where
  counts_good : counts_formed recs t.areas t.steps ≡ true
  counts_good = counts_formed_lem recs o k.records_long (state_records N recs froms tos e)

  pub formed_counts : CountsIn recs t.areas
  formed_counts = counts_in recs t.areas t.steps k.records_long (few o).areas counts_good (few o).steps

  pub formed_counted : Counted plan t.rows recs
  formed_counted = counted o formed_counts

  -- no area has taken more steps than the study has
  pub count_end : (a : ℕ) → 1 ≤ a → a ≤ t.areas → count_of recs a ≤ t.steps
  count_end = count_most recs t.areas t.steps k.records_long (few o).areas counts_good

  pub taken_end : taken_by recs t.areas t.steps ≤ t.steps
  taken_end = go (ℕ_discrete t.areas 0)
    where
      go : Dec (t.areas ≡ 0) → taken_by recs t.areas t.steps ≤ t.steps
      go (yes q) = rw (eq-eqb t.areas 0 q) (omega arith)
      go (no q) = rw (ne_eqb t.areas 0 q) (count_end 1 (omega arith) (omega arith))
