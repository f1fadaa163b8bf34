-- Histories and sent values of a well-formed state are within their end. Assumes nothing.
use Rattle.std.specs.Prelude.{◌≤◌, ◌≡◌, ◌&&◌}
use Rattle.whole.specs.Plain.{ℕ, zero, suc, true, get_or, replicate, le_trans, arith, Words}
use Rattle.whole.specs.Folds.{and_left, and_right}
use Rattle.whole.specs.Within.{within_at}
use Rattle.paper.specs.Limits as Limits
use Rattle.paper.specs.Areas.{Net}
use Rattle.paper.specs.Records.{history_at, slot_count, records_formed, store_formed, well_formed}
use Rattle.paper.proofs.Apart.{histories_in, end_most, record_end}
use Rattle.step_own.specs.Ends.{Kept}
use Rattle.call_state.specs.Judged.{Long}

same_most : (n m j : ℕ) → get_or (replicate n m) j 0 ≤ m
same_most zero m j = omega arith
same_most (suc n) m zero = omega arith
same_most (suc n) m (suc j) = same_most n m j

module _ (N : Net) {recs froms tos : Words} (k : Long recs froms tos) (e : well_formed N recs froms tos ≡ true) where
  pub kept : Kept recs froms tos
  unfolding well_formed store_formed
  kept =
      let words = records_formed N recs in
      let from = store_formed N froms in
      let to = store_formed N tos in
      record {
        records_long = k.records_long;
        froms_long = k.froms_long;
        tos_long = k.tos_long;
        held = λ i h. le_trans (record_end N recs froms tos e (history_at i)) (end_most N histories_in i h);
        from_sent = λ j. le_trans (within_at _ froms (and_right words from (and_left (words && from) to e)) j) (same_most (slot_count N) Limits.history_end j);
        to_sent = λ j. le_trans (within_at _ tos (and_right (words && from) to e) j) (same_most (slot_count N) Limits.history_end j);
      }
