-- A network without areas: it has no nodes and no rows, and a run of it lists nothing before its last line. Assumes nothing.
use Rattle.std.specs.Prelude.{◌<◌, ◌+◌, ◌≡◌}
use Rattle.whole.specs.Plain.{ℕ, suc, refl, sym, ap, ◌∙◌, Bool, true, false, cond, [], length, dec_lt}
use Rattle.whole.specs.Plain.{arith, Words, numbers}
use Rattle.whole.specs.Turns.{turns_done}
use Rattle.whole.specs.TurnLaws.{turns_keeps}
use Rattle.paper.specs.Rows.{kind, is_branch, is_source, steps}
use Rattle.paper.specs.Classes.{one_sort}
use Rattle.paper.specs.Areas.{Net, area_count}
use Rattle.paper.specs.Advance.{Memory}
use Rattle.paper.specs.Listing.{going, area_run, listed, step_run, closing, step_lines, volt_lines, current_lines}
use Rattle.laws_facts.specs.Nets.{NetSound, row_at, area_of_lem}
use Rattle.laws_pieces.specs.Runs.{run_from}
use Rattle.laws_facts.specs.Sound.{RowSound}

module _ (N : Net) (s : NetSound N) (e : area_count N ≡ 0) where
  no_nodes : N.nodes ≡ 0
  no_nodes = elim (dec_lt N.nodes 1) [ yes h ↦ omega arith | no h ↦ absurd (omega (arith, s.area_least 1 (omega arith) (omega arith), area_of_lem N 1)) ]

  no_row : (i : ℕ) → i < length N.rows → ⊥
  no_row i h = go (is_branch (row_at N i)) (is_source (row_at N i)) refl refl (one_sort (kind (row_at N i)) f.kind_least f.kind_most)
    where
      f : RowSound N.head N.nodes (row_at N i)
      f = s.row i h

      go : (b c : Bool) → is_branch (row_at N i) ≡ b → is_source (row_at N i) ≡ c → cond (is_branch (row_at N i)) 1 0 + cond (is_source (row_at N i)) 1 0 ≡ 1 → ⊥
      go true c p q one = let b = f.branch p in b.apart (omega (arith, no_nodes, b.from_in.most, b.to_in.most))
      go false true p q one = omega (arith, no_nodes, (f.source q).at_in.least, (f.source q).at_in.most)
      go false false p q one = let z : 0 + 0 ≡ 1 = rw (p, q) at one in omega arith

  no_rows : length N.rows ≡ 0
  no_rows = elim (dec_lt (length N.rows) 1) [ yes h ↦ omega arith | no h ↦ absurd (no_row 0 (omega arith)) ]

  no_lines : (recs : Words) (k : ℕ) → step_lines N recs k ≡ []
  unfolding step_lines volt_lines current_lines numbers
  no_lines recs k = rw (no_nodes, no_rows)

  step_none : (net : Words) (k : ℕ) (m : Memory) → step_run net N k (going m []) ≡ going m []
  unfolding step_run listed
  step_none net k m = rw (e, turns_done 1 1 (area_run net k) (going m []) (omega arith), no_lines m.records k)

  pub run_none : (net : Words) (m : Memory) → run_from net N 0 m ≡ run_from net N (steps N.head) m
  unfolding run_from
  run_none net m =
      ap (closing N) (turns_keeps (λ x. x ≡ going m []) 1 (suc (steps N.head)) (step_run net N) (λ j x l k q. ap (step_run net N j) q ∙ step_none net j m) (going m []) refl)
      ∙ sym (ap (closing N) (turns_done (suc (steps N.head)) (suc (steps N.head)) (step_run net N) (going m []) (omega arith)))
