-- How long the lines of a full step are at most: 23 bytes for a node, 53 for a branch; and a last line. Assumes nothing.
use Rattle.std.specs.Prelude.{◌+◌, ◌-◌, ◌*◌, ◌≤◌, ◌<◌, ◌≡◌, ◌∷◌, ◌++◌}
use Rattle.whole.specs.Plain.{ℕ, zero, suc, refl, sym, ap, Bool, true, false, cond}
use Rattle.whole.specs.Plain.{true≢false, List, [], ℤ, pos, nat_abs, length, length-append, arith, Words}
use Rattle.whole.specs.Plain.{word, numbers}
use Rattle.std.proofs.Common.{add-one}
use Rattle.paper.specs.declared.Refusal.{Refusal}
use Rattle.paper.specs.Limits as Limits
use Rattle.paper.specs.Rows.{bytes, is_branch, is_line}
use Rattle.paper.specs.Classes.{line_branch}
use Rattle.paper.specs.Areas.{Net, branch_number}
use Rattle.paper.specs.Records.{voltages, current_at, to_current_at}
use Rattle.paper.specs.Listing.{shown, shown_all, line_of, volt_lines, current_line, current_lines, step_lines, stop_line}
use Rattle.paper.specs.Answers.{refusal_number, refusal_place}
use Rattle.laws_facts.specs.Nets.{NetSound, row_at, branch_number_most}
use Rattle.list_digits.specs.Decimal.{shown_most, shown_length, whole_length}
use Rattle.plan_rows.specs.Laws.{number_next}
use Rattle.list_step.specs.Joined.{joined, joined_next, volt_line, volts_text, volts_joined, currents_joined}

-- the words that are listed are in range
pub record Small (nodes rows : ℕ) (recs : Words) : Type 0 where
  pub volts : (n : ℕ) → 1 ≤ n → n ≤ nodes → nat_abs (word recs (voltages.start + n - 1)) ≤ Limits.voltage_end
  pub froms : (i : ℕ) → i < rows → nat_abs (word recs (current_at i)) ≤ Limits.current_end
  pub tos : (i : ℕ) → i < rows → nat_abs (word recs (to_current_at i)) ≤ Limits.current_end

-- ---- lines by the lengths of their numbers

line_four : (w : List ℕ) (a b c : ℤ) → length (line_of w (a ∷ b ∷ c ∷ [])) ≡ length w + (length (shown a) + (length (shown b) + length (shown c))) + 4
unfolding shown_all
line_four w a b c = simp length-append (omega arith)

line_five : (w : List ℕ) (a b c d : ℤ) → length (line_of w (a ∷ b ∷ c ∷ d ∷ [])) ≡ length w + (length (shown a) + (length (shown b) + (length (shown c) + length (shown d)))) + 5
unfolding shown_all
line_five w a b c d = simp length-append (omega arith)

pub done_short : (n : ℕ) → length (line_of (bytes "done") (pos n ∷ [])) ≤ 26
unfolding shown_all shown bytes
done_short n = simp length-append (omega (arith, shown_most n))

pub stop_short : (k a : ℕ) (x : Refusal) → length (stop_line k a x) ≤ 89
unfolding shown bytes
stop_short k a x = rw line_five (omega (arith, shown_most k, shown_most a, shown_most (refusal_number x), shown_most (refusal_place x)))

-- ---- all lines
module _ {N : Net} (s : NetSound N) {recs : Words} (f : Small N.nodes (length N.rows) recs) (k : ℕ) (h : k ≤ Limits.steps_end) where
  step_short : length (shown (pos k)) ≤ 7
  unfolding shown
  step_short = shown_length 6 k (omega arith) (omega arith)

  two_digits : (n : ℕ) → n ≤ 64 → length (shown (pos n)) ≤ 2
  unfolding shown
  two_digits n l = shown_length 1 n (omega arith) (omega arith)

  volts_short : (i : ℕ) → i ≤ N.nodes → length (volts_text recs k i) ≤ 23 * i
  unfolding joined numbers volt_line bytes
  volts_short zero q = omega arith
  volts_short (suc i) q =
      let line = volt_line recs k in
      let x = word recs (voltages.start + (1 + i) - 1) in
      let v = f.volts (1 + i) (omega arith) (omega arith) in
      let j : joined line (numbers 1 (suc i)) ≡ joined line (numbers 1 i) ++ line (1 + i) = rw (add-one i) at (joined_next line 1 i) in
      omega (
        arith,
        ap length j,
        length-append (joined line (numbers 1 i)) (line (1 + i)),
        volts_short i (omega arith),
        line_four (bytes "v") (pos k) (pos (1 + i)) x,
        step_short,
        two_digits (1 + i) (omega (arith, s.node_most)),
        whole_length 7 x (omega arith) (omega arith),
      )

  -- a line is a branch
  either : (x y : List ℕ) (a b : Bool) → (a ≡ true → b ≡ true) → length x ≤ 53 → length y ≤ 53 → length (cond a x (cond b y [])) ≤ 53 * cond b 1 0
  either x y true true e p q = omega arith
  either x y true false e p q = absurd (true≢false (sym (e refl)))
  either x y false true e p q = omega arith
  either x y false false e p q = omega arith

  current_short : (i : ℕ) → i < length N.rows → length (current_line N recs k i) ≤ 53 * cond (is_branch (row_at N i)) 1 0
  unfolding current_line bytes
  current_short i q =
      let r = row_at N i in
      let b = pos (branch_number N (suc i)) in
      let x = word recs (current_at i) in
      let y = word recs (to_current_at i) in
      let n = two_digits (branch_number N (suc i)) (branch_number_most N s (suc i)) in
      let u = f.froms i q in
      let v = f.tos i q in
      let from = whole_length 17 x (omega arith) (omega arith) in
      let to = whole_length 17 y (omega arith) (omega arith) in
      either (line_of (bytes "i") (pos k ∷ b ∷ x ∷ y ∷ [])) (line_of (bytes "i") (pos k ∷ b ∷ x ∷ [])) (is_line r) (is_branch r) (line_branch r)
      (omega (arith, line_five (bytes "i") (pos k) b x y, step_short, n, from, to))
      (omega (arith, line_four (bytes "i") (pos k) b x, step_short, n, from))

  currents_short : (i : ℕ) → i ≤ length N.rows → length (joined (current_line N recs k) (numbers 0 i)) ≤ 53 * branch_number N i
  unfolding joined numbers branch_number
  currents_short zero q = omega arith
  currents_short (suc i) q =
      let line = current_line N recs k in
      let z : 0 + i ≡ i = omega arith in
      let j : joined line (numbers 0 (suc i)) ≡ joined line (numbers 0 i) ++ line i = rw (add-one i, z) at (joined_next line 0 i) in
      omega (arith, ap length j, length-append (joined line (numbers 0 i)) (line i), currents_short i (omega arith), number_next N i (omega arith), current_short i (omega arith))

  pub lines_short : length (step_lines N recs k) ≤ 4128
  unfolding step_lines
  lines_short =
      let n = numbers 1 N.nodes in
      let m = numbers 0 (length N.rows) in
      omega (
        arith,
        length-append (volt_lines N recs k n) (current_lines N recs k m),
        ap length (volts_joined N recs k n),
        ap length (currents_joined N recs k m),
        volts_short N.nodes (omega arith),
        currents_short (length N.rows) (omega arith),
        s.node_most,
        branch_number_most N s (length N.rows),
      )
