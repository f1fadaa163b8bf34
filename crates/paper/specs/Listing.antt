-- "Listing": what `emtrun` writes for a study. Assumes nothing.
use Rattle.std.specs.Prelude.{Ok, Err, ◌+◌, ◌/◌, ◌%◌, ◌∷◌, ◌++◌}
use Rattle.whole.specs.Plain.{ℕ, zero, suc, Bool, true, false, cond, not, List, [], eqb, ℤ}
use Rattle.whole.specs.Plain.{pos, negsuc, get_or, length, replicate, Words, z, word, numbers}
use Rattle.paper.specs.Replies.{Advance, Reading}
use Rattle.paper.specs.declared.Refusal.{Refusal}
use Rattle.whole.specs.Turns.{turns}
use Rattle.paper.specs.Limits as Limits
use Rattle.paper.specs.Rows.{bytes, is_branch, is_line, steps}
use Rattle.paper.specs.Text.{LF, TAB, MINUS}
use Rattle.paper.specs.Network.{table_of}
use Rattle.paper.specs.Areas.{Net, net_of, area_count, branch_number}
use Rattle.paper.specs.Records.{volt_at, current_at, to_current_at}
use Rattle.paper.specs.Answers.{reading_number, reading_line, refusal_number, refusal_place}
use Rattle.paper.specs.Reading.{read_of}
use Rattle.paper.specs.Advance.{Memory, Advanced, advance_of}
use Rattle.paper.specs.Resetting.{fresh}

-- ---- numbers and lines

-- n's last digits, at most `fuel` of them, before `rest`; `more` says whether any is left
unfoldable pub digits : ℕ → Bool → ℕ → List ℕ → List ℕ
digits zero more n rest = rest
digits (suc fuel) false n rest = rest
digits (suc fuel) true n rest = digits fuel (not (eqb (n / 10) 0)) (n / 10) ((48 + n % 10) ∷ rest)

-- no number of a listing has more than 20
unfoldable pub shown_nat : ℕ → List ℕ
shown_nat n = digits 20 true n []

unfoldable pub shown : ℤ → List ℕ
shown (pos n) = shown_nat n
shown (negsuc n) = MINUS ∷ shown_nat (suc n)

unfoldable pub shown_all : List ℤ → List ℕ
shown_all [] = LF ∷ []
shown_all (x ∷ xs) = TAB ∷ (shown x ++ shown_all xs)

-- a word and its numbers, parted by tabs
abbrev pub line_of : List ℕ → List ℤ → List ℕ
line_of w xs = w ++ shown_all xs

-- ---- a full step

-- "`v`, step, node, voltage for each node"
unfoldable pub volt_lines : Net → Words → ℕ → List ℕ → List ℕ
volt_lines N recs k [] = []
volt_lines N recs k (n ∷ ns) = line_of (bytes "v") (pos k ∷ pos n ∷ word recs (volt_at N n) ∷ []) ++ volt_lines N recs k ns

-- "`i`, step, branch, current for each branch (from side; for a line a fifth field, the to-end current)"
unfoldable pub current_line : Net → Words → ℕ → ℕ → List ℕ
current_line N recs k i =
    let r = get_or N.rows i [] in
    let b = pos (branch_number N (suc i)) in
    let x = word recs (current_at i) in
    cond (is_line r) (line_of (bytes "i") (pos k ∷ b ∷ x ∷ word recs (to_current_at i) ∷ []))
    (cond (is_branch r) (line_of (bytes "i") (pos k ∷ b ∷ x ∷ [])) [])

unfoldable pub current_lines : Net → Words → ℕ → List ℕ → List ℕ
current_lines N recs k [] = []
current_lines N recs k (i ∷ is) = current_line N recs k i ++ current_lines N recs k is

unfoldable pub step_lines : Net → Words → ℕ → List ℕ
step_lines N recs k = volt_lines N recs k (numbers 1 N.nodes) ++ current_lines N recs k (numbers 0 (length N.rows))

-- ---- the run

pub data Run : Type 0 where
  going : Memory → List ℕ → Run
  ended : List ℕ → Run

-- "or `stop`, step, area, number, node-or-branch"
abbrev pub stop_line : ℕ → ℕ → Refusal → List ℕ
stop_line k a x = line_of (bytes "stop") (pos k ∷ pos a ∷ pos (refusal_number x) ∷ pos (refusal_place x) ∷ [])

abbrev pub went : ℕ → ℕ → List ℕ → Memory → Advance → Run
went k a out m (Ok c) = going m out
went k a out m (Err x) = ended (out ++ stop_line k a x)

unfoldable pub went_on : ℕ → ℕ → List ℕ → Advanced → Run
went_on k a out r = went k a out r.after r.answer

unfoldable pub area_run : Words → ℕ → ℕ → Run → Run
area_run net k a (going m out) = went_on k a out (advance_of net a m)
area_run net k a (ended out) = ended out

unfoldable pub listed : Net → ℕ → Run → Run
listed N k (going m out) = going m (out ++ step_lines N m.records k)
listed N k (ended out) = ended out

-- "advances areas in rising order step by step"
unfoldable pub step_run : Words → Net → ℕ → Run → Run
step_run net N k s = listed N k (turns 1 (suc (area_count N)) (area_run net k) s)

-- "It ends with `done` and the step count"
unfoldable pub closing : Net → Run → List ℕ
closing N (going m out) = out ++ line_of (bytes "done") (pos (steps N.head) ∷ [])
closing N (ended out) = out

unfoldable pub run_of : Words → Net → List ℕ
run_of net N = closing N (turns 1 (suc (steps N.head)) (step_run net N) (going fresh []))

-- "a refused text gives `bad`, line, number"
unfoldable pub listing_from : Reading → Words → List ℕ
listing_from x net =
    cond (eqb (reading_number x) 0) (run_of net (net_of (table_of net)))
    (line_of (bytes "bad") (pos (reading_line x) ∷ pos (reading_number x) ∷ []))

unfoldable pub listing : List ℕ → List ℕ
listing text = let r = read_of text (replicate Limits.network_words z) in listing_from r.answer r.network
