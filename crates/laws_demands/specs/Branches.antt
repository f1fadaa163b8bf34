-- "Branch equations": the legs of a row by its kind, and the memory that an area's next step offers. Assumes nothing.
use Rattle.std.specs.Prelude.{◌<◌, ◌≡◌, ◌⊎◌, ◌&&◌}
use Rattle.whole.specs.Plain.{ℕ, zero, suc, sym, ap, ◌∙◌, inl, inr, true}
use Rattle.whole.specs.Plain.{false, List, eqb}
use Rattle.whole.specs.Plain.{length, get_or, eq-eqb, ne_eqb, arith}
use Rattle.whole.specs.Plain.{Words, word, numbers}
use Rattle.whole.specs.Folds.{get_d_map, get_d_numbers, length_numbers}
use Rattle.paper.specs.Rows.{is_branch, is_line, from, to}
use Rattle.paper.specs.Conductance.{conductance}
use Rattle.paper.specs.Areas.{Net, area_of, row_area, step}
use Rattle.paper.specs.Records.{history_at}
use Rattle.paper.specs.Legs.{leg, own_end, other_end, Branch, branch, Heard, heard_by, heard, conducts, line_end, line_legs, plain_legs, legs_by}
use Rattle.paper.specs.Advance.{Memory, written}
use Rattle.laws_facts.specs.Nets.{row_at}
use Rattle.laws_local.specs.Sound.{Sound, sound}
use Rattle.laws_local.specs.Own.{deaf}
use Rattle.laws_local.specs.Nodes.{NodeOf}
use Rattle.laws_local.specs.Written.{volt_put}
use Rattle.laws_local.specs.Outcome.{step_of, legs_now, volts_of}
use Rattle.laws_demands.specs.Said.{voltage, offer}
use Rattle.laws_demands.specs.Judged.{Asked}
use Rattle.laws_demands.specs.Volts.{ground_volt}

-- ---- the legs of a row, by its kind

module _ (N : Net) (a k : ℕ) (recs : Words) (ears : List Heard) (i : ℕ) where
  pub plain_legs_lem : is_line (row_at N i) ≡ false → is_branch (row_at N i) ≡ true → row_area N (row_at N i) ≡ a
      → legs_by N a k recs ears i ≡ plain_legs (row_at N i) (conducts N recs k i) (word recs (history_at i))
  unfolding legs_by
  plain_legs_lem l b e = rw (l, b, eq-eqb (row_area N (row_at N i)) a e)

  pub line_legs_lem : is_line (row_at N i) ≡ true → legs_by N a k recs ears i ≡ line_legs N a k (row_at N i) (get_or ears i deaf)
  unfolding legs_by
  line_legs_lem l = rw l

  pub from_leg : is_line (row_at N i) ≡ true → area_of N (from (row_at N i)) ≡ a
      → (legs_by N a k recs ears i).is_from_end ≡ own_end (leg (from (row_at N i)) 0 (conductance (step N) (row_at N i)) (get_or ears i deaf).at_from)
  unfolding line_legs line_end
  from_leg l e = ap (λ (b : Branch). b.is_from_end) (line_legs_lem l) ∙ rw (eq-eqb (area_of N (from (row_at N i))) a e)

  pub to_leg : is_line (row_at N i) ≡ true → area_of N (to (row_at N i)) ≡ a
      → (legs_by N a k recs ears i).is_to_end ≡ own_end (leg (to (row_at N i)) 0 (conductance (step N) (row_at N i)) (get_or ears i deaf).at_to)
  unfolding line_legs line_end
  to_leg l e = ap (λ (b : Branch). b.is_to_end) (line_legs_lem l) ∙ rw (eq-eqb (area_of N (to (row_at N i))) a e)

  -- an end of another area, and a row of another area or a source
  pub from_else : is_line (row_at N i) ≡ true → (area_of N (from (row_at N i)) ≡ a → ⊥) → (legs_by N a k recs ears i).is_from_end ≡ other_end
  unfolding line_legs line_end
  from_else l e = ap (λ (b : Branch). b.is_from_end) (line_legs_lem l) ∙ rw (ne_eqb (area_of N (from (row_at N i))) a e)

  pub to_else : is_line (row_at N i) ≡ true → (area_of N (to (row_at N i)) ≡ a → ⊥) → (legs_by N a k recs ears i).is_to_end ≡ other_end
  unfolding line_legs line_end
  to_else l e = ap (λ (b : Branch). b.is_to_end) (line_legs_lem l) ∙ rw (ne_eqb (area_of N (to (row_at N i))) a e)

  pub row_else : is_line (row_at N i) ≡ false → is_branch (row_at N i) && eqb (row_area N (row_at N i)) a ≡ false → legs_by N a k recs ears i ≡ branch (row_at N i) other_end other_end
  unfolding legs_by
  row_else l e = rw (l, e)

pub ear_is : (N : Net) (a k : ℕ) (froms tos : Words) (i : ℕ) → i < length N.rows → get_or (heard N a k froms tos) i deaf ≡ heard_by N a k froms tos i
unfolding heard
ear_is N a k froms tos i h =
    get_d_map (heard_by N a k froms tos) (numbers 0 (length N.rows)) i 0 deaf (rw (length_numbers 0 (length N.rows)) h)
    ∙ ap (heard_by N a k froms tos) (get_d_numbers 0 (length N.rows) i 0 h ∙ omega arith)

-- ---- the memory that area a's next step offers

-- its number, what its line ends hear, the voltages that it proposes, and each row's legs
pub record Now : Type 0 where
  pub k : ℕ
  pub ears : List Heard
  pub v : Words
  pub by : ℕ → Branch

abbrev pub now : Net → ℕ → Memory → Now
now N a m =
    let k = step_of N a m in
    let ears = heard N a k m.froms m.tos in
    record { k = k; ears = ears; v = volts_of N a k (legs_now N a m); by = legs_by N a k m.records ears }

module _ (N : Net) (a : ℕ) (m : Memory) (ok : Asked N a m) where
  open now N a m use {k, ears, v, by}

  pub snd : Sound N
  snd = sound N ok.net

  -- a voltage of the area, or ground's
  pub volt_of : (p : ℕ) → (p ≡ 0) ⊎ NodeOf N a p → voltage N (offer N a m) p ≡ word v p
  unfolding written
  volt_of zero h = sym (ground_volt N ok.net a k (legs_now N a m))
  volt_of (suc p) (inl e) = absurd (omega arith)
  volt_of (suc p) (inr n) = volt_put N a k m.records ears v snd m.records ok.long.records (suc p) n
