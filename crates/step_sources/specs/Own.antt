-- An area's own sources: their lines may be driven, and they give what the paper's sums over all rows have at the area's nodes. Assumes nothing.
use Rattle.std.specs.Prelude.{◌-◌, ◌*◌, ◌≤◌, ◌<◌, ◌≡◌, ◌&&◌, ◌∷◌, ◌+ℤ◌, ◌*ℤ◌}
use Rattle.whole.specs.Plain.{ℕ, zero, suc, refl, sym, ◌∙◌, ap, Bool, true, false, cond, [], List}
use Rattle.whole.specs.Plain.{eqb, ltb, ℤ, pos, negsuc, neg_ℤ, nat_abs, lt_z, quot_z, +ℤ_idl, length, get_or, length-map, ext_get_or, eq-eqb, ne_eqb, eqb-true, le_trans, mul-le-mul_left, mul-le-mul_right}
use Rattle.whole.specs.Plain.{arith, z, word, total, keep}
use Rattle.whole.specs.Int.{abs_neg}
use Rattle.whole.specs.Folds.{and_left, and_right, length_keep, get_d_map}
use Rattle.whole.specs.Totals.{total_cong, total_map}
use Rattle.whole.specs.Written.{count_imply, total_if}
use Rattle.paper.specs.Limits as Limits
use Rattle.paper.specs.Kinds.{number}
use Rattle.paper.specs.Rows.{Row, kinds, kind, source_kind, fixing_kind, is_fixing, is_iS, is_vC, is_source, at, peak, start, rise, frequency}
use Rattle.paper.specs.Classes.{fixing_source, injecting_source}
use Rattle.paper.specs.Faults.{fixes}
use Rattle.paper.specs.Areas.{Net, step, area_of}
use Rattle.paper.specs.Sources.{risen, phase, swung, source, held, injected}
use Rattle.paper.specs.Solve.{still_of}
use Rattle.paper.proofs.Kept.{either}
use Rattle.laws_facts.specs.Fields.{Within}
use Rattle.laws_facts.specs.Sound.{StudySound, SourceSound}
use Rattle.laws_facts.specs.Nets.{NetSound, row_at}
use Rattle.laws_volts.proofs.Still.{area_node, still_at, still_length, still_end}
use Rattle.step_legs.specs.declared.Source.{Source}
use Rattle.plan_ends.specs.Kinds.{kind_at, class_at}
use Rattle.plan_ends.specs.Own.{own_source, own_sources, pace_of, source_line, source_lines}
use Rattle.step_legs.specs.Shares.{Volts}
use Rattle.step_sources.specs.Table as Table
use Rattle.step_sources.specs.Table.{no_source, LineSound, Sources, ramp_of, swing_of, value_of, given}
use Rattle.step_sources.specs.Values.{over, since_is}
use Rattle.step_sources.specs.Given.{share, given_at, given_length}

pub still_volts : (N : Net) → NetSound N → (k a : ℕ) → Volts (still_of N a k)
still_volts N s k a = record { long = still_length N s a k; end = still_end N s a k }

module _ {A : Type 0} (q : A → Bool) where
  pub total_keep : (f : A → ℤ) (l : List A) → total f (keep q l) ≡ total (λ x. cond (q x) (f x) z) l
  unfolding total keep
  total_keep f [] = refl
  total_keep f (x ∷ l) = by (q x) ∙ ap (λ (s : ℤ). cond (q x) (f x) z +ℤ s) (total_keep f l)
    where
      by : (b : Bool) → total f (cond b (x ∷ keep q l) (keep q l)) ≡ cond b (f x) z +ℤ total f (keep q l)
      by true = refl
      by false = sym (+ℤ_idl (total f (keep q l)))

  pub keep_each : (P : A → Type 0) (d : A) (l : List A) → ((i : ℕ) → i < length l → q (get_or l i d) ≡ true → P (get_or l i d))
      → (j : ℕ) → j < length (keep q l) → P (get_or (keep q l) j d)
  unfolding keep
  keep_each P d [] h j k = absurd (omega arith)
  keep_each P d (x ∷ l) h j k = by (q x) refl j k (keep_each P d l (λ i m. h (suc i) (omega arith)))
    where
      by : (b : Bool) → q x ≡ b → (j : ℕ) → j < length (cond b (x ∷ keep q l) (keep q l))
          → ((j : ℕ) → j < length (keep q l) → P (get_or (keep q l) j d)) → P (get_or (cond b (x ∷ keep q l) (keep q l)) j d)
      by true e zero k more = h 0 (omega arith) e
      by true e (suc j) k more = more j (omega arith)
      by false e j k more = more j k

-- ---- the classes of a source's kind

source_at : (n : ℕ) → source_kind (number (kind_at n)) ≡ source_kind n
unfolding source_kind kinds
source_at = class_at source_kind (λ n. refl)

fixing_at : (n : ℕ) → fixing_kind (number (kind_at n)) ≡ fixing_kind n
unfolding fixing_kind kinds
fixing_at = class_at fixing_kind (λ n. refl)

injects_at : (n : ℕ) → eqb (number (kind_at n)) 7 ≡ eqb n 7
injects_at = class_at (λ n. eqb n 7) (λ n. ne_eqb (suc (suc (suc (suc (suc (suc (suc (suc (suc (suc n)))))))))) 7 (λ e. omega arith))

swings_at : (n : ℕ) → eqb (number (kind_at n)) 8 ≡ eqb n 8
swings_at = class_at (λ n. eqb n 8) (λ n. ne_eqb (suc (suc (suc (suc (suc (suc (suc (suc (suc (suc n)))))))))) 8 (λ e. omega arith))

-- ---- the table's record

module _ (N : Net) (h : StudySound N.head) (r : Row) (one : is_source r ≡ true) {nodes : ℕ} (m : nodes ≤ Limits.node_end) (s : SourceSound nodes r) where
  -- at most 10^6 · 10^5
  pace_most_lem : nat_abs (pace_of N r) ≤ Limits.step_length_end * Limits.frequency_end
  unfolding pace_of
  pace_most_lem =
      either (λ x. nat_abs x ≤ Limits.step_length_end * Limits.frequency_end) (is_vC r) _ _
      (rw (abs_neg (pos (step N * frequency r))) (le_trans (mul-le-mul_right (frequency r) h.step_in.most) (mul-le-mul_left Limits.step_length_end s.last_in.most)))
      (omega (arith, s.last_in.most))

  pace_rise : is_vC r ≡ false → Within 0 Limits.rise_end (pace_of N r)
  unfolding pace_of
  pace_rise e = rw e (record { is_nat = refl; least = omega arith; most = s.rise_most e })

  pace_swing : is_vC r ≡ true → pace_of N r ≡ neg_ℤ (pos (nat_abs (pace_of N r)))
  unfolding pace_of
  pace_swing e = rw e (ap (λ (n : ℕ). neg_ℤ (pos n)) (sym (abs_neg (pos (step N * frequency r)))))

  fixing : is_vC r ≡ true → is_fixing r ≡ true
  unfolding fixing_kind kinds
  fixing e = rw (eqb-true (kind r) 8 e)

  line_sound : LineSound (source_line N r)
  unfolding source_line
  line_sound =
      record {
        kind_in = source_at (kind r) ∙ one;
        at_in = (s.at_in.least, le_trans s.at_in.most m);
        start_in = rw s.start_in.is_nat at s.start_in;
        rise_in = λ e. pace_rise (sym (swings_at (kind r)) ∙ e);
        pace_is = λ e. pace_swing (sym (swings_at (kind r)) ∙ e);
        pace_most = pace_most_lem;
        peak_most = s.peak_most;
        volt_most = λ e. s.volt_most (fixing (sym (swings_at (kind r)) ∙ e));
      }

pub own_sources_lem : (N : Net) → NetSound N → (a : ℕ) → Sources (source_lines N a)
unfolding own_source own_sources source_line
own_sources_lem N s a =
    record {
      few = rw (long, length_keep (own_source N a) N.rows) (le_trans (count_imply (own_source N a) is_source N.rows a_source) s.source_most);
      sound = λ j h. rw (line j h) (each j (rw long at h));
    }
  where
    a_source : (r : Row) → own_source N a r ≡ true → is_source r ≡ true
    a_source r e = and_left (is_source r) (eqb (area_of N (at r)) a) e

    each : (j : ℕ) → j < length (own_sources N a) → LineSound (source_line N (get_or (own_sources N a) j []))
    each =
        keep_each (own_source N a) (λ r. LineSound (source_line N r)) [] N.rows
        (λ i l e. line_sound N s.study (row_at N i) (a_source (row_at N i) e) s.node_most ((s.row i l).source (a_source (row_at N i) e)))

    long : length (source_lines N a) ≡ length (own_sources N a)
    long = length-map (own_sources N a) (source_line N)

    line : (j : ℕ) → j < length (source_lines N a) → get_or (source_lines N a) j no_source ≡ source_line N (get_or (own_sources N a) j [])
    line j h = get_d_map (source_line N) (own_sources N a) j [] no_source (rw long at h)

-- ---- what they give

line_value : (N : Net) (k : ℕ) (r : Row) → value_of k (source_line N r) ≡ source N k r
unfolding value_of ramp_of swing_of risen source source_line pace_of
line_value N k r = rw (swings_at (kind r), since_is k (start r)) (by (is_vC r) (ltb k (start r)))
  where
    n : ℕ
    n = k - start r

    d : Bool → ℤ
    d b = cond b (neg_ℤ (pos (step N * frequency r))) (pos (rise r))

    m : Bool → ℤ
    m e = cond e (negsuc (start r - suc k)) (pos n)

    by : (b e : Bool)
        → cond b (cond (lt_z (m e) z) z (swung (peak r) (phase (nat_abs (m e)) (nat_abs (d b)))))
        (cond (lt_z (m e) z) z (cond (lt_z (m e) (d b)) (quot_z (peak r *ℤ m e) (d b)) (peak r)))
        ≡ cond e z (cond b (swung (peak r) (phase n (step N * frequency r))) (cond (ltb n (rise r)) (quot_z (peak r *ℤ pos n) (pos (rise r))) (peak r)))
    by true true = refl
    by true false = rw (over n, abs_neg (pos (step N * frequency r)))
    by false true = refl
    by false false = rw (over n)

-- those that pass by their kind
module _ (N : Net) (a k : ℕ) (p : Row → Bool) (q : Source → Bool) (lined : (r : Row) → q (source_line N r) ≡ p r) (some : (r : Row) → p r ≡ true → is_source r ≡ true) where
  -- what a source of the network gives at node n
  abbrev given_by : ℕ → Row → ℤ
  given_by n r = cond (p r && eqb (at r) n) (source N k r) z

  by_row : (n : ℕ) (r : Row) → cond (own_source N a r) (share q k n (source_line N r)) z ≡ cond (eqb (area_of N n) a) (given_by n r) z
  unfolding own_source source_line
  by_row n r = rw (lined r, line_value N k r) (by (p r && eqb (at r) n) refl)
    where
      never : (b : Bool) → cond b z z ≡ z
      never true = refl
      never false = refl

      by : (b : Bool) → (p r && eqb (at r) n) ≡ b
          → cond (is_source r && eqb (area_of N (at r)) a) (cond b (source N k r) z) z ≡ cond (eqb (area_of N n) a) (cond b (source N k r) z) z
      by true e = rw (some r (and_left (p r) (eqb (at r) n) e), eqb-true (at r) n (and_right (p r) (eqb (at r) n) e))
      by false e = never (is_source r && eqb (area_of N (at r)) a) ∙ sym (never (eqb (area_of N n) a))

  own_at : (n : ℕ) → n ≤ Limits.node_end → word (given q k (source_lines N a)) n ≡ cond (eqb (area_of N n) a) (total (given_by n) N.rows) z
  unfolding own_sources
  own_at n h =
      given_at q k (source_lines N a) n h
      ∙ total_map (share q k n) (source_line N) (own_sources N a)
      ∙ total_keep (own_source N a) (λ r. share q k n (source_line N r)) N.rows
      ∙ total_cong _ _ N.rows (by_row n)
      ∙ total_if (eqb (area_of N n) a) (given_by n) N.rows

module _ (N : Net) (s : NetSound N) (a k : ℕ) (one : 1 ≤ a) where
  pub own_injected : (n : ℕ) → area_of N n ≡ a → word (given Table.is_iS k (source_lines N a)) n ≡ injected N k n
  unfolding injected source_line
  own_injected n e = own_at N a k is_iS Table.is_iS (λ r. injects_at (kind r)) injecting_source n (le_trans (area_node N s a one n e).1 s.node_most) ∙ rw (eq-eqb (area_of N n) a e)

  pub own_still : given Table.is_fixing k (source_lines N a) ≡ still_of N a k
  unfolding held fixes source_line
  own_still =
      let long = given_length Table.is_fixing k (source_lines N a) in
      ext_get_or z (given Table.is_fixing k (source_lines N a)) (still_of N a k) (long ∙ sym (still_length N s a k))
      (λ n h. let l : n ≤ Limits.node_end = omega (arith, long) in own_at N a k is_fixing Table.is_fixing (λ r. fixing_at (kind r)) fixing_source n l ∙ sym (still_at N s a k n l))
