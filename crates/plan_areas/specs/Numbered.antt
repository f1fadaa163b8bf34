-- Numbering the areas in one pass over the marks: a node that leads takes the next number, any other takes its lowest node's. Assumes nothing.
use Rattle.std.specs.Prelude.{◌+◌, ◌≤◌, ◌<◌, ◌≡◌, ◌≢◌, ◌∷◌}
use Rattle.whole.specs.Plain.{ℕ, suc, refl, sym, ap, ◌∙◌, true, cond, List, eqb}
use Rattle.whole.specs.Plain.{length, get_or, set, length-set, get_or-eq_default, get_or-set_same, get_or-set_other}
use Rattle.whole.specs.Plain.{ext_get_or, eq-eqb, ne_eqb, ℕ_discrete, dec_le, arith, Words, filled, count, numbers}
use Rattle.std.proofs.Math.Numerals.{add-one}
use Rattle.whole.specs.Turns.{turns}
use Rattle.whole.specs.Folds.{count_le, length_numbers}
use Rattle.whole.specs.Filled.{length_filled, get_d_filled}
use Rattle.whole.specs.Upto.{any_default}
use Rattle.paper.specs.Rows.{Row}
use Rattle.paper.specs.Network.{passes, table_of, is_network}
use Rattle.paper.specs.Spread.{mark}
use Rattle.paper.specs.Areas.{node_count, lowest, leads, area_numbers, net_of, net_on, area_count}
use Rattle.laws_facts.specs.Table.{node_most_lem}
use Rattle.laws_facts.specs.Areas as Areas
use Rattle.laws_facts.specs.Areas.{leaders, up_last, up_same}
use Rattle.laws_facts.specs.Layout.{recorded}
use Rattle.laws_facts.specs.Nets.{net_in}
use Rattle.plan_areas.specs.Marks.{mark_words, round_of, spread_rows}

-- ---- one node's turn
unfoldable pub count_at : List ℕ → ℕ → ℕ → ℕ
count_at m n c = cond (eqb (get_or m n 0) n) (c + 1) c

unfoldable pub number_at : List ℕ → ℕ → ℕ → List ℕ
number_at m n c = set m n (cond (eqb (get_or m n 0) n) (c + 1) (get_or m (get_or m n 0) 0))

-- ---- the pass, over a table that passes

-- before the turn of node suc n: those up to n have their areas' numbers, the others their marks still, and as many lead as are counted
pub record Numbering (low m : List ℕ) (n c : ℕ) : Type 0 where
  pub long : length m ≡ mark_words
  pub done : (k : ℕ) → k ≤ n → get_or m k 0 ≡ leaders low (mark low k)
  pub left : (k : ℕ) → n < k → get_or m k 0 ≡ get_or low k 0
  pub led : c ≡ leaders low n

module _ (h : Row) (rows : List Row) (e : passes (h ∷ rows) ≡ true) where
  abbrev low : List ℕ
  low = lowest rows (node_count rows)

  abbrev number : ℕ → ℕ
  number k = leaders low (mark low k)

  low_long : length low ≡ suc (node_count rows)
  low_long = Areas.length_lowest rows (node_count rows)

  pub numbering_first : Numbering low (filled mark_words 0 low) 0 0
  unfolding count numbers
  numbering_first =
      let m : mark low 0 ≡ 0 = omega (arith, Areas.low_most h rows e 0) in
      let z : get_or low 0 0 ≡ 0 = any_default low 0 0 0 (omega (arith, low_long)) ∙ m in
      record {
        long = length_filled mark_words 0 low (omega (arith, low_long, node_most_lem h rows e));
        done = λ k q.
            let w : k ≡ 0 = omega arith in
            rw (w, m) (get_d_filled mark_words 0 low 0 ∙ z);
        left = λ k q. get_d_filled mark_words 0 low k;
        led = refl;
      }

  module _ (m : List ℕ) (n c : ℕ) (i : n < node_count rows) (w : Numbering low m n c) where
    -- the node's mark, as it still stands
    pub mark_here : get_or m (suc n) 0 ≡ mark low (suc n)
    mark_here = w.left (suc n) (omega arith) ∙ any_default low (suc n) 0 (suc n) (omega (arith, low_long))

    pub mark_most : get_or m (suc n) 0 ≤ suc n
    mark_most = omega (arith, mark_here, Areas.low_most h rows e (suc n))

    set_at : (v : ℕ) → v ≡ number (suc n) → (c' : ℕ) → c' ≡ leaders low (suc n) → Numbering low (set m (suc n) v) (suc n) c'
    set_at v q c' d =
        record {
          long = length-set m (suc n) v ∙ w.long;
          done = λ k u. elim (ℕ_discrete k (suc n)) [
            | yes p ↦ rw p (get_or-set_same m (suc n) v 0 (omega (arith, w.long, node_most_lem h rows e)) ∙ q)
            | no p ↦ get_or-set_other m (suc n) k v 0 p ∙ w.done k (omega arith)
          ];
          left = λ k u. get_or-set_other m (suc n) k v 0 (λ p. omega arith) ∙ w.left k (omega arith);
          led = d;
        }

    leads_next : mark low (suc n) ≡ suc n → Numbering low (set m (suc n) (c + 1)) (suc n) (c + 1)
    leads_next p =
        let u = up_last low n p in
        set_at (c + 1) (omega (arith, w.led, ap (leaders low) p)) (c + 1) (omega (arith, w.led))

    follows_next : mark low (suc n) ≢ suc n → Numbering low (set m (suc n) (get_or m (get_or m (suc n) 0) 0)) (suc n) c
    follows_next p =
        let k = mark low (suc n) in
        let b : k ≤ n = omega (arith, Areas.low_most h rows e (suc n)) in
        set_at _ (ap (λ (j : ℕ). get_or m j 0) mark_here ∙ w.done k b ∙ ap (leaders low) (Areas.low_low h rows e (suc n))) c (w.led ∙ sym (up_same low n p))

    pub numbering_next : Numbering low (number_at m (suc n) c) (suc n) (count_at m (suc n) c)
    unfolding number_at count_at
    numbering_next =
        elim (ℕ_discrete (mark low (suc n)) (suc n)) [
          | yes p ↦ rw (eq-eqb (get_or m (suc n) 0) (suc n) (mark_here ∙ p)) (leads_next p)
          | no p ↦ rw (ne_eqb (get_or m (suc n) 0) (suc n) (λ q. p (sym mark_here ∙ q))) (follows_next p)
        ]

  -- after the last node: the areas, and how many there are
  pub numbered : (m : List ℕ) (c : ℕ) → Numbering low m (node_count rows) c → m ≡ filled mark_words 0 (area_numbers low)
  numbered m c w =
      ext_get_or 0 m (filled mark_words 0 (area_numbers low))
      (w.long ∙ sym (length_filled mark_words 0 (area_numbers low) (omega (arith, Areas.length_areas h rows e, node_most_lem h rows e))))
      (λ k u. rw (get_d_filled mark_words 0 (area_numbers low) k) (elim (dec_le k (node_count rows)) [
        | yes q ↦ w.done k q ∙ sym (Areas.area_is h rows e k q)
        | no q ↦ w.left k (omega arith) ∙ get_or-eq_default low 0 (omega (arith, low_long)) ∙ sym (get_or-eq_default (area_numbers low) 0 (omega (arith, Areas.length_areas h rows e)))
      ]))

  pub numbered_count : (m : List ℕ) (c : ℕ) → Numbering low m (node_count rows) c → c ≡ area_count (net_of (h ∷ rows))
  unfolding net_of net_on area_count
  numbered_count m c w = w.led ∙ sym (Areas.area_count_lem h rows e)

-- ---- of a record

abbrev pub low_in : Words → List ℕ
low_in net = lowest (net_in net).rows (net_in net).nodes

module _ (net : Words) (e : is_network net ≡ true) where
  pub spread_in : turns 0 32 (round_of (net_in net).rows) (filled mark_words 0 (numbers 0 (suc (net_in net).nodes))) ≡ filled mark_words 0 (low_in net)
  unfolding net_of net_on table_of
  spread_in = spread_rows _ _ (recorded net e).pass

  pub first_in : Numbering (low_in net) (filled mark_words 0 (low_in net)) 0 0
  unfolding net_of net_on table_of
  first_in = numbering_first _ _ (recorded net e).pass

  pub next_in : (m : List ℕ) (n c : ℕ) → n < (net_in net).nodes → Numbering (low_in net) m n c → Numbering (low_in net) (number_at m (n + 1) c) (n + 1) (count_at m (n + 1) c)
  unfolding net_of net_on table_of
  next_in m n c i w = rw add-one (numbering_next _ _ (recorded net e).pass m n c i w)

  -- what a turn needs
  pub mark_in : (m : List ℕ) (n c : ℕ) → n < (net_in net).nodes → Numbering (low_in net) m n c → get_or m (n + 1) 0 ≤ n + 1
  unfolding net_of net_on table_of
  mark_in m n c i w = rw add-one (mark_most _ _ (recorded net e).pass m n c i w)

  pub count_in : (m : List ℕ) (n c : ℕ) → Numbering (low_in net) m n c → c ≤ n
  count_in m n c w = omega (arith, w.led, count_le (leads (low_in net)) (numbers 1 n), length_numbers 1 n)

  pub areas_in : (m : List ℕ) (c : ℕ) → Numbering (low_in net) m (net_in net).nodes c → (m ≡ filled mark_words 0 (net_in net).areas) × (c ≡ area_count (net_in net))
  unfolding net_of net_on table_of
  areas_in m c w = (numbered _ _ (recorded net e).pass m c w, numbered_count _ _ (recorded net e).pass m c w)
