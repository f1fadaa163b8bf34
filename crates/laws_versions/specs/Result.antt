-- T-step leaves no choice: there is one memory that area a's step k may give. Assumes nothing.
use Rattle.std.specs.Prelude.{◌+◌, ◌-◌, ◌<◌, ◌≡◌, ◌≢◌, ◌&&◌}
use Rattle.whole.specs.Plain.{ℕ, zero, suc, refl, sym, ap, ◌∙◌, Bool, true, false, cond}
use Rattle.whole.specs.Plain.{true≢false, List, eqb, ltb, ℤ, length, get_or, ext_get_or, eqb-true, eq-eqb, ltb-true, ℕ_discrete}
use Rattle.whole.specs.Plain.{arith, Words, z, word, numbers}
use Rattle.whole.specs.Folds.{and_left, and_right, both, length_numbers, get_d_numbers}
use Rattle.whole.specs.Members.{Among, All, all_among}
use Rattle.whole.specs.Places.{place, Least, place_none, place_least}
use Rattle.paper.specs.Rows.{Row, is_line, from, to}
use Rattle.paper.specs.Areas.{Net, area_of, row_area}
use Rattle.paper.specs.Records.{count_at, current_at, Section, counts, voltages, currents, to_currents, histories, new_peak, new_peak_step, peaks, peak_steps, latches, sections, owner_of}
use Rattle.paper.proofs.Apart.{owned}
use Rattle.paper.specs.Advance.{Memory, memory}
use Rattle.laws_facts.specs.Nets.{NetSound, row_at, net_in}
use Rattle.paper.specs.Classes.{line_branch, breaker_branch, breaker_line}
use Rattle.laws_local.specs.Sound.{row_there}
use Rattle.laws_local.specs.Own.{line_no, keeper}
use Rattle.laws_local.specs.Nodes.{NodeOf}
use Rattle.laws_local.specs.Slots.{slot_of}
use Rattle.laws_local.specs.Outcome.{step_of}
use Rattle.laws_stays.specs.Stays.{Long}
use Rattle.laws_stays.proofs.Stays.{next_long}
use Rattle.laws_demands.specs.Said.{IsArea, peak_in, peak_step_in, from_current, to_current, from_sent, to_sent, offer, Offered}
use Rattle.laws_demands.specs.Judged.{asked}
use Rattle.laws_demands.specs.Passing.{AllInRange}
use Rattle.laws_demands.specs.Says.{Ready}
use Rattle.laws_demands.proofs.Step.{offered}
use Rattle.laws_versions.specs.Volts.{volt_one, plain_one, history_one, latch_one, current_one, sends_one}

module _ (N : Net) (s : NetSound N) (a k : ℕ) (h : IsArea N a) (m n n' : Memory) (S : Offered N a k m n) (S' : Offered N a k m n') where
  from_node : (i : ℕ) → i < length N.rows → is_line (row_at N i) ≡ true → area_of N (from (row_at N i)) ≡ a → NodeOf N a (from (row_at N i))
  from_node i t l e = record { area = e; low = ((s.row i t).line l).from_off; high = ((s.row i t).branch (line_branch (row_at N i) l)).from_in.most }

  to_node : (i : ℕ) → i < length N.rows → is_line (row_at N i) ≡ true → area_of N (to (row_at N i)) ≡ a → NodeOf N a (to (row_at N i))
  to_node i t l e = record { area = e; low = ((s.row i t).line l).to_off; high = ((s.row i t).branch (line_branch (row_at N i) l)).to_in.most }

  -- ---- the records, word by word

  abbrev Same : ℕ → Type 0
  Same j = word n.records j ≡ word n'.records j

  -- a word of the area's own, by its section
  abbrev Told : Section → Type 0
  Told t = (i : ℕ) → t.used N i ≡ true → t.area N i ≡ a → Same (t.start + i)

  count_told : Told counts
  count_told i u o = let e : 0 + i ≡ count_at a = omega arith in rw e (S.count ∙ sym S'.count)

  node_told : (i : ℕ) → ltb i N.nodes ≡ true → area_of N (suc i) ≡ a → NodeOf N a (suc i)
  node_told i u o = record { area = o; low = omega arith; high = omega (arith, ltb-true i N.nodes u) }

  volt_told : Told voltages
  volt_told i u o = let e : 32 + suc i - 1 ≡ 32 + i = omega arith in rw e at (volt_one N s a k m n n' S S' (suc i) (node_told i u o))

  current_told : Told currents
  current_told i u o = go (is_line (row_at N i)) refl o
    where
      t : i < length N.rows
      t = row_there N i u

      go : (x : Bool) → is_line (row_at N i) ≡ x → cond x (area_of N (from (row_at N i))) (row_area N (row_at N i)) ≡ a → Same (current_at i)
      go true l o =
          current_one N s a k m n n' S S' i (from (row_at N i)) (from_node i t l o) (from_current n i) (from_current n' i) (from_sent N n i k) (from_sent N n' i k) (to_sent N m i) (S.from_end i t l o) (S'.from_end i t l o)
      go false l o = plain_one N s a k m n n' S S' i t u l o

  to_told : Told to_currents
  to_told i l o =
      let t = row_there N i (line_branch (row_at N i) l) in
      current_one N s a k m n n' S S' i (to (row_at N i)) (to_node i t l o) (to_current n i) (to_current n' i) (to_sent N n i k) (to_sent N n' i k) (from_sent N m i) (S.to_end i t l o) (S'.to_end i t l o)

  history_told : Told histories
  history_told i c o =
      let b = keeper (row_at N i) c in
      history_one N s a k m n n' S S' i (row_there N i b) b (line_no (row_at N i) c) o c

  -- a node's peak goes by its voltage and by what stood there, which is one
  peak_told : Told peaks
  peak_told i u o =
      let e : 304 + suc i - 1 ≡ 304 + i = omega arith in
      let q = node_told i u o in
      rw e at (S.peak (suc i) q ∙ ap (λ (x : ℤ). new_peak k x (peak_in N m (suc i))) (volt_one N s a k m n n' S S' (suc i) q) ∙ sym (S'.peak (suc i) q))

  step_told : Told peak_steps
  step_told i u o =
      let e : 336 + suc i - 1 ≡ 336 + i = omega arith in
      let q = node_told i u o in
      rw e at (S.peak_step_lem (suc i) q ∙ ap (λ (x : ℤ). new_peak_step k x (peak_in N m (suc i)) (peak_step_in N m (suc i))) (volt_one N s a k m n n' S S' (suc i) q) ∙ sym (S'.peak_step_lem (suc i) q))

  latch_told : Told latches
  latch_told i b o = let c = breaker_branch (row_at N i) b in latch_one N s a k m n n' S S' i (row_there N i c) c (breaker_line (row_at N i) b) o b

  told : {t : Section} → Among t sections → Told t
  unfolding sections All
  told = all_among Told sections (count_told, (volt_told, (current_told, (to_told, (history_told, (peak_told, (step_told, (latch_told, tt))))))))

  record_word : (j : ℕ) → Same j
  record_word j = go (ℕ_discrete (owner_of N j) a)
    where
      go : Dec (owner_of N j ≡ a) → Same j
      go (yes o) = let w = owned N a j h.one o in rw w.at.is (told w.at.among w.at.place w.used w.area)
      go (no o) = S.records j o ∙ sym (S'.records j o)

  -- ---- the stores, word by word: the slot of step k of one of the area's own line ends, or untouched

  abbrev writer : (Row → ℕ) → ℕ → ℕ → Bool
  writer end j i = is_line (row_at N i) && eqb (area_of N (end (row_at N i))) a && eqb j (slot_of N i k)

  abbrev rows : List ℕ
  rows = numbers 0 (length N.rows)

  row_at_lem : (i : ℕ) → i < length N.rows → get_or rows i 0 ≡ i
  row_at_lem i l = get_d_numbers 0 (length N.rows) i 0 l ∙ omega arith

  in_rows : (i : ℕ) → i < length N.rows → i < length rows
  in_rows i l = rw (length_numbers 0 (length N.rows)) l

  -- whether some line end writes word j, or none does
  store_word : (end : Row → ℕ) (w w' : Words) (j : ℕ)
      → ((i : ℕ) → i < length N.rows → is_line (row_at N i) ≡ true → area_of N (end (row_at N i)) ≡ a → word w (slot_of N i k) ≡ word w' (slot_of N i k))
      → (((i : ℕ) → i < length N.rows → is_line (row_at N i) ≡ true → area_of N (end (row_at N i)) ≡ a → j ≢ slot_of N i k) → word w j ≡ word w' j)
      → word w j ≡ word w' j
  store_word end w w' j hit miss = go (place (writer end j) 0 rows) refl
    where
      one : (x : ℕ) → Least (writer end j) 0 rows x → word w j ≡ word w' j
      one x q =
          let t : x < length N.rows = rw (length_numbers 0 (length N.rows)) at q.inside in
          let e : writer end j x ≡ true = rw (row_at_lem x t) at q.hit in
          let p : is_line (row_at N x) && eqb (area_of N (end (row_at N x))) a ≡ true = and_left (is_line (row_at N x) && eqb (area_of N (end (row_at N x))) a) _ e in
          let y : j ≡ slot_of N x k = eqb-true j (slot_of N x k) (and_right (is_line (row_at N x) && eqb (area_of N (end (row_at N x))) a) _ e) in
          rw y (hit x t (and_left (is_line (row_at N x)) _ p) (eqb-true _ a (and_right (is_line (row_at N x)) _ p)))

      go : (x : ℕ) → place (writer end j) 0 rows ≡ x → word w j ≡ word w' j
      go zero e = miss (λ i t l o f. true≢false (sym (both (both l (eq-eqb _ a o)) (eq-eqb j (slot_of N i k) f)) ∙ sym (ap (writer end j) (row_at_lem i t)) ∙ place_none (writer end j) 0 0 rows e i (in_rows i t)))
      go (suc x) e = let q = place_least (writer end j) 0 0 rows x e in one q.0 q.2

  from_word : (j : ℕ) → word n.froms j ≡ word n'.froms j
  from_word j =
      store_word from n.froms n'.froms j
      (λ i t l o. sends_one N s a k m n n' S S' i (from (row_at N i)) (from_node i t l o) (from_current n i) (from_current n' i) (from_sent N n i k) (from_sent N n' i k) (to_sent N m i) (S.from_end i t l o) (S'.from_end i t l o))
      (λ h. S.froms j h ∙ sym (S'.froms j h))

  to_store_word : (j : ℕ) → word n.tos j ≡ word n'.tos j
  to_store_word j =
      store_word to n.tos n'.tos j
      (λ i t l o. sends_one N s a k m n n' S S' i (to (row_at N i)) (to_node i t l o) (to_current n i) (to_current n' i) (to_sent N n i k) (to_sent N n' i k) (from_sent N m i) (S.to_end i t l o) (S'.to_end i t l o))
      (λ h. S.tos j h ∙ sym (S'.tos j h))

  -- one result
  pub result_one : Long n → Long n' → n ≡ n'
  result_one l l' = λ x. memory
      (ext_get_or z n.records n'.records (l.records ∙ sym l'.records) (λ j _. record_word j) x)
      (ext_get_or z n.froms n'.froms (l.froms ∙ sym l'.froms) (λ j _. from_word j) x)
      (ext_get_or z n.tos n'.tos (l.tos ∙ sym l'.tos) (λ j _. to_store_word j) x)

-- so the step that 16 and 17 weigh is the one memory that the branch equations offer
pub offer_one : (net : Words) (a : ℕ) (m n : Memory) → Ready net a m → AllInRange (net_in net) a (step_of (net_in net) a m) m
    → Offered (net_in net) a (step_of (net_in net) a m) m n → Long n → n ≡ offer (net_in net) a m
offer_one net a m n r q S l =
    let ok = asked net a m r.next.judged r.next.area in
    result_one (net_in net) ok.net a (step_of (net_in net) a m) ok.area m n (offer (net_in net) a m) S (offered net a m r q) l
    (next_long (net_in net) ok.net a m ok.long ok.good)
