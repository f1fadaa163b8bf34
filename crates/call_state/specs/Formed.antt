-- 10 STATE: what the judge decides by the plan is `well_formed`, of every network that the plan is of. Assumes nothing.
use Rattle.std.specs.Prelude.{◌+◌, ◌-◌, ◌≤◌, ◌≡◌, ◌&&◌, ◌||◌}
use Rattle.whole.specs.Plain.{ℕ, refl, sym, ap, ◌∙◌, Bool, true, false, cond, and_assoc}
use Rattle.whole.specs.Plain.{and_comm, and-true, List, [], non_neg, length, take, get_or-eq_default, lt-ltb, le-ltb, zero-add}
use Rattle.whole.specs.Plain.{arith, Words, word, up_to, every, within, sum, numbers}
use Rattle.whole.specs.Folds.{and_left, and_right, both}
use Rattle.whole.specs.Members.{Among}
use Rattle.paper.specs.Limits as Limits
use Rattle.paper.specs.Rows as Rows
use Rattle.paper.specs.Rows.{is_branch, is_line, is_breaker, is_l, is_c, steps}
use Rattle.paper.specs.Areas.{Net, area_count}
use Rattle.paper.specs.Records.{slot_count, Section, sections, sections_end, end_of, ends, near, peaked, latched, records_formed, store_formed, well_formed}
use Rattle.paper.proofs.Apart.{counts_in, voltages_in, currents_in, to_currents_in, histories_in, peaks_in, peak_steps_in, latches_in, end_of_lem, end_past, ends_at}
use Rattle.laws_facts.specs.Nets.{NetSound, row_at, area_count_most}
use Rattle.plan_rows.specs.declared.Totals.{Totals}
use Rattle.plan_rows.specs.Planned.{Plan, Planned, row_in}
use Rattle.plan_net.specs.Of.{Of}
use Rattle.call_counts.specs.Counts.{near_by, latched_by}
use Rattle.call_counts.specs.Lines.{kind_is_lem, near_is, latched_is}
use Rattle.call_state.specs.Judged.{Long, MappedOf, part_formed, section_formed, of_kind, words_formed, counts_formed, row_formed, planned_formed, tails_formed, nodes_formed, peaked_by, formed_by}
use Rattle.call_state.specs.Sections.{every_places, within_places, every_both, every_from, held, used_part, one_end, only_section, follows, covered}

and_swap : (a b c : Bool) → (a && (b && c)) ≡ (b && (a && c))
and_swap true b c = refl
and_swap false true c = refl
and_swap false false c = refl

-- the same tests, as the paper and as the judge have them
arranged : (sign counts volts i zᵢ t zₜ h zₕ peaks steps l zₗ rest near peaked latched : Bool)
    → (sign && ((counts && (volts && ((i && zᵢ) && ((t && zₜ) && ((h && zₕ) && (peaks && (steps && ((l && zₗ) && true)))))))) && rest) && near && peaked && latched)
    ≡ (sign && counts && ((volts && (peaks && steps)) && ((i && (t && (h && l)) && (near && latched)) && ((zᵢ && (zₜ && (zₕ && (zₗ && rest)))) && peaked))))
arranged sign counts volts i zᵢ t zₜ h zₕ peaks steps l zₗ rest near peaked latched = simp (and_assoc, and_comm, and_swap, and-true)

module _ {N : Net} {plan : Plan} (s : NetSound N) (p : Planned N plan) (recs : Words) (long : length recs ≡ Limits.record_words) where
  abbrev n : ℕ
  n = length N.rows

  abbrev ok : ℕ → Bool
  ok = held recs (end_of N) 0

  sections_are : within (ends N) recs ≡ (every (λ t. every ok (numbers t.start t.words)) sections && every ok (numbers sections_end (Limits.record_words - sections_end)))
  unfolding follows sections sum
  sections_are =
      within_places (ends N) ok recs 0 (λ j _. let z : 0 + j ≡ j = omega arith in rw (z, ends_at N j))
      ∙ rw long (covered ok 0 sections (Limits.record_words - sections_end) refl)

  counts_are : every ok (numbers 0 32) ≡ section_formed recs 0 (area_count N) 32 (steps N.head)
  counts_are =
      one_end recs (end_of N) 0 (area_count N) 32 (steps N.head) (omega (arith, area_count_most N s, s.node_most)) (omega arith)
      (λ j h. end_of_lem N counts_in j (omega (arith, area_count_most N s, s.node_most)) ∙ rw (lt-ltb j (area_count N) h))
      (λ j h u. end_of_lem N counts_in j (omega arith) ∙ rw (le-ltb j (area_count N) h))

  volts_are : every ok (numbers 32 32) ≡ section_formed recs 32 N.nodes 64 Limits.voltage_end
  volts_are =
      one_end recs (end_of N) 32 N.nodes 64 Limits.voltage_end (omega (arith, s.node_most)) (omega arith)
      (λ j h. end_of_lem N voltages_in j (omega (arith, s.node_most)) ∙ rw (lt-ltb j N.nodes h)) (λ j h u. end_of_lem N voltages_in j (omega arith) ∙ rw (le-ltb j N.nodes h))

  peaks_are : every ok (numbers 304 32) ≡ section_formed recs 304 N.nodes 336 Limits.voltage_end
  peaks_are =
      one_end recs (end_of N) 304 N.nodes 336 Limits.voltage_end (omega (arith, s.node_most)) (omega arith)
      (λ j h. end_of_lem N peaks_in j (omega (arith, s.node_most)) ∙ rw (lt-ltb j N.nodes h)) (λ j h u. end_of_lem N peaks_in j (omega arith) ∙ rw (le-ltb j N.nodes h))

  peak_steps_are : every ok (numbers 336 32) ≡ section_formed recs 336 N.nodes 368 (steps N.head)
  peak_steps_are =
      one_end recs (end_of N) 336 N.nodes 368 (steps N.head) (omega (arith, s.node_most)) (omega arith)
      (λ j h. end_of_lem N peak_steps_in j (omega (arith, s.node_most)) ∙ rw (lt-ltb j N.nodes h)) (λ j h u. end_of_lem N peak_steps_in j (omega arith) ∙ rw (le-ltb j N.nodes h))

  rest_is : every ok (numbers sections_end (Limits.record_words - sections_end)) ≡ part_formed recs sections_end Limits.record_words 0
  unfolding every numbers
  rest_is = used_part recs (end_of N) sections_end 0 Limits.record_words (omega arith) (omega arith) (λ j _ _. end_past N (sections_end + j) (omega arith))

  -- one word of each row, held to its end where the row's kind uses it
  own : ℕ → (ℕ → Bool) → ℕ → ℕ → Bool
  own start used most i = up_to (cond (used (row_in plan i).kind) most 0) (word recs (start + i))

  rows_section : {t : Section} → Among t sections → (used : ℕ → Bool) → used 0 ≡ false → t.words ≡ Limits.row_end → t.start + Limits.row_end ≤ Limits.record_words
      → ((i : ℕ) → t.used N i ≡ used (Rows.kind (row_at N i)))
      → every ok (numbers t.start Limits.row_end) ≡ (every (own t.start used (t.end N)) (numbers 0 n) && part_formed recs (t.start + n) (t.start + Limits.row_end) 0)
  unfolding own
  rows_section {t} m used none words room same =
      let z : t.start + 0 ≡ t.start = omega arith in
      let d : t.start + Limits.row_end - t.start ≡ Limits.row_end = omega arith in
      (rw d at (used_part recs (end_of N) t.start n (t.start + Limits.row_end) (omega (arith, s.row_most)) (omega arith)
      (λ j h u. end_of_lem N m j (omega arith) ∙ rw (same j, past j h, none))))
      ∙ ap (λ (b : Bool). b && part_formed recs (t.start + n) (t.start + Limits.row_end) 0)
      (rw z at (every_from ok (own t.start used (t.end N)) t.start 0 n
      (λ j _ h. ap (λ (e : ℕ). up_to e (word recs (t.start + j))) (end_of_lem N m j (omega (arith, s.row_most)) ∙ rw (same j, kind_is_lem p j (omega arith))))))
    where
      past : (j : ℕ) → n ≤ j → Rows.kind (row_at N j) ≡ 0
      past j h = ap Rows.kind (get_or-eq_default N.rows [] h)

  abbrev is_of : (Rows.Row → Bool) → ℕ → Bool
  is_of test k = test (of_kind k)

  abbrev stores : Rows.Row → Bool
  stores r = is_l r || is_c r

  records_are : within (ends N) recs
      ≡ ((section_formed recs 0 (area_count N) 32 (steps N.head)
      && (section_formed recs 32 N.nodes 64 Limits.voltage_end
      && ((every (own 64 (is_of is_branch) Limits.current_end) (numbers 0 n) && part_formed recs (64 + n) 144 0)
      && ((every (own 144 (is_of is_line) Limits.current_end) (numbers 0 n) && part_formed recs (144 + n) 224 0)
      && ((every (own 224 (is_of stores) Limits.history_end) (numbers 0 n) && part_formed recs (224 + n) 304 0)
      && (section_formed recs 304 N.nodes 336 Limits.voltage_end && (section_formed recs 336 N.nodes 368 (steps N.head)
      && ((every (own 368 (is_of is_breaker) (steps N.head)) (numbers 0 n) && part_formed recs (368 + n) 448 0) && true)))))))) && part_formed recs sections_end Limits.record_words 0)
  unfolding sections every Rows.branch_kind Rows.kinds
  records_are =
      sections_are
      ∙ rw (
        counts_are,
        volts_are,
        rows_section currents_in (is_of is_branch) refl refl (omega arith) (λ i. refl),
        rows_section to_currents_in (is_of is_line) refl refl (omega arith) (λ i. refl),
        rows_section histories_in (is_of stores) refl refl (omega arith) (λ i. refl),
        peaks_are,
        peak_steps_are,
        rows_section latches_in (is_of is_breaker) refl refl (omega arith) (λ i. refl),
        rest_is,
      )

  rows_are : every (planned_formed (steps N.head) plan recs) (numbers 0 n)
      ≡ ((every (own 64 (is_of is_branch) Limits.current_end) (numbers 0 n)
      && (every (own 144 (is_of is_line) Limits.current_end) (numbers 0 n)
      && (every (own 224 (is_of stores) Limits.history_end) (numbers 0 n) && every (own 368 (is_of is_breaker) (steps N.head)) (numbers 0 n))))
      && (every (near N recs) N.rows && every (latched N recs) (numbers 0 n)))
  unfolding planned_formed row_formed words_formed own
  rows_are =
      let l = numbers 0 n in
      let c = own 64 (is_of is_branch) Limits.current_end in
      let t = own 144 (is_of is_line) Limits.current_end in
      let h = own 224 (is_of stores) Limits.history_end in
      let p' = own 368 (is_of is_breaker) (steps N.head) in
      let counts : ℕ → Bool = λ i. near_by recs (row_in plan i) in
      let parts : ℕ → Bool = λ i. latched_by recs (row_in plan i) i in
      let lines = every_places [] (near N recs) counts N.rows 0 (λ j k. rw (zero-add j) (near_is p j k recs)) in
      let breakers = every_from (latched N recs) parts 0 0 n (λ j _ k. rw (zero-add j) (sym (latched_is p j (omega arith) recs))) in
      every_both (λ i. c i && (t i && (h i && p' i))) (λ i. counts i && parts i) l
      ∙ rw (every_both c (λ i. t i && (h i && p' i)) l, every_both t (λ i. h i && p' i) l, every_both h p' l, every_both counts parts l, ← lines, ← breakers)

-- how much there may be
pub record Few (t : Totals) : Type 0 where
  pub rows : t.rows ≤ Limits.row_end
  pub nodes : t.nodes ≤ Limits.node_end
  pub areas : t.areas ≤ Limits.node_end
  pub slots : t.slots ≤ Limits.store_words
  pub steps : t.steps ≤ Limits.steps_end

pub few : {N : Net} {plan : Plan} {t : Totals} → Of N plan t → Few t
few {N} {plan} {t} o =
    let s = o.sound in
    let areas : area_count N ≤ Limits.node_end = omega (arith, area_count_most N s, s.node_most) in
    rw o.counts (record { rows = s.row_most; nodes = s.node_most; areas = areas; slots = s.slot_most; steps = s.study.steps_in.most })

-- of well-formed records, the counts
pub counts_formed_lem : {N : Net} {plan : Plan} {t : Totals} (recs : Words) → Of N plan t → length recs ≡ Limits.record_words → records_formed N recs ≡ true
    → counts_formed recs t.areas t.steps ≡ true
unfolding records_formed counts_formed
counts_formed_lem {N} recs o long e =
    let c₁ = every non_neg (take Limits.node_end recs) in
    let c₂ = within (ends N) recs in
    let c₃ = every (near N recs) N.rows in
    let e₂ = and_left (c₁ && c₂) c₃ (and_left (c₁ && c₂ && c₃) _ (and_left (c₁ && c₂ && c₃ && every (peaked N recs) (numbers 1 N.nodes)) _ e)) in
    rw o.counts (both (and_left c₁ c₂ e₂) (and_left _ _ (and_left _ _ (sym (records_are o.sound o.planned recs long) ∙ and_right c₁ c₂ e₂))))

-- the peaks, by the areas that the plan has beside it
peaks_by : {N : Net} {plan : Plan} {areas : List ℕ} {t : Totals} → MappedOf N plan areas t → (recs : Words) → every (peaked N recs) (numbers 1 N.nodes) ≡ every (peaked_by areas recs) (numbers 1 N.nodes)
unfolding peaked peaked_by
peaks_by {N} o recs = every_from _ _ 0 1 N.nodes (λ n l h. rw (zero-add n, o.mapped.area_at n (omega (arith, o.of.sound.node_most))))

-- all of the records
pub formed_is : {N : Net} {plan : Plan} {areas : List ℕ} {t : Totals} (recs : Words) → MappedOf N plan areas t → length recs ≡ Limits.record_words
    → records_formed N recs ≡ formed_by plan areas t recs
unfolding records_formed formed_by counts_formed nodes_formed tails_formed
formed_is recs o long =
    let s = o.of.sound in
    let p = o.of.planned in
    rw (o.of.counts, records_are s p recs long, rows_are s p recs long, peaks_by o recs, arranged)

-- with the stores
pub state_is : {N : Net} {plan : Plan} {areas : List ℕ} {t : Totals} {recs froms tos : Words} → MappedOf N plan areas t → Long recs froms tos
    → well_formed N recs froms tos
    ≡ (records_formed N recs && (section_formed froms 0 t.slots Limits.store_words Limits.history_end && section_formed tos 0 t.slots Limits.store_words Limits.history_end))
unfolding well_formed store_formed
state_is {N} {plan} {areas} {t} {recs} {froms} {tos} o k =
    let s = o.of.sound in
    rw (
      o.of.counts,
      only_section froms (slot_count N) Limits.store_words Limits.history_end s.slot_most k.froms_long,
      only_section tos (slot_count N) Limits.store_words Limits.history_end s.slot_most k.tos_long,
      and_assoc,
    )
