-- Every word that an accepted step writes is within its end. Assumes nothing.
use Rattle.std.specs.Prelude.{◌+◌, ◌%◌, ◌≤◌, ◌<◌, ◌≡◌, ◌&&◌}
use Rattle.whole.specs.Plain.{ℕ, suc, refl, Bool, true, not, List, ltb, ℤ, nat_abs, lt_z, length}
use Rattle.whole.specs.Plain.{get_or-replicate, ltb-true, le_trans, mod-lt, ℕ_discrete, dec_lt, arith, Words, z, word}
use Rattle.whole.specs.Members.{Among, All, all_among}
use Rattle.whole.specs.Folds.{and_left}
use Rattle.whole.specs.TurnLaws.{turns_keeps}
use Rattle.paper.specs.Classes.{line_branch, breaker_branch}
use Rattle.paper.specs.Limits as Limits
use Rattle.paper.specs.Rows.{is_line, steps}
use Rattle.paper.specs.Areas.{Net, area_count}
use Rattle.paper.specs.Records.{current_at, peak_at, peak_step_at, latch_at, slot_count, Found, Section, currents, to_currents, histories, outdone, new_peak, new_peak_step, peaks, peak_steps, latches, sections}
use Rattle.paper.specs.Records.{end_of, owner_of}
use Rattle.paper.specs.Latch.{parts, new_latch}
use Rattle.paper.proofs.Apart.{peaks_in, peak_steps_in, latches_in, end_of_lem, end_most, next_of_lem, owned}
use Rattle.paper.proofs.Kept.{either}
use Rattle.paper.specs.Legs.{End, Branch, Heard, heard, legs_by, legs_of, branch_in, current, passed_on}
use Rattle.paper.specs.Advance.{Memory, put_if, found, new_records, put_sent, new_store}
use Rattle.laws_facts.specs.Nets.{NetSound, row_at}
use Rattle.laws_local.specs.Sound.{Sound, sound, row_there}
use Rattle.laws_local.specs.Own.{legs_length, branch_is, row_is, keeper}
use Rattle.laws_local.specs.Written.{records_keep, records_own, records_past}
use Rattle.laws_local.specs.Puts.{put_with}
use Rattle.laws_local.specs.Slots.{slots_at, slot_of, some_slots, slots_inside, sent_as}
use Rattle.laws_stays.specs.Formed.{Formed, slot_end}
use Rattle.laws_stays.specs.Volts.{AllVolts}
use Rattle.laws_stays.proofs.Sizes.{current_size, ends_ranged, InRange}

-- ---- words within their ends

abbrev pub Bounded : (ℕ → ℕ) → Words → Type 0
Bounded e w = (j : ℕ) → nat_abs (word w j) ≤ e j

put_bounded : (e : ℕ → ℕ) (b : Bool) (w : Words) (i : ℕ) (x : ℤ) → (b ≡ true → nat_abs x ≤ e i) → Bounded e w → Bounded e (put_if b w i x)
put_bounded e b w i x h p j = put_with (λ (y : ℤ). nat_abs y ≤ e j) b w i j x (p j) (λ t q. rw q at (h t))

-- ---- the records and the stores

module _ (N : Net) (s : NetSound N) (m : Memory) (f : Formed N m) (a k : ℕ) (one : 1 ≤ a) (most : a ≤ area_count N) (room : k ≤ steps N.head) (v : Words) (volts : AllVolts v) where
  abbrev ears : List Heard
  ears = heard N a k m.froms m.tos

  abbrev bs : List Branch
  bs = legs_of N a k m.records ears

  abbrev by : ℕ → Branch
  by = legs_by N a k m.records ears

  snd : Sound N
  snd = sound N s

  module _ (inside : (i : ℕ) → i < length N.rows → InRange v (row_at N i) (by i)) where
    abbrev seen : Found
    seen = found k bs v m.records

    -- what is written into a word that is used
    abbrev Small : Section → Type 0
    Small s = (i : ℕ) → s.used N i ≡ true → nat_abs (s.next N seen i) ≤ s.end N

    branch_at : (i : ℕ) → i < length N.rows → branch_in bs i ≡ by i
    branch_at = branch_is N a k m.records ears

    small : {s : Section} → Among s sections → Small s
    unfolding sections All new_peak new_peak_step new_latch
    small = all_among Small sections (λ i u. room, (λ i u. volts (suc i), (from_small, (to_small, (history_small, (peak_small, (step_small, (latch_small, tt))))))))
      where
        from_small : Small currents
        from_small i u = rw (branch_at i (row_there N i u)) (current_size v (by i).is_from_end.wire volts (ends_ranged N m f s a k i).0)

        to_small : Small to_currents
        to_small i u = rw (branch_at i (row_there N i (line_branch (row_at N i) u))) (current_size v (by i).is_to_end.wire volts (ends_ranged N m f s a k i).1)

        history_small : Small histories
        history_small i u =
            let h = row_there N i (keeper (row_at N i) u) in
            rw (branch_at i h, row_is N a k m.records ears i) (inside i h).at_from

        -- a node's word as it was
        stood : {s : Section} → Among s sections → s.words ≡ Limits.node_end → (i j : ℕ) → ltb i N.nodes ≡ true → j ≡ s.start + i → nat_abs (word m.records j) ≤ s.end N
        stood among e i j u q = le_trans (f.records j) (rw q (end_most N among i (omega (arith, ltb-true i N.nodes u, s.node_most))))

        peak_small : Small peaks
        peak_small i u =
            either (λ (x : ℤ). nat_abs x ≤ Limits.voltage_end) (outdone k (word v (suc i)) (word m.records (peak_at N (suc i)))) _ _ (volts (suc i)) (stood peaks_in refl i (peak_at N (suc i)) u (omega arith))

        step_small : Small peak_steps
        step_small i u =
            either (λ (x : ℤ). nat_abs x ≤ steps N.head) (outdone k (word v (suc i)) (word m.records (peak_at N (suc i)))) _ _ room (stood peak_steps_in refl i (peak_step_at N (suc i)) u (omega arith))

        latch_small : Small latches
        latch_small i u =
            either (λ (x : ℤ). nat_abs x ≤ steps N.head)
            (not (lt_z z (word m.records (latch_at i))) && parts k (row_at N i) (word m.records (current_at i)) (current v (branch_in bs i).is_from_end.wire)) _ _ room
            (le_trans (f.records (latch_at i)) (end_most N latches_in i (omega (arith, row_there N i (breaker_branch (row_at N i) u), s.row_most))))

    pub records_bounded : Bounded (end_of N) (new_records N a k bs v m.records)
    records_bounded j = go (ℕ_discrete (owner_of N j) a) (dec_lt j (length m.records))
      where
        go : Dec (owner_of N j ≡ a) → Dec (j < length m.records) → nat_abs (word (new_records N a k bs v m.records) j) ≤ end_of N j
        go (no n) l = rw (records_keep N a k bs v m.records j n) (f.records j)
        go (yes o) (no l) = rw (records_past N a k bs v m.records j (omega arith)) (omega arith)
        go (yes o) (yes l) =
            let w = owned N a j one o in
            let p = w.at in
            rw (records_own N a k bs v m.records j l o, p.is, next_of_lem N p.among p.place p.inside seen, end_of_lem N p.among p.place p.inside, w.used) (small p.among p.place w.used)

    store_bounded : (end : Branch → End) → ((i : ℕ) → i < length N.rows → nat_abs (passed_on v (row_at N i) (end (by i)).wire) ≤ Limits.history_end)
        → (w : Words) → Bounded (slot_end N) w → Bounded (slot_end N) (new_store N k end bs v w)
    unfolding new_store
    store_bounded end h w p =
        turns_keeps (Bounded (slot_end N)) 0 (length bs) (put_sent N k end bs v) (λ i u _ l q. one_sent i u (rw (legs_length N a k m.records ears) at l) q) w p
      where
        one_sent : (i : ℕ) (u : Words) → i < length N.rows → Bounded (slot_end N) u → Bounded (slot_end N) (put_sent N k end bs v i u)
        one_sent i u l q =
            rw (sent_as N a k m.records ears v end i u l)
            (put_bounded (slot_end N) (is_line (row_at N i) && (end (by i)).own) u (slot_of N i k) _
            (λ o. rw (get_or-replicate (slot_count N) (slot_of N i k) Limits.history_end 0 (slots_inside N i (k % slots_at N i) l (mod-lt k (some_slots N i snd (and_left (is_line (row_at N i)) _ o))))) (h i l)) q)

    pub froms_bounded : Bounded (slot_end N) (new_store N k (λ b. b.is_from_end) bs v m.froms)
    froms_bounded = store_bounded (λ b. b.is_from_end) (λ i h. (inside i h).at_from) m.froms f.froms

    pub tos_bounded : Bounded (slot_end N) (new_store N k (λ b. b.is_to_end) bs v m.tos)
    tos_bounded = store_bounded (λ b. b.is_to_end) (λ i h. (inside i h).at_to) m.tos f.tos
