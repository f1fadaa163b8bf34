-- Two memories over which the same step writes: each word of them is left alone in both, or is the same in both afterwards. Assumes nothing.
use Rattle.std.specs.Prelude.{◌-◌, ◌≤◌, ◌<◌, ◌≡◌, ◌⊎◌, ◌+◌, ◌∷◌}
use Rattle.whole.specs.Plain.{ℕ, zero, suc, refl, sym, ap, ◌∙◌, inl, inr, Bool, true, false, List}
use Rattle.whole.specs.Plain.{[], ltb, ℤ, length, set, length-set, get_or-set_other, suc_inj, suc-ne-zero, ℕ_discrete}
use Rattle.whole.specs.Plain.{dec_lt, arith, Words, z, word}
use Rattle.whole.specs.Members.{Among, All, all_among}
use Rattle.whole.specs.Turns.{run, turns}
use Rattle.paper.specs.Limits as Limits
use Rattle.paper.specs.Areas.{Net, area_of}
use Rattle.paper.specs.Records.{current_at, peak_at, peak_step_at, latch_at, Section, peaks, peak_steps, latches, sections, owner_of, next_of}
use Rattle.paper.proofs.Apart.{currents_in, peaks_in, peak_steps_in, latches_in, owner_is, next_of_lem, owned}
use Rattle.paper.specs.Classes.{breaker_branch, breaker_line}
use Rattle.paper.specs.Legs.{End, Branch}
use Rattle.paper.specs.Advance.{put_if, found, new_records, put_sent, new_store}
use Rattle.laws_facts.specs.Nets.{row_at}
use Rattle.laws_local.specs.Written.{records_keep, records_own, records_past}

-- word j of w and of w', before, and of u and of u', after
abbrev pub Touch : Words → Words → Words → Words → ℕ → Type 0
Touch w u w' u' j = ((word u j ≡ word w j) × (word u' j ≡ word w' j)) ⊎ (word u j ≡ word u' j)

-- where the two agreed in a word, they agree in it afterwards
pub touch_same : (w u w' u' : Words) (j : ℕ) → Touch w u w' u' j → word w j ≡ word w' j → word u j ≡ word u' j
touch_same w u w' u' j (inl p) e = p.0 ∙ e ∙ sym p.1
touch_same w u w' u' j (inr p) e = p

module _ (w w' : Words) (j : ℕ) where
  pub record Alike (u u' : Words) : Type 0 where
    pub long : length u ≡ length u'
    pub touch : Touch w u w' u' j

  set_at : (u u' : Words) (i : ℕ) (x : ℤ) → length u ≡ length u' → word (set u i x) i ≡ word (set u' i x) i
  set_at [] [] i x e = refl
  set_at [] (y ∷ ys) i x e = absurd (suc-ne-zero (length ys) (sym e))
  set_at (y ∷ ys) [] i x e = absurd (suc-ne-zero (length ys) e)
  set_at (y ∷ ys) (y' ∷ ys') zero x e = refl
  set_at (y ∷ ys) (y' ∷ ys') (suc i) x e = set_at ys ys' i x (suc_inj e)

  set_alike : (u u' : Words) (i : ℕ) (x : ℤ) → Alike u u' → Alike (set u i x) (set u' i x)
  set_alike u u' i x a = record { long = length-set u i x ∙ a.long ∙ sym (length-set u' i x); touch = go (ℕ_discrete j i) a.touch }
    where
      go : Dec (j ≡ i) → Touch w u w' u' j → Touch w (set u i x) w' (set u' i x) j
      go (yes e) t = inr (rw e (set_at u u' i x a.long))
      go (no n) (inl p) = inl (get_or-set_other u i j x z n ∙ p.0, get_or-set_other u' i j x z n ∙ p.1)
      go (no n) (inr p) = inr (get_or-set_other u i j x z n ∙ p ∙ sym (get_or-set_other u' i j x z n))

  put_alike : (b : Bool) (u u' : Words) (i : ℕ) (x : ℤ) → Alike u u' → Alike (put_if b u i x) (put_if b u' i x)
  unfolding put_if
  put_alike true u u' i x a = set_alike u u' i x a
  put_alike false u u' i x a = a

  run_alike : (f : ℕ → Words → Words) → ((i : ℕ) (u u' : Words) → Alike u u' → Alike (f i u) (f i u')) → (k i : ℕ) (u u' : Words) → Alike u u' → Alike (run k i f u) (run k i f u')
  unfolding run
  run_alike f h zero i u u' a = a
  run_alike f h (suc k) i u u' a = run_alike f h k (suc i) (f i u) (f i u') (h i u u' a)

  sent_alike : (N : Net) (k : ℕ) (end : Branch → End) (bs : List Branch) (v : Words) (i : ℕ) (u u' : Words) → Alike u u' → Alike (put_sent N k end bs v i u) (put_sent N k end bs v i u')
  unfolding put_sent
  sent_alike N k end bs v i u u' a = put_alike _ u u' _ _ a

untouched : (w w' : Words) (j : ℕ) → length w ≡ length w' → Alike w w' j w w'
untouched w w' j e = record { long = e; touch = inl (refl, refl) }

-- what a step writes is made of its area's own words
module _ (N : Net) (a k : ℕ) (bs : List Branch) (v w w' : Words) (own : (j : ℕ) → owner_of N j ≡ a → word w j ≡ word w' j) where
  abbrev Same : Section → Type 0
  Same s = (i : ℕ) → i < s.words → s.used N i ≡ true → s.area N i ≡ a → s.next N (found k bs v w) i ≡ s.next N (found k bs v w') i

  own_same : {s : Section} → Among s sections → (i j : ℕ) → i < s.words → s.used N i ≡ true → s.area N i ≡ a → j ≡ s.start + i → word w j ≡ word w' j
  own_same m i j l u o e = own j (ap (owner_of N) e ∙ owner_is N m i l ∙ rw u o)

  peak_same : (i : ℕ) → i < Limits.node_end → ltb i N.nodes ≡ true → area_of N (suc i) ≡ a → word w (peak_at N (suc i)) ≡ word w' (peak_at N (suc i))
  peak_same i l u o = own_same peaks_in i _ l u o (omega arith)

  next_same : {s : Section} → Among s sections → Same s
  unfolding sections All
  next_same = all_among Same sections (λ i _ _ _. refl, (λ i _ _ _. refl, (λ i _ _ _. refl, (λ i _ _ _. refl, (λ i _ _ _. refl, (to_peak, (to_step, (to_latch, tt))))))))
    where
      to_peak : Same peaks
      to_peak i l u o = rw (peak_same i l u o)

      to_step : Same peak_steps
      to_step i l u o = rw (peak_same i l u o, own_same peak_steps_in i (peak_step_at N (suc i)) l u o (omega arith))

      -- an SW's current is its area's own too
      to_latch : Same latches
      to_latch i l u o =
          let c = own_same currents_in i (current_at i) l (breaker_branch (row_at N i) u) (rw (breaker_line (row_at N i) u) o) refl in
          rw (c, own_same latches_in i (latch_at i) l u o refl)

pub records_touch : (N : Net) (a k : ℕ) (bs : List Branch) (v w w' : Words) (j : ℕ) → 1 ≤ a → length w ≡ length w' → ((j : ℕ) → owner_of N j ≡ a → word w j ≡ word w' j)
    → Touch w (new_records N a k bs v w) w' (new_records N a k bs v w') j
records_touch N a k bs v w w' j one e own = go (ℕ_discrete (owner_of N j) a) (dec_lt j (length w))
  where
    go : Dec (owner_of N j ≡ a) → Dec (j < length w) → Touch w (new_records N a k bs v w) w' (new_records N a k bs v w') j
    go (no n) l = inl (records_keep N a k bs v w j n, records_keep N a k bs v w' j n)
    go (yes o) (yes l) =
        let p = owned N a j one o in
        let s = p.at in
        let same : next_of N (found k bs v w) j ≡ next_of N (found k bs v w') j =
        rw (s.is, next_of_lem N s.among s.place s.inside (found k bs v w), next_of_lem N s.among s.place s.inside (found k bs v w')) (next_same N a k bs v w w' own s.among s.place s.inside p.used p.area) in
        inr (records_own N a k bs v w j l o ∙ same ∙ sym (records_own N a k bs v w' j (omega arith) o))
    go (yes o) (no l) = inr (records_past N a k bs v w j (omega arith) ∙ sym (records_past N a k bs v w' j (omega arith)))

pub store_touch : (N : Net) (k : ℕ) (end : Branch → End) (bs : List Branch) (v w w' : Words) (j : ℕ) → length w ≡ length w' → Touch w (new_store N k end bs v w) w' (new_store N k end bs v w') j
unfolding new_store turns
store_touch N k end bs v w w' j e = (run_alike w w' j (put_sent N k end bs v) (sent_alike w w' j N k end bs v) (length bs - 0) 0 w w' (untouched w w' j e)).touch
