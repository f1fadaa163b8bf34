-- T-stays: a call leaves a well-formed state well formed. Assumes nothing.
use Rattle.std.specs.Prelude.{◌-◌, ◌≤◌, ◌<◌, ◌≡◌}
use Rattle.whole.specs.Plain.{ℕ, suc, max, refl, sym, ◌∙◌, Bool, true, false, List}
use Rattle.whole.specs.Plain.{non_neg, length, ℕ_discrete, arith, Words, word}
use Rattle.paper.specs.Answers.{accepted}
use Rattle.paper.specs.Rows.{is_breaker, from, to, steps}
use Rattle.paper.specs.Classes.{breaker_branch}
use Rattle.paper.specs.Areas.{Net, area_of, area_count, row_area, step}
use Rattle.paper.specs.Records.{count_at, well_formed}
use Rattle.paper.specs.Legs.{Heard, heard, legs_by}
use Rattle.paper.specs.Solve.{move, solve}
use Rattle.paper.specs.Advance.{Memory, written, on_net}
use Rattle.laws_facts.specs.Sound.{BranchSound}
use Rattle.laws_facts.specs.Nets.{NetSound, row_at, area_of_lem}
use Rattle.laws_local.specs.Sound.{Sound, sound}
use Rattle.laws_local.specs.Own.{other_count}
use Rattle.laws_local.specs.Written.{new, records_length, records_keep, count_put}
use Rattle.laws_local.specs.Slots.{delay_at, sent_length}
use Rattle.laws_local.specs.Waits.{Free}
use Rattle.laws_local.proofs.Waits.{not_late}
use Rattle.laws_local.specs.Outcome.{step_of, legs_now, volts_of, large, Taken, taken, refused, Solving, floats, leaves, tips, exceeds, solves, solving}
use Rattle.laws_stays.specs.Formed.{Peaked, Latched, Formed, formed, well_formed_lem}
use Rattle.laws_stays.specs.Volts.{AllVolts, step_volts}
use Rattle.laws_stays.proofs.Sizes.{InRange, none_beyond}
use Rattle.laws_stays.proofs.Bounds.{records_bounded, froms_bounded, tos_bounded}
use Rattle.laws_stays.specs.Stays.{Long, near_stays, own_peaked, own_latched, other_latched, other_peaked, stop_move}

-- ---- the step

module _ (N : Net) (s : NetSound N) (a : ℕ) (m : Memory) (long : Long m) (good : well_formed N m.records m.froms m.tos ≡ true) where
  abbrev k : ℕ
  k = step_of N a m

  abbrev v : Words
  v = volts_of N a k (legs_now N a m)

  abbrev ears : List Heard
  ears = heard N a k m.froms m.tos

  abbrev next : Memory
  next = written N a k (legs_now N a m) v m

  snd : Sound N
  snd = sound N s

  f : Formed N m
  f = formed N m good

  pub next_long : Long next
  unfolding written
  next_long =
      record {
        records = records_length N a k (legs_now N a m) v m.records ∙ long.records;
        froms = sent_length N a k m.records ears v (λ b. b.is_from_end) m.froms ∙ long.froms;
        tos = sent_length N a k m.records ears v (λ b. b.is_to_end) m.tos ∙ long.tos;
      }

  next_formed : 1 ≤ a → a ≤ area_count N → k ≤ steps N.head → Free N a k m.records → large N a k (legs_now N a m) ≡ 0 → Formed N next
  unfolding written
  next_formed one most room free small =
      record {
        signs = λ j h _. sign j h;
        records = records_bounded N s m f a k one most room v volts inside;
        from_near = λ i h l.
            near_stays N snd m long a k one most ears v (area_of N (from (row_at N i))) (area_of N (to (row_at N i))) (delay_at N i)
            (snd.from_area i l) (omega (arith, area_of_lem N (from (row_at N i)), snd.areas)) (snd.to_area i l) (omega (arith, area_of_lem N (to (row_at N i)), snd.areas)) refl
            (free i h l).at_from (f.from_near i h l);
        to_near = λ i h l.
            near_stays N snd m long a k one most ears v (area_of N (to (row_at N i))) (area_of N (from (row_at N i))) (delay_at N i)
            (snd.to_area i l) (omega (arith, area_of_lem N (to (row_at N i)), snd.areas)) (snd.from_area i l) (omega (arith, area_of_lem N (from (row_at N i)), snd.areas)) refl
            (free i h l).at_to (f.to_near i h l);
        peaks = peaks;
        latches = latches;
        froms = froms_bounded N s m f a k one most room v volts inside;
        tos = tos_bounded N s m f a k one most room v volts inside;
      }
    where
      volts : AllVolts v
      volts = step_volts N s a k (legs_now N a m)

      inside : (i : ℕ) → i < length N.rows → InRange v (row_at N i) (legs_by N a k m.records ears i)
      inside = none_beyond N a k m.records ears v small

      peaks : (n : ℕ) → 1 ≤ n → n ≤ N.nodes → Peaked N (new N a k m.records ears v m.records) n
      peaks n l h = go (ℕ_discrete (area_of N n) a)
        where
          go : Dec (area_of N n ≡ a) → Peaked N (new N a k m.records ears v m.records) n
          go (yes e) = own_peaked N snd m long a k one most ears v n (record { area = e; low = l; high = h }) (f.peaks n l h) (omega arith)
          go (no e) = other_peaked N snd m long a k one most ears v n l h (s.area_least n l h) e (f.peaks n l h)

      latches : (i : ℕ) → i < length N.rows → is_breaker (row_at N i) ≡ true → Latched N (new N a k m.records ears v m.records) i
      latches i h b = go (ℕ_discrete (row_area N (row_at N i)) a)
        where
          ends : BranchSound (step N) N.nodes (row_at N i)
          ends = (s.row i h).branch (breaker_branch (row_at N i) b)

          go : Dec (row_area N (row_at N i) ≡ a) → Latched N (new N a k m.records ears v m.records) i
          go (yes e) = own_latched N snd m long a k one most ears v i h b (f.latches i h b) e refl
          go (no e) =
              other_latched N snd m long a k one most ears v i h b (f.latches i h b) e
              (s.area_least (max (from (row_at N i)) (to (row_at N i))) (omega (arith, ends.apart)) (omega (arith, ends.from_in.most, ends.to_in.most)))

      sign : (j : ℕ) → j < 32 → non_neg (word (new N a k m.records ears v m.records) j) ≡ true
      sign j h = go (ℕ_discrete j (count_at a))
        where
          go : Dec (j ≡ count_at a) → non_neg (word (new N a k m.records ears v m.records) j) ≡ true
          go (yes e) = rw (e, count_put N a k m.records ears v snd m.records long.records one most)
          go (no n) =
              let q : suc j - 1 ≡ j = omega arith in
              rw (records_keep N a k (legs_now N a m) v m.records j (rw q at (other_count N a (suc j) one (omega arith) (omega arith) (λ e. n (omega arith)))))
              (f.signs j h (rw long.records (omega arith)))

  solved_small : Solving N a k (legs_now N a m) → solve N a k (legs_now N a m) ≡ move (legs_now N a m) v → large N a k (legs_now N a m) ≡ 0
  solved_small (floats n p e) q = absurd (stop_move (sym e ∙ q))
  solved_small (leaves n p o e) q = absurd (stop_move (sym e ∙ q))
  solved_small (tips n p o h e) q = absurd (stop_move (sym e ∙ q))
  solved_small (exceeds n p o h b e) q = absurd (stop_move (sym e ∙ q))
  solved_small (solves p o h b e) q = b

  pub step_formed : Taken N a m good → Formed N next
  step_formed t = next_formed t.one t.most t.undone (not_late N a k m.records t.free) (solved_small (solving N a k (legs_now N a m)) t.solved)

  -- T-stays, of every call
  pub stays : Long (on_net N a m).after × (well_formed N (on_net N a m).after.records (on_net N a m).after.froms (on_net N a m).after.tos ≡ true)
  stays = go (accepted (on_net N a m).answer) refl
    where
      go : (b : Bool) → accepted (on_net N a m).answer ≡ b → Long (on_net N a m).after × (well_formed N (on_net N a m).after.records (on_net N a m).after.froms (on_net N a m).after.tos ≡ true)
      go true e = let t = taken N a m good e in rw t.is (next_long, well_formed_lem N next (step_formed t))
      go false e = rw (refused N a m good e) (long, good)
