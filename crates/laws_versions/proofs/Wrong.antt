-- "Check it against versions that refuse all calls, give one fixed voltage, write nothing, advance properly once and then repeat step 1, or raise
-- the count unearned: demand 2 shuts out each". Assumes nothing.
use Rattle.std.specs.Prelude.{Ok}
use Rattle.std.specs.Prelude.{◌+◌, ◌-◌, ◌≤◌, ◌<◌, ◌≡◌, ◌∷◌, ◌++◌}
use Rattle.whole.specs.Plain.{ℕ, suc, refl, sym, ap, ◌∙◌, Bool, true, false, not, true≢false, List, []}
use Rattle.whole.specs.Plain.{map, eqb, ℤ, pos, nat_abs, get_or, take, drop, replicate, get_or-take, get_or-drop, eq-eqb}
use Rattle.whole.specs.Plain.{not-true, arith, Words, z, word, every, numbers}
use Rattle.whole.specs.Folds.{every_at, get_d_numbers, length_numbers}
use Rattle.paper.specs.Replies.{Advance}
use Rattle.paper.specs.Answers.{accepted}
use Rattle.paper.specs.Rows.{Row}
use Rattle.paper.specs.Network.{network_of}
use Rattle.paper.specs.Records.{volt_at, count_of}
use Rattle.paper.specs.Advance.{Memory, Advanced, advance_of}
use Rattle.paper.proofs.Kept.{advance_refused}
use Rattle.paper.specs.Resetting.{fresh}
use Rattle.paper.specs.Computing.{computing}
use Rattle.laws_facts.specs.Nets.{net_in}
use Rattle.laws_versions.specs.Meets.{Version, Meets, version}
use Rattle.laws_versions.proofs.Meets.{meets, one_version}

-- ---- networks of two steps: sixteen nodes from f on, each with a VS of 100 V, joined by an L from each to the next

abbrev row : List ℕ → Row
row [] = []
row (x ∷ l) = pos x ∷ row l

abbrev joined : ℕ → Words
joined f =
    network_of (row (0 ∷ 1000 ∷ 2 ∷ 0 ∷ []) ∷ (map (λ p. row (6 ∷ p ∷ 1000 ∷ 1 ∷ 0 ∷ [])) (numbers f 16) ++ map (λ p. row (2 ∷ p ∷ suc p ∷ 1000000 ∷ [])) (numbers f 15)))

-- the first sixteen are area 1; the last sixteen are area 17, behind sixteen that have no branch
abbrev once : Memory
once = (advance_of (joined 1) 1 fresh).after

abbrev twice : Memory
twice = (advance_of (joined 1) 1 once).after

abbrev other : Memory
other = (advance_of (joined 17) 17 fresh).after

first_step : (advance_of (joined 1) 1 fresh).answer ≡ Ok 1
unfolding computing
first_step = refl

other_step : (advance_of (joined 17) 17 fresh).answer ≡ Ok 1
unfolding computing
other_step = refl

-- the voltages that they leave
abbrev volts : Memory → Words
volts m = take 32 (drop 32 m.records)

abbrev front : Words
front = replicate 16 (pos 1000) ++ replicate 16 z

abbrev back : Words
back = replicate 16 z ++ replicate 16 (pos 1000)

first_volts : volts once ≡ front
unfolding computing
first_volts = refl

other_volts : volts other ≡ back
unfolding computing
other_volts = refl

abbrev apart : ℕ → Bool
apart q = not (eqb (nat_abs (word front q)) (nat_abs (word back q)))

all_apart : every apart (numbers 0 32) ≡ true
unfolding every numbers
all_apart = refl

differ : (q : ℕ) → q < 32 → apart q ≡ true
differ q h =
    let same : get_or (numbers 0 32) q 0 ≡ q = get_d_numbers 0 32 q 0 h ∙ omega arith in
    rw same at (every_at apart (numbers 0 32) 0 q all_apart (rw (length_numbers 0 32) h))

no_count : count_of fresh.records 1 ≡ 0
unfolding fresh
no_count = refl

first_count : count_of once.records 1 ≡ 1
unfolding computing
first_count = refl

second_count : count_of twice.records 1 ≡ 2
unfolding computing
second_count = refl

-- ---- the five, each over every version that does so

module _ (F : Version) (M : Meets F) where
  is : (net : Words) (a : ℕ) (m : Memory) → F net a m ≡ advance_of net a m
  is net a m = one_version F version M meets net a m

  answers : (net : Words) (a : ℕ) (m : Memory) {x : Advance} → (advance_of net a m).answer ≡ x → (F net a m).answer ≡ x
  answers net a m e = ap (λ (r : Advanced). r.answer) (is net a m) ∙ e

  leaves : (net : Words) (a : ℕ) (m : Memory) → (F net a m).after ≡ (advance_of net a m).after
  leaves net a m = ap (λ (r : Advanced). r.after) (is net a m)

-- it accepts no call
pub refuse_all_not : (F : Version) → ((net : Words) (a : ℕ) (m : Memory) → accepted (F net a m).answer ≡ false) → Meets F → ⊥
refuse_all_not F none M = true≢false (sym (ap accepted (answers F M (joined 1) 1 fresh first_step)) ∙ none (joined 1) 1 fresh)

-- some word of the voltages is the same after every call that it accepts
pub fixed_voltage_not : (F : Version) (p : ℕ) (c : ℤ) → 1 ≤ p → p ≤ 32
    → ((net : Words) (a : ℕ) (m : Memory) (x : ℕ) → (F net a m).answer ≡ Ok x → word (F net a m).after.records (volt_at (net_in net) p) ≡ c) → Meets F → ⊥
fixed_voltage_not F p c one most same M =
    let e : word front (p - 1) ≡ word back (p - 1) = held (joined 1) 1 front first_step first_volts ∙ sym (held (joined 17) 17 back other_step other_volts) in
    true≢false (sym (eq-eqb _ _ (ap nat_abs e)) ∙ not-true _ (differ (p - 1) (omega arith)))
  where
    held : (net : Words) (a : ℕ) (v : Words) → (advance_of net a fresh).answer ≡ Ok 1 → volts (advance_of net a fresh).after ≡ v → word v (p - 1) ≡ c
    held net a v e q =
        let at : 32 + (p - 1) ≡ volt_at (net_in net) p = omega arith in
        rw (← q, get_or-take 32 (drop 32 (advance_of net a fresh).after.records) (p - 1) z (omega arith), get_or-drop, at, ← leaves F M net a fresh)
        (same net a fresh 1 (answers F M net a fresh e))

-- it writes nothing where it accepts
pub write_nothing_not : (F : Version) → ((net : Words) (a : ℕ) (m : Memory) (x : ℕ) → (F net a m).answer ≡ Ok x → (F net a m).after ≡ m) → Meets F → ⊥
write_nothing_not F none M =
    let e : once ≡ fresh = sym (leaves F M (joined 1) 1 fresh) ∙ none (joined 1) 1 fresh 1 (answers F M (joined 1) 1 fresh first_step) in
    let q : ◌≡◌ {A = ℕ} 1 0 = sym first_count ∙ ap (λ (m : Memory). count_of m.records 1) e ∙ no_count in
    omega arith

-- once it has taken an area's step 1 from a reset, its next call leaves what step 1 left
pub repeat_first_not : (F : Version) → ((net : Words) (a : ℕ) → (F net a fresh).answer ≡ Ok 1 → (F net a (F net a fresh).after).after ≡ (F net a fresh).after) → Meets F → ⊥
repeat_first_not F again M =
    let e : twice ≡ once = sym (leaves F M (joined 1) 1 once) ∙ rw (leaves F M (joined 1) 1 fresh) at (again (joined 1) 1 (answers F M (joined 1) 1 fresh first_step)) in
    let q : ◌≡◌ {A = ℕ} 2 1 = sym second_count ∙ ap (λ (m : Memory). count_of m.records 1) e ∙ first_count in
    omega arith

-- it raises the count at some call that the paper refuses
pub count_unearned_not : (F : Version) (net : Words) (a : ℕ) (m : Memory) → accepted (advance_of net a m).answer ≡ false
    → count_of (F net a m).after.records a ≡ suc (count_of m.records a) → Meets F → ⊥
count_unearned_not F net a m e q M =
    let s : (F net a m).after ≡ m = leaves F M net a m ∙ advance_refused net a m e in
    let r : count_of m.records a ≡ suc (count_of m.records a) = rw s at q in
    omega arith
