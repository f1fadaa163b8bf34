-- Whether a row has a fault, by the fault's number. Assumes nothing.
use Rattle.std.specs.Prelude.{◌≡◌, ◌≤◌, Option, Some, None}
use Rattle.std.specs.Option.{is_some}
use Rattle.whole.specs.Plain.{ℕ, zero, suc, refl, ap, sym, ◌∙◌, Bool, true, false, cond, not, eqb, eqb-true, eqb-false, arith}
use Rattle.paper.specs.declared.Fault.{Fault}
use Rattle.paper.specs.Faulted.{fault_number, fault_from, fault_by}
use Rattle.paper.specs.Rows.{Row}
use Rattle.text_faults.specs.declared.Seen.{Seen}
use Rattle.text_faults.specs.Seen.{seen_fault}

pub is_fault : (n : ℕ) → is_some (fault_by n) ≡ not (eqb n 0)
is_fault n = elim (eqb n 0) as (λ b. is_some (cond b None (Some (fault_from n))) ≡ not b) [ true ↦ refl | false ↦ refl ]

pub fault_none : (n : ℕ) → fault_by n ≡ None → n ≡ 0
fault_none n e = by_test (eqb n 0) refl e
  where
    by_test : (b : Bool) → eqb n 0 ≡ b → ◌≡◌ {A = Option Fault} (cond b None (Some (fault_from n))) None → n ≡ 0
    by_test true f g = eqb-true n 0 f
    by_test false f g = absurd (let q : ◌≡◌ {A = ℕ} 0 1 = cc in omega arith)

pub fault_some : (n : ℕ) (f : Fault) → fault_by n ≡ Some f → (n ≡ 0 → ⊥) × (fault_from n ≡ f)
fault_some n f e = by_test (eqb n 0) refl e
  where
    by_test : (b : Bool) → eqb n 0 ≡ b → ◌≡◌ {A = Option Fault} (cond b None (Some (fault_from n))) (Some f) → (n ≡ 0 → ⊥) × (fault_from n ≡ f)
    by_test true h g = absurd (let q : ◌≡◌ {A = ℕ} 0 1 = cc in omega arith)
    by_test false h g = (eqb-false n 0 h, cc)

-- a row's fault is one of the six
either_few : (b : Bool) (m n : ℕ) → m ≤ 6 → n ≤ 6 → cond b m n ≤ 6
either_few true m n g h = g
either_few false m n g h = h

seen_few : (s : Seen) (w : Row) → seen_fault s w ≤ 6
unfolding seen_fault
seen_few s w =
    either_few _ 2 _ (omega arith) (either_few _ 3 _ (omega arith) (either_few _ 4 _ (omega arith) (either_few _ 5 _ (omega arith) (either_few _ 6 0 (omega arith) (omega arith)))))

numbered : (n : ℕ) → n ≤ 6 → (n ≡ 0 → ⊥) → fault_number (fault_from n) ≡ n
numbered zero h e = absurd (e refl)
numbered (suc zero) h e = refl
numbered (suc (suc zero)) h e = refl
numbered (suc (suc (suc zero))) h e = refl
numbered (suc (suc (suc (suc zero)))) h e = refl
numbered (suc (suc (suc (suc (suc zero))))) h e = refl
numbered (suc (suc (suc (suc (suc (suc zero)))))) h e = refl
numbered (suc (suc (suc (suc (suc (suc (suc n))))))) h e = absurd (omega arith)

pub fault_named : (s : Seen) (w : Row) (f : Fault) → fault_by (seen_fault s w) ≡ Some f → (seen_fault s w ≡ 0 → ⊥) × (fault_number f ≡ seen_fault s w)
fault_named s w f e =
    let n = fault_some (seen_fault s w) f e in
    (n.0, sym (ap fault_number n.1) ∙ numbered (seen_fault s w) (seen_few s w) n.0)
