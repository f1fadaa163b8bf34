-- Which kinds are of which class, computed over the table. Assumes nothing.
use Rattle.std.specs.Prelude.{◌+◌, ◌≤◌, ◌≡◌, ◌||◌}
use Rattle.whole.specs.Plain.{ℕ, zero, suc, refl, sym, Bool, true, false, cond, true≢false, eqb}
use Rattle.whole.specs.Plain.{eqb-true, ne_eqb, arith}
use Rattle.paper.specs.Rows.{Row, kinds, kind, no_kind, branch_kind, source_kind, fixing_kind, is_branch, is_source, is_fixing, is_line, is_iS, is_breaker, is_switch}

pub kind_count : no_kind ≡ 10
unfolding kinds
kind_count = refl

-- what holds of each kind of a class
pub by_branch : (P : ℕ → Type 0) (k : ℕ) → branch_kind k ≡ true → P 1 → P 2 → P 3 → P 4 → P 5 → P 9 → P k
unfolding branch_kind kinds
by_branch P zero h a b c d e f = absurd (true≢false (sym h))
by_branch P (suc zero) h a b c d e f = a
by_branch P (suc (suc zero)) h a b c d e f = b
by_branch P (suc (suc (suc zero))) h a b c d e f = c
by_branch P (suc (suc (suc (suc zero)))) h a b c d e f = d
by_branch P (suc (suc (suc (suc (suc zero))))) h a b c d e f = e
by_branch P (suc (suc (suc (suc (suc (suc zero)))))) h a b c d e f = absurd (true≢false (sym h))
by_branch P (suc (suc (suc (suc (suc (suc (suc zero))))))) h a b c d e f = absurd (true≢false (sym h))
by_branch P (suc (suc (suc (suc (suc (suc (suc (suc zero)))))))) h a b c d e f = absurd (true≢false (sym h))
by_branch P (suc (suc (suc (suc (suc (suc (suc (suc (suc zero))))))))) h a b c d e f = f
by_branch P (suc (suc (suc (suc (suc (suc (suc (suc (suc (suc k)))))))))) h a b c d e f = absurd (true≢false (sym h))

pub by_source : (P : ℕ → Type 0) (k : ℕ) → source_kind k ≡ true → P 6 → P 7 → P 8 → P k
unfolding source_kind kinds
by_source P zero h a b c = absurd (true≢false (sym h))
by_source P (suc zero) h a b c = absurd (true≢false (sym h))
by_source P (suc (suc zero)) h a b c = absurd (true≢false (sym h))
by_source P (suc (suc (suc zero))) h a b c = absurd (true≢false (sym h))
by_source P (suc (suc (suc (suc zero)))) h a b c = absurd (true≢false (sym h))
by_source P (suc (suc (suc (suc (suc zero))))) h a b c = absurd (true≢false (sym h))
by_source P (suc (suc (suc (suc (suc (suc zero)))))) h a b c = a
by_source P (suc (suc (suc (suc (suc (suc (suc zero))))))) h a b c = b
by_source P (suc (suc (suc (suc (suc (suc (suc (suc zero)))))))) h a b c = c
by_source P (suc (suc (suc (suc (suc (suc (suc (suc (suc zero))))))))) h a b c = absurd (true≢false (sym h))
by_source P (suc (suc (suc (suc (suc (suc (suc (suc (suc (suc k)))))))))) h a b c = absurd (true≢false (sym h))

pub by_fixing : (P : ℕ → Type 0) (k : ℕ) → fixing_kind k ≡ true → P 6 → P 8 → P k
unfolding fixing_kind kinds
by_fixing P zero h a b = absurd (true≢false (sym h))
by_fixing P (suc zero) h a b = absurd (true≢false (sym h))
by_fixing P (suc (suc zero)) h a b = absurd (true≢false (sym h))
by_fixing P (suc (suc (suc zero))) h a b = absurd (true≢false (sym h))
by_fixing P (suc (suc (suc (suc zero)))) h a b = absurd (true≢false (sym h))
by_fixing P (suc (suc (suc (suc (suc zero))))) h a b = absurd (true≢false (sym h))
by_fixing P (suc (suc (suc (suc (suc (suc zero)))))) h a b = a
by_fixing P (suc (suc (suc (suc (suc (suc (suc zero))))))) h a b = absurd (true≢false (sym h))
by_fixing P (suc (suc (suc (suc (suc (suc (suc (suc zero)))))))) h a b = b
by_fixing P (suc (suc (suc (suc (suc (suc (suc (suc (suc zero))))))))) h a b = absurd (true≢false (sym h))
by_fixing P (suc (suc (suc (suc (suc (suc (suc (suc (suc (suc k)))))))))) h a b = absurd (true≢false (sym h))

-- a row's kind is a branch's or a source's, and not both
pub one_sort : (k : ℕ) → 1 ≤ k → k ≤ 9 → cond (branch_kind k) 1 0 + cond (source_kind k) 1 0 ≡ 1
unfolding branch_kind source_kind kinds
one_sort zero l h = absurd (omega arith)
one_sort (suc zero) l h = refl
one_sort (suc (suc zero)) l h = refl
one_sort (suc (suc (suc zero))) l h = refl
one_sort (suc (suc (suc (suc zero)))) l h = refl
one_sort (suc (suc (suc (suc (suc zero))))) l h = refl
one_sort (suc (suc (suc (suc (suc (suc zero)))))) l h = refl
one_sort (suc (suc (suc (suc (suc (suc (suc zero))))))) l h = refl
one_sort (suc (suc (suc (suc (suc (suc (suc (suc zero)))))))) l h = refl
one_sort (suc (suc (suc (suc (suc (suc (suc (suc (suc zero))))))))) l h = refl
one_sort (suc (suc (suc (suc (suc (suc (suc (suc (suc (suc k)))))))))) l h = absurd (omega arith)

-- ---- as code asks

past : (n m : ℕ) → m ≤ 9 → eqb (suc (suc (suc (suc (suc (suc (suc (suc (suc (suc n)))))))))) m ≡ false
past n m l = ne_eqb (suc (suc (suc (suc (suc (suc (suc (suc (suc (suc n)))))))))) m (λ e. omega arith)

pub branch_kinds : (k : ℕ) → (eqb k 1 || eqb k 2 || eqb k 3 || eqb k 4 || eqb k 5 || eqb k 9) ≡ branch_kind k
unfolding branch_kind kinds
branch_kinds zero = refl
branch_kinds (suc zero) = refl
branch_kinds (suc (suc zero)) = refl
branch_kinds (suc (suc (suc zero))) = refl
branch_kinds (suc (suc (suc (suc zero)))) = refl
branch_kinds (suc (suc (suc (suc (suc zero))))) = refl
branch_kinds (suc (suc (suc (suc (suc (suc zero)))))) = refl
branch_kinds (suc (suc (suc (suc (suc (suc (suc zero))))))) = refl
branch_kinds (suc (suc (suc (suc (suc (suc (suc (suc zero)))))))) = refl
branch_kinds (suc (suc (suc (suc (suc (suc (suc (suc (suc zero))))))))) = refl
branch_kinds (suc (suc (suc (suc (suc (suc (suc (suc (suc (suc n)))))))))) =
    rw (past n 1 (omega arith), past n 2 (omega arith), past n 3 (omega arith), past n 4 (omega arith), past n 5 (omega arith), past n 9 (omega arith))

pub source_kinds : (k : ℕ) → (eqb k 6 || eqb k 7 || eqb k 8) ≡ source_kind k
unfolding source_kind kinds
source_kinds zero = refl
source_kinds (suc zero) = refl
source_kinds (suc (suc zero)) = refl
source_kinds (suc (suc (suc zero))) = refl
source_kinds (suc (suc (suc (suc zero)))) = refl
source_kinds (suc (suc (suc (suc (suc zero))))) = refl
source_kinds (suc (suc (suc (suc (suc (suc zero)))))) = refl
source_kinds (suc (suc (suc (suc (suc (suc (suc zero))))))) = refl
source_kinds (suc (suc (suc (suc (suc (suc (suc (suc zero)))))))) = refl
source_kinds (suc (suc (suc (suc (suc (suc (suc (suc (suc zero))))))))) = refl
source_kinds (suc (suc (suc (suc (suc (suc (suc (suc (suc (suc n)))))))))) = rw (past n 6 (omega arith), past n 7 (omega arith), past n 8 (omega arith))

pub fixing_kinds : (k : ℕ) → (eqb k 6 || eqb k 8) ≡ fixing_kind k
unfolding fixing_kind kinds
fixing_kinds zero = refl
fixing_kinds (suc zero) = refl
fixing_kinds (suc (suc zero)) = refl
fixing_kinds (suc (suc (suc zero))) = refl
fixing_kinds (suc (suc (suc (suc zero)))) = refl
fixing_kinds (suc (suc (suc (suc (suc zero))))) = refl
fixing_kinds (suc (suc (suc (suc (suc (suc zero)))))) = refl
fixing_kinds (suc (suc (suc (suc (suc (suc (suc zero))))))) = refl
fixing_kinds (suc (suc (suc (suc (suc (suc (suc (suc zero)))))))) = refl
fixing_kinds (suc (suc (suc (suc (suc (suc (suc (suc (suc zero))))))))) = refl
fixing_kinds (suc (suc (suc (suc (suc (suc (suc (suc (suc (suc n)))))))))) = rw (past n 6 (omega arith), past n 8 (omega arith))

-- ---- of a row

pub line_branch : (r : Row) → is_line r ≡ true → is_branch r ≡ true
unfolding branch_kind kinds
line_branch r e = rw (eqb-true (kind r) 4 e)

pub fixing_source : (r : Row) → is_fixing r ≡ true → is_source r ≡ true
unfolding source_kind kinds
fixing_source r e = by_fixing (λ k. source_kind k ≡ true) (kind r) e refl refl

pub injecting_source : (r : Row) → is_iS r ≡ true → is_source r ≡ true
unfolding source_kind kinds
injecting_source r e = rw (eqb-true (kind r) 7 e)

pub breaker_branch : (r : Row) → is_breaker r ≡ true → is_branch r ≡ true
unfolding branch_kind kinds
breaker_branch r e = rw (eqb-true (kind r) 5 e)

pub breaker_line : (r : Row) → is_breaker r ≡ true → is_line r ≡ false
breaker_line r e = rw (eqb-true (kind r) 5 e)

-- SW or SWT
pub by_switch : (P : ℕ → Type 0) (r : Row) → is_switch r ≡ true → P 5 → P 9 → P (kind r)
by_switch P r h a b = go (is_breaker r) refl h
  where
    go : (s : Bool) → is_breaker r ≡ s → (s || eqb (kind r) 9) ≡ true → P (kind r)
    go true e q = rw (eqb-true (kind r) 5 e) a
    go false e q = rw (eqb-true (kind r) 9 q) b
