-- A table that passes, row by row: each row is sound after those before it. Assumes nothing.
use Rattle.std.specs.Prelude.{◌<◌, ◌≡◌, ◌&&◌, ◌∷◌, ◌++◌}
use Rattle.whole.specs.Plain.{ℕ, zero, suc, refl, sym, Bool, true, false, cond, bool_beq, List, []}
use Rattle.whole.specs.Plain.{tail, append_assoc, append-nil, leb, eqb, length, get_or, take, leb-true}
use Rattle.whole.specs.Plain.{eqb-true, arith, empty, fold}
use Rattle.whole.specs.Folds.{and_left, and_right}
use Rattle.paper.specs.Rows.{Row, kind, no_kind, is_study}
use Rattle.paper.specs.Faults.{node_fault, value_fault, travel_fault, double_fault, full_fault, line_fault, row_fault}
use Rattle.paper.specs.Network.{Table, Replay, replayed, passes, sound}

ok_first : (s : Replay) (t : Table) → (fold replayed s t).ok ≡ true → s.ok ≡ true
unfolding fold replayed
ok_first s [] e = e
ok_first s (r ∷ t) e = and_left s.ok (sound s.seen r) (ok_first (replayed s r) t e)

replayed_at : (s : Replay) (t : Table) (i : ℕ) → (fold replayed s t).ok ≡ true → i < length t → sound (s.seen ++ take i t) (get_or t i []) ≡ true
unfolding fold replayed
replayed_at s [] i e h = absurd (omega arith)
replayed_at s (r ∷ t) zero e h = rw append-nil (and_right s.ok (sound s.seen r) (ok_first (replayed s r) t e))
replayed_at s (r ∷ t) (suc i) e h = rw append_assoc at (replayed_at (replayed s r) t i e (omega arith))

pub passes_at : (t : Table) (i : ℕ) → passes t ≡ true → i < length t → sound (take i t) (get_or t i []) ≡ true
unfolding passes
passes_at t i e h = replayed_at (record { ok = true; seen = [] }) t i e h

-- ---- what a sound row is

-- no fault of 2 to 6
pub record Clean (head : Row) (before : List Row) (r : Row) : Type 0 where
  pub node : node_fault r ≡ false
  pub value : value_fault head r ≡ false
  pub travel : travel_fault head r ≡ false
  pub double : double_fault before r ≡ false
  pub full : full_fault head before r ≡ false

no_fault : (a b c d f : Bool) → ◌≡◌ {A = ℕ} (cond a 2 (cond b 3 (cond c 4 (cond d 5 (cond f 6 0))))) 0
    → (a ≡ false) × (b ≡ false) × (c ≡ false) × (d ≡ false) × (f ≡ false)
no_fault true b c d f e = absurd (omega (arith, e))
no_fault false true c d f e = absurd (omega (arith, e))
no_fault false false true d f e = absurd (omega (arith, e))
no_fault false false false true f e = absurd (omega (arith, e))
no_fault false false false false true e = absurd (omega (arith, e))
no_fault false false false false false e = (refl, refl, refl, refl, refl)

pub clean : (head : Row) (before : List Row) (r : Row) → line_fault head before r ≡ 0 → Clean head before r
unfolding line_fault
clean head before r e =
    let f = no_fault (node_fault r) (value_fault head r) (travel_fault head r) (double_fault before r) (full_fault head before r) e in
    record { node = f.0; value = f.1; travel = f.2; double = f.3; full = f.4 }

pub record Taken (first : Bool) (head : Row) (before : List Row) (r : Row) : Type 0 where
  pub known : kind r < no_kind
  pub study : is_study r ≡ first
  pub clean : Clean head before r

beq_eq : (a b : Bool) → bool_beq a b ≡ true → b ≡ a
beq_eq true true e = refl
beq_eq true false e = e
beq_eq false true e = sym e
beq_eq false false e = refl

pub taken : (seen : Table) (r : Row) → sound seen r ≡ true → Taken (empty seen) (get_or seen 0 []) (tail seen) r
unfolding sound row_fault
taken seen r e =
    let a = and_left (leb (suc (kind r)) no_kind && bool_beq (empty seen) (is_study r)) (eqb (row_fault seen r) 0) e in
    let b = and_right (leb (suc (kind r)) no_kind && bool_beq (empty seen) (is_study r)) (eqb (row_fault seen r) 0) e in
    record {
      known = leb-true (suc (kind r)) no_kind (and_left (leb (suc (kind r)) no_kind) (bool_beq (empty seen) (is_study r)) a);
      study = beq_eq (empty seen) (is_study r) (and_right (leb (suc (kind r)) no_kind) (bool_beq (empty seen) (is_study r)) a);
      clean = clean (get_or seen 0 []) (tail seen) r (eqb-true (row_fault seen r) 0 b);
    }

-- the study's row and the others
pub head_taken : (h : Row) (rows : List Row) → passes (h ∷ rows) ≡ true → Taken true [] [] h
head_taken h rows e = taken [] h (passes_at (h ∷ rows) 0 e (omega arith))

pub row_taken : (h : Row) (rows : List Row) (i : ℕ) → passes (h ∷ rows) ≡ true → i < length rows → Taken false h (take i rows) (get_or rows i [])
row_taken h rows i e k = taken (h ∷ take i rows) (get_or rows i []) (passes_at (h ∷ rows) (suc i) e (omega arith))
