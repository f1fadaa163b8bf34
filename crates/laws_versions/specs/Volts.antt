-- What a step of one area says leaves no choice: two memories that are the step's result have the same voltages, currents, histories and sent
-- values. Assumes nothing.
use Rattle.std.specs.Prelude.{◌≤◌, ◌<◌, ◌≡◌, ◌⊎◌, ◌||◌, ◌∷◌, ◌+ℤ◌}
use Rattle.whole.specs.Plain.{ℕ, zero, suc, refl, sym, ap, ◌∙◌, inl, inr, Bool, true}
use Rattle.whole.specs.Plain.{false, true≢false, List, [], Mem-cases_cons, Mem-not_nil, ℤ}
use Rattle.whole.specs.Plain.{length, get_or, eqb-true, eq-eqb, arith}
use Rattle.paper.specs.Doubles.{tenths_of}
use Rattle.whole.specs.Folds.{and_left, and_right, none_if}
use Rattle.whole.specs.Members.{Among}
use Rattle.whole.specs.Places.{place, place_none, place_least}
use Rattle.paper.specs.Rows.{Row, kind, is_branch, is_l, is_c, is_line, is_breaker, is_switch, is_fixing, from, to, at}
use Rattle.paper.specs.Classes.{by_branch}
use Rattle.paper.specs.Faults.{fixes}
use Rattle.paper.specs.Areas.{Net, row_area, fixed, free_of}
use Rattle.paper.specs.Latch.{new_latch}
use Rattle.paper.specs.Legs.{received, is_open}
use Rattle.paper.specs.Advance.{Memory}
use Rattle.laws_facts.specs.Nets.{NetSound, row_at, row_area_from, row_area_to}
use Rattle.laws_local.specs.Nodes.{NodeOf, of_free}
use Rattle.laws_demands.specs.Said.{voltage, from_current, history, latch, gu, gv, Obeys, EndObeys, Offered}

-- where a number stands in a list
among_place : (l : List ℕ) {p : ℕ} → Among p l → (q : ℕ) × (q < length l) × (get_or l q 0 ≡ p)
among_place [] i = absurd (Mem-not_nil i)
among_place (x ∷ l) {p} i = go (Mem-cases_cons i) (λ j. among_place l j)
  where
    go : (p ≡ x) ⊎ Among p l → (Among p l → (q : ℕ) × (q < length l) × (get_or l q 0 ≡ p)) → (q : ℕ) × (q < suc (length l)) × (get_or (x ∷ l) q 0 ≡ p)
    go (inl e) ih = (0, omega arith, sym e)
    go (inr j) ih = let r = ih j in (suc r.0, omega (arith, r.1), r.2)

module _ (N : Net) (s : NetSound N) (a k : ℕ) (m n n' : Memory) (S : Offered N a k m n) (S' : Offered N a k m n') where
  -- a fixed node's voltage is its source's, a free node's is the rounded double
  fixed_one : (p : ℕ) → NodeOf N a p → fixed N p ≡ true → voltage N n p ≡ voltage N n' p
  unfolding fixed fixes
  fixed_one p h f = go (place (fixes p) 0 N.rows) refl
    where
      go : (x : ℕ) → place (fixes p) 0 N.rows ≡ x → voltage N n p ≡ voltage N n' p
      go zero e = absurd (true≢false (sym f ∙ none_if (fixes p) N.rows [] (place_none (fixes p) [] 0 N.rows e)))
      go (suc x) e =
          let q = place_least (fixes p) [] 0 N.rows x e in
          let v : is_fixing (row_at N q.0) ≡ true = and_left (is_fixing (row_at N q.0)) _ q.2.hit in
          let o : at (row_at N q.0) ≡ p = eqb-true (at (row_at N q.0)) p (and_right (is_fixing (row_at N q.0)) _ q.2.hit) in
          S.fixed_node p q.0 h q.2.inside v o ∙ sym (S'.fixed_node p q.0 h q.2.inside v o)

  free_one : (p : ℕ) → NodeOf N a p → fixed N p ≡ false → voltage N n p ≡ voltage N n' p
  free_one p h f =
      let q = among_place (free_of N a) (of_free N a p h f) in
      rw q.2 at (tenths_of (sym (S.free_node q.0 q.1) ∙ S'.free_node q.0 q.1))

  pub volt_one : (p : ℕ) → NodeOf N a p → voltage N n p ≡ voltage N n' p
  volt_one p h = go (fixed N p) refl
    where
      go : (b : Bool) → fixed N p ≡ b → voltage N n p ≡ voltage N n' p
      go true e = fixed_one p h e
      go false e = free_one p h e

  -- ---- an R, L, C or SW of the area
  module _ (i : ℕ) (there : i < length N.rows) (b : is_branch (row_at N i) ≡ true) (l : is_line (row_at N i) ≡ false) (mine : row_area N (row_at N i) ≡ a) where
    abbrev r : Row
    r = row_at N i

    end_one : (p : ℕ) → (1 ≤ p → NodeOf N a p) → voltage N n p ≡ voltage N n' p
    end_one zero h = refl
    end_one (suc p) h = volt_one (suc p) (h (omega arith))

    gu_one : gu N n i ≡ gu N n' i
    gu_one =
        rw (
          end_one (from r) (λ h. record { area = sym (row_area_from N s i there b l h) ∙ mine; low = h; high = ((s.row i there).branch b).from_in.most }),
          end_one (to r) (λ h. record { area = sym (row_area_to N s i there b l h) ∙ mine; low = h; high = ((s.row i there).branch b).to_in.most }),
        )

    O : Obeys N k m n i
    O = S.plain i there b l mine

    O' : Obeys N k m n' i
    O' = S'.plain i there b l mine

    switch_one : is_switch r ≡ true → from_current n i ≡ from_current n' i
    switch_one e = go (is_open N m.records k i) refl
      where
        go : (t : Bool) → is_open N m.records k i ≡ t → from_current n i ≡ from_current n' i
        go true o = O.opened e o ∙ sym (O'.opened e o)
        go false o = O.closed e o ∙ gu_one ∙ sym (O'.closed e o)

    pub plain_one : from_current n i ≡ from_current n' i
    plain_one =
        by_branch (λ j. kind r ≡ j → from_current n i ≡ from_current n' i) (kind r) b
        (λ e. O.resistor (rw e) ∙ gu_one ∙ sym (O'.resistor (rw e)))
        (λ e. O.inductor (rw e) ∙ ap (λ (u : ℤ). u +ℤ history m i) gu_one ∙ sym (O'.inductor (rw e)))
        (λ e. O.capacitor (rw e) ∙ ap (λ (u : ℤ). u +ℤ history m i) gu_one ∙ sym (O'.capacitor (rw e)))
        (λ e. absurd (true≢false (sym (eq-eqb (kind r) 4 e) ∙ l)))
        (λ e. switch_one (rw e))
        (λ e. switch_one (rw e))
        refl

    -- the latch goes by two currents and by what stood there, which are one
    pub latch_one : is_breaker r ≡ true → latch n i ≡ latch n' i
    latch_one e = O.parted e ∙ ap (λ (x : ℤ). new_latch k r (from_current m i) x (latch m i)) plain_one ∙ sym (O'.parted e)

    pub history_one : is_l r || is_c r ≡ true → history n i ≡ history n' i
    history_one e = go (is_l r) (is_c r) refl refl e
      where
        go : (x y : Bool) → is_l r ≡ x → is_c r ≡ y → x || y ≡ true → history n i ≡ history n' i
        go true y p q f = O.inductor_next p ∙ rw (plain_one, gu_one) (sym (O'.inductor_next p))
        go false true p q f = O.capacitor_next q ∙ rw (plain_one, gu_one) (sym (O'.capacitor_next q))
        go false false p q f = absurd (true≢false (sym f))

  -- ---- an end of a line
  module _ (i p : ℕ) (node : NodeOf N a p) (current current' sends sends' : ℤ) (far : ℕ → ℤ) (E : EndObeys N k i p n current sends far) (E' : EndObeys N k i p n' current' sends' far) where
    gv_one : gv N n i p ≡ gv N n' i p
    gv_one = rw (volt_one p node)

    pub current_one : current ≡ current'
    current_one = E.equation ∙ ap (λ (u : ℤ). u +ℤ received N.head (row_at N i) k far) gv_one ∙ sym E'.equation

    pub sends_one : sends ≡ sends'
    sends_one = E.sent ∙ rw (gv_one, current_one) (sym E'.sent)
