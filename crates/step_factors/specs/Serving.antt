-- The factors of a matrix serve every right side of every system that has it. Assumes nothing.
use Rattle.whole.specs.Plain.{ℕ, zero, suc, refl, sym, ap, ◌∙◌, List, [], length, length-set}
use Rattle.whole.specs.Plain.{get_or-set_same, get_or-set_other, arith}
use Rattle.std.specs.Prelude.{Float, ◌+◌, ◌≤◌, ◌<◌, ◌≡◌}
use Rattle.std.specs.Float.Ieee.{nan}
use Rattle.paper.specs.declared.Equation.{Equation}
use Rattle.whole.specs.Turns.{turns, turns_done, turns_more}
use Rattle.whole.specs.TurnLaws.{turns_last, turns_cong, turns_at, turns_before, turns_length, turns_join, turns_keeps}
use Rattle.paper.specs.Elimination.{System, line, cell, row, less, quotient, line_less, row_less, eliminated, all_less}
use Rattle.step_factors.specs.Factored.{multiplier, line_factored, row_factored, all_factored, factored}
use Rattle.step_factors.specs.Along.{turns_along}
use Rattle.step_factors.specs.Factors.{Square, Of, final_right, Factors, Serves}

pub record Meets {S T : Type 0} (n : ℕ) (Ok : S → Type 0) (get : S → ℕ → T) (turn : ℕ → ℕ → S → S) (g : ℕ → ℕ → T → T → T) : Type 0 where
  pub keeps : (p q : ℕ) (x : S) → Ok x → Ok (turn p q x)
  pub here : (p q : ℕ) (x : S) → q < n → Ok x → get (turn p q x) q ≡ g p q (get x p) (get x q)
  pub other : (p q r : ℕ) (x : S) → (r ≡ q → ⊥) → get (turn p q x) r ≡ get x r

abbrev pub met : {S : Type 0} → ℕ → (ℕ → ℕ → S → S) → ℕ → S → S
met n turn p x = turns (p + 1) n (turn p) x

module _ {S T : Type 0} {n : ℕ} {Ok : S → Type 0} {get : S → ℕ → T} {turn : ℕ → ℕ → S → S} {g : ℕ → ℕ → T → T → T} (m : Meets n Ok get turn g) where
  past : (p i k r : ℕ) (x : S) → ((j : ℕ) → i ≤ j → j < k → r ≡ j → ⊥) → get (turns i k (turn p) x) r ≡ get x r
  past p i k r x h = turns_keeps (λ y. get y r ≡ get x r) i k (turn p) (λ j y lo hi e. m.other p j r y (h j lo hi) ∙ e) x refl

  met_ok : (p : ℕ) (x : S) → Ok x → Ok (met n turn p x)
  met_ok p x o = turns_keeps Ok (p + 1) n (turn p) (λ j y lo hi k. m.keeps p j y k) x o

  -- one row p: the rows up to it, and the later ones
  met_early : (p r : ℕ) (x : S) → r ≤ p → get (met n turn p x) r ≡ get x r
  met_early p r x h = past p (p + 1) n r x (λ j lo hi e. omega arith)

  met_later : (p r : ℕ) (x : S) → p < r → r < n → Ok x → get (met n turn p x) r ≡ g p r (get x p) (get x r)
  met_later p r x l h o =
      let y = turns (p + 1) r (turn p) x in
      ap (λ (z : S). get z r) (turns_join (p + 1) r n (turn p) x (omega arith) (omega arith) ∙ turns_more r n (turn p) y h)
      ∙ past p (r + 1) n r (turn p r y) (λ j lo hi e. omega arith)
      ∙ m.here p r y h (turns_keeps Ok (p + 1) r (turn p) (λ j z lo hi k. m.keeps p j z k) x o)
      ∙ rw (past p (p + 1) r p x (λ j lo hi e. omega arith), past p (p + 1) r r x (λ j lo hi e. omega arith))

  -- row r stays as it is once its turn as row p has come
  met_stays : (r : ℕ) (x : S) → r ≤ n → get (turns 0 n (met n turn) x) r ≡ get (turns 0 r (met n turn) x) r
  met_stays r x h =
      let y = turns 0 r (met n turn) x in
      ap (λ (z : S). get z r) (turns_join 0 r n (met n turn) x (omega arith) h)
      ∙ turns_keeps (λ z. get z r ≡ get y r) r n (met n turn) (λ j z lo hi e. met_early j r z lo ∙ e) y refl

  record Stage (x : S) (r k : ℕ) (y : S) (v : T) : Type 0 where
    pub same : y ≡ turns 0 k (met n turn) x
    pub ok : Ok y
    pub row : get y r ≡ v

  pub met_row : (r : ℕ) (x : S) → r < n → Ok x → get (turns 0 n (met n turn) x) r ≡ turns 0 r (λ p v. g p r (get (turns 0 n (met n turn) x) p) v) (get x r)
  met_row r x h o =
      let whole = turns 0 n (met n turn) x in
      let start : Stage x r 0 x (get x r) = record { same = sym (turns_done 0 0 (met n turn) x (omega arith)); ok = o; row = refl } in
      let end : Stage x r r (turns 0 r (met n turn) x) (turns 0 r (λ p v. g p r (get whole p) v) (get x r)) =
      turns_along (Stage x r) (met n turn) (λ p v. g p r (get whole p) v) 0 r (omega arith)
      (λ k y v lo hi s. record {
        same = ap (met n turn k) s.same ∙ sym (turns_last 0 k (met n turn) x (omega arith));
        ok = met_ok k y s.ok;
        row = met_later k r y hi h s.ok ∙ rw (s.row, s.same, met_stays k x (omega arith));
      })
      start in
      met_stays r x (omega arith) ∙ end.row

-- ---- both eliminations, row by row

record Held : Type 0 where
  pub cells : List Float
  pub own : Equation

abbrev held : System → ℕ → Held
held s r = record { cells = line s.lines r; own = row s.rows r }

abbrev held_less : ℕ → ℕ → ℕ → Held → Held → Held
held_less n p q top v =
    let f = quotient (cell v.cells p) top.own.pivot in
    let l = line_less n p f top.cells v.cells in
    record { cells = l; own = record { pivot = cell l q; right = less v.own.right f top.own.right } }

system_meets : (n : ℕ) → Meets n (λ (s : System). (n ≤ length s.lines) × (n ≤ length s.rows)) held (row_less n) (held_less n)
unfolding row_less
system_meets n = record {
  keeps = λ p q s o. (rw length-set o.0, rw length-set o.1);
  here = λ p q s h o.
      let i : q < length s.lines = omega (arith, o.0) in
      let k : q < length s.rows = omega (arith, o.1) in
      rw (get_or-set_same s.lines q _ [], get_or-set_same s.rows q);
  other = λ p q r s d. rw (get_or-set_other s.lines q r _ [] d, get_or-set_other s.rows q r _ _ d);
}

table_meets : (base n : ℕ) → Meets n (λ (a : List (List Float)). base + n ≤ length a) (λ a r. line a (base + r)) (row_factored base n) (λ p q. line_factored n p)
unfolding row_factored
table_meets base n = record {
  keeps = λ p q a o. rw length-set o;
  here = λ p q a h o. get_or-set_same a (base + q) _ [] (omega arith);
  other = λ p q r a d. get_or-set_other a (base + q) (base + r) _ [] (λ e. d (omega arith));
}

-- ---- one line
module _ (n p : ℕ) (f : Float) (top own : List Float) where
  less_length : length (line_less n p f top own) ≡ length own
  unfolding line_less
  less_length = turns_length nan (λ c x. less x f (cell top c)) (p + 1) n own

  less_after : (c : ℕ) → p < c → c < n → n ≤ length own → cell (line_less n p f top own) c ≡ less (cell own c) f (cell top c)
  unfolding line_less
  less_after c l h k = turns_at nan (λ c x. less x f (cell top c)) (p + 1) n own c (omega arith) h (omega arith)

  less_before : (c : ℕ) → c ≤ p → cell (line_less n p f top own) c ≡ cell own c
  unfolding line_less
  less_before c l = turns_before nan (λ c x. less x f (cell top c)) (p + 1) n own c (omega arith)

pub factored_length : (n p : ℕ) (top own : List Float) → length (line_factored n p top own) ≡ length own
unfolding line_factored
factored_length n p top own = length-set (line_less n p (multiplier p top own) top own) p _ ∙ less_length n p _ top own

-- row r after it has met k rows: as it is stated, and in the table
record Beside (n : ℕ) (s : System) (r k : ℕ) (v : Held) (l : List Float) : Type 0 where
  pub wide : n ≤ length v.cells
  pub long : n ≤ length l
  pub cells : (c : ℕ) → k ≤ c → c < n → cell l c ≡ cell v.cells c
  pub pivot : v.own.pivot ≡ cell v.cells r
  pub right : v.own.right ≡ turns 0 k (λ p t. less t (cell l p) (final_right n s p)) (row s.rows r).right

module _ {n : ℕ} {s : System} {r : ℕ} (k : ℕ) (top l : List Float) (v : Held) (h : k < n) (t : Factors n s k top) (b : Beside n s r k v l) where
  abbrev f : Float
  f = quotient (cell v.cells k) (row (eliminated n s).rows k).pivot

  same : multiplier k top l ≡ f
  same = rw (b.cells k (omega arith) h, t.pivot)

  abbrev new : List Float
  new = line_factored n k top l

  new_here : cell new k ≡ f
  unfolding line_factored
  new_here = get_or-set_same (line_less n k (multiplier k top l) top l) k _ nan (omega (arith, less_length n k (multiplier k top l) top l, b.long)) ∙ same

  new_before : (c : ℕ) → c < k → cell new c ≡ cell l c
  unfolding line_factored
  new_before c i = get_or-set_other (line_less n k (multiplier k top l) top l) k c _ nan (λ e. omega arith) ∙ less_before n k _ top l c (omega arith)

  new_after : (c : ℕ) → k + 1 ≤ c → c < n → cell new c ≡ cell (held_less n k r (held (eliminated n s) k) v).cells c
  unfolding line_factored
  new_after c i j =
      get_or-set_other (line_less n k (multiplier k top l) top l) k c _ nan (λ e. omega arith)
      ∙ less_after n k _ top l c (omega arith) j b.long
      ∙ rw (same, b.cells c (omega arith) j, t.cells c (omega arith) j)
      (sym (less_after n k f (line (eliminated n s).lines k) v.cells c (omega arith) j b.wide))

  new_right : less v.own.right f (final_right n s k) ≡ turns 0 (k + 1) (λ p t. less t (cell new p) (final_right n s p)) (row s.rows r).right
  new_right =
      rw (b.right, sym new_here)
      (ap (λ (x : Float). less x (cell new k) (final_right n s k)) (turns_cong 0 k _ _ (row s.rows r).right (λ p x lo hi. ap (λ (y : Float). less x y (final_right n s p)) (sym (new_before p hi))))
      ∙ sym (turns_last 0 k (λ p t. less t (cell new p) (final_right n s p)) (row s.rows r).right (omega arith)))

  beside_next : Beside n s r (k + 1) (held_less n k r (held (eliminated n s) k) v) new
  beside_next = record {
    wide = rw (less_length n k f (line (eliminated n s).lines k) v.cells) b.wide;
    long = rw (factored_length n k top l) b.long;
    cells = new_after;
    pivot = refl;
    right = new_right;
  }

-- ---- all rows
module _ (base n : ℕ) (a : List (List Float)) (room : base + n ≤ length a) (wide : (p : ℕ) → p < n → n ≤ length (line a (base + p)))
    (s : System) (o : Of n (λ p. line a (base + p)) s) where
  stated_row : (r : ℕ) → r < n → held (eliminated n s) r ≡ turns 0 r (λ p v. held_less n p r (held (eliminated n s) p) v) (held s r)
  unfolding eliminated all_less
  stated_row r h = met_row (system_meets n) r s h (o.roomy.lines, o.roomy.rows)

  table_row : (r : ℕ) → r < n → line (factored base n a) (base + r) ≡ turns 0 r (λ p l. line_factored n p (line (factored base n a) (base + p)) l) (line a (base + r))
  unfolding factored all_factored
  table_row r h = met_row (table_meets base n) r a h room

  row_of_lem : (r : ℕ) → r < n → ((p : ℕ) → p < r → Factors n s p (line (factored base n a) (base + p)))
      → Factors n s r (line (factored base n a) (base + r))
  row_of_lem r h all =
      let end : Beside n s r r (turns 0 r (λ p v. held_less n p r (held (eliminated n s) p) v) (held s r)) (turns 0 r (λ p l. line_factored n p (line (factored base n a) (base + p)) l) (line a (base + r))) =
      turns_along (Beside n s r) (λ p v. held_less n p r (held (eliminated n s) p) v) (λ p l. line_factored n p (line (factored base n a) (base + p)) l) 0 r (omega arith)
      (λ k v l lo hi b. beside_next k (line (factored base n a) (base + k)) l v (omega arith) (all k hi) b)
      (record { wide = o.roomy.line r h; long = wide r h; cells = λ c lo hi. o.cells r c h hi; pivot = o.pivot r h; right = sym (turns_done 0 0 _ _ (omega arith)) }) in
      let there : Beside n s r r (held (eliminated n s) r) (line (factored base n a) (base + r)) = rw (stated_row r h, table_row r h) end in
      record { cells = there.cells; pivot = there.pivot ∙ sym (there.cells r (omega arith) h); right = there.right }

  rows_to : (k r : ℕ) → r < k → r < n → Factors n s r (line (factored base n a) (base + r))
  rows_to zero r l h = absurd (omega arith)
  rows_to (suc k) r l h = row_of_lem r h (λ p q. rows_to k p (omega arith) (omega arith))

pub square_serves : (base n : ℕ) (a : List (List Float)) → Square a → base + n ≤ 32 → Serves base n (λ p. line a (base + p)) (factored base n a)
square_serves base n a q h =
    record { at = λ s o r l. rows_to base n a (omega (arith, q.lines)) (λ p m. omega (arith, q.line (base + p) (omega arith))) s o n r l l }
