-- A pass over an area's own legs is a pass over the rows: what each row's turn does is what the turns of its own ends do. Assumes nothing.
use Rattle.std.specs.Prelude.{◌+◌, ◌-◌, ◌*◌, ◌≤◌, ◌<◌, ◌≡◌, ◌∷◌}
use Rattle.whole.specs.Plain.{ℕ, zero, suc, refl, sym, ap, ◌∙◌, Bool, true, false, cond}
use Rattle.whole.specs.Plain.{List, [], map, length, arith, Words, numbers, keep, fold}
use Rattle.whole.specs.Folds.{fold_map}
use Rattle.whole.specs.Turns.{turns}
use Rattle.whole.specs.TurnLaws.{turns_fold}
use Rattle.paper.specs.Areas.{Net}
use Rattle.plan_ends.specs.Own.{own_end, own_ends}
use Rattle.step_legs.specs.declared.Wire.{Wire}
use Rattle.step_own.specs.Ends.{wire_of}

module _ {A : Type 0} where
  -- what is left out does nothing
  kept : (p : ℕ → Bool) (F : ℕ → A → A) (l : List ℕ) (s : A) → fold (λ x e. F e x) s (keep p l) ≡ fold (λ x e. cond (p e) (F e x) x) s l
  unfolding fold keep
  kept p F [] s = refl
  kept p F (e ∷ l) s = by (p e) (λ x. kept p F l x)
    where
      by : (b : Bool) → ((x : A) → fold (λ x d. F d x) x (keep p l) ≡ fold (λ x d. cond (p d) (F d x) x) x l) → fold (λ x d. F d x) s (cond b (e ∷ keep p l) (keep p l)) ≡ fold (λ x d. cond (p d) (F d x) x) (cond b (F e s) s) l
      by true more = more (F e s)
      by false more = more s

  -- two by two
  pairs : (D g : ℕ → A → A) (i n : ℕ) (s : A) → ((j : ℕ) (x : A) → i ≤ j → j < i + n → g j x ≡ D (2 * j + 1) (D (2 * j) x)) → fold (λ x e. D e x) s (numbers (2 * i) (2 * n)) ≡ fold (λ x j. g j x) s (numbers i n)
  unfolding fold numbers
  pairs D g i zero s h = refl
  pairs D g i (suc n) s h =
      let e : 2 * suc n ≡ suc (suc (2 * n)) = omega arith in
      let p : suc (2 * i) ≡ 2 * i + 1 = omega arith in
      let q : suc (suc (2 * i)) ≡ 2 * suc i = omega arith in
      rw (e, q, p)
      (ap (λ (x : A). fold (λ y d. D d y) x (numbers (2 * suc i) (2 * n))) (sym (h i s (omega arith) (omega arith)))
      ∙ pairs D g (suc i) n (g i s) (λ j x lo hi. h j x (omega arith) (omega arith)))

module _ (N : Net) (a k : ℕ) (recs froms tos : Words) {A : Type 0} (F : Wire → A → A) where
  -- the turn of end e
  abbrev pub turn : ℕ → A → A
  turn e x = cond (own_end N a e) (F (wire_of N k recs froms tos e) x) x

  pub pass : (g : ℕ → A → A) (s : A) → ((i : ℕ) (x : A) → i < length N.rows → g i x ≡ turn (2 * i + 1) (turn (2 * i) x))
      → fold (λ x w. F w x) s (map (wire_of N k recs froms tos) (own_ends N a)) ≡ turns 0 (length N.rows) g s
  unfolding own_ends
  pass g s h =
      let y : length N.rows - 0 ≡ length N.rows = omega arith in
      fold_map (λ x w. F w x) (wire_of N k recs froms tos) s (own_ends N a)
      ∙ kept (own_end N a) (λ e. F (wire_of N k recs froms tos e)) (numbers 0 (2 * length N.rows)) s
      ∙ pairs turn g 0 (length N.rows) s (λ j x lo hi. h j x (omega arith))
      ∙ sym (rw y at (turns_fold 0 (length N.rows) g s))
