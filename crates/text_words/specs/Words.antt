-- The words of the study text. Assumes nothing.
use Rattle.std.specs.Prelude.{Option, Some, None, ◌≤◌, ◌≡◌, ◌&&◌, ◌∷◌}
use Rattle.std.specs.Cmp.Lexicographic.{pointwise}
use Rattle.whole.specs.Plain.{ℕ, suc, refl, sym, ◌∙◌, ap, Bool, cond, List, []}
use Rattle.whole.specs.Plain.{eqb, get_or, length, ne_eqb, arith}
use Rattle.whole.specs.Plain.{same_bytes}
use Rattle.whole.specs.Truths.{and-false}
use Rattle.paper.specs.Rows.{bytes, kinds, word_of}
use Rattle.paper.specs.Text.{place_of}
use Rattle.paper.specs.declared.kinds.Kind.{Kind}
use Rattle.paper.specs.Kinds.{number}

-- two words by `==`
pub same_is : (a w : List ℕ) → same_bytes a w ≡ pointwise eqb a w
unfolding same_bytes
same_is [] [] = refl
same_is [] (y ∷ w) = refl
same_is (x ∷ a) [] = refl
same_is (x ∷ a) (y ∷ w) = ap (λ (b : Bool). eqb x y && b) (same_is a w)

-- ---- the one kind whose word begins with two bytes, in words of a length; the second is 0 where there is none

pub record Only (b c n k : ℕ) : Type 0 where
  pub most : k ≤ 10
  pub only : (t : List ℕ) → suc (length t) ≡ n → get_or t 0 0 ≡ c → place_of 0 kinds (b ∷ t) ≡ cond (same_bytes (word_of k) (b ∷ t)) k 10

-- a byte that begins none of the words in capitals
pub record Other (b : ℕ) : Type 0 where
  pub not_R : 82 ≡ b → ⊥
  pub not_L : 76 ≡ b → ⊥
  pub not_C : 67 ≡ b → ⊥
  pub not_S : 83 ≡ b → ⊥
  pub not_V : 86 ≡ b → ⊥
  pub not_I : 73 ≡ b → ⊥

module _ {b c n : ℕ} where
  pub only_R : b ≡ 82 → Only b c n 1
  unfolding place_of kinds bytes same_bytes word_of
  only_R e = record { most = omega arith; only = λ t l s. rw e }

  pub only_C : b ≡ 67 → Only b c n 3
  unfolding place_of kinds bytes same_bytes word_of
  only_C e = record { most = omega arith; only = λ t l s. rw e }

  pub only_IS : b ≡ 73 → Only b c n 7
  unfolding place_of kinds bytes same_bytes word_of
  only_IS e = record { most = omega arith; only = λ t l s. rw e }

  -- L and LINE begin alike
  pub only_L : b ≡ 76 → n ≡ 1 → Only b c n 2
  unfolding place_of kinds bytes same_bytes word_of
  only_L e o =
      let alone : (t : List ℕ) → suc (length t) ≡ n → place_of 0 kinds (76 ∷ t) ≡ cond (same_bytes (word_of 2) (76 ∷ t)) 2 10 = elim [ [] ↦ λ l. refl | x ∷ t ↦ λ l. absurd (omega arith) ] in
      record { most = omega arith; only = λ t l s. rw e (alone t l) }

  pub only_LINE : b ≡ 76 → (n ≡ 1 → ⊥) → Only b c n 4
  unfolding place_of kinds bytes same_bytes word_of
  only_LINE e o =
      let more : (t : List ℕ) → suc (length t) ≡ n → place_of 0 kinds (76 ∷ t) ≡ cond (same_bytes (word_of 4) (76 ∷ t)) 4 10 = elim [ [] ↦ λ l. absurd (o (omega arith)) | x ∷ t ↦ λ l. refl ] in
      record { most = omega arith; only = λ t l s. rw e (more t l) }

  -- and SW and SWT, which differ in their lengths
  pub only_SWT : b ≡ 83 → n ≡ 3 → Only b c n 9
  unfolding place_of kinds bytes same_bytes word_of
  only_SWT e o = record { most = omega arith; only = λ t l s. rw e (three t l) }
    where
      three : (t : List ℕ) → suc (length t) ≡ n → place_of 0 kinds (83 ∷ t) ≡ cond (same_bytes (word_of 9) (83 ∷ t)) 9 10
      three [] l = absurd (omega arith)
      three (x ∷ []) l = absurd (omega arith)
      three (x ∷ y ∷ []) l = simp and-false
      three (x ∷ y ∷ v ∷ t) l = absurd (omega arith)

  pub only_SW : b ≡ 83 → (n ≡ 3 → ⊥) → Only b c n 5
  unfolding place_of kinds bytes same_bytes word_of
  only_SW e o = record { most = omega arith; only = λ t l s. rw e (other t l) }
    where
      other : (t : List ℕ) → suc (length t) ≡ n → place_of 0 kinds (83 ∷ t) ≡ cond (same_bytes (word_of 5) (83 ∷ t)) 5 10
      other [] l = refl
      other (x ∷ []) l = simp and-false
      other (x ∷ y ∷ []) l = absurd (o (omega arith))
      other (x ∷ y ∷ v ∷ t) l = simp and-false

  -- and VS and VC
  pub only_VC : b ≡ 86 → c ≡ 67 → Only b c n 8
  unfolding place_of kinds bytes same_bytes word_of
  only_VC e o =
      let more : (t : List ℕ) → get_or t 0 0 ≡ c → place_of 0 kinds (86 ∷ t) ≡ cond (same_bytes (word_of 8) (86 ∷ t)) 8 10 = elim [ [] ↦ λ s. refl | x ∷ t ↦ λ s. rw (s ∙ o) ] in
      record { most = omega arith; only = λ t l s. rw e (more t s) }

  pub only_VS : b ≡ 86 → (c ≡ 67 → ⊥) → Only b c n 6
  unfolding place_of kinds bytes same_bytes word_of
  only_VS e o =
      let more : (t : List ℕ) → get_or t 0 0 ≡ c → place_of 0 kinds (86 ∷ t) ≡ cond (same_bytes (word_of 6) (86 ∷ t)) 6 10
      = elim [ [] ↦ λ s. refl | x ∷ t ↦ λ s. rw (ne_eqb 67 x (λ (q : 67 ≡ x). o (sym s ∙ sym q))) ] in
      record { most = omega arith; only = λ t l s. rw e (more t s) }

  pub only_study : Other b → Only b c n 0
  unfolding place_of kinds bytes same_bytes word_of
  only_study o = record { most = omega arith; only = λ t l s. rw (ne_eqb 82 b o.not_R, ne_eqb 76 b o.not_L, ne_eqb 67 b o.not_C, ne_eqb 83 b o.not_S, ne_eqb 86 b o.not_V, ne_eqb 73 b o.not_I) }

  pub only_none : Other b → (115 ≡ b → ⊥) → Only b c n 10
  unfolding place_of kinds bytes same_bytes word_of
  only_none o s = record { most = omega arith; only = λ t l q. rw (ne_eqb 115 b s, ne_eqb 82 b o.not_R, ne_eqb 76 b o.not_L, ne_eqb 67 b o.not_C, ne_eqb 83 b o.not_S, ne_eqb 86 b o.not_V, ne_eqb 73 b o.not_I) }

-- ---- the kind that a word names

pub kind_none : (w : List ℕ) → length w ≡ 0 → 10 ≡ place_of 0 kinds w
unfolding place_of kinds bytes same_bytes
kind_none [] e = refl
kind_none (b ∷ w) e = absurd (omega arith)

module _ (w : List ℕ) (k : ℕ) (h : length w ≡ 0 → ⊥) {c : ℕ} (s : c ≡ get_or w 1 0) (o : Only (get_or w 0 0) c (length w) k) where
  kind_at : place_of 0 kinds w ≡ cond (same_bytes (word_of k) w) k 10
  kind_at = go w h s o
    where
      go : (w : List ℕ) → (length w ≡ 0 → ⊥) → c ≡ get_or w 1 0 → Only (get_or w 0 0) c (length w) k → place_of 0 kinds w ≡ cond (same_bytes (word_of k) w) k 10
      go [] h s o = absurd (h refl)
      go (b ∷ w) h s o = o.only w refl (sym s)

  pub kind_same : (t : Bool) → t ≡ same_bytes (word_of k) w → cond t k 10 ≡ place_of 0 kinds w
  kind_same t e = rw (kind_at, e)

-- a kind by name, or none, where a word may begin like its own
abbrev pub number_or_none : Option Kind → ℕ
number_or_none None = 10
number_or_none (Some k) = number k
