-- The lines of a text and the fields of a line, as a reader meets them: the bytes up to the next LF, or up to the next tab or LF. Assumes nothing.
use Rattle.std.specs.List.{position_or_len}
use Rattle.std.specs.Prelude.{position, Option, Some, None}
use Rattle.std.specs.Prelude.{◌+◌, ◌≤◌, ◌≡◌, ◌||◌, ◌∷◌}
use Rattle.whole.specs.Plain.{ℕ, suc, refl, sym, ◌∙◌, ap, Bool, true, false, not, cond, ltb, ltb-false, List, [], eqb}
use Rattle.whole.specs.Plain.{length, drop, take, eqb-true, arith, any}
use Rattle.whole.specs.Folds.{or_left, or_right}
use Rattle.paper.specs.Text.{LF, TAB, split, cut, push}

abbrev pub kept : Bool → ℕ → List ℕ → List ℕ
kept true b r = []
kept false b r = b ∷ r

-- the bytes before the first that stops
unfoldable pub before : (ℕ → Bool) → List ℕ → List ℕ
before stop [] = []
before stop (b ∷ t) = kept (stop b) b (before stop t)

-- and what is left from it on
abbrev pub rest : (ℕ → Bool) → List ℕ → List ℕ
rest stop s = drop (length (before stop s)) s

abbrev pub is_lF : ℕ → Bool
is_lF b = eqb b LF

unfoldable pub ends : ℕ → Bool
ends b = eqb b TAB || eqb b LF

abbrev pub line_of : List ℕ → List ℕ
line_of = before is_lF

abbrev pub field_of : List ℕ → List ℕ
field_of = before ends

abbrev pub ended : List ℕ → Bool
ended = any is_lF

abbrev pub starts_with : ℕ → List ℕ → Bool
starts_with b [] = false
starts_with b (c ∷ s) = eqb c b

-- the fields that follow, each after its tab
unfoldable pub fields_from : List ℕ → List (List ℕ)
fields_from [] = []
fields_from (b ∷ s) = cond (eqb b TAB) (split TAB (line_of s)) []

-- ---- lengths

module _ (stop : ℕ → Bool) where
  pub before_length : (s : List ℕ) → length (before stop s) ≤ length s
  unfolding before
  before_length [] = omega arith
  before_length (b ∷ t) = elim (stop b) as (λ e. length (kept e b (before stop t)) ≤ suc (length t)) [ true ↦ omega arith | false ↦ omega (arith, before_length t) ]

  -- the first byte that stops, as a place
  place_is : (s : List ℕ) → position_or_len stop s ≡ length (before stop s)
  unfolding before
  place_is [] = refl
  place_is (b ∷ t) = elim (stop b) as (λ e. cond (not e) (1 + position_or_len stop t) 0 ≡ length (kept e b (before stop t))) [ true ↦ refl | false ↦ omega (arith, place_is t) ]

  pub place_some : (s : List ℕ) (n : ℕ) → position stop s ≡ Some n → n ≡ length (before stop s)
  place_some s n e = go (ltb (position_or_len stop s) (length s)) e
    where
      go : (t : Bool) → ◌≡◌ {A = Option ℕ} (cond t (Some (position_or_len stop s)) None) (Some n) → n ≡ length (before stop s)
      go true q = let p : position_or_len stop s ≡ n = cc in sym p ∙ place_is s
      go false q = cc

  pub place_none : (s : List ℕ) → position stop s ≡ None → length s ≡ length (before stop s)
  place_none s e = omega (arith, go (ltb (position_or_len stop s) (length s)) refl e, place_is s, before_length s)
    where
      go : (t : Bool) → ltb (position_or_len stop s) (length s) ≡ t → ◌≡◌ {A = Option ℕ} (cond t (Some (position_or_len stop s)) None) None → length s ≤ position_or_len stop s
      go true f q = cc
      go false f q = ltb-false _ _ f

  pub before_taken : (s : List ℕ) → take (length (before stop s)) s ≡ before stop s
  unfolding before
  before_taken [] = refl
  before_taken (b ∷ t) =
      elim (stop b) as (λ e. take (length (kept e b (before stop t))) (b ∷ t) ≡ kept e b (before stop t)) [ true ↦ refl | false ↦ ap (λ (l : List ℕ). b ∷ l) (before_taken t) ]

-- ---- lines

pub split_ended : (s : List ℕ) → ended s ≡ true → split LF s ≡ line_of s ∷ split LF (drop (suc (length (line_of s))) s)
unfolding any split before
split_ended [] e = let c : ◌≡◌ {A = ℕ} 0 1 = cc in absurd (omega arith)
split_ended (b ∷ t) e =
    elim (eqb b LF) as (λ x. (x || ended t) ≡ true → cut x b (split LF t) ≡ kept x b (line_of t) ∷ split LF (drop (length (kept x b (line_of t))) t))
    [ true ↦ λ g. refl | false ↦ λ g. ap (push b) (split_ended t g) ] e

pub split_open : (s : List ℕ) → ended s ≡ false → split LF s ≡ s ∷ []
unfolding any split
split_open [] e = refl
split_open (b ∷ t) e = rw (or_left (eqb b LF) (ended t) e) (ap (push b) (split_open t (or_right (eqb b LF) (ended t) e)))

-- ---- fields

pub split_fields : (s : List ℕ) → split TAB (line_of s) ≡ field_of s ∷ fields_from (rest ends s)
unfolding split before ends fields_from
split_fields [] = refl
split_fields (b ∷ t) = by_test (eqb b TAB) refl (eqb b LF) refl (split_fields t)
  where
    by_test : (x : Bool) → eqb b TAB ≡ x → (y : Bool) → eqb b LF ≡ y → split TAB (line_of t) ≡ field_of t ∷ fields_from (rest ends t)
        → split TAB (kept (eqb b LF) b (line_of t)) ≡ kept (eqb b TAB || eqb b LF) b (field_of t) ∷ fields_from (drop (length (kept (eqb b TAB || eqb b LF) b (field_of t))) (b ∷ t))
    by_test true p true q ih = let x : b ≡ 9 = eqb-true b 9 p in let y : b ≡ 10 = eqb-true b 10 q in absurd (omega arith)
    by_test true p false q ih = rw (q, p) (rw p)
    by_test false p true q ih = rw (q, p) (rw p)
    by_test false p false q ih = rw (q, p) (ap (push b) ih)

-- the rest has the LF that the whole has, and the rest of its line
pub rest_ended : (s : List ℕ) → ended (rest ends s) ≡ ended s
unfolding any before ends
rest_ended [] = refl
rest_ended (b ∷ t) =
    elim (ends b) as (λ x. ends b ≡ x → ended (drop (length (kept x b (field_of t))) (b ∷ t)) ≡ (eqb b LF || ended t))
    [ true ↦ λ e. refl | false ↦ λ e. rw (or_right (eqb b TAB) (eqb b LF) e) (rest_ended t) ] refl

pub rest_line : (s : List ℕ) → length (field_of s) + length (line_of (rest ends s)) ≡ length (line_of s)
unfolding before ends
rest_line [] = refl
rest_line (b ∷ t) =
    elim (ends b) as (λ x. ends b ≡ x → length (kept x b (field_of t)) + length (line_of (drop (length (kept x b (field_of t))) (b ∷ t))) ≡ length (kept (eqb b LF) b (line_of t)))
    [ true ↦ λ e. omega arith | false ↦ λ e. rw (or_right (eqb b TAB) (eqb b LF) e) (omega (arith, rest_line t)) ] refl

-- and begins with a tab or an LF, or is empty
abbrev pub stops : List ℕ → Bool
stops [] = true
stops (b ∷ s) = ends b

pub rest_stops : (s : List ℕ) → stops (rest ends s) ≡ true
unfolding before
rest_stops [] = refl
rest_stops (b ∷ t) =
    elim (ends b) as (λ x. ends b ≡ x → stops (drop (length (kept x b (field_of t))) (b ∷ t)) ≡ true) [ true ↦ λ e. e | false ↦ λ e. rest_stops t ] refl
