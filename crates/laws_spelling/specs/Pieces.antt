-- Pieces parted by a byte, and put together again. Assumes nothing.
use Rattle.std.specs.Prelude.{◌+◌, ◌*◌, ◌≤◌, ◌<◌, ◌≡◌, ◌≢◌, ◌∷◌, ◌++◌}
use Rattle.whole.specs.Plain.{ℕ, refl, sym, ap, ◌∙◌, Bool, true, false, not, List, []}
use Rattle.whole.specs.Plain.{eqb, ltb, length, length-append, eqb-true, eq-eqb, ne_eqb, ltb-true, not-true}
use Rattle.whole.specs.Plain.{arith, every, lead, final}
use Rattle.whole.specs.Folds.{and_left, and_right, both, every_append}
use Rattle.paper.specs.Text.{split, cut}

-- the pieces, with one byte between each two
unfoldable pub join : ℕ → List (List ℕ) → List ℕ
join at [] = []
join at (p ∷ []) = p
join at (p ∷ (q ∷ ps)) = p ++ (at ∷ join at (q ∷ ps))

-- no byte of it is that one
abbrev pub free : ℕ → List ℕ → Bool
free at p = every (λ b. not (eqb b at)) p

cut_some : (x : Bool) (b : ℕ) (ps : List (List ℕ)) → 0 < length (cut x b ps)
cut_some true b ps = omega arith
cut_some false b [] = omega arith
cut_some false b (p ∷ ps) = omega arith

pub split_some : (at : ℕ) (s : List ℕ) → 0 < length (split at s)
unfolding split
split_some at [] = omega arith
split_some at (b ∷ t) = cut_some (eqb b at) b (split at t)

join_push : (at b : ℕ) (p : List ℕ) (ps : List (List ℕ)) → join at ((b ∷ p) ∷ ps) ≡ b ∷ join at (p ∷ ps)
unfolding join
join_push at b p [] = refl
join_push at b p (q ∷ ps) = refl

join_cut : (at : ℕ) (x : Bool) (b : ℕ) (ps : List (List ℕ)) → 0 < length ps → (x ≡ true → b ≡ at) → join at (cut x b ps) ≡ b ∷ join at ps
unfolding join
join_cut at true b [] h e = absurd (omega arith)
join_cut at true b (p ∷ ps) h e = ap (λ (c : ℕ). c ∷ join at (p ∷ ps)) (sym (e refl))
join_cut at false b [] h e = absurd (omega arith)
join_cut at false b (p ∷ ps) h e = join_push at b p ps

-- ---- every text is its pieces put together

pub join_split : (at : ℕ) (s : List ℕ) → join at (split at s) ≡ s
unfolding split join
join_split at [] = refl
join_split at (b ∷ t) = join_cut at (eqb b at) b (split at t) (split_some at t) (λ e. eqb-true b at e) ∙ ap (λ (s : List ℕ). b ∷ s) (join_split at t)

-- ---- and pieces without the byte are found again

split_free : (at : ℕ) (p : List ℕ) → free at p ≡ true → split at p ≡ p ∷ []
unfolding split every
split_free at [] e = refl
split_free at (b ∷ p) e =
    rw (not-true (eqb b at) (and_left (not (eqb b at)) (free at p) e), split_free at p (and_right (not (eqb b at)) (free at p) e))

split_piece : (at : ℕ) (p s : List ℕ) → free at p ≡ true → split at (p ++ (at ∷ s)) ≡ p ∷ split at s
unfolding split every
split_piece at [] s e = rw (eq-eqb at at refl)
split_piece at (b ∷ p) s e =
    rw (not-true (eqb b at) (and_left (not (eqb b at)) (free at p) e), split_piece at p s (and_right (not (eqb b at)) (free at p) e))

pub split_join : (at : ℕ) (ps : List (List ℕ)) → 0 < length ps → every (free at) ps ≡ true → split at (join at ps) ≡ ps
unfolding join every
split_join at [] h e = absurd (omega arith)
split_join at (p ∷ []) h e = split_free at p (and_left (free at p) true e)
split_join at (p ∷ (q ∷ ps)) h e =
    split_piece at p (join at (q ∷ ps)) (and_left (free at p) (every (free at) (q ∷ ps)) e)
    ∙ ap (λ (l : List (List ℕ)). p ∷ l) (split_join at (q ∷ ps) (omega arith) (and_right (free at p) (every (free at) (q ∷ ps)) e))

-- another byte is in none of them and not between them
pub join_free : (at c : ℕ) (ps : List (List ℕ)) → at ≢ c → every (free c) ps ≡ true → free c (join at ps) ≡ true
unfolding join every
join_free at c [] h e = refl
join_free at c (p ∷ []) h e = and_left (free c p) true e
join_free at c (p ∷ (q ∷ ps)) h e =
    every_append (λ b. not (eqb b c)) p (at ∷ join at (q ∷ ps))
    ∙ both (and_left (free c p) (every (free c) (q ∷ ps)) e) (both (ap not (ne_eqb at c h)) (join_free at c (q ∷ ps) h (and_right (free c p) (every (free c) (q ∷ ps)) e)))

-- ---- how long

pub join_length : (at k : ℕ) (ps : List (List ℕ)) → 0 < length ps → every (λ p. ltb (length p) k) ps ≡ true → length (join at ps) < length ps * k
unfolding join every
join_length at k [] h e = absurd (omega arith)
join_length at k (p ∷ []) h e = let h = ltb-true (length p) k (and_left (ltb (length p) k) true e) in omega arith
join_length at k (p ∷ (q ∷ ps)) h e =
    let h = ltb-true (length p) k (and_left (ltb (length p) k) (every (λ p. ltb (length p) k) (q ∷ ps)) e) in
    let i = join_length at k (q ∷ ps) (omega arith) (and_right (ltb (length p) k) (every (λ p. ltb (length p) k) (q ∷ ps)) e) in
    omega (arith, length-append p (at ∷ join at (q ∷ ps)))

-- the first of them may have any length
pub join_first : (at k : ℕ) (w : List ℕ) (ps : List (List ℕ)) → every (λ p. ltb (length p) k) ps ≡ true → length (join at (w ∷ ps)) ≤ length w + length ps * k
unfolding join
join_first at k w [] e = omega arith
join_first at k w (p ∷ ps) e = omega (arith, length-append w (at ∷ join at (p ∷ ps)), join_length at k (p ∷ ps) (omega arith) e)

pub join_more : (at : ℕ) (p : List ℕ) (ps : List (List ℕ)) → 0 < length ps → join at (p ∷ ps) ≡ p ++ (at ∷ join at ps)
unfolding join
join_more at p [] h = absurd (omega arith)
join_more at p (q ∷ ps) h = refl

-- ---- the last piece

pub lead_last : {A : Type 0} (l : List A) (a : A) → lead (l ++ (a ∷ [])) ≡ l
unfolding lead
lead_last [] a = refl
lead_last (x ∷ []) a = refl
lead_last (x ∷ (y ∷ l)) a = ap (λ (m : List _). x ∷ m) (lead_last (y ∷ l) a)

pub final_last : {A : Type 0} (l : List A) (a d : A) → final d (l ++ (a ∷ [])) ≡ a
unfolding final
final_last [] a d = refl
final_last (x ∷ l) a d = final_last l a x

pub lead_final : {A : Type 0} (l : List A) (d : A) → 0 < length l → lead l ++ (final d l ∷ []) ≡ l
unfolding lead final
lead_final [] d h = absurd (omega arith)
lead_final (x ∷ []) d h = refl
lead_final (x ∷ (y ∷ l)) d h = ap (λ (m : List _). x ∷ m) (lead_final (y ∷ l) x (omega arith))
