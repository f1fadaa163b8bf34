-- Tests of memory's words by their places: part by part, and of the records section by section. Assumes nothing.
use Rattle.std.specs.Prelude.{◌+◌, ◌-◌, ◌≤◌, ◌<◌, ◌≡◌, ◌&&◌, ◌∷◌}
use Rattle.whole.specs.Plain.{ℕ, zero, suc, refl, sym, ap, ◌∙◌, Bool, true, and_assoc}
use Rattle.whole.specs.Plain.{and_comm, List, [], eqb, length, get_or, take, drop, replicate, get_or-replicate}
use Rattle.whole.specs.Plain.{length-take, length-drop, length-replicate, get_or-eq_default, get_or-take, get_or-drop}
use Rattle.whole.specs.Plain.{eqb-true, arith, Words, z, word, up_to, every, within, sum, numbers}
use Rattle.whole.specs.Folds.{and_left, and_right, every_append, numbers_append}
use Rattle.whole.specs.Within.{none_same}
use Rattle.paper.specs.Records.{Section}
use Rattle.call_state.specs.Judged.{part_formed, section_formed}

-- ---- a test of each element, by its place

pub every_places : {A : Type 0} (d : A) (p : A → Bool) (q : ℕ → Bool) (l : List A) (k : ℕ)
    → ((j : ℕ) → j < length l → q (k + j) ≡ p (get_or l j d)) → every p l ≡ every q (numbers k (length l))
unfolding every numbers
every_places d p q [] k e = refl
every_places d p q (a ∷ l) k e =
    let here : q k ≡ p a = ap q (omega arith) ∙ e 0 (omega arith) in
    rw (here, every_places d p q l (suc k) (λ j h. ap q (omega arith) ∙ e (suc j) (omega arith)))

-- each word against its end
pub within_places : (es : List ℕ) (q : ℕ → Bool) (w : Words) (k : ℕ) → ((j : ℕ) → j < length w → q (k + j) ≡ up_to (get_or es j 0) (word w j)) → within es w ≡ every q (numbers k (length w))
unfolding within every numbers
within_places [] q [] k e = refl
within_places [] q (x ∷ w) k e =
    let here : q k ≡ up_to 0 x = ap q (omega arith) ∙ e 0 (omega arith) in
    rw (none_same x, here, within_places [] q w (suc k) (λ j i. ap q (omega arith) ∙ e (suc j) (omega arith)))
within_places (m ∷ es) q [] k e = refl
within_places (m ∷ es) q (x ∷ w) k e =
    let here : q k ≡ up_to m x = ap q (omega arith) ∙ e 0 (omega arith) in
    rw (here, within_places es q w (suc k) (λ j i. ap q (omega arith) ∙ e (suc j) (omega arith)))

-- two tests of each element
pub every_both : {A : Type 0} (p q : A → Bool) (l : List A) → every (λ a. p a && q a) l ≡ (every p l && every q l)
unfolding every
every_both p q [] = refl
every_both p q (a ∷ l) = rw (every_both p q l) (simp (and_assoc, and_comm))

-- ---- a test of each of some numbers

every_split : (p : ℕ → Bool) (i m n : ℕ) → every p (numbers i (m + n)) ≡ (every p (numbers i m) && every p (numbers (i + m) n))
every_split p i m n = ap (every p) (numbers_append i m n) ∙ every_append p (numbers i m) (numbers (i + m) n)

-- of n numbers from a on, by how far they are from a
pub every_from : (p q : ℕ → Bool) (a i n : ℕ) → ((j : ℕ) → i ≤ j → j < i + n → p (a + j) ≡ q j) → every p (numbers (a + i) n) ≡ every q (numbers i n)
unfolding every numbers
every_from p q a i zero h = refl
every_from p q a i (suc n) h =
    let e : suc (a + i) ≡ a + suc i = omega arith in
    rw (h i (omega arith) (omega arith), e, every_from p q a (suc i) n (λ j l u. h j (omega arith) (omega arith)))

-- ---- parts

module _ (w : Words) where
  part_is : (from n most : ℕ) → from + n ≤ length w → every (λ j. up_to most (word w (from + j))) (numbers 0 n) ≡ part_formed w from (from + n) most
  unfolding part_formed
  part_is from n most h =
      let k = from + n - from in
      let l = take k (drop from w) in
      let e : length l ≡ n = simp (length-take, length-drop) (omega arith) in
      sym (rw e at (every_places z (up_to most) (λ j. up_to most (word w (from + j))) l 0
      (λ j i. ap (up_to most) (ap (word w) (omega arith) ∙ sym (get_or-take k (drop from w) j z (omega arith) ∙ get_or-drop from w j z)))))

  -- n words from `from` on, held to their ends
  module _ (e : ℕ → ℕ) (from : ℕ) where
    abbrev pub held : ℕ → Bool
    held j = up_to (e j) (word w j)

    same_part : (i n most : ℕ) → from + i + n ≤ length w → ((j : ℕ) → i ≤ j → j < i + n → e (from + j) ≡ most) → every held (numbers (from + i) n) ≡ part_formed w (from + i) (from + i + n) most
    same_part i n most h f =
        let o : from + i ≡ from + i + 0 = omega arith in
        ap (λ (k : ℕ). every held (numbers k n)) o
        ∙ every_from held (λ j. up_to most (word w (from + i + j))) (from + i) 0 n
        (λ j _ u. let q : from + i + j ≡ from + (i + j) = omega arith in ap (λ (m : ℕ). up_to m (word w (from + i + j))) (ap e q ∙ f (i + j) (omega arith) (omega arith)))
        ∙ part_is (from + i) n most h

    -- past the first `used` none is
    pub used_part : (used end : ℕ) → from + used ≤ end → end ≤ length w → ((j : ℕ) → used ≤ j → from + j < end → e (from + j) ≡ 0)
        → every held (numbers from (end - from)) ≡ (every held (numbers from used) && part_formed w (from + used) end 0)
    used_part used end h l f =
        let k = end - from - used in
        let s : end - from ≡ used + k = omega arith in
        let t : from + used + k ≡ end = omega arith in
        ap (λ (n : ℕ). every held (numbers from n)) s ∙ every_split held from used k
        ∙ ap (λ (b : Bool). every held (numbers from used) && b) (rw t at (same_part used k 0 (omega arith) (λ j x y. f j x (omega arith))))

    -- and those have one end
    pub one_end : (used end most : ℕ) → from + used ≤ end → end ≤ length w → ((j : ℕ) → j < used → e (from + j) ≡ most) → ((j : ℕ) → used ≤ j → from + j < end → e (from + j) ≡ 0)
        → every held (numbers from (end - from)) ≡ section_formed w from used end most
    unfolding section_formed
    one_end used end most h l g f =
        let o : from + 0 ≡ from = omega arith in
        used_part used end h l f
        ∙ ap (λ (b : Bool). b && part_formed w (from + used) end 0) (rw o at (same_part 0 used most (omega arith) (λ j _ u. g j (omega arith))))

  -- a store: so many words of one end, the others zero
  pub only_section : (used end most : ℕ) → used ≤ end → length w ≡ end → within (replicate used most) w ≡ section_formed w 0 used end most
  only_section used end most h l =
      let e : ℕ → ℕ = λ j. get_or (replicate used most) j 0 in
      let n : length w ≡ end - 0 = omega arith in
      within_places (replicate used most) (held e 0) w 0 (λ j i. ap (held e 0) (omega arith))
      ∙ ap (λ (k : ℕ). every (held e 0) (numbers 0 k)) n
      ∙ one_end e 0 used end most (omega arith) (omega arith)
      (λ j i. get_or-replicate used (0 + j) most 0 (omega arith)) (λ j i _. get_or-eq_default (replicate used most) 0 (rw (length-replicate used most) (omega arith)))

-- ---- section after section

-- each section starts where the last one has ended
unfoldable pub follows : ℕ → List Section → Bool
follows e [] = true
follows e (s ∷ ss) = eqb e s.start && follows (s.start + s.words) ss

-- the words of each, and n past the last
pub covered : (p : ℕ → Bool) (e : ℕ) (ss : List Section) (n : ℕ) → follows e ss ≡ true
    → every p (numbers e (sum (λ s. s.words) ss + n)) ≡ (every (λ s. every p (numbers s.start s.words)) ss && every p (numbers (e + sum (λ s. s.words) ss) n))
unfolding follows every sum
covered p e [] n f = let q : 0 + n ≡ n = omega arith in let o : e + 0 ≡ e = omega arith in rw (q, o)
covered p e (s ∷ ss) n f =
    let q : e ≡ s.start = eqb-true e s.start (and_left (eqb e s.start) _ f) in
    let m = sum (λ s. s.words) ss in
    let o : s.start + (s.words + m) ≡ s.start + s.words + m = omega arith in
    let r : s.words + m + n ≡ s.words + (m + n) = omega arith in
    rw (q, r, o)
    (every_split p s.start s.words (m + n)
    ∙ ap (λ (b : Bool). every p (numbers s.start s.words) && b) (covered p (s.start + s.words) ss n (and_right (eqb e s.start) _ f))
    ∙ sym (and_assoc (every p (numbers s.start s.words)) _ _))
