-- What all lines of a step begin with, and how it is put. Assumes nothing.
use Rattle.std.specs.Prelude.{◌+◌, ◌-◌, ◌/◌, ◌≤◌, ◌≡◌, ◌∷◌, ◌++◌}
use Rattle.whole.specs.Plain.{ℕ, sym, ap, ◌∙◌, List, [], length, set, take, drop}
use Rattle.whole.specs.Plain.{length-append, length-set, sets, sets-eq, set-set, take_at, take_all, length-take-le}
use Rattle.whole.specs.Plain.{arith}
use Rattle.paper.specs.Limits as Limits
use Rattle.paper.specs.Text.{TAB}
use Rattle.paper.specs.Listing.{shown_nat}
use Rattle.list_digits.specs.Puts.{Puts, puts_length}
use Rattle.list_digits.specs.Decimal.{shown_least, shown_length}
use Rattle.list_line.specs.declared.Head.{Head}
use Rattle.list_line.specs.Quads.{four_of, four_of_lem, four_of_take, set_sets, sets_over}

-- behind the letter
abbrev pub step_text : ℕ → List ℕ
step_text k = TAB ∷ (shown_nat k ++ (TAB ∷ []))

abbrev pub head_text : ℕ → ℕ → List ℕ
head_text letter k = letter ∷ step_text k

abbrev pub text_of : Head → List ℕ
text_of h = head_text h.letter h.step

pub record Headed (h : Head) : Type 0 where
  pub size : h.size ≡ length (text_of h)
  pub turns : h.turn ≤ 4
  pub least : h.turn + 4 ≤ h.size
  pub most : h.size ≤ h.turn + 8
  pub first : h.first ≡ take 4 (text_of h)
  pub middle : h.middle ≡ take 4 (drop h.turn (text_of h))
  pub last : h.last ≡ take 4 (drop (h.size - 4) (text_of h))

pub head_put : {h : Head} → Headed h → (l : List ℕ) (at : ℕ)
    → sets (sets (sets l at h.first) (at + h.turn) h.middle) (at + h.size - 4) h.last ≡ sets l at (text_of h)
head_put {h} d l at =
    let t = text_of h in
    let e : at + h.size - 4 ≡ at + (h.size - 4) = omega (arith, d.least) in
    let a = h.size - 4 in
    rw (d.first, d.middle, d.last, e)
    (ap (λ (m : List ℕ). sets m (at + a) (take 4 (drop a t))) (sets_over t l at h.turn 4 d.turns (omega arith) (omega (arith, d.size, d.least)))
    ∙ sets_over t l at a (h.turn + 4) (omega (arith, d.most)) (omega (arith, d.least)) (omega (arith, d.size, d.least))
    ∙ ap (sets l at) (take_all (a + 4) t (omega (arith, d.size, d.least))))

-- ---- spelt in a buffer, whatever its letter

pub record Spelt (text : List ℕ) (k size : ℕ) : Type 0 where
  pub is : (letter : ℕ) → take size (set text 0 letter) ≡ head_text letter k
  pub room : size ≤ length text
  pub least : 4 ≤ size
  pub most : size ≤ 10

pub spelt : {l m : List ℕ} {k n : ℕ} → k ≤ Limits.steps_end → 10 ≤ length l → Puts l 1 (step_text k) n m → Spelt m k n
spelt {l} {m} {k} {n} h r p =
    let d = length-append (shown_nat k) (TAB ∷ []) in
    let s = shown_length 6 k (omega arith) (omega arith) in
    let size : n ≡ length (step_text k) + 1 = omega (arith, p.place) in
    let few : n ≤ 10 = omega (arith, size, d, s) in
    record {
      is = λ letter.
          ap (λ (x : List ℕ). take n (set x 0 letter)) p.buffer
          ∙ ap (take n) (set_sets (step_text k) l 0 1 letter (omega arith) ∙ sets-eq (head_text letter k) l 0 (omega (arith, size, few)))
          ∙ take_at (head_text letter k) (drop (0 + length (head_text letter k)) l) n (omega (arith, size));
      room = omega (arith, few, puts_length p);
      least = omega (arith, size, d, shown_least k);
      most = few;
    }

-- ---- and from there

module _ {text : List ℕ} {k size : ℕ} (s : Spelt text k size) (letter : ℕ) where
  pub spelt_again : Spelt (set text 0 letter) k size
  spelt_again =
      record {
        is = λ b. ap (take size) (set-set text 0 letter b) ∙ s.is b;
        room = rw (length-set text 0 letter) s.room;
        least = s.least;
        most = s.most;
      }

  long : length (head_text letter k) ≡ size
  long = ap length (sym (s.is letter)) ∙ length-take-le size (set text 0 letter) spelt_again.room

  pub spelt_four : (j : ℕ) → j + 4 ≤ size → four_of (set text 0 letter) j ≡ take 4 (drop j (head_text letter k))
  spelt_four j h = sym (four_of_take (set text 0 letter) size j h) ∙ ap (λ (t : List ℕ). four_of t j) (s.is letter) ∙ four_of_lem (head_text letter k) j (rw long h)

  pub headed : {first middle last : List ℕ} → first ≡ four_of (set text 0 letter) 0 → middle ≡ four_of (set text 0 letter) ((size - 4) / 2)
      → last ≡ four_of (set text 0 letter) (size - 4)
      → Headed (record { letter = letter; step = k; size = size; turn = (size - 4) / 2; first = first; middle = middle; last = last })
  headed a b c =
      record {
        size = sym long;
        turns = omega (arith, s.most);
        least = omega (arith, s.least);
        most = omega (arith, s.most);
        first = a ∙ spelt_four 0 s.least;
        middle = b ∙ spelt_four ((size - 4) / 2) (omega (arith, s.least));
        last = c ∙ spelt_four (size - 4) (omega (arith, s.least));
      }
