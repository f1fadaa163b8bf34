-- Lines one after another, by number: the lines so far, one more, and all. Assumes nothing.
use Rattle.std.specs.Prelude.{◌+◌, ◌-◌, ◌≤◌, ◌<◌, ◌≡◌, ◌∷◌, ◌++◌}
use Rattle.whole.specs.Plain.{ℕ, zero, suc, refl, sym, ap, ◌∙◌, List, []}
use Rattle.whole.specs.Plain.{append_assoc, append-nil, pos, length, length-append, arith, Words, word, numbers}
use Rattle.std.proofs.Common.{add-one}
use Rattle.whole.specs.Folds.{numbers_append, numbers_more}
use Rattle.paper.specs.Rows.{bytes}
use Rattle.paper.specs.Areas.{Net}
use Rattle.paper.specs.Records.{voltages}
use Rattle.paper.specs.Listing.{line_of, volt_lines, current_line, current_lines}
use Rattle.list_digits.specs.Puts.{Puts, puts_then, puts_as, puts_room}

unfoldable pub joined : (ℕ → List ℕ) → List ℕ → List ℕ
joined f [] = []
joined f (i ∷ is) = f i ++ joined f is

module _ (f : ℕ → List ℕ) where
  joined_append : (is js : List ℕ) → joined f (is ++ js) ≡ joined f is ++ joined f js
  unfolding joined
  joined_append [] js = refl
  joined_append (i ∷ is) js = rw (joined_append is js) (sym (append_assoc (f i) (joined f is) (joined f js)))

  pub joined_next : (i n : ℕ) → joined f (numbers i (n + 1)) ≡ joined f (numbers i n) ++ f (i + n)
  unfolding joined
  joined_next i n = rw (numbers_more i n, joined_append (numbers i n) ((i + n) ∷ []), append-nil (f (i + n)))

  -- room for line i + n, of m lines
  joined_long : (i n m : ℕ) → n < m → length (joined f (numbers i n)) + length (f (i + n)) ≤ length (joined f (numbers i m))
  joined_long i n m h =
      let e : m ≡ n + 1 + (m - (n + 1)) = omega arith in
      let rest = numbers (i + (n + 1)) (m - (n + 1)) in
      let q : numbers i m ≡ numbers i (n + 1) ++ rest = ap (numbers i) e ∙ numbers_append i (n + 1) (m - (n + 1)) in
      rw (q, joined_append (numbers i (n + 1)) rest)
      (omega (arith, length-append (joined f (numbers i (n + 1))) (joined f rest), ap length (joined_next i n), length-append (joined f (numbers i n)) (f (i + n))))

  module _ {l m : List ℕ} {at p : ℕ} (i n : ℕ) (d : Puts l at (joined f (numbers i n)) p m) where
    pub line_room : (all : ℕ) → n < all → at + length (joined f (numbers i all)) ≤ length l → p + length (f (i + n)) ≤ length m
    line_room all h r = puts_room (length (f (i + n))) d (omega (arith, joined_long i n all h))

    pub line_put : {o : List ℕ} {q : ℕ} → Puts m p (f (i + n)) q o → Puts l at (joined f (numbers i (n + 1))) q o
    line_put t = puts_as (sym (joined_next i n)) (puts_then d t)

pub joined_same : {f g : ℕ → List ℕ} (n : ℕ) → ((i : ℕ) → i < n → f i ≡ g i) → joined f (numbers 0 n) ≡ joined g (numbers 0 n)
unfolding joined numbers
joined_same zero h = refl
joined_same {f} {g} (suc n) h =
    let z : 0 + n ≡ n = omega arith in
    let next : (f : ℕ → List ℕ) → joined f (numbers 0 (suc n)) ≡ joined f (numbers 0 n) ++ f n = λ f. rw (add-one n, z) at (joined_next f 0 n) in
    rw (next f, next g, joined_same n (λ i l. h i (omega arith)), h n (omega arith))

-- ---- the paper's lines

unfoldable pub volt_line : Words → ℕ → ℕ → List ℕ
volt_line recs k n = line_of (bytes "v") (pos k ∷ pos n ∷ word recs (voltages.start + n - 1) ∷ [])

abbrev pub volts_text : Words → ℕ → ℕ → List ℕ
volts_text recs k nodes = joined (volt_line recs k) (numbers 1 nodes)

pub volts_joined : (N : Net) (recs : Words) (k : ℕ) (ns : List ℕ) → volt_lines N recs k ns ≡ joined (volt_line recs k) ns
unfolding volt_lines joined volt_line
volts_joined N recs k [] = refl
volts_joined N recs k (n ∷ ns) = ap (λ (l : List ℕ). volt_line recs k n ++ l) (volts_joined N recs k ns)

pub currents_joined : (N : Net) (recs : Words) (k : ℕ) (is : List ℕ) → current_lines N recs k is ≡ joined (current_line N recs k) is
unfolding current_lines joined
currents_joined N recs k [] = refl
currents_joined N recs k (i ∷ is) = ap (λ (l : List ℕ). current_line N recs k i ++ l) (currents_joined N recs k is)
