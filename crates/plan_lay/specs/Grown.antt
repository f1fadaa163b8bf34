-- A table filled line by line behind what stands in it already. Assumes nothing.
use Rattle.std.specs.Prelude.{◌+◌, ◌-◌, ◌≤◌, ◌<◌, ◌≡◌, ◌∷◌, ◌++◌}
use Rattle.whole.specs.Plain.{ℕ, refl, sym, ap, ◌∙◌, Bool, true, false, cond, List, []}
use Rattle.whole.specs.Plain.{append-nil, append_assoc, length, set, take, drop, length-set, length-append}
use Rattle.whole.specs.Plain.{length-take-le, take-add, take_at, drop_at, take-take, take-suc-set, arith}
use Rattle.std.proofs.Common.{add-one}

module _ {A : Type 0} where
  -- what `&l[f..t]` lends
  abbrev pub part : ℕ → ℕ → List A → List A
  part f t l = take (t - f) (drop f l)

  -- before has, from f up to t, the lines of `added` put into it
  pub record Grown (before : List A) (f : ℕ) (added : List A) (t : ℕ) (after : List A) : Type 0 where
    pub long : length after ≡ length before
    pub within : t ≤ length before
    pub count : t ≡ f + length added
    pub lines : take t after ≡ take f before ++ added

  pub grown_none : (l : List A) (f : ℕ) → f ≤ length l → Grown l f [] f l
  grown_none l f h = record { long = refl; within = h; count = omega arith; lines = sym (append-nil (take f l)) }

  -- ---- one line more, where b
  pub record Put (b : Bool) (x : A) (m : ℕ) (before : List A) (t : ℕ) (after : List A) : Type 0 where
    pub count : t ≡ m + cond b 1 0
    pub table : after ≡ cond b (set before m x) before

  pub put_yes : {b : Bool} {x : A} {m : ℕ} {l : List A} → b ≡ true → Put b x m l (m + 1) (set l m x)
  put_yes e = record { count = rw e; table = rw e }

  pub put_no : {b : Bool} {x : A} {m : ℕ} {l : List A} → b ≡ false → Put b x m l m l
  put_no e = record { count = rw e (omega arith); table = rw e }

  pub grown_put : {before added after after' : List A} {f m t : ℕ} {b : Bool} {x : A} → Grown before f added m after → (b ≡ true → m < length before) → Put b x m after t after'
      → Grown before f (added ++ cond b (x ∷ []) []) t after'
  grown_put {before} {added} {after} {after'} {f} {m} {t} {b} {x} g room p = rw (p.count, p.table) (by b refl)
    where
      by : (c : Bool) → b ≡ c → Grown before f (added ++ cond c (x ∷ []) []) (m + cond c 1 0) (cond c (set after m x) after)
      by true e = record {
        long = length-set after m x ∙ g.long;
        within = omega (arith, room e);
        count = rw (length-append added (x ∷ [])) (omega (arith, g.count));
        lines = rw (add-one m, take-suc-set after m x (omega (arith, room e, g.long)), g.lines) (append_assoc (take f before) added (x ∷ []));
      }
      by false e = let n : m + 0 ≡ m = omega arith in rw (append-nil added, n) g

  -- ---- what it has then
  module _ {before added after : List A} {f t : ℕ} (g : Grown before f added t after) where
    pub grown_before : take f after ≡ take f before
    grown_before =
        sym (take-take f t after (omega (arith, g.count)))
        ∙ ap (take f) g.lines
        ∙ take_at (take f before) added f (length-take-le f before (omega (arith, g.count, g.within)))

    pub grown_part : part f t after ≡ added
    grown_part =
        let e : f + (t - f) ≡ t = omega (arith, g.count) in
        sym (drop_at (take f after) (part f t after) f (length-take-le f after (omega (arith, g.count, g.within, g.long))))
        ∙ ap (drop f) (sym (take-add f (t - f) after) ∙ ap (λ (n : ℕ). take n after) e ∙ g.lines)
        ∙ drop_at (take f before) added f (length-take-le f before (omega (arith, g.count, g.within)))

    -- some more behind it
    pub grown_then : {more last : List A} {u : ℕ} → Grown after t more u last → Grown before f (added ++ more) u last
    grown_then {more} h = record {
      long = h.long ∙ g.long;
      within = omega (arith, h.within, g.long);
      count = rw (length-append added more) (omega (arith, g.count, h.count));
      lines = h.lines ∙ ap (λ (l : List A). l ++ more) g.lines ∙ append_assoc (take f before) added more;
    }

    pub grown_still : {more last : List A} {u : ℕ} → Grown after t more u last → Grown before f added t last
    grown_still {more} {last} {u} h = record {
      long = h.long ∙ g.long;
      within = g.within;
      count = g.count;
      lines =
          sym (take-take t u last (omega (arith, h.count)))
          ∙ ap (take t) h.lines
          ∙ take_at (take t after) more t (length-take-le t after (omega (arith, g.within, g.long)))
          ∙ g.lines;
    }

  -- a part is the same in two tables that are the same up to n
  pub part_kept : (l m : List A) (n f t : ℕ) → take n l ≡ take n m → f ≤ t → t ≤ n → n ≤ length l → n ≤ length m → part f t l ≡ part f t m
  part_kept l m n f t e h k p q = from l (omega arith) ∙ ap (drop f) (sym (take-take t n l k) ∙ ap (take t) e ∙ take-take t n m k) ∙ sym (from m (omega arith))
    where
      from : (l : List A) → t ≤ length l → part f t l ≡ drop f (take t l)
      from l r =
          let e : f + (t - f) ≡ t = omega arith in
          sym (drop_at (take f l) (part f t l) f (length-take-le f l (omega arith))) ∙ ap (drop f) (sym (take-add f (t - f) l) ∙ ap (λ (n : ℕ). take n l) e)
