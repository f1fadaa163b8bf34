-- Bytes put into a buffer one after another, from a place on: what each function that writes a part of a listing promises. Assumes nothing.
use Rattle.std.specs.Prelude.{◌+◌, ◌≤◌, ◌≡◌, ◌∷◌, ◌++◌}
use Rattle.whole.specs.Plain.{ℕ, suc, refl, sym, ap, ◌∙◌, List, [], append_assoc, length, set, drop}
use Rattle.whole.specs.Plain.{length-append, sets, length-sets, sets-eq, arith}
use Rattle.std.proofs.Common.{add-one}

-- the bytes bs put into the buffer from `at` on, and the next place
pub record Puts (before : List ℕ) (at : ℕ) (bs : List ℕ) (next : ℕ) (after : List ℕ) : Type 0 where
  pub place : next ≡ at + length bs
  pub buffer : after ≡ sets before at bs

pub sets_append : (bs cs l : List ℕ) (at : ℕ) → sets l at (bs ++ cs) ≡ sets (sets l at bs) (at + length bs) cs
sets_append [] cs l at = let e : at + 0 ≡ at = omega arith in rw e
sets_append (b ∷ bs) cs l at = let e : at + suc (length bs) ≡ suc at + length bs = omega arith in rw e (sets_append bs cs (set l at b) (suc at))

module _ {l m : List ℕ} {at n : ℕ} where
  pub puts_then : {bs cs o : List ℕ} {q : ℕ} → Puts l at bs n m → Puts m n cs q o → Puts l at (bs ++ cs) q o
  puts_then {bs} {cs} p r =
      record {
        place = rw length-append (omega (arith, p.place, r.place));
        buffer = r.buffer ∙ rw (p.place, p.buffer) (sym (sets_append bs cs l at));
      }

  pub puts_length : {bs : List ℕ} → Puts l at bs n m → length m ≡ length l
  puts_length {bs} p = ap length p.buffer ∙ length-sets l at bs

  -- what is left for k bytes more
  pub puts_room : {bs : List ℕ} (k : ℕ) → Puts l at bs n m → at + (length bs + k) ≤ length l → n + k ≤ length m
  puts_room {bs} k p h = omega (arith, p.place, puts_length p)

  pub puts_as : {bs cs : List ℕ} → bs ≡ cs → Puts l at bs n m → Puts l at cs n m
  puts_as e p = rw (← e) p

pub puts_none : (l : List ℕ) (at : ℕ) → Puts l at [] at l
puts_none l at = record { place = omega arith; buffer = refl }

pub puts_one : (l : List ℕ) (at b : ℕ) → Puts l at (b ∷ []) (at + 1) (set l at b)
puts_one l at b = record { place = refl; buffer = refl }

pub puts_two : (l : List ℕ) (at b d : ℕ) → Puts l at (b ∷ d ∷ []) (at + 2) (set (set l at b) (at + 1) d)
puts_two l at b d = record { place = refl; buffer = rw (add-one at) }

-- from the start: the bytes, and then what stood there
pub puts_first : {l m bs : List ℕ} {n : ℕ} → Puts l 0 bs n m → length bs ≤ length l → m ≡ bs ++ drop (length bs) l
puts_first {l} {m} {bs} p h = let e : 0 + length bs ≡ length bs = omega arith in p.buffer ∙ rw e at (sets-eq bs l 0 (omega arith))

-- ---- a text made of two, put one after the other

pub record Parts (whole bs cs : List ℕ) : Type 0 where
  pub is : whole ≡ bs ++ cs

module _ {whole bs cs : List ℕ} (e : Parts whole bs cs) where
  long : length whole ≡ length bs + length cs
  long = ap length e.is ∙ length-append bs cs

  pub room_first : (at t : ℕ) → at + length whole ≤ t → at + length bs ≤ t
  room_first at t h = omega (arith, long)

  pub room_second : {l m : List ℕ} {at i : ℕ} → at + length whole ≤ length l → Puts l at bs i m → i + length cs ≤ length m
  room_second h p = puts_room (length cs) p (omega (arith, long))

  pub both_put : {l m o : List ℕ} {at i q : ℕ} → Puts l at bs i m → Puts m i cs q o → Puts l at whole q o
  both_put p r = puts_as (sym e.is) (puts_then p r)

-- ---- a text put part by part: what is put so far, and what is left of it

pub record Going (l : List ℕ) (at : ℕ) (whole left : List ℕ) (next : ℕ) (m : List ℕ) : Type 0 where
  pub done : List ℕ
  pub parts : Parts whole done left
  pub puts : Puts l at done next m

pub going_start : (l : List ℕ) (at : ℕ) (whole : List ℕ) → Going l at whole whole at l
going_start l at whole = record { done = []; parts = record { is = refl }; puts = puts_none l at }

module _ {l m whole left : List ℕ} {at next : ℕ} (g : Going l at whole left next m) where
  pub going_room : at + length whole ≤ length l → next + length left ≤ length m
  going_room h = room_second g.parts h g.puts

  pub going_on : {bs rest o : List ℕ} {q : ℕ} → Parts left bs rest → Puts m next bs q o → Going l at whole rest q o
  going_on {bs} {rest} e p =
      record {
        done = g.done ++ bs;
        parts = record { is = g.parts.is ∙ ap (λ (t : List ℕ). g.done ++ t) e.is ∙ sym (append_assoc g.done bs rest) };
        puts = puts_then g.puts p;
      }

  pub going_last : {o : List ℕ} {q : ℕ} → Puts m next left q o → Puts l at whole q o
  going_last p = both_put g.parts g.puts p
