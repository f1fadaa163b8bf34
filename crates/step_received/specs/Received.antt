-- What an end of a line reads: what the far end sent d steps before step k, "or 0 where k - d < 1"; step s stands in place s mod the slots. Assumes
-- nothing.
use Rattle.std.specs.Prelude.{◌+◌, ◌-◌, ◌%◌, ◌≤◌, ◌<◌, ◌≡◌}
use Rattle.whole.specs.Plain.{ℕ, ap, cond, ltb, ℤ, length, take, drop, length-take}
use Rattle.whole.specs.Plain.{length-drop, get_or-take, get_or-drop, lt-ltb, le-ltb, mod-lt, arith, Words, z, word}
use Rattle.whole.specs.Mixing.{mixed}
use Rattle.paper.specs.Rows.{Row}
use Rattle.paper.specs.Faults.{slots, delay, rest}
use Rattle.paper.specs.Areas.{Net, step}
use Rattle.paper.specs.Records.{offset}
use Rattle.paper.specs.Legs.{sent_to, received, sent_at}
use Rattle.paper.specs.declared.Side.{Side}
use Rattle.paper.specs.declared.Side.TheVariants.{From, To}

-- the from end hears the to-end store, and the to end the from-end store
abbrev pub far_store : Side → Words → Words → Words
far_store From froms tos = tos
far_store To froms tos = froms

-- the part from start to end
abbrev pub far_part : Side → Words → Words → ℕ → ℕ → Words
far_part side froms tos start end = take (end - start) (drop start (far_store side froms tos))

-- of a ring whose slots begin at a place of the store
unfoldable pub heard_from : Words → ℕ → ℕ → ℕ → ℕ → ℤ
heard_from store start slots k d = cond (ltb 0 (k - d)) (word store (start + (k - d) % slots)) z

-- ---- its two cases
pub heard_before : (store : Words) (start slots k d : ℕ) → k ≤ d → z ≡ heard_from store start slots k d
unfolding heard_from
heard_before store start slots k d h = rw (le-ltb 0 (k - d) (omega arith))

pub heard_after : (store : Words) (start slots k d : ℕ) → d < k → word store (start + (k - d) % slots) ≡ heard_from store start slots k d
unfolding heard_from
heard_after store start slots k d h = rw (lt-ltb 0 (k - d) (omega arith))

-- ---- a part of a store is read as the store is
module _ (side : Side) (froms tos : Words) (start slots : ℕ) (f : start + slots ≤ length froms) (t : start + slots ≤ length tos) where
  store_long : (side : Side) → start + slots ≤ length (far_store side froms tos)
  store_long From = t
  store_long To = f

  pub part_length : length (far_part side froms tos start (start + slots)) ≡ slots
  part_length = simp (length-take, length-drop) (omega (arith, store_long side))

  pub part_heard : (k d : ℕ) → 0 < slots → heard_from (far_part side froms tos start (start + slots)) 0 slots k d ≡ heard_from (far_store side froms tos) start slots k d
  unfolding heard_from
  part_heard k d h = ap (λ (x : ℤ). cond (ltb 0 (k - d)) x z) (at_slot ((k - d) % slots) (mod-lt (k - d) h))
    where
      at_slot : (s : ℕ) → s < slots → word (far_part side froms tos start (start + slots)) (0 + s) ≡ word (far_store side froms tos) (start + s)
      at_slot s l =
          let e : start + slots - start ≡ slots = omega arith in
          let g : 0 + s ≡ s = omega arith in
          rw (e, g, get_or-take slots (drop start (far_store side froms tos)) s z l, get_or-drop)

-- of a line's own ring: what was sent q and q + 1 steps before mixes to the paper's
module _ (N : Net) (k i : ℕ) (r : Row) (store : Words) where
  abbrev ago : ℕ → ℤ
  ago d = heard_from store (offset N i) (slots N.head r) k d

  pub heard_is : mixed (step N) (rest (step N) r) (ago (delay (step N) r)) (ago (delay (step N) r + 1)) ≡ sent_to N k i r store
  unfolding heard_from sent_to received sent_at
  heard_is = let e : k - (delay (step N) r + 1) ≡ k - delay (step N) r - 1 = omega arith in rw e
