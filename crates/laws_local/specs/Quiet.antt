-- What an area is about to hear is not touched by another area's step, where neither waits: the slots of a ring are 2q, and 2q + 1 where two values are
-- read. Assumes nothing.
use Rattle.std.specs.Prelude.{◌+◌, ◌%◌, ◌≤◌, ◌<◌, ◌≡◌, ◌≢◌}
use Rattle.whole.specs.Plain.{ℕ, suc, subst, true, List, length, mod-lt, arith}
use Rattle.whole.specs.Plain.{Words, word}
use Rattle.laws_order.specs.Ring.{ring_apart}
use Rattle.whole.specs.Folds.{and_left, and_right}
use Rattle.paper.specs.Rows.{Row, is_line}
use Rattle.paper.specs.Areas.{Net, area_of}
use Rattle.paper.specs.Records.{count_of}
use Rattle.paper.specs.Legs.{End, Branch, Heard, legs_by}
use Rattle.laws_facts.specs.Nets.{row_at}
use Rattle.laws_facts.specs.Travels.{Reads}
use Rattle.laws_local.specs.Sound.{Sound}
use Rattle.laws_local.specs.Slots.{slots_at, delay_at, slot_of, line_slots, some_slots, apart, sent, sent_other}

module _ (N : Net) (a b : ℕ) (recs : Words) (ears : List Heard) (v : Words) (f : Sound N) where
  abbrev ka : ℕ
  ka = suc (count_of recs a)

  abbrev kb : ℕ
  kb = suc (count_of recs b)

  -- at one end of the lines: b has the near end, and a's step sends at the far one
  pub end_quiet : (near far : Row → ℕ) (end : Branch → End)
      → ((n : ℕ) → is_line (row_at N n) ≡ true → (end (legs_by N a ka recs ears n)).own ≡ true → area_of N (far (row_at N n)) ≡ a)
      → (i : ℕ) → i < length N.rows → is_line (row_at N i) ≡ true → area_of N (near (row_at N i)) ≡ b
      → (area_of N (far (row_at N i)) ≡ a → ka ≤ count_of recs (area_of N (near (row_at N i))) + delay_at N i)
      → kb ≤ count_of recs (area_of N (far (row_at N i))) + delay_at N i
      → (w : Words) (x : ℕ) → Reads N.head (row_at N i) kb x → word (sent N a ka recs ears v end w) (slot_of N i x) ≡ word w (slot_of N i x)
  end_quiet near far end own i h l o freeA freeB w x reads =
      sent_other N a ka recs ears v end (slot_of N i x)
      (λ n p s. apart N i n (x % slots_at N i) (ka % slots_at N n) h p
      (mod-lt x (some_slots N i f l)) (mod-lt ka (some_slots N n f (and_left (is_line (row_at N n)) _ s)))
      (λ e. subst (λ (n : ℕ). area_of N (far (row_at N n)) ≡ a → x % slots_at N i ≢ ka % slots_at N n) e same_line
      (own n (and_left (is_line (row_at N n)) _ s) (and_right (is_line (row_at N n)) _ s)))) w
    where
      same_line : area_of N (far (row_at N i)) ≡ a → x % slots_at N i ≢ ka % slots_at N i
      same_line e =
          let u : ka ≤ count_of recs b + delay_at N i = rw o at (freeA e) in
          let y : kb ≤ count_of recs a + delay_at N i = rw e at freeB in
          ring_apart x ka (slots_at N i) (omega (arith, reads.newest)) (omega (arith, reads.oldest, line_slots N i l))
