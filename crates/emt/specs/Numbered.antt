-- The calls as C sees them: the paper's number for the answer, and beside it the line, the place or the count, or what stopped a listing;
-- and T-one, that each contract leaves nothing open. Assumes nothing.
use Rattle.std.specs.Prelude.{Err}
use Rattle.std.specs.Prelude.{◌+◌, ◌*◌, ◌≡◌, ◌++◌}
use Rattle.whole.specs.Plain.{ℕ, sym, ◌∙◌, cond, eqb, eq-eqb, ne_eqb, List, ℤ, length, drop, Words}
use Rattle.paper.specs.declared.Refusal.TheVariants.{Store}
use Rattle.paper.specs.Limits as Limits
use Rattle.paper.specs.Answers.{reading_number, reading_line, resetting_number, advance_number, advance_place, advance_count}
use Rattle.paper.specs.Answers.{writing_number, writing_bytes}
use Rattle.paper.specs.Reading.{read_of}
use Rattle.paper.specs.Advance.{Memory, Advanced, advanced, advance_of}
use Rattle.paper.specs.Resetting.{reset_of}
use Rattle.paper.specs.Looking.{looking_number, told_voltage, told_peak, told_step, look_of}
use Rattle.call_shape.specs.Asked.{Asked, asked_number, told_number}
use Rattle.paper.specs.Pieces.{listing_number, stop_area, stop_number, stop_place, list_of}
use Rattle.paper.specs.Writing.{write_of}

pub record ReadsBy (text : List ℕ) (net : Words) (number line : ℕ) (after : Words) : Type 0 where
  pub answer : number ≡ reading_number (read_of text net).answer
  pub line_of : line ≡ reading_line (read_of text net).answer
  pub network : after ≡ (read_of text net).network

pub read_by_one : (text : List ℕ) (net : Words) {x y l k : ℕ} {v w : Words} → ReadsBy text net x l v → ReadsBy text net y k w → (x ≡ y) × ((l ≡ k) × (v ≡ w))
read_by_one text net p q = (p.answer ∙ sym q.answer, (p.line_of ∙ sym q.line_of, p.network ∙ sym q.network))

pub record ResetsBy (net : Words) (m : Memory) (number : ℕ) (after : Memory) : Type 0 where
  pub answer : number ≡ resetting_number (reset_of net m).answer
  pub memory : after ≡ (reset_of net m).after

pub reset_by_one : (net : Words) (m : Memory) {x y : ℕ} {v w : Memory} → ResetsBy net m x v → ResetsBy net m y w → (x ≡ y) × (v ≡ w)
reset_by_one net m p q = (p.answer ∙ sym q.answer, p.memory ∙ sym q.memory)

-- the paper's place and the paper's count in one number: no answer has both
pub record AdvancesBy (net : Words) (a : ℕ) (m : Memory) (number place : ℕ) (after : Memory) : Type 0 where
  pub answer : number ≡ advance_number (advance_of net a m).answer
  pub place_of : place ≡ advance_place (advance_of net a m).answer + advance_count (advance_of net a m).answer
  pub memory : after ≡ (advance_of net a m).after

pub advance_by_one : (net : Words) (a : ℕ) (m : Memory) {x y l k : ℕ} {v w : Memory}
    → AdvancesBy net a m x l v → AdvancesBy net a m y k w → (x ≡ y) × ((l ≡ k) × (v ≡ w))
advance_by_one net a m p q = (p.answer ∙ sym q.answer, (p.place_of ∙ sym q.place_of, p.memory ∙ sym q.memory))

-- the bytes of the lent room: a plan of all rows with 14 words each, two legs a row with 9 each, and a square of doubles by nodes
abbrev pub room_bytes : ℕ
room_bytes = 8 * (Limits.row_end * 14 + 2 * Limits.row_end * 9 + Limits.node_end * Limits.node_end)

-- 9 for a room of another size; else what comes of the call without one
unfoldable pub advance_in : ℕ → Words → ℕ → Memory → Advanced
advance_in room net a m = cond (eqb room room_bytes) (advance_of net a m) (advanced (Err Store) m)

pub record AdvancesIn (room : ℕ) (net : Words) (a : ℕ) (m : Memory) (number place : ℕ) (after : Memory) : Type 0 where
  pub answer : number ≡ advance_number (advance_in room net a m).answer
  pub place_of : place ≡ advance_place (advance_in room net a m).answer + advance_count (advance_in room net a m).answer
  pub memory : after ≡ (advance_in room net a m).after

module _ {room : ℕ} (net : Words) (a : ℕ) (m : Memory) where
  pub other_room : {x : ℕ} → (room ≡ room_bytes → ⊥) → x ≡ advance_number (Err Store) → AdvancesIn room net a m x 0 m
  unfolding advance_in
  other_room n e = record { answer = rw (ne_eqb room room_bytes n) e; place_of = rw (ne_eqb room room_bytes n); memory = rw (ne_eqb room room_bytes n) }

  pub right_room : {x l : ℕ} {v : Memory} → room ≡ room_bytes → AdvancesBy net a m x l v → AdvancesIn room net a m x l v
  unfolding advance_in
  right_room e p = record { answer = rw (eq-eqb room room_bytes e) p.answer; place_of = rw (eq-eqb room room_bytes e) p.place_of; memory = rw (eq-eqb room room_bytes e) p.memory }

-- of the room itself nothing is said: its words after the call are open
pub advance_in_one : (room : ℕ) (net : Words) (a : ℕ) (m : Memory) {x y l k : ℕ} {v w : Memory}
    → AdvancesIn room net a m x l v → AdvancesIn room net a m y k w → (x ≡ y) × ((l ≡ k) × (v ≡ w))
advance_in_one room net a m p q = (p.answer ∙ sym q.answer, (p.place_of ∙ sym q.place_of, p.memory ∙ sym q.memory))

-- in a room of the right size, the answer and all lent words but the room's are those of the call without one
pub in_room : (net : Words) (a : ℕ) (m : Memory) {x l : ℕ} {v : Memory} → AdvancesIn room_bytes net a m x l v → AdvancesBy net a m x l v
unfolding advance_in
in_room net a m p = record { answer = p.answer; place_of = p.place_of; memory = p.memory }

pub record LooksBy (net recs : Words) (n number : ℕ) (voltage : ℤ) (peak step : ℕ) : Type 0 where
  pub answer : number ≡ looking_number (look_of net recs n)
  pub voltage_of : voltage ≡ told_voltage (look_of net recs n)
  pub peak_of : peak ≡ told_peak (look_of net recs n)
  pub step_of : step ≡ told_step (look_of net recs n)

pub look_by_one : (net recs : Words) (n : ℕ) {x y p q s t : ℕ} {v w : ℤ} → LooksBy net recs n x v p s → LooksBy net recs n y w q t → (x ≡ y) × ((v ≡ w) × ((p ≡ q) × (s ≡ t)))
look_by_one net recs n a b = (a.answer ∙ sym b.answer, (a.voltage_of ∙ sym b.voltage_of, (a.peak_of ∙ sym b.peak_of, a.step_of ∙ sym b.step_of)))

-- of a question about a network's layout: its number, and what is told
pub record AsksBy (x : Asked) (number told : ℕ) : Type 0 where
  pub answer : number ≡ asked_number x
  pub told_of : told ≡ told_number x

pub asks_by_one : (x : Asked) {n m p q : ℕ} → AsksBy x n p → AsksBy x m q → (n ≡ m) × (p ≡ q)
asks_by_one x a b = (a.answer ∙ sym b.answer, a.told_of ∙ sym b.told_of)

pub record ListsBy (net : Words) (m : Memory) (out : List ℕ) (answered written area number place : ℕ) (b : List ℕ) (after : Memory) : Type 0 where
  pub answer : answered ≡ listing_number (list_of net m (length out)).answer
  pub count : written ≡ length (list_of net m (length out)).written
  pub area_of : area ≡ stop_area (list_of net m (length out)).answer
  pub number_of : number ≡ stop_number (list_of net m (length out)).answer
  pub place_of : place ≡ stop_place (list_of net m (length out)).answer
  pub buffer : b ≡ (list_of net m (length out)).written ++ drop (length (list_of net m (length out)).written) out
  pub memory : after ≡ (list_of net m (length out)).after

pub list_by_one : (net : Words) (m : Memory) (out : List ℕ) {x y i j c d e f g h : ℕ} {a b : List ℕ} {v w : Memory}
    → ListsBy net m out x i c e g a v → ListsBy net m out y j d f h b w → (x ≡ y) × (i ≡ j) × (c ≡ d) × (e ≡ f) × (g ≡ h) × (a ≡ b) × (v ≡ w)
list_by_one net m out p q = (
  p.answer ∙ sym q.answer,
  p.count ∙ sym q.count,
  p.area_of ∙ sym q.area_of,
  p.number_of ∙ sym q.number_of,
  p.place_of ∙ sym q.place_of,
  p.buffer ∙ sym q.buffer,
  p.memory ∙ sym q.memory,
)

pub record WritesBy (net : Words) (out : List ℕ) (number written : ℕ) (b : List ℕ) : Type 0 where
  pub answer : number ≡ writing_number (write_of net out).answer
  pub count : written ≡ writing_bytes (write_of net out).answer
  pub buffer : b ≡ (write_of net out).out

pub write_by_one : (net : Words) (out : List ℕ) {x y i j : ℕ} {a b : List ℕ} → WritesBy net out x i a → WritesBy net out y j b → (x ≡ y) × (i ≡ j) × (a ≡ b)
write_by_one net out p q = (p.answer ∙ sym q.answer, p.count ∙ sym q.count, p.buffer ∙ sym q.buffer)
