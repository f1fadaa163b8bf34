-- T-one: "Two outcomes that satisfy it are proved equal". What the contract of each call says of its answer and of every lent word as it returns, on
-- all inputs, refused ones too; and that it leaves nothing open. Assumes nothing.
use Rattle.std.specs.Prelude.{◌≡◌}
use Rattle.whole.specs.Plain.{ℕ, sym, ◌∙◌, List, Words}
use Rattle.paper.specs.Replies.{Reading, Resetting, Advance}
use Rattle.paper.specs.Reading.{read_of}
use Rattle.paper.specs.Resetting.{reset_of}
use Rattle.paper.specs.Advance.{Memory, advance_of}

-- ---- reading a text into a network record

pub record Reads (text : List ℕ) (net : Words) (x : Reading) (after : Words) : Type 0 where
  pub answer : x ≡ (read_of text net).answer
  pub network : after ≡ (read_of text net).network

pub read_one : (text : List ℕ) (net : Words) {x y : Reading} {v w : Words} → Reads text net x v → Reads text net y w → (x ≡ y) × (v ≡ w)
read_one text net p q = (p.answer ∙ sym q.answer, p.network ∙ sym q.network)

-- ---- resetting

pub record Resets (net : Words) (m : Memory) (x : Resetting) (after : Memory) : Type 0 where
  pub answer : x ≡ (reset_of net m).answer
  pub memory : after ≡ (reset_of net m).after

pub reset_one : (net : Words) (m : Memory) {x y : Resetting} {v w : Memory} → Resets net m x v → Resets net m y w → (x ≡ y) × (v ≡ w)
reset_one net m p q = (p.answer ∙ sym q.answer, p.memory ∙ sym q.memory)

-- ---- advancing an area

pub record Advances (net : Words) (a : ℕ) (m : Memory) (x : Advance) (after : Memory) : Type 0 where
  pub answer : x ≡ (advance_of net a m).answer
  pub memory : after ≡ (advance_of net a m).after

pub advance_one : (net : Words) (a : ℕ) (m : Memory) {x y : Advance} {v w : Memory} → Advances net a m x v → Advances net a m y w → (x ≡ y) × (v ≡ w)
advance_one net a m p q = (p.answer ∙ sym q.answer, p.memory ∙ sym q.memory)
