-- What demands 1 and 2 ask of any version of `advance`: its answers are exact, its accepted steps are the paper's, its refusals change nothing. The
-- paper's definition meets this, and no other version does. Assumes nothing.
use Rattle.std.specs.Prelude.{Ok}
use Rattle.std.specs.Prelude.{◌≡◌, ◌↔◌}
use Rattle.whole.specs.Plain.{ℕ, false, Words}
use Rattle.paper.specs.Replies.{Advance}
use Rattle.paper.specs.Answers.{accepted}
use Rattle.paper.specs.Advance.{Memory, Advanced, advance_of}
use Rattle.laws_facts.specs.Nets.{net_in}
use Rattle.laws_stays.specs.Stays.{Long}
use Rattle.laws_demands.specs.Said.{Stepped}
use Rattle.laws_demands.specs.Says.{Says}

-- a version of `advance`: from the network, an area's number and the lent memory to the answer and that memory afterwards
abbrev pub Version : Type 0
Version = Words → ℕ → Memory → Advanced

pub record Meets (F : Version) : Type 0 where
  -- each answer comes exactly when the paper says, with the paper's place
  pub answers : (net : Words) (a : ℕ) (m : Memory) (x : Advance) → ((F net a m).answer ≡ x) ↔ Says net a m x
  -- an accepted step is the paper's, in every word of what is lent, whose lengths stay
  pub stepped : (net : Words) (a : ℕ) (m : Memory) (x : ℕ) → (F net a m).answer ≡ Ok x → Stepped (net_in net) a x m (F net a m).after
  pub lengths : (net : Words) (a : ℕ) (m : Memory) (x : ℕ) → (F net a m).answer ≡ Ok x → Long (F net a m).after
  -- "Every refusal leaves all lent memory unchanged."
  pub kept : (net : Words) (a : ℕ) (m : Memory) → accepted (F net a m).answer ≡ false → (F net a m).after ≡ m

-- the version that the contracts of this project are held to
abbrev pub version : Version
version net a m = advance_of net a m
