-- Which nodes hang together, by rounds: each join takes both of its nodes to the lower of their two marks, 32 times over all the joins.
-- Assumes nothing.
use Rattle.whole.specs.Plain.{ℕ, min, List, get_or, set, fold}
use Rattle.whole.specs.Turns.{turns}
use Rattle.paper.specs.Limits as Limits

pub record Join : Type 0 where
  pub one : ℕ
  pub two : ℕ

abbrev pub mark : List ℕ → ℕ → ℕ
mark m n = get_or m n n

abbrev pub lower : List ℕ → Join → ℕ
lower m j = min (mark m j.one) (mark m j.two)

unfoldable pub joined : List ℕ → Join → List ℕ
joined m j = set (set m j.one (lower m j)) j.two (lower m j)

unfoldable pub round : List Join → ℕ → List ℕ → List ℕ
round js i m = fold joined m js

unfoldable pub spread : List Join → List ℕ → List ℕ
spread js m = turns 0 Limits.node_end (round js) m
