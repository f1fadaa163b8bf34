-- What the tests before a step come to: a refusal, or a step that the area may try. Assumes nothing.
use Rattle.std.specs.Prelude.{Result, Ok, Err, ◌≡◌}
use Rattle.whole.specs.Plain.{ℕ, List, Words}
use Rattle.paper.specs.Replies.{Advance}
use Rattle.paper.specs.declared.Refusal.{Refusal}
use Rattle.paper.specs.Advance.{Memory, advanced, ready, on_net}
use Rattle.laws_facts.specs.Nets.{net_in}
use Rattle.plan_rows.specs.Planned.{Plan}
use Rattle.step_take.specs.Stepping.{Stepping}
use Rattle.call_judge.specs.declared.Ready.{Ready}
use Rattle.call_judge.specs.Given.{Seen, turn_at}

-- an answer and the memory after it are what comes of a network that passes
abbrev pub OnNet : Words → ℕ → Memory → Advance → Memory → Type 0
OnNet net a m x n = advanced x n ≡ on_net (net_in net) a m

module _ (Ends : Advance → Memory → Type 0) (net : Words) (a : ℕ) (m : Memory) where
  -- a step of the area that is asked for may be tried by this plan, and whatever comes of it is what the call comes to
  pub record Tries (r : Ready) (plan : Plan) (areas : List ℕ) : Type 0 where
    pub seen : Seen net plan areas r.totals
    pub turn : r.turn ≡ turn_at r.totals a r.turn.k
    pub stepping : Stepping (net_in net) 1 r.totals.areas r.turn m
    pub ends : (x : Advance) (n : Memory) → advanced x n ≡ ready (net_in net) r.turn.area r.turn.k m → Ends x n

  abbrev pub Judges : Result Ready Refusal → Plan → List ℕ → Type 0
  Judges (Ok r) plan areas = Tries r plan areas
  Judges (Err x) plan areas = Ends (Err x) m

-- what is judged of a network that passes is judged of the call
pub judged_on : (E F : Advance → Memory → Type 0) (net : Words) (a : ℕ) (m : Memory) (j : Result Ready Refusal) (plan : Plan) (areas : List ℕ)
    → ((x : Advance) (n : Memory) → E x n → F x n) → Judges E net a m j plan areas → Judges F net a m j plan areas
judged_on E F net a m (Ok r) plan areas f g = record { seen = g.seen; turn = g.turn; stepping = g.stepping; ends = λ x y q. f x y (g.ends x y q) }
judged_on E F net a m (Err x) plan areas f g = f (Err x) m g
