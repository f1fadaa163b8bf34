-- The places that an advance's answer names: a node from 1 to 32, a branch from 1 to 64. Assumes nothing.
use Rattle.std.specs.Prelude.{Ok, Err}
use Rattle.std.specs.Prelude.{◌≤◌, ◌≡◌}
use Rattle.whole.specs.Plain.{ℕ, refl, Bool, true, false, not, arith, Words}
use Rattle.paper.specs.Replies.{Advance}
use Rattle.paper.specs.declared.Refusal.TheVariants.{Network, Store, State, Area, Done, Wait, Floating, Range, Unbalanced, History}
use Rattle.paper.specs.Limits as Limits
use Rattle.paper.specs.Network.{is_network}
use Rattle.paper.specs.Advance.{Memory, Advanced, fits, advance_of}
use Rattle.paper.proofs.Kept.{either}
use Rattle.paper.proofs.Places.{PlaceIn, advance_place}
use Rattle.laws_facts.specs.Nets.{net_in, NetSound}
use Rattle.laws_facts.proofs.Nets.{net_sound}

abbrev NodeNumber : ℕ → Type 0
NodeNumber n = (1 ≤ n) × (n ≤ Limits.node_end)

abbrev BranchNumber : ℕ → Type 0
BranchNumber b = (1 ≤ b) × (b ≤ Limits.branch_end)

abbrev pub Numbered : Advance → Type 0
Numbered (Ok k) = Unit {0}
Numbered (Err Network) = Unit {0}
Numbered (Err Store) = Unit {0}
Numbered (Err State) = Unit {0}
Numbered (Err Area) = Unit {0}
Numbered (Err Done) = Unit {0}
Numbered (Err (Wait b)) = BranchNumber b
Numbered (Err (Floating n)) = NodeNumber n
Numbered (Err (Range n)) = NodeNumber n
Numbered (Err (Unbalanced n)) = NodeNumber n
Numbered (Err (History b)) = BranchNumber b

module _ (net : Words) (s : NetSound (net_in net)) where
  numbered : (x : Advance) → PlaceIn (net_in net) x → Numbered x
  numbered (Ok k) p = tt
  numbered (Err Network) p = tt
  numbered (Err Store) p = tt
  numbered (Err State) p = tt
  numbered (Err Area) p = tt
  numbered (Err Done) p = tt
  numbered (Err (Wait b)) p = omega (arith, s.branch_most)
  numbered (Err (Floating n)) p = omega (arith, s.node_most)
  numbered (Err (Range n)) p = omega (arith, s.node_most)
  numbered (Err (Unbalanced n)) p = omega (arith, s.node_most)
  numbered (Err (History b)) p = omega (arith, s.branch_most)

-- a record that is no network is refused by 8 or 9, which name no place
refused_numbered : (net : Words) (a : ℕ) (m : Memory) → is_network net ≡ false → Numbered (advance_of net a m).answer
unfolding advance_of
refused_numbered net a m e = rw e (either (λ (r : Advanced). Numbered r.answer) (not (fits net m)) _ _ tt tt)

pub advance_numbered : (net : Words) (a : ℕ) (m : Memory) → Numbered (advance_of net a m).answer
advance_numbered net a m = go (is_network net) refl
  where
    go : (b : Bool) → is_network net ≡ b → Numbered (advance_of net a m).answer
    go true e = numbered net (net_sound net e) (advance_of net a m).answer (advance_place net a m)
    go false e = refused_numbered net a m e
