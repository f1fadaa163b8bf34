-- The answers of a listing, case by case. Assumes nothing.
use Rattle.std.specs.Prelude.{Ok, Err}
use Rattle.std.specs.Prelude.{◌≤◌, ◌<◌, ◌≡◌}
use Rattle.whole.specs.Plain.{ℕ, List, [], length}
use Rattle.whole.specs.Plain.{le-ltb, lt-ltb, arith, Words}
use Rattle.paper.specs.Replies.{Listing, unlisted_of}
use Rattle.paper.specs.declared.Unfit.{Unfit}
use Rattle.paper.specs.declared.Unlisted.TheVariants.{Store}
use Rattle.paper.specs.Limits as Limits
use Rattle.paper.specs.Advance.{Memory}
use Rattle.paper.specs.Pieces.{listed, on_level, list_of, Lists}
use Rattle.laws_facts.specs.Nets.{net_in}
use Rattle.call_lent.specs.Lengths.{lengths, fit, not_fit}
use Rattle.call_lent.specs.Lengths as Lent
use Rattle.call_network.specs.Admitted.{fit_network, unfit_network}
use Rattle.call_network.specs.Admitted as Network
use Rattle.list_digits.specs.Puts.{puts_first}
use Rattle.list_pieces.specs.Sofar.{Gives}

-- what is given is what is promised
pub lists : {net : Words} {m after : Memory} {out b : List ℕ} {x : Listing} {n : ℕ} → Gives (list_of net m (length out)) out x n b after → Lists net m out x n b after
lists {net} {m} {after} {out} {b} {x} {n} g =
    let e : n ≡ length (list_of net m (length out)).written = omega (arith, g.puts.place) in
    record { answer = g.answer; count = e; buffer = puts_first g.puts (omega (arith, g.fit)); memory = g.memory }

module _ (net : Words) (m : Memory) (room : ℕ) where
  pub wrong_length : {x : Unfit} → Err x ≡ Lent.admitted net m → list_of net m room ≡ listed (Err (unlisted_of x)) [] m
  unfolding list_of
  wrong_length e = let p = not_fit net m e in rw (p.0, p.1)

  module _ {u : Unit {0}} (e : Ok u ≡ Lent.admitted net m) where
    pub no_room : room < Limits.step_bytes → list_of net m room ≡ listed (Err Store) [] m
    unfolding list_of
    no_room h = rw (fit net m e, lt-ltb room Limits.step_bytes h)

    module _ (h : Limits.step_bytes ≤ room) where
      pub no_network : {x : Unfit} → Err x ≡ Network.admitted net → list_of net m room ≡ listed (Err (unlisted_of x)) [] m
      unfolding list_of
      no_network f =
          rw (fit net m e, le-ltb room Limits.step_bytes h)
          (unfit_network net (λ y. listed (Err (unlisted_of y)) [] m) _ (lengths net m (fit net m e)).network f)

      pub on_network : {v : Unit {0}} → Ok v ≡ Network.admitted net → list_of net m room ≡ on_level net (net_in net) m room
      unfolding list_of
      on_network f = rw (fit net m e, le-ltb room Limits.step_bytes h, fit_network net f)
