-- The answers of a reset, case by case. Assumes nothing.
use Rattle.std.specs.Prelude.{Ok, Err}
use Rattle.std.specs.Prelude.{◌≡◌}
use Rattle.whole.specs.Plain.{cond, not, pos, length, replicate, Words}
use Rattle.paper.specs.declared.Unfit.{Unfit}
use Rattle.paper.specs.declared.Unfit.TheVariants.{Network}
use Rattle.paper.specs.Network.{is_network}
use Rattle.paper.specs.Advance.{Memory, memory}
use Rattle.paper.specs.Resetting.{reset_of, reset_out, fresh}
use Rattle.paper.specs.One.{Resets}
use Rattle.call_lent.specs.Lengths.{lengths, fit, unfit}
use Rattle.call_lent.specs.Lengths as Lent
use Rattle.call_network.specs.Admitted.{fit_network, unfit_network}
use Rattle.call_network.specs.Admitted as Net

module _ (net : Words) (m : Memory) where
  pub wrong_length : {x : Unfit} → Err x ≡ Lent.admitted net m → Resets net m (Err x) m
  unfolding reset_of
  wrong_length {x} e = let q : reset_of net m ≡ reset_out (Err x) m = unfit net m (λ x. reset_out (Err x) m) _ e in record { answer = rw q; memory = rw q }

  module _ {u : Unit {0}} (e : Ok u ≡ Lent.admitted net m) where
    pub no_network : {x : Unfit} → Err x ≡ Net.admitted net → Resets net m (Err x) m
    unfolding reset_of
    no_network {x} f =
        let q : cond (not (is_network net)) (reset_out (Err Network) m) (reset_out (Ok tt) fresh) ≡ reset_out (Err x) m =
        unfit_network net (λ x. reset_out (Err x) m) _ (lengths net m (fit net m e)).network f in
        record { answer = rw (fit net m e, q); memory = rw (fit net m e, q) }

    pub cleared : (records froms tos : Words) {v : Unit {0}} → Ok v ≡ Net.admitted net
        → records ≡ replicate (length m.records) (pos 0) → froms ≡ replicate (length m.froms) (pos 0) → tos ≡ replicate (length m.tos) (pos 0)
        → Resets net m (Ok tt) (memory records froms tos)
    unfolding reset_of fresh
    cleared records froms tos f r s t =
        let l = lengths net m (fit net m e) in
        record { answer = rw (fit net m e, fit_network net f); memory = rw (r, s, t, l.records, l.froms, l.tos, fit net m e, fit_network net f) }
