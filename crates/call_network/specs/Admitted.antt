-- What a call learns from asking first whether a lent network record is admitted. Assumes nothing.
use Rattle.std.specs.Prelude.{Result, Ok, Err, is_ok, ◌≡◌}
use Rattle.whole.specs.Plain.{Bool, true, false, true≢false, cond, not, eqb, eqb-true, eq-eqb, length, refl, sym, ap, Words}
use Rattle.paper.specs.declared.Unfit.{Unfit}
use Rattle.paper.specs.declared.Unfit.TheVariants.{Network, Store}
use Rattle.paper.specs.Limits as Limits
use Rattle.paper.specs.Network.{is_network}
pub use Rattle.call_network.specs.Judged.{admitted}

abbrev door : {R : Type 0} → (Unfit → R) → Bool → Bool → R → R
door F long good rest = cond (not long) (F Store) (cond (not good) (F Network) rest)

-- ---- what an answer tells

abbrev unfit_of : Result (Unit {0}) Unfit → Unfit
unfit_of (Ok u) = Store
unfit_of (Err x) = x

by_fit : (long good : Bool) {u : Unit {0}} → Ok u ≡ door {R = Result (Unit {0}) Unfit} Err long good (Ok tt) → (long ≡ true) × (good ≡ true)
by_fit true true e = (refl, refl)
by_fit true false e = absurd (true≢false (ap is_ok e))
by_fit false g e = absurd (true≢false (ap is_ok e))

by_unfit : {R : Type 0} (F : Unfit → R) (rest : R) (long good : Bool) {x : Unfit} → Err x ≡ door {R = Result (Unit {0}) Unfit} Err long good (Ok tt) → door F long good rest ≡ F x
by_unfit F rest true true e = absurd (true≢false (sym (ap is_ok e)))
by_unfit F rest true false e = ap F (sym (ap unfit_of e))
by_unfit F rest false g e = ap F (sym (ap unfit_of e))

module _ (net : Words) where
  pub fit_length : {u : Unit {0}} → Ok u ≡ admitted net → length net ≡ Limits.network_words
  fit_length e = eqb-true (length net) Limits.network_words (by_fit (eqb (length net) Limits.network_words) (is_network net) e).0

  pub fit_network : {u : Unit {0}} → Ok u ≡ admitted net → is_network net ≡ true
  fit_network e = (by_fit (eqb (length net) Limits.network_words) (is_network net) e).1

  -- a call that tests these first comes to its own form of the refusal
  pub unfit : {R : Type 0} (F : Unfit → R) (rest : R) {x : Unfit} → Err x ≡ admitted net
      → cond (not (eqb (length net) Limits.network_words)) (F Store) (cond (not (is_network net)) (F Network) rest) ≡ F x
  unfit F rest e = by_unfit F rest (eqb (length net) Limits.network_words) (is_network net) e

  -- and so does one that has tested the length
  pub unfit_network : {R : Type 0} (F : Unfit → R) (rest : R) {x : Unfit} → length net ≡ Limits.network_words → Err x ≡ admitted net → cond (not (is_network net)) (F Network) rest ≡ F x
  unfit_network F rest l e = rw (eq-eqb (length net) Limits.network_words l) at (unfit F rest e)
