-- The four lengths, from their test. Assumes nothing.
use Rattle.std.specs.Prelude.{Result, Ok, Err, is_ok, ◌≡◌, ◌&&◌}
use Rattle.whole.specs.Plain.{Bool, true, false, true≢false, cond, eqb, not, length, eqb-true, refl, sym, ap, Words}
use Rattle.whole.specs.Folds.{and_left, and_right}
use Rattle.paper.specs.Limits as Limits
use Rattle.paper.specs.Advance.{Memory, fits}
use Rattle.paper.specs.declared.Unfit.{Unfit}
use Rattle.paper.specs.declared.Unfit.TheVariants.{Store}

-- refusal 9, or none
abbrev pub admitted : Words → Memory → Result (Unit {0}) Unfit
admitted net m = cond (not (fits net m)) (Err Store) (Ok tt)

pub record Lengths (net : Words) (m : Memory) : Type 0 where
  pub network : length net ≡ Limits.network_words
  pub records : length m.records ≡ Limits.record_words
  pub froms : length m.froms ≡ Limits.store_words
  pub tos : length m.tos ≡ Limits.store_words

pub lengths : (net : Words) (m : Memory) → fits net m ≡ true → Lengths net m
unfolding fits
lengths net m e =
    let n = eqb (length net) Limits.network_words in
    let r = eqb (length m.records) Limits.record_words in
    let f = eqb (length m.froms) Limits.store_words in
    let t = eqb (length m.tos) Limits.store_words in
    let nrf = and_left (n && r && f) t e in
    let nr = and_left (n && r) f nrf in
    record {
      network = eqb-true (length net) Limits.network_words (and_left n r nr);
      records = eqb-true (length m.records) Limits.record_words (and_right n r nr);
      froms = eqb-true (length m.froms) Limits.store_words (and_right (n && r) f nrf);
      tos = eqb-true (length m.tos) Limits.store_words (and_right (n && r && f) t e);
    }

-- ---- what an answer tells

abbrev unfit_of : Result (Unit {0}) Unfit → Unfit
unfit_of (Ok u) = Store
unfit_of (Err x) = x

by_fit : (b : Bool) {u : Unit {0}} → Ok u ≡ cond {A = Result (Unit {0}) Unfit} (not b) (Err Store) (Ok tt) → b ≡ true
by_fit true e = refl
by_fit false e = absurd (true≢false (ap is_ok e))

by_false : (b : Bool) {x : Unfit} → Err x ≡ cond {A = Result (Unit {0}) Unfit} (not b) (Err Store) (Ok tt) → (b ≡ false) × (x ≡ Store)
by_false true e = absurd (true≢false (sym (ap is_ok e)))
by_false false e = (refl, ap unfit_of e)

by_unfit : {R : Type 0} (F : Unfit → R) (rest : R) (b : Bool) {x : Unfit} → Err x ≡ cond {A = Result (Unit {0}) Unfit} (not b) (Err Store) (Ok tt) → cond (not b) (F Store) rest ≡ F x
by_unfit F rest true e = absurd (true≢false (sym (ap is_ok e)))
by_unfit F rest false e = ap F (sym (ap unfit_of e))

module _ (net : Words) (m : Memory) where
  pub fit : {u : Unit {0}} → Ok u ≡ admitted net m → fits net m ≡ true
  fit e = by_fit (fits net m) e

  pub not_fit : {x : Unfit} → Err x ≡ admitted net m → (fits net m ≡ false) × (x ≡ Store)
  not_fit e = by_false (fits net m) e

  -- a call that tests the lengths first comes to its own form of the refusal
  pub unfit : {R : Type 0} (F : Unfit → R) (rest : R) {x : Unfit} → Err x ≡ admitted net m → cond (not (fits net m)) (F Store) rest ≡ F x
  unfit F rest e = by_unfit F rest (fits net m) e
