-- The answers of a question about a node, case by case. Assumes nothing.
use Rattle.std.specs.Prelude.{Ok, Err, ◌≡◌, ◌&&◌}
use Rattle.whole.specs.Plain.{ℕ, refl, Bool, true, false, eqb, eq-eqb, ne_eqb, length, Words}
use Rattle.paper.specs.Limits as Limits
use Rattle.paper.specs.Replies.{unlooked_of}
use Rattle.paper.specs.declared.Unfit.{Unfit}
use Rattle.paper.specs.declared.Unlooked.TheVariants.{Store}
use Rattle.paper.specs.Looking.{look_net, look_of}
use Rattle.laws_facts.specs.Nets.{net_in}
use Rattle.call_network.specs.Admitted.{admitted, fit_length, fit_network, unfit}

and_true : (b : Bool) → (b && true) ≡ b
and_true true = refl
and_true false = refl

and_false : (b : Bool) → (b && false) ≡ false
and_false true = refl
and_false false = refl

module _ (net recs : Words) (n : ℕ) where
  pub other_length : (length recs ≡ Limits.record_words → ⊥) → look_of net recs n ≡ Err Store
  unfolding look_of
  other_length h = rw (ne_eqb (length recs) Limits.record_words h, and_false (eqb (length net) Limits.network_words))

  module _ (l : length recs ≡ Limits.record_words) where
    pub refused : {x : Unfit} → Err x ≡ admitted net → look_of net recs n ≡ Err (unlooked_of x)
    unfolding look_of
    refused e =
        rw (eq-eqb (length recs) Limits.record_words l, and_true (eqb (length net) Limits.network_words)) (unfit net (λ y. Err (unlooked_of y)) _ e)

    pub passes : {u : Unit {0}} → Ok u ≡ admitted net → look_of net recs n ≡ look_net (net_in net) recs n
    unfolding look_of
    passes e = rw (eq-eqb (length recs) Limits.record_words l, eq-eqb (length net) Limits.network_words (fit_length net e), fit_network net e)
