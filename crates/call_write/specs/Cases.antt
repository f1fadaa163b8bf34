-- The answers of a writing, case by case. Assumes nothing.
use Rattle.std.specs.Prelude.{Ok, Err}
use Rattle.std.specs.Prelude.{◌<◌, ◌≤◌, ◌≡◌, ◌||◌}
use Rattle.whole.specs.Plain.{ℕ, refl, ap, ◌∙◌, Bool, true, false, not, eqb, List, length, lt-ltb}
use Rattle.whole.specs.Plain.{le-ltb, arith, Words}
use Rattle.paper.specs.declared.Unfit.{Unfit}
use Rattle.paper.specs.declared.Unfit.TheVariants.{Store}
use Rattle.paper.specs.Limits as Limits
use Rattle.paper.specs.Network.{is_network, table_of}
use Rattle.paper.specs.Writing.{text_of, write_of, written_out, Writes}
use Rattle.laws_spelling.proofs.Written.{written_fits, write_takes}
use Rattle.list_digits.specs.Puts.{Puts, puts_first}
use Rattle.call_network.specs.Admitted.{admitted, unfit}

or_true : (b : Bool) → (b || true) ≡ true
or_true true = refl
or_true false = refl

or_false : (b : Bool) → (b || false) ≡ b
or_false true = refl
or_false false = refl

module _ (net : Words) (out : List ℕ) where
  pub no_room : length out < Limits.study_bytes → Writes net out (Err Store) out
  unfolding write_of
  no_room h =
      let e = or_true (not (eqb (length net) Limits.network_words)) in
      record { answer = rw (lt-ltb (length out) Limits.study_bytes h, e); bytes = rw (lt-ltb (length out) Limits.study_bytes h, e) }

  module _ (h : Limits.study_bytes ≤ length out) where
    pub refused : {x : Unfit} → Err x ≡ admitted net → Writes net out (Err x) out
    unfolding write_of
    refused {x} e =
        let q : write_of net out ≡ written_out (Err x) out =
        rw (le-ltb (length out) Limits.study_bytes h, or_false (not (eqb (length net) Limits.network_words))) (unfit net (λ x. written_out (Err x) out) _ e) in
        record { answer = rw q; bytes = rw q }

    module _ (e : is_network net ≡ true) where
      pub text_room : length (text_of (table_of net)) ≤ length out
      text_room = omega (arith, written_fits net e)

      pub wrote : {n : ℕ} {b : List ℕ} → Puts out 0 (text_of (table_of net)) n b → Writes net out (Ok n) b
      wrote {n} {b} p =
          let w = write_takes net e out h in
          let c : n ≡ length (text_of (table_of net)) = omega (arith, p.place) in
          record {
            answer = ap Ok c ∙ rw w;
            bytes = puts_first p text_room ∙ rw w;
          }
