-- What is lent passes refusals 9, 8 and 10, or the call is answered with the first that it does not pass. Assumes nothing.
use Rattle.std.specs.Prelude.{Err}
use Rattle.std.specs.Prelude.{◌≡◌, ◌&&◌}
use Rattle.whole.specs.Plain.{ℕ, refl, Bool, true, false, eqb, length, eqb-true, Words}
use Rattle.paper.specs.declared.Refusal.TheVariants.{Store, Network, State}
use Rattle.whole.specs.Folds.{and_left, and_right}
use Rattle.paper.specs.Limits as Limits
use Rattle.paper.specs.Network.{is_network}
use Rattle.paper.specs.Areas.{Net}
use Rattle.paper.specs.Records.{well_formed}
use Rattle.paper.specs.Advance.{Memory, advanced, on_net, fits, advance_of}
use Rattle.laws_facts.specs.Nets.{NetSound, net_in}
use Rattle.laws_facts.proofs.Nets.{net_sound}
use Rattle.laws_stays.specs.Stays.{Long}
use Rattle.laws_demands.specs.Said.{IsArea}

-- what is lent passes refusals 9, 8 and 10
pub record Judged (net : Words) (m : Memory) : Type 0 where
  pub lengths : fits net m ≡ true
  pub network : is_network net ≡ true
  pub formed : well_formed (net_in net) m.records m.froms m.tos ≡ true

pub fits_long : (net : Words) (m : Memory) → fits net m ≡ true → Long m
unfolding fits
fits_long net m e = record {
  records = eqb-true (length m.records) Limits.record_words (and_right n r e₂);
  froms = eqb-true (length m.froms) Limits.store_words (and_right (n && r) f e₃);
  tos = eqb-true (length m.tos) Limits.store_words (and_right (n && r && f) t e);
}
  where
    n : Bool
    n = eqb (length net) Limits.network_words

    r : Bool
    r = eqb (length m.records) Limits.record_words

    f : Bool
    f = eqb (length m.froms) Limits.store_words

    t : Bool
    t = eqb (length m.tos) Limits.store_words

    e₃ : n && r && f ≡ true
    e₃ = and_left (n && r && f) t e

    e₂ : n && r ≡ true
    e₂ = and_left (n && r) f e₃

-- the same of a network and one of its areas
pub record Asked (N : Net) (a : ℕ) (m : Memory) : Type 0 where
  pub net : NetSound N
  pub long : Long m
  pub good : well_formed N m.records m.froms m.tos ≡ true
  pub area : IsArea N a

pub asked : (net : Words) (a : ℕ) (m : Memory) → Judged net m → IsArea (net_in net) a → Asked (net_in net) a m
asked net a m j h = record { net = net_sound net j.network; long = fits_long net m j.lengths; good = j.formed; area = h }

module _ (net : Words) (a : ℕ) (m : Memory) where
  abbrev N : Net
  N = net_in net

  pub call_of : Judged net m → advance_of net a m ≡ on_net N a m
  unfolding advance_of
  call_of j = rw (j.lengths, j.network)

  -- 9, 8, 10, or judged
  pub data Call : Type 0 where
    unfit : fits net m ≡ false → advance_of net a m ≡ advanced (Err Store) m → Call
    unread : fits net m ≡ true → is_network net ≡ false → advance_of net a m ≡ advanced (Err Network) m → Call
    unformed : fits net m ≡ true → is_network net ≡ true → well_formed N m.records m.froms m.tos ≡ false → advance_of net a m ≡ advanced (Err State) m → Call
    judged : Judged net m → Call

  pub call : Call
  unfolding advance_of on_net
  call = by_fits (fits net m) refl
    where
      by_formed : (b : Bool) → well_formed N m.records m.froms m.tos ≡ b → fits net m ≡ true → is_network net ≡ true → Call
      by_formed true e f n = judged (record { lengths = f; network = n; formed = e })
      by_formed false e f n = unformed f n e (rw (f, n, e))

      by_network : (b : Bool) → is_network net ≡ b → fits net m ≡ true → Call
      by_network true e f = by_formed (well_formed N m.records m.froms m.tos) refl f e
      by_network false e f = unread f e (rw (f, e))

      by_fits : (b : Bool) → fits net m ≡ b → Call
      by_fits true e = by_network (is_network net) refl e
      by_fits false e = unfit e (rw e)
