-- T-fresh, T-stays and T-local, of the calls themselves. Assumes nothing.
use Rattle.std.specs.Prelude.{Ok}
use Rattle.std.specs.Prelude.{◌≡◌}
use Rattle.whole.specs.Plain.{ℕ, sym, ◌∙◌, true, length-replicate, eq-eqb, Words, z}
use Rattle.whole.specs.Folds.{both}
use Rattle.paper.specs.Limits as Limits
use Rattle.paper.specs.Network.{is_network}
use Rattle.paper.specs.Advance.{Memory, fits, advance_of}
use Rattle.paper.specs.Resetting.{fresh, reset_out, reset_of}
use Rattle.laws_facts.specs.Nets.{net_in, network_length}
use Rattle.laws_facts.proofs.Nets.{net_sound}
use Rattle.laws_local.specs.Sound.{sound}
use Rattle.laws_local.specs.Owners.{OnlyOwn, writes_own}
use Rattle.laws_local.specs.Outcome.{step_of}
use Rattle.laws_local.specs.Depends.{SameFor, SameOut}
use Rattle.laws_local.proofs.Depends.{depends_on}
use Rattle.laws_stays.specs.Stays.{Long, fresh_well}
use Rattle.laws_stays.proofs.Stays.{stays}
use Rattle.laws_demands.specs.Judged.{Judged, fits_long, call_of}

pub long_fits : (net : Words) (m : Memory) → is_network net ≡ true → Long m → fits net m ≡ true
unfolding fits
long_fits net m e l = both (both (both (eq-eqb _ _ (network_length net e)) (eq-eqb _ _ l.records)) (eq-eqb _ _ l.froms)) (eq-eqb _ _ l.tos)

pub fresh_long : Long fresh
unfolding fresh
fresh_long = record { records = length-replicate Limits.record_words z; froms = length-replicate Limits.store_words z; tos = length-replicate Limits.store_words z }

pub reset_is : (net : Words) (lent : Memory) → fits net lent ≡ true → is_network net ≡ true → reset_of net lent ≡ reset_out (Ok tt) fresh
unfolding reset_of
reset_is net lent f e = rw (f, e)

-- T-fresh: what an accepted reset writes passes 8, 9 and 10
pub fresh_judged : (net : Words) (lent : Memory) → fits net lent ≡ true → is_network net ≡ true → Judged net (reset_of net lent).after
fresh_judged net lent f e =
    rw (reset_is net lent f e) (record { lengths = long_fits net fresh e fresh_long; network = e; formed = fresh_well (net_in net) })

module _ (net : Words) (a : ℕ) (m : Memory) (j : Judged net m) where
  -- T-stays: what passes 8, 9 and 10 does so after every call, refused or accepted
  pub stays_judged : Judged net (advance_of net a m).after
  stays_judged =
      let p = stays (net_in net) (net_sound net j.network) a m (fits_long net m j.lengths) j.formed in
      rw (call_of net a m j) (record { lengths = long_fits net _ j.network p.0; network = j.network; formed = p.1 })

  -- T-local, what is written: nothing but area a's own words
  pub writes_only : OnlyOwn (net_in net) a m (advance_of net a m).after
  writes_only = rw (call_of net a m j) (writes_own (net_in net) a m (sound (net_in net) (net_sound net j.network)) j.formed)

  -- T-local, what is read: "an advance depends on nothing but the network, its own area's records, the far counts and the far values it reads"
  pub reads_only : (m' : Memory) → Judged net m' → SameFor (net_in net) a (step_of (net_in net) a m) m m' → SameOut m m' (advance_of net a m) (advance_of net a m')
  reads_only m' j' s =
      let l = fits_long net m j.lengths in
      let l' = fits_long net m' j'.lengths in
      rw (call_of net a m j, call_of net a m' j')
      (depends_on (net_in net) a m m' (sound (net_in net) (net_sound net j.network))
      (record { records = l.records ∙ sym l'.records; froms = l.froms ∙ sym l'.froms; tos = l.tos ∙ sym l'.tos }) j.formed j'.formed s)
