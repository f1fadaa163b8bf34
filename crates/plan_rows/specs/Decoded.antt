-- One row of a network, by its words: each is what the plan has of it. Assumes nothing.
use Rattle.std.specs.Prelude.{◌+◌, ◌≤◌, ◌<◌, ◌≡◌}
use Rattle.whole.specs.Plain.{ℕ, zero, suc, max, refl, sym, ap, ◌∙◌, Bool, true, false, cond, List}
use Rattle.whole.specs.Plain.{lit≤, ℤ, pos, length, get_or, arith, Words, z, word, nat}
use Rattle.paper.specs.Limits as Limits
use Rattle.paper.specs.Rows as Rows
use Rattle.paper.specs.Rows.{fields_of, kinds, kind, is_branch, is_line, size}
use Rattle.paper.specs.Classes.{line_branch}
use Rattle.paper.specs.Conductance.{conductance, of_ohms, of_henries, of_farads}
use Rattle.paper.specs.Faults.{slots}
use Rattle.paper.specs.Network.{is_network}
use Rattle.paper.specs.Areas.{Net, step, named, area_of}
use Rattle.paper.specs.Records.{offset}
use Rattle.laws_facts.specs.Fields.{Within}
use Rattle.laws_facts.specs.Sound.{RowSound, named_branch, named_source}
use Rattle.laws_facts.specs.Nets.{NetSound, net_in, row_at, slots_within, row_beyond}
use Rattle.laws_facts.proofs.Nets.{net_sound}
use Rattle.plan_record.specs.Mapped.{Mapped}
use Rattle.plan_ends.specs.Own.{owner_of}
use Rattle.text_faults.specs.Seen.{Sized, conductance_of}
use Rattle.plan_rows.specs.ByKind.{owner_by, source_else}
use Rattle.plan_rows.specs.Planned.{conductance_at, to_at, row_of, Noded}

-- the code's conductance, of what it has read
pub conductance_is : (step k : ℕ) (r : Rows.Row) → k ≡ kind r → conductance_of step k (size r) ≡ conductance step r
unfolding conductance_of conductance of_henries of_farads of_ohms
conductance_is step k r e = rw e

-- ---- one row of a network
module _ {N : Net} (s : NetSound N) (i : ℕ) (h : i < length N.rows) where
  abbrev row : RowSound N.head N.nodes (row_at N i)
  row = s.row i h

  pub no_branch : is_branch (row_at N i) ≡ false → (to_at N i ≡ 0) × (conductance_at N i ≡ 0)
  unfolding to_at conductance_at
  no_branch b = (rw b, rw b)

  pub branch : is_branch (row_at N i) ≡ true → (to_at N i ≡ nat (word (row_at N i) 2)) × (conductance_at N i ≡ conductance (step N) (row_at N i))
  unfolding to_at conductance_at
  branch b = (rw b, rw b)

  -- the first word names a node, whatever the kind
  pub from_in : Within 0 N.nodes (word (row_at N i) 1)
  from_in = go (is_branch (row_at N i)) refl
    where
      go : (b : Bool) → is_branch (row_at N i) ≡ b → Within 0 N.nodes (word (row_at N i) 1)
      go true b = (row.branch b).from_in
      go false b = let w = (row.source (source_else (row_at N i) row b)).at_in in record { is_nat = w.is_nat; least = omega arith; most = w.most }

  pub to_most : to_at N i ≤ N.nodes
  to_most = go (is_branch (row_at N i)) refl
    where
      go : (b : Bool) → is_branch (row_at N i) ≡ b → to_at N i ≤ N.nodes
      go true b = omega (arith, (branch b).0, (row.branch b).to_in.most)
      go false b = omega (arith, (no_branch b).0)

  pub noded : Noded (row_of N i)
  unfolding row_of
  noded = record { kind_end = row.kind_most; from_end = omega (arith, from_in.most, s.node_most); to_end = omega (arith, to_most, s.node_most) }

  pub named_is : named (row_at N i) ≡ max (nat (word (row_at N i) 1)) (to_at N i)
  named_is = go (is_branch (row_at N i)) refl
    where
      go : (b : Bool) → is_branch (row_at N i) ≡ b → named (row_at N i) ≡ max (nat (word (row_at N i) 1)) (to_at N i)
      go true b = rw (branch b).0 (named_branch (row_at N i) b)
      go false b = omega (arith, named_source (row_at N i) (source_else (row_at N i) row b), (no_branch b).0)

  -- a branch's size, for its conductance
  pub sized : is_branch (row_at N i) ≡ true → Sized (step N) (kind (row_at N i)) (size (row_at N i))
  sized b =
      let p = row.branch b in
      record { long = s.study.step_in.least; short = s.study.step_in.most; some = p.size_in.least; most = p.size_in.most; farads = p.farads }

  pub slots_end : offset N i + slots N.head (row_at N i) ≤ Limits.store_words
  slots_end = omega (arith, slots_within N i h, s.slot_most)

  -- whose its two ends are
  module _ {area : List ℕ} (m : Mapped N area) where
    by_area : (n : ℕ) → n ≤ N.nodes → get_or area n 0 ≡ area_of N n
    by_area n l = m.area_at n (omega (arith, s.node_most))

    pub owner_from : owner_by area (kind (row_at N i)) (nat (word (row_at N i) 1)) (to_at N i) ≡ owner_of N (row_at N i) 1
    unfolding owner_by owner_of
    owner_from = go (is_line (row_at N i)) refl (is_branch (row_at N i)) refl
      where
        go : (l : Bool) → is_line (row_at N i) ≡ l → (b : Bool) → is_branch (row_at N i) ≡ b
            → cond l (get_or area (nat (word (row_at N i) 1)) 0) (cond b (get_or area (max (nat (word (row_at N i) 1)) (to_at N i)) 0) 0)
            ≡ cond l (area_of N (nat (word (row_at N i) 1))) (cond b (area_of N (max (nat (word (row_at N i) 1)) (nat (word (row_at N i) 2)))) 0)
        go true p b q = by_area _ from_in.most
        go false p true q = rw (branch q).0 (by_area _ (omega (arith, from_in.most, (row.branch q).to_in.most)))
        go false p false q = refl

    pub owner_to : owner_by area (kind (row_at N i)) (to_at N i) (nat (word (row_at N i) 1)) ≡ owner_of N (row_at N i) 2
    unfolding owner_by owner_of
    owner_to = go (is_line (row_at N i)) refl (is_branch (row_at N i)) refl
      where
        line : is_line (row_at N i) ≡ true → is_branch (row_at N i) ≡ true
        line p = line_branch (row_at N i) p

        go : (l : Bool) → is_line (row_at N i) ≡ l → (b : Bool) → is_branch (row_at N i) ≡ b
            → cond l (get_or area (to_at N i) 0) (cond b (get_or area (max (to_at N i) (nat (word (row_at N i) 1))) 0) 0)
            ≡ cond l (area_of N (nat (word (row_at N i) 2))) (cond b (area_of N (max (nat (word (row_at N i) 1)) (nat (word (row_at N i) 2)))) 0)
        go true p b q = rw (branch (line p)).0 (by_area _ (row.branch (line p)).to_in.most)
        go false p true q =
            let e : max (to_at N i) (nat (word (row_at N i) 1)) ≡ max (nat (word (row_at N i) 1)) (nat (word (row_at N i) 2)) = omega (arith, (branch q).0) in
            rw e (by_area _ (omega (arith, from_in.most, (row.branch q).to_in.most)))
        go false p false q = refl

-- ---- of the record
module _ (net : Words) (e : is_network net ≡ true) where
  -- `study`: step length, steps, limit
  pub study_word : (j : ℕ) → j < 3 → word (net_in net).head (suc j) ≡ pos (nat (word (net_in net).head (suc j)))
  study_word zero l = (net_sound net e).study.step_in.is_nat
  study_word (suc zero) l = (net_sound net e).study.steps_in.is_nat
  study_word (suc (suc zero)) l = (net_sound net e).study.limit_in.is_nat
  study_word (suc (suc (suc j))) l = absurd (omega arith)

  -- a switch's open, or 0
  pub open_word : (i : ℕ) → i < length (net_in net).rows → word (row_at (net_in net) i) 5 ≡ pos (Rows.opens (row_at (net_in net) i))
  unfolding fields_of kinds
  open_word i h = go (kind (row_at (net_in net) i)) refl ((net_sound net e).row i h).kind_least ((net_sound net e).row i h).kind_most
    where
      short : (k : ℕ) → kind (row_at (net_in net) i) ≡ k → suc (length (fields_of k)) ≤ 5 → word (row_at (net_in net) i) 5 ≡ pos (Rows.opens (row_at (net_in net) i))
      short k q l = let o : word (row_at (net_in net) i) 5 ≡ z = row_beyond net e i 5 h (rw q l) in o ∙ ap (λ (x : ℤ). pos (nat x)) (sym o)

      go : (k : ℕ) → kind (row_at (net_in net) i) ≡ k → 1 ≤ k → k ≤ 9 → word (row_at (net_in net) i) 5 ≡ pos (Rows.opens (row_at (net_in net) i))
      go zero q l m = absurd (omega arith)
      go (suc zero) q l m = short 1 q (lit≤ tt)
      go (suc (suc zero)) q l m = short 2 q (lit≤ tt)
      go (suc (suc (suc zero))) q l m = short 3 q (lit≤ tt)
      go (suc (suc (suc (suc zero)))) q l m = short 4 q (lit≤ tt)
      go (suc (suc (suc (suc (suc zero))))) q l m = (((net_sound net e).row i h).switch (rw q)).opens_in.is_nat
      go (suc (suc (suc (suc (suc (suc zero)))))) q l m = short 6 q (lit≤ tt)
      go (suc (suc (suc (suc (suc (suc (suc zero))))))) q l m = short 7 q (lit≤ tt)
      go (suc (suc (suc (suc (suc (suc (suc (suc zero)))))))) q l m = short 8 q (lit≤ tt)
      go (suc (suc (suc (suc (suc (suc (suc (suc (suc zero))))))))) q l m = (((net_sound net e).row i h).switch (rw q)).opens_in.is_nat
      go (suc (suc (suc (suc (suc (suc (suc (suc (suc (suc k)))))))))) q l m = absurd (omega arith)
