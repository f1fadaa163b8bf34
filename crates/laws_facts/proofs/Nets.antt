-- Each record that passes refusal 8, and each table that passes, has the facts of a network. Assumes nothing.
use Rattle.std.specs.Prelude.{◌≤◌, ◌<◌, ◌≡◌, ◌∷◌}
use Rattle.whole.specs.Plain.{ℕ, zero, suc, refl, sym, ap, ◌∙◌, true}
use Rattle.whole.specs.Plain.{List, lit≤, ℤ, pos, length}
use Rattle.whole.specs.Plain.{arith, Words, z, word, nat}
use Rattle.paper.specs.Rows.{Row, kinds, fields_of, source_kind, kind, travel}
use Rattle.paper.specs.Network.{table_of, passes, is_network}
use Rattle.paper.specs.Areas.{net_of, net_on, area_count}
use Rattle.paper.specs.Records.{slot_count}
use Rattle.laws_facts.specs.Sound.{RowSound}
use Rattle.laws_facts.specs.Table as Tables
use Rattle.laws_facts.specs.Areas as Areas
use Rattle.laws_facts.specs.Layout as Layout
use Rattle.laws_facts.specs.Nets.{row_at, NetSound, net_in, row_beyond}

-- of a table: the study's row and the others
pub table_sound : (h : Row) (rows : List Row) → passes (h ∷ rows) ≡ true → NetSound (net_of (h ∷ rows))
unfolding net_of net_on slot_count area_count
table_sound h rows e =
    record {
      study = Tables.study_sound h rows e;
      row = Tables.row_sound h rows e;
      node_most = Tables.node_most_lem h rows e;
      row_most = Tables.row_most_lem h rows e;
      branch_most = Tables.branch_most_lem h rows e;
      source_most = Tables.source_most_lem h rows e;
      slot_most = Tables.slot_most_lem h rows e;
      once = Tables.once h rows e;
      area_length = Areas.length_areas h rows e;
      area_ground = Areas.area_ground_lem h rows e;
      area_least = Areas.area_least_lem h rows e;
      area_most = Areas.area_most_lem h rows e;
      area_one = Areas.one_area h rows e;
      area_some = λ a l k. Areas.area_some_lem h rows e _ a (omega arith) l (omega (arith, Areas.area_count_lem h rows e, k));
      area_linked = Areas.area_linked_lem h rows e;
    }

-- ---- the fourth field, of whatever kind

fourth : (r : Row) {head : Row} {nodes : ℕ} → RowSound head nodes r → (Layout.room_of r ≤ 4 → word r 4 ≡ z) → word r 4 ≡ pos (travel r)
unfolding fields_of source_kind kinds
fourth r s rest = go (kind r) refl s.kind_least s.kind_most
  where
    short : (k : ℕ) → kind r ≡ k → suc (length (fields_of k)) ≤ 4 → word r 4 ≡ pos (travel r)
    short k e h = let q : word r 4 ≡ z = rest (rw e h) in q ∙ ap (λ (x : ℤ). pos (nat x)) (sym q)

    go : (k : ℕ) → kind r ≡ k → 1 ≤ k → k ≤ 9 → word r 4 ≡ pos (travel r)
    go zero e l h = absurd (omega arith)
    go (suc zero) e l h = short 1 e (lit≤ tt)
    go (suc (suc zero)) e l h = short 2 e (lit≤ tt)
    go (suc (suc (suc zero))) e l h = short 3 e (lit≤ tt)
    go (suc (suc (suc (suc zero)))) e l h = (s.line (rw e)).travel_in.is_nat
    go (suc (suc (suc (suc (suc zero))))) e l h = (s.switch (rw e)).closes_in.is_nat
    go (suc (suc (suc (suc (suc (suc zero)))))) e l h = (s.source (rw e)).last_in.is_nat
    go (suc (suc (suc (suc (suc (suc (suc zero))))))) e l h = (s.source (rw e)).last_in.is_nat
    go (suc (suc (suc (suc (suc (suc (suc (suc zero)))))))) e l h = (s.source (rw e)).last_in.is_nat
    go (suc (suc (suc (suc (suc (suc (suc (suc (suc zero))))))))) e l h = (s.switch (rw e)).closes_in.is_nat
    go (suc (suc (suc (suc (suc (suc (suc (suc (suc (suc k)))))))))) e l h = absurd (omega arith)

module _ (net : Words) (e : is_network net ≡ true) where
  pub net_sound : NetSound (net_in net)
  unfolding table_of
  net_sound = table_sound _ _ (Layout.recorded net e).pass

  -- a line's travel, a switch's close, a source's rise or frequency, or 0
  pub travel_word : (i : ℕ) → i < length (net_in net).rows → word (row_at (net_in net) i) 4 ≡ pos (travel (row_at (net_in net) i))
  travel_word i h = fourth (row_at (net_in net) i) (net_sound.row i h) (row_beyond net e i 4 h)
