-- The words that every file speaks: whole numbers, truth values, lists and equality, each from the library that has it, and our own words of lists. Assumes nothing.
pub use Rattle.std.specs.Prelude.{ℕ, suc, ◌≤◌, min, ◌-◌, ◌<◌, zero, ◌+◌, ◌%◌, ◌/◌, ◌*◌, ◌^◌, max, ◌≡◌, refl, ◌≢◌, ◌⊎◌, ◌↔◌, true, false, not, ◌&&◌, Bool, cond, ◌||◌, List, [], ◌∷◌, map, ◌++◌, eqb, leb, ltb, T, pos, ℤ, negsuc, nat_abs, neg_ℤ, ◌+ℤ◌, ◌-ℤ◌, ◌*ℤ◌, length, get_or, drop, set, replicate, take}
pub use Rattle.std.proofs.Common.{ap, ◌∙◌, sym, subst, ⊎_elim, inl, inr, true≢false, append_assoc, lt→ltb, leb→le, ltb→lt, lit<, lit≤, le→leb, length-set, drop_of_length-le, length-take, length-drop, length-append, take-append-drop, ext_get_or, get_or-set_same, get_or-set_other, drop-cons, get_or-take, get_or-drop, length-take-le, get_or-append-add, drop-drop, set-set, take_at, take_all, take-add, take-suc, drop_at, take-take, take-suc-set, eq-eqb, ne_eqb, le-leb, eqb-true, le-ltb, lt-ltb, leb-true, leb-false, ltb-true, ltb-false, add_comm, zero-add, le_trans, div-le_self, mul_assoc, pow-suc, div-one, div-add-mod', le_of_eq, lt_of_le_of_lt, le_of_mul-le-mul_right, mul-le-mul_right, mul-one, mul_right_comm, add-mul, zero-mul, mul-pos, lt_irrefl, lt_of_lt_of_le, mul_comm, mul-lt-mul_of_pos_right, zero-lt-suc, le_of_lt, mod-lt, add_left_cancel, suc-ne-zero, add-zero, div-mul-le_self, mul-le-mul_left, arith}
pub use Rattle.std.proofs.Math.Path.{fun_ext}
pub use Rattle.std.proofs.Math.Bool.{and-false, and_assoc, and-true, and_comm, or-true, or_assoc}
pub use Rattle.std.proofs.lemmas.Bool.{false≢true, not-true, not-false, lt-leb, eqb-false}
pub use Rattle.std.specs.Bool.{beq as bool_beq}
pub use mathlib.Core.List.Memᴰ.{cases_cons as Mem-cases_cons}
pub use mathlib.Core.List.Memᴰ.{not-nil as Mem-not_nil}
pub use mathlib.Core.List.Memᴰ.{append_cases as Mem-append_cases}
pub use mathlib.Core.List.Memᴰ.{append_left as Mem-append_left}
pub use mathlib.Core.List.{append-nil, tail, map-map}
pub use mathlib.Core.List.Memᴰ.{append_right as Mem-append_right}
pub use mathlib.Core.List.Memᴰ.{head as Mem-head}
pub use mathlib.Core.List.Memᴰ.{tail as Mem-tail}
pub use mathlib.Core.List.{Memᴰ as Mem}
pub use Rattle.std.proofs.Math.Dec.{leb-zero as leb-zero, leb-suc-zero, eqb-suc-zero, eqb-zero-suc}
pub use Rattle.std.proofs.Math.IntN.{+ℤ_assoc, +ℤ_comm, +ℤ_idr, zero-*ℤ, neg_ℤ-+ℤ, +ℤ_idl, +ℤ_one, neg_ℤ-neg_ℤ, suc_ℤ, pred_ℤ, sub_ℕ, *ℤ-zero, suc_ℤ-*ℤ, pred_ℤ-*ℤ, *ℤ_comm, suc_ℤ-+ℤ, pred_ℤ-+ℤ}
pub use Rattle.std.specs.Int.Signed.{le_z, non_neg, quot_z, lt_z, mag, shr_z, mag_shr}
pub use Rattle.std.proofs.Math.ListN.{get_or-eq_default as get_or-eq_default, get_or-append, get_or-map}
pub use Rattle.std.proofs.lemmas.List.{get_or-replicate, length-replicate, length-map, set-get_or, set_comm, get_or_at, set_at, set-append_left}
pub use Rattle.std.proofs.lemmas.List.Edits.{sets, sets-eq}
pub use Rattle.std.proofs.Math.Seq.{length-sets, take-length, set_out, append_snoc, drop-length, drop-append-add}
pub use Rattle.std.proofs.Math.Nat.{pow-succ', one-le-pow, div-div-eq-div-mul, div-le_of_le-mul, add-div_right, zero-div, mul-sub, mod-add-div', suc_inj, div-eq_of_lt-le, lt-div-mul-add}
pub use Rattle.std.proofs.Math.Decide.{dec_le, ℕ_discrete, dec_lt}
pub use Rattle.whole.specs.Lists.{Words, z, word, nat, empty}
unfoldable pub use Rattle.whole.specs.Lists.{between, up_to, same, same_words, same_bytes, lead, final, filled}
unfoldable pub use Rattle.whole.specs.Lists.{every, any, count, keep, sum, total, fold, numbers, first, within}
