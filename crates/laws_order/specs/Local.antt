-- What a solver owes for its moves to have the diamond: each area writes only its own cells, reads only its own cells and what it hears
-- from far ends, and what it is about to hear is not disturbed. From these the diamond. Assumes nothing.
use Rattle.std.specs.Prelude.{ℕ, ◌≡◌, ◌≢◌, true, false}
use Rattle.std.proofs.Math.Decide.{ℕ_discrete}
use Rattle.std.proofs.Common.{sym, ◌∙◌}
use Rattle.laws_order.specs.Calls.{Moves}
use Rattle.laws_order.specs.Diamond.{Laws}

pub record Local (M : Moves) (Inv : M.S → Type 0) : Type 1 where
  pub Cell : Type 0
  pub Val : Type 0
  pub H : Type 0
  pub at : M.S → Cell → Val
  pub owner : Cell → ℕ
  -- what area a's next step hears from far ends; nothing, where it has no next step
  pub heard : ℕ → M.S → H
  pub acc_firm : (x : M.Ans) → M.acc x ≡ true → M.firm x ≡ true
  pub ext : (s t : M.S) → Inv s → Inv t → ((c : Cell) → at s c ≡ at t c) → s ≡ t
  pub stay : (a : ℕ) (s : M.S) → M.acc (M.call a s) ≡ false → M.after a s ≡ s
  pub keep : (a : ℕ) (s : M.S) → Inv s → Inv (M.after a s)
  pub writes : (a : ℕ) (s : M.S) (c : Cell) → Inv s → owner c ≢ a → at (M.after a s) c ≡ at s c
  pub reads : (a : ℕ) (s t : M.S) → Inv s → Inv t → ((c : Cell) → owner c ≡ a → at s c ≡ at t c) → heard a s ≡ heard a t
      → M.firm (M.call a s) ≡ true → M.firm (M.call a t) ≡ true
      → (M.call a s ≡ M.call a t) × ((c : Cell) → owner c ≡ a → at (M.after a s) c ≡ at (M.after a t) c)
  pub alive : (a b : ℕ) (s : M.S) → Inv s → a ≢ b → M.acc (M.call a s) ≡ true → M.firm (M.call b s) ≡ true → M.firm (M.call b (M.after a s)) ≡ true
  pub quiet : (a b : ℕ) (s : M.S) → Inv s → a ≢ b → M.acc (M.call a s) ≡ true → M.firm (M.call b s) ≡ true → heard b (M.after a s) ≡ heard b s

module _ (M : Moves) (Inv : M.S → Type 0) (L : Local M Inv) where
  open M use {S, Ans, call, after, acc, firm}
  open L use {Cell, Val, H, at, owner, heard, acc_firm, ext, stay, keep, writes, reads, alive, quiet}

  abbrev Same-for : ℕ → S → S → Type 0
  Same-for b s t = (call b s ≡ call b t) × ((c : Cell) → owner c ≡ b → at (after b s) c ≡ at (after b t) c)

  -- a's accepted step leaves b's next one as it was
  pub beside : (a b : ℕ) (s : S) → Inv s → a ≢ b → acc (call a s) ≡ true → firm (call b s) ≡ true → Same-for b (after a s) s
  beside a b s i n ok f =
      reads b (after a s) s (keep a s i) i (λ c o. writes a s c i (λ q. n (sym q ∙ o))) (quiet a b s i n ok f) (alive a b s i n ok f) f

  pub swap : (a b : ℕ) (s : S) → Inv s → a ≢ b → acc (call a s) ≡ true → acc (call b s) ≡ true → after b (after a s) ≡ after a (after b s)
  swap a b s i n ok ok' = ext _ _ (keep b _ (keep a s i)) (keep a _ (keep b s i)) λ c. by_owner c (ℕ_discrete (owner c) a) (ℕ_discrete (owner c) b)
    where
      by_owner : (c : Cell) → Dec (owner c ≡ a) → Dec (owner c ≡ b) → at (after b (after a s)) c ≡ at (after a (after b s)) c
      by_owner c (yes p) d = writes b (after a s) c (keep a s i) (λ q. n (sym p ∙ q)) ∙ sym ((beside b a s i (λ q. n (sym q)) ok' (acc_firm _ ok)).1 c p)
      by_owner c (no p) (yes q) = (beside a b s i n ok (acc_firm _ ok')).1 c q ∙ sym (writes a (after b s) c (keep b s i) p)
      by_owner c (no p) (no q) = writes b (after a s) c (keep a s i) q ∙ writes a s c i p ∙ sym (writes b s c i q) ∙ sym (writes a (after b s) c (keep b s i) p)

  pub laws : Laws M Inv
  laws = record { acc_firm = acc_firm; stay = stay; keep = keep; hold = λ a b s i n ok f. (beside a b s i n ok f).0; swap = swap }
