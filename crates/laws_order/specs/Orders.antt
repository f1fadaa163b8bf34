-- What any two orders of calls agree in, refused calls among them. Assumes nothing.
use Rattle.std.specs.Prelude.{ℕ, ◌≤◌, ◌≡◌, true, false, List}
use Rattle.std.proofs.Common.{le_antisymm, ◌∙◌}
use Rattle.std.proofs.Math.Path.{sym, ap}
use Rattle.std.proofs.Math.ListN.{length}
use Rattle.laws_order.specs.Calls as C
use Rattle.laws_order.specs.Calls.{Moves}
use Rattle.laws_order.specs.Diamond as D
use Rattle.laws_order.specs.Diamond.{Laws}

module _ (M : Moves) where
  open M use {S, Ans, call, after, acc, firm}

  module _ (Inv : S → Type 0) (Y : Laws M Inv) where
    -- ---- the theorems, over any lists of calls, refused ones among them
    pub orders_agree : (w v : List ℕ) (s : S) → Inv s → ((a : ℕ) → C.count M a w s ≡ C.count M a v s) → C.Agree M w v s
    unfolding C.count
    orders_agree w v s i l =
        let p = D.strip_all M Inv Y w s in
        let q = D.strip_all M Inv Y v s in
        let r : C.Agree M (C.strip M w s) (C.strip M v s) s = D.agree_good M Inv Y (C.strip M w s) (C.strip M v s) s i p.0 q.0 (λ a. ap length (p.2 a) ∙ l a ∙ ap length (sym (q.2 a))) in
        (sym p.1 ∙ r.0 ∙ q.1, λ a. sym (p.2 a) ∙ r.1 a ∙ q.2 a)

    most_any : (w v : List ℕ) (s : S) → Inv s → C.Full M (C.run M v s) → (b : ℕ) → C.count M b w s ≤ C.count M b v s
    unfolding C.count
    most_any w v s i f b =
        let p = D.strip_all M Inv Y w s in
        let q = D.strip_all M Inv Y v s in
        rw (← p.2 b, ← q.2 b) (D.most M Inv Y (C.strip M w s) (C.strip M v s) s i p.0 q.0 (rw q.1 f) b)

    -- where every order ends: two that can go no further have the same counts, and agree
    pub orders_end : (w v : List ℕ) (s : S) → Inv s → C.Full M (C.run M w s) → C.Full M (C.run M v s) → ((a : ℕ) → C.count M a w s ≡ C.count M a v s) × C.Agree M w v s
    orders_end w v s i f f' =
        let e : (a : ℕ) → C.count M a w s ≡ C.count M a v s = λ a. le_antisymm (most_any w v s i f' a) (most_any v w s i f a) in
        (e, orders_agree w v s i e)

    -- a refusal other than WAIT comes at that same step in every order: no order advances a further, ..
    pub orders_stop : (a : ℕ) (w v : List ℕ) (s : S) → Inv s → firm (call a (C.run M w s)) ≡ true → acc (call a (C.run M w s)) ≡ false → C.count M a v s ≤ C.count M a w s
    unfolding C.count
    orders_stop a w v s i f r =
        let p = D.strip_all M Inv Y w s in
        let q = D.strip_all M Inv Y v s in
        rw (← p.2 a, ← q.2 a) (D.stop_good M Inv Y a (C.strip M w s) (C.strip M v s) s i p.0 q.0 (rw p.1 f) (rw p.1 r))

    -- .. and where it has come as far and is not told to wait, it gets that answer
    pub orders_answer : (a : ℕ) (w v : List ℕ) (s : S) → Inv s → C.count M a w s ≡ C.count M a v s
        → firm (call a (C.run M w s)) ≡ true → firm (call a (C.run M v s)) ≡ true → call a (C.run M v s) ≡ call a (C.run M w s)
    unfolding C.count
    orders_answer a w v s i l f f' =
        let p = D.strip_all M Inv Y w s in
        let q = D.strip_all M Inv Y v s in
        rw (← p.1, ← q.1) (D.meet_good M Inv Y a (C.strip M w s) (C.strip M v s) s i p.0 q.0 (ap length (p.2 a) ∙ l ∙ ap length (sym (q.2 a))) (rw p.1 f) (rw q.1 f'))
