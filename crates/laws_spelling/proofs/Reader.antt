-- The reader goes by the lines of a spelling alone, finds no FORM in it, and takes no other text. Assumes nothing.
use Rattle.std.specs.Prelude.{◌<◌, ◌≤◌, ◌≡◌, ◌≢◌, ◌||◌, ◌∷◌, ◌++◌}
use Rattle.whole.specs.Plain.{ℕ, zero, suc, refl, sym, ap, ◌∙◌, Bool, true, false, cond, not}
use Rattle.whole.specs.Plain.{bool_beq, true≢false, List, [], map, tail, append_assoc, append-nil, eqb, ltb}
use Rattle.whole.specs.Plain.{lit≤, length, get_or, ne_eqb, arith, Words, empty, lead, final, fold}
use Rattle.whole.specs.Folds.{both, fold_keeps}
use Rattle.paper.specs.declared.Fault.{Fault}
use Rattle.paper.specs.declared.Fault.TheVariants.{Double, Full}
use Rattle.paper.specs.Limits as Limits
use Rattle.paper.specs.Rows.{Row, is_study}
use Rattle.paper.specs.Faulted.{fault_number}
use Rattle.paper.specs.Faults.{node_fault, value_fault, travel_fault, double_fault, full_fault, line_fault, row_fault}
use Rattle.paper.specs.Text.{LF, split, formed, row_of}
use Rattle.paper.specs.Network.{Table}
use Rattle.paper.specs.Answers.{reading_number}
use Rattle.paper.specs.Reading.{Lines, good, bad, line_number, fault_of, taken, line_read, closed, lines_of, faulty, Read-out, read_end, read_of}
use Rattle.paper.proofs.Kept.{either}
use Rattle.laws_spelling.specs.Lines.{Sayable, spell_line}
use Rattle.laws_spelling.proofs.Lines.{line_row, line_formed}
use Rattle.laws_spelling.specs.Texts.{all_formed, well_spelt, Sayables, Spelling, lines_in}
use Rattle.laws_spelling.proofs.Texts.{text_lead, text_final}

-- ---- the reader, over rows

unfoldable pub row_read : Lines → Row → Lines
row_read (good seen) r = taken seen r (row_fault seen r)
row_read (bad l f) r = bad l f

pub not_empty : {A : Type 0} (l : List A) (a : A) → empty (l ++ (a ∷ [])) ≡ false
not_empty [] a = refl
not_empty (x ∷ l) a = refl

line_taken : (seen : Table) (r : Row) → Sayable r → bool_beq (empty seen) (is_study r) ≡ true → line_read (good seen) (spell_line r) ≡ taken seen r (row_fault seen r)
unfolding line_read fault_of
line_taken seen r s e = rw (line_formed (empty seen) r s e, line_row r s)

lines_bad : (l f : ℕ) (ls : List (List ℕ)) → fold line_read (bad l f) ls ≡ bad l f
unfolding fold line_read
lines_bad l f [] = refl
lines_bad l f (x ∷ ls) = lines_bad l f ls

pub rows_bad : (l f : ℕ) (rs : List Row) → fold row_read (bad l f) rs ≡ bad l f
unfolding fold row_read
rows_bad l f [] = refl
rows_bad l f (x ∷ rs) = rows_bad l f rs

lines_rows : (seen : Table) (rows : List Row) → Sayables (empty seen) rows → fold line_read (good seen) (map spell_line rows) ≡ fold row_read (good seen) rows
unfolding fold row_read
lines_rows seen [] s = refl
lines_rows seen (r ∷ rows) s =
    ap (λ (x : Lines). fold line_read x (map spell_line rows)) (line_taken seen r s.0 s.1)
    ∙ elim (row_fault seen r) as (λ f. fold line_read (taken seen r f) (map spell_line rows) ≡ fold row_read (taken seen r f) rows)
    [ zero ↦ lines_rows (seen ++ (r ∷ [])) rows (rw (not_empty seen r) s.2) | suc f ↦ lines_bad (line_number seen) (suc f) (map spell_line rows) ∙ sym (rows_bad (line_number seen) (suc f) rows) ]

-- what it has taken are the rows
pub rows_good : (seen : Table) (rows : List Row) (t : Table) → fold row_read (good seen) rows ≡ good t → t ≡ seen ++ rows
unfolding fold row_read
rows_good seen [] t e = let q : seen ≡ t = cc in sym q ∙ sym (append-nil seen)
rows_good seen (r ∷ rows) t e =
    elim (row_fault seen r) as (λ f. fold row_read (taken seen r f) rows ≡ good t → t ≡ seen ++ (r ∷ rows)) [
      | zero ↦ λ q. rows_good (seen ++ (r ∷ [])) rows t q ∙ append_assoc seen (r ∷ []) rows
      | suc f ↦ λ q. let x : bad (line_number seen) (suc f) ≡ good t = sym (rows_bad (line_number seen) (suc f) rows) ∙ q in cc
    ] e

closed_same : (x : Lines) → ((t : Table) → x ≡ good t → empty t ≡ false) → closed [] x ≡ x
unfolding closed
closed_same (good t) h = rw (h t refl)
closed_same (bad l f) h = refl

some_empty : (rows t : Table) → 0 < length rows → t ≡ rows → empty t ≡ false
some_empty [] t h e = absurd (omega arith)
some_empty (r ∷ rows) t h e = ap empty e

pub spelling_read : (rows : Table) (text : List ℕ) → Spelling rows text → lines_of text ≡ fold row_read (good []) rows
unfolding lines_of
spelling_read rows text s =
    rw (s.is, text_lead rows, text_final rows, lines_rows [] rows s.lines)
    (closed_same (fold row_read (good []) rows) (λ t e. some_empty rows t s.some (rows_good [] rows t e)))

-- ---- a text that it takes is a spelling

record Takes (seen : Table) (ls : List (List ℕ)) (t : Table) : Type 0 where
  formed : all_formed (empty seen) ls ≡ true
  is : t ≡ seen ++ map row_of ls

lines_good : (seen : Table) (ls : List (List ℕ)) (t : Table) → fold line_read (good seen) ls ≡ good t → Takes seen ls t
unfolding fold line_read all_formed fault_of
lines_good seen [] t e = let q : seen ≡ t = cc in record { formed = refl; is = sym q ∙ sym (append-nil seen) }
lines_good seen (l ∷ ls) t e =
    elim (formed (empty seen) l) as (λ b. formed (empty seen) l ≡ b → fold line_read (taken seen (row_of l) (cond b (row_fault seen (row_of l)) 1)) ls ≡ good t → Takes seen (l ∷ ls) t) [
      | true ↦ λ p. elim (row_fault seen (row_of l)) as (λ f. fold line_read (taken seen (row_of l) f) ls ≡ good t → Takes seen (l ∷ ls) t) [
        | zero ↦ λ q. let m = lines_good (seen ++ (row_of l ∷ [])) ls t q in record { formed = both p (rw (not_empty seen (row_of l)) at m.formed); is = m.is ∙ append_assoc seen (row_of l ∷ []) (map row_of ls) }
        | suc f ↦ λ q. absurd (stopped (line_number seen) (suc f) q)
      ]
      | false ↦ λ p q. absurd (stopped (line_number seen) 1 q)
    ] refl e
  where
    stopped : (x y : ℕ) → fold line_read (bad x y) ls ≡ good t → ⊥
    stopped x y q = let w : bad x y ≡ good t = sym (lines_bad x y ls) ∙ q in let z : ◌≡◌ {A = ℕ} 0 1 = cc in omega arith

record Closed (rest : List ℕ) (x : Lines) (t : Table) : Type 0 where
  ended : empty rest ≡ true
  some : empty t ≡ false
  is : x ≡ good t

closed_good : (rest : List ℕ) (x : Lines) (t : Table) → closed rest x ≡ good t → Closed rest x t
unfolding closed
closed_good rest (bad l f) t e = let z : ◌≡◌ {A = ℕ} 0 1 = cc in absurd (omega arith)
closed_good rest (good seen) t e = go (empty rest) (empty seen) refl refl e
  where
    go : (x y : Bool) → empty rest ≡ x → empty seen ≡ y → cond (not x || y) (bad (line_number seen) 1) (good seen) ≡ good t → Closed rest (good seen) t
    go true true p q w = record { ended = p; some = cc; is = cc }
    go true false p q w = let s : seen ≡ t = cc in record { ended = p; some = ap empty (sym s) ∙ q; is = w }
    go false y p q w = record { ended = cc; some = cc; is = cc }

lines_some : (ls : List (List ℕ)) → empty (map row_of ls) ≡ false → not (empty ls) ≡ true
lines_some [] e = absurd (true≢false e)
lines_some (l ∷ ls) e = refl

pub taken_spelt : (text : List ℕ) (t : Table) → lines_of text ≡ good t → (well_spelt text ≡ true) × (t ≡ lines_in text)
unfolding lines_of well_spelt
taken_spelt text t e =
    let c = closed_good (final [] (split LF text)) (fold line_read (good []) (lead (split LF text))) t e in
    let m = lines_good [] (lead (split LF text)) t c.is in
    (both (both c.ended (lines_some (lead (split LF text)) (ap empty (sym m.is) ∙ c.some))) m.formed, m.is)

-- ---- no FORM in a spelling

row_fault_number : (b : Bool) (n m : ℕ) → m ≢ 1 → cond b (suc (suc n)) m ≢ 1
row_fault_number b n m h = either (λ (f : ℕ). f ≢ 1) b (suc (suc n)) m (λ e. omega arith) h

row_no_form : (seen : Table) (r : Row) → row_fault seen r ≢ 1
unfolding row_fault line_fault
row_no_form seen r =
    let head = get_or seen 0 [] in
    row_fault_number (node_fault r) 0 _
    (row_fault_number (value_fault head r) 1 _ (row_fault_number (travel_fault head r) 2 _ (row_fault_number (double_fault (tail seen) r) 3 _ (row_fault_number (full_fault head (tail seen) r) 4 0 (λ e. omega arith)))))

OtherThanForm : Lines → Type 0
OtherThanForm (good t) = Unit {0}
OtherThanForm (bad l f) = f ≢ 1

read_other : (x : Lines) (r : Row) → OtherThanForm x → OtherThanForm (row_read x r)
unfolding OtherThanForm row_read
read_other (good seen) r p = elim (row_fault seen r) as (λ f. f ≢ 1 → OtherThanForm (taken seen r f)) [ zero ↦ λ h. tt | suc f ↦ λ h. h ] (row_no_form seen r)
read_other (bad l f) r p = p

pub faulty_other : (l f : ℕ) → f ≢ 1 → 2 ≤ reading_number (faulty l f)
unfolding faulty
faulty_other l f h =
    let P : Fault → Type 0 = λ x. 2 ≤ fault_number x in
    rw (ne_eqb f 1 h) (either P (eqb f 2) _ _ (lit≤ tt) (either P (eqb f 3) _ _ (lit≤ tt) (either P (eqb f 4) _ _ (lit≤ tt) (either P (eqb f 5) Double Full (lit≤ tt) (lit≤ tt)))))

end_other : (net : Words) (x : Lines) → OtherThanForm x → reading_number (read_end net x).answer ≢ 1
unfolding OtherThanForm
end_other net (good t) p = λ e. omega arith
end_other net (bad l f) p = λ e. omega (arith, faulty_other l f p)

pub spelling_no_form : (rows : Table) (text : List ℕ) (net : Words) → Spelling rows text → reading_number (read_of text net).answer ≢ 1
unfolding read_of OtherThanForm
spelling_no_form rows text net s =
    either (λ (r : Read-out). reading_number r.answer ≢ 1) (not (eqb (length net) Limits.network_words)) _ _ (λ e. omega arith)
    (either (λ (r : Read-out). reading_number r.answer ≢ 1) (ltb Limits.text_end (length text)) _ _ (λ e. omega arith)
    (rw (spelling_read rows text s) (end_other net (fold row_read (good []) rows) (fold_keeps OtherThanForm row_read read_other (good []) rows tt))))
