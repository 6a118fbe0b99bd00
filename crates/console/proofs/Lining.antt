-- One line after the other, as a loop comes to them, and the row that each is.
use Rattle.std.proofs.Common.{◌≡◌, ℕ, suc, ◌+◌, ◌-◌, ◌<◌, Bool, true, false, eqb, List, [], ◌∷◌, ◌++◌, length, get_or, take, drop, min, None, sym, refl, ap, ◌∙◌, subst, inl, inr, append_assoc, append-nil, arith}
use Rattle.std.specs.List.{All, IsFirstMatchOrLen}
use Rattle.std.specs.Str.{bytes_eq}
use Rattle.std.proofs.lemmas.Bool.{cases_Bool, cases_lt, cond-true, cond-false, and_from, and_left}
use Rattle.std.proofs.lemmas.List.{take_more, take_all, take_at, drop_at, get_or-take, get_or_append_left, length-take, nil_from_length, length_push, length-append}
use Rattle.console.specs.Requests.{row_request, line_request, unended, rows_after, rows}

-- bytes of which none is a line feed
abbrev Plain : List ℕ → Type 0
Plain bs = All (λ b. eqb b 10 ≡ false) bs

-- a row's bytes are passed
passed : (front row rest : List ℕ) → Plain row → rows_after front (row ++ rest) ≡ rows_after (front ++ row) rest
passed front [] rest h = ap (λ f. rows_after f rest) (sym (append-nil front))
passed front (b ∷ row) rest h =
    cond-false _ _ _ (h 0 0 (omega arith))
    ∙ passed (front ++ b ∷ []) row rest (λ k d l. h (suc k) d (omega (arith, l)))
    ∙ ap (λ f. rows_after f rest) (append_assoc front (b ∷ []) row)

-- a byte after a row
module _ (row : List ℕ) (b : ℕ) where
  abbrev line : List ℕ
  line = row ++ b ∷ []

  before : length line - 1 ≡ length row
  before = omega (arith, length_push row b)

  last : drop (length line - 1) line ≡ b ∷ []
  last = ap (λ k. drop k line) before ∙ drop_at row (b ∷ []) (length row) refl

  others : take (length line - 1) line ≡ row
  others = ap (λ k. take k line) before ∙ take_at row (b ∷ []) (length row) refl

  fed : eqb b 10 ≡ true → line_request line ≡ row_request row
  fed e = cond-true _ _ _ (ap (λ bs. bytes_eq bs (10 ∷ [])) last ∙ and_from (eqb b 10) true e refl) ∙ ap row_request others

  unfed : eqb b 10 ≡ false → line_request line ≡ None
  unfed e = cond-false _ _ _ (ap (λ bs. bytes_eq bs (10 ∷ [])) last ∙ and_left (eqb b 10) true e)

unended_line : (row : List ℕ) (b : ℕ) → unended (row ++ b ∷ []) ≡ None ∷ []
unended_line [] b = refl
unended_line (a ∷ row) b = refl

rows_line : (row : List ℕ) (b : ℕ) (rest : List ℕ) → Plain row → (eqb b 10 ≡ false → rest ≡ []) → rows ((row ++ b ∷ []) ++ rest) ≡ line_request (row ++ b ∷ []) ∷ rows rest
rows_line row b rest h end =
    ap rows (append_assoc row (b ∷ []) rest)
    ∙ passed [] row (b ∷ rest) h
    ∙ elim (cases_Bool (eqb b 10)) [
      | inl e ↦ cond-true _ _ _ e ∙ ap (λ x. x ∷ rows rest) (sym (fed row b e))
      | inr e ↦
          ap (λ bs. rows_after row (b ∷ bs)) (end e)
          ∙ cond-false _ _ _ e
          ∙ unended_line row b
          ∙ ap (λ x. x ∷ []) (sym (unfed row b e))
          ∙ ap (λ bs. line_request (row ++ b ∷ []) ∷ rows bs) (sym (end e))
    ]

both : {A : Type 0} {b : Bool} → b ≡ true → b ≡ false → A
both p q = let z : ◌≡◌ {A = ℕ} 0 1 = cc in absurd (omega arith)

-- x is the next line, and what follows it is left
pub next_line : (left x rest : List ℕ) (i : ℕ) → left ≡ x ++ rest → length x ≡ min (i + 1) (length left) → IsFirstMatchOrLen (λ b. eqb b 10) left i → 0 < length left → rows left ≡ line_request x ∷ rows rest
next_line left x rest i e n first some =
    let k = length x - 1 in
    let total : length left ≡ length x + length rest = ap length e ∙ length-append x rest in
    let within : k < length x = omega (arith, n, some) in
    let ends : k + 1 ≡ length x = omega (arith, within) in
    let parts : take k x ++ get_or x k 0 ∷ [] ≡ x = sym (take_more x k 0 within) ∙ take_all (k + 1) x (omega (arith, ends)) in
    let same : (j d : ℕ) → j < length x → get_or left j d ≡ get_or x j d = λ j d l. ap (λ bs. get_or bs j d) e ∙ get_or_append_left x rest d j l in
    let plain : Plain (take k x) =
    λ j d l.
    let short : j < k = omega (arith, l, length-take k x) in
    let here : get_or left j d ≡ get_or (take k x) j d = same j d (omega (arith, short)) ∙ sym (get_or-take k x j d short) in
    subst (λ b. eqb b 10 ≡ false) here (first.0 j d (omega arith) (omega (arith, n, short))) in
    let end : eqb (get_or x k 0) 10 ≡ false → rest ≡ [] =
    λ h. elim (cases_lt i (length left)) [
      | inr l ↦ nil_from_length rest (omega (arith, total, n, l))
      | inl l ↦
          let at : i ≡ k = omega (arith, n, l) in
          let fed : eqb (get_or x k 0) 10 ≡ true = subst (λ j. eqb (get_or x j 0) 10 ≡ true) at (subst (λ b. eqb b 10 ≡ true) (same i 0 (omega (arith, n, l))) (first.1 l 0)) in
          both fed h
    ] in
    ap rows e ∙ subst (λ y. rows (y ++ rest) ≡ line_request y ∷ rows rest) parts (rows_line (take k x) (get_or x k 0) rest plain end)
