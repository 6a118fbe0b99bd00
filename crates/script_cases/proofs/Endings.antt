-- How far a text's ending is, line by line.
use Rattle.std.proofs.Common.{◌≡◌, ℕ, suc, ◌+◌, ◌-◌, ◌≤◌, true, false, not, cond, eqb, List, [], ◌∷◌, length, drop, is_some, None, sym, refl, ap, ◌∙◌, ⊎_elim, arith, length-drop}
use Rattle.std.proofs.str.Laws.{order}
use Rattle.std.proofs.lemmas.List.{drop_all, drop-drop}
use Rattle.script_cases.specs.Lines.{to_feed, line_of, after_line, ending_of, to_ending}

-- as many bytes as a line and its line feed take up
abbrev line_size : List ℕ → ℕ
line_size bs = length bs - length (after_line bs)

-- within a line no ending is looked for
within_line : (bs : List ℕ) → to_ending false bs ≡ line_size bs + to_ending true (after_line bs)
within_line [] = refl
within_line (b ∷ bs) =
    elim (eqb b 10) as (λ t. 1 + to_ending t bs ≡ (suc (length bs) - length (drop (cond (not t) (1 + to_feed bs) 0 + 1) (b ∷ bs))) + to_ending true (drop (cond (not t) (1 + to_feed bs) 0 + 1) (b ∷ bs))) [
      | true ↦ omega arith
      | false ↦
          let on : 1 + to_feed bs + 1 ≡ suc (to_feed bs + 1) = omega arith in
          let same : drop (1 + to_feed bs + 1) (b ∷ bs) ≡ after_line bs = ap (λ n. drop n (b ∷ bs)) on in
          omega (arith, within_line bs, ap length same, ap (to_ending true) same, length-drop (to_feed bs + 1) bs)
    ]

-- a line that says no ending belongs to the text
line_passed : (bs : List ℕ) → ending_of (line_of bs) ≡ None → to_ending true bs ≡ line_size bs + to_ending true (after_line bs)
line_passed [] none = refl
line_passed (b ∷ bs) none = ap (λ o. cond (is_some o) 0 (1 + to_ending (eqb b 10) bs)) none ∙ within_line (b ∷ bs)

-- the rest stands at the end of the lines, and what was passed before it are lines that say no ending
pub record Passed (lines rest : List ℕ) : Type 0 where
  pub within : length rest ≤ length lines
  pub back : drop (length lines - length rest) lines ≡ rest
  pub far : to_ending true lines ≡ (length lines - length rest) + to_ending true rest

-- a place is known by what is left after it
place_of-rest : (n : ℕ) (lines : List ℕ) → drop (length lines - length (drop n lines)) lines ≡ drop n lines
place_of-rest n lines =
    let left = length-drop n lines in
    ⊎_elim
    (λ lt. let at : length lines - length (drop n lines) ≡ n = omega arith in ap (λ m. drop m lines) at)
    (λ le. let at : length lines ≤ length lines - length (drop n lines) = omega arith in drop_all _ lines at ∙ sym (drop_all n lines le))
    (order n (length lines))

pub passed_more : (lines rest next : List ℕ) → Passed lines rest → next ≡ after_line rest → ending_of (line_of rest) ≡ None → Passed lines next
passed_more lines rest next passed is none =
    let n = length lines - length rest in
    let far = to_feed rest + 1 in
    let deep : next ≡ drop (n + far) lines = is ∙ ap (drop far) (sym passed.back) ∙ drop-drop far n lines in
    let long = ap length is ∙ length-drop far rest in
    record {
      within = omega (arith, long, passed.within);
      back = ap (λ l. drop (length lines - length l) lines) deep ∙ place_of-rest (n + far) lines ∙ sym deep;
      far = omega (arith, long, passed.within, passed.far, line_passed rest none, ap length is, ap (to_ending true) is);
    }
