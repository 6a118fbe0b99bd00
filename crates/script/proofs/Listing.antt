-- Rows of lists that grow at their end.
use Rattle.std.proofs.Common.{◌≡◌, ℕ, suc, ◌+◌, Bool, true, List, [], ◌∷◌, ◌++◌, length, sym, refl, ap, ◌∙◌, append_assoc, append-nil, add-zero, arith}
use Rattle.std.proofs.lemmas.Bool.{and_parts, and_from}
use Rattle.script.specs.declared.reader.Row.{Row}
use Rattle.script.specs.Classes.{Method, Class}
use Rattle.script.specs.Layout.{every, field_row, field_rows, method_rows, methods_rows, class_rows, classes_rows, row_text, rows_text}

pub every-push : {X : Type 0} (test : X → Bool) (xs : List X) (x : X) → every test xs ≡ true → test x ≡ true → every test (xs ++ x ∷ []) ≡ true
every-push test [] x h t = and_from (test x) true t refl
every-push test (y ∷ ys) x h t = let p = and_parts (test y) (every test ys) h in and_from _ _ p.0 (every-push test ys x p.1 t)

pub fields_push : (c k : ℕ) (labels : List ℕ) (l : ℕ) → field_rows c k (labels ++ l ∷ []) ≡ field_rows c k labels ++ field_row c (k + length labels) l ∷ []
fields_push c k [] l = rw add-zero
fields_push c k (x ∷ xs) l =
    let s : suc k + length xs ≡ k + suc (length xs) = omega arith in
    ap (λ rs. field_row c k x ∷ rs) (fields_push c (suc k) xs l ∙ ap (λ n. field_rows c (suc k) xs ++ field_row c n l ∷ []) s)

pub methods_push : (c k : ℕ) (ms : List Method) (m : Method) → methods_rows c k (ms ++ m ∷ []) ≡ methods_rows c k ms ++ method_rows c (k + length ms) m
methods_push c k [] m = rw add-zero (append-nil (method_rows c k m))
methods_push c k (x ∷ xs) m =
    let s : suc k + length xs ≡ k + suc (length xs) = omega arith in
    ap (λ rs. method_rows c k x ++ rs) (methods_push c (suc k) xs m ∙ ap (λ n. methods_rows c (suc k) xs ++ method_rows c n m) s)
    ∙ sym (append_assoc (method_rows c k x) _ _)

pub classes_push : (k : ℕ) (cs : List Class) (c : Class) → classes_rows k (cs ++ c ∷ []) ≡ classes_rows k cs ++ class_rows (k + length cs) c
classes_push k [] c = rw add-zero (append-nil (class_rows k c))
classes_push k (x ∷ xs) c =
    let s : suc k + length xs ≡ k + suc (length xs) = omega arith in
    ap (λ rs. class_rows k x ++ rs) (classes_push (suc k) xs c ∙ ap (λ n. classes_rows (suc k) xs ++ class_rows n c) s)
    ∙ sym (append_assoc (class_rows k x) _ _)

pub text_append : (rs ss : List Row) → rows_text (rs ++ ss) ≡ rows_text rs ++ rows_text ss
text_append [] ss = refl
text_append (r ∷ rs) ss = ap (λ bs. row_text r ++ bs) (text_append rs ss) ∙ sym (append_assoc (row_text r) _ _)
