-- A request is read from its row, and from nothing else.
use Rattle.std.proofs.Common.{◌≡◌, ℕ, zero, suc, true, ◌&&◌, List, [], ◌∷◌, ◌++◌, length, ℤ, pos, negsuc, Some, codes, sym, refl, ap, ◌∙◌, subst, append_assoc, append-nil}
use Rattle.std.specs.Fmt.{signed_decimal}
use Rattle.std.proofs.lemmas.Bool.{and_parts, and_from}
use Rattle.script.specs.Bytes.{Got, got, bad, then, NoDigit, byte_at, bytes_at, number_at, column_at}
use Rattle.script.specs.Layout.{every, fits_32}
use Rattle.script.proofs.Spelling.{number_back, number_only}
use Rattle.script.proofs.Lines.{none, bytes_only}
use Rattle.script.proofs.Columns.{fits_only, fits_back}
use Rattle.rules.specs.declared.calls.Argument.{Argument}
use Rattle.rules.specs.Calling.{Request, make, post, turn, collect, note, bearer, natural}
use Rattle.console.specs.declared.reader.Word.{Word}
use Rattle.console.specs.declared.reader.Word.TheVariants.{Make, Post, Turn, Collect, Note}
use Rattle.console.specs.Requests.{or_else, word_at, argument_at, arguments_on, arguments_for, values_at, request_at, whole, row_request}
use Rattle.console.specs.Laws.{columns, pairs, letters_of, values_of, request_text, formed, RowsExactly}

-- FROM ITS ROW

no_digit : (zs : List ℤ) → NoDigit (columns zs)
no_digit [] = tt
no_digit (z ∷ zs) = refl

-- a piece that is there, and what follows it
module _ {Y : Type 0} where
  number_on : (z : ℤ) (rest : List ℕ) (k : ℤ → List ℕ → Got Y) → fits_32 z ≡ true → then (number_at (signed_decimal z ++ (32 ∷ rest))) k ≡ k z (32 ∷ rest)
  number_on z rest k f = ap (λ g. then g k) (number_back z (32 ∷ rest) (fits_back z f) refl)

  column_on : (z : ℤ) (zs : List ℤ) (k : ℤ → List ℕ → Got Y) → fits_32 z ≡ true → then (column_at (columns (z ∷ zs))) k ≡ k z (columns zs)
  column_on z zs k f = ap (λ g. then g k) (number_back z (columns zs) (fits_back z f) (no_digit zs))

argument_back : (x : Argument) (zs : List ℤ) → fits_32 x.number ≡ true → fits_32 x.label ≡ true → argument_at (columns (x.number ∷ x.label ∷ zs)) ≡ got x (columns zs)
argument_back x zs f g = column_on x.number (x.label ∷ zs) _ f ∙ column_on x.label zs _ g

arguments_back : (before xs : List Argument) → every fits_32 (pairs xs) ≡ true → arguments_on before (length xs) (columns (pairs xs)) ≡ got (before ++ xs) []
arguments_back before [] h = ap (λ l. got l []) (sym (append-nil before))
arguments_back before (x ∷ xs) h =
    let p = and_parts (fits_32 x.number) (fits_32 x.label && every fits_32 (pairs xs)) h in
    let q = and_parts (fits_32 x.label) (every fits_32 (pairs xs)) p.1 in
    ap (λ g. then g (λ y rest. arguments_on (before ++ y ∷ []) (length xs) rest)) (argument_back x (pairs xs) p.0 q.0)
    ∙ arguments_back (before ++ x ∷ []) xs q.1
    ∙ ap (λ l. got l []) (append_assoc before (x ∷ []) xs)

arguments_there : {Y : Type 0} (xs : List Argument) (k : List Argument → List ℕ → Got Y) → every fits_32 (pairs xs) ≡ true → then (arguments_on [] (length xs) (columns (pairs xs))) k ≡ k xs []
arguments_there xs k h = ap (λ g. then g k) (arguments_back [] xs h)

-- the first of some numbers fits, and so do the others
first : (z : ℤ) (zs : List ℤ) → every fits_32 (z ∷ zs) ≡ true → fits_32 z ≡ true
first z zs h = (and_parts (fits_32 z) (every fits_32 zs) h).0

others : (z : ℤ) (zs : List ℤ) → every fits_32 (z ∷ zs) ≡ true → every fits_32 zs ≡ true
others z zs h = (and_parts (fits_32 z) (every fits_32 zs) h).1

request_back : (q : Request) → formed q ≡ true → request_at (request_text q) ≡ got q []
request_back (make a class level) h =
    let h₁ = others a (class ∷ level ∷ []) h in
    let h₂ = others class (level ∷ []) h₁ in
    number_on a _ _ (first a (class ∷ level ∷ []) h) ∙ column_on class (level ∷ []) _ (first class (level ∷ []) h₁) ∙ column_on level [] _ (first level [] h₂)
request_back (post a home number method arguments) h =
    let vs₄ = pairs arguments in
    let vs₃ = pos (length arguments) ∷ vs₄ in
    let vs₂ = method ∷ vs₃ in
    let vs₁ = number ∷ vs₂ in
    let h₁ = others a (home ∷ vs₁) h in
    let h₂ = others home vs₁ h₁ in
    let h₃ = others number vs₂ h₂ in
    let h₄ = others method vs₃ h₃ in
    number_on a _ _ (first a (home ∷ vs₁) h) ∙ column_on home vs₁ _ (first home vs₁ h₁) ∙ column_on number vs₂ _ (first number vs₂ h₂)
    ∙ column_on method vs₃ _ (first method vs₃ h₃) ∙ column_on (pos (length arguments)) vs₄ _ (first (pos (length arguments)) vs₄ h₄)
    ∙ arguments_there arguments _ (others (pos (length arguments)) vs₄ h₄)
request_back (turn a home number) h =
    let h₁ = others a (home ∷ number ∷ []) h in
    let h₂ = others home (number ∷ []) h₁ in
    number_on a _ _ (first a (home ∷ number ∷ []) h) ∙ column_on home (number ∷ []) _ (first home (number ∷ []) h₁) ∙ column_on number [] _ (first number [] h₂)
request_back (collect a home number) h =
    let h₁ = others a (home ∷ number ∷ []) h in
    let h₂ = others home (number ∷ []) h₁ in
    number_on a _ _ (first a (home ∷ number ∷ []) h) ∙ column_on home (number ∷ []) _ (first home (number ∷ []) h₁) ∙ column_on number [] _ (first number [] h₂)
request_back (note a class) h =
    let h₁ = others a (class ∷ []) h in
    number_on a _ _ (first a (class ∷ []) h) ∙ column_on class [] _ (first class [] h₁)

-- AND FROM NOTHING ELSE

-- bs is the text of these numbers, and they are of 32 bits
record Lists (bs : List ℕ) (zs : List ℤ) : Type 0 where
  text : bs ≡ columns zs
  fits : every fits_32 zs ≡ true

-- a piece that was read, and what followed it
by_then : {X Y : Type 0} (g : Got X) (k : X → List ℕ → Got Y) (y : Y) (rest : List ℕ) (P : Type 0) → then g k ≡ got y rest → ((x : X) (bs : List ℕ) → g ≡ got x bs → k x bs ≡ got y rest → P) → P
by_then (got x bs) k y rest P e f = f x bs refl e
by_then bad k y rest P e f = none (cc)

byte_only : (bs : List ℕ) (u : Unit {0}) (rest : List ℕ) → byte_at 32 bs ≡ got u rest → bs ≡ 32 ∷ rest
byte_only [] u rest e = none (cc)
byte_only (b ∷ bs) u rest e = bytes_only (32 ∷ []) (b ∷ bs) u rest e

-- a column before others
joined : (bs : List ℕ) (z : ℤ) (rest : List ℕ) (zs : List ℤ) → column_at bs ≡ got z rest → Lists rest zs → Lists bs (z ∷ zs)
joined bs z rest zs e l =
    by_then (byte_at 32 bs) (λ _ cs. number_at cs) z rest (Lists bs (z ∷ zs)) e (λ u cs p g.
    let q = number_only cs z rest g in
    record {
      text = byte_only bs u cs p ∙ ap (λ ys. 32 ∷ ys) (q.0 ∙ ap (λ ys. signed_decimal z ++ ys) l.text);
      fits = and_from (fits_32 z) (every fits_32 zs) (fits_only z q.2) l.fits;
    })

nothing_left : (bs : List ℕ) → bs ≡ [] → Lists bs []
nothing_left bs e = record { text = e; fits = refl }

argument_only : (bs : List ℕ) (x : Argument) (rest : List ℕ) (zs : List ℤ) → argument_at bs ≡ got x rest → Lists rest zs → Lists bs (x.number ∷ x.label ∷ zs)
argument_only bs x rest zs e l =
    by_then (column_at bs) _ x rest (Lists bs (x.number ∷ x.label ∷ zs)) e (λ number bs₁ e₁ k₁.
    by_then (column_at bs₁) _ x rest (Lists bs (x.number ∷ x.label ∷ zs)) k₁ (λ label bs₂ e₂ k₂.
    let y : Argument = record { number = number; label = label } in
    let same : y ≡ x = cc in
    let ends : bs₂ ≡ rest = cc in
    let these : Lists bs (y.number ∷ y.label ∷ zs) = joined bs number bs₁ (label ∷ zs) e₁ (joined bs₁ label bs₂ zs e₂ (subst (λ r. Lists r zs) (sym ends) l)) in
    subst (λ v. Lists bs (v.number ∷ v.label ∷ zs)) same these))

-- the arguments that were read after others
record More (before xs : List Argument) (n : ℕ) (bs : List ℕ) : Type 0 where
  read : List Argument
  all : xs ≡ before ++ read
  count : length read ≡ n
  lists : Lists bs (pairs read)

arguments_only : (before : List Argument) (n : ℕ) (bs : List ℕ) (xs : List Argument) → arguments_on before n bs ≡ got xs [] → More before xs n bs
arguments_only before zero bs xs e =
    let same : before ≡ xs = cc in
    let ends : bs ≡ [] = cc in
    record { read = []; all = sym same ∙ sym (append-nil before); count = refl; lists = nothing_left bs ends }
arguments_only before (suc n) bs xs e =
    by_then (argument_at bs) (λ x rest. arguments_on (before ++ x ∷ []) n rest) xs [] (More before xs (suc n) bs) e (λ x rest e₁ k₁.
    let m = arguments_only (before ++ x ∷ []) n rest xs k₁ in
    record {
      read = x ∷ m.read;
      all = m.all ∙ append_assoc before (x ∷ []) m.read;
      count = ap suc m.count;
      lists = argument_only bs x rest (pairs m.read) e₁ m.lists;
    })

counted_only : (count : ℤ) (bs : List ℕ) (xs : List Argument) → arguments_for (natural count) bs ≡ got xs [] → (count ≡ pos (length xs)) × Lists bs (pairs xs)
counted_only (pos n) bs xs e =
    let m = arguments_only [] n bs xs e in
    (ap pos (sym m.count ∙ ap length (sym m.all)), subst (λ ys. Lists bs (pairs ys)) (sym m.all) m.lists)
counted_only (negsuc n) bs xs e = none (cc)

abbrev letters : Word → List ℕ
letters Make = codes "make"
letters Post = codes "post"
letters Turn = codes "turn"
letters Collect = codes "collect"
letters Note = codes "note"

-- a word that was read, or another
or_only : (g : Got (Unit {0})) (v : Word) (other : Got Word) (w : Word) (rest : List ℕ) (P : Type 0) → or_else g v other ≡ got w rest
    → ((u : Unit {0}) → g ≡ got u rest → v ≡ w → P) → (other ≡ got w rest → P) → P
or_only (got u bs) v other w rest P e f h = f u (cc) (cc)
or_only bad v other w rest P e f h = h e

spelt : (v : Word) (bs : List ℕ) (w : Word) (rest : List ℕ) (u : Unit {0}) → bytes_at (letters v) bs ≡ got u rest → v ≡ w → bs ≡ letters w ++ rest
spelt v bs w rest u p s = bytes_only (letters v) bs u rest p ∙ ap (λ x. letters x ++ rest) s

word_only : (bs : List ℕ) (w : Word) (rest : List ℕ) → word_at bs ≡ got w rest → bs ≡ letters w ++ rest
word_only bs w rest e =
    let P : Type 0 = bs ≡ letters w ++ rest in
    or_only (bytes_at (codes "make") bs) Make _ w rest P e (spelt Make bs w rest) (λ e₁.
    or_only (bytes_at (codes "post") bs) Post _ w rest P e₁ (spelt Post bs w rest) (λ e₂.
    or_only (bytes_at (codes "turn") bs) Turn _ w rest P e₂ (spelt Turn bs w rest) (λ e₃.
    or_only (bytes_at (codes "collect") bs) Collect _ w rest P e₃ (spelt Collect bs w rest) (λ e₄.
    or_only (bytes_at (codes "note") bs) Note bad w rest P e₄ (spelt Note bs w rest) (λ e₅. none (cc))))))

-- what stands after the party's level is the word and the values of q
record Said (w : Word) (a : ℤ) (bs : List ℕ) (q : Request) : Type 0 where
  bears : bearer q ≡ a
  word : letters w ≡ letters_of q
  lists : Lists bs (values_of q)

values_only : (w : Word) (a : ℤ) (bs : List ℕ) (q : Request) → values_at w a bs ≡ got q [] → Said w a bs q
values_only Make a bs q e =
    by_then (column_at bs) _ q [] (Said Make a bs q) e (λ class bs₁ e₁ k₁.
    by_then (column_at bs₁) _ q [] (Said Make a bs q) k₁ (λ level bs₂ e₂ k₂.
    let same : make a class level ≡ q = cc in
    let ends : bs₂ ≡ [] = cc in
    subst (Said Make a bs) same (record { bears = refl; word = refl; lists = joined bs class bs₁ (level ∷ []) e₁ (joined bs₁ level bs₂ [] e₂ (nothing_left bs₂ ends)) })))
values_only Post a bs q e =
    by_then (column_at bs) _ q [] (Said Post a bs q) e (λ home bs₁ e₁ k₁.
    by_then (column_at bs₁) _ q [] (Said Post a bs q) k₁ (λ number bs₂ e₂ k₂.
    by_then (column_at bs₂) _ q [] (Said Post a bs q) k₂ (λ method bs₃ e₃ k₃.
    by_then (column_at bs₃) _ q [] (Said Post a bs q) k₃ (λ count bs₄ e₄ k₄.
    by_then (arguments_for (natural count) bs₄) _ q [] (Said Post a bs q) k₄ (λ xs bs₅ e₅ k₅.
    let same : post a home number method xs ≡ q = cc in
    let ends : bs₅ ≡ [] = cc in
    let these = counted_only count bs₄ xs (e₅ ∙ ap (λ r. got xs r) ends) in
    let counted : Lists bs₃ (pos (length xs) ∷ pairs xs) = subst (λ z. Lists bs₃ (z ∷ pairs xs)) these.0 (joined bs₃ count bs₄ (pairs xs) e₄ these.1) in
    subst (Said Post a bs) same (record { bears = refl; word = refl; lists = joined bs home bs₁ _ e₁ (joined bs₁ number bs₂ _ e₂ (joined bs₂ method bs₃ _ e₃ counted)) }))))))
values_only Turn a bs q e =
    by_then (column_at bs) _ q [] (Said Turn a bs q) e (λ home bs₁ e₁ k₁.
    by_then (column_at bs₁) _ q [] (Said Turn a bs q) k₁ (λ number bs₂ e₂ k₂.
    let same : turn a home number ≡ q = cc in
    let ends : bs₂ ≡ [] = cc in
    subst (Said Turn a bs) same (record { bears = refl; word = refl; lists = joined bs home bs₁ (number ∷ []) e₁ (joined bs₁ number bs₂ [] e₂ (nothing_left bs₂ ends)) })))
values_only Collect a bs q e =
    by_then (column_at bs) _ q [] (Said Collect a bs q) e (λ home bs₁ e₁ k₁.
    by_then (column_at bs₁) _ q [] (Said Collect a bs q) k₁ (λ number bs₂ e₂ k₂.
    let same : collect a home number ≡ q = cc in
    let ends : bs₂ ≡ [] = cc in
    subst (Said Collect a bs) same (record { bears = refl; word = refl; lists = joined bs home bs₁ (number ∷ []) e₁ (joined bs₁ number bs₂ [] e₂ (nothing_left bs₂ ends)) })))
values_only Note a bs q e =
    by_then (column_at bs) _ q [] (Said Note a bs q) e (λ class bs₁ e₁ k₁.
    let same : note a class ≡ q = cc in
    let ends : bs₁ ≡ [] = cc in
    subst (Said Note a bs) same (record { bears = refl; word = refl; lists = joined bs class bs₁ [] e₁ (nothing_left bs₁ ends) }))

-- the pieces of a row, put together
assembled : (row : List ℕ) (a : ℤ) (w : Word) (bs₁ bs₂ bs₃ : List ℕ) (q : Request) → row ≡ signed_decimal a ++ bs₁ → bs₁ ≡ 32 ∷ bs₂ → bs₂ ≡ letters w ++ bs₃ → Said w a bs₃ q → row ≡ request_text q
assembled row a w bs₁ bs₂ bs₃ q e₁ e₂ e₃ s =
    e₁
    ∙ ap (λ ys. signed_decimal a ++ ys) (e₂ ∙ ap (λ ys. 32 ∷ ys) (e₃ ∙ ap (λ ys. letters w ++ ys) s.lists.text ∙ ap (λ ys. ys ++ columns (values_of q)) s.word))
    ∙ ap (λ b. signed_decimal b ++ (32 ∷ (letters_of q ++ columns (values_of q)))) (sym s.bears)

request_only : (row : List ℕ) (q : Request) → request_at row ≡ got q [] → (row ≡ request_text q) × (formed q ≡ true)
request_only row q e =
    let P : Type 0 = (row ≡ request_text q) × (formed q ≡ true) in
    by_then (number_at row) _ q [] P e (λ a bs₁ e₁ k₁.
    by_then (byte_at 32 bs₁) _ q [] P k₁ (λ u bs₂ e₂ k₂.
    by_then (word_at bs₂) _ q [] P k₂ (λ w bs₃ e₃ k₃.
    let n = number_only row a bs₁ e₁ in
    let s = values_only w a bs₃ q k₃ in (
      assembled row a w bs₁ bs₂ bs₃ q n.0 (byte_only bs₁ u bs₂ e₂) (word_only bs₂ w bs₃ e₃) s,
      and_from (fits_32 (bearer q)) (every fits_32 (values_of q)) (subst (λ b. fits_32 b ≡ true) (sym s.bears) (fits_only a n.2)) s.lists.fits,
    ))))

whole_only : (g : Got Request) (q : Request) → whole g ≡ Some q → g ≡ got q []
whole_only (got x []) q e = let same : x ≡ q = cc in ap (λ y. got y []) same
whole_only (got x (b ∷ bs)) q e = none (cc)
whole_only bad q e = none (cc)

pub rows_exactly : RowsExactly
rows_exactly row q = (λ e. request_only row q (whole_only (request_at row) q e), λ p. ap row_request p.0 ∙ ap whole (request_back q p.1))
