-- A row is read from its text, and from nothing else.
use Rattle.std.proofs.Common.{◌≡◌, ℕ, ◌<◌, false, cond, eqb, List, [], ◌∷◌, ◌++◌, length, ℤ, sym, refl, ap, ◌∙◌, subst, append_assoc, arith, length-append, w32, SFits}
use Rattle.std.specs.Char.{is_ascii_digit}
use Rattle.std.specs.Fmt.{signed_decimal}
use Rattle.std.proofs.lemmas.Bool.{cond_both, cond-true, eq-eqb, eqb-true}
use Rattle.script.specs.declared.reader.Letter.{Letter}
use Rattle.script.specs.declared.reader.Letter.TheVariants.{N, T, C, A, D, L, I, M, G, O, R}
use Rattle.script.specs.declared.reader.Kind.{Kind}
use Rattle.script.specs.declared.reader.Kind.TheVariants.{Field, Parameters, Statement}
use Rattle.script.specs.declared.reader.Row.{Row}
use Rattle.script.specs.Bytes.{Got, got, bad, then, byte_at, bytes_at, number_at, kind_at, column_at, row_at}
use Rattle.script.specs.Layout.{kind_code, row_text}
use Rattle.script.proofs.Spelling.{number_back, number_only}

pub none : {X : Type 0} → ◌≡◌ {A = ℕ} 0 1 → X
none e = absurd (omega arith)

cons_same : {a b : ℕ} {xs ys : List ℕ} → a ≡ b → xs ≡ ys → (a ∷ xs) ≡ (b ∷ ys)
cons_same p q = cc

-- BYTES

pub byte_only : (c : ℕ) (bs : List ℕ) (u : Unit {0}) (rest : List ℕ) → byte_at c bs ≡ got u rest → bs ≡ c ∷ rest
byte_only c [] u rest = λ e. none (cc)
byte_only c (b ∷ bs) u rest =
    cond_both (eqb b c) _ _ (λ g. g ≡ got u rest → (b ∷ bs) ≡ c ∷ rest)
    (λ t e. cons_same (eqb-true b c t) (cc))
    (λ _ e. none (cc))

pub bytes_only : (cs bs : List ℕ) (u : Unit {0}) (rest : List ℕ) → bytes_at cs bs ≡ got u rest → bs ≡ cs ++ rest
bytes_only [] bs u rest = λ e. cc
bytes_only (c ∷ cs) [] u rest = λ e. none (cc)
bytes_only (c ∷ cs) (b ∷ bs) u rest =
    cond_both (eqb b c) _ _ (λ g. g ≡ got u rest → (b ∷ bs) ≡ (c ∷ cs) ++ rest)
    (λ t e. cons_same (eqb-true b c t) (bytes_only cs bs u rest e))
    (λ _ e. none (cc))

pub bytes_back : (cs rest : List ℕ) → bytes_at cs (cs ++ rest) ≡ got tt rest
bytes_back [] rest = refl
bytes_back (c ∷ cs) rest = cond-true _ _ _ (eq-eqb c c refl) ∙ bytes_back cs rest

-- LETTERS

letter_back : (l : Letter) (rest : List ℕ) → kind_at (kind_code (Statement l) ∷ rest) ≡ got (Statement l) rest
letter_back N rest = refl
letter_back T rest = refl
letter_back C rest = refl
letter_back A rest = refl
letter_back D rest = refl
letter_back L rest = refl
letter_back I rest = refl
letter_back M rest = refl
letter_back G rest = refl
letter_back O rest = refl
letter_back R rest = refl

kind_back : (k : Kind) (rest : List ℕ) → kind_at (kind_code k ∷ rest) ≡ got k rest
kind_back Field rest = refl
kind_back Parameters rest = refl
kind_back (Statement l) rest = letter_back l rest

-- one kind, or another
pick : (b : ℕ) (bs : List ℕ) (k : Kind) (other : Got Kind) (l : Kind) (rest : List ℕ) → (other ≡ got l rest → (b ∷ bs) ≡ kind_code l ∷ rest)
    → cond (eqb b (kind_code k)) (got k bs) other ≡ got l rest → (b ∷ bs) ≡ kind_code l ∷ rest
pick b bs k other l rest h =
    cond_both (eqb b (kind_code k)) (got k bs) other (λ g. g ≡ got l rest → (b ∷ bs) ≡ kind_code l ∷ rest)
    (λ t e. let same : k ≡ l = cc in cons_same (eqb-true b (kind_code k) t ∙ ap kind_code same) (cc))
    (λ _. h)

kind_only : (bs : List ℕ) (l : Kind) (rest : List ℕ) → kind_at bs ≡ got l rest → bs ≡ kind_code l ∷ rest
kind_only [] l rest = λ e. none (cc)
kind_only (b ∷ bs) l rest =
    pick b bs Field _ l rest (pick b bs Parameters _ l rest (pick b bs (Statement N) _ l rest (pick b bs (Statement T) _ l rest
    (pick b bs (Statement C) _ l rest (pick b bs (Statement A) _ l rest (pick b bs (Statement D) _ l rest (pick b bs (Statement L) _ l rest
    (pick b bs (Statement I) _ l rest (pick b bs (Statement M) _ l rest (pick b bs (Statement G) _ l rest (pick b bs (Statement O) _ l rest
    (pick b bs (Statement R) bad l rest (λ e. none (cc))))))))))))))

-- ROWS

-- every number of a row is one of 32 bits
pub record Fits (r : Row) : Type 0 where
  pub class : SFits w32 r.class
  pub method : SFits w32 r.method
  pub to : SFits w32 r.to
  pub a : SFits w32 r.a
  pub b : SFits w32 r.b
  pub c : SFits w32 r.c
  pub d : SFits w32 r.d
  pub e : SFits w32 r.e
  pub f : SFits w32 r.f

-- the text of a row with something after it, regrouped
abbrev onto : Row → List ℕ → List ℕ
onto r rest =
    signed_decimal r.class ++ (32 ∷ (signed_decimal r.method ++ (32 ∷ kind_code r.kind ∷ (32 ∷ (signed_decimal r.to ++ (32 ∷ (signed_decimal r.a ++ (32 ∷ (signed_decimal r.b
    ++ (32 ∷ (signed_decimal r.c ++ (32 ∷ (signed_decimal r.d ++ (32 ∷ (signed_decimal r.e ++ (32 ∷ (signed_decimal r.f ++ (10 ∷ rest))))))))))))))))))

row-onto : (r : Row) (rest : List ℕ) → row_text r ++ rest ≡ onto r rest
row-onto r rest = simp append_assoc

-- a piece that is there, and what follows it
module _ {Y : Type 0} where
  number_on : (z : ℤ) (b : ℕ) (rest : List ℕ) (k : ℤ → List ℕ → Got Y) → SFits w32 z → is_ascii_digit b ≡ false → then (number_at (signed_decimal z ++ (b ∷ rest))) k ≡ k z (b ∷ rest)
  number_on z b rest k f e = ap (λ g. then g k) (number_back z (b ∷ rest) f e)

  column_on : (z : ℤ) (b : ℕ) (rest : List ℕ) (k : ℤ → List ℕ → Got Y) → SFits w32 z → is_ascii_digit b ≡ false → then (column_at (32 ∷ (signed_decimal z ++ (b ∷ rest)))) k ≡ k z (b ∷ rest)
  column_on z b rest k f e = ap (λ g. then g k) (number_back z (b ∷ rest) f e)

  kind_on : (l : Kind) (rest : List ℕ) (k : Kind → List ℕ → Got Y) → then (kind_at (kind_code l ∷ rest)) k ≡ k l rest
  kind_on l rest k = ap (λ g. then g k) (kind_back l rest)

-- a row is read from its text
pub row_back : (r : Row) (rest : List ℕ) → Fits r → row_at (row_text r ++ rest) ≡ got r rest
row_back r rest h =
    ap row_at (row-onto r rest)
    ∙ number_on r.class _ _ _ h.class refl ∙ column_on r.method _ _ _ h.method refl ∙ kind_on r.kind _ _
    ∙ column_on r.to _ _ _ h.to refl ∙ column_on r.a _ _ _ h.a refl ∙ column_on r.b _ _ _ h.b refl ∙ column_on r.c _ _ _ h.c refl
    ∙ column_on r.d _ _ _ h.d refl ∙ column_on r.e _ _ _ h.e refl ∙ column_on r.f 10 rest _ h.f refl

-- a piece that was read, and what followed it
by_then : {X Y : Type 0} (g : Got X) (k : X → List ℕ → Got Y) (y : Y) (rest : List ℕ) (P : Type 0) → then g k ≡ got y rest → ((x : X) (bs : List ℕ) → g ≡ got x bs → k x bs ≡ got y rest → P) → P
by_then (got x bs) k y rest P e f = f x bs refl e
by_then bad k y rest P e f = none (cc)

module _ {Y : Type 0} (y : Y) (rest : List ℕ) (P : Type 0) where
  by_number : (bs : List ℕ) (k : ℤ → List ℕ → Got Y) → then (number_at bs) k ≡ got y rest
      → ((z : ℤ) (bs' : List ℕ) → bs ≡ signed_decimal z ++ bs' → SFits w32 z → k z bs' ≡ got y rest → P) → P
  by_number bs k e f = by_then (number_at bs) k y rest P e (λ z bs' g. let q = number_only bs z bs' g in f z bs' q.0 q.2)

  by_byte : (c : ℕ) (bs : List ℕ) (k : Unit {0} → List ℕ → Got Y) → then (byte_at c bs) k ≡ got y rest
      → ((bs' : List ℕ) → bs ≡ c ∷ bs' → k tt bs' ≡ got y rest → P) → P
  by_byte c bs k e f = by_then (byte_at c bs) k y rest P e (λ u bs' g. f bs' (byte_only c bs u bs' g))

  by_kind : (bs : List ℕ) (k : Kind → List ℕ → Got Y) → then (kind_at bs) k ≡ got y rest
      → ((l : Kind) (bs' : List ℕ) → bs ≡ kind_code l ∷ bs' → k l bs' ≡ got y rest → P) → P
  by_kind bs k e f = by_then (kind_at bs) k y rest P e (λ l bs' g. f l bs' (kind_only bs l bs' g))

column_only : (bs : List ℕ) (z : ℤ) (rest : List ℕ) → column_at bs ≡ got z rest → (bs ≡ 32 ∷ (signed_decimal z ++ rest)) × SFits w32 z
column_only bs z rest e =
    by_byte z rest ((bs ≡ 32 ∷ (signed_decimal z ++ rest)) × SFits w32 z) 32 bs _ e (λ bs' p g. let q = number_only bs' z rest g in (p ∙ ap (λ l. 32 ∷ l) q.0, q.2))

module _ {Y : Type 0} (y : Y) (rest : List ℕ) (P : Type 0) where
  by_column : (bs : List ℕ) (k : ℤ → List ℕ → Got Y) → then (column_at bs) k ≡ got y rest
      → ((z : ℤ) (bs' : List ℕ) → bs ≡ 32 ∷ (signed_decimal z ++ bs') → SFits w32 z → k z bs' ≡ got y rest → P) → P
  by_column bs k e f = by_then (column_at bs) k y rest P e (λ z bs' g. let q = column_only bs z bs' g in f z bs' q.0 q.1)

-- the pieces of a row, put together
assembled : (r : Row) (rest bs b1 b2 b3 b4 b5 b6 b7 b8 b9 b10 b11 : List ℕ)
    → bs ≡ signed_decimal r.class ++ b1 → b1 ≡ 32 ∷ (signed_decimal r.method ++ b2) → b2 ≡ 32 ∷ b3 → b3 ≡ kind_code r.kind ∷ b4 → b4 ≡ 32 ∷ (signed_decimal r.to ++ b5)
    → b5 ≡ 32 ∷ (signed_decimal r.a ++ b6) → b6 ≡ 32 ∷ (signed_decimal r.b ++ b7) → b7 ≡ 32 ∷ (signed_decimal r.c ++ b8) → b8 ≡ 32 ∷ (signed_decimal r.d ++ b9)
    → b9 ≡ 32 ∷ (signed_decimal r.e ++ b10) → b10 ≡ 32 ∷ (signed_decimal r.f ++ b11) → b11 ≡ 10 ∷ rest → bs ≡ row_text r ++ rest
assembled r rest bs b1 b2 b3 b4 b5 b6 b7 b8 b9 b10 b11 e1 e2 e3 e4 e5 e6 e7 e8 e9 e10 e11 e12 =
    rw (e1, e2, e3, e4, e5, e6, e7, e8, e9, e10, e11, e12) (sym (row-onto r rest))

-- and from nothing else
pub record RowOnly (bs : List ℕ) (r : Row) (rest : List ℕ) : Type 0 where
  pub text : bs ≡ row_text r ++ rest
  pub fits : Fits r

pub row_only : (bs : List ℕ) (r : Row) (rest : List ℕ) → row_at bs ≡ got r rest → RowOnly bs r rest
row_only bs r rest e0 =
    by_number r rest (RowOnly bs r rest) bs _ e0 (λ class b1 p1 f1 e1.
    by_column r rest (RowOnly bs r rest) b1 _ e1 (λ method b2 p2 f2 e2.
    by_byte r rest (RowOnly bs r rest) 32 b2 _ e2 (λ b3 p3 e3.
    by_kind r rest (RowOnly bs r rest) b3 _ e3 (λ kind b4 p4 e4.
    by_column r rest (RowOnly bs r rest) b4 _ e4 (λ to b5 p5 f5 e5.
    by_column r rest (RowOnly bs r rest) b5 _ e5 (λ a b6 p6 f6 e6.
    by_column r rest (RowOnly bs r rest) b6 _ e6 (λ b b7 p7 f7 e7.
    by_column r rest (RowOnly bs r rest) b7 _ e7 (λ c b8 p8 f8 e8.
    by_column r rest (RowOnly bs r rest) b8 _ e8 (λ d b9 p9 f9 e9.
    by_column r rest (RowOnly bs r rest) b9 _ e9 (λ e b10 p10 f10 e10.
    by_column r rest (RowOnly bs r rest) b10 _ e10 (λ f b11 p11 f11 e11.
    by_byte r rest (RowOnly bs r rest) 10 b11 _ e11 (λ b12 p12 e12.
    let row : Row = record { class = class; method = method; kind = kind; to = to; a = a; b = b; c = c; d = d; e = e; f = f } in
    let is : row ≡ r = cc in
    let ends : b12 ≡ rest = cc in
    let whole : RowOnly bs row b12 = record {
      text = assembled row b12 bs b1 b2 b3 b4 b5 b6 b7 b8 b9 b10 b11 p1 p2 p3 p4 p5 p6 p7 p8 p9 p10 p11 p12;
      fits = record { class = f1; method = f2; to = f5; a = f6; b = f7; c = f8; d = f9; e = f10; f = f11 };
    } in
    subst (λ t. RowOnly bs r t) ends (subst (λ x. RowOnly bs x b12) is whole)))))))))))))

-- so a row takes some bytes
pub row_shorter : (bs : List ℕ) (r : Row) (rest : List ℕ) → row_at bs ≡ got r rest → length rest < length bs
row_shorter bs r rest e =
    let whole = ap length (row_only bs r rest e).text ∙ length-append (row_text r) rest in
    let some : 0 < length (row_text r) = rw (length-append (signed_decimal r.class)) (omega arith) in
    omega arith
