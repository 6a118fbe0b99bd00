-- A statement is read from its columns, and from nothing else.
use Rattle.std.proofs.Common.{◌≡◌, ℕ, ◌<◌, ◌≤◌, true, ◌&&◌, ltb, ℤ, pos, Some, None, Option, sym, refl, subst, arith, w32, SFits}
use Rattle.std.proofs.lemmas.Bool.{and_parts, and_from, ltb-true}
use Rattle.script.specs.declared.class.Variable.{Variable}
use Rattle.script.specs.declared.class.Arguments.{Arguments}
use Rattle.script.specs.declared.class.Arguments.TheVariants.{Empty, One, Two, Three, Four}
use Rattle.script.specs.declared.class.Statement.{Statement as Operation}
use Rattle.script.specs.declared.class.Statement.TheVariants.{Constant, Itself, Copy, Add, Subtract, Less, Branch, Invoke, Get, Create, Return}
use Rattle.script.specs.declared.reader.Letter.{Letter}
use Rattle.script.specs.declared.reader.Letter.TheVariants.{N, T, C, A, D, L, I, M, G, O, R}
use Rattle.script.specs.declared.reader.Kind.{Kind}
use Rattle.script.specs.declared.reader.Row.{Row}
use Rattle.script.specs.Rows.{is, and, below, variable, optional, arguments, unused_b, unused_c, unused_d, two_variables, three_variables, passed, statement}
use Rattle.script.specs.Layout.{Columns, three, invocation, variable_column, optional_column, columns_of, letter_of, row, exists, exists_if_any, arguments_exist, in_range}
use Rattle.script.proofs.Lines.{none, Fits}
use Rattle.script.proofs.Columns.{by_and, by_when, is_only, below_only, below_back, fits_only, fits_back, small_fits, minus_fits, variable_only, variable_back, variable_fits, optional_only, optional_back, optional_fits}

-- the seven columns after the letter
abbrev pub columns : Row → Columns
columns r = record { to = r.to; a = r.a; b = r.b; c = r.c; d = r.d; e = r.e; f = r.f }

-- what is not used is 0
unused_d_only : (r : Row) → unused_d r ≡ true → (r.d ≡ pos 0) × (r.e ≡ pos 0) × (r.f ≡ pos 0)
unused_d_only r h = let p = and_parts _ _ h in let q = and_parts _ _ p.1 in (is_only _ 0 p.0, is_only _ 0 q.0, is_only _ 0 q.1)

pub from_b : (r : Row) (to a : ℤ) → r.to ≡ to → r.a ≡ a → unused_b r ≡ true → columns r ≡ three to a (pos 0)
from_b r to a p q h =
    let b = and_parts _ _ h in
    let c = and_parts _ _ b.1 in
    let d = unused_d_only r c.1 in
    rw (p, q, is_only r.b 0 b.0, is_only r.c 0 c.0, d.0, d.1, d.2)

from_c : (r : Row) (to a b : ℤ) → r.to ≡ to → r.a ≡ a → r.b ≡ b → unused_c r ≡ true → columns r ≡ three to a b
from_c r to a b p q s h =
    let c = and_parts _ _ h in
    let d = unused_d_only r c.1 in
    rw (p, q, s, is_only r.c 0 c.0, d.0, d.1, d.2)

-- FROM NOTHING ELSE

pub record Says (levels fields : ℕ) (l : Letter) (r : Row) (s : Operation) : Type 0 where
  pub letter : l ≡ letter_of s
  pub told : columns r ≡ columns_of s
  pub range : in_range levels fields s ≡ true

said : (levels fields : ℕ) (l : Letter) (r : Row) (x s : Operation) → Some x ≡ Some s → Says levels fields l r x → Says levels fields l r s
said levels fields l r x s e h = let same : x ≡ s = cc in subst (Says levels fields l r) same h

by_variable : {Y : Type 0} (fields : ℕ) (z : ℤ) (k : Variable → Option Y) (y : Y) (P : Type 0) → and (variable fields z) k ≡ Some y
    → ((v : Variable) → z ≡ variable_column v → exists fields v ≡ true → k v ≡ Some y → P) → P
by_variable fields z k y P e f = by_and (variable fields z) k y P e (λ v g. let q = variable_only fields z v g in f v q.0 q.1)

by_optional : {Y : Type 0} (fields : ℕ) (z : ℤ) (k : Option Variable → Option Y) (y : Y) (P : Type 0) → and (optional fields z) k ≡ Some y
    → ((o : Option Variable) → z ≡ optional_column o → exists_if_any fields o ≡ true → k o ≡ Some y → P) → P
by_optional fields z k y P e f = by_and (optional fields z) k y P e (λ v g. let q = optional_only fields z v g in f v q.0 q.1)

by_below : {Y : Type 0} (z : ℤ) (limit : ℕ) (k : ℕ → Option Y) (y : Y) (P : Type 0) → and (below z limit) k ≡ Some y
    → ((n : ℕ) → z ≡ pos n → ltb n limit ≡ true → k n ≡ Some y → P) → P
by_below z limit k y P e f = by_and (below z limit) k y P e (λ n g. let q = below_only z limit n g in f n q.0 q.1)

two_only : (fields : ℕ) (r : Row) (p : Variable × Variable) → two_variables fields r ≡ Some p
    → (columns r ≡ three (variable_column p.0) (variable_column p.1) (pos 0)) × (exists fields p.0 ≡ true) × (exists fields p.1 ≡ true)
two_only fields r p e =
    let Q : Variable × Variable → Type 0 = λ q. (columns r ≡ three (variable_column q.0) (variable_column q.1) (pos 0)) × (exists fields q.0 ≡ true) × (exists fields q.1 ≡ true) in
    by_when (unused_b r) _ p (Q p) e (λ u e1.
    by_variable fields r.to _ p (Q p) e1 (λ to p2 x2 e2.
    by_variable fields r.a _ p (Q p) e2 (λ a p3 x3 e3.
    let same : ◌≡◌ {A = Variable × Variable} (to, a) p = cc in subst Q same (from_b r _ _ p2 p3 u, x2, x3))))

three_only : (fields : ℕ) (r : Row) (p : Variable × Variable × Variable) → three_variables fields r ≡ Some p
    → (columns r ≡ three (variable_column p.0) (variable_column p.1) (variable_column p.2)) × ((exists fields p.0 && (exists fields p.1 && exists fields p.2)) ≡ true)
three_only fields r p e =
    let Q : Variable × Variable × Variable → Type 0 = λ q. (columns r ≡ three (variable_column q.0) (variable_column q.1) (variable_column q.2)) × ((exists fields q.0 && (exists fields q.1 && exists fields q.2)) ≡ true) in
    by_when (unused_c r) _ p (Q p) e (λ u e1.
    by_variable fields r.to _ p (Q p) e1 (λ to p2 x2 e2.
    by_variable fields r.a _ p (Q p) e2 (λ a p3 x3 e3.
    by_variable fields r.b _ p (Q p) e3 (λ b p4 x4 e4.
    let same : ◌≡◌ {A = Variable × Variable × Variable} (to, a, b) p = cc in subst Q same (from_c r _ _ _ p2 p3 p4 u, and_from _ _ x2 (and_from _ _ x3 x4))))))

-- the columns of a call, with its four columns of arguments
abbrev four : ℤ → ℤ → ℤ → Option Variable → Option Variable → Option Variable → Option Variable → Columns
four to a b v w x y = record { to = to; a = a; b = b; c = optional_column v; d = optional_column w; e = optional_column x; f = optional_column y }

record Passes (fields : ℕ) (to a b : ℤ) (x : Columns) (s : Arguments) : Type 0 where
  told : x ≡ invocation to a b s
  exist : arguments_exist fields s ≡ true

passes : (fields : ℕ) (to a b : ℤ) (x : Columns) (t s : Arguments) → Some t ≡ Some s → x ≡ invocation to a b t → arguments_exist fields t ≡ true → Passes fields to a b x s
passes fields to a b x t s e p h = let same : t ≡ s = cc in subst (Passes fields to a b x) same (record { told = p; exist = h })

arguments_only : (fields : ℕ) (to a b : ℤ) (v w x y : Option Variable) (s : Arguments) → exists_if_any fields v ≡ true → exists_if_any fields w ≡ true
    → exists_if_any fields x ≡ true → exists_if_any fields y ≡ true → arguments v w x y ≡ Some s → Passes fields to a b (four to a b v w x y) s
arguments_only fields to a b None None None None s h1 h2 h3 h4 e = passes fields to a b _ Empty s e refl refl
arguments_only fields to a b None None None (Some y) s h1 h2 h3 h4 e = none (cc)
arguments_only fields to a b None None (Some x) y s h1 h2 h3 h4 e = none (cc)
arguments_only fields to a b None (Some w) x y s h1 h2 h3 h4 e = none (cc)
arguments_only fields to a b (Some v) None None None s h1 h2 h3 h4 e = passes fields to a b _ (One v) s e refl h1
arguments_only fields to a b (Some v) None None (Some y) s h1 h2 h3 h4 e = none (cc)
arguments_only fields to a b (Some v) None (Some x) y s h1 h2 h3 h4 e = none (cc)
arguments_only fields to a b (Some v) (Some w) None None s h1 h2 h3 h4 e = passes fields to a b _ (Two v w) s e refl (and_from _ _ h1 h2)
arguments_only fields to a b (Some v) (Some w) None (Some y) s h1 h2 h3 h4 e = none (cc)
arguments_only fields to a b (Some v) (Some w) (Some x) None s h1 h2 h3 h4 e = passes fields to a b _ (Three v w x) s e refl (and_from _ _ h1 (and_from _ _ h2 h3))
arguments_only fields to a b (Some v) (Some w) (Some x) (Some y) s h1 h2 h3 h4 e =
    passes fields to a b _ (Four v w x y) s e refl (and_from _ _ h1 (and_from _ _ h2 (and_from _ _ h3 h4)))

passed_only : (fields : ℕ) (r : Row) (to a b : ℤ) (s : Arguments) → r.to ≡ to → r.a ≡ a → r.b ≡ b → passed fields r ≡ Some s → Passes fields to a b (columns r) s
passed_only fields r to a b s p q t e =
    by_optional fields r.c _ s (Passes fields to a b (columns r) s) e (λ v p1 x1 e1.
    by_optional fields r.d _ s (Passes fields to a b (columns r) s) e1 (λ w p2 x2 e2.
    by_optional fields r.e _ s (Passes fields to a b (columns r) s) e2 (λ x p3 x3 e3.
    by_optional fields r.f _ s (Passes fields to a b (columns r) s) e3 (λ y p4 x4 e4.
    let same : columns r ≡ four to a b v w x y = rw (p, q, t, p1, p2, p3, p4) in
    subst (λ z. Passes fields to a b z s) (sym same) (arguments_only fields to a b v w x y s x1 x2 x3 x4 e4)))))

module _ (levels fields : ℕ) where
  pub statement_only : (l : Letter) (r : Row) (s : Operation) → Fits r → statement levels fields l r ≡ Some s → Says levels fields l r s
  statement_only N r s h e =
      by_when (unused_b r) _ s (Says levels fields N r s) e (λ u e1.
      by_variable fields r.to _ s (Says levels fields N r s) e1 (λ to p x e2.
      said levels fields N r (Constant to r.a) s e2 (record { letter = refl; told = from_b r _ _ p refl u; range = and_from _ _ x (fits_only r.a h.a) })))
  statement_only T r s h e =
      by_when (is r.a 0 && unused_b r) _ s (Says levels fields T r s) e (λ u e1.
      by_variable fields r.to _ s (Says levels fields T r s) e1 (λ to p x e2.
      let q = and_parts _ _ u in
      said levels fields T r (Itself to) s e2 (record { letter = refl; told = from_b r _ _ p (is_only r.a 0 q.0) q.1; range = x })))
  statement_only C r s h e =
      by_and (two_variables fields r) _ s (Says levels fields C r s) e (λ p g e1.
      let q = two_only fields r p g in said levels fields C r (Copy p.0 p.1) s e1 (record { letter = refl; told = q.0; range = and_from _ _ q.1 q.2 }))
  statement_only A r s h e =
      by_and (three_variables fields r) _ s (Says levels fields A r s) e (λ p g e1.
      let q = three_only fields r p g in said levels fields A r (Add p.0 p.1 p.2) s e1 (record { letter = refl; told = q.0; range = q.1 }))
  statement_only D r s h e =
      by_and (three_variables fields r) _ s (Says levels fields D r s) e (λ p g e1.
      let q = three_only fields r p g in said levels fields D r (Subtract p.0 p.1 p.2) s e1 (record { letter = refl; told = q.0; range = q.1 }))
  statement_only L r s h e =
      by_and (three_variables fields r) _ s (Says levels fields L r s) e (λ p g e1.
      let q = three_only fields r p g in said levels fields L r (Less p.0 p.1 p.2) s e1 (record { letter = refl; told = q.0; range = q.1 }))
  statement_only I r s h e =
      by_when (is r.to 0 && unused_d r) _ s (Says levels fields I r s) e (λ u e1.
      by_variable fields r.a _ s (Says levels fields I r s) e1 (λ guard p2 x2 e2.
      by_below r.b 33 _ s (Says levels fields I r s) e2 (λ first p3 x3 e3.
      by_below r.c 33 _ s (Says levels fields I r s) e3 (λ second p4 x4 e4.
      let q = and_parts _ _ u in
      let d = unused_d_only r q.1 in
      said levels fields I r (Branch guard first second) s e4
      (record { letter = refl; told = rw (is_only r.to 0 q.0, p2, p3, p4, d.0, d.1, d.2); range = and_from _ _ x2 (and_from _ _ x3 x4) })))))
  statement_only M r s h e =
      by_optional fields r.to _ s (Says levels fields M r s) e (λ to p1 x1 e1.
      by_variable fields r.a _ s (Says levels fields M r s) e1 (λ receiver p2 x2 e2.
      by_below r.b 4 _ s (Says levels fields M r s) e2 (λ method p3 x3 e3.
      by_and (passed fields r) _ s (Says levels fields M r s) e3 (λ args g e4.
      let q = passed_only fields r _ _ _ args p1 p2 p3 g in
      said levels fields M r (Invoke to receiver method args) s e4
      (record { letter = refl; told = q.told; range = and_from _ _ x1 (and_from _ _ x2 (and_from _ _ x3 q.exist)) })))))
  statement_only G r s h e =
      by_and (two_variables fields r) _ s (Says levels fields G r s) e (λ p g e1.
      let q = two_only fields r p g in said levels fields G r (Get p.0 p.1) s e1 (record { letter = refl; told = q.0; range = and_from _ _ q.1 q.2 }))
  statement_only O r s h e =
      by_when (unused_c r) _ s (Says levels fields O r s) e (λ u e1.
      by_variable fields r.to _ s (Says levels fields O r s) e1 (λ to p2 x2 e2.
      by_below r.a 8 _ s (Says levels fields O r s) e2 (λ class p3 x3 e3.
      by_below r.b levels _ s (Says levels fields O r s) e3 (λ level p4 x4 e4.
      said levels fields O r (Create to class level) s e4
      (record { letter = refl; told = from_c r _ _ _ p2 p3 p4 u; range = and_from _ _ x2 (and_from _ _ x3 x4) })))))
  statement_only R r s h e =
      by_when (is r.to 0 && unused_b r) _ s (Says levels fields R r s) e (λ u e1.
      by_variable fields r.a _ s (Says levels fields R r s) e1 (λ value p x e2.
      let q = and_parts _ _ u in
      said levels fields R r (Return value) s e2 (record { letter = refl; told = from_b r _ _ (is_only r.to 0 q.0) p q.1; range = x })))

-- FROM ITS COLUMNS

-- every number of the seven columns is one of 32 bits
pub record Small (x : Columns) : Type 0 where
  pub to : SFits w32 x.to
  pub a : SFits w32 x.a
  pub b : SFits w32 x.b
  pub c : SFits w32 x.c
  pub d : SFits w32 x.d
  pub e : SFits w32 x.e
  pub f : SFits w32 x.f

nought : SFits w32 (pos 0)
nought = small_fits 0 (omega arith)

three_small : (to a b : ℤ) → SFits w32 to → SFits w32 a → SFits w32 b → Small (three to a b)
three_small to a b p q s = record { to = p; a = q; b = s; c = nought; d = nought; e = nought; f = nought }

below_small : (n limit : ℕ) → limit ≤ 64 → ltb n limit ≡ true → SFits w32 (pos n)
below_small n limit h t = small_fits n (omega (arith, ltb-true n limit t))

pub row_fits : (class method : ℕ) (kind : Kind) (x : Columns) → class < 64 → method < 64 → Small x → Fits (row class method kind x)
row_fits class method kind x p q s =
    record { class = small_fits class p; method = small_fits method q; to = s.to; a = s.a; b = s.b; c = s.c; d = s.d; e = s.e; f = s.f }

pub plain_fits : (class method to a : ℕ) (kind : Kind) → class < 64 → method < 64 → to < 64 → a < 64 → Fits (row class method kind (three (pos to) (pos a) (pos 0)))
plain_fits class method to a kind p q s t = row_fits class method kind _ p q (three_small (pos to) (pos a) (pos 0) (small_fits to s) (small_fits a t) nought)

module _ (fields : ℕ) where
  abbrev here : Variable → Type 0
  here v = exists fields v ≡ true

  at : (v : Variable) → here v → SFits w32 (variable_column v)
  at = variable_fits fields

  arguments_small : (to a b : ℤ) (s : Arguments) → SFits w32 to → SFits w32 a → SFits w32 b → arguments_exist fields s ≡ true → Small (invocation to a b s)
  arguments_small to a b Empty p q t h = record { to = p; a = q; b = t; c = minus_fits; d = minus_fits; e = minus_fits; f = minus_fits }
  arguments_small to a b (One v) p q t h = record { to = p; a = q; b = t; c = at v h; d = minus_fits; e = minus_fits; f = minus_fits }
  arguments_small to a b (Two v w) p q t h = let m = and_parts _ _ h in record { to = p; a = q; b = t; c = at v m.0; d = at w m.1; e = minus_fits; f = minus_fits }
  arguments_small to a b (Three v w x) p q t h =
      let m = and_parts _ _ h in let n = and_parts _ _ m.1 in record { to = p; a = q; b = t; c = at v m.0; d = at w n.0; e = at x n.1; f = minus_fits }
  arguments_small to a b (Four v w x y) p q t h =
      let m = and_parts _ _ h in
      let n = and_parts _ _ m.1 in
      let o = and_parts _ _ n.1 in record { to = p; a = q; b = t; c = at v m.0; d = at w n.0; e = at x o.0; f = at y o.1 }

  three_at : (to a b : Variable) → (exists fields to && (exists fields a && exists fields b)) ≡ true → Small (three (variable_column to) (variable_column a) (variable_column b))
  three_at to a b h = let m = and_parts _ _ h in let n = and_parts _ _ m.1 in three_small _ _ _ (at to m.0) (at a n.0) (at b n.1)

  pub statement_small : (levels : ℕ) (s : Operation) → levels ≤ 8 → in_range levels fields s ≡ true → Small (columns_of s)
  statement_small levels (Constant to number) l h = let m = and_parts _ _ h in three_small _ _ _ (at to m.0) (fits_back number m.1) nought
  statement_small levels (Itself to) l h = three_small _ _ _ (at to h) nought nought
  statement_small levels (Copy to from) l h = let m = and_parts _ _ h in three_small _ _ _ (at to m.0) (at from m.1) nought
  statement_small levels (Add to left right) l h = three_at to left right h
  statement_small levels (Subtract to left right) l h = three_at to left right h
  statement_small levels (Less to left right) l h = three_at to left right h
  statement_small levels (Branch guard first second) l h =
      let m = and_parts _ _ h in
      let n = and_parts _ _ m.1 in
      record { to = nought; a = at guard m.0; b = below_small first 33 (omega arith) n.0; c = below_small second 33 (omega arith) n.1; d = nought; e = nought; f = nought }
  statement_small levels (Invoke to receiver method args) l h =
      let m = and_parts _ _ h in
      let n = and_parts _ _ m.1 in
      let o = and_parts _ _ n.1 in
      arguments_small _ _ _ args (optional_fits fields to m.0) (at receiver n.0) (below_small method 4 (omega arith) o.0) o.1
  statement_small levels (Get to future) l h = let m = and_parts _ _ h in three_small _ _ _ (at to m.0) (at future m.1) nought
  statement_small levels (Create to class level) l h =
      let m = and_parts _ _ h in
      let n = and_parts _ _ m.1 in
      three_small _ _ _ (at to m.0) (below_small class 8 (omega arith) n.0) (below_small level levels (omega arith) n.1)
  statement_small levels (Return value) l h = three_small _ _ _ nought (at value h) nought

  var : (v : Variable) → here v → variable fields (variable_column v) ≡ Some v
  var = variable_back fields

  opt : (v : Variable) → here v → optional fields (variable_column v) ≡ Some (Some v)
  opt v h = optional_back fields (Some v) h

  passed_back : (class method : ℕ) (kind : Kind) (to a b : ℤ) (s : Arguments) → arguments_exist fields s ≡ true → passed fields (row class method kind (invocation to a b s)) ≡ Some s
  passed_back class method kind to a b Empty h = refl
  passed_back class method kind to a b (One v) h = rw (opt v h)
  passed_back class method kind to a b (Two v w) h = let m = and_parts _ _ h in rw (opt v m.0, opt w m.1)
  passed_back class method kind to a b (Three v w x) h = let m = and_parts _ _ h in let n = and_parts _ _ m.1 in rw (opt v m.0, opt w n.0, opt x n.1)
  passed_back class method kind to a b (Four v w x y) h =
      let m = and_parts _ _ h in let n = and_parts _ _ m.1 in let o = and_parts _ _ n.1 in rw (opt v m.0, opt w n.0, opt x o.0, opt y o.1)

  -- the first three columns of a call, whatever its arguments
  first_three : (to a b : ℤ) (s : Arguments) → ((invocation to a b s).to ≡ to) × ((invocation to a b s).a ≡ a) × ((invocation to a b s).b ≡ b)
  first_three to a b Empty = (refl, refl, refl)
  first_three to a b (One v) = (refl, refl, refl)
  first_three to a b (Two v w) = (refl, refl, refl)
  first_three to a b (Three v w x) = (refl, refl, refl)
  first_three to a b (Four v w x y) = (refl, refl, refl)

  pub statement_back : (levels class method : ℕ) (kind : Kind) (s : Operation) → in_range levels fields s ≡ true → statement levels fields (letter_of s) (row class method kind (columns_of s)) ≡ Some s
  statement_back levels class method kind (Constant to number) h = let m = and_parts _ _ h in rw (var to m.0)
  statement_back levels class method kind (Itself to) h = rw (var to h)
  statement_back levels class method kind (Copy to from) h = let m = and_parts _ _ h in rw (var to m.0, var from m.1)
  statement_back levels class method kind (Add to left right) h = let m = and_parts _ _ h in let n = and_parts _ _ m.1 in rw (var to m.0, var left n.0, var right n.1)
  statement_back levels class method kind (Subtract to left right) h = let m = and_parts _ _ h in let n = and_parts _ _ m.1 in rw (var to m.0, var left n.0, var right n.1)
  statement_back levels class method kind (Less to left right) h = let m = and_parts _ _ h in let n = and_parts _ _ m.1 in rw (var to m.0, var left n.0, var right n.1)
  statement_back levels class method kind (Branch guard first second) h =
      let m = and_parts _ _ h in
      let n = and_parts _ _ m.1 in
      rw (var guard m.0, below_back first 33 n.0, below_back second 33 n.1)
  statement_back levels class method kind (Invoke to receiver number args) h =
      let m = and_parts _ _ h in
      let n = and_parts _ _ m.1 in
      let o = and_parts _ _ n.1 in
      let f = first_three (optional_column to) (variable_column receiver) (pos number) args in
      rw (f.0, f.1, f.2, optional_back fields to m.0, var receiver n.0, below_back number 4 o.0, passed_back class method kind (optional_column to) (variable_column receiver) (pos number) args o.1)
  statement_back levels class method kind (Get to future) h = let m = and_parts _ _ h in rw (var to m.0, var future m.1)
  statement_back levels class method kind (Create to class0 level) h =
      let m = and_parts _ _ h in
      let n = and_parts _ _ m.1 in
      rw (var to m.0, below_back class0 8 n.0, below_back level levels n.1)
  statement_back levels class method kind (Return value) h = rw (var value h)
