-- The rows of a text, one by one: more fuel than bytes changes nothing.
use Rattle.std.proofs.Common.{◌≡◌, ℕ, zero, suc, ◌+◌, ◌<◌, ◌≤◌, List, [], ◌∷◌, ◌++◌, length, Ok, Err, Result, sym, refl, ap, ◌∙◌, arith}
use Rattle.script.specs.declared.fault.RowFault.{RowFault}
use Rattle.script.specs.declared.fault.BodyFault.{BodyFault}
use Rattle.script.specs.declared.reader.Row.{Row}
use Rattle.script.specs.declared.row.Place.{Place}
use Rattle.script.specs.declared.row.Entry.{Entry}
use Rattle.script.specs.Bytes.{Got, got, bad, row_at}
use Rattle.script.specs.Rows.{entry}
use Rattle.script.specs.Layout.{row_text}
use Rattle.script.specs.Classes.{Program}
use Rattle.script.specs.Reading.{Draft, bind, place, take_in, with_rest, entry_got, entry_from, taken, row_from, rows_from}
use Rattle.script.proofs.Lines.{none, Fits, row_back, row_shorter}

-- what comes of a value that was bound
pub by_bind : {X Y : Type 0} (g : Result X BodyFault) (k : X → Result Y BodyFault) (y : Y) (P : Type 0) → bind g k ≡ Ok y → ((x : X) → g ≡ Ok x → k x ≡ Ok y → P) → P
by_bind (Ok x) k y P e f = f x refl e
by_bind (Err x) k y P e f = none (cc)

-- a row that was taken in: its columns, what they say, and what comes of it
pub record Taken (levels line : ℕ) (d : Draft) (bs : List ℕ) (e : Draft) (rest : List ℕ) : Type 0 where
  pub row : Row
  pub said : Entry
  pub read : row_at bs ≡ got row rest
  pub says : entry levels line (place d) row ≡ Ok said
  pub does : take_in line said.begins_class said.item d ≡ Ok e

by_rest : (q : Result Entry RowFault) (bs : List ℕ) (x : Entry) (rest : List ℕ) → with_rest q bs ≡ Ok (x, rest) → (q ≡ Ok x) × (bs ≡ rest)
by_rest (Ok y) bs x rest e = let p : ◌≡◌ {A = Entry × List ℕ} (y, bs) (x, rest) = cc in (ap (λ q. Ok q.0) p, ap (λ q. q.1) p)
by_rest (Err f) bs x rest e = none (cc)

by_entry : (levels line : ℕ) (p : Place) (g : Got Row) (x : Entry) (rest : List ℕ) → entry_got levels line p g ≡ Ok (x, rest)
    → (r : Row) × (g ≡ got r rest) × (entry levels line p r ≡ Ok x)
by_entry levels line p bad x rest e = none (cc)
by_entry levels line p (got r bs) x rest e = let q = by_rest (entry levels line p r) bs x rest e in (r, ap (λ l. got r l) q.1, q.0)

by_taken : (line : ℕ) (d : Draft) (q : Result (Entry × List ℕ) RowFault) (e : Draft) (rest : List ℕ) → taken line d q ≡ Ok (e, rest)
    → (x : Entry) × (q ≡ Ok (x, rest)) × (take_in line x.begins_class x.item d ≡ Ok e)
by_taken line d (Ok p) e rest h =
    by_bind (take_in line p.0.begins_class p.0.item d) (λ f. Ok (f, p.1)) (e, rest)
    ((x : Entry) × (Ok p ≡ Ok (x, rest)) × (take_in line x.begins_class x.item d ≡ Ok e)) h
    (λ f g k. let q : ◌≡◌ {A = Draft × List ℕ} (f, p.1) (e, rest) = cc in (p.0, ap (λ l. Ok (p.0, l)) (ap (λ z. z.1) q), g ∙ ap (λ z. Ok z.0) q))
by_taken line d (Err f) e rest h = none (cc)

pub row-taken : (levels line : ℕ) (d : Draft) (bs : List ℕ) (e : Draft) (rest : List ℕ) → row_from levels line d bs ≡ Ok (e, rest) → Taken levels line d bs e rest
row-taken levels line d bs e rest h =
    let t = by_taken line d (entry_from levels line (place d) bs) e rest h in
    let p = by_entry levels line (place d) (row_at bs) t.0 rest t.1 in
    record { row = p.0; said = t.0; read = p.1; says = p.2; does = t.2 }

pub rest_shorter : (levels line : ℕ) (d : Draft) (bs : List ℕ) (e : Draft) (rest : List ℕ) → row_from levels line d bs ≡ Ok (e, rest) → length rest < length bs
rest_shorter levels line d bs e rest h = let t = row-taken levels line d bs e rest h in row_shorter bs t.row rest t.read

bind_same : {X Y : Type 0} (g : Result X BodyFault) (k l : X → Result Y BodyFault) → ((x : X) → g ≡ Ok x → k x ≡ l x) → bind g k ≡ bind g l
bind_same (Ok x) k l h = h x refl
bind_same (Err f) k l h = refl

pub fuel_enough : (f g levels line : ℕ) (d : Draft) (bs : List ℕ) → length bs ≤ f → length bs ≤ g → rows_from f levels line d bs ≡ rows_from g levels line d bs
fuel_enough f g levels line d [] p q = refl
fuel_enough zero g levels line d (b ∷ bs) p q = absurd (omega arith)
fuel_enough (suc f) zero levels line d (b ∷ bs) p q = absurd (omega arith)
fuel_enough (suc f) (suc g) levels line d (b ∷ bs) p q =
    bind_same (row_from levels line d (b ∷ bs)) (λ x. rows_from f levels (line + 1) x.0 x.1) (λ x. rows_from g levels (line + 1) x.0 x.1)
    (λ x e. let s = rest_shorter levels line d (b ∷ bs) x.0 x.1 e in fuel_enough f g levels (line + 1) x.0 x.1 (omega arith) (omega arith))

-- the rows in some bytes, with as much fuel as there are bytes
abbrev pub rows_in : ℕ → ℕ → Draft → List ℕ → Result Program BodyFault
rows_in levels line d bs = rows_from (length bs) levels line d bs

rows_more : (levels line : ℕ) (d : Draft) (bs : List ℕ) (e : Draft) (rest : List ℕ) → row_from levels line d bs ≡ Ok (e, rest) → length rest < length bs
    → rows_in levels line d bs ≡ rows_in levels (line + 1) e rest
rows_more levels line d [] e rest g s = absurd (omega arith)
rows_more levels line d (b ∷ bs) e rest g s = rw g (fuel_enough (length bs) (length rest) levels (line + 1) e rest (omega arith) (omega arith))

-- a row that is there is read, and what it says is taken in
pub rows_feed : (levels line : ℕ) (d : Draft) (r : Row) (rest : List ℕ) (x : Entry) (e : Draft) → Fits r → entry levels line (place d) r ≡ Ok x
    → take_in line x.begins_class x.item d ≡ Ok e → rows_in levels line d (row_text r ++ rest) ≡ rows_in levels (line + 1) e rest
rows_feed levels line d r rest x e fit n t =
    let g : row_from levels line d (row_text r ++ rest) ≡ Ok (e, rest) = rw (row_back r rest fit, n, t) in
    rows_more levels line d (row_text r ++ rest) e rest g (rest_shorter levels line d (row_text r ++ rest) e rest g)

-- a row was read: what is left still tells the whole
pub rows_step : (levels line next : ℕ) (d : Draft) (bs : List ℕ) (e : Draft) (rest : List ℕ) (whole : Result Program BodyFault)
    → whole ≡ rows_in levels line d bs → row_from levels line d bs ≡ Ok (e, rest) → next ≡ line + 1 → whole ≡ rows_in levels next e rest
rows_step levels line next d bs e rest whole w g l =
    w ∙ rows_more levels line d bs e rest g (rest_shorter levels line d bs e rest g) ∙ ap (λ k. rows_in levels k e rest) (sym l)
