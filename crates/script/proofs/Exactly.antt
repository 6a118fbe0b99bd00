-- A text is read as a program exactly when it is the text of that program.
use Rattle.std.proofs.Common.{◌≡◌, ℕ, zero, suc, ◌+◌, ◌≤◌, true, List, [], ◌∷◌, ◌++◌, length, Ok, sym, refl, ap, ◌∙◌, append_assoc, append-nil, arith}
use Rattle.script.specs.declared.reader.Row.{Row}
use Rattle.script.specs.Bytes.{Got, got, bad, names, bytes_at}
use Rattle.script.specs.Classes.{Program}
use Rattle.script.specs.Layout.{row_text, rows_text, text_of, rows_of, well_formed}
use Rattle.script.specs.Reading.{Draft, nothing, row_from, rows_from, after_names, reading}
use Rattle.script.specs.Laws.{ReadsExactly, OneText}
use Rattle.script.proofs.Lines.{none, bytes_only, bytes_back, row_only}
use Rattle.script.proofs.Rowing.{by_bind, row-taken, rest_shorter}
use Rattle.script.proofs.Listing.{text_append}
use Rattle.script.proofs.Following.{rows_so_far, Sound, Bare, nothing_sound, next_row, next_end}
use Rattle.script.proofs.Feeding.{program_back}

-- one row more, as text
row_more : (rows : List Row) (r : Row) (rest : List ℕ) → rows_text rows ++ (row_text r ++ rest) ≡ rows_text (rows ++ r ∷ []) ++ rest
row_more rows r rest = sym (ap (λ bs. bs ++ rest) (text_append rows (r ∷ []) ∙ ap (λ bs. rows_text rows ++ bs) (append-nil (row_text r))) ∙ append_assoc (rows_text rows) (row_text r) rest)

module _ (levels : ℕ) where
  -- what is read is the text of what comes of it
  rows_only : (fuel line : ℕ) (d : Draft) (bs : List ℕ) (p : Program) → Sound levels d → Bare levels d.heading d.methods → length bs ≤ fuel → rows_from fuel levels line d bs ≡ Ok p
      → (rows_text (rows_so_far d) ++ bs ≡ rows_text (rows_of p)) × (well_formed levels p ≡ true)
  rows_only fuel line d [] p s z h e = let q = next_end levels d p s e in (append-nil (rows_text (rows_so_far d)) ∙ ap rows_text (sym q.0), q.1)
  rows_only zero line d (b ∷ bs) p s z h e = absurd (omega arith)
  rows_only (suc fuel) line d (b ∷ bs) p s z h e =
      by_bind (row_from levels line d (b ∷ bs)) (λ x. rows_from fuel levels (line + 1) x.0 x.1) p ((rows_text (rows_so_far d) ++ (b ∷ bs) ≡ rows_text (rows_of p)) × (well_formed levels p ≡ true)) e
      (λ x g k.
      let t = row-taken levels line d (b ∷ bs) x.0 x.1 g in
      let o = row_only (b ∷ bs) t.row x.1 t.read in
      let n = next_row levels line d t.row t.said x.0 s z o.fits t.says t.does in
      let short = rest_shorter levels line d (b ∷ bs) x.0 x.1 g in
      let ih = rows_only fuel (line + 1) x.0 x.1 p n.sound n.bare (omega arith) k in (
        ap (λ l. rows_text (rows_so_far d) ++ l) o.text ∙ row_more (rows_so_far d) t.row x.1 ∙ ap (λ rs. rows_text rs ++ x.1) (sym n.rows) ∙ ih.0,
        ih.1,
      ))

  by_names : (g : Got (Unit {0})) (p : Program) → after_names levels g ≡ Ok p → (rest : List ℕ) × (g ≡ got tt rest) × (rows_from (length rest) levels 2 nothing rest ≡ Ok p)
  by_names (got u rest) p e = (rest, refl, e)
  by_names bad p e = none (cc)

  pub only : (text : List ℕ) (p : Program) → reading levels text ≡ Ok p → (text ≡ text_of (rows_of p)) × (well_formed levels p ≡ true)
  only text p e =
      let q = by_names (bytes_at names text) p e in
      let r = rows_only (length q.0) 2 nothing q.0 p (nothing_sound levels) refl (omega arith) q.2 in
      (bytes_only names text tt q.0 q.1 ∙ ap (λ l. names ++ l) r.0, r.1)

  pub back : levels ≤ 8 → (p : Program) → well_formed levels p ≡ true → reading levels (text_of (rows_of p)) ≡ Ok p
  back few p h = ap (after_names levels) (bytes_back names (rows_text (rows_of p))) ∙ program_back levels few 2 p h

  pub reads_exactly : levels ≤ 8 → ReadsExactly levels
  reads_exactly few text p = (only text p, λ h. ap (reading levels) h.0 ∙ back few p h.1)

  pub one_text : OneText levels
  one_text one other p e f = (only one p e).0 ∙ sym (only other p f).0
