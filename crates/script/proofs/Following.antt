-- What is read is what is written: each row that a draft takes in is the next row of the draft, and the draft stays well-formed.
use Rattle.std.proofs.Common.{◌≡◌, ℕ, ◌+◌, ◌-◌, ◌<◌, ◌≤◌, Bool, true, false, cond, ◌&&◌, eqb, ltb, leb, List, [], ◌∷◌, ◌++◌, map, length, pos, Some, None, Ok, Option, sym, refl, ap, ◌∙◌, subst, append_assoc, append-nil, zero-add, arith, length-append}
use Rattle.std.proofs.lemmas.Bool.{cond_both, and_parts, and_from, leb-true, ltb-true, ltb-false, eqb-true, le-leb, lt-ltb}
use Rattle.std.proofs.lemmas.List.{map_push, nil_from_length}
use Rattle.script.specs.declared.class.Statement.{Statement as Operation}
use Rattle.script.specs.declared.reader.Letter.{Letter}
use Rattle.script.specs.declared.reader.Kind.{Kind}
use Rattle.script.specs.declared.reader.Kind.TheVariants.{Field, Parameters, Statement}
use Rattle.script.specs.declared.reader.Row.{Row}
use Rattle.script.specs.declared.row.Place.{Place}
use Rattle.script.specs.declared.row.Item.{Item}
use Rattle.script.specs.declared.row.Item.TheVariants.{Label, Head, Action}
use Rattle.script.specs.declared.row.Entry.{Entry}
use Rattle.script.specs.declared.heading.Heading.{Heading}
use Rattle.script.specs.Rows.{is, below, unused_b, begins_class, follows, field_follows, method_follows, statement_follows, statement, label, head, item, ranged, entry}
use Rattle.script.specs.Classes.{Method, Class, Program}
use Rattle.script.specs.Bodies.{stands}
use Rattle.script.specs.Layout.{Columns, three, columns_of, letter_of, row, field_row, field_rows, head_row, statement_row, method_rows, methods_rows, class_rows, classes_rows, rows_of, every, in_range, method_formed, class_formed, well_formed}
use Rattle.script.specs.Reading.{Draft, nothing, open_methods, place, close_method, close_body, close_class, turn_class, with_field, with_heading, with_statement, take_in, all_classes, finish}
use Rattle.script.proofs.Lines.{none, Fits}
use Rattle.script.proofs.Rowing.{by_bind}
use Rattle.script.proofs.Columns.{by_and, by_when, is_only, below_only}
use Rattle.script.proofs.Saying.{columns, from_b, statement_only}
use Rattle.script.proofs.Listing.{every-push, fields_push, methods_push, classes_push}

abbrev pub draft : List Class → List ℕ → List Method → Option Heading → List Operation → Draft
draft cs fs ms h ss = record { classes = cs; fields = fs; methods = ms; heading = h; statements = ss }

-- the rows of an open method
abbrev pub open_rows : ℕ → ℕ → Option Heading → List Operation → List Row
open_rows class k None ss = []
open_rows class k (Some h) ss = head_row class k h.parameters ∷ map (statement_row class k) ss

-- the rows that were read so far
abbrev pub rows_so_far : Draft → List Row
rows_so_far d =
    let class = length d.classes in
    classes_rows 0 d.classes ++ (field_rows class 0 d.fields ++ (methods_rows class 0 d.methods ++ open_rows class (length d.methods) d.heading d.statements))

-- WHERE A ROW STANDS

begins_only : (p : Place) (r : Row) → begins_class p r ≡ true → (0 < p.fields + p.methods) × (p.class ≤ 6) × (r.class ≡ pos (p.class + 1))
begins_only p r h = let x = and_parts _ _ h in let y = and_parts _ _ x.1 in (ltb-true _ _ x.0, leb-true _ _ y.0, is_only r.class _ y.1)

field_at : (p : Place) (r : Row) (b : Bool) → begins_class p r ≡ b → field_follows p r ≡ true
    → (r.method ≡ pos 0) × (r.class ≡ pos (cond b (p.class + 1) p.class)) × (r.to ≡ pos (cond b 0 p.fields)) × (cond b 0 p.fields ≤ 7) × (cond b 0 p.methods ≡ 0)
field_at p r true e h =
    let m = and_parts _ _ h in (is_only r.method 0 m.0, (begins_only p r e).2, is_only r.to 0 (rw e at m.1), omega arith, refl)
field_at p r false e h =
    let m = and_parts _ _ h in
    let n : (is r.class p.class && (eqb p.methods 0 && (leb p.fields 7 && is r.to p.fields))) ≡ true = rw e at m.1 in
    let x = and_parts _ _ n in
    let y = and_parts _ _ x.1 in
    let z = and_parts _ _ y.1 in
    (is_only r.method 0 m.0, is_only r.class _ x.0, is_only r.to _ z.1, leb-true _ _ z.0, eqb-true _ _ y.0)

method_at : (p : Place) (r : Row) (b : Bool) → begins_class p r ≡ b → method_follows p r ≡ true
    → (r.class ≡ pos (cond b (p.class + 1) p.class)) × (r.method ≡ pos (cond b 0 p.methods)) × (cond b 0 p.methods ≤ 3)
method_at p r true e h = ((begins_only p r e).2, is_only r.method 0 (rw e at h), omega arith)
method_at p r false e h =
    let n : (is r.class p.class && (leb p.methods 3 && is r.method p.methods)) ≡ true = rw e at h in
    let x = and_parts _ _ n in
    let y = and_parts _ _ x.1 in
    (is_only r.class _ x.0, is_only r.method _ y.1, leb-true _ _ y.0)

-- WHAT A ROW SAYS

row_is : (r : Row) (class method : ℕ) (kind : Kind) (x : Columns) → r.class ≡ pos class → r.method ≡ pos method → r.kind ≡ kind → columns r ≡ x → r ≡ row class method kind x
row_is r class method kind x p q k t =
    let f : Columns → Row = λ y. record { class = pos class; method = pos method; kind = kind; to = y.to; a = y.a; b = y.b; c = y.c; d = y.d; e = y.e; f = y.f } in
    let here : r ≡ f (columns r) = rw (← p, ← q, ← k) in
    here ∙ ap f t

label_only : (levels : ℕ) (r : Row) (i : Item) → label levels r ≡ Some i → (l : ℕ) × (i ≡ Label l) × (columns r ≡ three r.to (pos l) (pos 0)) × (ltb l levels ≡ true)
label_only levels r i e =
    by_when (unused_b r) _ i ((l : ℕ) × (i ≡ Label l) × (columns r ≡ three r.to (pos l) (pos 0)) × (ltb l levels ≡ true)) e (λ u e1.
    by_and (below r.a levels) _ i ((l : ℕ) × (i ≡ Label l) × (columns r ≡ three r.to (pos l) (pos 0)) × (ltb l levels ≡ true)) e1 (λ l g e2.
    let q = below_only r.a levels l g in (l, cc, from_b r _ _ refl q.0 u, q.1)))

head_only : (r : Row) (i : Item) → head r ≡ Some i → (k : ℕ) × (i ≡ Head k) × (columns r ≡ three (pos 0) (pos k) (pos 0)) × (ltb k 5 ≡ true)
head_only r i e =
    by_when (is r.to 0 && unused_b r) _ i ((k : ℕ) × (i ≡ Head k) × (columns r ≡ three (pos 0) (pos k) (pos 0)) × (ltb k 5 ≡ true)) e (λ u e1.
    by_and (below r.a 5) _ i ((k : ℕ) × (i ≡ Head k) × (columns r ≡ three (pos 0) (pos k) (pos 0)) × (ltb k 5 ≡ true)) e1 (λ k g e2.
    let q = below_only r.a 5 k g in
    let v = and_parts _ _ u in
    (k, cc, from_b r _ _ (is_only r.to 0 v.0) q.0 v.1, q.1)))

by_ranged : (line : ℕ) (b : Bool) (o : Option Item) (x : Entry) → ranged line b o ≡ Ok x → (o ≡ Some x.item) × (b ≡ x.begins_class)
by_ranged line b (Some i) x e = let s : record { begins_class = b; item = i } ≡ x = cc in (ap (λ y. Some y.item) s, ap (λ y. y.begins_class) s)
by_ranged line b None x e = none (cc)

by_entry : (levels line : ℕ) (p : Place) (r : Row) (x : Entry) → entry levels line p r ≡ Ok x
    → (follows r.kind p r ≡ true) × (item levels p.fields r.kind r ≡ Some x.item) × (begins_class p r ≡ x.begins_class)
by_entry levels line p r x =
    cond_both (follows r.kind p r) _ _ (λ q. q ≡ Ok x → (follows r.kind p r ≡ true) × (item levels p.fields r.kind r ≡ Some x.item) × (begins_class p r ≡ x.begins_class))
    (λ t e. let q = by_ranged line (begins_class p r) (item levels p.fields r.kind r) x e in (t, q.0, q.1))
    (λ _ e. none (cc))

-- DRAFTS

module _ (levels : ℕ) where
  abbrev Headed : ℕ → Option Heading → List Operation → Type 0
  Headed fields None ss = ss ≡ []
  Headed fields (Some h) ss = (ltb h.parameters 5 ≡ true) × (length ss ≤ 32) × (every (in_range levels fields) ss ≡ true)

  -- what was checked of a draft
  pub record Sound (d : Draft) : Type 0 where
    pub number : length d.classes ≤ 7
    pub formed : every (class_formed levels) d.classes ≡ true
    pub few_fields : length d.fields ≤ 8
    pub labels : every (λ l. ltb l levels) d.fields ≡ true
    pub few_methods : length d.methods + open_methods d.heading ≤ 4
    pub bodies : every (method_formed levels (length d.fields)) d.methods ≡ true
    pub headed : Headed (length d.fields) d.heading d.statements

  pub nothing_sound : Sound nothing
  nothing_sound = record { number = omega arith; formed = refl; few_fields = omega arith; labels = refl; few_methods = omega arith; bodies = refl; headed = refl }

  -- the open method is closed
  pub record Closed (cs : List Class) (fs : List ℕ) (ms : List Method) (h : Option Heading) (ss : List Operation) (e : Draft) : Type 0 where
    pub methods : List Method
    pub is : e ≡ draft cs fs methods None []
    pub count : length methods ≡ length ms + open_methods h
    pub sound : Sound (draft cs fs methods None [])
    pub rows : rows_so_far (draft cs fs methods None []) ≡ rows_so_far (draft cs fs ms h ss)

  closed_method : (cs : List Class) (fs : List ℕ) (ms : List Method) (h : Heading) (ss : List Operation) → Sound (draft cs fs ms (Some h) ss) → stands ss ≡ true
      → Closed cs fs ms (Some h) ss (draft cs fs (ms ++ record { parameters = h.parameters; statements = ss } ∷ []) None [])
  closed_method cs fs ms h ss s t =
      let m : Method = record { parameters = h.parameters; statements = ss } in
      let k = length-append ms (m ∷ []) in
      let q = s.headed in
      record {
        methods = ms ++ m ∷ [];
        is = refl;
        count = k;
        sound = record {
          number = s.number;
          formed = s.formed;
          few_fields = s.few_fields;
          labels = s.labels;
          few_methods = omega (arith, s.few_methods);
          bodies = every-push (method_formed levels (length fs)) ms m s.bodies (and_from _ _ q.0 (and_from _ _ (le-leb _ _ q.1) (and_from _ _ q.2 t)));
          headed = refl;
        };
        rows =
            ap (λ rs. classes_rows 0 cs ++ (field_rows (length cs) 0 fs ++ rs))
            (append-nil (methods_rows (length cs) 0 (ms ++ m ∷ [])) ∙ methods_push (length cs) 0 ms m ∙ ap (λ n. methods_rows (length cs) 0 ms ++ method_rows (length cs) n m) (zero-add (length ms)));
      }

  pub closed_body : (cs : List Class) (fs : List ℕ) (ms : List Method) (h : Option Heading) (ss : List Operation) (e : Draft) → Sound (draft cs fs ms h ss)
      → close_method h (draft cs fs ms h ss) ≡ Ok e → Closed cs fs ms h ss e
  closed_body cs fs ms None ss e s = λ p.
      let same : draft cs fs ms None ss ≡ e = cc in
      record {
        methods = ms;
        is = sym same ∙ ap (draft cs fs ms None) s.headed;
        count = omega arith;
        sound = subst (λ q. Sound (draft cs fs ms None q)) s.headed s;
        rows = refl;
      }
  closed_body cs fs ms (Some h) ss e s =
      cond_both (stands ss) _ _ (λ r. r ≡ Ok e → Closed cs fs ms (Some h) ss e)
      (λ t p. let same : draft cs fs (ms ++ record { parameters = h.parameters; statements = ss } ∷ []) None [] ≡ e = cc in subst (Closed cs fs ms (Some h) ss) same (closed_method cs fs ms h ss s t))
      (λ _ p. none (cc))

  -- the class at hand is complete
  module _ (cs : List Class) (fs : List ℕ) (ms : List Method) (s : Sound (draft cs fs ms None [])) where
    abbrev whole : List Class
    whole = cs ++ record { fields = fs; methods = ms } ∷ []

    whole-formed : 0 < length fs + length ms → every (class_formed levels) whole ≡ true
    whole-formed some =
        every-push (class_formed levels) cs _ s.formed
        (and_from _ _ (le-leb _ _ s.few_fields) (and_from _ _ (le-leb _ _ (omega (arith, s.few_methods))) (and_from _ _ (lt-ltb _ _ some) (and_from _ _ s.labels s.bodies))))

    whole-rows : classes_rows 0 whole ≡ rows_so_far (draft cs fs ms None [])
    whole-rows =
        classes_push 0 cs _ ∙ ap (λ n. classes_rows 0 cs ++ class_rows n (record { fields = fs; methods = ms })) (zero-add (length cs))
        ∙ ap (λ rs. classes_rows 0 cs ++ (field_rows (length cs) 0 fs ++ rs)) (sym (append-nil (methods_rows (length cs) 0 ms)))

    class_closed : 0 < length fs + length ms → length cs ≤ 6 → Sound (draft whole [] [] None []) × (rows_so_far (draft whole [] [] None []) ≡ rows_so_far (draft cs fs ms None []))
    class_closed some few =
        let k = length-append cs (record { fields = fs; methods = ms } ∷ []) in (
          record { number = omega (arith, k); formed = whole-formed some; few_fields = omega arith; labels = refl; few_methods = omega arith; bodies = refl; headed = refl },
          append-nil (classes_rows 0 whole) ∙ whole-rows,
        )

    -- the end of the text
    end_classes : (rows_of (all_classes (draft cs fs ms None [])) ≡ rows_so_far (draft cs fs ms None [])) × (well_formed levels (all_classes (draft cs fs ms None [])) ≡ true)
    end_classes =
        let k = length-append cs (record { fields = fs; methods = ms } ∷ []) in
        cond_both (ltb 0 (length fs + (length ms + 0))) whole cs (λ p. (rows_of p ≡ rows_so_far (draft cs fs ms None [])) × (well_formed levels p ≡ true))
        (λ t. (whole-rows, and_from _ _ (le-leb _ _ (omega (arith, k, s.number))) (whole-formed (omega (arith, ltb-true _ _ t)))))
        (λ t.
        let no_fields : fs ≡ [] = nil_from_length fs (omega (arith, ltb-false _ _ t)) in
        let no_methods : ms ≡ [] = nil_from_length ms (omega (arith, ltb-false _ _ t)) in (
          sym (append-nil (classes_rows 0 cs)) ∙ (λ i. rows_so_far (draft cs (sym no_fields i) (sym no_methods i) None [])),
          and_from _ _ (le-leb _ _ (omega (arith, s.number))) s.formed,
        ))

  -- what a field or a heading is added to: nothing is open, and the numbers are those of the next row
  pub record Turned (begins : Bool) (cs : List Class) (fs : List ℕ) (ms : List Method) (h : Option Heading) (ss : List Operation) (e : Draft) : Type 0 where
    pub classes : List Class
    pub fields : List ℕ
    pub methods : List Method
    pub is : turn_class begins e ≡ draft classes fields methods None []
    pub class_number : length classes ≡ cond begins (length cs + 1) (length cs)
    pub field_number : length fields ≡ cond begins 0 (length fs)
    pub method_number : length methods ≡ cond begins 0 (length ms + open_methods h)
    pub sound : Sound (draft classes fields methods None [])
    pub rows : rows_so_far (draft classes fields methods None []) ≡ rows_so_far (draft cs fs ms h ss)

  pub turned : (begins : Bool) (cs : List Class) (fs : List ℕ) (ms : List Method) (h : Option Heading) (ss : List Operation) (e : Draft) → Closed cs fs ms h ss e
      → (begins ≡ true → (0 < length fs + (length ms + open_methods h)) × (length cs ≤ 6)) → Turned begins cs fs ms h ss e
  turned true cs fs ms h ss e c may =
      let n = c.count in
      let q = may refl in
      let p = class_closed cs fs c.methods c.sound (omega arith) q.1 in
      record {
        classes = cs ++ record { fields = fs; methods = c.methods } ∷ [];
        fields = [];
        methods = [];
        is = ap close_class c.is;
        class_number = length-append cs _;
        field_number = refl;
        method_number = refl;
        sound = p.0;
        rows = p.1 ∙ c.rows;
      }
  turned false cs fs ms h ss e c may =
      record { classes = cs; fields = fs; methods = c.methods; is = c.is; class_number = refl; field_number = refl; method_number = c.count; sound = c.sound; rows = c.rows }

  -- a field, a heading or a statement is added
  field_added : (cs : List Class) (fs : List ℕ) (l : ℕ) → Sound (draft cs fs [] None []) → length fs ≤ 7 → ltb l levels ≡ true
      → Sound (draft cs (fs ++ l ∷ []) [] None []) × (rows_so_far (draft cs (fs ++ l ∷ []) [] None []) ≡ rows_so_far (draft cs fs [] None []) ++ field_row (length cs) (length fs) l ∷ [])
  field_added cs fs l s few t =
      let k = length-append fs (l ∷ []) in (
        record {
          number = s.number;
          formed = s.formed;
          few_fields = omega (arith, k);
          labels = every-push (λ x. ltb x levels) fs l s.labels t;
          few_methods = omega arith;
          bodies = refl;
          headed = refl;
        },
        ap (λ rs. classes_rows 0 cs ++ rs)
            (append-nil (field_rows (length cs) 0 (fs ++ l ∷ [])) ∙ fields_push (length cs) 0 fs l ∙ ap (λ n. field_rows (length cs) 0 fs ++ field_row (length cs) n l ∷ []) (zero-add (length fs)))
            ∙ sym (append_assoc (classes_rows 0 cs) (field_rows (length cs) 0 fs) (field_row (length cs) (length fs) l ∷ []))
            ∙ ap (λ rs. (classes_rows 0 cs ++ rs) ++ field_row (length cs) (length fs) l ∷ []) (sym (append-nil (field_rows (length cs) 0 fs))),
      )

  -- the rows of an open method stand last
  last_rows : (cs : List Class) (fs : List ℕ) (ms : List Method) (rs more : List Row)
      → (classes_rows 0 cs ++ (field_rows (length cs) 0 fs ++ (methods_rows (length cs) 0 ms ++ (rs ++ more))))
      ≡ ((classes_rows 0 cs ++ (field_rows (length cs) 0 fs ++ (methods_rows (length cs) 0 ms ++ rs))) ++ more)
  last_rows cs fs ms rs more = simp append_assoc

  heading_added : (cs : List Class) (fs : List ℕ) (ms : List Method) (line k : ℕ) → Sound (draft cs fs ms None []) → length ms ≤ 3 → ltb k 5 ≡ true
      → Sound (draft cs fs ms (Some (record { line = line; parameters = k })) [])
      × (rows_so_far (draft cs fs ms (Some (record { line = line; parameters = k })) []) ≡ rows_so_far (draft cs fs ms None []) ++ head_row (length cs) (length ms) k ∷ [])
  heading_added cs fs ms line k s few t = (
    record {
      number = s.number;
      formed = s.formed;
      few_fields = s.few_fields;
      labels = s.labels;
      few_methods = omega arith;
      bodies = s.bodies;
      headed = (t, omega arith, refl);
    },
    last_rows cs fs ms [] (head_row (length cs) (length ms) k ∷ []),
  )

  statement-added : (cs : List Class) (fs : List ℕ) (ms : List Method) (h : Heading) (ss : List Operation) (o : Operation) → Sound (draft cs fs ms (Some h) ss) → length ss ≤ 31
      → in_range levels (length fs) o ≡ true
      → Sound (draft cs fs ms (Some h) (ss ++ o ∷ []))
      × (rows_so_far (draft cs fs ms (Some h) (ss ++ o ∷ [])) ≡ rows_so_far (draft cs fs ms (Some h) ss) ++ statement_row (length cs) (length ms) o ∷ [])
  statement-added cs fs ms h ss o s few t =
      let k = length-append ss (o ∷ []) in
      let q = s.headed in
      let write = statement_row (length cs) (length ms) in (
        record {
          number = s.number;
          formed = s.formed;
          few_fields = s.few_fields;
          labels = s.labels;
          few_methods = s.few_methods;
          bodies = s.bodies;
          headed = (q.0, omega (arith, k), every-push (in_range levels (length fs)) ss o q.2 t);
        },
        ap (λ rs. classes_rows 0 cs ++ (field_rows (length cs) 0 fs ++ (methods_rows (length cs) 0 ms ++ (head_row (length cs) (length ms) h.parameters ∷ rs)))) (map_push write ss o)
            ∙ last_rows cs fs ms (head_row (length cs) (length ms) h.parameters ∷ map write ss) (write o ∷ []),
      )

  -- ONE ROW

  -- between two rows, no method is complete while none is open
  abbrev pub Bare : Option Heading → List Method → Type 0
  Bare None ms = ms ≡ []
  Bare (Some h) ms = Unit {0}

  -- the next draft is sound, and has one row more
  pub record Next (d : Draft) (r : Row) (e : Draft) : Type 0 where
    pub sound : Sound e
    pub bare : Bare e.heading e.methods
    pub rows : rows_so_far e ≡ rows_so_far d ++ r ∷ []

  make_next : (d d0 e0 e : Draft) (r r0 : Row) → Sound e0 × (rows_so_far e0 ≡ rows_so_far d0 ++ r0 ∷ []) → Bare e0.heading e0.methods → rows_so_far d0 ≡ rows_so_far d → r ≡ r0 → e0 ≡ e → Next d r e
  make_next d d0 e0 e r r0 p z q k same =
      record {
        sound = subst Sound same p.0;
        bare = subst (λ x. Bare x.heading x.methods) same z;
        rows = ap rows_so_far (sym same) ∙ p.1 ∙ ap (λ rs. rs ++ r0 ∷ []) q ∙ ap (λ x. rows_so_far d ++ x ∷ []) (sym k);
      }

  -- what the row closes is closed
  turned-draft : (d : Draft) (r : Row) (b : Bool) (e : Draft) → Sound d → begins_class (place d) r ≡ b → close_body d ≡ Ok e
      → Turned b d.classes d.fields d.methods d.heading d.statements e
  turned-draft d r b e s g c =
      turned b _ _ _ _ _ e (closed_body d.classes d.fields d.methods d.heading d.statements e s c)
      (λ t. let x = begins_only (place d) r (g ∙ t) in (x.0, x.1))

  next_field : (line : ℕ) (d : Draft) (r : Row) (b : Bool) (i : Item) (e : Draft) → Sound d → r.kind ≡ Field → field_follows (place d) r ≡ true → begins_class (place d) r ≡ b
      → label levels r ≡ Some i → take_in line b i d ≡ Ok e → Next d r e
  next_field line d r b i e s k f g t h =
      let q = label_only levels r i t in
      let l = q.0 in
      by_bind (close_body d) (λ x. Ok (with_field (turn_class b x) l)) e (Next d r e) (subst (λ j. take_in line b j d ≡ Ok e) q.1 h) (λ x c same.
      let u = turned-draft d r b x s g c in
      let a = field_at (place d) r b g f in
      let none_yet : u.methods ≡ [] = nil_from_length u.methods (u.method_number ∙ a.4) in
      let is_e : with_field (turn_class b x) l ≡ e = cc in
      let here : draft u.classes u.fields u.methods None [] ≡ draft u.classes u.fields [] None [] = ap (λ ms. draft u.classes u.fields ms None []) none_yet in
      make_next d (draft u.classes u.fields [] None []) (draft u.classes (u.fields ++ l ∷ []) [] None []) e r (field_row (length u.classes) (length u.fields) l)
      (field_added u.classes u.fields l (subst Sound here u.sound) (subst (λ n. n ≤ 7) (sym u.field_number) a.3) q.3) refl
      (ap rows_so_far (sym here) ∙ u.rows)
      (row_is r _ 0 Field _ (a.1 ∙ ap pos (sym u.class_number)) a.0 k (q.2 ∙ ap (λ z. three z (pos l) (pos 0)) (a.2 ∙ ap pos (sym u.field_number))))
      (ap (λ y. with_field y l) (sym (u.is ∙ here)) ∙ is_e))

  next_head : (line : ℕ) (d : Draft) (r : Row) (b : Bool) (i : Item) (e : Draft) → Sound d → r.kind ≡ Parameters → method_follows (place d) r ≡ true → begins_class (place d) r ≡ b
      → head r ≡ Some i → take_in line b i d ≡ Ok e → Next d r e
  next_head line d r b i e s k f g t h =
      let q = head_only r i t in
      let n = q.0 in
      by_bind (close_body d) (λ x. Ok (with_heading (turn_class b x) line n)) e (Next d r e) (subst (λ j. take_in line b j d ≡ Ok e) q.1 h) (λ x c same.
      let u = turned-draft d r b x s g c in
      let a = method_at (place d) r b g f in
      let is_e : with_heading (turn_class b x) line n ≡ e = cc in
      make_next d (draft u.classes u.fields u.methods None []) (draft u.classes u.fields u.methods (Some (record { line = line; parameters = n })) []) e r
      (head_row (length u.classes) (length u.methods) n)
      (heading_added u.classes u.fields u.methods line n u.sound (subst (λ y. y ≤ 3) (sym u.method_number) a.2) q.3) tt
      u.rows
      (row_is r _ _ Parameters _ (a.0 ∙ ap pos (sym u.class_number)) (a.1 ∙ ap pos (sym u.method_number)) k q.2)
      (ap (λ y. with_heading y line n) (sym u.is) ∙ is_e))

  -- a statement needs an open method
  next_action : (cs : List Class) (fs : List ℕ) (ms : List Method) (h : Option Heading) (ss : List Operation) (r : Row) (o : Operation) → Sound (draft cs fs ms h ss) → Bare h ms
      → statement_follows (place (draft cs fs ms h ss)) r ≡ true → in_range levels (length fs) o ≡ true → r.kind ≡ Statement (letter_of o) → columns r ≡ columns_of o
      → Next (draft cs fs ms h ss) r (draft cs fs ms h (ss ++ o ∷ []))
  next_action cs fs ms None ss r o s z f t k c =
      let x = and_parts (is r.class (length cs)) _ f in
      let y = and_parts (ltb 0 (length ms + 0)) _ x.1 in
      absurd (omega (arith, ltb-true _ _ y.0, ap length z))
  next_action cs fs ms (Some h) ss r o s z f t k c =
      let last : length ms + 1 - 1 ≡ length ms = omega arith in
      let x = and_parts (is r.class (length cs)) _ f in
      let y = and_parts (ltb 0 (length ms + 1)) _ x.1 in
      let w = and_parts (is r.method (length ms + 1 - 1)) _ y.1 in
      make_next (draft cs fs ms (Some h) ss) (draft cs fs ms (Some h) ss) (draft cs fs ms (Some h) (ss ++ o ∷ [])) _ r (statement_row (length cs) (length ms) o)
      (statement-added cs fs ms h ss o s (leb-true _ _ w.1) t) tt refl
      (row_is r _ _ _ _ (is_only r.class _ x.0) (is_only r.method _ w.0 ∙ ap pos last) k c) refl

  next_statement : (line : ℕ) (d : Draft) (r : Row) (l : Letter) (b : Bool) (i : Item) (e : Draft) → Sound d → Bare d.heading d.methods → Fits r → r.kind ≡ Statement l
      → statement_follows (place d) r ≡ true → item levels (length d.fields) (Statement l) r ≡ Some i → take_in line b i d ≡ Ok e → Next d r e
  next_statement line d r l b i e s z fit k f t h =
      by_and (statement levels (length d.fields) l r) (λ o. Some (Action o)) i (Next d r e) t (λ o g j.
      let q = statement_only levels (length d.fields) l r o fit g in
      let is_i : Action o ≡ i = cc in
      let done : take_in line b (Action o) d ≡ Ok e = ap (λ y. take_in line b y d) is_i ∙ h in
      let is_e : with_statement d o ≡ e = cc in
      subst (Next d r) is_e (next_action d.classes d.fields d.methods d.heading d.statements r o s z f q.range (k ∙ ap Statement q.letter) q.told))

  next_kind : (line : ℕ) (d : Draft) (r : Row) (kind : Kind) (x : Entry) (e : Draft) → Sound d → Bare d.heading d.methods → Fits r → r.kind ≡ kind → follows kind (place d) r ≡ true
      → item levels (length d.fields) kind r ≡ Some x.item → begins_class (place d) r ≡ x.begins_class → take_in line x.begins_class x.item d ≡ Ok e → Next d r e
  next_kind line d r Field x e s z fit k f t g h = next_field line d r _ _ e s k f g t h
  next_kind line d r Parameters x e s z fit k f t g h = next_head line d r _ _ e s k f g t h
  next_kind line d r (Statement l) x e s z fit k f t g h = next_statement line d r l _ _ e s z fit k f t h

  pub next_row : (line : ℕ) (d : Draft) (r : Row) (x : Entry) (e : Draft) → Sound d → Bare d.heading d.methods → Fits r → entry levels line (place d) r ≡ Ok x
      → take_in line x.begins_class x.item d ≡ Ok e → Next d r e
  next_row line d r x e s z fit n h = let q = by_entry levels line (place d) r x n in next_kind line d r r.kind x e s z fit refl q.0 q.1 q.2 h

  -- THE END OF THE TEXT

  pub next_end : (d : Draft) (p : Program) → Sound d → finish d ≡ Ok p → (rows_of p ≡ rows_so_far d) × (well_formed levels p ≡ true)
  next_end d p s h =
      by_bind (close_body d) (λ e. Ok (all_classes e)) p ((rows_of p ≡ rows_so_far d) × (well_formed levels p ≡ true)) h (λ e c k.
      let u = closed_body d.classes d.fields d.methods d.heading d.statements e s c in
      let last : all_classes e ≡ p = cc in
      let is_p : all_classes (draft d.classes d.fields u.methods None []) ≡ p = ap all_classes (sym u.is) ∙ last in
      let q = end_classes d.classes d.fields u.methods u.sound in
      (ap rows_of (sym is_p) ∙ q.0 ∙ u.rows, ap (well_formed levels) (sym is_p) ∙ q.1))
