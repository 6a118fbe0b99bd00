-- What is written is read: the rows of a well-formed program, one after the other, make the draft of that program.
use Rattle.std.proofs.Common.{◌≡◌, ℕ, suc, ◌+◌, ◌<◌, ◌≤◌, Bool, true, false, ltb, leb, List, [], ◌∷◌, ◌++◌, map, length, pos, Some, None, Ok, Err, Result, sym, refl, ap, ◌∙◌, subst, append_assoc, append-nil, arith, length-append}
use Rattle.std.proofs.lemmas.Bool.{and_parts, and_from, and_right, leb-true, ltb-true, le-leb, lt-ltb, eq-eqb, ne_eqb}
use Rattle.script.specs.declared.class.Statement.{Statement as Operation}
use Rattle.script.specs.declared.fault.BodyFault.{BodyFault}
use Rattle.script.specs.declared.reader.Kind.TheVariants.{Field, Parameters, Statement}
use Rattle.script.specs.declared.reader.Row.{Row}
use Rattle.script.specs.declared.row.Place.{Place}
use Rattle.script.specs.declared.row.Item.TheVariants.{Label, Head, Action}
use Rattle.script.specs.declared.heading.Heading.{Heading}
use Rattle.script.specs.Rows.{begun, begins_class, field_follows, method_follows, statement_follows, entry}
use Rattle.script.specs.Classes.{Method, Class, Program}
use Rattle.script.specs.Layout.{letter_of, field_row, field_rows, head_row, statement_row, method_rows, methods_rows, class_rows, classes_rows, rows_text, row_text, every, in_range, method_formed, class_formed, well_formed}
use Rattle.script.specs.Reading.{Draft, bind, nothing, place, close_body, turn_class, with_field, with_heading, finish}
use Rattle.script.proofs.Lines.{none, Fits}
use Rattle.script.proofs.Rowing.{rows_in, rows_feed}
use Rattle.script.proofs.Saying.{row_fits, plain_fits, statement_small, statement_back}
use Rattle.script.proofs.Listing.{text_append}
use Rattle.script.proofs.Following.{draft}

regroup : (a b c d : List ℕ) → ((a ++ b) ++ c) ++ d ≡ a ++ (b ++ (c ++ d))
regroup a b c d = simp append_assoc

-- WHERE ROWS MAY STAND

-- the next field or method of the class at hand
same_class : (p : Place) (r : Row) (n : ℕ) → r.class ≡ pos n → p.class ≡ n → begins_class p r ≡ false
same_class p r n c e = rw c (and_right (begun p) _ (and_right (leb p.class 6) _ (ne_eqb n (p.class + 1) (λ q. omega arith))))

field_same : (p : Place) (n k l : ℕ) → p.class ≡ n → p.fields ≡ k → p.methods ≡ 0 → k ≤ 7 → field_follows p (field_row n k l) ≡ true
field_same p n k l c f m h =
    rw (same_class p (field_row n k l) n refl c) (and_from _ _ (eq-eqb n _ (sym c)) (and_from _ _ (eq-eqb _ 0 m) (and_from _ _ (le-leb _ 7 (omega arith)) (eq-eqb k _ (sym f)))))

method_same : (p : Place) (n k l : ℕ) → p.class ≡ n → p.methods ≡ k → k ≤ 3 → method_follows p (head_row n k l) ≡ true
method_same p n k l c m h =
    rw (same_class p (head_row n k l) n refl c) (and_from _ _ (eq-eqb n _ (sym c)) (and_from _ _ (le-leb _ 3 (omega arith)) (eq-eqb k _ (sym m))))

-- the first row of the next class
next_class : (p : Place) (r : Row) (n : ℕ) → r.class ≡ pos n → n ≡ p.class + 1 → n ≤ 7 → 0 < p.fields + p.methods → begins_class p r ≡ true
next_class p r n c e h some = rw c (and_from _ _ (lt-ltb 0 _ some) (and_from _ _ (le-leb _ 6 (omega arith)) (eq-eqb n _ e)))

field_next : (p : Place) (n l : ℕ) → begins_class p (field_row n 0 l) ≡ true → field_follows p (field_row n 0 l) ≡ true
field_next p n l b = rw b

method_next : (p : Place) (n l : ℕ) → begins_class p (head_row n 0 l) ≡ true → method_follows p (head_row n 0 l) ≡ true
method_next p n l b = rw b

module _ (levels : ℕ) where
  field_entry : (line : ℕ) (p : Place) (n k l : ℕ) (b : Bool) → begins_class p (field_row n k l) ≡ b → field_follows p (field_row n k l) ≡ true → ltb l levels ≡ true
      → entry levels line p (field_row n k l) ≡ Ok (record { begins_class = b; item = Label l })
  field_entry line p n k l b e f t = rw (f, e, t)

  head-entry : (line : ℕ) (p : Place) (n k l : ℕ) (b : Bool) → begins_class p (head_row n k l) ≡ b → method_follows p (head_row n k l) ≡ true → ltb l 5 ≡ true
      → entry levels line p (head_row n k l) ≡ Ok (record { begins_class = b; item = Head l })
  head-entry line p n k l b e f t = rw (f, e, t)

  -- nothing is in the way of what comes next in class number `length cs`
  record Ready (b : Bool) (d : Draft) (cs : List Class) (fs : List ℕ) (ms : List Method) : Type 0 where
    closes : bind (close_body d) (λ e. Ok (turn_class b e)) ≡ Ok (draft cs fs ms None [])
    field : (line l : ℕ) → ltb l levels ≡ true → length cs ≤ 7 → length fs ≤ 7 → length ms ≡ 0
        → entry levels line (place d) (field_row (length cs) (length fs) l) ≡ Ok (record { begins_class = b; item = Label l })
    head : (line k : ℕ) → ltb k 5 ≡ true → length cs ≤ 7 → length ms ≤ 3
        → entry levels line (place d) (head_row (length cs) (length ms) k) ≡ Ok (record { begins_class = b; item = Head k })

  -- the class at hand has these fields and, once the open method is closed, these methods
  record Here (d : Draft) (cs : List Class) (fs : List ℕ) (ms : List Method) : Type 0 where
    closes : close_body d ≡ Ok (draft cs fs ms None [])
    class : (place d).class ≡ length cs
    fields : (place d).fields ≡ length fs
    methods : (place d).methods ≡ length ms

  ready_here : (d : Draft) (cs : List Class) (fs : List ℕ) (ms : List Method) → Here d cs fs ms → Ready false d cs fs ms
  ready_here d cs fs ms h =
      record {
        closes = rw h.closes;
        field = λ line l t c f m. field_entry line (place d) _ _ l false (same_class (place d) (field_row (length cs) (length fs) l) _ refl h.class) (field_same (place d) _ _ l h.class h.fields (h.methods ∙ m) f) t;
        head = λ line k t c m. head-entry line (place d) _ _ k false (same_class (place d) (head_row (length cs) (length ms) k) _ refl h.class) (method_same (place d) _ _ k h.class h.methods m) t;
      }

  ready_next : (d : Draft) (cs : List Class) (fs : List ℕ) (ms : List Method) → Here d cs fs ms → 0 < length fs + length ms → Ready true d (cs ++ record { fields = fs; methods = ms } ∷ []) [] []
  ready_next d cs fs ms h some =
      let n = length-append cs (record { fields = fs; methods = ms } ∷ []) in
      let c = h.class in
      let begun_here : 0 < (place d).fields + (place d).methods = omega (arith, h.fields, h.methods) in
      record {
        closes = rw h.closes;
        field = λ line l t few f m.
            let b = next_class (place d) (field_row (length (cs ++ record { fields = fs; methods = ms } ∷ [])) 0 l) _ refl (omega (arith, n, c)) few begun_here in
            field_entry line (place d) _ 0 l true b (field_next (place d) _ l b) t;
        head = λ line k t few m.
            let b = next_class (place d) (head_row (length (cs ++ record { fields = fs; methods = ms } ∷ [])) 0 k) _ refl (omega (arith, n, c)) few begun_here in
            head-entry line (place d) _ 0 k true b (method_next (place d) _ k b) t;
      }

  record Stand (b : Bool) (d : Draft) (cs : List Class) (fs : List ℕ) (ms : List Method) : Type 0 where
    ready : Ready b d cs fs ms
    here : 0 < length fs + length ms → Here d cs fs ms

  stand_here : (d : Draft) (cs : List Class) (fs : List ℕ) (ms : List Method) → Here d cs fs ms → Stand false d cs fs ms
  stand_here d cs fs ms h = record { ready = ready_here d cs fs ms h; here = λ _. h }

  -- the rows in some bytes lead to a draft with these classes, fields and methods, and the rest is left
  record Reached (line : ℕ) (d : Draft) (bs : List ℕ) (cs : List Class) (fs : List ℕ) (ms : List Method) (rest : List ℕ) : Type 0 where
    begins : Bool
    last : ℕ
    end : Draft
    stand : Stand begins end cs fs ms
    same : rows_in levels line d bs ≡ rows_in levels last end rest

  then_reached : (line next : ℕ) (d e : Draft) (bs more : List ℕ) (cs : List Class) (fs : List ℕ) (ms : List Method) (rest : List ℕ)
      → rows_in levels line d bs ≡ rows_in levels next e more → Reached next e more cs fs ms rest → Reached line d bs cs fs ms rest
  then_reached line next d e bs more cs fs ms rest p r = record { begins = r.begins; last = r.last; end = r.end; stand = r.stand; same = p ∙ r.same }

  bind-on : {X Y Z : Type 0} (g : Result X BodyFault) (f : X → Y) (h : Y → Z) (y : Y) → bind g (λ x. Ok (f x)) ≡ Ok y → bind g (λ x. Ok (h (f x))) ≡ Ok (h y)
  bind-on (Ok x) f h y e = let s : f x ≡ y = cc in ap (λ z. Ok (h z)) s
  bind-on (Err x) f h y e = none (cc)

  module _ (few : levels ≤ 8) where
    -- FIELDS

    fields_feed : (todo : List ℕ) (b : Bool) (line : ℕ) (d : Draft) (cs : List Class) (fs : List ℕ) (rest : List ℕ) → Stand b d cs fs [] → length cs ≤ 7 → length fs + length todo ≤ 8
        → every (λ l. ltb l levels) todo ≡ true → Reached line d (rows_text (field_rows (length cs) (length fs) todo) ++ rest) cs (fs ++ todo) [] rest
    fields_feed [] b line d cs fs rest s c n h =
        record { begins = b; last = line; end = d; stand = subst (λ x. Stand b d cs x []) (sym (append-nil fs)) s; same = refl }
    fields_feed (l ∷ ls) b line d cs fs rest s c n h =
        let t = and_parts (ltb l levels) _ h in
        let more = length-append fs (l ∷ []) in
        let r = field_row (length cs) (length fs) l in
        let after = rows_text (field_rows (length cs) (suc (length fs)) ls) ++ rest in
        let e = draft cs (fs ++ l ∷ []) [] None [] in
        let fit : Fits r = plain_fits (length cs) 0 (length fs) l Field (omega arith) (omega arith) (omega arith) (omega (arith, ltb-true l levels t.0)) in
        let one = rows_feed levels line d r after _ e fit (s.ready.field line l t.0 c (omega arith) refl) (bind-on (close_body d) (turn_class b) (λ x. with_field x l) _ s.ready.closes) in
        let place_is : suc (length fs) ≡ length (fs ++ l ∷ []) = omega arith in
        let stand = stand_here e cs (fs ++ l ∷ []) [] (record { closes = refl; class = refl; fields = refl; methods = refl }) in
        let ih = fields_feed ls false (line + 1) e cs (fs ++ l ∷ []) rest stand c (omega arith) t.1 in
        let back : Reached (line + 1) e after cs (fs ++ l ∷ ls) [] rest =
        subst (λ x. Reached (line + 1) e after cs x [] rest) (append_assoc fs (l ∷ []) ls)
        (subst (λ k. Reached (line + 1) e (rows_text (field_rows (length cs) k ls) ++ rest) cs ((fs ++ l ∷ []) ++ ls) [] rest) (sym place_is) ih) in
        then_reached line (line + 1) d e _ after cs (fs ++ l ∷ ls) [] rest
        (ap (rows_in levels line d) (append_assoc (row_text r) (rows_text (field_rows (length cs) (suc (length fs)) ls)) rest) ∙ one) back

    -- STATEMENTS

    statement-entry : (line class method : ℕ) (p : Place) (fields : ℕ) (o : Operation) → p.class ≡ class → p.methods ≡ method + 1 → p.statements ≤ 31 → p.fields ≡ fields
        → in_range levels fields o ≡ true → entry levels line p (statement_row class method o) ≡ Ok (record { begins_class = false; item = Action o })
    statement-entry line class method p fields o c m n f t =
        let follow : statement_follows p (statement_row class method o) ≡ true =
        and_from _ _ (eq-eqb class _ (sym c)) (and_from _ _ (lt-ltb 0 _ (omega arith)) (and_from _ _ (eq-eqb method _ (omega arith)) (le-leb _ 31 n))) in
        rw (follow, same_class p (statement_row class method o) class refl c, f, statement_back fields levels class method (Statement (letter_of o)) o t)

    statements_feed : (todo : List Operation) (line : ℕ) (cs : List Class) (fs : List ℕ) (ms : List Method) (h : Heading) (done : List Operation) (rest : List ℕ)
        → length cs ≤ 7 → length ms ≤ 3 → length done + length todo ≤ 32 → every (in_range levels (length fs)) todo ≡ true
        → (last : ℕ) × (rows_in levels line (draft cs fs ms (Some h) done) (rows_text (map (statement_row (length cs) (length ms)) todo) ++ rest) ≡ rows_in levels last (draft cs fs ms (Some h) (done ++ todo)) rest)
    statements_feed [] line cs fs ms h done rest c m n t = (line, ap (λ ss. rows_in levels line (draft cs fs ms (Some h) ss) rest) (sym (append-nil done)))
    statements_feed (o ∷ os) line cs fs ms h done rest c m n t =
        let x = and_parts (in_range levels (length fs) o) _ t in
        let more = length-append done (o ∷ []) in
        let r = statement_row (length cs) (length ms) o in
        let after = rows_text (map (statement_row (length cs) (length ms)) os) ++ rest in
        let d = draft cs fs ms (Some h) done in
        let e = draft cs fs ms (Some h) (done ++ o ∷ []) in
        let fit : Fits r = row_fits (length cs) (length ms) _ _ (omega arith) (omega arith) (statement_small (length fs) levels o few x.0) in
        let one = rows_feed levels line d r after _ e fit (statement-entry line (length cs) (length ms) (place d) (length fs) o refl refl (omega arith) refl x.0) refl in
        let ih = statements_feed os (line + 1) cs fs ms h (done ++ o ∷ []) rest c m (omega arith) x.1 in (
          ih.0,
          ap (rows_in levels line d) (append_assoc (row_text r) (rows_text (map (statement_row (length cs) (length ms)) os)) rest) ∙ one ∙ ih.1
              ∙ ap (λ ss. rows_in levels ih.0 (draft cs fs ms (Some h) ss) rest) (append_assoc done (o ∷ []) os),
        )

    -- METHODS

    methods_feed : (todo : List Method) (b : Bool) (line : ℕ) (d : Draft) (cs : List Class) (fs : List ℕ) (ms : List Method) (rest : List ℕ) → Stand b d cs fs ms → length cs ≤ 7
        → length ms + length todo ≤ 4 → every (method_formed levels (length fs)) todo ≡ true
        → Reached line d (rows_text (methods_rows (length cs) (length ms) todo) ++ rest) cs fs (ms ++ todo) rest
    methods_feed [] b line d cs fs ms rest s c n h =
        record { begins = b; last = line; end = d; stand = subst (λ x. Stand b d cs fs x) (sym (append-nil ms)) s; same = refl }
    methods_feed (m ∷ todo) b line d cs fs ms rest s c n h =
        let t = and_parts (method_formed levels (length fs) m) _ h in
        let p = and_parts (ltb m.parameters 5) _ t.0 in
        let q = and_parts (leb (length m.statements) 32) _ p.1 in
        let u = and_parts (every (in_range levels (length fs)) m.statements) _ q.1 in
        let heading : Heading = record { line = line; parameters = m.parameters } in
        let more = length-append ms (m ∷ []) in
        let r = head_row (length cs) (length ms) m.parameters in
        let others = rows_text (methods_rows (length cs) (suc (length ms)) todo) ++ rest in
        let body = rows_text (map (statement_row (length cs) (length ms)) m.statements) in
        let e = draft cs fs ms (Some heading) [] in
        let f = draft cs fs ms (Some heading) m.statements in
        let fit : Fits r = plain_fits (length cs) (length ms) 0 m.parameters Parameters (omega arith) (omega arith) (omega arith) (omega (arith, ltb-true _ 5 p.0)) in
        let one = rows_feed levels line d r (body ++ others) _ e fit (s.ready.head line m.parameters p.0 c (omega arith)) (bind-on (close_body d) (turn_class b) (λ x. with_heading x line m.parameters) _ s.ready.closes) in
        let two = statements_feed m.statements (line + 1) cs fs ms heading [] others c (omega arith) (omega (arith, leb-true _ 32 q.0)) u.0 in
        let here : Here f cs fs (ms ++ m ∷ []) = record { closes = rw u.1; class = refl; fields = refl; methods = sym more } in
        let ih = methods_feed todo false two.0 f cs fs (ms ++ m ∷ []) rest (stand_here f cs fs (ms ++ m ∷ []) here) c (omega arith) t.1 in
        let place_is : suc (length ms) ≡ length (ms ++ m ∷ []) = omega arith in
        let back : Reached two.0 f others cs fs (ms ++ m ∷ todo) rest =
        subst (λ x. Reached two.0 f others cs fs x rest) (append_assoc ms (m ∷ []) todo)
        (subst (λ k. Reached two.0 f (rows_text (methods_rows (length cs) k todo) ++ rest) cs fs ((ms ++ m ∷ []) ++ todo) rest) (sym place_is) ih) in
        let bytes : rows_text (methods_rows (length cs) (length ms) (m ∷ todo)) ++ rest ≡ row_text r ++ (body ++ others) =
        ap (λ bs. bs ++ rest) (text_append (method_rows (length cs) (length ms) m) (methods_rows (length cs) (suc (length ms)) todo)) ∙ regroup (row_text r) body _ rest in
        then_reached line two.0 d f _ others cs fs (ms ++ m ∷ todo) rest (ap (rows_in levels line d) bytes ∙ one ∙ two.1) back

    -- CLASSES

    -- the end of the text
    end_here : (d : Draft) (cs : List Class) (fs : List ℕ) (ms : List Method) → Here d cs fs ms → 0 < length fs + length ms → finish d ≡ Ok (cs ++ record { fields = fs; methods = ms } ∷ [])
    end_here d cs fs ms h some =
        let t : ltb 0 (length fs + (length ms + 0)) ≡ true = lt-ltb 0 _ (omega arith) in rw (h.closes, t)

    classes_feed : (todo : List Class) (b : Bool) (line : ℕ) (d : Draft) (cs : List Class) → Ready b d cs [] [] → finish d ≡ Ok cs → length cs + length todo ≤ 8
        → every (class_formed levels) todo ≡ true → rows_in levels line d (rows_text (classes_rows (length cs) todo)) ≡ Ok (cs ++ todo)
    classes_feed [] b line d cs r f n h = f ∙ ap Ok (sym (append-nil cs))
    classes_feed (c ∷ todo) b line d cs r f n h =
        let t = and_parts (class_formed levels c) _ h in
        let p = and_parts (leb (length c.fields) 8) _ t.0 in
        let q = and_parts (leb (length c.methods) 4) _ p.1 in
        let u = and_parts (ltb 0 (length c.fields + length c.methods)) _ q.1 in
        let v = and_parts (every (λ l. ltb l levels) c.fields) _ u.1 in
        let some = ltb-true 0 _ u.0 in
        let more = length-append cs (c ∷ []) in
        let others = rows_text (classes_rows (suc (length cs)) todo) in
        let methods = rows_text (methods_rows (length cs) 0 c.methods) in
        let stand : Stand b d cs [] [] = record { ready = r; here = λ z. absurd (omega arith) } in
        let one = fields_feed c.fields b line d cs [] (methods ++ others) stand (omega arith) (omega (arith, leb-true _ 8 p.0)) v.0 in
        let two = methods_feed c.methods one.begins one.last one.end cs c.fields [] others one.stand (omega arith) (omega (arith, leb-true _ 4 q.0)) v.1 in
        let here = two.stand.here some in
        let place_is : suc (length cs) ≡ length (cs ++ c ∷ []) = omega arith in
        let ih = classes_feed todo true two.last two.end (cs ++ c ∷ []) (ready_next two.end cs c.fields c.methods here some) (end_here two.end cs c.fields c.methods here some) (omega arith) t.1 in
        let bytes : rows_text (classes_rows (length cs) (c ∷ todo)) ≡ rows_text (field_rows (length cs) 0 c.fields) ++ (methods ++ others) =
        text_append (class_rows (length cs) c) (classes_rows (suc (length cs)) todo)
        ∙ ap (λ bs. bs ++ others) (text_append (field_rows (length cs) 0 c.fields) (methods_rows (length cs) 0 c.methods))
        ∙ append_assoc (rows_text (field_rows (length cs) 0 c.fields)) methods others in
        ap (rows_in levels line d) bytes ∙ one.same ∙ two.same ∙ ap (λ k. rows_in levels two.last two.end (rows_text (classes_rows k todo))) place_is ∙ ih ∙ ap Ok (append_assoc cs (c ∷ []) todo)

    nothing_ready : Ready false nothing [] [] []
    nothing_ready = ready_here nothing [] [] [] (record { closes = refl; class = refl; fields = refl; methods = refl })

    -- the rows of a well-formed program are read as that program
    pub program_back : (line : ℕ) (p : Program) → well_formed levels p ≡ true → rows_in levels line nothing (rows_text (classes_rows 0 p)) ≡ Ok p
    program_back line p h =
        let t = and_parts (leb (length p) 8) _ h in classes_feed p false line nothing [] nothing_ready refl (omega (arith, leb-true _ 8 t.0)) t.1
