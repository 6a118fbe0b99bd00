-- Rows sorted into requests and what could be read, as a loop takes them in.
use Rattle.std.proofs.Common.{◌≡◌, List, [], ◌∷◌, ◌++◌, Some, None, vec_items, Option, sym, refl, ap, ◌∙◌, append_assoc, append-nil}
use Rattle.rules.specs.Calling.{Request}
use Rattle.console.specs.declared.calls.Calls.{Calls}
use Rattle.console.specs.Rows.{requested, says_one, readable, kept, Sorted, Grown}

-- the requests of a row and of others
requested_more : (x : Option Request) (xs : List (Option Request)) → requested (x ∷ []) ++ requested xs ≡ requested (x ∷ xs)
requested_more (Some q) xs = refl
requested_more None xs = refl

-- what was taken in and what is left is the whole
pub record Taken (c : Calls) (left all : List (Option Request)) : Type 0 where
  pub asks : kept c ++ requested left ≡ requested all
  pub tells : vec_items c.readable ++ readable left ≡ readable all

-- at the start all is left
pub taken_none : (c : Calls) (all : List (Option Request)) → Sorted c [] → Taken c all all
taken_none c all s = record { asks = ap (λ xs. xs ++ requested all) s.asks; tells = ap (λ xs. xs ++ readable all) s.tells }

-- the first of those that are left is taken in
pub taken_more : (x : Option Request) (old new : Calls) (before left all : List (Option Request)) → Taken old before all → before ≡ x ∷ left → Grown x old new → Taken new left all
taken_more x old new before left all t e g =
    record {
      asks =
          ap (λ xs. xs ++ requested left) g.asks
          ∙ append_assoc (kept old) (requested (x ∷ [])) (requested left)
          ∙ ap (λ xs. kept old ++ xs) (requested_more x left ∙ ap requested (sym e))
          ∙ t.asks;
      tells =
          ap (λ xs. xs ++ readable left) g.tells
          ∙ append_assoc (vec_items old.readable) (says_one x ∷ []) (readable left)
          ∙ ap (λ xs. vec_items old.readable ++ readable xs) (sym e)
          ∙ t.tells;
    }

-- where none is left, all are sorted
pub taken_all : (c : Calls) (left all : List (Option Request)) → Taken c left all → left ≡ [] → Sorted c all
taken_all c left all t e =
    record {
      asks = sym (ap (λ xs. kept c ++ requested xs) e ∙ append-nil (kept c)) ∙ t.asks;
      tells = sym (ap (λ xs. vec_items c.readable ++ readable xs) e ∙ append-nil (vec_items c.readable)) ∙ t.tells;
    }
