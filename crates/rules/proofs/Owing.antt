-- Open futures and the calls that owe them, when calls and futures come and go.
use Rattle.std.proofs.Common.{◌≡◌, ℕ, zero, suc, List, [], ◌∷◌, length, set, Some, None, Option, sym, refl, ap, ◌∙◌, inl, inr, arith}
use Rattle.rules.specs.declared.values.Labelled.{Labelled}
use Rattle.rules.specs.declared.tables.Future.{Future}
use Rattle.rules.specs.declared.tables.Future.TheVariants.{Open, Holding}
use Rattle.rules.specs.Lists.{nth, snoc, without}
use Rattle.rules.specs.Tables.{Call}
use Rattle.rules.specs.Turns.{resolved}
use Rattle.rules.specs.Laws.{owes, owed_by, counted, open_count, Owed}
use Rattle.rules.proofs.Listing.{no_some, some_one, nth_old, nth_last, nth_beyond, nth-snoc, nth_other, skip, nth-without, skip_one, skip_other, length_without, length-snoc}

-- A CALL COMES

owed_snoc_none : (cs : List Call) (c : Call) → c.owed ≡ None → owed_by (snoc cs c) ≡ owed_by cs
owed_snoc_none [] c e = rw e refl
owed_snoc_none (d ∷ cs) c e = ap (owes d.owed) (owed_snoc_none cs c e)

owes-snoc : (d : Option ℕ) (ns : List ℕ) (n : ℕ) → owes d (snoc ns n) ≡ snoc (owes d ns) n
owes-snoc None ns n = refl
owes-snoc (Some k) ns n = refl

owed_snoc : (cs : List Call) (c : Call) (n : ℕ) → c.owed ≡ Some n → owed_by (snoc cs c) ≡ snoc (owed_by cs) n
owed_snoc [] c n e = rw e refl
owed_snoc (d ∷ cs) c n e = ap (owes d.owed) (owed_snoc cs c n e) ∙ owes-snoc d.owed (owed_by cs) n

counted_more : (f : Future) (n : ℕ) → counted f (suc n) ≡ suc (counted f n)
counted_more Open n = refl
counted_more (Holding x) n = refl

open_snoc : (fs : List Future) → open_count (snoc fs Open) ≡ suc (open_count fs)
open_snoc [] = refl
open_snoc (f ∷ fs) = ap (counted f) (open_snoc fs) ∙ counted_more f (open_count fs)

pub owing_none : (fs : List Future) (cs : List Call) (c : Call) → c.owed ≡ None → Owed fs cs → Owed fs (snoc cs c)
owing_none fs cs c e h =
    let q = owed_snoc_none cs c e in
    record { count = rw q h.count; each = rw q h.each; once = rw q h.once }

-- what is owed among a list of owed numbers and one more, which is new
pub owing_one : (fs : List Future) (cs : List Call) (c : Call) → c.owed ≡ Some (length fs) → Owed fs cs → Owed (snoc fs Open) (snoc cs c)
owing_one fs cs c e h =
    let q = owed_snoc cs c (length fs) e in
    let fresh : (i : ℕ) → nth (owed_by cs) i ≡ Some (length fs) → ⊥ = λ i d. no_some (nth_beyond fs) (h.each i (length fs) d) in
    record {
      count = rw (q, length-snoc (owed_by cs) (length fs), open_snoc fs) (ap suc h.count);
      each = rw q (λ i n d.
          elim (nth-snoc (owed_by cs) (length fs) i n d)
          [ inl k ↦ nth_old fs Open n Open (h.each i n k) | inr k ↦ rw (← k.1) (nth_last fs Open) ]);
      once = rw q (λ i j n d k.
          elim (nth-snoc (owed_by cs) (length fs) i n d) [
            | inl a ↦
                elim (nth-snoc (owed_by cs) (length fs) j n k)
                [ inl b ↦ h.once i j n a b | inr b ↦ absurd (fresh i (a ∙ ap Some (sym b.1))) ]
            | inr a ↦
                elim (nth-snoc (owed_by cs) (length fs) j n k)
                [ inl b ↦ absurd (fresh j (b ∙ ap Some (sym a.1))) | inr b ↦ a.0 ∙ sym b.0 ]
          ]);
    }

-- A CALL IS REPLACED

pub owed_set : (cs : List Call) (p : ℕ) (c d : Call) → nth cs p ≡ Some c → d.owed ≡ c.owed → owed_by (set cs p d) ≡ owed_by cs
owed_set [] p c d e h = no_some refl e
owed_set (b ∷ cs) zero c d e h = let q : b ≡ c = some_one refl e in rw (h, q)
owed_set (b ∷ cs) (suc p) c d e h = ap (owes b.owed) (owed_set cs p c d e h)

pub owing_set : (fs : List Future) (cs : List Call) (p : ℕ) (c d : Call) → nth cs p ≡ Some c → d.owed ≡ c.owed → Owed fs cs → Owed fs (set cs p d)
owing_set fs cs p c d e k h =
    let q = owed_set cs p c d e k in
    record { count = rw q h.count; each = rw q h.each; once = rw q h.once }

-- A CALL GOES

owed_without_none : (cs : List Call) (p : ℕ) (c : Call) → nth cs p ≡ Some c → c.owed ≡ None → owed_by (without p cs) ≡ owed_by cs
owed_without_none [] p c e h = no_some refl e
owed_without_none (b ∷ cs) zero c e h = let q : b ≡ c = some_one refl e in rw (q, h)
owed_without_none (b ∷ cs) (suc p) c e h = ap (owes b.owed) (owed_without_none cs p c e h)

-- where the number of a call stands among those that are owed
owes_at : (d : Option ℕ) (q : ℕ) → ℕ
owes_at None q = q
owes_at (Some n) q = suc q

record Gone (n : ℕ) (before after : List ℕ) : Type 0 where
  place : ℕ
  stood : nth before place ≡ Some n
  left : after ≡ without place before

owes_gone : (d : Option ℕ) (n : ℕ) (before after : List ℕ) → Gone n before after → Gone n (owes d before) (owes d after)
owes_gone None n before after g = g
owes_gone (Some k) n before after g = record { place = suc g.place; stood = g.stood; left = ap (λ l. k ∷ l) g.left }

owed_gone : (cs : List Call) (p : ℕ) (c : Call) (n : ℕ) → nth cs p ≡ Some c → c.owed ≡ Some n → Gone n (owed_by cs) (owed_by (without p cs))
owed_gone [] p c n e h = no_some refl e
owed_gone (b ∷ cs) zero c n e h = let q : b ≡ c = some_one refl e in rw (q, h) (record { place = 0; stood = refl; left = refl })
owed_gone (b ∷ cs) (suc p) c n e h = owes_gone b.owed n _ _ (owed_gone cs p c n e h)

-- a call that stands in line and owes a future owes one that is open
pub owes_open : (fs : List Future) (cs : List Call) (p : ℕ) (c : Call) (n : ℕ) → Owed fs cs → nth cs p ≡ Some c → c.owed ≡ Some n → nth fs n ≡ Some Open
owes_open fs cs p c n h e d = let g = owed_gone cs p c n e d in h.each g.place n g.stood

counted_pred : (f : Future) (m n : ℕ) → m ≡ suc n → counted f m ≡ suc (counted f n)
counted_pred f m n e = rw e (counted_more f n)

open_resolved : (fs : List Future) (n : ℕ) (x : Labelled) → nth fs n ≡ Some Open → open_count fs ≡ suc (open_count (set fs n (Holding x)))
open_resolved [] n x e = no_some refl e
open_resolved (f ∷ fs) zero x e = let q : f ≡ Open = some_one refl e in rw q refl
open_resolved (f ∷ fs) (suc n) x e = counted_pred f _ _ (open_resolved fs n x e)

owing_gone : (fs : List Future) (cs : List Call) (p : ℕ) (x : Labelled) (n : ℕ) → Gone n (owed_by cs) (owed_by (without p cs)) → Owed fs cs
    → Owed (set fs n (Holding x)) (without p cs)
owing_gone fs cs p x n g h =
    let b = owed_by cs in
    let q = g.place in
    let was : (i m : ℕ) → nth (owed_by (without p cs)) i ≡ Some m → nth b (skip q i) ≡ Some m = λ i m d. sym (nth-without q b i)
    ∙ (ap (λ l. nth l i) (sym g.left) ∙ d) in
    record {
      count = let e = length_without q b n g.stood in let d = open_resolved fs n x (h.each q n g.stood) in rw g.left (let k = h.count in omega arith);
      each = λ i m d. nth_other fs n m (Holding x) (λ e. skip_other q i (h.once (skip q i) q n (was i m d ∙ ap Some (sym e)) g.stood)) ∙ h.each (skip q i) m
          (was i m d);
      once = λ i j m d k. skip_one q i j (h.once _ _ m (was i m d) (was j m k));
    }

-- a call that ends leaves line with its future resolved
pub owing_ended : (fs : List Future) (cs : List Call) (p : ℕ) (c : Call) (x : Labelled) (d : Option ℕ) → nth cs p ≡ Some c → c.owed ≡ d → Owed fs cs
    → Owed (resolved d x fs) (without p cs)
owing_ended fs cs p c x None e k h =
    let q = owed_without_none cs p c e k in
    record { count = rw q h.count; each = rw q h.each; once = rw q h.once }
owing_ended fs cs p c x (Some n) e k h = owing_gone fs cs p x n (owed_gone cs p c n e k) h

pub owing_new : Owed [] []
owing_new = record { count = refl; each = λ i n d. no_some refl d; once = λ i j n d k. no_some refl d }
