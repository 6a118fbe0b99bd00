use Rattle.std.proofs.Common.{◌≡◌, ℕ, ◌<◌, ◌≤◌, List, [], map, length, get_or, drop}
use Rattle.rules.specs.declared.values.Labelled.{Labelled}
use Rattle.rules.specs.Values.{blank, nought, given as value_given}
use Rattle.rules.specs.Tables.{all_filed}
use Rattle.rules.specs.Wrapper.{shown}
use Rattle.store.specs.States.{notes_of, SameButNotes}
use Rattle.wrapper.specs.Marks.{place_of}
use Rattle.wrapper.proofs.sending.masked.Given as goal

abbrev pub invariant-loop-i : goal.invariant-loop-i
invariant-loop-i g l =
    let o = g.O.Order.levels l.order in
    let mask = shown o [] l.level l.sending.level l.sending.layer in
    let filed = λ (xs : List Labelled). all_filed o.join l.sending.context (place_of l.sending.place) (map mask xs) in
    (length l.locals ≡ 8)
    × ((k : ℕ) → k < l.i → get_or l.locals k blank ≡ value_given (mask (get_or l.arguments k blank)))
    × ((k : ℕ) → l.i ≤ k → k < 8 → get_or l.locals k blank ≡ nought l.sending.level)
    × (filed (drop l.i l.arguments) (notes_of l.tables) ≡ filed l.arguments (notes_of l.initial.tables))
    × SameButNotes l.initial.tables l.tables
