-- When the statements of a method are a body: how branches nest, and where the one R stands.
use Rattle.std.specs.Prelude.{ℕ, zero, suc, ◌+◌, ◌-◌, Bool, true, false, cond, not, ◌&&◌, List, length, take, pos, nat_le, nat_lt, slice_index_or}
use Rattle.std.specs.List.{list_all}
use Rattle.script.specs.declared.class.Variable.TheVariants.{Local}
use Rattle.script.specs.declared.class.Statement.{Statement}
use Rattle.script.specs.declared.class.Statement.TheVariants.{Constant, Itself, Copy, Add, Subtract, Less, Branch, Invoke, Get, Create, Return}

-- what is read past the last statement; no run comes there
abbrev pub idle : Statement
idle = Constant (Local 0) (pos 0)

-- how many of the statements after one belong to its two branches
abbrev pub branch_rows : Statement → ℕ
branch_rows (Constant to number) = 0
branch_rows (Itself to) = 0
branch_rows (Copy to from) = 0
branch_rows (Add to left right) = 0
branch_rows (Subtract to left right) = 0
branch_rows (Less to left right) = 0
branch_rows (Branch guard first second) = first + second
branch_rows (Invoke to receiver method arguments) = 0
branch_rows (Get to future) = 0
branch_rows (Create to class level) = 0
branch_rows (Return value) = 0

abbrev pub is_return : Statement → Bool
is_return (Constant to number) = false
is_return (Itself to) = false
is_return (Copy to from) = false
is_return (Add to left right) = false
is_return (Subtract to left right) = false
is_return (Less to left right) = false
is_return (Branch guard first second) = false
is_return (Invoke to receiver method arguments) = false
is_return (Get to future) = false
is_return (Create to class level) = false
is_return (Return value) = true

-- the branches of the statement at `at`, in a range that ends at `end`, where branches may stand `depth` deep: both end inside the range, and
-- each is a range of its own, one less deep; `inner depth low high` tells that of a range
abbrev pub branches_fit : (ℕ → ℕ → ℕ → Bool) → ℕ → Statement → ℕ → ℕ → Bool
branches_fit inner depth (Constant to number) at end = true
branches_fit inner depth (Itself to) at end = true
branches_fit inner depth (Copy to from) at end = true
branches_fit inner depth (Add to left right) at end = true
branches_fit inner depth (Subtract to left right) at end = true
branches_fit inner depth (Less to left right) at end = true
branches_fit inner zero (Branch guard first second) at end = false
branches_fit inner (suc depth) (Branch guard first second) at end =
    nat_le (at + 1 + first + second) end && (inner depth (at + 1) (at + 1 + first) && inner depth (at + 1 + first) (at + 1 + first + second))
branches_fit inner depth (Invoke to receiver method arguments) at end = true
branches_fit inner depth (Get to future) at end = true
branches_fit inner depth (Create to class level) at end = true
branches_fit inner depth (Return value) at end = true

-- the statements from `at` up to `end` are a range in which branches nest at most `depth` deep; `fuel` is at least their number
abbrev pub nested : ℕ → List Statement → ℕ → ℕ → ℕ → Bool
nested zero body depth at end = nat_le end at
nested (suc fuel) body depth at end =
    cond (nat_lt at end)
    (branches_fit (nested fuel body) depth (slice_index_or body at idle) at end && nested fuel body depth (at + 1 + branch_rows (slice_index_or body at idle)) end)
    true

-- no statement is an R
abbrev pub no_return : List Statement → Bool
no_return body = list_all (λ s. not (is_return s)) body

-- the last statement is an R, no other is, and those before it are a range in which branches nest at most four deep: so the R is in no branch
abbrev pub stands : List Statement → Bool
stands body =
    let front = take (length body - 1) body in
    nat_lt 0 (length body) && (is_return (slice_index_or body (length body - 1) idle) && (no_return front && nested (length front) front 4 0 (length front)))

-- of the first n statements, those whose branches reach the statement at `at`
abbrev pub reaching : List Statement → ℕ → ℕ → ℕ
reaching body at zero = 0
reaching body at (suc n) = cond (nat_lt at (n + 1 + branch_rows (slice_index_or body n idle))) 1 0 + reaching body at n

-- the number of branches that the statement at `at` stands in: the I statements before it whose branches reach it
abbrev pub depth_at : List Statement → ℕ → ℕ
depth_at body at = reaching body at at
