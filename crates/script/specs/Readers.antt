-- What a method of a reader did.
use Rattle.std.specs.Prelude.{◌≡◌, ℕ, ◌+◌, List, ◌++◌, IfOk, Ok, Err, Result}
use Rattle.script.specs.declared.reader.Reader.{Reader}
use Rattle.script.specs.declared.fault.ByteFault.{ByteFault}
use Rattle.script.specs.declared.fault.ByteFault.TheVariants.{Form}
use Rattle.script.specs.Bytes.{Got, got, bad}

-- the bytes that are left
abbrev pub left : Reader → List ℕ
left s = s.rest.now

-- what g says of the bytes that were left is what was read, and where it says that nothing fits, the line is blamed
abbrev pub Reads : {X : Type 0} → Result X ByteFault → Got X → Reader → Reader → Type 0
Reads (Ok x) g old new = g ≡ got x (left new)
Reads (Err e) g old new = (g ≡ bad) × (e ≡ Form old.line)

-- what is left after some bytes were passed
pub record Tail (old new : List ℕ) : Type 0 where
  pub passed : List ℕ
  pub split : old ≡ passed ++ new

-- the line stays, and what is left is a tail of what was left
pub record Kept (old new : Reader) : Type 0 where
  pub line : new.line ≡ old.line
  pub tail : Tail (left old) (left new)

-- the line is the next one where r is a value, and what is left is a tail of what was left
pub record Ended {X Y : Type 0} (r : Result X Y) (old new : Reader) : Type 0 where
  pub line : IfOk r (λ _. new.line ≡ old.line + 1)
  pub tail : Tail (left old) (left new)
