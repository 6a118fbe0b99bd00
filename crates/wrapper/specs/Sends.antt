-- The future of a call that is sent.
use Rattle.std.specs.Prelude.{ℕ, Bool, cond, List}
use Rattle.rules.specs.declared.tables.Future.{Future}
use Rattle.rules.specs.declared.tables.Future.TheVariants.{Open}
use Rattle.rules.specs.Lists.{update, snoc}

-- a call that is to be answered has a new open future at its level
abbrev pub with_future : (futures : ℕ → List Future) (level : ℕ) (answered : Bool) → ℕ → List Future
with_future futures level answered = cond answered (update futures level (snoc (futures level) Open)) futures
