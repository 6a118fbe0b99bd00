use Rattle.std.proofs.Common.{length, ap, ◌∙◌, length-append, arith}
use Rattle.script.specs.Bytes.{names}
use Rattle.script.specs.Readers.{left}
use Rattle.script.proofs.Lines.{bytes_only}
use Rattle.script.proofs.reader.Reader.names_line.Goals as goal

pub invariant_of-self : goal.invariant_of-self
invariant_of-self c =
    let whole = ap length (bytes_only names (left c.args.self.now) tt (left c.spells.new.self) c.if-not-spells.ensures.reads) ∙ length-append names (left c.spells.new.self) in
    record { countable = omega (arith, c.spells.new.self.countable) }
