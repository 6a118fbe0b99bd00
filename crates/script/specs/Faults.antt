-- What each fault tells: its line, its cause and its layer.
use Rattle.std.specs.Prelude.{ℕ}
use Rattle.script.specs.declared.fault.ByteFault.TheVariants.{Names, Form}
use Rattle.script.specs.declared.fault.RowFault.TheVariants.{Bytes, Sequence, Range}
use Rattle.script.specs.declared.fault.BodyFault.{BodyFault}
use Rattle.script.specs.declared.fault.BodyFault.TheVariants.{Rows, Body}

-- the line that is blamed, from 1
abbrev pub line_of : BodyFault → ℕ
line_of (Rows (Bytes (Names line))) = line
line_of (Rows (Bytes (Form line))) = line
line_of (Rows (Sequence line)) = line
line_of (Rows (Range line)) = line
line_of (Body line) = line

-- 1 names line, 2 a row's form or letter, 3 out of sequence or beyond a limit, 4 the range of a column, 5 branches, R or an empty body
abbrev pub cause_of : BodyFault → ℕ
cause_of (Rows (Bytes (Names line))) = 1
cause_of (Rows (Bytes (Form line))) = 2
cause_of (Rows (Sequence line)) = 3
cause_of (Rows (Range line)) = 4
cause_of (Body line) = 5

-- 1 bytes, 2 rows, 3 bodies
abbrev pub layer_of : BodyFault → ℕ
layer_of (Rows (Bytes f)) = 1
layer_of (Rows (Sequence line)) = 2
layer_of (Rows (Range line)) = 2
layer_of (Body line) = 3
