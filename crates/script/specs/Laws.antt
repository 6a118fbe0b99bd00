-- What loading promises of texts and programs, in words that do not mention the reading's steps.
use Rattle.std.specs.Prelude.{◌≡◌, ℕ, ◌<◌, ◌≤◌, true, ◌↔◌, List, length, Ok}
use Rattle.std.specs.List.{AllByRecursion}
use Rattle.script.specs.Classes.{Method, Class, Program}
use Rattle.script.specs.Bodies.{depth_at}
use Rattle.script.specs.Layout.{text_of, rows_of, well_formed}
use Rattle.script.specs.Reading.{reading}

-- a text is read as a program exactly when it is the text of that program's rows and the program is well-formed
abbrev pub ReadsExactly : ℕ → Type 0
ReadsExactly levels = (text : List ℕ) (program : Program) → (reading levels text ≡ Ok program) ↔ ((text ≡ text_of (rows_of program)) × (well_formed levels program ≡ true))

-- two texts that are read as the same program are the same text
abbrev pub OneText : ℕ → Type 0
OneText levels = (one other : List ℕ) (program : Program) → reading levels one ≡ Ok program → reading levels other ≡ Ok program → one ≡ other

-- every statement of a program stands in at most four branches
abbrev pub FourDeep : Program → Type 0
FourDeep program = AllByRecursion (λ (c : Class). AllByRecursion (λ (m : Method). (at : ℕ) → at < length m.statements → depth_at m.statements at ≤ 4) c.methods) program

-- and so does every statement of a text that is read as a program
abbrev pub NestsFourDeep : ℕ → Type 0
NestsFourDeep levels = (text : List ℕ) (program : Program) → reading levels text ≡ Ok program → FourDeep program
