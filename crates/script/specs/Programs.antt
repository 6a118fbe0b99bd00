-- What the memory of a loaded program holds.
use Rattle.std.specs.Prelude.{vec_items}
use Rattle.script.specs.declared.program.Program.{Program as StoredProgram}
use Rattle.script.specs.Classes.{Program, classes_of}

abbrev pub program_of : StoredProgram → Program
program_of p = classes_of (vec_items p.classes)
