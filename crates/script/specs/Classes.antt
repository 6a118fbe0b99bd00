-- A program as lists: what its classes declare, whatever memory holds it.
use Rattle.std.specs.Prelude.{ℕ, List, map, vec_items}
use Rattle.script.specs.declared.class.Statement.{Statement}
use Rattle.script.specs.declared.class.Method.{Method as StoredMethod}
use Rattle.script.specs.declared.class.Class.{Class as StoredClass}

-- a method: how many parameters it takes, and its body
pub record Method : Type 0 where
  pub parameters : ℕ
  pub statements : List Statement

-- a class: the declared label of each field, and the methods, each by number
pub record Class : Type 0 where
  pub fields : List ℕ
  pub methods : List Method

-- a program: its classes, by number
abbrev pub Program : Type 0
Program = List Class

-- what the memory of a loaded program holds
abbrev pub method_of : StoredMethod → Method
method_of m = record { parameters = m.parameters; statements = vec_items m.statements }

abbrev pub class_of : StoredClass → Class
class_of c = record { fields = vec_items c.fields; methods = map method_of (vec_items c.methods) }

abbrev pub classes_of : List StoredClass → Program
classes_of cs = map class_of cs
