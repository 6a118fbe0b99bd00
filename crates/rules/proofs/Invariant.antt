-- What holds of every state that a run comes to, and of every turn on its way.
use Rattle.std.proofs.Common.{◌≡◌, ℕ, ◌<◌, true, List, [], ◌∷◌, get_or, Some, None, Option}
use Rattle.order.specs.Levels.{Levels}
use Rattle.script.specs.declared.class.Variable.{Variable}
use Rattle.script.specs.declared.class.Variable.TheVariants.{Local, Field}
use Rattle.script.specs.Classes.{Program}
use Rattle.script.specs.Bodies.{idle}
use Rattle.script.specs.Layout.{every}
use Rattle.rules.specs.declared.values.Name.{Name}
use Rattle.rules.specs.declared.values.Value.{Value}
use Rattle.rules.specs.declared.values.Value.TheVariants.{Number, ObjectName, FutureName, Marked}
use Rattle.rules.specs.declared.values.Labelled.{Labelled}
use Rattle.rules.specs.declared.tables.Future.{Future}
use Rattle.rules.specs.declared.tables.Future.TheVariants.{Open, Holding}
use Rattle.rules.specs.Lists.{nth}
use Rattle.rules.specs.Tables.{Object, Call, State}
use Rattle.rules.specs.Wrapper.{target, method_at, floor, writes}
use Rattle.rules.specs.Statements.{Scene, Running, Step, done, held}
use Rattle.rules.specs.Turns.{statements_of}
use Rattle.rules.specs.Laws.{Owed}
use Rattle.rules.proofs.Listing.{Each, Longer}

-- the object of a name has that class and that level
pub record Stands (objects : ℕ → List Object) (n : Name) (class level : ℕ) : Type 0 where
  pub object : Object
  pub at : nth (objects n.home) n.number ≡ Some object
  pub class_is : object.class ≡ class
  pub level_is : object.level ≡ level

-- objects, futures and calls stay where they stand, and more may come behind them
pub record Grows (σ τ : State) : Type 0 where
  pub objects : (n : Name) (class level : ℕ) → Stands σ.objects n class level → Stands τ.objects n class level
  pub futures : (h : ℕ) → Longer (σ.futures h) (τ.futures h)
  pub calls : (m : ℕ) → Longer (σ.calls m) (τ.calls m)

-- a field that is assigned is one of eight
abbrev pub Fits : Option Variable → Type 0
Fits None = Unit {0}
Fits (Some (Local k)) = Unit {0}
Fits (Some (Field k)) = k < 8

-- wherever a step stopped
abbrev pub Stopped : (Running → Type 0) → Step → Type 0
Stopped P (done r) = P r
Stopped P (held at r) = P r

module _ (o : Levels) where
  -- the home of a name flows to the name's label
  abbrev pub Homed : Value → ℕ → Type 0
  Homed (Number k) l = Unit {0}
  Homed (ObjectName n) l = o.flow n.home l ≡ true
  Homed (FutureName n) l = o.flow n.home l ≡ true
  Homed (Marked k) l = Unit {0}

  pub record Fine (level : ℕ) (x : Labelled) : Type 0 where
    pub flows : o.flow x.label level ≡ true
    pub homed : Homed x.value x.label

  abbrev pub FutureFine : Future → Type 0
  FutureFine Open = Unit {0}
  FutureFine (Holding x) = Fine x.label x

  abbrev pub AllHomed : List Labelled → Type 0
  AllHomed [] = Unit {0}
  AllHomed (x ∷ xs) = Homed x.value x.label × AllHomed xs

module _ (o : Levels) (program : Program) where
  pub record ObjectFine (home : ℕ) (b : Object) : Type 0 where
    pub above : o.flow home b.level ≡ true
    pub fields : (k : ℕ) → Fine o b.level (b.fields k)
    pub floors : (k : ℕ) → k < 8 → o.flow (floor o program b.class home k) (b.fields k).label ≡ true

  -- a call at level m: its receiver stands, with a home that flows to m; m flows to the receiver's level and to the floor of each field that
  -- the method assigns; and so do the labels of its locals to the receiver's level
  pub record CallFine (objects : ℕ → List Object) (m : ℕ) (c : Call) : Type 0 where
    pub class : ℕ
    pub level : ℕ
    pub stands : Stands objects c.receiver class level
    pub home : o.flow c.receiver.home m ≡ true
    pub below : o.flow m level ≡ true
    pub writing : every (λ s. writes o program m class c.receiver.home (target s)) (statements_of (method_at program class (Some c.method))) ≡ true
    pub locals : (k : ℕ) → Fine o level (c.locals k)

  pub record Sound (σ : State) : Type 0 where
    pub objects : (h : ℕ) → Each (ObjectFine h) (σ.objects h)
    pub futures : (h : ℕ) → Each (FutureFine o) (σ.futures h)
    pub calls : (m : ℕ) → Each (CallFine σ.objects m) (σ.calls m)
    pub owed : (m : ℕ) → Owed (σ.futures m) (σ.calls m)

  -- a turn at level m of an object whose home flows to m, which flows to its level and to the floors of what is assigned
  pub record SceneFine (scene : Scene) : Type 0 where
    pub home : o.flow scene.self.home scene.called_at ≡ true
    pub below : o.flow scene.called_at scene.level ≡ true
    pub fits : (at : ℕ) → Fits (target (get_or scene.body at idle))
    pub writing : (at : ℕ) → writes o program scene.called_at scene.class scene.self.home (target (get_or scene.body at idle)) ≡ true

  -- the turn's own variables and the tables, which have grown since σ
  pub record RunningFine (scene : Scene) (σ : State) (r : Running) : Type 0 where
    pub locals : (k : ℕ) → Fine o scene.level (r.locals k)
    pub fields : (k : ℕ) → Fine o scene.level (r.fields k)
    pub floors : (k : ℕ) → k < 8 → o.flow (floor o program scene.class scene.self.home k) (r.fields k).label ≡ true
    pub tables : Sound r.tables
    pub grows : Grows σ r.tables

  -- a context of the turn: the call's level flows to it, and it flows to the object's level
  pub record Inside (scene : Scene) (context : ℕ) : Type 0 where
    pub up : o.flow scene.called_at context ≡ true
    pub down : o.flow context scene.level ≡ true
