use Rattle.std.proofs.Common.{◌∙◌, rules}
use Rattle.std.proofs.lemmas.Iterator.{YieldsList-from_slice}
use Rattle.std.proofs.lemmas.Iterator.Search.{all_from_yields_List}
use Rattle.script.specs.declared.class.Statement.{Statement}
use Rattle.rules.specs.Wrapper.{target}
use Rattle.wrapper.specs.Floors.{writes_in}
use Rattle.wrapper.proofs.Every.{list_all-every}
use Rattle.wrapper.proofs.floors.Floors.admit_all.Goals as goal

pub returns : goal.returns
returns g c =
    let may = λ (s : Statement). writes_in (g.O.Order.levels c.args.order.now) c.args.self.now.declared.now c.args.level c.args.self.now.home (target s) in
    all_from_yields_List may _ _ c.all.result c.all.ensures.ran (YieldsList-from_slice c.args.statements.now cc) (λ x b q k. search rules)
    ∙ list_all-every may c.args.statements.now
