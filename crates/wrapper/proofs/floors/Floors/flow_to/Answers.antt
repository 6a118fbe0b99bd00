use Rattle.std.proofs.Common.{ℕ, ◌∙◌, rules}
use Rattle.std.proofs.lemmas.Iterator.{YieldsList-from_slice}
use Rattle.std.proofs.lemmas.Iterator.Search.{all_from_yields_List}
use Rattle.wrapper.proofs.Every.{list_all-every}
use Rattle.wrapper.proofs.floors.Floors.flow_to.Goals as goal

pub returns : goal.returns
returns g c =
    let o = g.O.Order.levels c.args.order.now in
    let flows = λ (declared : ℕ). o.flow (o.join declared c.args.self.now.home) c.args.level in
    all_from_yields_List flows _ _ c.all.result c.all.ensures.ran (YieldsList-from_slice c.args.self.now.declared.now cc) (λ x b q k. search rules)
    ∙ list_all-every flows c.args.self.now.declared.now
