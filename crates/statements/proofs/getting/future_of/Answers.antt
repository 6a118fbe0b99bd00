use Rattle.std.proofs.Common.{sym, ap, ◌∙◌}
use Rattle.std.specs.Option.{unwrap_or}
use Rattle.std.proofs.lemmas.Iterator.Adapters.{option_map_id}
use Rattle.rules.specs.declared.tables.Future.TheVariants.{Open}
use Rattle.rules.specs.Lists.{nth}
use Rattle.store.specs.States.{futures_of}
use Rattle.statements.proofs.Reading.{nth_or}
use Rattle.statements.proofs.getting.future_of.Goals as goal

pub returns : goal.returns
returns c =
    c.unwrap_or.ensures ∙ ap (λ o. unwrap_or o Open) (sym (option_map_id c.get.result) ∙ c.get.ensures
    ∙ (λ i. nth (futures_of c.args.tables.now (c.from.ensures i)) (c.from-2.ensures i)))
    ∙ nth_or (futures_of c.args.tables.now c.args.name.home) c.args.name.number Open
