-- The promises, each from its file.
use Rattle.rules.proofs.Secret.{secrecy}
use Rattle.rules.proofs.Lawful.{labels_flow, labels_levels, futures_owed, values_stay, refusals_alter_nothing}
use Rattle.rules.proofs.rules_keep_secrets.Goals as goal

pub returns : goal.returns
returns c =
    record { secrecy = secrecy; labels = labels_flow; levels = labels_levels; owed = futures_owed; stay = values_stay; refusals = refusals_alter_nothing }
