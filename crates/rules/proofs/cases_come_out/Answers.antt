-- Each case, and each of the two runs, is worked out by computing.
use Rattle.std.proofs.Common.{pos, refl}
use Rattle.rules.specs.Lists.{none, more}
use Rattle.rules.specs.Turns.{exec}
use Rattle.rules.specs.Laws.{secret, equal, posts}
use Rattle.rules.specs.Cases.{ToldApartByNone}
use Rattle.rules.proofs.cases_come_out.Goals as goal

told_apart_by_none : ToldApartByNone
unfolding exec
told_apart_by_none =
    let other = posts (pos 0) (pos 0) (pos 0) (pos 0) _ _ refl refl (more (secret refl refl refl refl) none) in
    record {
      alike = more (equal refl) (more other (more (equal refl) (more (equal refl) none)));
      sees = refl;
      sees_too = refl;
      one_field = refl;
      other_field = refl;
    }

pub returns : goal.returns
unfolding exec
returns c =
    record {
      settled = (refl, (refl, (refl, (refl, (refl, (refl, (refl, (refl, (refl, (refl, (refl, (refl, tt))))))))))));
      secrets = told_apart_by_none;
      loads = refl;
      premises = record { owes_one = refl; stands_open = refl; holds_five = refl; refuses = refl };
    }
