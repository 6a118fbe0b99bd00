-- Each case is worked out by computing.
use Rattle.std.proofs.Common.{refl}
use Rattle.std.specs.Fmt.{digits}
use Rattle.console.proofs.cases_come_out.Goals as goal

pub returns : goal.returns
unfolding digits
returns c =
    record {
      readable = (refl, refl, refl, refl, refl, refl, refl, refl);
      unreadable = (refl, refl, refl, refl, refl, refl, refl, refl, refl, refl, refl, refl, refl, refl, refl, refl, refl, refl, refl, refl);
      lists = (refl, refl, refl, refl);
      parted = (refl, refl, refl, refl, refl, refl);
      put_out = (refl, refl, refl, refl, refl, refl, refl);
      tables = (refl, refl, refl);
    }
