-- What memory holds of a mark that was made, and of who made it.
use Rattle.rules.specs.Values.{Made, plain, fresh}
use Rattle.rules.specs.Tables.{Place}
use Rattle.wrapper.specs.declared.noting.Place.{Place as StoredPlace}
use Rattle.wrapper.specs.declared.noting.Made.{Made as StoredMade}
use Rattle.wrapper.specs.declared.noting.Made.TheVariants.{Plain, Fresh}

abbrev pub place_of : StoredPlace → Place
place_of w = record { class = w.class; method = w.method; statement = w.statement }

abbrev pub made_of : StoredMade → Made
made_of (Plain x) = plain x
made_of (Fresh mark layer l) = fresh mark layer l
