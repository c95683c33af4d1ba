-- What is gone over.
--   fronts_of i           == the fronts of the records that are left
--   stops_of i            == the stops that are left
use Rattle.std.specs.Prelude.{List, map}
use Rattle.region.specs.Front.{front_at}
use Rattle.region.specs.declared.front.Front.{Front}
use Rattle.region.specs.Ahead.{ahead}
use Rattle.algebra.specs.Stops.{stop_at}
use Rattle.algebra.specs.Totals.{stops}
use Rattle.algebra.specs.declared.stop.Stop.{Stop}
use Rattle.algebra.specs.declared.steps.Fronts.{Fronts}
use Rattle.algebra.specs.declared.steps.Stops.{Stops}

abbrev pub fronts_of : Fronts → List Front
fronts_of i = map (front_at i.s.now) (ahead i.s.now i.at)

abbrev pub stops_of : Stops → List Stop
stops_of i = map (stop_at i.operation i.size i.t.now) (stops i.operation i.size i.t.now i.at)
