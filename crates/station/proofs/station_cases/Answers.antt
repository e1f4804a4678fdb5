use Rattle.std.proofs.Common.{refl}
use Rattle.station.proofs.Table.{station_cases_lem}
use Rattle.station.proofs.station_cases.Goals as goal

pub returns : goal.returns
returns c = record { count = refl; shown = station_cases_lem }
