use Rattle.std.proofs.Common.{length}
use Rattle.unit_tests.proofs.ranges.places_with.Given as goal

abbrev pub decreases-hits : goal.decreases-hits
decreases-hits l = length l.hits
