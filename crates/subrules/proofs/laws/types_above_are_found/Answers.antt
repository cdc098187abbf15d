use Rattle.subrules.proofs.{HierarchyLaws.{round_decided, listed, below_decided}, KindLaws.{kinds_are}}
use Rattle.subrules.proofs.laws.types_above_are_found.Goals as goal

pub returns : goal.returns
returns c = record { round = round_decided; listed = listed; below = below_decided; kinds = kinds_are }
