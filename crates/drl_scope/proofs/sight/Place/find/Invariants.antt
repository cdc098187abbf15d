use Rattle.drl_scope.proofs.Common.{◌≡◌, drop, meaning_of}
use Rattle.drl_scope.proofs.sight.Place.find.Given as goal

abbrev pub invariant-loop-seen : goal.invariant-loop-seen
invariant-loop-seen l = meaning_of (drop l.seen-index l.self.sight) l.name ≡ meaning_of l.self.sight l.name
