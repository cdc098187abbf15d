use Rattle.change_resolve.proofs.Common.{◌≡◌, drop, given_under}
use Rattle.change_resolve.proofs.fields.given_for.Given as goal

abbrev pub invariant-loop-member : goal.invariant-loop-member
invariant-loop-member l = given_under l.name (drop l.member-index l.members) ≡ given_under l.name l.members
