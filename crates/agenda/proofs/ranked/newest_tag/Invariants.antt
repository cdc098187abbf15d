use Rattle.agenda.proofs.Common.{◌≡◌, drop, max, greatest_tag}
use Rattle.agenda.proofs.ranked.newest_tag.Given as goal

abbrev pub invariant-loop-named : goal.invariant-loop-named
invariant-loop-named l = max l.newest (greatest_tag (drop l.named-index l.named-items)) ≡ greatest_tag l.named-items
