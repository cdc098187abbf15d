use Rattle.{std.{proofs.Common.{map, ◌++◌, ◌≡◌}, specs.List.{filter}}, change_rules.specs.Staying.{place_in}, image_laws.specs.Images.{match_fired}}
use Rattle.rule_change.specs.Changed.{is_marked}
use Rattle.image_making.proofs.fired.marked_matches.Given as goal

abbrev pub invariant-loop-matched : goal.invariant-loop-matched
invariant-loop-matched l =
    map match_fired l.marked.items ++ filter (is_marked (place_in l.places) l.fired.keys) l.matched-iterator.rest.items
    ≡ filter (is_marked (place_in l.places) l.fired.keys) l.fn.matches.items
