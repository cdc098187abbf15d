use Rattle.{script_read.proofs.Common.{◌≡◌, ◌++◌, givens}, serde_json.specs.View.{members_view}}
use Rattle.script_read.proofs.given.fields_of.Given as goal

-- the fields so far and those of the members that are left are those of all
abbrev pub invariant-loop-name : goal.invariant-loop-name
invariant-loop-name l = l.fields.items ++ givens (members_view l.name-iterator) ≡ givens (members_view l.members.entries)
