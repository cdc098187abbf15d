use Rattle.change_rules.proofs.Apart.{first_entries, first_types, names_apart}
use Rattle.change_rules.proofs.checked.have_names.Goals as goal

pub returns-then-are_first_types-clause-names : goal.returns-then-are_first_types-clause-names
returns-then-are_first_types-clause-names c is =
    names_apart c.args.program.now (rw c.as_slice.ensures at (c.are_first_types.ensures.first c.if-are_first_types.true))
    (rw c.as_slice-then-are_first_types.ensures at (c.are_first_entries.ensures.first is))

pub returns-then-are_first_types-clause-none : goal.returns-then-are_first_types-clause-none
returns-then-are_first_types-clause-none c is names =
    (rw c.as_slice-then-are_first_types.ensures at (c.are_first_entries.ensures.none is)) (first_entries c.args.program.now names)

pub returns-else-are_first_types-clause-none : goal.returns-else-are_first_types-clause-none
returns-else-are_first_types-clause-none c is names = (rw c.as_slice.ensures at (c.are_first_types.ensures.none is)) (first_types c.args.program.now names)
