use Rattle.agenda.proofs.{Ranks.{well_removed}, Namings.{take_counts}}
use Rattle.agenda.proofs.naming.take_ranked.Goals as goal

pub returns-in-Some-clause-well : goal.returns-in-Some-clause-well
returns-in-Some-clause-well c saliences all = rw c.in-Some.ensures.keys (well_removed saliences _ c.args.pending.now.keys all)

pub returns-in-Some-clause-named : goal.returns-in-Some-clause-named
returns-in-Some-clause-named c counts =
    rw c.in-Some.ensures.keys
    (take_counts c.args.named.now.entries c.lower_all.new.named.entries c.args.pending.now.keys c.args.ranked.now c.in-Some.gone c.in-Some.ensures.key (simp c.as_slice.ensures at c.lower_all.ensures) counts)
