use Rattle.desk_c.proofs.put.Goals as goal

pub returns-clause-put : goal.returns-clause-put
returns-clause-put c = rw c.deref_mut.ensures.value at c.put_out_any-count.ensures.put
