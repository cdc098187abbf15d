use Rattle.drl_show.proofs.items.MetaPrinted.write.Goals as goal

pub returns-in-Duration : goal.returns-in-Duration
returns-in-Duration c = rw (c.in-Duration.is, ← c.as_str-in-Duration.ensures) c.annotation-in-Duration.ensures

pub returns-in-Reference : goal.returns-in-Reference
returns-in-Reference c = rw c.in-Reference.is c.bare_annotation.ensures
