use Rattle.fx_base.proofs.Sequences.{get-none}
use Rattle.fan_join.proofs.fan.FanJoin.new.Goals as goal

pub returns-clause-empty : goal.returns-clause-empty
returns-clause-empty c = record {
  rows = c.new.ensures.nothing;
  names = λ k member e. absurd (get-none c.new-2.result.items k member c.new-2.ensures.items e);
}

pub returns-clause-beside : goal.returns-clause-beside
returns-clause-beside c k member e = absurd (get-none c.new-2.result.items k member c.new-2.ensures.items e)
