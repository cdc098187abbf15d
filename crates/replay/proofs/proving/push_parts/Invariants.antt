use Rattle.replay.proofs.Common.{◌≡◌, ◌++◌, take, flat_map, part_text}
use Rattle.replay.proofs.proving.push_parts.Given as goal

abbrev pub invariant-loop-part : goal.invariant-loop-part
invariant-loop-part l = l.text.items ≡ l.fn.text.items ++ flat_map (part_text l.program) (take l.part-index l.parts)
