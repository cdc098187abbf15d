use Rattle.{std.proofs.Common.{◌≡◌, ◌-◌, ◌++◌, string_bytes}, gen_load.specs.Script.{turns_text}}
use Rattle.gen_load.proofs.load.script.Given as goal

-- what is written, with the turns that are to come, is the whole script
abbrev pub invariant-loop : goal.invariant-loop
invariant-loop l = string_bytes l.script ++ turns_text (l.turns - l.counter) l.draws.number ≡ turns_text l.turns l.n
