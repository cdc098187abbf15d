use Rattle.drl_lex.proofs.Common.{◌≤◌, ◌-◌, List, ℕ, length, Token, ReadsTokens}
use Rattle.drl_lex.proofs.lexer.lex.Given as goal

-- tokens stand up to the rest
pub record SoFar (tokens : List Token) (bytes rest : List ℕ) : Type 0 where
  pub within : length rest ≤ length bytes
  pub read : ReadsTokens 0 tokens bytes (length bytes - length rest) rest

abbrev pub invariant-loop-rest : goal.invariant-loop-rest
invariant-loop-rest l = SoFar l.tokens.items l.bytes l.rest

abbrev pub decreases-loop-rest : goal.decreases-loop-rest
decreases-loop-rest l = length l.rest
