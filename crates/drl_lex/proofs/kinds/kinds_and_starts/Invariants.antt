use Rattle.drl_lex.{proofs.Common.{◌≡◌, List, ℕ, Token, TokenKind}, specs.Kinds.{kinds, starts}}
use Rattle.drl_lex.proofs.kinds.kinds_and_starts.Given as goal

-- the parts of the tokens so far
pub record SoFar (said : List TokenKind) (offsets : List ℕ) (tokens : List Token) : Type 0 where
  pub kinds_are : said ≡ kinds tokens
  pub starts_are : offsets ≡ starts tokens

abbrev pub invariant-loop-kind : goal.invariant-loop-kind
invariant-loop-kind l = SoFar l.said.items l.offsets.items l.yielded
