use Rattle.drl_lex.proofs.{Common.{◌≡◌, ℕ, List, ◌+◌, length, content_at}, TextTurns.{behind}}
use Rattle.drl_lex.proofs.texts.content_at.Given as goal

-- the content so far and that of what is left is that of all
pub record SoFar (content rest bytes : List ℕ) (at quote place : ℕ) : Type 0 where
  pub reached : place + length rest ≡ at + 1 + length bytes
  pub read : behind content (content_at at quote place rest) ≡ content_at at quote (at + 1) bytes

abbrev pub invariant-loop-meant : goal.invariant-loop-meant
invariant-loop-meant l = SoFar l.content.items l.rest l.bytes l.at l.quote l.place

abbrev pub decreases-loop-meant : goal.decreases-loop-meant
decreases-loop-meant l = length l.rest
