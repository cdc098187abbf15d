use Rattle.{expiry_infer.proofs.Common.{◌≡◌, ℕ, Some, length, slice_get, Life}, life_meaning.specs.Tables.{IsLifeOf}, rule_model.specs.Lives.{IsShortLife}}
use Rattle.expiry_infer.proofs.lifetimes.lives.Given as goal

abbrev pub invariant-loop-place : goal.invariant-loop-place
invariant-loop-place l = record {
  each : length l.lives.items ≡ l.place;
  lives : (ty : ℕ) (life : Life) → slice_get l.lives.items ty ≡ Some life → IsLifeOf l.program ty life;
  short : (ty : ℕ) (life : Life) → slice_get l.lives.items ty ≡ Some life → IsShortLife life;
}
