-- The greatest of limits.
use Rattle.std.specs.Prelude.{◌≡◌, ◌<◌, ◌⊎◌, ℕ, List, Some, slice_get}
use Rattle.life_meaning.specs.Reach.{Limit, Below}

-- the greatest of a limit and of those of a set
pub record IsTop (of : Limit → Type 0) (least : Limit) (top : Limit) : Type 0 where
  pub above_least : Below least top
  pub above_all : (l : Limit) → of l → Below l top
  pub reached : (top ≡ least) ⊎ of top

-- what one of the elements gives that stand before this place
pub record Among {A : Type 0} (xs : List A) (gives : ℕ → A → Limit → Type 0) (end : ℕ) (l : Limit) : Type 0 where
  pub place : ℕ
  pub before : place < end
  pub x : A
  pub stands : slice_get xs place ≡ Some x
  pub limit : gives place x l
