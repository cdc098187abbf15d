-- The first rules that have first conditions of a rule are the same however they are found, and so are laden rows by them.
use Rattle.image_fitting.proofs.Common.{◌≡◌, ◌∙◌, ℕ, zero, suc, ◌<◌, Bool, List, length, Option, Some, None, refl, ap, slice_get, slice_get_within, Fact, Extra}
use Rattle.image_fitting.proofs.Common.{Row, Image, Condition, LifeTable, Program, Rule, Snapshot, IsNeeded, snapshot_of, extra_at, AreOwners, laden_with}
use Rattle.{image_fitting.proofs.{Common.{IsLadenRow, IsLadenMatch}, Placing.{one_first}}, laden_rows.specs.Laden.{laden}}

laden_same : (p : Program) (s : Snapshot) (extras : List Extra) (a b : ℕ → ℕ) (conditions : List Condition) → ((k : ℕ) → k < length conditions → a k ≡ b k)
    → (n : ℕ) → laden p s extras a conditions n ≡ laden p s extras b conditions n
unfolding laden
laden_same p s extras a b conditions h zero = refl
laden_same p s extras a b conditions h (suc n) = by (slice_get conditions n) refl (laden p s extras a conditions n) (laden p s extras b conditions n) (laden_same p s extras a b conditions h n)
  where
    by : (o : Option Condition) → slice_get conditions n ≡ o → (left also : Row → Bool) → left ≡ also
        → laden_with p s (extra_at extras (a n) n) o left ≡ laden_with p s (extra_at extras (b n) n) o also
    by None at left also same = same
    by (Some c) at left also same =
        ap (λ owner. laden_with p s (extra_at extras owner n) (Some c) left) (h n (slice_get_within conditions n c at)) ∙ ap (laden_with p s (extra_at extras (b n) n) (Some c)) same

module _ (p : Program) (image : Image) (a b : ℕ → ℕ → ℕ) (of_a : AreOwners p a) (of_b : AreOwners p b) where
  agree : (place : ℕ) (rule : Rule) → slice_get p.rules place ≡ Some rule → (n : ℕ) → laden p (snapshot_of image) image.extras (b place) rule.conditions n ≡ laden p (snapshot_of image) image.extras (a place) rule.conditions n
  agree place rule stands n =
      laden_same p (snapshot_of image) image.extras (b place) (a place) rule.conditions
      (λ k less. one_first p (suc k) rule.conditions (b place k) (a place k) (of_b place k rule stands less) (of_a place k rule stands less)) n

  pub laden_by : (place : ℕ) (row : Row) (n : ℕ) → IsLadenRow p image a place row n → IsLadenRow p image b place row n
  laden_by place row n x = record {
    rule = x.rule;
    stands = x.stands;
    conditions = x.conditions;
    there = ap (λ (rows : Row → Bool). rows row) (agree place x.rule x.stands n) ∙ x.there;
  }

  pub match_by : (place : ℕ) (row : Row) → IsLadenMatch p image a place row → IsLadenMatch p image b place row
  match_by place row x = (x.0, x.1, ap (λ (rows : Row → Bool). rows row) (agree place x.0 x.1 (length x.0.conditions)) ∙ x.2)

  pub needed_by : (table : LifeTable) (f : Fact) → IsNeeded p table image a f → IsNeeded p table image b f
  needed_by table f x dead = let r = x dead in (r.0, match_by r.0.rule.0 r.0.row r.1, r.2, r.3)
