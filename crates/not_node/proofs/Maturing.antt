-- The moment for which a row waits, by the window of possible starts, and when the row is mature.
use Rattle.not_node.proofs.Common.{◌≡◌, ◌∙◌, ◌||◌, not, cond, ℕ, ℤ, zero, suc, Bool, true, false, List, [], ◌∷◌, Option, Some, None, slice_get, refl, sym, ap}
use Rattle.not_node.proofs.Common.{fun_ext, Row, Pattern, Program, bound_in, named_at, bounds_of, AreOperators, window_by_lists, start_window_at, is_past}
use Rattle.not_node.proofs.Common.{is_event, is_point, Look, mature, Bounds, bounds_join, AlikeOn, MaturityLaw, latest_of, latest_start}
use Rattle.{not_node.specs.Moments.{moment_at}, rule_model.{specs.{Maturity.{is_mature}, Tuples.{Bindings, row_of}}, proofs.Naming.{bound_named}}}
use Rattle.{fx_base.specs.declared.fact.Fact.{Fact}, temporal_ops.specs.declared.window.Window.{Window, TheVariants.{Never, UpTo, Unbounded}}}
use Rattle.temporal_ops.{specs.{Possible.{ArePossibleTimes, IsStartWindow}, Starts.{starts_window}}, proofs.WindowOfEdges.{window_is_of_edges}}
use Rattle.{temporal_ops.proofs.Windows.{one_window}, row_delta.specs.declared.row.Named.{Named}}

-- ---- the moment
module _ (p : Program) (q : Pattern) (look : Look) (row : Row) where
  pub plain_moment : is_event p q.ty.0 ≡ false → moment_at p q look row ≡ None
  unfolding moment_at
  plain_moment e = ap (λ b. cond b (latest_of (start_window_at p q (bound_in look row))) None) e

  by_bounds : (o : Option Bounds) → is_event p q.ty.0 ≡ true → bounds_of (bound_in look row) q.times ≡ o → moment_at p q look row ≡ latest_of (window_by_lists (is_point p q.ty.0) o)
  unfolding moment_at
  by_bounds o e is = ap (λ b. cond b (latest_of (start_window_at p q (bound_in look row))) None) e ∙ ap (λ x. latest_of (window_by_lists (is_point p q.ty.0) x)) is

  -- a temporal test that names what is missing
  pub unbound_moment : is_event p q.ty.0 ≡ true → bounds_of (bound_in look row) q.times ≡ None → moment_at p q look row ≡ None
  unbound_moment e is = by_bounds None e is

  -- the window of the possible events decides
  pub event_moment : (bounds : Bounds) (point : Bool) (w : Window) → AreOperators q.times → is_event p q.ty.0 ≡ true → bounds_of (bound_in look row) q.times ≡ Some bounds
      → point ≡ is_point p q.ty.0 → IsStartWindow bounds point w → moment_at p q look row ≡ latest_of w
  event_moment bounds point w ops e is same starts =
      by_bounds (Some bounds) e is
      ∙ ap (λ b. latest_of (starts_window bounds b)) (sym same)
      ∙ ap latest_of (one_window (ArePossibleTimes bounds point) (starts_window bounds point) w (window_is_of_edges bounds point (bounds_join (bound_in look row) q.times bounds ops is)) starts)

-- ---- when a row is mature
past_is : (b : Bool) (w : Window) (floor : ℤ) → mature floor (cond b (latest_of w) None) ≡ (not b || is_past w floor)
past_is true Never floor = refl
past_is true Unbounded floor = refl
past_is true (UpTo u) floor = refl
past_is false w floor = refl

pub row_mature : (p : Program) (q : Pattern) (look : Look) (row : Row) (floor : ℤ) → mature floor (moment_at p q look row) ≡ is_mature p q (bound_in look row) floor
unfolding moment_at is_mature
row_mature p q look row floor = past_is (is_event p q.ty.0) (start_window_at p q (bound_in look row)) floor

pub maturity_law : MaturityLaw
maturity_law p q look tuple floor held = row_mature p q look (row_of tuple) floor ∙ ap (λ bound. is_mature p q bound floor) (bound_named look (row_of tuple) tuple refl held)

-- ---- in another store
named_alike : (look other : Look) (names : List Named) → AlikeOn look other names → (k : ℕ) → named_at look names k ≡ named_at other names k
named_alike look other [] h k = refl
named_alike look other (n ∷ names) h zero = h.0
named_alike look other (n ∷ names) h (suc k) = named_alike look other names h.1 k

abbrev looking : (ℕ → Option Fact) → List ℤ → Bindings
looking facts values = record { fact = facts; result = slice_get values }

pub moment_alike : (p : Program) (q : Pattern) (look other : Look) (row : Row) → AlikeOn look other row.facts → moment_at p q other row ≡ moment_at p q look row
unfolding moment_at
moment_alike p q look other row h = ap (λ facts. latest_start p q (looking facts row.values)) (sym (fun_ext (named_alike look other row.facts h)))
