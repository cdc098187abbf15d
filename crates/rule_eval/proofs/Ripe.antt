-- Maturity, by the window of possible starts.
use Rattle.rule_eval.proofs.Common.{◌≡◌, ◌||◌, not, ℤ, Bool, true, false, Option, Some, None, sym, ◌∙◌, ap, Program, bounds_of, is_event, is_point}
use Rattle.rule_eval.proofs.Common.{window_by_lists, start_window_at, is_past, AreOperators, Bindings, Bounds, bounds_join}
use Rattle.temporal_ops.specs.{declared.window.Window.{Window}, Possible.{ArePossibleTimes, IsStartWindow}, Starts.{starts_window}}
use Rattle.{temporal_ops.proofs.{WindowOfEdges.{window_is_of_edges}, Windows.{one_window}}, rule_model.specs.declared.condition.Pattern.{Pattern}}
use Rattle.rule_model.specs.Maturity.{is_mature}

module _ (p : Program) (q : Pattern) (bound : Bindings) (moment : ℤ) where
  -- a pattern of plain facts
  pub plain_mature : is_event p q.ty.0 ≡ false → is_mature p q bound moment ≡ true
  unfolding is_mature
  plain_mature e = ap (λ b. not b || is_past (start_window_at p q bound) moment) e

  by_window : (o : Option Bounds) → is_event p q.ty.0 ≡ true → bounds_of bound q.times ≡ o → is_mature p q bound moment ≡ is_past (window_by_lists (is_point p q.ty.0) o) moment
  unfolding is_mature
  by_window o e is = ap (λ b. not b || is_past (start_window_at p q bound) moment) e ∙ ap (λ x. is_past (window_by_lists (is_point p q.ty.0) x) moment) is

  -- a temporal test that names what is missing
  pub unbound_mature : is_event p q.ty.0 ≡ true → bounds_of bound q.times ≡ None → is_mature p q bound moment ≡ true
  unbound_mature e is = by_window None e is

  -- the window of the possible events decides
  pub event_mature : (bounds : Bounds) (point : Bool) (w : Window) → AreOperators q.times → is_event p q.ty.0 ≡ true → bounds_of bound q.times ≡ Some bounds
      → point ≡ is_point p q.ty.0 → IsStartWindow bounds point w → is_mature p q bound moment ≡ is_past w moment
  event_mature bounds point w ops e is same starts =
      by_window (Some bounds) e is
      ∙ ap (λ b. is_past (starts_window bounds b) moment) (sym same)
      ∙ ap (λ v. is_past v moment) (one_window (ArePossibleTimes bounds point) (starts_window bounds point) w (window_is_of_edges bounds point (bounds_join bound q.times bounds ops is)) starts)
