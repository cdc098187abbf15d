-- Whether events of one kind are of another, their starts are the same; and no events have two windows.
use Rattle.temporal_ops.proofs.Common.{◌≡◌, ◌↔◌, ℤ, pos, ◌+ℤ◌, refl, subst, ap, arith, ints, Times, Never, UpTo, Unbounded, AreStarts, IsLatest}
use Rattle.temporal_ops.{proofs.Common.{ArePossibleTimes, AreStartsUnbounded, OneWindow}, specs.declared.window.Window.{Window}}

pub starts_too : (P Q : Times → Type 0) → ((y : Times) → P y ↔ Q y) → (window : Window) → AreStarts P window → AreStarts Q window
starts_too P Q same Never h = λ y q. h y ((same y).1 q)
starts_too P Q same (UpTo u) h = record {
  event = h.event;
  possible = (same h.event).0 h.possible;
  starts = h.starts;
  latest = λ y q. h.latest y ((same y).1 q);
}
starts_too P Q same Unbounded h = λ n. let found = h n in (found.0, (same found.0).0 found.1, found.2)

latest_once : (P : Times → Type 0) (u v : ℤ) → IsLatest P u → IsLatest P v → u ≡ v
latest_once P u v h k =
    let a = k.latest h.event h.possible in
    let b = h.latest k.event k.possible in
    let c = h.starts in
    let d = k.starts in
    omega (arith, ints)

bounded : (P : Times → Type 0) (u : ℤ) → IsLatest P u → AreStartsUnbounded P → ⊥
bounded P u h k =
    let later = k (u +ℤ pos 1) in
    let a = h.latest later.0 later.1 in
    let b = later.2 in
    omega (arith, ints)

-- no events have the starts of two windows
pub one_window : (P : Times → Type 0) (v w : Window) → AreStarts P v → AreStarts P w → v ≡ w
one_window P Never Never h k = refl
one_window P Never (UpTo u) h k = absurd (h k.event k.possible)
one_window P Never Unbounded h k = let found = k (pos 0) in absurd (h found.0 found.1)
one_window P (UpTo u) Never h k = absurd (k h.event h.possible)
one_window P (UpTo u) (UpTo v) h k = ap UpTo (latest_once P u v h k)
one_window P (UpTo u) Unbounded h k = absurd (bounded P u h k)
one_window P Unbounded Never h k = let found = h (pos 0) in absurd (k found.0 found.1)
one_window P Unbounded (UpTo u) h k = absurd (bounded P u k h)
one_window P Unbounded Unbounded h k = refl

-- so what the starts are says which window it is
pub which_window : (P : Times → Type 0) (v w : Window) → AreStarts P v → (v ≡ w) ↔ AreStarts P w
which_window P v w h = (λ e. subst (λ (x : Window). AreStarts P x) e h, λ k. one_window P v w h k)

pub one_window_each : OneWindow
one_window_each bounds point v w h k = one_window (ArePossibleTimes bounds point) v w h k
