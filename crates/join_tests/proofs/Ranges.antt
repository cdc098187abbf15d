-- Times that pass the temporal tests of a pattern lie in its range.
use Rattle.join_tests.proofs.Common.{◌≡◌, ◌∙◌, sym, ap, refl, subst, arith, ℕ, ℤ, pos, negsuc, ◌+ℤ◌, ◌-ℤ◌, ◌≤ℤ◌, ◌⊎◌, inl, inr, Bool, true, false, cond, ◌&&◌}
use Rattle.join_tests.proofs.Common.{List, [], ◌∷◌, Option, Some, None, ints, Fact, times_hold, Bindings, TimeKey, most_between, key_of_times, point_of_times}
use Rattle.join_tests.proofs.Common.{option_or, time_holds_with, time_holds, candidate_corner, event_corner, same_corner, key_of_span, key_between, key_at}
use Rattle.{join_tests.{proofs.Common.{key_of_edges}, specs.declared.time_key.Point.{Point, TheVariants.{Start, End}}}, std.specs.Int.Signed.{le_z}}
use Rattle.{fx_base.{specs.declared.times.Times.{Times}, proofs.Tests.{and_first, and_second}}, temporal_ops.specs.declared.edge.Corner.{Corner}}
use Rattle.temporal_ops.specs.{declared.edge.{Corner.TheVariants.{AStart, AEnd, BStart, BEnd}, OpEdge.{OpEdge}}, Edges.{corner, edge_holds, edges_hold}}
use Rattle.rule_model.specs.declared.test.TimeTest.{TimeTest}

corners_are : (x y : Corner) → same_corner x y ≡ true → x ≡ y
corners_are AStart AStart e = refl
corners_are AEnd AEnd e = refl
corners_are BStart BStart e = refl
corners_are BEnd BEnd e = refl
corners_are AStart AEnd e = let f : false ≡ true = e in cc
corners_are AStart BStart e = let f : false ≡ true = e in cc
corners_are AStart BEnd e = let f : false ≡ true = e in cc
corners_are AEnd AStart e = let f : false ≡ true = e in cc
corners_are AEnd BStart e = let f : false ≡ true = e in cc
corners_are AEnd BEnd e = let f : false ≡ true = e in cc
corners_are BStart AStart e = let f : false ≡ true = e in cc
corners_are BStart AEnd e = let f : false ≡ true = e in cc
corners_are BStart BEnd e = let f : false ≡ true = e in cc
corners_are BEnd AStart e = let f : false ≡ true = e in cc
corners_are BEnd AEnd e = let f : false ≡ true = e in cc
corners_are BEnd BStart e = let f : false ≡ true = e in cc

candidate_point : (point : Point) (a b : Times) → corner (candidate_corner point) a b ≡ point_of_times point a
candidate_point Start a b = refl
candidate_point End a b = refl

event_point : (point : Point) (a b : Times) → corner (event_corner point) a b ≡ point_of_times point b
event_point Start a b = refl
event_point End a b = refl

-- the difference of two numbers is at most this
abbrev IsWithin : ℤ → ℤ → Option ℤ → Type 0
IsWithin x y None = Unit {0}
IsWithin x y (Some most) = le_z (x -ℤ y) most ≡ true

module _ (a b : Times) where
  edge_is : (edge : OpEdge) → edge_holds a b edge ≡ true → le_z (corner edge.x a b -ℤ corner edge.y a b) edge.most ≡ true
  unfolding edge_holds
  edge_is edge e = e

  within_first : (x y : Corner) (edge : OpEdge) (rest : Option ℤ) (same : Bool) → (same_corner x edge.x && same_corner y edge.y) ≡ same → edge_holds a b edge ≡ true
      → IsWithin (corner x a b) (corner y a b) rest → IsWithin (corner x a b) (corner y a b) (cond same (Some edge.most) rest)
  within_first x y edge rest false is e more = more
  within_first x y edge rest true is e more =
      let at_x : edge.x ≡ x = sym (corners_are x edge.x (and_first _ (same_corner y edge.y) is)) in
      let at_y : edge.y ≡ y = sym (corners_are y edge.y (and_second (same_corner x edge.x) _ is)) in
      subst (λ (v : Corner). le_z (corner x a b -ℤ corner v a b) edge.most ≡ true) at_y (
      subst (λ (u : Corner). le_z (corner u a b -ℤ corner edge.y a b) edge.most ≡ true) at_x (edge_is edge e)
      )

  all_within : (x y : Corner) (edges : List OpEdge) → edges_hold edges a b ≡ true → IsWithin (corner x a b) (corner y a b) (most_between x y edges)
  unfolding edges_hold
  all_within x y [] e = tt
  all_within x y (edge ∷ edges) e =
      within_first x y edge (most_between x y edges) (same_corner x edge.x && same_corner y edge.y) refl (and_first (edge_holds a b edge) _ e)
      (all_within x y edges (and_second (edge_holds a b edge) _ e))

-- a candidate of the one moment fits to an event of the other
abbrev pub Fits : TimeKey → ℤ → ℤ → Type 0
Fits key x y = (y ≤ℤ (x +ℤ key.back)) × (x ≤ℤ ((y -ℤ key.back) +ℤ pos key.span))

-- the key is of this event, and these times fit
abbrev FitsOf : ℕ → Times → Times → TimeKey → Type 0
FitsOf fact a b key = (key.fact ≡ fact) × Fits key (point_of_times key.own a) (point_of_times key.event b)

module _ (fact : ℕ) (a b : Times) (key : TimeKey) where
  fits_span : (own event : Point) (most back total : ℤ) → (most +ℤ back) ≡ total → le_z (point_of_times own a -ℤ point_of_times event b) most ≡ true → le_z (point_of_times event b -ℤ point_of_times own a) back ≡ true
      → key_of_span fact own event back total ≡ Some key → FitsOf fact a b key
  fits_span own event most back (negsuc n) is p q e = cc
  fits_span own event most back (pos span) is p q e =
      let made : TimeKey = record { fact = fact; own = own; event = event; back = back; span = span } in
      let same : made ≡ key = cc in
      subst (FitsOf fact a b) same (refl, (grind (arith, ints), grind (arith, ints)))

  fits_between : (own event : Point) (most back : Option ℤ) → IsWithin (point_of_times own a) (point_of_times event b) most → IsWithin (point_of_times event b) (point_of_times own a) back
      → key_between fact own event most back ≡ Some key → FitsOf fact a b key
  fits_between own event None back p q e = cc
  fits_between own event (Some most) None p q e = cc
  fits_between own event (Some most) (Some back) p q e = fits_span own event most back (most +ℤ back) refl p q e

  fits_at : (edges : List OpEdge) → edges_hold edges a b ≡ true → (own event : Point) → key_at fact edges own event ≡ Some key → FitsOf fact a b key
  fits_at edges holds own event e =
      let x = candidate_corner own in
      let y = event_corner event in
      let p : IsWithin (point_of_times own a) (point_of_times event b) (most_between x y edges) =
      subst (λ v. IsWithin (point_of_times own a) v (most_between x y edges)) (event_point event a b) (subst (λ u. IsWithin u (corner y a b) (most_between x y edges)) (candidate_point own a b) (all_within a b x y edges holds)) in
      let q : IsWithin (point_of_times event b) (point_of_times own a) (most_between y x edges) =
      subst (λ v. IsWithin (point_of_times event b) v (most_between y x edges)) (candidate_point own a b) (subst (λ u. IsWithin u (corner x a b) (most_between y x edges)) (event_point event a b) (all_within a b y x edges holds)) in
      fits_between own event (most_between x y edges) (most_between y x edges) p q e

either_key : (o p : Option TimeKey) (key : TimeKey) → option_or o p ≡ Some key → (o ≡ Some key) ⊎ (p ≡ Some key)
either_key None p key e = inr e
either_key (Some k) p key e = inl e

module _ (fact : ℕ) (a b : Times) (key : TimeKey) (edges : List OpEdge) (holds : edges_hold edges a b ≡ true) where
  or_at : (o : Option TimeKey) → (o ≡ Some key → FitsOf fact a b key) → (own event : Point) → (option_or o (key_at fact edges own event) ≡ Some key) → FitsOf fact a b key
  or_at o h own event e =
      elim (either_key o (key_at fact edges own event) key e) [
        | inl f ↦ h f
        | inr f ↦ fits_at fact a b key edges holds own event f
      ]

  fits_edges : key_of_edges fact edges ≡ Some key → FitsOf fact a b key
  fits_edges e =
      or_at _ (or_at _ (or_at _ (fits_at fact a b key edges holds Start Start) Start End) End Start) End End e

-- the event that a key names is there, and the times fit to it
abbrev pub FitsBound : Bindings → Times → TimeKey → Type 0
FitsBound bound times key = (f : Fact) × (bound.fact key.fact ≡ Some f) × Fits key (point_of_times key.own times) (point_of_times key.event f.times)

module _ (bound : Bindings) (times : Times) (key : TimeKey) where
  fits_test : (test : TimeTest) (o : Option Fact) → bound.fact test.fact ≡ o → time_holds_with test.op times o ≡ true → key_of_edges test.fact test.op ≡ Some key → FitsBound bound times key
  fits_test test None is holds e = let f : false ≡ true = holds in cc
  fits_test test (Some f) is holds e =
      let fits = fits_edges test.fact times f.times key test.op holds e in
      (f, ap bound.fact fits.0 ∙ is, fits.1)

  pub fits_times : (tests : List TimeTest) → times_hold bound times tests ≡ true → key_of_times tests ≡ Some key → FitsBound bound times key
  fits_times [] holds e = cc
  fits_times (test ∷ tests) holds e =
      elim (either_key (key_of_edges test.fact test.op) (key_of_times tests) key e) [
        | inl f ↦ fits_test test (bound.fact test.fact) refl (and_first (time_holds bound times test) _ holds) f
        | inr f ↦ fits_times tests (and_second (time_holds bound times test) _ holds) f
      ]
