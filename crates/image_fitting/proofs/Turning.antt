-- Events that come in turn: one turn of the loop, and what the test says.
use Rattle.image_fitting.proofs.Common.{◌≡◌, ◌∙◌, ◌&&◌, ◌==◌, ℕ, ◌<◌, ℤ, pos, ◌≤ℤ◌, Bool, true, false, List, [], ◌∷◌, length, get_or, set, inl, inr, refl, sym}
use Rattle.image_fitting.proofs.Common.{ap, subst, nat_lt, int_le, slice_index_or, In, Fact, Program, is_event, come_in_turn, slice_set, length-set}
use Rattle.{image_fitting.proofs.Common.{get_or-set_same, get_or-set_other}, std.proofs.lemmas.Bool.{and_parts, eqb-false, eqb-true, lt-ltb, ltb-true}}
use Rattle.fx_base.proofs.Orders.{int_le-true, le-int_le, ≤ℤ_trans}

-- ---- one turn

module _ (p : Program) (latest : List ℤ) (f : Fact) (facts : List Fact) where
  plain_turn : is_event p f.ty.0 ≡ false → come_in_turn p latest (f ∷ facts) ≡ come_in_turn p latest facts
  plain_turn e = rw e refl

  event_turn : is_event p f.ty.0 ≡ true → f.entry.0 < length latest → slice_index_or latest f.entry.0 (pos 0) ≤ℤ f.times.start
      → come_in_turn p latest (f ∷ facts) ≡ come_in_turn p (slice_set latest f.entry.0 f.times.start) facts
  event_turn e h k = rw (e, lt-ltb f.entry.0 (length latest) h, le-int_le (slice_index_or latest f.entry.0 (pos 0)) f.times.start k) refl

  event_parts : is_event p f.ty.0 ≡ true → come_in_turn p latest (f ∷ facts) ≡ true
      → (f.entry.0 < length latest) × (slice_index_or latest f.entry.0 (pos 0) ≤ℤ f.times.start) × (come_in_turn p (slice_set latest f.entry.0 f.times.start) facts ≡ true)
  event_parts e h =
      let all = and_parts (nat_lt f.entry.0 (length latest)) (int_le (slice_index_or latest f.entry.0 (pos 0)) f.times.start && come_in_turn p (slice_set latest f.entry.0 f.times.start) facts) (rw e at h) in
      let more = and_parts (int_le (slice_index_or latest f.entry.0 (pos 0)) f.times.start) (come_in_turn p (slice_set latest f.entry.0 f.times.start) facts) all.1 in
      (ltb-true f.entry.0 (length latest) all.0, int_le-true (slice_index_or latest f.entry.0 (pos 0)) f.times.start more.0, more.1)

-- ---- what the test says

-- of two events of an entry point the one that stands first starts not behind the other
abbrev pub StartsNotBehind : Program → Fact → Fact → Type 0
StartsNotBehind p f g = is_event p f.ty.0 ≡ true → is_event p g.ty.0 ≡ true → f.entry.0 ≡ g.entry.0 → f.times.start ≤ℤ g.times.start

abbrev pub StartInTurn : Program → List Fact → Type 0
StartInTurn p [] = Unit {0}
StartInTurn p (f ∷ facts) = ((g : Fact) → In g facts → StartsNotBehind p f g) × StartInTurn p facts

abbrev pub StartFrom : Program → List ℤ → List Fact → Type 0
StartFrom p latest facts = (f : Fact) → In f facts → is_event p f.ty.0 ≡ true → (f.entry.0 < length latest) × (slice_index_or latest f.entry.0 (pos 0) ≤ℤ f.times.start)

-- an entry point after a start was taken
same_entry : (latest : List ℤ) (e n : ℕ) (start : ℤ) → n ≡ e → e < length latest → slice_index_or (slice_set latest e start) n (pos 0) ≡ start
same_entry latest e n start q h = ap (λ m. get_or (set latest e start) m (pos 0)) q ∙ get_or-set_same latest e start (pos 0) h

other_entry : (latest : List ℤ) (e n : ℕ) (start : ℤ) → (n ≡ e → ⊥) → slice_index_or (slice_set latest e start) n (pos 0) ≡ slice_index_or latest n (pos 0)
other_entry latest e n start q = get_or-set_other latest e n start (pos 0) q

module _ (p : Program) where
  before_too : (latest : List ℤ) (f g : Fact) (b : Bool) → (g.entry.0 == f.entry.0) ≡ b → f.entry.0 < length latest → slice_index_or latest f.entry.0 (pos 0) ≤ℤ f.times.start
      → slice_index_or (slice_set latest f.entry.0 f.times.start) g.entry.0 (pos 0) ≤ℤ g.times.start → slice_index_or latest g.entry.0 (pos 0) ≤ℤ g.times.start
  before_too latest f g true e inside h k =
      let same = eqb-true g.entry.0 f.entry.0 e in
      subst (λ n. slice_index_or latest n (pos 0) ≤ℤ g.times.start) (sym same)
      (≤ℤ_trans (slice_index_or latest f.entry.0 (pos 0)) f.times.start g.times.start h (subst (λ z. z ≤ℤ g.times.start) (same_entry latest f.entry.0 g.entry.0 f.times.start same inside) k))
  before_too latest f g false e inside h k = subst (λ z. z ≤ℤ g.times.start) (other_entry latest f.entry.0 g.entry.0 f.times.start (eqb-false g.entry.0 f.entry.0 e)) k

  after_too : (latest : List ℤ) (f g : Fact) (b : Bool) → (g.entry.0 == f.entry.0) ≡ b → f.entry.0 < length latest → (f.entry.0 ≡ g.entry.0 → f.times.start ≤ℤ g.times.start)
      → slice_index_or latest g.entry.0 (pos 0) ≤ℤ g.times.start → slice_index_or (slice_set latest f.entry.0 f.times.start) g.entry.0 (pos 0) ≤ℤ g.times.start
  after_too latest f g true e inside h k =
      let same = eqb-true g.entry.0 f.entry.0 e in
      subst (λ z. z ≤ℤ g.times.start) (sym (same_entry latest f.entry.0 g.entry.0 f.times.start same inside)) (h (sym same))
  after_too latest f g false e inside h k = subst (λ z. z ≤ℤ g.times.start) (sym (other_entry latest f.entry.0 g.entry.0 f.times.start (eqb-false g.entry.0 f.entry.0 e))) k

  abbrev TurnSays : List ℤ → List Fact → Type 0
  TurnSays latest facts = come_in_turn p latest facts ≡ true → StartInTurn p facts × StartFrom p latest facts

  abbrev TurnHolds : List ℤ → List Fact → Type 0
  TurnHolds latest facts = StartFrom p latest facts → come_in_turn p latest facts ≡ true

  pub turn_says : (latest : List ℤ) (facts : List Fact) → come_in_turn p latest facts ≡ true → StartInTurn p facts × StartFrom p latest facts
  turn_says latest [] e = (tt, λ f i. absurd i)
  turn_says latest (f ∷ facts) e = by (is_event p f.ty.0) refl (turn_says latest facts) (turn_says (slice_set latest f.entry.0 f.times.start) facts)
    where
      by : (b : Bool) → is_event p f.ty.0 ≡ b → TurnSays latest facts → TurnSays (slice_set latest f.entry.0 f.times.start) facts → StartInTurn p (f ∷ facts) × StartFrom p latest (f ∷ facts)
      by false plain says says_then =
          let r = says (sym (plain_turn p latest f facts plain) ∙ e) in (
            (λ g i is. absurd (let n : true ≡ false = sym is ∙ plain in cc), r.0),
            λ g i is. elim i [ inl same ↦ absurd (let n : true ≡ false = sym is ∙ ap (λ (z : Fact). is_event p z.ty.0) same ∙ plain in cc) | inr j ↦ r.1 g j is ],
          )
      by true event says says_then =
          let parts = event_parts p latest f facts event e in
          let r = says_then parts.2 in
          let long : length (slice_set latest f.entry.0 f.times.start) ≡ length latest = length-set latest f.entry.0 f.times.start in (
            (λ g i is also same. subst (λ z. z ≤ℤ g.times.start) (same_entry latest f.entry.0 g.entry.0 f.times.start (sym same) parts.0) (r.1 g i also).1, r.0),
            λ g i is. elim i [
              | inl same ↦ subst (λ (z : Fact). (z.entry.0 < length latest) × (slice_index_or latest z.entry.0 (pos 0) ≤ℤ z.times.start)) (sym same) (parts.0, parts.1)
              | inr j ↦ (
                subst (λ n. g.entry.0 < n) long (r.1 g j is).0,
                before_too latest f g (g.entry.0 == f.entry.0) refl parts.0 parts.1 (r.1 g j is).1,
              )
            ],
          )

  pub turn_holds : (latest : List ℤ) (facts : List Fact) → StartInTurn p facts → StartFrom p latest facts → come_in_turn p latest facts ≡ true
  turn_holds latest [] s h = refl
  turn_holds latest (f ∷ facts) s h = by (is_event p f.ty.0) refl (turn_holds latest facts s.1) (turn_holds (slice_set latest f.entry.0 f.times.start) facts s.1)
    where
      by : (b : Bool) → is_event p f.ty.0 ≡ b → TurnHolds latest facts → TurnHolds (slice_set latest f.entry.0 f.times.start) facts → come_in_turn p latest (f ∷ facts) ≡ true
      by false plain holds holds_then = plain_turn p latest f facts plain ∙ holds (λ g i is. h g (inr i) is)
      by true event holds holds_then =
          let here = h f (inl refl) event in
          let long : length (slice_set latest f.entry.0 f.times.start) ≡ length latest = length-set latest f.entry.0 f.times.start in
          event_turn p latest f facts event here.0 here.1
          ∙ holds_then (λ g i is. (
            subst (λ n. g.entry.0 < n) (sym long) (h g (inr i) is).0,
            after_too latest f g (g.entry.0 == f.entry.0) refl here.0 (λ same. s.0 g i event is same) (h g (inr i) is).1,
          ))
