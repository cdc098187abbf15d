-- The facts that laden rows name are present, and so are those of an image that fits.
use Rattle.image_fitting.proofs.Common.{◌≡◌, ◌∙◌, ◌&&◌, ◌||◌, ◌==◌, not, ℕ, zero, suc, ◌<◌, ℤ, ◌-ℤ◌, get_or, Bool, true, false, List, [], ◌∷◌, length, inl, inr}
use Rattle.image_fitting.proofs.Common.{Option, Some, None, refl, sym, ap, subst, slice_get, none-some, slice_get_within, slice_get-get_or, In, Fact, Value}
use Rattle.image_fitting.proofs.Common.{Extra, Row, Image, Condition, Life, Plain, Explicit, Finite, Infinite, LifeTable, Program, Snapshot, is_event}
use Rattle.image_fitting.proofs.Common.{values_fit, IsLawful, AreSafe, world_of, IsNeeded, snapshot_of, laden_with, extra_at, is_within, is_inside}
use Rattle.image_fitting.proofs.Common.{is_candidate, fits, HaveDistinctTags, expiry_of, extra_values_of, laden_gives, laden_line}
use Rattle.{std.{proofs.lemmas.{Bool.{and_parts, or_right}, Map.Views.{tells_apart}}, specs.Option.{is_some}}, row_delta.specs.declared.row.Named.{Named}}
use Rattle.{row_delta.specs.RowOrder.{row_exact}, rule_model.specs.declared.condition.Condition.TheVariants.{Plain as plain_condition, Negated, Existing}}
use Rattle.rule_model.specs.{declared.{condition.{Condition.TheVariants.{Folded}, Pattern.{Pattern}}, program.TypeInfo.{TypeInfo}}, Candidates.{is_present}}
use Rattle.rule_model.{specs.{Tests.{tests_hold}, Tuples.{name_of, unbound}}, proofs.{Named.{of_filter}, Once.{one_fact}, Order.{passed}}}
use Rattle.{join_tests.specs.Joins.{joins}, join_memory.{specs.Joined.{joined}, proofs.{Joining.{joined_with, joined_from}, Valued.{valued_from}}}}
use Rattle.condition_rows.{specs.{Lines.{is_ripe, empty_row, is_empty_row}, Sets.{held, candidates_of, has_partner}}, proofs.Joined.{candidate_of}}
use Rattle.{kept_meaning.specs.Kept.{is_alive}, laden_rows.specs.Laden.{laden}, fx_base.proofs.Sequences.{In-append}}

-- ---- what laden rows name

module _ (p : Program) (s : Snapshot) (d : HaveDistinctTags s.facts) where
  -- what the rows name are facts that are present
  abbrev NamePresent : (Row → Bool) → Type 0
  NamePresent rows = (row : Row) → rows row ≡ true → (who : Named) → In who row.facts → (f : Fact) × In f s.facts × (name_of f ≡ who) × (is_present p s.clock f ≡ true)

  candidate_present : (q : Pattern) (who : Named) → candidates_of p q s who ≡ true → (f : Fact) × In f s.facts × (name_of f ≡ who) × (is_present p s.clock f ≡ true)
  candidate_present q who e =
      let f = candidate_of p s d q who e in
      let fitting = (and_parts (fits p q s.clock f.0) (is_inside p q q.window s.clock s.facts f.0) (passed (is_candidate p q s) f.0 s.facts f.1)).0 in
      (f.0, of_filter (is_candidate p q s) f.0 s.facts f.1, f.2, (and_parts (is_present p s.clock f.0) (f.0.ty.0 == q.ty.0 && (f.0.entry.0 == q.entry.0 && tests_hold unbound f.0 q.alone)) fitting).0)

  line_present : (beyond : Row → Option Extra) (c : Condition) (left : Row → Bool) → NamePresent left → NamePresent (laden_line p s beyond c left)
  line_present beyond (plain_condition q) left h row e who i =
      let r = joined_from (joins q (held s)) left (candidates_of p q s) row e in
      let holds = sym (joined_with (joins q (held s)) left (candidates_of p q s) r.0 r.1) ∙ ap (joined (joins q (held s)) left (candidates_of p q s)) (sym r.2) ∙ e in
      let a = and_parts (left r.0) (candidates_of p q s r.1 && joins q (held s) r.0 r.1) holds in
      let b = and_parts (candidates_of p q s r.1) (joins q (held s) r.0 r.1) a.1 in
      elim (In-append who r.0.facts (r.1 ∷ []) (subst (λ (z : Row). In who z.facts) r.2 i)) [
        | inl j ↦ h r.0 a.0 who j
        | inr (inl same) ↦ candidate_present q who (ap (candidates_of p q s) same ∙ b.0)
        | inr (inr j) ↦ absurd j
      ]
  line_present beyond (Negated q) left h row e who i = h row (and_parts (left row) (not (has_partner p q s row || is_some (beyond row)) && is_ripe p q s row) e).0 who i
  line_present beyond (Existing q) left h row e who i = h row (and_parts (left row) (has_partner p q s row || is_some (beyond row)) e).0 who i
  line_present beyond (Folded a) left h row e who i =
      let r = valued_from (λ without v. left without && laden_gives p a s (extra_values_of (beyond without)) without v) row e in
      h r.0 (and_parts (left r.0) (laden_gives p a s (extra_values_of (beyond r.0)) r.0 r.1) r.3).0 who (subst (λ (z : Row). In who z.facts) r.2 i)

  empty_present : NamePresent is_empty_row
  empty_present row e who i = absurd (subst (λ (z : Row). In who z.facts) (tells_apart row_exact row empty_row e) i)

  laden_present : (extras : List Extra) (owner : ℕ → ℕ) (conditions : List Condition) (n : ℕ) → NamePresent (laden p s extras owner conditions n)
  unfolding laden
  laden_present extras owner conditions zero = empty_present
  laden_present extras owner conditions (suc n) = by (slice_get conditions n) (laden p s extras owner conditions n) (laden_present extras owner conditions n)
    where
      by : (o : Option Condition) (left : Row → Bool) → NamePresent left → NamePresent (laden_with p s (extra_at extras (owner n) n) o left)
      by None left h = h
      by (Some c) left h = line_present (extra_at extras (owner n) n) c left h

-- ---- facts that are present by their type

plain_present : (p : Program) (clock : ℤ) (f : Fact) → is_event p f.ty.0 ≡ false → is_present p clock f ≡ true
unfolding is_present
plain_present p clock f e = ap (λ b. not b || is_within (expiry_of p f.ty.0) (clock -ℤ f.times.start)) e

unexpired_present : (p : Program) (clock : ℤ) (f : Fact) → expiry_of p f.ty.0 ≡ None → is_present p clock f ≡ true
unfolding is_present
unexpired_present p clock f e = or_right (not (is_event p f.ty.0)) (is_within (expiry_of p f.ty.0) (clock -ℤ f.times.start)) (ap (λ o. is_within o (clock -ℤ f.times.start)) e)

-- a fact whose values fit has a type
typed : (types : List TypeInfo) (ty : ℕ) (values : List Value) (o : Option TypeInfo) → slice_get types ty ≡ o → values_fit o values ≡ true → ty < length types
typed types ty values None at e = absurd (let n : false ≡ true = e in cc)
typed types ty values (Some info) at e = slice_get_within types ty info at

-- ---- the facts of an image

module _ (p : Program) (table : LifeTable) (image : Image) (owners : ℕ → ℕ → ℕ) (safe : AreSafe p table) (l : IsLawful p (world_of image))
    (needed : (f : Fact) → In f image.facts → IsNeeded p table image owners f) where
  -- one that its life does not keep is named by a laden row
  named_present : (f : Fact) → In f image.facts → is_alive p (slice_get table.lives f.ty.0) image.clock f ≡ false → is_present p image.clock f ≡ true
  named_present f i dead =
      let r = needed f i dead in
      let g = laden_present p (snapshot_of image) l.ordered.tags image.extras (owners r.0.rule.0) r.1.0.conditions (length r.1.0.conditions) r.0.row r.1.2 (name_of f) r.3 in
      let same : g.0 ≡ f = one_fact image.facts l.ordered.tags g.0 f g.1 i (ap (λ (n : Named). n.tag) g.2) in
      ap (is_present p image.clock) (sym same) ∙ g.3

  pub facts_present : (f : Fact) → In f image.facts → is_present p image.clock f ≡ true
  facts_present f i = by (slice_get table.lives f.ty.0) refl
    where
      either : (b : Bool) → (b ≡ false → b ≡ true) → b ≡ true
      either true h = refl
      either false h = h refl

      by : (o : Option Life) → slice_get table.lives f.ty.0 ≡ o → is_present p image.clock f ≡ true
      by None at =
          let fitting = (and_parts (values_fit (slice_get p.types f.ty.0) f.fields) _ (l.sound f i).fits).0 in
          let type_there : f.ty.0 < length p.types = typed p.types f.ty.0 f.fields (slice_get p.types f.ty.0) refl fitting in
          let life_there : f.ty.0 < length table.lives = subst (λ n. f.ty.0 < n) (sym safe.as_many) type_there in
          absurd (none-some (get_or table.lives f.ty.0 Plain) (sym at ∙ slice_get-get_or table.lives f.ty.0 Plain life_there))
      by (Some Plain) at = plain_present p image.clock f (safe.each f.ty.0 Plain at)
      by (Some (Explicit expiry)) at = either (is_present p image.clock f) (λ gone. named_present f i (ap (λ o. is_alive p o image.clock f) at ∙ gone))
      by (Some (Finite n)) at = unexpired_present p image.clock f (safe.each f.ty.0 (Finite n) at).1.unexpired
      by (Some Infinite) at = unexpired_present p image.clock f (safe.each f.ty.0 Infinite at).1
