-- Rows of kept facts, with what conditions count beyond them, name kept facts alone.
use Rattle.laden_rows.proofs.Common.{◌≡◌, ◌∙◌, ◌&&◌, ◌||◌, not, sym, ap, refl, subst, ℕ, zero, suc, Bool, true, false, List, [], ◌∷◌, ◌++◌, slice_get, Option}
use Rattle.laden_rows.proofs.Common.{Some, None, is_some, option_map, option_and_then, Fact, Extra, Named, Row, Plain, Negated, Existing, Folded, Pattern}
use Rattle.laden_rows.proofs.Common.{Program, Snapshot, Look, joins, version_at, versions_at, empty_row, is_ripe, NameHeld, held, has_partner}
use Rattle.laden_rows.proofs.Common.{is_candidate_given, extra_at, laden_gives, laden_line, laden_with, extra_values_of, and_parts, tells_apart, row_exact}
use Rattle.{laden_rows.{proofs.Common.{Condition, joined}, specs.Laden.{laden}}, condition_rows.specs.Sets.{candidates_of}}
use Rattle.join_memory.proofs.{Joining.{joined_from, joined_with}, Valued.{valued_from}}

there_more : (o : Option Fact) (r s : Option (List Fact)) → (is_some r ≡ true → is_some s ≡ true)
    → is_some (option_and_then (λ (f : Fact). option_map (λ facts. f ∷ facts) r) o) ≡ true → is_some (option_and_then (λ (f : Fact). option_map (λ facts. f ∷ facts) s) o) ≡ true
there_more None r s h e = e
there_more (Some f) None s h e = absurd (let no : false ≡ true = e in cc)
there_more (Some f) (Some fs) None h e = h refl
there_more (Some f) (Some fs) (Some gs) h e = refl

-- with one version more all are there
named_more : (look : Look) (names : List Named) (who : Named) (f : Fact) → version_at look who ≡ Some f → is_some (versions_at look names) ≡ true → is_some (versions_at look (names ++ who ∷ [])) ≡ true
named_more look [] who f is e = ap (λ (o : Option Fact). is_some (option_and_then (λ (g : Fact). option_map (λ facts. g ∷ facts) (versions_at look [])) o)) is
named_more look (n ∷ names) who f is e = there_more (version_at look n) (versions_at look names) (versions_at look (names ++ who ∷ [])) (named_more look names who f is) e

given_there : (p : Program) (q : Pattern) (s : Snapshot) (o : Option Fact) → is_candidate_given p q s o ≡ true → (f : Fact) × (o ≡ Some f)
given_there p q s None e = absurd (let no : false ≡ true = e in cc)
given_there p q s (Some f) e = (f, refl)

candidate_there : (p : Program) (q : Pattern) (s : Snapshot) (who : Named) → candidates_of p q s who ≡ true → (f : Fact) × (version_at (held s) who ≡ Some f)
unfolding candidates_of
candidate_there p q s who e = given_there p q s (version_at (held s) who) e

module _ (p : Program) (t : Snapshot) where
  pub line_named : (beyond : Row → Option Extra) (c : Condition) (left : Row → Bool) → NameHeld t left → NameHeld t (laden_line p t beyond c left)
  line_named beyond (Plain q) left named row e =
      let made = joined_from (joins q (held t)) left (candidates_of p q t) row e in
      let there : (left made.0 && (candidates_of p q t made.1 && joins q (held t) made.0 made.1)) ≡ true =
      sym (joined_with (joins q (held t)) left (candidates_of p q t) made.0 made.1) ∙ ap (joined (joins q (held t)) left (candidates_of p q t)) (sym made.2) ∙ e in
      let parts = and_parts (left made.0) (candidates_of p q t made.1 && joins q (held t) made.0 made.1) there in
      let f = candidate_there p q t made.1 (and_parts (candidates_of p q t made.1) (joins q (held t) made.0 made.1) parts.1).0 in
      subst (λ (r : Row). is_some (versions_at (held t) r.facts) ≡ true) (sym made.2) (named_more (held t) made.0.facts made.1 f.0 f.1 (named made.0 parts.0))
  line_named beyond (Negated q) left named row e = named row (and_parts (left row) (not (has_partner p q t row || is_some (beyond row)) && is_ripe p q t row) e).0
  line_named beyond (Existing q) left named row e = named row (and_parts (left row) (has_partner p q t row || is_some (beyond row)) e).0
  line_named beyond (Folded a) left named row e =
      let made = valued_from (λ without v. left without && laden_gives p a t (extra_values_of (beyond without)) without v) row e in
      subst (λ (r : Row). is_some (versions_at (held t) r.facts) ≡ true) (sym made.2) (named made.0 (and_parts (left made.0) (laden_gives p a t (extra_values_of (beyond made.0)) made.0 made.1) made.3).0)

  with_named : (beyond : Row → Option Extra) (o : Option Condition) (left : Row → Bool) → NameHeld t left → NameHeld t (laden_with p t beyond o left)
  with_named beyond None left named = named
  with_named beyond (Some c) left named = line_named beyond c left named

  pub laden_named : (extras : List Extra) (owner : ℕ → ℕ) (conditions : List Condition) (n : ℕ) → NameHeld t (laden p t extras owner conditions n)
  unfolding laden
  laden_named extras owner conditions zero = λ row e. ap (λ (r : Row). is_some (versions_at (held t) r.facts)) (tells_apart row_exact row empty_row e)
  laden_named extras owner conditions (suc n) = with_named (extra_at extras (owner n) n) (slice_get conditions n) (laden p t extras owner conditions n) (laden_named extras owner conditions n)
