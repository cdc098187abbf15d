-- Two worlds that know the versions of a snapshot see its rows and candidates alike.
use Rattle.condition_rows.proofs.Common.{◌≡◌, ◌∙◌, sym, ap, refl, List, [], ◌∷◌, Bool, true, false, not, ◌||◌, Option, Some, None, list_any, is_some}
use Rattle.condition_rows.proofs.Common.{option_map, option_and_then, Fact, Named, Row, Pattern, Program, Snapshot, name_of, Look, versions_at, joins}
use Rattle.condition_rows.proofs.Common.{version_at, clean, cleaned, remembered, no_names, AlikeOn, StandsFor, LooksAlike, HasAllOf, NameHeld, held}
use Rattle.condition_rows.{proofs.Common.{is_candidate_given, and_parts, not-true, version_is}, specs.Sets.{candidates_of}}
use Rattle.join_memory.{proofs.Moving.{joins_alike}, specs.declared.memories.Memories.{Memories}}

none_of : (a b : Bool) → not (a || b) ≡ true → (a ≡ false) × (not b ≡ true)
none_of true b e = absurd (let n : false ≡ true = e in cc)
none_of false b e = (refl, e)

both_there : (o : Option Fact) (r : Option (List Fact)) → is_some (option_and_then (λ (f : Fact). option_map (λ facts. f ∷ facts) r) o) ≡ true → (f : Fact) × (o ≡ Some f) × (is_some r ≡ true)
both_there None r e = absurd (let n : false ≡ true = e in cc)
both_there (Some f) None e = absurd (let n : false ≡ true = e in cc)
both_there (Some f) (Some fs) e = (f, refl, refl)

-- ---- a snapshot
-- a snapshot knows its versions
pub held_known : (s : Snapshot) (forgotten : Named → Bool) → HasAllOf (held s) s forgotten
held_known s forgotten tag f e clean = e

-- who knows all versions knows those that are not forgotten
pub known_too : (world : Look) (s : Snapshot) (forgotten : Named → Bool) → HasAllOf world s no_names → HasAllOf world s forgotten
known_too world s forgotten known tag f e clean = known tag f e refl

pub clean_of_none : (names : List Named) → not (list_any no_names names) ≡ true
clean_of_none [] = refl
clean_of_none (n ∷ names) = clean_of_none names

given_there : (p : Program) (q : Pattern) (s : Snapshot) (o : Option Fact) → is_candidate_given p q s o ≡ true → (f : Fact) × (o ≡ Some f)
given_there p q s None e = absurd (let n : false ≡ true = e in cc)
given_there p q s (Some f) e = (f, refl)

-- a candidate is a version of the snapshot
candidate_there : (p : Program) (q : Pattern) (s : Snapshot) (who : Named) → candidates_of p q s who ≡ true → (f : Fact) × (version_at (held s) who ≡ Some f)
unfolding candidates_of
candidate_there p q s who e = given_there p q s (version_at (held s) who) e

-- ---- two worlds that know what is not forgotten
module _ (look other : Look) (s : Snapshot) (forgotten : Named → Bool) (known : HasAllOf look s forgotten) (known_other : HasAllOf other s forgotten) where
  fact_alike : (who : Named) (f : Fact) → version_at (held s) who ≡ Some f → forgotten who ≡ false → look who.tag ≡ other who.tag
  fact_alike who f is e =
      let version = version_is (held s) who f is in
      let kept : forgotten (name_of f) ≡ false = ap forgotten version.1 ∙ e in
      known who.tag f version.0 kept ∙ sym (known_other who.tag f version.0 kept)

  pub facts_alike : (names : List Named) → is_some (versions_at (held s) names) ≡ true → not (list_any forgotten names) ≡ true → AlikeOn look other names
  facts_alike [] is e = tt
  facts_alike (n ∷ names) is e =
      let there = both_there (version_at (held s) n) (versions_at (held s) names) is in
      let kept = none_of (forgotten n) (list_any forgotten names) e in
      (fact_alike n there.0 there.1 kept.0, facts_alike names there.2 kept.1)

  module _ (p : Program) (q : Pattern) where
    pub candidate_alike : (who : Named) → candidates_of p q s who ≡ true → forgotten who ≡ false → look who.tag ≡ other who.tag
    candidate_alike who is e = let there = candidate_there p q s who is in fact_alike who there.0 there.1 e

    pub remembered_alike : (who : Named) → remembered (candidates_of p q s) forgotten who ≡ true → look who.tag ≡ other who.tag
    remembered_alike who e = let is = and_parts (candidates_of p q s who) (not (forgotten who)) e in candidate_alike who is.0 (not-true (forgotten who) is.1)

    module _ (rows : Row → Bool) (named : NameHeld s rows) where
      pub row_alike : (row : Row) → cleaned rows forgotten row ≡ true → AlikeOn look other row.facts
      row_alike row e = let is = and_parts (rows row) (clean forgotten row) e in facts_alike row.facts (named row is.0) is.1

      pub joining_alike : (row : Row) (who : Named) → cleaned rows forgotten row ≡ true → remembered (candidates_of p q s) forgotten who ≡ true → joins q look row who ≡ joins q other row who
      joining_alike row who e f = joins_alike look other q row who (row_alike row e) (remembered_alike who f)

      -- memories that stand for the rows and candidates see what they keep alike
      pub looks_alike : {T : Type 0} (m : Memories T) → StandsFor m look rows (candidates_of p q s) forgotten → LooksAlike m look other
      looks_alike m stands = record {
        rows = λ row e. row_alike row (sym (stands.rows row) ∙ e);
        names = λ who e. remembered_alike who (sym (stands.names who) ∙ e);
      }
