-- Tallies in two worlds that know the versions of a snapshot.
use Rattle.beta_node.proofs.Common.{◌≡◌, ◌∙◌, sym, ap, refl, subst, map, List, [], ◌∷◌, Bool, true, false, ◌||◌, fun_ext, is_some, eq_by_cmp, Held}
use Rattle.beta_node.proofs.Common.{in_rising_order, Named, Row, name_cmp, name_equiv, Accumulate, Pattern, Program, Snapshot, Look, joins, Memories, has_name}
use Rattle.beta_node.proofs.Common.{clean, no_names, either, remembered, Witnesses, counts_blockers, counts_witnesses, argument_given, argument_of, gathers}
use Rattle.beta_node.proofs.Common.{all_passing, StandsCounted, HasAllOf, NameHeld, candidates_of, joins_alike, and_parts, Blockers, and_where, candidate_alike}
use Rattle.beta_node.proofs.Common.{clean_of_none, facts_alike, remembered_alike, SeeAlike}

of_either : {X : Type 0} (a b : Bool) → (a ≡ true → X) → (b ≡ true → X) → (a || b) ≡ true → X
of_either true b f g e = f refl
of_either false b f g e = g e

-- candidates of two snapshots of which a world knows what is not forgotten
pub seen_alike : (p : Program) (q : Pattern) (look world : Look) (s next : Snapshot) (forgotten : Named → Bool)
    → HasAllOf look s forgotten → HasAllOf look next forgotten → HasAllOf world s forgotten → HasAllOf world next forgotten
    → SeeAlike (either (remembered (candidates_of p q s) forgotten) (remembered (candidates_of p q next) forgotten)) look world
seen_alike p q look world s next forgotten known known_now world_known world_known_now c e =
    of_either (remembered (candidates_of p q s) forgotten c) (remembered (candidates_of p q next) forgotten c)
    (remembered_alike world look s forgotten world_known known p q c) (remembered_alike world look next forgotten world_known_now known_now p q c) e

-- a tally of a set of candidates asks nothing of a world but what it knows of these
abbrev pub AsksOfSet : (T : Type 0) → (T → Look → (Named → Bool) → Type 0) → Type 0
AsksOfSet T holds = (t : T) (world other : Look) (set : Named → Bool) → ((c : Named) → set c ≡ true → world c.tag ≡ other c.tag) → holds t world set → holds t other set

pub blockers_ask : AsksOfSet Blockers counts_blockers
blockers_ask t world other set alike is = is

pub witnesses_ask : AsksOfSet Witnesses counts_witnesses
witnesses_ask t world other set alike is = is

arguments_alike : (a : Accumulate) (world other : Look) (names : List Named) → ((c : Named) → has_name names c ≡ true → world c.tag ≡ other c.tag) → map (argument_of a world) names ≡ map (argument_of a other) names
arguments_alike a world other [] alike = refl
arguments_alike a world other (n ∷ names) alike =
    ap (λ o. argument_given a.arg o ∷ map (argument_of a world) names) (alike n (ap (λ b. b || has_name names n) (name_equiv.refl n)))
    ∙ ap (λ rest. argument_of a other n ∷ rest) (arguments_alike a world other names (λ c e. alike c (or_later (eq_by_cmp name_cmp c n) (has_name names c) e)))
  where
    or_later : (a b : Bool) → b ≡ true → (a || b) ≡ true
    or_later true b e = refl
    or_later false b e = e

pub gathers_ask : (a : Accumulate) → AsksOfSet Held (gathers a)
gathers_ask a t world other set alike is = record {
  names = is.names;
  distinct = is.distinct;
  all = is.all;
  kind = is.kind;
  values = is.values ∙ ap in_rising_order (arguments_alike a world other is.names (λ c e. alike c (sym (is.all c) ∙ e)));
}

-- In another world that knows all of the snapshot too a node stands for the same.
pub counted_alike : {T : Type 0} (holds : T → Look → (Named → Bool) → Type 0) → AsksOfSet T holds → (p : Program) (q : Pattern) (m : Memories T) (look world other : Look) (s : Snapshot) (rows : Row → Bool) (forgotten : Named → Bool)
    → HasAllOf world s no_names → HasAllOf other s no_names → NameHeld s rows
    → StandsCounted holds m look world (joins q world) rows (candidates_of p q s) forgotten → StandsCounted holds m look other (joins q other) rows (candidates_of p q s) forgotten
counted_alike {T} holds asks p q m look world other s rows forgotten known known_other named was = record {
  stands = was.stands;
  counts = λ row t is.
      let there = (and_parts (rows row) (clean forgotten row) (sym (was.stands.rows row) ∙ ap is_some is)).0 in
      asks t world other (all_passing (joins q other) (candidates_of p q s) row) (λ c e. candidate_alike world other s no_names known known_other p q c (and_parts (candidates_of p q s c) (joins q other row c) e).0 refl)
      (subst (holds t world) (fun_ext (λ c. and_where (candidates_of p q s c) (joins q world row c) (joins q other row c) (same row c there))) (was.counts row t is));
}
  where
    same : (row : Row) (c : Named) → rows row ≡ true → candidates_of p q s c ≡ true → joins q world row c ≡ joins q other row c
    same row c there e = joins_alike world other q row c (facts_alike world other s no_names known known_other row.facts (named row there) (clean_of_none row.facts)) (candidate_alike world other s no_names known known_other p q c e refl)
