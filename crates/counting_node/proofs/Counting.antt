-- One candidate more, and one less.
use Rattle.counting_node.proofs.Common.{◌≡◌, ◌∙◌, sym, ap, refl, ℕ, ◌+◌, ◌-◌, ◌≢◌, length, arith, List, [], ◌∷◌, Bool, true, false, cond, not, ◌&&◌, ◌||◌}
use Rattle.counting_node.proofs.Common.{eq_by_cmp, Named, name_cmp, name_equiv, has_name, name_decides, with_one, less_one, AreDistinct, IsNumber, and_left}
use Rattle.counting_node.proofs.Common.{or_comm}

pub number_more : (set : Named → Bool) (n : ℕ) (who : Named) → IsNumber set n → set who ≡ false → IsNumber (with_one set who) (n + 1)
number_more set n who is absent = record {
  names = who ∷ is.names;
  distinct = (is.all who ∙ absent, is.distinct);
  all = λ c. ap (λ b. b || has_name is.names c) (name_equiv.symm c who) ∙ ap (λ b. eq_by_cmp name_cmp who c || b) (is.all c) ∙ or_comm (eq_by_cmp name_cmp who c) (set c);
  count = let e = is.count in omega arith;
}

abbrev pub dropped : Named → List Named → List Named
dropped who [] = []
dropped who (x ∷ xs) = cond (eq_by_cmp name_cmp who x) xs (x ∷ dropped who xs)

-- kernels: e that this is the one taken, b that the head is, h that the head is the one asked for, r the rest
at_head : (h r e : Bool) → h ≡ e → (e ≡ true → r ≡ false) → r ≡ ((h || r) && not e)
at_head true true true is k = let f : true ≡ false = k refl in cc
at_head true false true is k = refl
at_head true r false is k = cc
at_head false r true is k = cc
at_head false true false is k = refl
at_head false false false is k = refl

behind_head : (h r e d : Bool) → (h ≡ true → e ≡ false) → d ≡ (r && not e) → (h || d) ≡ ((h || r) && not e)
behind_head true r e d k is = ap not (sym (k refl))
behind_head false r e d k is = is

pub has_dropped : (who : Named) (xs : List Named) → AreDistinct xs → (c : Named) → has_name (dropped who xs) c ≡ (has_name xs c && not (eq_by_cmp name_cmp who c))
has_dropped who [] distinct c = refl
has_dropped who (x ∷ xs) distinct c = by (has_dropped who xs distinct.1 c) (eq_by_cmp name_cmp who x) refl
  where
    by : has_name (dropped who xs) c ≡ (has_name xs c && not (eq_by_cmp name_cmp who c)) → (b : Bool) → eq_by_cmp name_cmp who x ≡ b → has_name (cond b xs (x ∷ dropped who xs)) c ≡ ((eq_by_cmp name_cmp c x || has_name xs c) && not (eq_by_cmp name_cmp who c))
    by rest true e =
        let same = (name_decides who x).0 e in
        at_head (eq_by_cmp name_cmp c x) (has_name xs c) (eq_by_cmp name_cmp who c) (name_equiv.symm c x ∙ ap (λ (y : Named). eq_by_cmp name_cmp y c) (sym same))
        (λ f. ap (has_name xs) (sym ((name_decides who c).0 f) ∙ same) ∙ distinct.0)
    by rest false e = behind_head (eq_by_cmp name_cmp c x) (has_name xs c) (eq_by_cmp name_cmp who c) (has_name (dropped who xs) c) (λ f. ap (eq_by_cmp name_cmp who) ((name_decides c x).0 f) ∙ e) rest

pub dropped_distinct : (who : Named) (xs : List Named) → AreDistinct xs → AreDistinct (dropped who xs)
dropped_distinct who [] distinct = tt
dropped_distinct who (x ∷ xs) distinct = by (dropped_distinct who xs distinct.1) (eq_by_cmp name_cmp who x)
  where
    by : AreDistinct (dropped who xs) → (b : Bool) → AreDistinct (cond b xs (x ∷ dropped who xs))
    by rest true = distinct.1
    by rest false = (has_dropped who xs distinct.1 x ∙ and_left (has_name xs x) (not (eq_by_cmp name_cmp who x)) distinct.0, rest)

dropped_length : (who : Named) (xs : List Named) → has_name xs who ≡ true → length xs ≡ length (dropped who xs) + 1
dropped_length who [] e = let f : false ≡ true = e in cc
dropped_length who (x ∷ xs) e = by (dropped_length who xs) (eq_by_cmp name_cmp who x) e
  where
    by : (has_name xs who ≡ true → length xs ≡ length (dropped who xs) + 1) → (b : Bool) → (b || has_name xs who) ≡ true → length (x ∷ xs) ≡ length (cond b xs (x ∷ dropped who xs)) + 1
    by rest true h = omega arith
    by rest false h = let k = rest h in omega arith

pub number_less : (set : Named → Bool) (n : ℕ) (who : Named) → IsNumber set n → set who ≡ true → IsNumber (less_one set who) (n - 1)
number_less set n who is present = record {
  names = dropped who is.names;
  distinct = dropped_distinct who is.names is.distinct;
  all = λ c. has_dropped who is.names is.distinct c ∙ ap (λ b. b && not (eq_by_cmp name_cmp who c)) (is.all c);
  count = let e = is.count in let k = dropped_length who is.names (is.all who ∙ present) in omega arith;
}

-- a set of none has nobody, and another has somebody
pub nobody : (set : Named → Bool) → IsNumber set 0 → (c : Named) → set c ≡ false
nobody set is c = sym (is.all c) ∙ by is.names is.count
  where
    by : (names : List Named) → length names ≡ 0 → has_name names c ≡ false
    by [] e = refl
    by (x ∷ xs) e = absurd (omega arith)

pub somebody : (set : Named → Bool) (n : ℕ) → IsNumber set n → n ≢ 0 → (c : Named) × (set c ≡ true)
somebody set n is some = by is.names is.count is.all
  where
    by : (names : List Named) → length names ≡ n → ((who : Named) → has_name names who ≡ set who) → (c : Named) × (set c ≡ true)
    by [] e all = absurd (some (sym e))
    by (x ∷ xs) e all = (x, sym (all x) ∙ ap (λ b. b || has_name xs x) (name_equiv.refl x))
