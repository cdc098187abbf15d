-- Tallies of two sets that have no candidate in common.
use Rattle.counting_node.proofs.Common.{◌≡◌, ◌∙◌, sym, ap, refl, subst, int_lt, ℕ, ◌+◌, ◌-◌, ℤ, pos, arith, List, [], ◌∷◌, ◌++◌, map, length, Bool, true, false}
use Rattle.counting_node.proofs.Common.{cond, not, ◌&&◌, ◌||◌, fun_ext, eq_by_cmp, Held, insert_rising, in_rising_order, insert-insert, Extra, Named, name_cmp}
use Rattle.counting_node.proofs.Common.{name_equiv, Accumulate, Look, has_name, either, name_decides, AreDistinct, IsNumber, argument_of, Gathers, AreApart}
use Rattle.counting_node.proofs.Common.{IsBeyond, nothing_gathered, gathered_laden, arguments_gathered, counts_more, filter, length-append, length-map}
use Rattle.counting_node.proofs.{Common.{map-append, list_any-append, length-rising, and_left, or_from, or_left, or_right}, Gathering.{same_values}}
use Rattle.{std.proofs.lemmas.Map.Made.{is_member-filter}, fold_fn.proofs.Sorting.{sorted-rising, rising-sorted}}

or_none : (a b : Bool) → b ≡ false → a ≡ (a || b)
or_none true b e = refl
or_none false b e = sym e

pub has_both : (xs ys : List Named) (c : Named) → has_name (xs ++ ys) c ≡ (has_name xs c || has_name ys c)
has_both xs ys c = list_any-append (eq_by_cmp name_cmp c) xs ys

both_distinct : (xs ys : List Named) → AreDistinct xs → AreDistinct ys → ((c : Named) → has_name xs c ≡ true → has_name ys c ≡ false) → AreDistinct (xs ++ ys)
both_distinct [] ys dx dy apart = dy
both_distinct (x ∷ xs) ys dx dy apart = (
  has_both xs ys x ∙ or_from (has_name xs x) (has_name ys x) dx.0 (apart x (or_left (eq_by_cmp name_cmp x x) (has_name xs x) (name_equiv.refl x))),
  both_distinct xs ys dx.1 dy (λ c e. apart c (or_right (eq_by_cmp name_cmp c x) (has_name xs c) e)),
)

-- lists of the same candidates, each once, are as long
same_length : (xs ys : List Named) → AreDistinct xs → AreDistinct ys → ((c : Named) → has_name xs c ≡ has_name ys c) → length xs ≡ length ys
same_length xs ys dx dy same =
    let one = λ (c : Named). pos 0 in
    sym (length-map xs one) ∙ sym (length-rising (map one xs)) ∙ ap length (same_values one xs ys dx dy same) ∙ length-rising (map one ys) ∙ length-map ys one

-- ---- the candidates of a set beyond a part of them
abbrev pub beyond : (Named → Bool) → List Named → List Named
beyond set names = filter (λ (c : Named). not (set c)) names

left_over : (s o : Bool) → (s ≡ true → o ≡ false) → ((s || o) && not s) ≡ o
left_over true o h = sym (h refl)
left_over false true h = refl
left_over false false h = refl

module _ (set others : Named → Bool) (apart : AreApart set others) where
  has_beyond : (names : List Named) (c : Named) → has_name (beyond set names) c ≡ (has_name names c && not (set c))
  has_beyond names c = is_member-filter name_equiv (λ (x : Named). not (set x)) c (λ x e. ap (λ (y : Named). not (set y)) ((name_decides c x).0 e)) names

  beyond_distinct : (names : List Named) → AreDistinct names → AreDistinct (beyond set names)
  beyond_distinct [] d = tt
  beyond_distinct (x ∷ names) d = by (not (set x)) (beyond_distinct names d.1)
    where
      by : (b : Bool) → AreDistinct (beyond set names) → AreDistinct (cond b (x ∷ beyond set names) (beyond set names))
      by true rest = (has_beyond names x ∙ and_left (has_name names x) (not (set x)) d.0, rest)
      by false rest = rest

  module _ (names part : List Named) (distinct : AreDistinct names) (distinct_part : AreDistinct part) (all : (c : Named) → has_name names c ≡ either set others c) (all_part : (c : Named) → has_name part c ≡ set c) where
    pub beyond_others : (c : Named) → has_name (beyond set names) c ≡ others c
    beyond_others c = has_beyond names c ∙ ap (λ b. b && not (set c)) (all c) ∙ left_over (set c) (others c) (apart c)

    pub parted_distinct : AreDistinct (part ++ beyond set names)
    parted_distinct = both_distinct part (beyond set names) distinct_part (beyond_distinct names distinct) (λ c e. beyond_others c ∙ apart c (sym (all_part c) ∙ e))

    pub parted_same : (c : Named) → has_name names c ≡ has_name (part ++ beyond set names) c
    parted_same c = all c ∙ sym (has_both part (beyond set names) c ∙ ap (λ b. b || has_name (beyond set names) c) (all_part c) ∙ ap (λ b. set c || b) (beyond_others c))

    pub parted_length : length names ≡ length part + length (beyond set names)
    parted_length = same_length names (part ++ beyond set names) distinct parted_distinct parted_same ∙ length-append part (beyond set names)

pub number_beyond : (world : Look) (set others : Named → Bool) (n k : ℕ) → AreApart set others → IsNumber (either set others) n → IsNumber set k → IsBeyond nothing_gathered world others (n - k) []
number_beyond world set others n k apart is part = record {
  names = beyond set is.names;
  distinct = beyond_distinct set others apart is.names is.distinct;
  all = beyond_others set others apart is.names part.names is.distinct part.distinct is.all part.all;
  count =
      let l = parted_length set others apart is.names part.names is.distinct part.distinct is.all part.all in
      let e = is.count in let f = part.count in omega (arith, l, e, f);
  values = refl;
}

-- ---- values in rising order
pub rising_snoc : (v : ℤ) (xs : List ℤ) → insert_rising v (in_rising_order xs) ≡ in_rising_order (xs ++ v ∷ [])
rising_snoc v [] = refl
rising_snoc v (x ∷ xs) = insert-insert v x (in_rising_order xs) ∙ ap (insert_rising x) (rising_snoc v xs)

rising_front : (x : ℤ) (zs ws : List ℤ) → in_rising_order (insert_rising x zs ++ ws) ≡ insert_rising x (in_rising_order (zs ++ ws))
rising_front x [] ws = refl
rising_front x (z ∷ zs) ws = by (int_lt z x) (rising_front x zs ws)
  where
    by : (b : Bool) → in_rising_order (insert_rising x zs ++ ws) ≡ insert_rising x (in_rising_order (zs ++ ws))
        → in_rising_order (cond b (z ∷ insert_rising x zs) (x ∷ (z ∷ zs)) ++ ws) ≡ insert_rising x (insert_rising z (in_rising_order (zs ++ ws)))
    by true rest = ap (insert_rising z) rest ∙ insert-insert z x (in_rising_order (zs ++ ws))
    by false rest = refl

pub rising_of_front : (xs ws : List ℤ) → in_rising_order (in_rising_order xs ++ ws) ≡ in_rising_order (xs ++ ws)
rising_of_front [] ws = refl
rising_of_front (x ∷ xs) ws = rising_front x (in_rising_order xs) ws ∙ ap (insert_rising x) (rising_of_front xs ws)

rising_of_back : (xs ws : List ℤ) → in_rising_order (xs ++ in_rising_order ws) ≡ in_rising_order (xs ++ ws)
rising_of_back [] ws = rising-sorted (in_rising_order ws) (sorted-rising ws)
rising_of_back (x ∷ xs) ws = ap (insert_rising x) (rising_of_back xs ws)

module _ (a : Accumulate) (world : Look) (set others : Named → Bool) (apart : AreApart set others) (held part : Held) (is : Gathers a world (either set others) held) (is_part : Gathers a world set part) where
  pub values_parted : held.values ≡ in_rising_order (map (argument_of a world) is_part.names ++ map (argument_of a world) (beyond set is.names))
  values_parted =
      is.values
      ∙ same_values (argument_of a world) is.names (is_part.names ++ beyond set is.names) is.distinct
      (parted_distinct set others apart is.names is_part.names is.distinct is_part.distinct is.all is_part.all)
      (parted_same set others apart is.names is_part.names is.distinct is_part.distinct is.all is_part.all)
      ∙ ap in_rising_order (map-append (argument_of a world) is_part.names (beyond set is.names))

  pub gathers_beyond : (values : List ℤ) (n : ℕ) → ((xs ys : List ℤ) → held.values ≡ in_rising_order (xs ++ ys) → part.values ≡ in_rising_order xs → values ≡ in_rising_order ys) → n ≡ length values
      → IsBeyond (arguments_gathered a) world others n values
  gathers_beyond values n leaves counted =
      let left = leaves (map (argument_of a world) is_part.names) (map (argument_of a world) (beyond set is.names)) values_parted is_part.values in
      record {
        names = beyond set is.names;
        distinct = beyond_distinct set others apart is.names is.distinct;
        all = beyond_others set others apart is.names is_part.names is.distinct is_part.distinct is.all is_part.all;
        count = sym (counted ∙ ap length left ∙ length-rising (map (argument_of a world) (beyond set is.names)) ∙ length-map (beyond set is.names) (argument_of a world));
        values = left;
      }

-- ---- an extra makes up for the candidates that it tells of
pub nothing_more : {T : Type 0} (holds : T → Look → (Named → Bool) → Type 0) (t : T) (world : Look) (set others : Named → Bool) → holds t world set → ((c : Named) → others c ≡ false) → holds t world (either set others)
nothing_more holds t world set others h none = subst (holds t world) (fun_ext (λ c. or_none (set c) (others c) (none c))) h

pub number_laden : (n : ℕ) (world : Look) (set others : Named → Bool) (e : Extra) → counts_more n set e → AreApart set others → IsBeyond nothing_gathered world others e.count e.values → IsNumber (either set others) n
number_laden n world set others e more apart tells =
    let is = more.1 in
    record {
      names = is.names ++ tells.names;
      distinct = both_distinct is.names tells.names is.distinct tells.distinct (λ c h. tells.all c ∙ apart c (sym (is.all c) ∙ h));
      all = λ c. has_both is.names tells.names c ∙ ap (λ b. b || has_name tells.names c) (is.all c) ∙ ap (λ b. set c || b) (tells.all c);
      count =
          let l = length-append is.names tells.names in
          let k = is.count in let j = tells.count in let m = more.2 in omega (arith, l, k, j, m);
    }

pub gathers_laden : (a : Accumulate) (held : Held) (world : Look) (set others : Named → Bool) (e : Extra) → gathered_laden a held world set e → AreApart set others → IsBeyond (arguments_gathered a) world others e.count e.values → Gathers a world (either set others) held
gathers_laden a held world set others e is apart tells = record {
  names = is.names ++ tells.names;
  distinct = both_distinct is.names tells.names is.distinct tells.distinct (λ c h. tells.all c ∙ apart c (sym (is.all c) ∙ h));
  all = λ c. has_both is.names tells.names c ∙ ap (λ b. b || has_name tells.names c) (is.all c) ∙ ap (λ b. set c || b) (tells.all c);
  kind = is.kind;
  values =
      is.values
      ∙ ap (λ (values : List ℤ). in_rising_order (map (argument_of a world) is.names ++ values)) tells.values
      ∙ rising_of_back (map (argument_of a world) is.names) (map (argument_of a world) tells.names)
      ∙ ap in_rising_order (sym (map-append (argument_of a world) is.names tells.names));
}
