-- Sources of nodes that are put, one behind another, and sources that are loaded.
use Rattle.candidate_source.proofs.Common.{◌∙◌, ap, sym, refl, subst, ◌≡◌, ℕ, ◌+◌, ◌<◌, List, [], ◌∷◌, ◌++◌, length, Option, Some, None, Source, Look, is_under}
use Rattle.candidate_source.specs.{declared.sources.Sources.{Sources}, Doors.{listed_source, node_count}, Reached.{IsUnreached}, Sources.{facts_of_type}}
use Rattle.candidate_source.specs.Sources.{given_place, in_list, source_at, source_place, AreApart, AreLaidAs, AreLoadedWith, IsLoadedWith}
use Rattle.{candidate_source.proofs.Moving.{place_alike}, std.proofs.Common.{Bor, ℤ, slice_get, arith, zero, suc, ◌⊎◌, inl, inr, length-append}}
use Rattle.{std.{proofs.lemmas.Option.{slice_get_within}, specs.{Prelude.{IfSome}, Global.{Vec}}}, fx_base.specs.declared.fact.Fact.{Fact}}
use Rattle.fx_base.proofs.Sequences.{get-append_left, get-below, get-last, get-none, one_value}

-- what stands in a list with one item more
get_more : {A : Type 0} (xs : List A) (x y : A) (k : ℕ) → slice_get (xs ++ x ∷ []) k ≡ Some y → (slice_get xs k ≡ Some y) ⊎ ((k ≡ length xs) × (x ≡ y))
get_more [] x y zero e = let same : x ≡ y = cc in inr (refl, same)
get_more [] x y (suc k) e = absurd (let no : None ≡ Some y = e in cc)
get_more (z ∷ xs) x y zero e = inl e
get_more (z ∷ xs) x y (suc k) e = elim (get_more xs x y k e) [
  | inl there ↦ inl there
  | inr last ↦ inr (ap suc last.0, last.1)
]

given_some : (o : Option (Option ℕ)) (at : ℕ) → given_place o ≡ Some at → o ≡ Some (Some at)
given_some None at e = absurd (let no : None ≡ Some at = e in cc)
given_some (Some o) at e = ap Some e

module _ (old new : Sources) (source : Option ℕ) (of : new.of.items ≡ old.of.items ++ source ∷ []) where
  place_kept : (k at : ℕ) → source_place old k ≡ Some at → source_place new k ≡ Some at
  place_kept k at e = ap (λ (of : List (Option ℕ)). given_place (slice_get of k)) of ∙ ap given_place (get-append_left old.of.items (source ∷ []) k (Some at) (given_some (slice_get old.of.items k) at e))

  place_more : (k at : ℕ) → source_place new k ≡ Some at → (source_place old k ≡ Some at) ⊎ ((k ≡ length old.of.items) × (source ≡ Some at))
  place_more k at e = elim (get_more old.of.items source (Some at) k (given_some _ at (ap (λ (of : List (Option ℕ)). given_place (slice_get of k)) (sym of) ∙ e))) [
    | inl there ↦ inl (ap given_place there)
    | inr last ↦ inr last
  ]

  -- a node that is put leaves the sources apart
  pub node_put : new.list.items ≡ old.list.items → new.leads.items ≡ old.leads.items → IfSome source (λ at. at < length old.list.items) → AreApart old → AreApart new
  node_put list leads there apart = record {
    many = ap length leads ∙ apart.many ∙ sym (ap length list);
    there = λ k at e. elim (place_more k at e) [
      | inl was ↦ let one = apart.there k at was in (one.0, ap (λ (xs : List Source). slice_get xs at) list ∙ one.1)
      | inr last ↦ let one = get-below old.list.items at (subst (λ (o : Option ℕ). IfSome o (λ at. at < length old.list.items)) last.1 there) in (one.0, ap (λ (xs : List Source). slice_get xs at) list ∙ one.1)
    ];
    led = λ at s e.
        let one = apart.led at s (ap (λ (xs : List Source). slice_get xs at) (sym list) ∙ e) in
        (one.0, ap (λ (xs : List ℕ). slice_get xs at) leads ∙ one.1, place_kept one.0 at one.2);
    apart = λ k at s e other. apart.apart k at s (ap (λ (xs : List Source). slice_get xs at) (sym list) ∙ e) (λ was. other (place_kept k at was));
  }

  -- so does the first one of a new source, in which none is found
  pub lead_put : (made : Source) → ((k : ℕ) → IsUnreached made.reached k) → source ≡ Some (length old.list.items) → new.list.items ≡ old.list.items ++ made ∷ [] → new.leads.items ≡ old.leads.items ++ length old.of.items ∷ []
      → AreApart old → AreApart new
  lead_put made none is list leads apart = record {
    many = ap length leads ∙ length-append old.leads.items (length old.of.items ∷ []) ∙ ap (λ n. n + 1) apart.many ∙ sym (length-append old.list.items (made ∷ [])) ∙ sym (ap length list);
    there = λ k at e. elim (place_more k at e) [
      | inl was ↦ let one = apart.there k at was in (one.0, ap (λ (xs : List Source). slice_get xs at) list ∙ get-append_left old.list.items (made ∷ []) at one.0 one.1)
      | inr last ↦
          let same : length old.list.items ≡ at = some_same (sym is ∙ last.1) in
          (made, ap (λ (xs : List Source). slice_get xs at) list ∙ subst (λ (n : ℕ). slice_get (old.list.items ++ made ∷ []) n ≡ Some made) same (get-last old.list.items made))
    ];
    led = λ at s e. elim (get_more old.list.items made s at (ap (λ (xs : List Source). slice_get xs at) (sym list) ∙ e)) [
      | inl was ↦
          let one = apart.led at s was in
          (one.0, ap (λ (xs : List ℕ). slice_get xs at) leads ∙ get-append_left old.leads.items (length old.of.items ∷ []) at one.0 one.1, place_kept one.0 at one.2)
      | inr last ↦ (
        length old.of.items,
        ap (λ (xs : List ℕ). slice_get xs at) leads ∙ subst (λ (n : ℕ). slice_get (old.leads.items ++ length old.of.items ∷ []) n ≡ Some (length old.of.items)) (apart.many ∙ sym last.0) (get-last old.leads.items (length old.of.items)),
        ap (λ (of : List (Option ℕ)). given_place (slice_get of (length old.of.items))) of ∙ ap given_place (get-last old.of.items source) ∙ is ∙ ap Some (sym last.0),
      )
    ];
    apart = λ k at s e other. elim (get_more old.list.items made s at (ap (λ (xs : List Source). slice_get xs at) (sym list) ∙ e)) [
      | inl was ↦ apart.apart k at s was (λ there. other (place_kept k at there))
      | inr last ↦ λ value. ap (λ (s : Source). is_under s.reached value k) (sym last.1) ∙ none k value
    ];
  }
    where
      some_same : {x y : ℕ} → Some x ≡ Some y → x ≡ y
      some_same e = cc

-- a node that is of the source in a place of the list
pub of_listed : (sources : Sources) (at k : ℕ) (s : Source) → source_place sources k ≡ Some at → listed_source sources at ≡ Some s → source_at sources k ≡ Some s
of_listed sources at k s of there = ap (in_list sources.list.items) of ∙ there

module _ (old new : Sources) (source : Option ℕ) (of : new.of.items ≡ old.of.items ++ source ∷ []) where
  pub one_more : node_count new ≡ node_count old + 1
  one_more = ap length of ∙ length-append old.of.items (source ∷ [])

  -- of which sources the nodes are, where a node is put
  pub put_at : new.list.items ≡ old.list.items → (k : ℕ) (s : Source) → source_at new k ≡ Some s → (source_at old k ≡ Some s) ⊎ ((k ≡ node_count old) × (in_list old.list.items source ≡ Some s))
  put_at list k s e = by (source_place new k) refl (ap (λ (xs : List Source). in_list xs (source_place new k)) (sym list) ∙ e)
    where
      by : (o : Option ℕ) → source_place new k ≡ o → in_list old.list.items o ≡ Some s → (source_at old k ≡ Some s) ⊎ ((k ≡ node_count old) × (in_list old.list.items source ≡ Some s))
      by None is e = absurd (let no : None ≡ Some s = e in cc)
      by (Some at) is e = elim (place_more old new source of k at is) [
        | inl was ↦ inl (ap (in_list old.list.items) was ∙ e)
        | inr last ↦ inr (last.0, ap (in_list old.list.items) last.1 ∙ e)
      ]

  -- and where it is the first one of a new source
  pub lead_at : (made : Source) → source ≡ Some (length old.list.items) → new.list.items ≡ old.list.items ++ made ∷ [] → AreApart old → (k : ℕ) (s : Source) → source_at new k ≡ Some s
      → (source_at old k ≡ Some s) ⊎ ((k ≡ node_count old) × (made ≡ s))
  lead_at made here list apart k s e = by (source_place new k) refl (ap (λ (xs : List Source). in_list xs (source_place new k)) (sym list) ∙ e)
    where
      by : (o : Option ℕ) → source_place new k ≡ o → in_list (old.list.items ++ made ∷ []) o ≡ Some s → (source_at old k ≡ Some s) ⊎ ((k ≡ node_count old) × (made ≡ s))
      by None is e = absurd (let no : None ≡ Some s = e in cc)
      by (Some at) is e = elim (place_more old new source of k at is) [
        | inl was ↦
            let one = apart.there k at was in
            let same : one.0 ≡ s = one_value (slice_get (old.list.items ++ made ∷ []) at) one.0 s (get-append_left old.list.items (made ∷ []) at one.0 one.1) e in
            inl (ap (in_list old.list.items) was ∙ one.1 ∙ ap Some same)
        | inr last ↦
            let at_end : Some (length old.list.items) ≡ Some at = sym here ∙ last.1 in
            let same : length old.list.items ≡ at = cc in
            inr (last.0, one_value (slice_get (old.list.items ++ made ∷ []) at) made s (subst (λ (n : ℕ). slice_get (old.list.items ++ made ∷ []) n ≡ Some made) same (get-last old.list.items made)) e)
      ]

-- sources in which no node is found are apart
pub unreached_apart : (a b : Sources) → AreLaidAs a b → ((at : ℕ) (s : Source) → slice_get b.list.items at ≡ Some s → (k : ℕ) → IsUnreached s.reached k) → AreApart a → AreApart b
unreached_apart a b laid none apart = record {
  many = ap (λ (leads : Vec ℕ). length leads.items) laid.leads ∙ apart.many ∙ sym laid.many;
  there = λ k at e.
      let was = apart.there k at (sym (place_alike a b laid k) ∙ e) in
      let within : at < length a.list.items = slice_get_within a.list.items at was.0 was.1 in
      let many = laid.many in
      get-below b.list.items at (omega (arith, within, many));
  led = λ at s e.
      let within : at < length b.list.items = slice_get_within b.list.items at s e in
      let many = laid.many in
      let was = get-below a.list.items at (omega (arith, within, many)) in
      let lead = apart.led at was.0 was.1 in
      (lead.0, ap (λ (leads : Vec ℕ). slice_get leads.items at) laid.leads ∙ lead.1, place_alike a b laid lead.0 ∙ lead.2);
  apart = λ k at s e other. none at s e k;
}

-- ---- sources that are loaded, one behind another

-- each of these is the one in its place of others, loaded
abbrev pub AreAllLoaded : List (Vec (Bor Fact)) → ℤ → Look → List Source → List Source → Type 0
AreAllLoaded groups clock look old new =
    (i : ℕ) (a b : Source) → slice_get old i ≡ Some a → slice_get new i ≡ Some b → IsLoadedWith a.own.pattern (facts_of_type groups a.own.pattern.ty.0) clock look b

pub loaded_none : (groups : List (Vec (Bor Fact))) (clock : ℤ) (look : Look) (old new : List Source) → new ≡ [] → AreAllLoaded groups clock look old new
loaded_none groups clock look old new none i a b e f = absurd (get-none new i b none f)

pub loaded_more : (groups : List (Vec (Bor Fact))) (clock : ℤ) (look : Look) (old new : List Source) (n : ℕ) (was is : Source) → length new ≡ n → slice_get old n ≡ Some was
    → IsLoadedWith was.own.pattern (facts_of_type groups was.own.pattern.ty.0) clock look is → AreAllLoaded groups clock look old new → AreAllLoaded groups clock look old (new ++ is ∷ [])
loaded_more groups clock look old new n was is count there this so i a b e f = elim (get_more new is b i f) [
  | inl before ↦ so i a b e before
  | inr last ↦
      let same : was ≡ a = one_value (slice_get old n) was a there (ap (slice_get old) (sym count ∙ sym last.0) ∙ e) in
      subst (λ (b : Source). IsLoadedWith a.own.pattern (facts_of_type groups a.own.pattern.ty.0) clock look b) last.1
      (subst (λ (a : Source). IsLoadedWith a.own.pattern (facts_of_type groups a.own.pattern.ty.0) clock look is) same this)
]

module _ (groups : List (Vec (Bor Fact))) (clock : ℤ) (look : Look) (old new : Sources) (of : new.of ≡ old.of) (leads : new.leads ≡ old.leads) (many : length new.list.items ≡ length old.list.items)
    (all : AreAllLoaded groups clock look old.list.items new.list.items) where
  pub loaded_laid : AreLaidAs old new
  loaded_laid = record { of = of; leads = leads; many = many; patterns = λ at a b e f. (all at a b e f).pattern }

  pub loaded_apart : AreApart old → AreApart new
  loaded_apart = unreached_apart old new loaded_laid (λ at s e k.
      let within : at < length new.list.items = slice_get_within new.list.items at s e in
      let was = get-below old.list.items at (omega (arith, within, many)) in
      (all at was.0 s was.1 e).reached k)

  pub loaded_each : AreLoadedWith groups clock look old new
  loaded_each k a b e = by (source_place old k) (place_alike old new loaded_laid k) e
    where
      by : (o : Option ℕ) → source_place new k ≡ o → in_list old.list.items o ≡ Some a → source_at new k ≡ Some b → IsLoadedWith a.own.pattern (facts_of_type groups a.own.pattern.ty.0) clock look b
      by None same e f = absurd (let no : None ≡ Some a = e in cc)
      by (Some at) same e f = all at a b e (sym (ap (in_list new.list.items) same) ∙ f)
