-- Matches that are added to an agenda, and those of them that are marked, one after the other.
use Rattle.session_model.proofs.Common.{◌≡◌, ◌∙◌, ◌==◌, ◌&&◌, ◌||◌, not, ℕ, zero, suc, Bool, true, false, cond, inl, inr, List, [], ◌∷◌, ◌++◌, ◌+◌, ◌<◌, get_or}
use Rattle.session_model.proofs.Common.{length, refl, sym, ap, subst, arith, eq_by_cmp, map-append, take_more, list_any-append, In, Row, row_cmp, has}
use Rattle.session_model.proofs.Common.{same_equiv, FiredMatch, Match, has_match, match_cmp, match_equiv, Marks, IsChanged, match_fired, RuleChange, comes_by}
use Rattle.{session_model.proofs.Common.{has_marked, NoneGo, AreMarking}, std.proofs.{Math.Bool.{or-false, or_assoc}, Common.{take, map as list_map}}}
use Rattle.{agenda.proofs.Steps.{fired_put, parts}, fx_base.proofs.{Sequences.{In-append}, Tests.{and_not_not, or_and_join}}}

-- ---- matches in a set

-- none yet
pub none_yet : (o t : Bool) → o ≡ (o || (t && false))
none_yet true t = refl
none_yet false true = refl
none_yet false false = refl

has_end : (rows : List Row) (row r : Row) → has (rows ++ row ∷ []) r ≡ (has rows r || eq_by_cmp row_cmp row r)
has_end rows row r =
    list_any-append (eq_by_cmp row_cmp r) rows (row ∷ [])
    ∙ ap (λ b. has rows r || b) (or-false (eq_by_cmp row_cmp r row) ∙ same_equiv.symm r row)

-- one row more
pub one_added : (rule : ℕ) (old now new : List Match) (taken : List Row) (n : Match) → n.rule.0 ≡ rule
    → ((q : Match) → has_match new q ≡ cond (eq_by_cmp match_cmp n q) true (has_match now q))
    → ((q : Match) → has_match now q ≡ (has_match old q || (rule == q.rule.0 && has taken q.row)))
    → (q : Match) → has_match new q ≡ (has_match old q || (rule == q.rule.0 && has (taken ++ n.row ∷ []) q.row))
one_added rule old now new taken n is put before q =
    fired_put n now new put q
    ∙ ap (λ b. has_match now q || b) (parts n q rule n.row is refl)
    ∙ ap (λ b. b || (rule == q.rule.0 && eq_by_cmp row_cmp n.row q.row)) (before q)
    ∙ or_and_join (has_match old q) (rule == q.rule.0) (has taken q.row) (eq_by_cmp row_cmp n.row q.row)
    ∙ ap (λ b. has_match old q || (rule == q.rule.0 && b)) (sym (has_end taken n.row q.row))

-- one change more
pub one_come : (taken : List RuleChange) (c : RuleChange) (q : Match) → comes_by (taken ++ c ∷ []) q ≡ (comes_by taken q || (c.rule.0 == q.rule.0 && has c.delta.come q.row))
one_come taken c q =
    list_any-append (λ (d : RuleChange). d.rule.0 == q.rule.0 && has d.delta.come q.row) taken (c ∷ [])
    ∙ ap (λ b. comes_by taken q || b) (or-false (c.rule.0 == q.rule.0 && has c.delta.come q.row))

-- ---- rows that come into an agenda

pub record AreAdding (first : Marks) (all : List RuleChange) (now : Marks) (rest : List RuleChange) : Type 0 where
  pub none : NoneGo rest
  pub pending : (m : Match) → (has_match now.pending m || comes_by rest m) ≡ (has_match first.pending m || comes_by all m)
  pub fired : (m : Match) → has_match now.fired m ≡ has_match first.fired m

pub none_added : (first : Marks) (all rest : List RuleChange) → rest ≡ all → NoneGo all → AreAdding first all first rest
none_added first all rest same none = record {
  none = subst NoneGo (sym same) none;
  pending = λ m. ap (λ cs. has_match first.pending m || comes_by cs m) same;
  fired = λ m. refl;
}

pending_turn : (p g r c more : Bool) → g ≡ false → (((p && not (r && g)) || (r && c)) || more) ≡ (p || ((r && c) || more))
pending_turn true g true c more e = ap (λ b. ((true && not (true && b)) || (true && c)) || more) e
pending_turn true g false c more e = refl
pending_turn false g r c more e = refl

fired_turn : (f g r : Bool) → g ≡ false → (f && not (r && g)) ≡ f
fired_turn true g true e = ap (λ b. true && not (true && b)) e
fired_turn true g false e = refl
fired_turn false g r e = refl

pub added_turn : (first now next : Marks) (all rest more : List RuleChange) (c : RuleChange) → rest ≡ c ∷ more → IsChanged c.rule.0 c.delta now next → AreAdding first all now rest → AreAdding first all next more
added_turn first now next all rest more c step changed are =
    let none : NoneGo (c ∷ more) = subst NoneGo step are.none in
    let gone : (m : Match) → has c.delta.gone m.row ≡ false = λ m. ap (λ rs. has rs m.row) (none c (inl refl)) in
    record {
      none = λ d i. none d (inr i);
      pending = λ m.
          ap (λ b. b || comes_by more m) (changed.pending m)
          ∙ pending_turn (has_match now.pending m) (has c.delta.gone m.row) (c.rule.0 == m.rule.0) (has c.delta.come m.row) (comes_by more m) (gone m)
          ∙ ap (λ cs. has_match now.pending m || comes_by cs m) (sym step) ∙ are.pending m;
      fired = λ m. changed.fired m ∙ fired_turn (has_match now.fired m) (has c.delta.gone m.row) (c.rule.0 == m.rule.0) (gone m) ∙ are.fired m;
    }

pub added_pending : (first now : Marks) (all rest : List RuleChange) → rest ≡ [] → AreAdding first all now rest → (m : Match) → has_match now.pending m ≡ (has_match first.pending m || comes_by all m)
added_pending first now all rest none are m = sym (or-false (has_match now.pending m)) ∙ ap (λ cs. has_match now.pending m || comes_by cs m) (sym none) ∙ are.pending m

-- ---- matches that are marked

marked_end : (taken : List FiredMatch) (f : FiredMatch) (m : Match) → has_marked (taken ++ f ∷ []) m ≡ (has_marked taken m || (f.rule.0 == m.rule.0 && eq_by_cmp row_cmp f.row m.row))
marked_end taken f m =
    ap (λ ms. has_match ms m) (map-append match_fired taken (f ∷ []))
    ∙ list_any-append (eq_by_cmp match_cmp m) (list_map match_fired taken) (match_fired f ∷ [])
    ∙ ap (λ b. has_marked taken m || b) (or-false (eq_by_cmp match_cmp m (match_fired f)) ∙ match_equiv.symm m (match_fired f) ∙ parts (match_fired f) m f.rule.0 f.row refl refl)

pub one_marked : (came : List Match) (first now next : Marks) (taken : List FiredMatch) (f : FiredMatch) → AreMarking came first now taken → has_match came (match_fired f) ≡ true → next.saliences ≡ now.saliences
    → ((m : Match) → has_match next.pending m ≡ (has_match now.pending m && not (f.rule.0 == m.rule.0 && eq_by_cmp row_cmp f.row m.row)))
    → ((m : Match) → has_match next.fired m ≡ (has_match now.fired m || (f.rule.0 == m.rule.0 && eq_by_cmp row_cmp f.row m.row)))
    → AreMarking came first next (taken ++ f ∷ [])
one_marked came first now next taken f are came_f salient pending fired = record {
  saliences = salient ∙ are.saliences;
  pending = λ m.
      pending m ∙ ap (λ b. b && not (f.rule.0 == m.rule.0 && eq_by_cmp row_cmp f.row m.row)) (are.pending m)
      ∙ and_not_not (has_match first.pending m) (has_marked taken m) (f.rule.0 == m.rule.0 && eq_by_cmp row_cmp f.row m.row)
      ∙ ap (λ b. has_match first.pending m && not b) (sym (marked_end taken f m));
  fired = λ m.
      fired m ∙ ap (λ b. b || (f.rule.0 == m.rule.0 && eq_by_cmp row_cmp f.row m.row)) (are.fired m)
      ∙ or_assoc (has_match first.fired m) (has_marked taken m) (f.rule.0 == m.rule.0 && eq_by_cmp row_cmp f.row m.row)
      ∙ ap (λ b. has_match first.fired m || b) (sym (marked_end taken f m));
  there = λ m i. elim (In-append m taken (f ∷ []) i) [
    | inl j ↦ are.there m j
    | inr (inl e) ↦ subst (λ (z : FiredMatch). has_match came (match_fired z) ≡ true) (sym e) came_f
    | inr (inr k) ↦ absurd k
  ];
}

-- ---- the agenda that is made

-- ---- turns over a slice

pub next_taken : {A : Type 0} (xs : List A) (i : ℕ) (x : A) → i < length xs → x ≡ get_or xs i x → take (i + 1) xs ≡ take i xs ++ x ∷ []
next_taken xs i x below is = take_more xs i x below ∙ ap (λ y. take i xs ++ y ∷ []) (sym is)

pub in_at : {A : Type 0} (xs : List A) (i : ℕ) (x : A) → i < length xs → x ≡ get_or xs i x → In x xs
in_at [] i x below is = absurd (omega (arith, below))
in_at (y ∷ xs) zero x below is = inl is
in_at (y ∷ xs) (suc i) x below is = inr (in_at xs i x (omega (arith, below)) is)
