-- The rules of which rows are dropped are listed, one after the other.
use Rattle.rete_net.proofs.Common.{◌≡◌, ◌∙◌, sym, ap, refl, ℕ, suc, ◌+◌, ◌<◌, ◌≤◌, ◌==◌, false, cond, arith, List, [], ◌∷◌, ◌++◌, length, Some, slice_get, ◌⊎◌}
use Rattle.rete_net.proofs.Common.{inl, inr, slice_get_within, Row, RuleRows, rows_for, with_rows, AreListed, Answered, given, answer_in, AreRuled, has_place}
use Rattle.{rete_net.proofs.Growing.{each_more}, std.proofs.lemmas.Bool.{eq-eqb, ne_eqb}, fx_base.proofs.{Orders.{below_or_last}, Sequences.{one_value}}}

below_or_from : (k i : ℕ) → (k < i) ⊎ (i ≤ k)
below_or_from k i = grind arith

-- the rules of the entries stand before a place
abbrev AreBefore : List RuleRows → ℕ → Type 0
AreBefore answers i = (k : ℕ) (a : RuleRows) → slice_get answers k ≡ Some a → a.place < i

rows_other : (answers : List RuleRows) (x : RuleRows) (k : ℕ) → (x.place ≡ k → ⊥) → rows_for (answers ++ x ∷ []) k ≡ rows_for answers k
rows_other [] x k h = ap (λ b. cond b x.rows []) (ne_eqb x.place k h)
rows_other (a ∷ answers) x k h = ap (cond (a.place == k) a.rows) (rows_other answers x k h)

rows_here : (answers : List RuleRows) (x : RuleRows) (i : ℕ) → x.place ≡ i → AreBefore answers i → rows_for (answers ++ x ∷ []) i ≡ x.rows
rows_here [] x i at before = ap (λ b. cond b x.rows []) (eq-eqb x.place i at)
rows_here (a ∷ answers) x i at before =
    let lt : a.place < i = before 0 a refl in
    ap (λ b. cond b a.rows (rows_for (answers ++ x ∷ []) i)) (ne_eqb a.place i (λ e. absurd (omega arith))) ∙ rows_here answers x i at (λ k b e. before (suc k) b e)

rows_absent : (answers : List RuleRows) (i : ℕ) → AreBefore answers i → rows_for answers i ≡ []
rows_absent [] i before = refl
rows_absent (a ∷ answers) i before =
    let lt : a.place < i = before 0 a refl in
    ap (λ b. cond b a.rows (rows_for answers i)) (ne_eqb a.place i (λ e. absurd (omega arith))) ∙ rows_absent answers i (λ k b e. before (suc k) b e)

-- of more rules too
pub listed_far : (answers : List RuleRows) (i j : ℕ) → i ≤ j → AreListed answers i → AreListed answers j
listed_far answers i j le was = record { within = λ k a e. let lt : a.place < i = was.within k a e in omega arith; in_order = was.in_order; some = was.some }

-- a rule behind all entries has none
pub rows_behind : (answers : List RuleRows) (i place : ℕ) → AreListed answers i → i ≤ place → rows_for answers place ≡ []
rows_behind answers i place was le = rows_absent answers place (listed_far answers i place le was).within

module _ (answers : List RuleRows) (i : ℕ) (was : AreListed answers i) where
  module _ (row : Row) (rows : List Row) where
    abbrev x : RuleRows
    x = record { place = i; rows = row ∷ rows }

    order : (j k : ℕ) (a b : RuleRows) → j < k → slice_get (answers ++ x ∷ []) j ≡ Some a → slice_get (answers ++ x ∷ []) k ≡ Some b → a.place < b.place
    order j k a b h e f =
        each_more answers x (λ m c. (l : ℕ) (d : RuleRows) → l < m → slice_get (answers ++ x ∷ []) l ≡ Some d → d.place < c.place)
        (λ m c found. λ l d lt there. each_more answers x (λ o g. o < m → g.place < c.place) (λ o g at less. was.in_order o m g c less at found)
        (λ less. let within : m < length answers = slice_get_within answers m c found in absurd (omega arith)) l d there lt)
        (λ l d lt there. each_more answers x (λ o g. o < length answers → g.place < i) (λ o g at less. was.within o g at) (λ less. absurd (omega arith)) l d there lt)
        k b f j a h e

    one_listed : AreListed (answers ++ x ∷ []) (i + 1)
    one_listed = record {
      within = each_more answers x (λ k a. a.place < i + 1) (λ k a e. let lt : a.place < i = was.within k a e in omega arith) (omega arith);
      in_order = order;
      some = each_more answers x (λ k a. a.rows ≡ [] → ⊥) was.some (λ none. cc);
    }

  pub listed_more : (rows : List Row) → AreListed (with_rows answers i rows) (i + 1)
  listed_more [] = listed_far answers i (i + 1) (omega arith) was
  listed_more (row ∷ rows) = one_listed row rows

  pub rows_there : (rows : List Row) → rows_for (with_rows answers i rows) i ≡ rows
  rows_there [] = rows_absent answers i was.within
  rows_there (row ∷ rows) = rows_here answers (record { place = i; rows = row ∷ rows }) i refl was.within

  pub rows_elsewhere : (rows : List Row) (k : ℕ) → (k ≡ i → ⊥) → rows_for (with_rows answers i rows) k ≡ rows_for answers k
  rows_elsewhere [] k h = refl
  rows_elsewhere (row ∷ rows) k h = rows_other answers (record { place = i; rows = row ∷ rows }) k (λ e. h (sym e))

-- ---- rule by rule

module _ (a : Answered (List Row)) (ends : List ℕ) (answers : List RuleRows) (next place : ℕ) (none : a.none ≡ []) (ruled : AreRuled a ends) (listed : AreListed answers next)
    (told : (k end : ℕ) → k < next → slice_get ends k ≡ Some end → rows_for answers k ≡ answer_in a end) (out : (k : ℕ) → next ≤ k → k < place → has_place a.rules.keys k ≡ false) where
  -- the rules that are passed over have no rows
  pub rows_passed : (k end : ℕ) → k < place → slice_get ends k ≡ Some end → rows_for answers k ≡ answer_in a end
  rows_passed k end lt e = elim (below_or_from k next) [
    | inl below ↦ told k end below e
    | inr from ↦ rows_behind answers next k listed from ∙ sym none ∙ ap (given a.none) (sym (ruled k end e (out k from lt)))
  ]

  pub rows_more : (rows : List Row) (here : ℕ) → slice_get ends place ≡ Some here → rows ≡ answer_in a here → next ≤ place → (k end : ℕ) → k < place + 1 → slice_get ends k ≡ Some end
      → rows_for (with_rows answers place rows) k ≡ answer_in a end
  rows_more rows here at is le k end lt e =
      let far = listed_far answers next place le listed in
      elim (below_or_last k place lt) [
        | inl below ↦ rows_elsewhere answers place far rows k (λ same. absurd (omega arith)) ∙ rows_passed k end below e
        | inr same ↦
            let there : here ≡ end = one_value (slice_get ends place) here end at (ap (slice_get ends) (sym same) ∙ e) in
            ap (rows_for (with_rows answers place rows)) same ∙ rows_there answers place far rows ∙ is ∙ ap (answer_in a) there
      ]
