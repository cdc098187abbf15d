-- Row and tree behind a write, and behind a move of the row.
use Rattle.page_map.proofs.Common.{◌≡◌, ◌∙◌, sym, ap, refl, ℕ, ◌+◌, ◌^◌, ◌<◌, ◌≤◌, List, [], ◌∷◌, ◌++◌, Bool, true, false, cond, Option, Some, None, length}
use Rattle.page_map.proofs.Common.{set, arith, length-append, length-set, ◌/◌, ◌%◌, nat_lt, option_or, nat_cmp, is_at, All-push, All-pop, All-tail, ltb-true}
use Rattle.page_map.proofs.Common.{ltb-false, Directory, ArePagesApart, AreDirectories, value_for_number, value_at, numbered, among, held, AreDirectoriesApart}
use Rattle.page_map.proofs.{Common.{IsTrimmed, All-set, numbers_of}, Kept.{apart, together, tied, same_values, past_pages}, Rows.{stands, or_none, none_before}}
use Rattle.page_map.proofs.Rows.{none_behind, some_within, stands_set, stands_push, stands_among, none_among, whole}

-- where a row has a directory, the tree has none
pub tree_none : (first : ℕ) (row : List Directory) (tree : List (ℕ × Directory)) → AreDirectoriesApart first row tree → (n : ℕ) (d : Directory) → stands n (numbered first row) ≡ Some d → stands n tree ≡ None
tree_none first row tree are n d here = are.apart n (from (nat_lt n first) refl) (to (nat_lt n (first + length row)) refl)
  where
    from : (t : Bool) → nat_lt n first ≡ t → first ≤ n
    from true e = absurd (let torn : Some d ≡ None = sym here ∙ none_before n first row (ltb-true n first e) in cc)
    from false e = ltb-false n first e

    to : (t : Bool) → nat_lt n (first + length row) ≡ t → n < first + length row
    to true e = ltb-true n (first + length row) e
    to false e = absurd (let torn : Some d ≡ None = sym here ∙ none_behind n first row (ltb-false n (first + length row) e) in cc)

-- what a number that the row does not have has in the tree
pub stands_in_tree : (n first : ℕ) (row : List Directory) (tree : List (ℕ × Directory)) → stands n (numbered first row) ≡ None → stands n (among first row tree) ≡ stands n tree
stands_in_tree n first row tree none = stands_among n first row tree ∙ ap (λ o. option_or o (stands n tree)) none

pub stands_in_row : (n first : ℕ) (row : List Directory) (tree : List (ℕ × Directory)) (d : Directory) → stands n (numbered first row) ≡ Some d → stands n (among first row tree) ≡ Some d
stands_in_row n first row tree d here = stands_among n first row tree ∙ ap (λ o. option_or o (stands n tree)) here

-- ---- a write

-- a directory of the row is written anew
pub row_written : (first : ℕ) (row : List Directory) (tree : List (ℕ × Directory)) (i : ℕ) (w : Directory) → i < length row → (n : ℕ)
    → stands n (among first (set row i w) tree) ≡ cond (is_at (nat_cmp (first + i)) n) (Some w) (stands n (among first row tree))
row_written first row tree i w l n =
    stands_among n first (set row i w) tree ∙ ap (λ o. option_or o (stands n tree)) (stands_set n first i row w l)
    ∙ by (is_at (nat_cmp (first + i)) n) ∙ ap (cond (is_at (nat_cmp (first + i)) n) (Some w)) (sym (stands_among n first row tree))
  where
    by : (t : Bool) → option_or (cond t (Some w) (stands n (numbered first row))) (stands n tree) ≡ cond t (Some w) (option_or (stands n (numbered first row)) (stands n tree))
    by true = refl
    by false = refl

pub row_held : (first : ℕ) (row : List Directory) (tree : List (ℕ × Directory)) (i : ℕ) (w : Directory) → AreDirectoriesApart first row tree → ArePagesApart w.items → AreDirectoriesApart first (set row i w) tree
row_held first row tree i w are fits =
    let same = length-set row i w in
    let few = are.few in
    let end = are.end in record {
      stored = are.stored;
      few = omega (arith, same, few);
      short = All-set (λ (d : Directory). ArePagesApart d.items) row i w fits are.short;
      end = omega (arith, same, end);
      apart = λ n l h. are.apart n l (omega (arith, same, h));
    }

-- the tree is written at a number that the row does not have
module _ (first : ℕ) (row : List Directory) (tree next : List (ℕ × Directory)) (number : ℕ) (none : stands number (numbered first row) ≡ None) (directory : Option Directory)
    (others : (n : ℕ) → stands n next ≡ cond (is_at (nat_cmp number) n) directory (stands n tree)) where
  pub tree_written : (n : ℕ) → stands n (among first row next) ≡ cond (is_at (nat_cmp number) n) directory (stands n (among first row tree))
  tree_written n =
      stands_among n first row next ∙ ap (option_or (stands n (numbered first row))) (others n) ∙ by (is_at (nat_cmp number) n) refl
      ∙ ap (cond (is_at (nat_cmp number) n) directory) (sym (stands_among n first row tree))
    where
      by : (t : Bool) → is_at (nat_cmp number) n ≡ t → option_or (stands n (numbered first row)) (cond t directory (stands n tree)) ≡ cond t directory (option_or (stands n (numbered first row)) (stands n tree))
      by true e = ap (λ o. option_or o directory) (ap (λ m. stands m (numbered first row)) (sym (tied number n e)) ∙ none)
      by false e = refl

  pub tree_held : AreDirectoriesApart first row tree → AreDirectories next → AreDirectoriesApart first row next
  tree_held are stored = record { stored = stored; short = are.short; few = are.few; end = are.end; apart = λ n l h. others n ∙ by n l h (is_at (nat_cmp number) n) refl }
    where
      by : (n : ℕ) → first ≤ n → n < first + length row → (t : Bool) → is_at (nat_cmp number) n ≡ t → cond t directory (stands n tree) ≡ None
      by n l h true e = absurd (some_within n first row l h (ap (λ m. stands m (numbered first row)) (sym (tied number n e)) ∙ none))
      by n l h false e = are.apart n l h

-- ---- a move

-- a directory without values says nothing
pub blank_says : (d : Directory) → length d.items ≡ 0 → (k : ℕ) → value_at (Some d) k ≡ None
blank_says d none k = ap value_for_number (past_pages d.items (k / 64) (k % 64) (omega (arith, none)))

-- a row without directories may begin anywhere
pub begun_same : (first number : ℕ) (row : List Directory) (tree : List (ℕ × Directory)) → length row ≡ 0 → held number row tree ≡ held first row tree
begun_same first number [] tree none = ap numbers_of (none_among number tree ∙ sym (none_among first tree))
begun_same first number (d ∷ row) tree none = absurd (omega (arith, none))

-- the same values in row and tree
pub same_held : (first : ℕ) (row : List Directory) (tree : List (ℕ × Directory)) (start : ℕ) (next : List Directory) (rest : List (ℕ × Directory)) → AreDirectoriesApart first row tree → AreDirectoriesApart start next rest
    → ((n k : ℕ) → value_at (option_or (stands n (numbered start next)) (stands n rest)) k ≡ value_at (option_or (stands n (numbered first row)) (stands n tree)) k) → held start next rest ≡ held first row tree
same_held first row tree start next rest were are values =
    same_values (among first row tree) (among start next rest) (whole first row tree were) (whole start next rest are)
    (λ n k. ap (λ o. value_at o k) (stands_among n start next rest) ∙ values n k ∙ ap (λ o. value_at o k) (sym (stands_among n first row tree)))

-- the first directory goes to the tree, if it has values
module _ (first : ℕ) (d : Directory) (row : List Directory) (tree next : List (ℕ × Directory)) (were : AreDirectoriesApart first (d ∷ row) tree) (stored : AreDirectories next)
    (others : (n : ℕ) → is_at (nat_cmp first) n ≡ false → stands n next ≡ stands n tree) (values : (k : ℕ) → value_at (stands first next) k ≡ value_at (Some d) k) where
  pub sent_held : AreDirectoriesApart (first + 1) row next
  sent_held =
      let few = were.few in
      let end = were.end in record {
        stored = stored;
        short = All-tail (λ (x : Directory). ArePagesApart x.items) d row were.short;
        few = omega (arith, few);
        end = omega (arith, end);
        apart = λ n l h. others n (apart first n (λ e. omega (arith, e, l))) ∙ were.apart n (omega (arith, l)) (omega (arith, h));
      }

  pub sent_same : held (first + 1) row next ≡ held first (d ∷ row) tree
  sent_same = same_held first (d ∷ row) tree (first + 1) row next were sent_held (λ n k. by n k (is_at (nat_cmp n) first) refl)
    where
      by : (n k : ℕ) (t : Bool) → is_at (nat_cmp n) first ≡ t
          → value_at (option_or (stands n (numbered (first + 1) row)) (stands n next)) k ≡ value_at (option_or (cond t (Some d) (stands n (numbered (first + 1) row))) (stands n tree)) k
      by n k true e =
          let same = tied n first e in
          ap (λ o. value_at (option_or o (stands n next)) k) (none_before n (first + 1) row (omega (arith, same)))
          ∙ ap (λ m. value_at (stands m next) k) same ∙ values k
      by n k false e =
          ap (λ o. value_at (option_or (stands n (numbered (first + 1) row)) o) k)
          (others n (apart first n (λ same. let torn : true ≡ false = sym (together n first (sym same)) ∙ e in cc)))

-- the directory behind the last comes from the tree, or without values
module _ (first : ℕ) (row : List Directory) (d : Directory) (tree next : List (ℕ × Directory)) (were : AreDirectoriesApart first row tree) (room : first + length row < 2 ^ 53) (few : length row < 2 ^ 16) (stored : AreDirectories next) (fits : ArePagesApart d.items)
    (others : (n : ℕ) → stands n next ≡ cond (is_at (nat_cmp (first + length row)) n) None (stands n tree)) (values : (k : ℕ) → value_at (Some d) k ≡ value_at (stands (first + length row) tree) k) where
  pub grown_held : AreDirectoriesApart first (row ++ d ∷ []) next
  grown_held =
      let more = length-append row (d ∷ []) in record {
        stored = stored;
        short = All-push (λ (x : Directory). ArePagesApart x.items) row d were.short fits;
        few = omega (arith, more, few);
        end = omega (arith, more, room);
        apart = λ n l h. others n ∙ by n l (omega (arith, more, h)) (is_at (nat_cmp (first + length row)) n) refl;
      }
    where
      by : (n : ℕ) → first ≤ n → n ≤ first + length row → (t : Bool) → is_at (nat_cmp (first + length row)) n ≡ t → cond t None (stands n tree) ≡ None
      by n l h true e = refl
      by n l h false e =
          let differ : first + length row ≡ n → ⊥ = λ same. let torn : true ≡ false = sym (together (first + length row) n same) ∙ e in cc in
          were.apart n l (grind (arith, h, differ))

  pub grown_same : held first (row ++ d ∷ []) next ≡ held first row tree
  grown_same = same_held first row tree first (row ++ d ∷ []) next were grown_held
      (λ n k. ap (λ o. value_at (option_or o (stands n next)) k) (stands_push n first row d) ∙ ap (λ o. value_at (option_or (option_or (stands n (numbered first row)) (stands n ((first + length row, d) ∷ []))) o) k) (others n)
      ∙ by n k (is_at (nat_cmp n) (first + length row)) refl)
    where
      by : (n k : ℕ) (t : Bool) → is_at (nat_cmp n) (first + length row) ≡ t
          → value_at (option_or (option_or (stands n (numbered first row)) (cond t (Some d) None)) (cond (is_at (nat_cmp (first + length row)) n) None (stands n tree))) k
          ≡ value_at (option_or (stands n (numbered first row)) (stands n tree)) k
      by n k true e =
          let same = tied n (first + length row) e in
          let none = none_behind n first row (omega (arith, same)) in
          ap (λ o. value_at (option_or (option_or o (Some d)) (cond (is_at (nat_cmp (first + length row)) n) None (stands n tree))) k) none
          ∙ values k ∙ ap (λ m. value_at (stands m tree) k) (sym same) ∙ ap (λ o. value_at (option_or o (stands n tree)) k) (sym none)
      by n k false e =
          ap (λ o. value_at (option_or o (cond (is_at (nat_cmp (first + length row)) n) None (stands n tree))) k) (or_none (stands n (numbered first row)))
          ∙ ap (λ t. value_at (option_or (stands n (numbered first row)) (cond t None (stands n tree))) k)
          (apart (first + length row) n (λ same. let torn : true ≡ false = sym (together n (first + length row) (sym same)) ∙ e in cc))

-- ---- what is taken off the ends

module _ (old_first : ℕ) (old : List Directory) (first : ℕ) where
  -- the first directory
  pub front_off : (d : Directory) (row : List Directory) → length d.items ≡ 0 → IsTrimmed old_first old first (d ∷ row) → IsTrimmed old_first old (first + 1) row
  front_off d row none are =
      let start = are.start in
      let end = are.end in record {
        values = λ n k. by n k (is_at (nat_cmp n) first) refl ∙ are.values n k;
        start = omega (arith, start);
        end = omega (arith, end);
        short = λ p. All-tail (λ (x : Directory). ArePagesApart x.items) d row (are.short p);
      }
    where
      by : (n k : ℕ) (t : Bool) → is_at (nat_cmp n) first ≡ t → value_at (stands n (numbered (first + 1) row)) k ≡ value_at (cond t (Some d) (stands n (numbered (first + 1) row))) k
      by n k true e =
          let same = tied n first e in
          ap (λ o. value_at o k) (none_before n (first + 1) row (omega (arith, same))) ∙ sym (blank_says d none k)
      by n k false e = refl

  -- the last
  pub back_off : (d : Directory) (row : List Directory) → length d.items ≡ 0 → IsTrimmed old_first old first (row ++ d ∷ []) → IsTrimmed old_first old first row
  back_off d row none are =
      let end = are.end in
      let more = length-append row (d ∷ []) in record {
        values = λ n k. by n k (is_at (nat_cmp n) (first + length row)) refl ∙ ap (λ o. value_at o k) (sym (stands_push n first row d)) ∙ are.values n k;
        start = are.start;
        end = omega (arith, end, more);
        short = λ p. (All-pop (λ (x : Directory). ArePagesApart x.items) (row ++ d ∷ []) row (Some d) refl (are.short p)).0;
      }
    where
      by : (n k : ℕ) (t : Bool) → is_at (nat_cmp n) (first + length row) ≡ t → value_at (stands n (numbered first row)) k ≡ value_at (option_or (stands n (numbered first row)) (cond t (Some d) None)) k
      by n k true e =
          let same = tied n (first + length row) e in
          let past = none_behind n first row (omega (arith, same)) in
          ap (λ o. value_at o k) past ∙ sym (blank_says d none k) ∙ ap (λ o. value_at (option_or o (Some d)) k) (sym past)
      by n k false e = ap (λ o. value_at o k) (sym (or_none (stands n (numbered first row))))

-- the values of a row, and those of the tree where the row has none
split_values : (first : ℕ) (row : List Directory) (tree : List (ℕ × Directory)) → ((n : ℕ) (d : Directory) → stands n (numbered first row) ≡ Some d → stands n tree ≡ None) → (n k : ℕ)
    → value_at (option_or (stands n (numbered first row)) (stands n tree)) k ≡ option_or (value_at (stands n (numbered first row)) k) (value_at (stands n tree) k)
split_values first row tree none n k = by (stands n (numbered first row)) refl
  where
    none_more : (v : Option ℕ) → v ≡ option_or v None
    none_more None = refl
    none_more (Some v) = refl

    by : (o : Option Directory) → stands n (numbered first row) ≡ o → value_at (option_or o (stands n tree)) k ≡ option_or (value_at o k) (value_at (stands n tree) k)
    by None e = refl
    by (Some d) e = none_more (value_at (Some d) k) ∙ ap (λ o. option_or (value_at (Some d) k) (value_at o k)) (sym (none n d e))

module _ (old_first : ℕ) (old : List Directory) (first : ℕ) (row : List Directory) (tree : List (ℕ × Directory)) (trimmed : IsTrimmed old_first old first row) (were : AreDirectoriesApart old_first old tree) where
  pub trimmed_held : AreDirectoriesApart first row tree
  trimmed_held =
      let start = trimmed.start in
      let end = trimmed.end in
      let top = were.end in
      let few = were.few in record {
        stored = were.stored;
        few = omega (arith, start, end, few);
        short = trimmed.short were.short;
        end = omega (arith, end, top);
        apart = λ n l h. were.apart n (omega (arith, l, start)) (omega (arith, h, end));
      }

  pub trimmed_same : held first row tree ≡ held old_first old tree
  trimmed_same = same_held old_first old tree first row tree were trimmed_held
      (λ n k. split_values first row tree (tree_none first row tree trimmed_held) n k ∙ ap (λ v. option_or v (value_at (stands n tree) k)) (trimmed.values n k)
      ∙ sym (split_values old_first old tree (tree_none old_first old tree were) n k))
