-- What one row or one candidate more, or less, does to the sets that are kept.
use Rattle.join_memory.proofs.Common.{◌≡◌, ◌∙◌, sym, ap, refl, ℕ, ◌+◌, ◌<◌, length, take, get_or, List, Bool, true, false, not, ◌&&◌, ◌||◌, list_any, eq_by_cmp}
use Rattle.join_memory.proofs.{Common.{list_any_more, Named, Row, row_cmp, name_cmp, Look, Memories, KeepsMemories}, Joining.{row_decides, name_decides}}
use Rattle.{std.proofs.Math.Bool.{or_assoc}, fx_base.proofs.Tests.{and_not_not, or_implied}}

-- ---- a row that goes and is not there, and one that comes and is there

gone_absent : (a e : Bool) → (e ≡ true → a ≡ false) → (a && not e) ≡ a
gone_absent a true h = let f : a ≡ false = h refl in ap (λ x. x && false) f ∙ sym f
gone_absent true false h = refl
gone_absent false false h = refl

pub row_absent : (left : Row → Bool) (row : Row) → left row ≡ false → (l : Row) → (left l && not (eq_by_cmp row_cmp row l)) ≡ left l
row_absent left row is l = gone_absent (left l) (eq_by_cmp row_cmp row l) (λ e. ap left (sym ((row_decides row l).0 e)) ∙ is)

pub row_present : (left : Row → Bool) (row : Row) → left row ≡ true → (l : Row) → left l ≡ (left l || eq_by_cmp row_cmp row l)
row_present left row is l = or_implied (left l) (eq_by_cmp row_cmp row l) (λ e. ap left (sym ((row_decides row l).0 e)) ∙ is)

pub name_absent : (right : Named → Bool) (who : Named) → right who ≡ false → (c : Named) → (right c && not (eq_by_cmp name_cmp who c)) ≡ right c
name_absent right who is c = gone_absent (right c) (eq_by_cmp name_cmp who c) (λ e. ap right (sym ((name_decides who c).0 e)) ∙ is)

pub name_present : (right : Named → Bool) (who : Named) → right who ≡ true → (c : Named) → right c ≡ (right c || eq_by_cmp name_cmp who c)
name_present right who is c = or_implied (right c) (eq_by_cmp name_cmp who c) (λ e. ap right (sym ((name_decides who c).0 e)) ∙ is)

-- ---- one change after another

pub keeps_then : {S : Type 0} (first next last : Memories S) (look : Look) (left left_next left_now : Row → Bool) (right right_next right_now : Named → Bool)
    → KeepsMemories first next look left right → KeepsMemories next last look left_next right_next → ((r : Row) → left_next r ≡ left_now r) → ((c : Named) → right_next c ≡ right_now c) → KeepsMemories first last look left_now right_now
keeps_then first next last look left left_next left_now right right_next right_now k m h j = record {
  pattern = m.pattern ∙ k.pattern;
  rows = λ r. m.rows r ∙ h r;
  names = λ c. m.names c ∙ j c;
  agrees = λ before. m.agrees (k.agrees before);
}

-- ---- one element more of a list

module _ {K : Type 0} (eq : K → K → Bool) (symm : (a b : K) → eq a b ≡ eq b a) (xs : List K) (i : ℕ) (below : i < length xs) (any x : K) (is : x ≡ get_or xs i any) (k : K) (kept now : Bool) where
  one_more : list_any (eq k) (take (i + 1) xs) ≡ (list_any (eq k) (take i xs) || eq x k)
  one_more = list_any_more (eq k) xs i any below ∙ ap (λ b. list_any (eq k) (take i xs) || b) (ap (eq k) (sym is) ∙ symm k x)

  pub less_more : now ≡ (kept && not (list_any (eq k) (take i xs))) → (now && not (eq x k)) ≡ (kept && not (list_any (eq k) (take (i + 1) xs)))
  less_more e = ap (λ b. b && not (eq x k)) e ∙ and_not_not kept (list_any (eq k) (take i xs)) (eq x k) ∙ ap (λ b. kept && not b) (sym one_more)

  pub more_more : now ≡ (kept || list_any (eq k) (take i xs)) → (now || eq x k) ≡ (kept || list_any (eq k) (take (i + 1) xs))
  more_more e = ap (λ b. b || eq x k) e ∙ or_assoc kept (list_any (eq k) (take i xs)) (eq x k) ∙ ap (λ b. kept || b) (sym one_more)

-- the name that a slice has beyond its end
abbrev pub any_name : Named
any_name = record { id = record { 0 = 0 }; tag = record { 0 = 0 } }
