-- What is counted beside left rows.
use Rattle.counting_node.proofs.Common.{◌≡◌, ◌∙◌, sym, ap, refl, subst, ℕ, zero, suc, ◌<◌, arith, List, [], ◌∷◌, length, Bool, false, ◌||◌, Some, ℤ, fun_ext}
use Rattle.counting_node.proofs.Common.{is_some, RuleId, Extra, Named, Row, has, InOrder, Look, joins, Memories, has_name, left_at, has_left, has_right, Agrees}
use Rattle.counting_node.proofs.Common.{either, TellsBeside, AreApart, IsBeyond, CountsOthers, AreExtrasOf, SeeAlike, passing, and_first, Option, None}
use Rattle.{counting_node.proofs.Searching.{AreListed, listed_in_order, listed_own, listed_for}, join_memory.specs.declared.candidates.Candidates.{Candidates}}
use Rattle.join_memory.specs.Shared.{over}

-- where none is counted, the set has none
pub none_beyond : (gathered : Look → List Named → List ℤ) (world : Look) (set : Named → Bool) (n : ℕ) (values : List ℤ) → IsBeyond gathered world set n values → n ≡ 0 → (who : Named) → set who ≡ false
none_beyond gathered world set n values is e who = sym (is.all who) ∙ by is.names (is.count ∙ e)
  where
    by : (names : List Named) → length names ≡ 0 → has_name names who ≡ false
    by [] f = refl
    by (x ∷ xs) f = absurd (omega arith)

pub positive : (n : ℕ) → (n ≡ 0 → ⊥) → 0 < n
positive zero h = absurd (h refl)
positive (suc n) h = omega arith

-- ---- shared candidates in place of its own

pub pattern_over : {T : Type 0} (m : Memories T) (shared : Option Candidates) → (over m shared).pattern ≡ m.pattern
pattern_over m None = refl
pattern_over m (Some s) = refl

pub left_over : {T : Type 0} (m : Memories T) (shared : Option Candidates) (look : Look) (row : Row) → left_at (over m shared) look row ≡ left_at m look row
left_over m None look row = refl
left_over m (Some s) look row = refl

module _ {T : Type 0} (holds : T → Look → (Named → Bool) → Type 0) (gathered : Look → List Named → List ℤ) (m : Memories T) (look world : Look) (others : Row → Named → Bool) (counts : CountsOthers holds m look world others)
    (row : Row) (kept part : T) (there : left_at m look row ≡ Some kept) (names : List Named) (named : (who : Named) → has_name names who ≡ passing m.pattern look (has_right m look) row who)
    (partial : (w : Look) → SeeAlike (has_name names) look w → holds part w (has_name names)) where
  of_part : holds part world (has_name names)
  of_part = partial world (λ who e. counts.alike who (and_first (has_right m look who) (joins m.pattern look row who) (sym (named who) ∙ e)))

  -- what the tally counts beyond the kept candidates is what it counts of others
  pub beyond_is : (n : ℕ) (values : List ℤ)
      → ((w : Look) (set rest : Named → Bool) → AreApart set rest → holds kept w (either set rest) → holds part w set → IsBeyond gathered w rest n values) → IsBeyond gathered world (others row) n values
  beyond_is n values more =
      more world (has_name names) (others row) (λ who e. counts.apart row (ap is_some there) who (sym (named who) ∙ e))
      (subst (holds kept world) (fun_ext (λ who. ap (λ b. b || others row who) (sym (named who)))) (counts.tallies row kept there)) of_part

-- the extras of all rows in their order
pub extras_of : {T : Type 0} (holds : T → Look → (Named → Bool) → Type 0) (gathered : Look → List Named → List ℤ) (m : Memories T) (look : Look) (under : RuleId) (place : ℕ) (rows : List Row) (extras : List Extra)
    → InOrder rows → ((l : Look) → Agrees m l → (row : Row) → has rows row ≡ has_left m l row) → AreListed (TellsBeside holds gathered m look under place) rows extras
    → AreExtrasOf holds gathered m look under place extras
extras_of holds gathered m look under place rows extras sorted kept are =
    let beside = TellsBeside holds gathered m look under place in
    record {
      in_order = listed_in_order under place beside (λ row o is. is.own) rows extras are sorted;
      among = λ agrees e h.
          let own = listed_own under place beside (λ row o is. is.own) rows extras are e h in
          record {
            rule = own.2.rule;
            condition = own.2.condition;
            kept = ap (has_left m look) own.2.row ∙ sym (kept look agrees own.0) ∙ own.1;
            some = own.2.some;
          };
      exact = λ world others counts row there.
          (listed_for under place beside (λ row o is. is.own) rows extras are sorted row (kept look counts.agrees row ∙ there)).exact world others counts there;
    }
