-- A program has at most one table of lives, and so at most one report.
use Rattle.replay.proofs.Common.{◌≡◌, ◌⊎◌, inl, inr, ℕ, zero, suc, ℤ, pos, List, [], ◌∷◌, length, Option, Some, None, refl, sym, ap, subst, ◌∙◌, arith}
use Rattle.replay.proofs.Common.{slice_get, lines_of, Life, LifeTable, Program, IsLifeOf, AreLives, Gives, Fires, Counts, RunState, setting_of, whole_run}
use Rattle.replay.proofs.Common.{Image, RunPart, World, first_part, Report, IsToldBehind, IsBehindSome, IsDefinite, IsReport, IsSaved, image_report}
use Rattle.replay.proofs.Common.{outcome_report, summary_report, lives_text, Wanted, usage_line, refuses, refuses_checkpoint, runs, resumes, saves, saves_on}
use Rattle.{replay.proofs.Common.{accepts, tells_lives, proves, sums_up}, std.proofs.lemmas.Bool.{both_ways}, gen_load.specs.Script.{script_text}}
use Rattle.rule_model.specs.{declared.life.Life.TheVariants.{Plain, Explicit, Finite, Infinite}, Types.{is_event, expiry_of}}
use Rattle.{life_meaning.specs.{Lifetimes.{IsLife, PatternLife}, Reach.{Limit, finite, infinite, Below}}, image_laws.proofs.One.{one_image}}
use Rattle.fx_base.proofs.Orders.{≤ℤ_antisym}

same_limit : (l m : Limit) → Below l m → Below m l → l ≡ m
same_limit (finite a) (finite b) h k = ap finite (≤ℤ_antisym a b h k)
same_limit (finite a) infinite h k = absurd k
same_limit infinite (finite b) h k = absurd h
same_limit infinite infinite h k = refl

-- a life is below every other one
below_other : (p : Program) (ty : ℕ) (l m : Limit) → IsLife p ty l → IsLife p ty m → Below l m
below_other p ty l m h k = here h.reached
  where
    here : (l ≡ finite (pos 0)) ⊎ PatternLife p ty l → Below l m
    here (inl e) = subst (λ (z : Limit). Below z m) (sym e) k.above_zero
    here (inr gives) = k.above_all l gives

same_life : (p : Program) (ty : ℕ) (l m : Limit) → IsLife p ty l → IsLife p ty m → l ≡ m
same_life p ty l m h k = same_limit l m (below_other p ty l m h k) (below_other p ty m l k h)

not_some : (o : Option ℤ) (n : ℤ) → o ≡ Some n → o ≡ None → ⊥
not_some o n h k = cc

same_some : (o : Option ℤ) (n m : ℤ) → o ≡ Some n → o ≡ Some m → n ≡ m
same_some o n m h k = cc

same_finite : (n m : ℤ) → finite n ≡ finite m → n ≡ m
same_finite n m e = cc

-- a type has one life
one_life : (p : Program) (ty : ℕ) (a b : Life) → IsLifeOf p ty a → IsLifeOf p ty b → a ≡ b
one_life p ty Plain Plain h k = refl
one_life p ty Plain (Explicit n) h k = absurd (both_ways (is_event p ty) h k.0)
one_life p ty Plain (Finite n) h k = absurd (both_ways (is_event p ty) h k.event)
one_life p ty Plain Infinite h k = absurd (both_ways (is_event p ty) h k.event)
one_life p ty (Explicit n) Plain h k = absurd (both_ways (is_event p ty) k h.0)
one_life p ty (Explicit n) (Explicit m) h k = ap Explicit (same_some (expiry_of p ty) n m h.1 k.1)
one_life p ty (Explicit n) (Finite m) h k = absurd (not_some (expiry_of p ty) n h.1 k.unexpired)
one_life p ty (Explicit n) Infinite h k = absurd (not_some (expiry_of p ty) n h.1 k.unexpired)
one_life p ty (Finite n) Plain h k = absurd (both_ways (is_event p ty) k h.event)
one_life p ty (Finite n) (Explicit m) h k = absurd (not_some (expiry_of p ty) m k.1 h.unexpired)
one_life p ty (Finite n) (Finite m) h k = ap Finite (same_finite n m (same_life p ty (finite n) (finite m) h k))
one_life p ty (Finite n) Infinite h k = absurd (let e : finite n ≡ infinite = same_life p ty (finite n) infinite h k in cc)
one_life p ty Infinite Plain h k = absurd (both_ways (is_event p ty) k h.event)
one_life p ty Infinite (Explicit m) h k = absurd (not_some (expiry_of p ty) m k.1 h.unexpired)
one_life p ty Infinite (Finite m) h k = absurd (let e : infinite ≡ finite m = same_life p ty infinite (finite m) h k in cc)
one_life p ty Infinite Infinite h k = refl

-- lists of one length with the same at each place
same_list : (xs ys : List Life) → length xs ≡ length ys → ((place : ℕ) (x y : Life) → slice_get xs place ≡ Some x → slice_get ys place ≡ Some y → x ≡ y) → xs ≡ ys
same_list [] [] e h = refl
same_list [] (y ∷ ys) e h = absurd (omega (arith, e))
same_list (x ∷ xs) [] e h = absurd (omega (arith, e))
same_list (x ∷ xs) (y ∷ ys) e h =
    let first : x ≡ y = h zero x y refl refl in
    let rest : xs ≡ ys = same_list xs ys (omega (arith, e)) (λ place a b at bt. h (suc place) a b at bt) in
    rw (first, rest) refl

-- a program has at most one table of lives
pub one_table : (p : Program) (a b : LifeTable) → AreLives p a → AreLives p b → a ≡ b
one_table p a b h k = same_table a b (same_list a.lives b.lives (h.as_many ∙ sym k.as_many) (λ ty x y at bt. one_life p ty x y (h.each ty x at) (k.each ty y bt)))
  where
    table_of : List Life → LifeTable
    table_of lives = record { lives = lives }

    same_table : (a b : LifeTable) → a.lives ≡ b.lives → a ≡ b
    same_table a b e = ap table_of e

-- what holds by one table of a program's lives holds by each
pub by_table : (p : Program) (P : LifeTable → Type 0) (a b : LifeTable) → AreLives p a → AreLives p b → P a → P b
by_table p P a b h k holds = subst P (one_table p a b h k) holds

pub same_lives_text : (p : Program) (a b : LifeTable) → AreLives p a → AreLives p b → lives_text p.types a.lives ≡ lives_text p.types b.lives
same_lives_text p a b h k = ap (λ (table : LifeTable). lives_text p.types table.lives) (one_table p a b h k)

-- a run that is saved has at most one report: a world has one image
pub one_saved : (p : Program) (table : LifeTable) (limit : ℕ) (first : RunPart) (o : Option RunState) (r q : Report) → IsSaved p table limit first o r → IsSaved p table limit first o q → r ≡ q
one_saved p table limit first None r q h k = h ∙ sym k
one_saved p table limit first (Some s) r q h k = h.4 ∙ ap image_report (one_image p table s.world h.0 k.0 h.1 k.1 (h.2 ∙ sym k.2)) ∙ sym k.4

-- what is written behind an image is what is written in a world of it
pub behind_one : (p : Program) (table : LifeTable) (image : Image) (Ends : ℕ → Type 0) (Says : World → Report → Type 0) → ((w : World) (r q : Report) → Says w r → Says w q → r ≡ q)
    → (q r : Report) → IsToldBehind p table image Ends Says q → IsBehindSome p table image Says r → r ≡ q
behind_one p table image Ends Says one q r (inl h) (inl k) = k.1 ∙ sym h.1
behind_one p table image Ends Says one q r (inl h) (inr k) = absurd (h.0 k.0)
behind_one p table image Ends Says one q r (inr h) (inl k) = absurd (k.0 h.0)
behind_one p table image Ends Says one q r (inr h) (inr k) = one k.1 r q k.4 (h.2 k.1 k.2 k.3)

-- what is wanted has at most one report
pub one_report : (gives : Gives) (fires : Fires) (counts : Counts) (w : Wanted) (script : List ℕ) (r q : Report) → IsDefinite w → IsReport gives fires counts w script r → IsReport gives fires counts w script q → r ≡ q
one_report gives fires counts usage_line script r q definite h k = h ∙ sym k
one_report gives fires counts (refuses refusal) script r q definite h k = h ∙ sym k
one_report gives fires counts (refuses_checkpoint code) script r q definite h k = h ∙ sym k
one_report gives fires counts (resumes limit image program) script r q definite h k = absurd definite
one_report gives fires counts (saves limit rules program) script r q definite h k =
    one_saved program h.0 limit (first_part rules) (comes_to h.0) r q h.2
    (by_table program (λ (table : LifeTable). IsSaved program table limit (first_part rules) (comes_to table) q) k.0 h.0 k.1 h.1 k.2)
  where
    comes_to : LifeTable → Option RunState
    comes_to table = (whole_run (setting_of gives fires counts limit program table) (lines_of script)).comes_to
one_report gives fires counts (saves_on limit image program) script r q definite h k = absurd definite
one_report gives fires counts (runs limit program) script r q definite h k = h.2 ∙ ap run_report (one_table program h.0 k.0 h.1 k.1) ∙ sym k.2
  where
    run_report : LifeTable → Report
    run_report table = outcome_report (whole_run (setting_of gives fires counts limit program table) (lines_of script))
one_report gives fires counts (accepts program) script r q definite h k = h ∙ sym k
one_report gives fires counts (sums_up number limit program) script r q definite h k = h.2 ∙ ap load_report (one_table program h.0 k.0 h.1 k.1) ∙ sym k.2
  where
    load_report : LifeTable → Report
    load_report table = summary_report number (whole_run (setting_of gives fires counts limit program table) (lines_of (script_text number)))
one_report gives fires counts (proves program) script r q definite h k = absurd definite
one_report gives fires counts (tells_lives program) script r q definite h k =
    h.2 ∙ ap lives_report (same_lives_text program h.0 k.0 h.1 k.1) ∙ sym k.2
  where
    lives_report : List ℕ → Report
    lives_report bytes = record { bytes = bytes; status = 0 }
