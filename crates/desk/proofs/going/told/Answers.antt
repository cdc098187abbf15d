use Rattle.std.{proofs.{Common.{◌≡◌, ◌∙◌, List, true, false, refl, ap, sym}, lemmas.Bool.Decides.{Decides-int_eq}}, specs.Bool.{Decides}}
use Rattle.{std.proofs.lemmas.Slice.Eq.{slice_eq-Decides}, rule_model.specs.contracts.life.LifePartialEq.TheImpl.{ghosts as life_equality}}
use Rattle.rule_model.specs.declared.life.{Life.{Life, TheVariants.{Plain, Explicit, Finite, Infinite}}, LifeTable.{LifeTable}}
use Rattle.desk.proofs.going.told.Goals as goal

life_decides : (a b : Life) → Decides (life_equality.eq a b) (a ≡ b)
life_decides Plain Plain = (λ h. refl, λ e. refl)
life_decides Infinite Infinite = (λ h. refl, λ e. refl)
life_decides (Explicit m) (Explicit n) =
    let d = Decides-int_eq m n in (λ h. ap Explicit (d.0 h), λ e. d.1 (let same : Explicit m ≡ Explicit n = e in cc))
life_decides (Finite m) (Finite n) =
    let d = Decides-int_eq m n in (λ h. ap Finite (d.0 h), λ e. d.1 (let same : Finite m ≡ Finite n = e in cc))
life_decides a b = (λ h. absurd cc, λ e. absurd cc)

abbrev table_with : List Life → LifeTable
table_with lives = record { lives = lives }

pub returns-then-eq : goal.returns-then-eq
returns-then-eq c =
    let same = slice_eq-Decides life_decides c.args.table.now.lives c.args.own.now.lives c.eq.result c.eq.ensures in
    ap table_with (same.0 c.if-eq.true)

pub returns : goal.returns
returns c =
    let same = slice_eq-Decides life_decides c.args.table.now.lives c.args.own.now.lives c.eq.result c.eq.ensures in (
      c.in_ok-told.ensures,
      λ is. absurd (let clash : true ≡ false = sym (same.1 (ap (λ (t : LifeTable). t.lives) is)) ∙ c.if-eq.false in cc),
    )
