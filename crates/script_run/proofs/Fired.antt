-- The firings of a fire command, one by one.
use Rattle.script_run.proofs.Common.{◌≡◌, ℕ, zero, suc, ◌||◌, Bool, true, false, List, [], ◌++◌, Option, Some, None, refl, sym, ◌∙◌, ap, append_assoc, is_some}
use Rattle.script_run.proofs.Common.{flat_map-append, list_any-append, append-nil, Program, World, OutLine, Goes, Stops, Fires, Firings, all_fired, limit_met}
use Rattle.script_run.proofs.Common.{onto_lines, none_left, then_fires, wants_one, one_less, RunSetting, fire_step, Does, EndsFirings, written_line}
use Rattle.script_run.{proofs.Common.{written_lines, written_limit, has_fault, is_fault}, specs.Firings.{firings}}
use Rattle.{answer_lines.specs.declared.lines.Fired.TheVariants.{No, Yes}, engine.specs.Answers.{FiringAnswers}, line_run.specs.declared.turn.Turn.{Turn}}

-- either of two, by the first
pub or_first : (a b either : Bool) → a ≡ true → either ≡ a → either ≡ (a || b)
or_first a b either h e = e ∙ h ∙ sym (ap (λ (z : Bool). z || b) h)

pub or_second : (a b either : Bool) → a ≡ false → either ≡ b → either ≡ (a || b)
or_second a b either h e = e ∙ sym (ap (λ (z : Bool). z || b) h)

-- the command wants no more
fires_enough : (fires : Fires) (p : Program) (most : Option ℕ) (left : ℕ) (w : World) → wants_one most ≡ false → firings fires p most left w ≡ all_fired [] w left
unfolding firings
fires_enough fires p most zero w enough = rw enough refl
fires_enough fires p most (suc n) w enough = rw enough refl

-- nothing is pending
fires_none : (fires : Fires) (p : Program) (most : Option ℕ) (left : ℕ) (w : World) → wants_one most ≡ true → fires p w ≡ None → firings fires p most left w ≡ all_fired [] w left
unfolding firings
fires_none fires p most zero w wants e = rw (wants, e) refl
fires_none fires p most (suc n) w wants e = rw (wants, e) refl

-- a firing more
fires_some : (fires : Fires) (p : Program) (most : Option ℕ) (left n : ℕ) (w : World) (f : List OutLine × World) → wants_one most ≡ true → left ≡ suc n → fires p w ≡ Some f
    → firings fires p most left w ≡ onto_lines f.0 (firings fires p (one_less most) n f.1)
unfolding firings
fires_some fires p most left n w f wants at e = ap (λ k. firings fires p most k w) at ∙ rw (wants, e) refl

-- no firing is left
fires_over : (fires : Fires) (p : Program) (most : Option ℕ) (left : ℕ) (w : World) (f : List OutLine × World) → wants_one most ≡ true → left ≡ 0 → fires p w ≡ Some f → firings fires p most left w ≡ limit_met []
unfolding firings
fires_over fires p most left w f wants at e = ap (λ k. firings fires p most k w) at ∙ rw (wants, e) refl

onto_onto : (a b : List OutLine) (r : Firings) → onto_lines a (onto_lines b r) ≡ onto_lines (a ++ b) r
onto_onto a b (all_fired lines w left) = ap (λ z. all_fired z w left) (sym (append_assoc a b lines))
onto_onto a b (limit_met lines) = ap limit_met (sym (append_assoc a b lines))

-- what a fire command comes to is what was fired so far and what is fired from the present world on
pub record Remains (setting : RunSetting) (number : ℕ) (all : Firings) (most : Option ℕ) (left : ℕ) (v : World) (before after : List ℕ) (bad : Bool) : Type 0 where
  pub lines : List OutLine
  pub all-is : all ≡ onto_lines lines (firings setting.fires setting.program most left v)
  pub text : after ≡ before ++ written_lines setting.form setting.program number lines
  pub faulty : bad ≡ has_fault lines

-- one firing more
pub next_remains : (setting : RunSetting) (number : ℕ) (all : Firings) (most : Option ℕ) (left n : ℕ) (v : World) (before after : List ℕ) (bad : Bool) (f : List OutLine × World) (after' : List ℕ) (bad' : Bool)
    → Remains setting number all most left v before after bad → wants_one most ≡ true → left ≡ suc n → setting.fires setting.program v ≡ Some f → after' ≡ after ++ written_lines setting.form setting.program number f.0 → bad' ≡ (bad || has_fault f.0)
    → Remains setting number all (one_less most) n f.1 before after' bad'
next_remains setting number all most left n v before after bad f after' bad' r wants at e t b = record {
  lines = r.lines ++ f.0;
  all-is = r.all-is ∙ ap (onto_lines r.lines) (fires_some setting.fires setting.program most left n v f wants at e) ∙ onto_onto r.lines f.0 (firings setting.fires setting.program (one_less most) n f.1);
  text = t ∙ ap (λ z. z ++ written_lines setting.form setting.program number f.0) r.text ∙ append_assoc before (written_lines setting.form setting.program number r.lines) (written_lines setting.form setting.program number f.0)
      ∙ ap (λ z. before ++ z) (sym (flat_map-append (written_line setting.form setting.program number) r.lines f.0));
  faulty = b ∙ ap (λ z. z || has_fault f.0) r.faulty ∙ sym (list_any-append is_fault r.lines f.0);
}

-- no more is fired
over_remains : (setting : RunSetting) (number : ℕ) (all : Firings) (most : Option ℕ) (left : ℕ) (v : World) (before after : List ℕ) (bad : Bool) (stands : World → Type 0)
    → Remains setting number all most left v before after bad → firings setting.fires setting.program most left v ≡ all_fired [] v left → stands v
    → Does stands (fire_step setting number all) before after (Goes bad left)
over_remains setting number all most left v before after bad stands r e st =
    let is : all ≡ all_fired r.lines v left = r.all-is ∙ ap (onto_lines r.lines) e ∙ ap (λ z. all_fired z v left) (append-nil r.lines) in
    rw is (r.text, st, ap (λ b. Goes b left) r.faulty)

-- the command wants no more
pub enough_remains : (setting : RunSetting) (number : ℕ) (all : Firings) (most : Option ℕ) (left : ℕ) (v : World) (before after : List ℕ) (bad : Bool) (stands : World → Type 0)
    → Remains setting number all most left v before after bad → wants_one most ≡ false → stands v
    → Does stands (fire_step setting number all) before after (Goes bad left)
enough_remains setting number all most left v before after bad stands r enough st =
    over_remains setting number all most left v before after bad stands r (fires_enough setting.fires setting.program most left v enough) st

-- nothing is pending any more
pub done_remains : (setting : RunSetting) (number : ℕ) (all : Firings) (most : Option ℕ) (left : ℕ) (v : World) (before after : List ℕ) (bad : Bool) (stands : World → Type 0)
    → Remains setting number all most left v before after bad → wants_one most ≡ true → setting.fires setting.program v ≡ None → stands v
    → Does stands (fire_step setting number all) before after (Goes bad left)
done_remains setting number all most left v before after bad stands r wants e st =
    over_remains setting number all most left v before after bad stands r (fires_none setting.fires setting.program most left v wants e) st

-- a match is pending, and no firing is left
limit_remains : (setting : RunSetting) (number : ℕ) (all : Firings) (most : Option ℕ) (left : ℕ) (v : World) (before after after' : List ℕ) (bad : Bool) (f : List OutLine × World) (stands : World → Type 0)
    → Remains setting number all most left v before after bad → wants_one most ≡ true → left ≡ 0 → setting.fires setting.program v ≡ Some f → after' ≡ after ++ written_limit setting.form number setting.limit
    → Does stands (fire_step setting number all) before after' Stops
limit_remains setting number all most left v before after after' bad f stands r wants at e t =
    let is : all ≡ limit_met r.lines = r.all-is ∙ ap (onto_lines r.lines) (fires_over setting.fires setting.program most left v f wants at e) ∙ ap limit_met (append-nil r.lines) in
    rw is (t ∙ ap (λ z. z ++ written_limit setting.form number setting.limit) r.text ∙ append_assoc before (written_lines setting.form setting.program number r.lines) (written_limit setting.form number setting.limit), refl)

-- the loop of firings has ended with none left, and the command wants one
pub end_remains : (setting : RunSetting) (number : ℕ) (all : Firings) (most : Option ℕ) (left : ℕ) (v : World) (before after after' : List ℕ) (bad : Bool) (turn : Turn) (stands : World → Type 0)
    → Remains setting number all most left v before after bad → wants_one most ≡ true → left ≡ 0 → stands v → EndsFirings (written_limit setting.form number setting.limit) (setting.fires setting.program v) bad after after' turn
    → Does stands (fire_step setting number all) before after' turn
end_remains setting number all most left v before after after' bad turn stands r wants at st h = here (setting.fires setting.program v) refl h
  where
    here : (o : Option (List OutLine × World)) → setting.fires setting.program v ≡ o → EndsFirings (written_limit setting.form number setting.limit) o bad after after' turn → Does stands (fire_step setting number all) before after' turn
    here None e k =
        let d : Does stands (fire_step setting number all) before after (Goes bad left) = done_remains setting number all most left v before after bad stands r wants e st in
        rw (k.0, k.1, sym at) d
    here (Some f) e k = rw k.1 (limit_remains setting number all most left v before after after' bad f stands r wants at e k.0)

-- what an answer says of the firing
pub yes_answer : (o : Option (List OutLine × World)) (lines : List OutLine) (v : World) (S : World → Type 0) → FiringAnswers o (Yes lines) v S
    → (f : List OutLine × World) × ((o ≡ Some f) × (lines ≡ f.0) × S f.1)
yes_answer None lines v S h = absurd (let e : Yes lines ≡ No = h.0 in cc)
yes_answer (Some f) lines v S h = (f, (refl, yes_is lines f.0 h.0, h.1))
  where
    yes_is : (a b : List OutLine) → Yes a ≡ Yes b → a ≡ b
    yes_is a b e = cc

pub no_answer : (o : Option (List OutLine × World)) (v : World) (S : World → Type 0) → FiringAnswers o No v S → (o ≡ None) × S v
no_answer None v S h = (refl, h.1)
no_answer (Some f) v S h = absurd (let e : No ≡ Yes f.0 = h.0 in cc)

pub none_pending : (told : List ℕ) (o : Option (List OutLine × World)) (faulty : Bool) (text : List ℕ) → false ≡ is_some o → EndsFirings told o faulty text text (Goes faulty 0)
none_pending told None faulty text e = (refl, refl)
none_pending told (Some f) faulty text e = absurd (let k : false ≡ true = e in cc)

-- nothing is pending where the limit was not met, for a command that wants all firings
pub settled : (fires : Fires) (p : Program) (left : ℕ) (w : World) (lines : List OutLine) (v : World) (more : ℕ) → firings fires p None left w ≡ all_fired lines v more → fires p v ≡ None
unfolding firings
settled fires p zero w lines v more h = here (fires p w) refl h
  where
    world_is : (a b : List OutLine) (x y : World) (m n : ℕ) → all_fired a x m ≡ all_fired b y n → x ≡ y
    world_is a b x y m n e = cc

    here : (o : Option (List OutLine × World)) → fires p w ≡ o → none_left o w ≡ all_fired lines v more → fires p v ≡ None
    here None e k = ap (fires p) (sym (world_is _ _ _ _ _ _ k)) ∙ e
    here (Some f) e k = absurd cc
settled fires p (suc n) w lines v more h = here (fires p w) refl h (λ u ls k. settled fires p n u ls v more k)
  where
    world_is : (a b : List OutLine) (x y : World) (m k : ℕ) → all_fired a x m ≡ all_fired b y k → x ≡ y
    world_is a b x y m k e = cc

    left_is : (a b : List OutLine) (x y : World) (m k : ℕ) → all_fired a x m ≡ all_fired b y k → m ≡ k
    left_is a b x y m k e = cc

    inner : (ls : List OutLine) (r : Firings) → onto_lines ls r ≡ all_fired lines v more → (us : List OutLine) × (r ≡ all_fired us v more)
    inner ls (all_fired us x m) k = (us, ap (λ z. all_fired us z m) (world_is _ _ _ _ _ _ k) ∙ ap (all_fired us v) (left_is _ _ _ _ _ _ k))
    inner ls (limit_met us) k = absurd cc

    here : (o : Option (List OutLine × World)) → fires p w ≡ o → then_fires o w (suc n) (firings fires p None n) ≡ all_fired lines v more
        → ((u : World) (ls : List OutLine) → firings fires p None n u ≡ all_fired ls v more → fires p v ≡ None) → fires p v ≡ None
    here None e k rest = ap (fires p) (sym (world_is _ _ _ _ _ _ k)) ∙ e
    here (Some f) e k rest = let i = inner f.0 (firings fires p None n f.1) k in rest f.1 i.0 i.1
