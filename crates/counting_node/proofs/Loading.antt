-- Rows that come with extras.
use Rattle.counting_node.proofs.Common.{◌≡◌, ◌∙◌, sym, ap, refl, subst, Bool, true, false, ◌&&◌, ◌||◌, Option, Some, None, fun_ext, Extra, Named, Row, Pattern}
use Rattle.counting_node.proofs.Common.{Look, joins, Memories, left_at, has_left, has_right, KeepsMemories, IsTallyLaden, AllLoaded, StepsTally, Arrives}
use Rattle.counting_node.proofs.{Common.{passing, is_some-false}, Following.{arrives_both}}

module _ {T : Type 0} (world : Look) where
  -- where another is asked of what arrives
  arrives_as : (b : Bool) (P Q : T → Look → (Named → Bool) → Type 0) (set : Named → Bool) (o after : Option T) → (b ≡ true → (t : T) → Q t world set → P t world set) → Arrives b Q world set o after → Arrives b P world set o after
  arrives_as true P Q set None after k q = (q.0, q.1, k refl q.0 q.2)
  arrives_as true P Q set (Some t) after k q = q
  arrives_as false P Q set o after k q = q

  arrived : (b : Bool) (P : T → Look → (Named → Bool) → Type 0) (set : Named → Bool) (o after : Option T) → b ≡ true → o ≡ None → Arrives b P world set o after → (t : T) × (after ≡ Some t) × P t world set
  arrived true P set None after e n q = q
  arrived true P set (Some t) after e n q = let f : Some t ≡ None = n in cc
  arrived false P set o after e n q = let f : false ≡ true = e in cc

none_stays : {T : Type 0} (R : T → T → Type 0) (o after : Option T) → o ≡ None → StepsTally R o after → after ≡ None
none_stays R None after e q = q
none_stays R (Some t) after e q = let f : Some t ≡ None = e in cc

module _ {T : Type 0} (holds : T → Look → (Named → Bool) → Type 0) (laden : T → Look → (Named → Bool) → Extra → Type 0) (look : Look) (m n z : Memories T) (extra : Row → Option Extra) where
  pub load_then : (left : Row → Bool) → KeepsMemories m n look left (has_right m look) → (a b all : Row → Bool) → ((r : Row) → (a r || b r) ≡ all r) → (o : Option Extra) → ((r : Row) → b r ≡ true → o ≡ extra r)
      → AllLoaded holds laden look extra a m n → AllLoaded holds laden look (λ r. o) b n z → AllLoaded holds laden look extra all m z
  load_then left keeps a b all is o same_extra p q world alike r =
      let same : passing n.pattern look (has_right n look) r ≡ passing m.pattern look (has_right m look) r =
      ap (λ (pattern : Pattern). passing pattern look (has_right n look) r) keeps.pattern ∙ fun_ext (λ x. ap (λ b. b && joins m.pattern look r x) (keeps.names x)) in
      subst (λ x. Arrives x (λ t world set. IsTallyLaden holds laden t world set (extra r)) world (passing m.pattern look (has_right m look) r) (left_at m look r) (left_at z look r)) (is r)
      (arrives_both (λ t world set. IsTallyLaden holds laden t world set (extra r)) world (a r) (b r) (passing m.pattern look (has_right m look) r) (left_at m look r) (left_at n look r) (left_at z look r) (p world alike r)
      (arrives_as world (b r) (λ t world set. IsTallyLaden holds laden t world set (extra r)) (λ t world set. IsTallyLaden holds laden t world set o) (passing m.pattern look (has_right m look) r) (left_at n look r) (left_at z look r)
      (λ e t h. subst (λ x. IsTallyLaden holds laden t world (passing m.pattern look (has_right m look) r) x) (same_extra r e) h)
      (subst (λ (set : Named → Bool). Arrives (b r) (λ t world set. IsTallyLaden holds laden t world set o) world set (left_at n look r) (left_at z look r)) same (q world (λ x e. alike x (sym (keeps.names x) ∙ e)) r))))

  -- a row that was not kept, after the candidates came
  pub loaded : (come : Row → Bool) (R : T → T → Type 0) (r : Row) (world : Look) → n.pattern ≡ m.pattern → ((c : Named) → has_right z look c ≡ has_right n look c)
      → has_left m look r ≡ false → come r ≡ true → StepsTally R (left_at m look r) (left_at n look r)
      → Arrives (come r) (λ t world set. IsTallyLaden holds laden t world set (extra r)) world (passing n.pattern look (has_right n look) r) (left_at n look r) (left_at z look r)
      → (t : T) × (left_at z look r ≡ Some t) × IsTallyLaden holds laden t world (passing m.pattern look (has_right z look) r) (extra r)
  loaded come R r world same stay absent comes first arrives =
      let new = arrived world (come r) (λ t world set. IsTallyLaden holds laden t world set (extra r)) (passing n.pattern look (has_right n look) r) (left_at n look r) (left_at z look r) comes
      (none_stays R (left_at m look r) (left_at n look r) (is_some-false (left_at m look r) absent) first) arrives in (
        new.0,
        new.1,
        subst (λ (set : Named → Bool). IsTallyLaden holds laden new.0 world set (extra r))
            (ap (λ (p : Pattern). passing p look (has_right n look) r) same ∙ fun_ext (λ c. ap (λ b. b && joins m.pattern look r c) (sym (stay c)))) new.2,
      )
