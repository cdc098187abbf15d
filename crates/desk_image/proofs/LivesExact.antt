-- What is read is spelled so, and what is spelled so is read: lives, and tables of lives.
use Rattle.desk_image.proofs.Common.{◌∙◌, ◌≡◌, ap, arith, subst, sym, ◌++◌, List, Some, [], refl, ℕ, ◌∷◌, ◌≤◌, length, suc, zero, AreOctets, Exact, bind_some}
use Rattle.desk_image.{proofs.Common.{some_is, ReadBytes, ◌>>=◌, Life, AreTableLives, IsImageLife, life_bytes, lives_bytes}, specs.Reading.{life_at}}
use Rattle.{desk_image.specs.Reading.{life_least, lives_at, table_of}, checkpoint.proofs.{Exact.{made_exact, signed_exact}, ListsExact.{list_exact}}}
use Rattle.{checkpoint.specs.Reading.{made_at}, rule_model.specs.declared.life.Life.TheVariants.{Plain, Explicit, Finite, Infinite}}

-- a life behind its first byte
tagged_takes : {A : Type 0} {s : A → List ℕ} {a : List ℕ → ReadBytes A} {F : A → Type 0} (make : A → Life) (tag : ℕ) → Exact s a F
    → ((x : A) → life_bytes (make x) ≡ tag ∷ s x) → ((x : A) → F x → IsImageLife (make x))
    → (bytes : List ℕ) (life : Life) (rest : List ℕ) → AreOctets (tag ∷ bytes) → made_at make a bytes ≡ Some (life, rest)
    → (tag ∷ bytes ≡ life_bytes life ++ rest) × IsImageLife life
tagged_takes {A} {s} {a} {F} make tag of spelled to bytes life rest octets e =
    let o = bind_some (a bytes) (λ x. Some (make x.0, x.1)) (life, rest) e in
    let one = of.takes bytes o.0.0 o.0.1 (λ i. octets (suc i)) o.1 in
    let parts : tag ∷ bytes ≡ life_bytes (make o.0.0) ++ o.0.1 = ap (λ (z : List ℕ). tag ∷ z) one.0 ∙ ap (λ (z : List ℕ). z ++ o.0.1) (sym (spelled o.0.0)) in
    subst (λ (z : Life × List ℕ). (tag ∷ bytes ≡ life_bytes z.0 ++ z.1) × IsImageLife z.0) (some_is (make o.0.0, o.0.1) (life, rest) o.2)
    (parts, to o.0.0 one.1)

tagged_again : {A : Type 0} {s : A → List ℕ} {a : List ℕ → ReadBytes A} {F : A → Type 0} (make : A → Life) → Exact s a F
    → (x : A) (rest : List ℕ) → F x → made_at make a (s x ++ rest) ≡ Some (make x, rest)
tagged_again {A} make of x rest f = ap (λ (o : ReadBytes A). o >>= λ y. Some (make y.0, y.1)) (of.again x rest f)

pub life_exact : Exact life_bytes life_at IsImageLife
unfolding life_at
life_exact = record { takes = takes; again = again }
  where
    takes : (bytes : List ℕ) (life : Life) (rest : List ℕ) → AreOctets bytes → life_at bytes ≡ Some (life, rest)
        → (bytes ≡ life_bytes life ++ rest) × IsImageLife life
    takes [] life rest octets e = absurd cc
    takes (zero ∷ bytes) life rest octets e =
        subst (λ (z : Life × List ℕ). (0 ∷ bytes ≡ life_bytes z.0 ++ z.1) × IsImageLife z.0) (some_is (Plain, bytes) (life, rest) e) (refl, tt)
    takes (suc zero ∷ bytes) life rest octets e = tagged_takes Explicit 1 signed_exact (λ x. refl) (λ x f. f) bytes life rest octets e
    takes (suc (suc zero) ∷ bytes) life rest octets e = tagged_takes Finite 2 signed_exact (λ x. refl) (λ x f. f) bytes life rest octets e
    takes (suc (suc (suc zero)) ∷ bytes) life rest octets e =
        subst (λ (z : Life × List ℕ). (3 ∷ bytes ≡ life_bytes z.0 ++ z.1) × IsImageLife z.0) (some_is (Infinite, bytes) (life, rest) e) (refl, tt)
    takes (suc (suc (suc (suc b))) ∷ bytes) life rest octets e = absurd cc

    again : (life : Life) (rest : List ℕ) → IsImageLife life → life_at (life_bytes life ++ rest) ≡ Some (life, rest)
    again Plain rest f = refl
    again (Explicit n) rest f = tagged_again Explicit signed_exact n rest f
    again (Finite n) rest f = tagged_again Finite signed_exact n rest f
    again Infinite rest f = refl

life_long : (life : Life) → life_least ≤ length (life_bytes life)
life_long Plain = omega arith
life_long (Explicit n) = omega arith
life_long (Finite n) = omega arith
life_long Infinite = omega arith

pub lives_exact : Exact lives_bytes lives_at AreTableLives
unfolding lives_at
lives_exact =
    made_exact table_of (λ t. t.lives) AreTableLives (λ x f. f) (λ y g. g) (λ x f. refl) (λ y g. refl)
    (list_exact life_exact life_least (omega arith) life_long)
