-- Images that are given in pieces.
use Rattle.checkpoint.proofs.Common.{◌≡◌, ℕ, suc, ◌+◌, ◌<◌, List, [], ◌∷◌, ◌++◌, length, get_or, drop, Bor, append_assoc, drop_more, refl, sym, ap, subst, ◌∙◌}
use Rattle.checkpoint.proofs.Common.{each_bytes, Each, long_bytes, list_bytes, fact_bytes, AreAll, IsFact, FitsLong, codes, extra_bytes, fired_bytes}
use Rattle.checkpoint.{proofs.Common.{flag_bytes, run_bytes, signed_bytes}, specs.{Bytes.{image_bytes, IsImage}, Pieces.{AreNumbers, bytes_at, fit_at}}}
use Rattle.{checkpoint.specs.{Pieces.{number_bytes, whole}, declared.pieces.{LentImage.{LentImage}, Next.TheVariants.{Facts}}}, std.specs.Prelude.{map}}
use Rattle.fx_base.specs.declared.fact.Fact.{Fact}

-- ---- facts that are lent

length_lent : (facts : List (Bor Fact)) → length (map (λ (f : Bor Fact). f.now) facts) ≡ length facts
length_lent [] = refl
length_lent (f ∷ facts) = ap suc (length_lent facts)

each_lent : (facts : List (Bor Fact)) → each_bytes fact_bytes (map (λ (f : Bor Fact). f.now) facts) ≡ each_bytes (λ (f : Bor Fact). fact_bytes f.now) facts
each_lent [] = refl
each_lent (f ∷ facts) = ap (λ (b : List ℕ). fact_bytes f.now ++ b) (each_lent facts)

lent_bytes : (facts : List (Bor Fact)) → list_bytes fact_bytes (map (λ (f : Bor Fact). f.now) facts) ≡ long_bytes (length facts) ++ each_bytes (λ (f : Bor Fact). fact_bytes f.now) facts
lent_bytes facts = rw (length_lent facts, each_lent facts) refl

fit_lent : (facts : List (Bor Fact)) → Each (λ (f : Bor Fact). IsFact f.now) facts → Each IsFact (map (λ (f : Bor Fact). f.now) facts)
fit_lent [] fit = tt
fit_lent (f ∷ facts) fit = (fit.0, fit_lent facts fit.1)

all_fit : (facts : List (Bor Fact)) → FitsLong (length facts) → Each (λ (f : Bor Fact). IsFact f.now) facts → AreAll IsFact (map (λ (f : Bor Fact). f.now) facts)
all_fit facts long fit = (subst FitsLong (sym (length_lent facts)) long, fit_lent facts fit)

-- ---- the front

-- the bytes behind the numbers of an image
pub front_then : (image : LentImage) (old out : List ℕ) → out ≡ old ++ (codes "FXC1" ++ number_bytes image.apart (length image.facts.items))
    → out ++ bytes_at image (Facts 0) ≡ old ++ image_bytes (whole image)
unfolding image_bytes
front_then image old out is =
    let facts = image.facts.items in
    let lists = list_bytes fired_bytes image.apart.fired ++ list_bytes extra_bytes image.apart.extras in
    regroup old out (codes "FXC1") (run_bytes image.apart.run) (signed_bytes image.apart.clock) (flag_bytes image.apart.begun) (list_bytes signed_bytes image.apart.last_starts)
    (list_bytes signed_bytes image.apart.promises) (long_bytes image.apart.next_id) (long_bytes image.apart.next_tag) (long_bytes (length facts))
    (each_bytes (λ (f : Bor Fact). fact_bytes f.now) facts) (list_bytes fact_bytes (map (λ (f : Bor Fact). f.now) facts)) lists (lent_bytes facts) is
  where
    regroup : (old out head a b c d e f g n items all rest : List ℕ) → all ≡ n ++ items → out ≡ old ++ (head ++ (a ++ (b ++ (c ++ (d ++ (e ++ (f ++ (g ++ n))))))))
        → out ++ (items ++ rest) ≡ old ++ (head ++ (a ++ (b ++ (c ++ (d ++ (e ++ (f ++ (g ++ (all ++ rest)))))))))
    regroup old out head a b c d e f g n items all rest is_all is = rw (is_all, is) (simp append_assoc)

pub front_fit : (image : LentImage) → AreNumbers image.apart (length image.facts.items) → fit_at image (Facts 0) → IsImage (whole image)
unfolding IsImage
front_fit image front fit = (
  front.0,
  (
    front.1.0,
    (
      front.1.1.0,
      (
        front.1.1.1.0,
        (
          front.1.1.1.1.0,
          (
            front.1.1.1.1.1.0,
            (
              front.1.1.1.1.1.1.0,
              (all_fit image.facts.items front.1.1.1.1.1.1.1 fit.0, fit.1),
            ),
          ),
        ),
      ),
    ),
  ),
)
