-- What is read is spelled so, and what is spelled so is read: numbers, and values made of values.
use Rattle.checkpoint.proofs.Common.{◌≡◌, ℕ, zero, suc, ◌^◌, ◌<◌, ◌≤◌, ℤ, pos, negsuc, FitsSigned, Bool, true, false, cond, ltb, List, [], ◌∷◌, ◌++◌, length}
use Rattle.checkpoint.proofs.Common.{get_or, take, drop, Option, Some, None, refl, sym, ap, subst, ◌∙◌, append_assoc, arith, inl, inr, Width, w16, w64}
use Rattle.checkpoint.proofs.Common.{byte_len, from_be_bytes, to_be_bytes, cast_signed, cast_unsigned, cases_lt, ltb-false, le-ltb, take_at, drop_at}
use Rattle.checkpoint.proofs.Common.{take-append-drop, length-append, length-take, get_or-take, get_or_past, be_bytes_2, be_bytes_8}
use Rattle.checkpoint.proofs.Common.{from_be_bytes-to_be_bytes_2, from_be_bytes-to_be_bytes_8, byte_bytes, short_bytes, long_bytes, signed_bytes, flag_bytes}
use Rattle.checkpoint.proofs.Common.{IsByte, FitsShort, FitsLong, IsSigned, IsFlag, ◌>>=◌, ReadBytes, byte_at, read_number, both_at, made_at}
use Rattle.{checkpoint.specs.Reading.{signed_at, flag_at}, std.proofs.lemmas.Int.{to_z-of_z, of_z-to_z, ints}}

-- ---- bytes

abbrev pub AreOctets : List ℕ → Type 0
AreOctets bytes = (i : ℕ) → get_or bytes i 0 < 256

-- those behind the first ones
pub behind : (front rest : List ℕ) → AreOctets (front ++ rest) → AreOctets rest
behind [] rest h = h
behind (b ∷ front) rest h = behind front rest (λ i. h (suc i))

octets_take : (n : ℕ) (bytes : List ℕ) → AreOctets bytes → AreOctets (take n bytes)
octets_take n bytes h i =
    elim (cases_lt i n) [
      | inl lt ↦ rw (get_or-take n bytes i 0 lt) (h i)
      | inr le ↦ rw (get_or_past (take n bytes) i 0 (omega (arith, length-take n bytes))) (omega arith)
    ]

-- ---- options

-- the value of a step
pub bind_some : {A B : Type 0} (o : Option A) (f : A → Option B) (y : B) → (o >>= f) ≡ Some y → (x : A) × (o ≡ Some x) × (f x ≡ Some y)
bind_some (Some x) f y e = (x, refl, e)
bind_some None f y e = absurd cc

-- a test that did not fail
pub guard_some : {A : Type 0} (b : Bool) (x y : A) → cond b None (Some x) ≡ Some y → (b ≡ false) × (x ≡ y)
guard_some true x y e = absurd cc
guard_some false x y e = (refl, cc)

abbrev some : {A : Type 0} → A → Option A
some x = Some x

pub some_is : {A : Type 0} (x y : A) → some x ≡ some y → x ≡ y
some_is x y e = cc

-- ---- exact readers

-- What is read stands at the front and is fit, and what is fit and stands at the front is read.
pub record Exact {A : Type 0} (spelling : A → List ℕ) (at : List ℕ → ReadBytes A) (Fit : A → Type 0) : Type 0 where
  pub takes : (bytes : List ℕ) (x : A) (rest : List ℕ) → AreOctets bytes → at bytes ≡ Some (x, rest) → (bytes ≡ spelling x ++ rest) × Fit x
  pub again : (x : A) (rest : List ℕ) → Fit x → at (spelling x ++ rest) ≡ Some (x, rest)

pub both_exact : {A B : Type 0} {s : A → List ℕ} {t : B → List ℕ} {a : List ℕ → ReadBytes A} {b : List ℕ → ReadBytes B} {F : A → Type 0} {G : B → Type 0}
    → Exact s a F → Exact t b G → Exact (λ (p : A × B). s p.0 ++ t p.1) (both_at a b) (λ (p : A × B). F p.0 × G p.1)
both_exact {A} {B} {s} {t} {a} {b} {F} {G} first second = record { takes = takes; again = again }
  where
    takes : (bytes : List ℕ) (p : A × B) (rest : List ℕ) → AreOctets bytes → both_at a b bytes ≡ Some (p, rest) → (bytes ≡ (s p.0 ++ t p.1) ++ rest) × (F p.0 × G p.1)
    takes bytes p rest octets e =
        let o = bind_some (a bytes) (λ x. b x.1 >>= λ y. Some ((x.0, y.0), y.1)) (p, rest) e in
        let q = bind_some (b o.0.1) (λ y. Some ((o.0.0, y.0), y.1)) (p, rest) o.2 in
        let one = first.takes bytes o.0.0 o.0.1 octets o.1 in
        let two = second.takes o.0.1 q.0.0 q.0.1 (behind (s o.0.0) o.0.1 (subst AreOctets one.0 octets)) q.1 in
        let parts : bytes ≡ (s o.0.0 ++ t q.0.0) ++ q.0.1 = one.0 ∙ ap (λ (z : List ℕ). s o.0.0 ++ z) two.0 ∙ sym (append_assoc (s o.0.0) (t q.0.0) q.0.1) in
        subst (λ (z : (A × B) × List ℕ). (bytes ≡ (s z.0.0 ++ t z.0.1) ++ z.1) × (F z.0.0 × G z.0.1)) (some_is ((o.0.0, q.0.0), q.0.1) (p, rest) q.2) (parts, (one.1, two.1))

    again : (p : A × B) (rest : List ℕ) → F p.0 × G p.1 → both_at a b ((s p.0 ++ t p.1) ++ rest) ≡ Some (p, rest)
    again p rest f =
        ap (both_at a b) (append_assoc (s p.0) (t p.1) rest)
        ∙ ap (λ (o : ReadBytes A). o >>= λ x. b x.1 >>= λ y. Some ((x.0, y.0), y.1)) (first.again p.0 (t p.1 ++ rest) f.0)
        ∙ ap (λ (o : ReadBytes B). o >>= λ y. Some ((p.0, y.0), y.1)) (second.again p.1 rest f.1)

pub made_exact : {A B : Type 0} {s : A → List ℕ} {a : List ℕ → ReadBytes A} {F : A → Type 0} (make : A → B) (parts : B → A) (G : B → Type 0)
    → ((x : A) → F x → G (make x)) → ((y : B) → G y → F (parts y)) → ((x : A) → F x → parts (make x) ≡ x) → ((y : B) → G y → make (parts y) ≡ y)
    → Exact s a F → Exact (λ (y : B). s (parts y)) (made_at make a) G
made_exact {A} {B} {s} {a} {F} make parts G to from back there of = record { takes = takes; again = again }
  where
    takes : (bytes : List ℕ) (y : B) (rest : List ℕ) → AreOctets bytes → made_at make a bytes ≡ Some (y, rest) → (bytes ≡ s (parts y) ++ rest) × G y
    takes bytes y rest octets e =
        let o = bind_some (a bytes) (λ x. Some (make x.0, x.1)) (y, rest) e in
        let one = of.takes bytes o.0.0 o.0.1 octets o.1 in
        let front : bytes ≡ s (parts (make o.0.0)) ++ o.0.1 = subst (λ (x : A). bytes ≡ s x ++ o.0.1) (sym (back o.0.0 one.1)) one.0 in
        subst (λ (z : B × List ℕ). (bytes ≡ s (parts z.0) ++ z.1) × G z.0) (some_is (make o.0.0, o.0.1) (y, rest) o.2) (front, to o.0.0 one.1)

    again : (y : B) (rest : List ℕ) → G y → made_at make a (s (parts y) ++ rest) ≡ Some (y, rest)
    again y rest g =
        ap (λ (o : ReadBytes A). o >>= λ x. Some (make x.0, x.1)) (of.again (parts y) rest (from y g)) ∙ ap (λ (z : B). Some (z, rest)) (there y g)

-- ---- numbers

pub byte_exact : Exact byte_bytes byte_at IsByte
byte_exact = record { takes = takes; again = λ x rest f. refl }
  where
    takes : (bytes : List ℕ) (x : ℕ) (rest : List ℕ) → AreOctets bytes → byte_at bytes ≡ Some (x, rest) → (bytes ≡ byte_bytes x ++ rest) × IsByte x
    takes [] x rest octets e = absurd cc
    takes (b ∷ bytes) x rest octets e =
        subst (λ (z : ℕ × List ℕ). (b ∷ bytes ≡ z.0 ∷ z.1) × IsByte z.0) (some_is (b, bytes) (x, rest) e) (refl, octets 0)

record IsWide (w : Width) (limit : ℕ) : Type 0 where
  len : (n : ℕ) → length (to_be_bytes w n) ≡ byte_len w
  back : (bytes : List ℕ) → length bytes ≡ byte_len w → AreOctets bytes → to_be_bytes w (from_be_bytes w bytes) ≡ bytes
  once_more : (n : ℕ) → n < limit → from_be_bytes w (to_be_bytes w n) ≡ n
  below : (bytes : List ℕ) → AreOctets bytes → from_be_bytes w bytes < limit

wide16 : IsWide w16 (2 ^ 16)
wide16 = record {
  len = λ n. refl;
  back = λ bytes len octets. be_bytes_2 bytes _ len octets refl;
  once_more = λ n lt. from_be_bytes-to_be_bytes_2 n lt;
  below = λ bytes octets. omega (arith, octets 0, octets 1);
}

wide64 : IsWide w64 (2 ^ 64)
wide64 = record {
  len = λ n. refl;
  back = λ bytes len octets. be_bytes_8 bytes _ len octets refl;
  once_more = λ n lt. from_be_bytes-to_be_bytes_8 n lt;
  below = λ bytes octets. omega (arith, octets 0, octets 1, octets 2, octets 3, octets 4, octets 5, octets 6, octets 7);
}

number_takes : (w : Width) (limit : ℕ) (wide : IsWide w limit) (bytes : List ℕ) (n : ℕ) (rest : List ℕ) → AreOctets bytes → read_number w bytes ≡ Some (n, rest)
    → (bytes ≡ to_be_bytes w n ++ rest) × (n < limit)
number_takes w limit wide bytes n rest octets e =
    let g = guard_some (ltb (length bytes) (byte_len w)) (from_be_bytes w (take (byte_len w) bytes), drop (byte_len w) bytes) (n, rest) e in
    let long : byte_len w ≤ length bytes = ltb-false _ _ g.0 in
    let front : to_be_bytes w (from_be_bytes w (take (byte_len w) bytes)) ≡ take (byte_len w) bytes =
    wide.back (take (byte_len w) bytes) (omega (arith, length-take (byte_len w) bytes)) (octets_take (byte_len w) bytes octets) in
    let parts : bytes ≡ to_be_bytes w (from_be_bytes w (take (byte_len w) bytes)) ++ drop (byte_len w) bytes =
    sym (take-append-drop (byte_len w) bytes) ∙ ap (λ (z : List ℕ). z ++ drop (byte_len w) bytes) (sym front) in
    subst (λ (z : ℕ × List ℕ). (bytes ≡ to_be_bytes w z.0 ++ z.1) × (z.0 < limit)) g.1 (parts, wide.below (take (byte_len w) bytes) (octets_take (byte_len w) bytes octets))

number_again : (w : Width) (limit : ℕ) (wide : IsWide w limit) (n : ℕ) (rest : List ℕ) → n < limit → read_number w (to_be_bytes w n ++ rest) ≡ Some (n, rest)
number_again w limit wide n rest lt =
    let len = wide.len n in
    let long : ltb (length (to_be_bytes w n ++ rest)) (byte_len w) ≡ false = le-ltb _ _ (omega (arith, length-append (to_be_bytes w n) rest)) in
    rw (long, take_at (to_be_bytes w n) rest (byte_len w) len, drop_at (to_be_bytes w n) rest (byte_len w) len, wide.once_more n lt) refl

pub short_exact : Exact short_bytes (read_number w16) FitsShort
short_exact = record { takes = number_takes w16 (2 ^ 16) wide16; again = number_again w16 (2 ^ 16) wide16 }

pub long_exact : Exact long_bytes (read_number w64) FitsLong
long_exact = record { takes = number_takes w64 (2 ^ 64) wide64; again = number_again w64 (2 ^ 64) wide64 }

signed_within : (w : Width) (n : ℕ) → FitsSigned w (cast_signed w n)
signed_within w n = omega (arith, ints)

signed_fits : (n : ℕ) → FitsLong n → IsSigned (cast_signed w64 n)
signed_fits n h = signed_within w64 n

unsigned_fits : (z : ℤ) → IsSigned z → FitsLong (cast_unsigned w64 z)
unsigned_fits (pos n) h = let s = h.sfits in omega arith
unsigned_fits (negsuc n) h = omega arith

pub signed_exact : Exact signed_bytes signed_at IsSigned
unfolding signed_at
signed_exact =
    made_exact (cast_signed w64) (cast_unsigned w64) IsSigned signed_fits unsigned_fits (λ n h. of_z-to_z w64 n h) (λ z h. to_z-of_z w64 z h) long_exact

pub flag_exact : Exact flag_bytes flag_at IsFlag
unfolding flag_at
flag_exact = record { takes = takes; again = again }
  where
    takes : (bytes : List ℕ) (x : Bool) (rest : List ℕ) → AreOctets bytes → flag_at bytes ≡ Some (x, rest) → (bytes ≡ flag_bytes x ++ rest) × IsFlag x
    takes [] x rest octets e = absurd cc
    takes (zero ∷ bytes) x rest octets e =
        subst (λ (z : Bool × List ℕ). (0 ∷ bytes ≡ flag_bytes z.0 ++ z.1) × IsFlag z.0) (some_is (false, bytes) (x, rest) e) (refl, tt)
    takes (suc zero ∷ bytes) x rest octets e =
        subst (λ (z : Bool × List ℕ). (1 ∷ bytes ≡ flag_bytes z.0 ++ z.1) × IsFlag z.0) (some_is (true, bytes) (x, rest) e) (refl, tt)
    takes (suc (suc b) ∷ bytes) x rest octets e = absurd cc

    again : (x : Bool) (rest : List ℕ) → IsFlag x → flag_at (flag_bytes x ++ rest) ≡ Some (x, rest)
    again false rest f = refl
    again true rest f = refl
