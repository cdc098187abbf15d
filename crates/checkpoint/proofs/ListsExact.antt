-- The same for strings, texts and lists.
use Rattle.checkpoint.proofs.Common.{◌≡◌, ℕ, zero, suc, ◌+◌, ◌*◌, ◌/◌, ◌<◌, ◌≤◌, Bool, true, false, cond, ltb, List, [], ◌∷◌, ◌++◌, length, take, drop, Option}
use Rattle.checkpoint.proofs.Common.{Some, None, option_map, Result, Ok, Err, Bor, refl, sym, ap, subst, ◌∙◌, append_assoc, suc-mul, arith, MatchResult, w64}
use Rattle.checkpoint.proofs.Common.{ltb-false, le-ltb, take_at, drop_at, take-append-drop, length-append, length-take, le-div, is_utf8-from_IsUtf8}
use Rattle.checkpoint.proofs.Common.{IsUtf8-from_is_utf8, long_bytes, string_bytes, each_bytes, list_bytes, IsByte, FitsLong, IsImageText, Each, AreAll}
use Rattle.checkpoint.{proofs.Common.{AreBytes, ◌>>=◌, ReadBytes, read_number}, specs.Reading.{string_at, utf8_text, read_text, read_items, list_at}}
use Rattle.{checkpoint.proofs.Exact.{AreOctets, behind, bind_some, guard_some, some_is, Exact, long_exact}, std.specs.{Result.{result_ok}, Str.{is_utf8}}}
use Rattle.std.specs.Str.{IsUtf8}

-- ---- strings

pub each_octet : (bytes : List ℕ) → AreOctets bytes → Each IsByte bytes
each_octet [] octets = tt
each_octet (b ∷ bytes) octets = (octets 0, each_octet bytes (λ i. octets (suc i)))

front_octets : (front rest : List ℕ) → AreOctets (front ++ rest) → Each IsByte front
front_octets [] rest octets = tt
front_octets (b ∷ front) rest octets = (octets 0, front_octets front rest (λ i. octets (suc i)))

string_takes : (bytes t rest : List ℕ) → AreOctets bytes → string_at bytes ≡ Some (t, rest) → (bytes ≡ string_bytes t ++ rest) × AreBytes t
unfolding string_at
string_takes bytes t rest octets e =
    let o = bind_some (read_number w64 bytes) (λ n. cond (ltb (length n.1) n.0) None (Some (take n.0 n.1, drop n.0 n.1))) (t, rest) e in
    let n = o.0 in
    let one = long_exact.takes bytes n.0 n.1 octets o.1 in
    let g = guard_some (ltb (length n.1) n.0) (take n.0 n.1, drop n.0 n.1) (t, rest) o.2 in
    let long : n.0 ≤ length n.1 = ltb-false _ _ g.0 in
    let len : length (take n.0 n.1) ≡ n.0 = omega (arith, length-take n.0 n.1) in
    let there : n.1 ≡ take n.0 n.1 ++ drop n.0 n.1 = sym (take-append-drop n.0 n.1) in
    let parts : bytes ≡ string_bytes (take n.0 n.1) ++ drop n.0 n.1 =
    one.0 ∙ ap (λ (z : List ℕ). long_bytes n.0 ++ z) there ∙ sym (append_assoc (long_bytes n.0) (take n.0 n.1) (drop n.0 n.1))
    ∙ ap (λ (k : ℕ). (long_bytes k ++ take n.0 n.1) ++ drop n.0 n.1) (sym len) in
    let inside : AreOctets (take n.0 n.1 ++ drop n.0 n.1) = subst AreOctets there (behind (long_bytes n.0) n.1 (subst AreOctets one.0 octets)) in
    subst (λ (z : List ℕ × List ℕ). (bytes ≡ string_bytes z.0 ++ z.1) × AreBytes z.0) g.1
    (parts, (subst FitsLong (sym len) one.1, front_octets (take n.0 n.1) (drop n.0 n.1) inside))

string_again : (t rest : List ℕ) → FitsLong (length t) → string_at (string_bytes t ++ rest) ≡ Some (t, rest)
unfolding string_at
string_again t rest lt =
    let long : ltb (length (t ++ rest)) (length t) ≡ false = le-ltb _ _ (omega (arith, length-append t rest)) in
    ap (λ (z : List ℕ). read_number w64 z >>= λ n. cond (ltb (length n.1) n.0) None (Some (take n.0 n.1, drop n.0 n.1))) (append_assoc (long_bytes (length t)) t rest)
    ∙ ap (λ (o : ReadBytes ℕ). o >>= λ n. cond (ltb (length n.1) n.0) None (Some (take n.0 n.1, drop n.0 n.1))) (long_exact.again (length t) (t ++ rest) lt)
    ∙ rw (long, take_at t rest (length t) refl, drop_at t rest (length t) refl) refl

pub string_exact : Exact string_bytes string_at AreBytes
string_exact = record { takes = string_takes; again = λ t rest h. string_again t rest h.0 }

-- ---- texts

utf8_is : (bytes : List ℕ) (b : Bool) → is_utf8 bytes ≡ b → utf8_text bytes ≡ cond b (Some bytes) None
unfolding utf8_text
utf8_is bytes b e = rw e refl

utf8_takes : (b : Bool) (bytes t : List ℕ) → is_utf8 bytes ≡ b → utf8_text bytes ≡ Some t → (bytes ≡ t) × (is_utf8 bytes ≡ true)
utf8_takes true bytes t e h = (some_is bytes t (sym (utf8_is bytes true e) ∙ h), e)
utf8_takes false bytes t e h = let n : None ≡ Some t = sym (utf8_is bytes false e) ∙ h in absurd cc

not_utf8 : (b : Bool) (bytes : List ℕ) → is_utf8 bytes ≡ b → (IsUtf8 bytes → ⊥) → utf8_text bytes ≡ None
not_utf8 true bytes e refused = absurd (refused (IsUtf8-from_is_utf8 bytes e))
not_utf8 false bytes e refused = utf8_is bytes false e

pub text_from : {E : Type 0} (bytes : List ℕ) (r : Result (Bor (List ℕ)) E) (Q : E → Type 0)
    → MatchResult r (λ s. (s.now ≡ bytes) × IsUtf8 bytes) (λ e. (IsUtf8 bytes → ⊥) × Q e) → option_map (λ text. text.now) (result_ok r) ≡ utf8_text bytes
text_from bytes (Ok s) Q h = ap (λ (z : List ℕ). Some z) h.0 ∙ sym (utf8_is bytes true (is_utf8-from_IsUtf8 bytes h.1))
text_from bytes (Err e) Q h = sym (not_utf8 (is_utf8 bytes) bytes refl h.0)

text_takes : (bytes t rest : List ℕ) → AreOctets bytes → read_text bytes ≡ Some (t, rest) → (bytes ≡ string_bytes t ++ rest) × IsImageText t
unfolding read_text
text_takes bytes t rest octets e =
    let o = bind_some (string_at bytes) (λ s. utf8_text s.0 >>= λ t. Some (t, s.1)) (t, rest) e in
    let q = bind_some (utf8_text o.0.0) (λ t. Some (t, o.0.1)) (t, rest) o.2 in
    let one = string_takes bytes o.0.0 o.0.1 octets o.1 in
    let u = utf8_takes (is_utf8 o.0.0) o.0.0 q.0 refl q.1 in
    let same : (o.0.0, o.0.1) ≡ (t, rest) = ap (λ (z : List ℕ). (z, o.0.1)) u.0 ∙ some_is (q.0, o.0.1) (t, rest) q.2 in
    subst (λ (z : List ℕ × List ℕ). (bytes ≡ string_bytes z.0 ++ z.1) × IsImageText z.0) same (one.0, (one.1.0, u.1))

text_again : (t rest : List ℕ) → IsImageText t → read_text (string_bytes t ++ rest) ≡ Some (t, rest)
unfolding read_text
text_again t rest h =
    ap (λ (o : ReadBytes (List ℕ)). o >>= λ s. utf8_text s.0 >>= λ t. Some (t, s.1)) (string_again t rest h.0)
    ∙ ap (λ (o : Option (List ℕ)). o >>= λ t. Some (t, rest)) (utf8_is t true h.1)

pub text_exact : Exact string_bytes read_text IsImageText
text_exact = record { takes = text_takes; again = text_again }

-- ---- lists

module _ {A : Type 0} {s : A → List ℕ} {a : List ℕ → ReadBytes A} {F : A → Type 0} (of : Exact s a F) where
  items_take : (n : ℕ) (bytes : List ℕ) (xs : List A) (rest : List ℕ) → AreOctets bytes → read_items a n bytes ≡ Some (xs, rest)
      → (bytes ≡ each_bytes s xs ++ rest) × ((length xs ≡ n) × Each F xs)
  unfolding read_items
  items_take zero bytes xs rest octets e =
      subst (λ (z : List A × List ℕ). (bytes ≡ each_bytes s z.0 ++ z.1) × ((length z.0 ≡ 0) × Each F z.0)) (some_is ([], bytes) (xs, rest) e) (refl, (refl, tt))
  items_take (suc n) bytes xs rest octets e =
      let o = bind_some (a bytes) (λ x. read_items a n x.1 >>= λ ys. Some (x.0 ∷ ys.0, ys.1)) (xs, rest) e in
      let q = bind_some (read_items a n o.0.1) (λ ys. Some (o.0.0 ∷ ys.0, ys.1)) (xs, rest) o.2 in
      let one = of.takes bytes o.0.0 o.0.1 octets o.1 in
      let others = items_take n o.0.1 q.0.0 q.0.1 (behind (s o.0.0) o.0.1 (subst AreOctets one.0 octets)) q.1 in
      let parts : bytes ≡ each_bytes s (o.0.0 ∷ q.0.0) ++ q.0.1 =
      one.0 ∙ ap (λ (z : List ℕ). s o.0.0 ++ z) others.0 ∙ sym (append_assoc (s o.0.0) (each_bytes s q.0.0) q.0.1) in
      subst (λ (z : List A × List ℕ). (bytes ≡ each_bytes s z.0 ++ z.1) × ((length z.0 ≡ suc n) × Each F z.0)) (some_is (o.0.0 ∷ q.0.0, q.0.1) (xs, rest) q.2)
      (parts, (ap suc others.1.0, (one.1, others.1.1)))

  items_again : (xs : List A) (rest : List ℕ) → Each F xs → read_items a (length xs) (each_bytes s xs ++ rest) ≡ Some (xs, rest)
  unfolding read_items
  items_again [] rest fits = refl
  items_again (x ∷ xs) rest fits =
      ap (read_items a (suc (length xs))) (append_assoc (s x) (each_bytes s xs) rest)
      ∙ ap (λ (o : ReadBytes A). o >>= λ y. read_items a (length xs) y.1 >>= λ ys. Some (y.0 ∷ ys.0, ys.1)) (of.again x (each_bytes s xs ++ rest) fits.0)
      ∙ ap (λ (o : ReadBytes (List A)). o >>= λ ys. Some (x ∷ ys.0, ys.1)) (items_again xs rest fits.1)

  module _ (least : ℕ) (some_byte : 0 < least) (long : (x : A) → least ≤ length (s x)) where
    each_long : (xs : List A) → length xs * least ≤ length (each_bytes s xs)
    each_long [] = omega arith
    each_long (x ∷ xs) =
        let here = long x in
        let there = each_long xs in
        let product : suc (length xs) * least ≡ length xs * least + least = suc-mul (length xs) least in
        omega (arith, length-append (s x) (each_bytes s xs), product)

    list_takes : (bytes : List ℕ) (xs : List A) (rest : List ℕ) → AreOctets bytes → list_at a least bytes ≡ Some (xs, rest) → (bytes ≡ list_bytes s xs ++ rest) × AreAll F xs
    unfolding list_at
    list_takes bytes xs rest octets e =
        let o = bind_some (read_number w64 bytes) (λ n. cond (ltb (length n.1 / least) n.0) None (read_items a n.0 n.1)) (xs, rest) e in
        let n = o.0 in
        let one = long_exact.takes bytes n.0 n.1 octets o.1 in
        let found = chosen (ltb (length n.1 / least) n.0) (read_items a n.0 n.1) (xs, rest) o.2 in
        let others = items_take n.0 n.1 xs rest (behind (long_bytes n.0) n.1 (subst AreOctets one.0 octets)) found in
        let parts : bytes ≡ list_bytes s xs ++ rest =
        one.0 ∙ ap (λ (z : List ℕ). long_bytes n.0 ++ z) others.0 ∙ sym (append_assoc (long_bytes n.0) (each_bytes s xs) rest)
        ∙ ap (λ (k : ℕ). (long_bytes k ++ each_bytes s xs) ++ rest) (sym others.1.0) in
        (parts, (subst FitsLong (sym others.1.0) one.1, others.1.1))
      where
        chosen : {B : Type 0} (b : Bool) (o : Option B) (y : B) → cond b None o ≡ Some y → o ≡ Some y
        chosen true o y e = absurd cc
        chosen false o y e = e

    list_again : (xs : List A) (rest : List ℕ) → AreAll F xs → list_at a least (list_bytes s xs ++ rest) ≡ Some (xs, rest)
    unfolding list_at
    list_again xs rest fits =
        let enough : length xs * least ≤ length (each_bytes s xs ++ rest) = omega (arith, each_long xs, length-append (each_bytes s xs) rest) in
        let room : ltb (length (each_bytes s xs ++ rest) / least) (length xs) ≡ false = le-ltb _ _ (le-div (length xs) (length (each_bytes s xs ++ rest)) least some_byte enough) in
        ap (λ (z : List ℕ). read_number w64 z >>= λ n. cond (ltb (length n.1 / least) n.0) None (read_items a n.0 n.1)) (append_assoc (long_bytes (length xs)) (each_bytes s xs) rest)
        ∙ ap (λ (o : ReadBytes ℕ). o >>= λ n. cond (ltb (length n.1 / least) n.0) None (read_items a n.0 n.1)) (long_exact.again (length xs) (each_bytes s xs ++ rest) fits.0)
        ∙ rw room (items_again xs rest fits.1)

    pub list_exact : Exact (list_bytes s) (list_at a least) (AreAll F)
    list_exact = record { takes = list_takes; again = list_again }
