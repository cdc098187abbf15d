-- The loops over the items of a list.
use Rattle.checkpoint.proofs.Common.{◌≡◌, ℕ, suc, ◌-◌, ◌+◌, ◌<◌, ◌≤◌, List, [], ◌∷◌, ◌++◌, length, get_or, take, drop, Some, None, Result, Ok, Err, refl, sym}
use Rattle.checkpoint.proofs.Common.{ap, subst, ◌∙◌, append_assoc, add-one, take-suc, arith, append-nil, drop_more, IsErrAnd, IfErr, DecodeFault, BadImage}
use Rattle.checkpoint.{proofs.Common.{NoMemory, each_bytes, Each, ◌>>=◌, ReadBytes, TellsDecodeFault}, specs.Reading.{read_items}}

-- the items read so far, before those that are read next
abbrev pub with_front : {A : Type 0} → List A → ReadBytes (List A) → ReadBytes (List A)
with_front front read = read >>= λ xs. Some (front ++ xs.0, xs.1)

regroup : {A : Type 0} (front : List A) (x : A) (read : ReadBytes (List A)) → with_front front (read >>= λ xs. Some (x ∷ xs.0, xs.1)) ≡ with_front (front ++ x ∷ []) read
regroup front x None = refl
regroup {A} front x (Some xs) = ap (λ (ys : List A). Some (ys, xs.1)) (simp append_assoc)

pub begins : {A : Type 0} (read : List ℕ → ReadBytes A) (count : ℕ) (bytes : List ℕ) → with_front [] (read_items read (count - 0) bytes) ≡ read_items read count bytes
begins read count bytes = let k : count - 0 ≡ count = omega arith in rw k (nothing (read_items read count bytes))
  where
    nothing : {A : Type 0} (o : ReadBytes (List A)) → with_front [] o ≡ o
    nothing None = refl
    nothing (Some x) = refl

pub goes_on : {A : Type 0} (read : List ℕ → ReadBytes A) (front : List A) (count i : ℕ) (bytes rest : List ℕ) (x : A) (total : ReadBytes (List A)) → i < count → read bytes ≡ Some (x, rest)
    → with_front front (read_items read (count - i) bytes) ≡ total → with_front (front ++ x ∷ []) (read_items read (count - (i + 1)) rest) ≡ total
unfolding read_items
goes_on read front count i bytes rest x total lt is_x so_far =
    let k : count - i ≡ suc (count - (i + 1)) = omega arith in
    let turn : with_front front (read_items read (count - i) bytes) ≡ with_front (front ++ x ∷ []) (read_items read (count - (i + 1)) rest) =
    rw (k, is_x) (regroup front x (read_items read (count - (i + 1)) rest)) in
    sym turn ∙ so_far

pub stops : {A : Type 0} (read : List ℕ → ReadBytes A) (front : List A) (count i : ℕ) (bytes : List ℕ) (total : ReadBytes (List A)) (fault : DecodeFault) → i < count → TellsDecodeFault (read bytes) fault
    → with_front front (read_items read (count - i) bytes) ≡ total → TellsDecodeFault total fault
unfolding read_items
stops read front count i bytes total BadImage lt none so_far =
    let k : count - i ≡ suc (count - (i + 1)) = omega arith in
    let turn : with_front front (read_items read (count - i) bytes) ≡ None = rw (k, none) refl in
    sym so_far ∙ turn
stops read front count i bytes total NoMemory lt told so_far = tt

-- what a step's fault tells is told of the whole
pub passed_on : {A : Type 0} (r : Result A DecodeFault) (fault : DecodeFault) (P : DecodeFault → Type 0) → IsErrAnd r (λ e. e ≡ fault) → P fault → IfErr r P
passed_on (Ok x) fault P same told = tt
passed_on (Err e) fault P same told = subst P (sym same) told

pub ends : {A : Type 0} (read : List ℕ → ReadBytes A) (front : List A) (count i : ℕ) (bytes : List ℕ) (total : ReadBytes (List A)) → count ≤ i
    → with_front front (read_items read (count - i) bytes) ≡ total → total ≡ Some (front, bytes)
unfolding read_items
ends {A} read front count i bytes total le so_far =
    let k : count - i ≡ 0 = omega arith in
    let turn : with_front front (read_items read (count - i) bytes) ≡ Some (front, bytes) = rw k (ap (λ (ys : List A). Some (ys, bytes)) (append-nil front)) in
    sym so_far ∙ turn

-- ---- writing

module _ {A : Type 0} (items : List A) (x : A) where
  -- a turn of the loop that writes items
  pub writes_on : (s : A → List ℕ) (i : ℕ) (out next all : List ℕ) → i < length items → x ≡ get_or items i x → next ≡ out ++ s x → out ++ each_bytes s (drop i items) ≡ all
      → next ++ each_bytes s (drop (i + 1) items) ≡ all
  writes_on s i out next all lt is e so_far =
      let cut : drop i items ≡ x ∷ drop (i + 1) items = drop_more items i x lt ∙ ap (λ (y : A). y ∷ drop (i + 1) items) (sym is) in
      let whole : out ++ each_bytes s (drop i items) ≡ (out ++ s x) ++ each_bytes s (drop (i + 1) items) = rw cut (sym (append_assoc out (s x) (each_bytes s (drop (i + 1) items)))) in
      ap (λ (b : List ℕ). b ++ each_bytes s (drop (i + 1) items)) e ∙ sym whole ∙ so_far

  pub fits_on : (F : A → Type 0) (i : ℕ) → i < length items → x ≡ get_or items i x → Each F (take i items) → F x → Each F (take (i + 1) items)
  fits_on F i lt is so_far fits =
      let cut : take (i + 1) items ≡ take i items ++ x ∷ [] = rw add-one (take-suc items i x lt ∙ ap (λ (y : A). take i items ++ y ∷ []) (sym is)) in
      subst (Each F) (sym cut) (each_and F (take i items) so_far fits)
    where
      each_and : (F : A → Type 0) (xs : List A) → Each F xs → F x → Each F (xs ++ x ∷ [])
      each_and F [] h f = (f, tt)
      each_and F (y ∷ xs) h f = (h.0, each_and F xs h.1 f)
