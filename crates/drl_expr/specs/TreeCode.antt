-- How a tree is stored: its parts one after another, each operator behind what it takes.
use Rattle.std.specs.{Prelude.{◌≡◌, ℕ, zero, suc, ℤ, List, [], ◌∷◌, ◌++◌, Bool, ◌⊎◌, refl}, Coded.{Coded, code_by, coded_list, coded_bool, coded_ℕ, coded_ℤ}}
use Rattle.std.{specs.Coded.{coded⊎}, proofs.Common.{inl, inr, ap, ◌∙◌}}
use Rattle.drl_expr.specs.declared.literal.LitTree.{LitTree}
use Rattle.drl_expr.specs.declared.literal.LitTree.TheVariants as v
use Rattle.drl_expr.specs.Tree.{Tree, lit, var, var_field, neg, add, sub, mul}

-- a literal, a name, the name of a field of the variable before it, or an operator's number
abbrev Part : Type 0
Part = LitTree ⊎ (List ℕ ⊎ (List ℕ ⊎ ℕ))

abbrev pub parts : Tree → List Part
parts (lit v) = inl v ∷ []
parts (var s) = inr (inl s) ∷ []
parts (var_field s f) = inr (inl s) ∷ inr (inr (inl f)) ∷ []
parts (neg a) = parts a ++ (inr (inr (inr 0)) ∷ [])
parts (add a b) = parts a ++ (parts b ++ (inr (inr (inr 1)) ∷ []))
parts (sub a b) = parts a ++ (parts b ++ (inr (inr (inr 2)) ∷ []))
parts (mul a b) = parts a ++ (parts b ++ (inr (inr (inr 3)) ∷ []))

abbrev joined : (Tree → Tree → Tree) → List Tree → List Tree
joined f (b ∷ a ∷ rest) = f a b ∷ rest
joined f rest = rest

abbrev turned : List Tree → List Tree
turned (a ∷ rest) = neg a ∷ rest
turned rest = rest

abbrev pointed : List ℕ → List Tree → List Tree
pointed f (var s ∷ rest) = var_field s f ∷ rest
pointed f rest = rest

abbrev put_number : ℕ → List Tree → List Tree
put_number zero done = turned done
put_number (suc zero) done = joined add done
put_number (suc (suc zero)) done = joined sub done
put_number n done = joined mul done

abbrev put : Part → List Tree → List Tree
put (inl v) done = lit v ∷ done
put (inr (inl s)) done = var s ∷ done
put (inr (inr (inl f))) done = pointed f done
put (inr (inr (inr n))) done = put_number n done

abbrev read : List Part → List Tree → List Tree
read [] done = done
read (p ∷ ps) done = read ps (put p done)

abbrev first : List Tree → Tree
first [] = var []
first (a ∷ rest) = a

abbrev pub tree : List Part → Tree
tree ps = first (read ps [])

read-append : (ps qs : List Part) (done : List Tree) → read (ps ++ qs) done ≡ read qs (read ps done)
read-append [] qs done = refl
read-append (p ∷ ps) qs done = read-append ps qs (put p done)

two : (a b : Tree) (p : Part) (done : List Tree) → ((done : List Tree) → read (parts a) done ≡ a ∷ done) → ((done : List Tree) → read (parts b) done ≡ b ∷ done)
    → read (parts a ++ (parts b ++ (p ∷ []))) done ≡ put p (b ∷ a ∷ done)
two a b p done ha hb = read-append (parts a) (parts b ++ (p ∷ [])) done
    ∙ ap (read (parts b ++ (p ∷ []))) (ha done)
    ∙ read-append (parts b) (p ∷ []) (a ∷ done)
    ∙ ap (put p) (hb (a ∷ done))

read-parts : (a : Tree) (done : List Tree) → read (parts a) done ≡ a ∷ done
read-parts (lit v) done = refl
read-parts (var s) done = refl
read-parts (var_field s f) done = refl
read-parts (neg a) done = read-append (parts a) (inr (inr (inr 0)) ∷ []) done ∙ ap turned (read-parts a done)
read-parts (add a b) done = two a b (inr (inr (inr 1))) done (read-parts a) (read-parts b)
read-parts (sub a b) done = two a b (inr (inr (inr 2))) done (read-parts a) (read-parts b)
read-parts (mul a b) done = two a b (inr (inr (inr 3))) done (read-parts a) (read-parts b)

pub tree-parts : (a : Tree) → tree (parts a) ≡ a
tree-parts a = ap first (read-parts a [])

abbrev value_parts : LitTree → ℤ ⊎ (Bool ⊎ List ℕ)
value_parts (v.Int n) = inl n
value_parts (v.Bool b) = inr (inl b)
value_parts (v.Text s) = inr (inr s)

abbrev value : ℤ ⊎ (Bool ⊎ List ℕ) → LitTree
value (inl n) = v.Int n
value (inr (inl b)) = v.Bool b
value (inr (inr s)) = v.Text s

pub value-parts : (x : LitTree) → value (value_parts x) ≡ x
value-parts (v.Int n) = refl
value-parts (v.Bool b) = refl
value-parts (v.Text s) = refl

abbrev pub value_code : Coded LitTree
value_code = code_by (ℤ ⊎ (Bool ⊎ List ℕ)) (coded⊎ coded_ℤ (coded⊎ coded_bool (coded_list coded_ℕ))) value_parts value value-parts

abbrev pub tree_code : Coded Tree
tree_code = code_by (List Part) (coded_list (coded⊎ value_code (coded⊎ (coded_list coded_ℕ) (coded⊎ (coded_list coded_ℕ) coded_ℕ)))) parts tree tree-parts
