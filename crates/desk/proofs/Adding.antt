-- The bytes of a file that is made piece by piece.
use Rattle.std.proofs.Common.{◌≡◌, ◌++◌, ◌+◌, ◌-◌, ◌≤◌, ℕ, List, length, Option, None, Some, refl, ap, subst, ◌∙◌, append_assoc, arith}
use Rattle.{std.{specs.Prelude.{option_map}, proofs.lemmas.List.{length-append}}, fx_io.specs.Outside.{append}, fx_store.specs.Puts.{IsDraft}}
use Rattle.line_run.specs.Saves.{Files}

-- the file has a piece more
grown : (files : Files) (draft draft' : Option (List ℕ)) (front piece : List ℕ) → IsDraft files draft front → draft' ≡ append draft piece → IsDraft files draft' (front ++ piece)
grown files draft draft' front piece was is = is ∙ ap (λ (d : Option (List ℕ)). append d piece) was ∙ here files
  where
    here : (files : Files) → append (option_map (λ _. front) files) piece ≡ option_map (λ _. front ++ piece) files
    here None = refl
    here (Some f) = refl

-- behind what stood there first
pub added_behind : (files : Files) (draft draft' : Option (List ℕ)) (front so_far piece : List ℕ) → IsDraft files draft (front ++ so_far) → draft' ≡ append draft piece → IsDraft files draft' (front ++ (so_far ++ piece))
added_behind files draft draft' front so_far piece was is =
    subst (λ (bytes : List ℕ). IsDraft files draft' bytes) (append_assoc front so_far piece) (grown files draft draft' (front ++ so_far) piece was is)

-- and the rest is what is left behind it
pub left_behind : (front piece left rest whole : List ℕ) → piece ++ left ≡ rest → front ++ rest ≡ whole → (front ++ piece) ++ left ≡ whole
left_behind front piece left rest whole is all = append_assoc front piece left ∙ ap (λ (z : List ℕ). front ++ z) is ∙ all

-- so much room is left
pub room_behind : (front piece : List ℕ) (room most : ℕ) → length piece ≤ room → length front + room ≡ most → length (front ++ piece) + (room - length piece) ≡ most
room_behind front piece room most fits all = omega (arith, length-append front piece, fits, all)
