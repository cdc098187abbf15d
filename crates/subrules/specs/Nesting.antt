-- In which ways what a rule asks for can be met, by the nesting of its alternatives.
use Rattle.std.specs.Prelude.{List, [], ◌∷◌, ◌++◌}
use Rattle.drl_grammar.specs.declared.{condition.CondTree.{CondTree}, written.{Piece.{Piece, TheVariants.{One, Open, Or, Close}}, WrittenType.{WrittenType}}}
use Rattle.subrules.specs.Ways.{Way, choices, times}

mutual
  -- a condition has its choices, alternatives the ways of each of them
  pub data OneHas (types : List WrittenType) : List Piece → List Way → Type 0 where
    condition : {c : CondTree} → OneHas types (One c ∷ []) (choices types c)
    alternatives : {ps qs : List Piece} {first others : List Way} → AllHave types ps first → AnyHas types qs others
        → OneHas types (Open ∷ ps ++ Or ∷ qs ++ Close ∷ []) (first ++ others)

  -- of several that are all asked for, one of the first and one of each behind it
  pub data AllHave (types : List WrittenType) : List Piece → List Way → Type 0 where
    last : {ps : List Piece} {ways : List Way} → OneHas types ps ways → AllHave types ps ways
    further : {ps qs : List Piece} {first others : List Way} → OneHas types ps first → AllHave types qs others → AllHave types (ps ++ qs) (times first others)

  -- of several of which one is asked for, those of each
  pub data AnyHas (types : List WrittenType) : List Piece → List Way → Type 0 where
    only : {ps : List Piece} {ways : List Way} → AllHave types ps ways → AnyHas types ps ways
    or_else : {ps qs : List Piece} {first others : List Way} → AllHave types ps first → AnyHas types qs others → AnyHas types (ps ++ Or ∷ qs) (first ++ others)
