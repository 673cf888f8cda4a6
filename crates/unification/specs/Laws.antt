-- Laws of unification. Assumes nothing.
use Rattle.std.specs.Prelude.{List}
use Rattle.cells.specs.Cells.{Cell}
use Rattle.matching.specs.Relations.{Unifiable, Common}

pub record UnificationLaws : Type 0 where
  -- unifiable rows have a common form, of whatever size
  pub exists : (s t : List Cell) → Unifiable s t → (c : List Cell) × Common s t c
