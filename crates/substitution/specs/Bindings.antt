-- A substitution given by parts of a row, and what writing a row under it leaves. Assumes nothing.
use Rattle.std.specs.Prelude.{◌≡◌, ℕ, ◌<◌, ◌≤◌, cond, List, [], ◌∷◌, ◌++◌, length, take, drop, Some, None, Option, ◌==◌}
use Rattle.substitution.specs.declared.bindings.Part.{Part}
use Rattle.substitution.specs.declared.bindings.Binding.{Binding}
use Rattle.substitution.specs.declared.bindings.Bindings.{Bindings}
use Rattle.cells.specs.Cells.{Cell, variable, word, row, words}
use Rattle.cells.specs.Substitutions.{substitute}

abbrev pub bindings_list : Bindings → List Binding
bindings_list b = take b.len b.items

abbrev pub binding : ℕ → Part → Binding
binding w p = record { variable = w; part = p }

-- the part of the first binding of the variable whose cell is the word
abbrev pub lookup : List Binding → ℕ → Option Part
lookup [] w = None
lookup (e ∷ es) w = cond (e.variable == w) (Some e.part) (lookup es w)

-- what is put for v: a part of the source, as far as the source goes, or v itself
abbrev pub part_of : List Cell → ℕ → Option Part → List Cell
part_of source v None = variable v ∷ []
part_of source v (Some p) = take p.len (drop p.at source)

-- the substitution that the bindings stand for, over the source
abbrev pub bound_in : List ℕ → List Binding → ℕ → List Cell
bound_in source b v = part_of (row source) v (lookup b (word (variable v)))

-- the words of the pattern under the bindings
abbrev pub under : List ℕ → List Binding → List ℕ → List ℕ
under source b pattern = words (substitute (bound_in source b) (row pattern))

-- how many words there are, if they have room
abbrev pub Measured : List ℕ → ℕ → Option ℕ → Type 0
Measured ws room (Some n) = (n ≡ length ws) × (n ≤ room)
Measured ws room None = room < length ws

-- those words, at the front of the buffer, with their count; or nothing, where they do not fit
abbrev pub Written : List ℕ → List ℕ → Option ℕ → List ℕ → Type 0
Written ws out (Some n) after = (n ≡ length ws) × (n ≤ length out) × (after ≡ ws ++ drop n out)
Written ws out None after = (length out < length ws) × (after ≡ out)
