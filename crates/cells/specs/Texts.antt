-- How cells are printed. Assumes nothing.
use Rattle.std.specs.Prelude.{ℕ, ◌^◌, ◌-◌, false, true, List, [], ◌∷◌, ◌++◌, codes}
use Rattle.std.specs.List.{flat_map}
use Rattle.std.specs.Fmt.{digits, format_spec, padded_integral}

-- 0x and eight hexadecimal digits
abbrev pub cell_text : ℕ → List ℕ
cell_text w = codes "0x" ++ padded_integral (format_spec 32 0 4 8 (2 ^ 64 - 1)) false [] (digits 16 true w)

-- each further one behind a space
abbrev pub further_text : ℕ → List ℕ
further_text w = codes " " ++ cell_text w

abbrev pub cells_text : List ℕ → List ℕ
cells_text [] = []
cells_text (w ∷ ws) = cell_text w ++ flat_map further_text ws
