-- How relations, faulty lines and counts are printed. Assumes nothing.
use Rattle.std.specs.Prelude.{ℕ, Bool, if◌then◌else◌, List, [], ◌∷◌, ◌++◌, codes}
use Rattle.std.specs.List.{flat_map}
use Rattle.std.specs.Fmt.{decimal}
use Rattle.matching.specs.declared.relation.Relation.{Relation}
use Rattle.matching.specs.Named.{relation_name}
use Rattle.script.specs.declared.trouble.LineFault.{LineFault}
use Rattle.script.specs.Faults.{fault_text}

-- a relation that may hold, and its name behind a space if it does
abbrev pub further_name : Bool × Relation → List ℕ
further_name p = if p.0 then codes " " ++ relation_name p.1 else []

-- the names of those that hold, with a space between them
abbrev pub names_text : List (Bool × Relation) → List ℕ
names_text [] = codes "none"
names_text (p ∷ ps) = if p.0 then relation_name p.1 ++ flat_map further_name ps else names_text ps

-- a line that is no call, by its number
abbrev pub faulty_text : ℕ → LineFault → List ℕ
faulty_text number fault = codes "line " ++ decimal number ++ codes ": " ++ fault_text fault

-- the closing line
abbrev pub tally_text : ℕ → ℕ → List ℕ
tally_text calls refused = decimal calls ++ codes " calls, " ++ decimal refused ++ codes " refused"
