-- What is told of each fault: number, layer and place. Nothing else turns a fault into numbers. Assumes nothing.
use Rattle.std.specs.Prelude.{List, ℕ, ◌++◌, codes}
use Rattle.std.specs.Fmt.{decimal}
use Rattle.refusals.specs.declared.CellFault.{CellFault}
use Rattle.refusals.specs.declared.CellFault.TheVariants.{Length, NoCell, EndsEarly, LeftOver}
use Rattle.refusals.specs.declared.RuleFault.{RuleFault}
use Rattle.refusals.specs.declared.RuleFault.TheVariants.{Cells, BareVariable, NewVariable}
use Rattle.refusals.specs.declared.NumberFault.{NumberFault}
use Rattle.refusals.specs.declared.NumberFault.TheVariants.{OutOfRange}
use Rattle.refusals.specs.declared.Side.{Side}
use Rattle.refusals.specs.declared.Side.TheVariants.{Left, Right}
use Rattle.refusals.specs.declared.Refusal.{Refusal}
use Rattle.refusals.specs.declared.Layer.{Layer}
use Rattle.refusals.specs.declared.Layer.TheVariants as layer

abbrev pub refusal : ℕ → Layer → ℕ → Refusal
refusal n l p = record { number = n; layer = l; place = p }

abbrev pub cell_refusal : CellFault → Refusal
cell_refusal (Length n) = refusal 1 layer.Cells n
cell_refusal (NoCell p) = refusal 2 layer.Cells p
cell_refusal (EndsEarly n) = refusal 3 layer.Cells n
cell_refusal (LeftOver p) = refusal 3 layer.Cells p

abbrev pub rule_refusal : RuleFault → Refusal
rule_refusal (Cells side f) = cell_refusal f
rule_refusal BareVariable = refusal 4 layer.Rule 0
rule_refusal (NewVariable p) = refusal 5 layer.Rule p

abbrev pub number_refusal : NumberFault → Refusal
number_refusal (OutOfRange n) = refusal 6 layer.Book n

-- the side that a rule's fault speaks of
abbrev pub side_of : RuleFault → Side
side_of (Cells side f) = side
side_of BareVariable = Left
side_of (NewVariable p) = Right

abbrev pub layer_name : Layer → List ℕ
layer_name layer.Buffers = codes "buffers"
layer_name layer.File = codes "file"
layer_name layer.Cells = codes "cells"
layer_name layer.Rule = codes "rule"
layer_name layer.Book = codes "book"
layer_name layer.CommonForm = codes "common form"

abbrev pub side_name : Side → List ℕ
side_name Left = codes "left"
side_name Right = codes "right"

-- the words of the line that is printed
abbrev pub refusal_text : Refusal → List ℕ
refusal_text r = codes "refused " ++ decimal r.number ++ codes " " ++ layer_name r.layer ++ codes " " ++ decimal r.place
