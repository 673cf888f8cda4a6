-- What is told of each reason why no common form is written. Assumes nothing.
use Rattle.refusals.specs.declared.Refusal.{Refusal}
use Rattle.refusals.specs.declared.Layer.TheVariants as layer
use Rattle.refusals.specs.Refusals.{refusal}
use Rattle.matching.specs.Refusals.{match_refusal}
use Rattle.unification.specs.declared.fault.FormFault.{FormFault}
use Rattle.unification.specs.declared.fault.FormFault.TheVariants.{ShortBuffer, Rows, TooLarge}

abbrev pub form_refusal : FormFault → Refusal
form_refusal (ShortBuffer n) = refusal 10 layer.Buffers n
form_refusal (Rows f) = match_refusal f
form_refusal TooLarge = refusal 11 layer.CommonForm 0
