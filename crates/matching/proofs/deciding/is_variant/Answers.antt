use Rattle.cells.specs.Cells.{row}
use Rattle.cells.specs.Records.{row_words}
use Rattle.matching.proofs.Relating.{relation_laws}
use Rattle.matching.proofs.deciding.is_variant.Goals as goal

pub returns-then-is_general : goal.returns-then-is_general
returns-then-is_general c =
    let m = relation_laws.mutual_variants (row (row_words c.args.left.now)) (row (row_words c.args.formula.now)) in
    ((λ t. m.1 (c.is_general.ensures.0 c.if-is_general.true, c.is_instance.ensures.0 t)), (λ h. c.is_instance.ensures.1 (m.0 h).1))
