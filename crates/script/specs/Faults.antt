-- What is said of a line that is no call. Assumes nothing.
use Rattle.std.specs.Prelude.{ℕ, List, ◌++◌, codes}
use Rattle.script.specs.declared.trouble.LineFault.{LineFault}
use Rattle.script.specs.declared.trouble.LineFault.TheVariants.{UnknownCall, UnknownCheck, NothingToCheck, NoNumber, NoMark, SecondMark, UnknownRelation, NothingToBind}

abbrev pub fault_text : LineFault → List ℕ
fault_text (UnknownCall w) = codes "unknown call `" ++ w.now ++ codes "`"
fault_text (UnknownCheck w) = codes "unknown call `check " ++ w.now ++ codes "`"
fault_text NothingToCheck = codes "`check` wants `formula` or `rule`"
fault_text (NoNumber w) = codes "`" ++ w.now ++ codes "` is no number that fits 32 bits"
fault_text (NoMark m) = codes "`" ++ m.now ++ codes "` is missing between the sides"
fault_text (SecondMark m) = codes "`" ++ m.now ++ codes "` is repeated"
fault_text (UnknownRelation w) = codes "unknown relation `" ++ w.now ++ codes "`"
fault_text NothingToBind = codes "`bind` wants a relation, a variable and two rows"
