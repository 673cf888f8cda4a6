use Rattle.std.proofs.Common.{rules}
use Rattle.std.proofs.lemmas.List.{take_all, drop_all}
use Rattle.std.proofs.lemmas.List.Edits.{map_over_more}
use Rattle.cells.specs.Variables.{index, renamed_word}
use Rattle.cells.proofs.row.renaming.rename_words.Goals as goal

pub loop-w-preserved : goal.loop-w-preserved
loop-w-preserved c = search (rules, map_over_more (renamed_word (index c.args.list.now)))

pub returns : goal.returns
returns c = search (rules, take_all, drop_all)
