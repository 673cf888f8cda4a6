-- The relations by name, and what is asked for under one. Assumes nothing.
use Rattle.std.specs.Prelude.{◌≡◌, ℕ, List, Ok, Err, Result, codes}
use Rattle.matching.specs.declared.relation.Relation.{Relation}
use Rattle.matching.specs.declared.relation.Relation.TheVariants.{General, Instance, Variant, Unifiable}
use Rattle.matching.specs.declared.relation.UnknownRelation.{UnknownRelation}
use Rattle.matching.specs.declared.finding.Asked.{Asked}
use Rattle.matching.specs.declared.finding.Asked.TheVariants as asked

abbrev pub relation_name : Relation → List ℕ
relation_name General = codes "general"
relation_name Instance = codes "instance"
relation_name Variant = codes "variant"
relation_name Unifiable = codes "unifiable"

-- the word is the relation's name, or no relation has it
abbrev pub IsNamed : List ℕ → Result Relation UnknownRelation → Type 0
IsNamed w (Ok r) = w ≡ relation_name r
IsNamed w (Err e) = (r : Relation) → w ≡ relation_name r → ⊥

-- the relation and the variable, of the kind that the relation asks for
abbrev pub asked_for : Relation → ℕ → Asked
asked_for General v = asked.General (record { 0 = v })
asked_for Instance v = asked.Instance (record { 0 = v })
asked_for Variant v = asked.Variant (record { 0 = v })
asked_for Unifiable v = asked.Unifiable
