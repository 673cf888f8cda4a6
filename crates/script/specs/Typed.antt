-- What a typed word says. Assumes nothing.
use Rattle.std.specs.Prelude.{◌≡◌, ℕ, ◌^◌, ◌<◌, Bool, ◌&&◌, ◌||◌, List, length, drop, Some, MatchBool, Option, ◌==◌, slice_index, slice_index_or}
use Rattle.std.specs.Borrow.{Bor}
use Rattle.std.specs.Option.{SomeIff}
use Rattle.std.specs.Str.Parse.{IsNumeral, digits_value}
use Rattle.matching.specs.declared.finding.Asked.{Asked}
use Rattle.matching.specs.declared.relation.Relation.{Relation}
use Rattle.matching.specs.Named.{relation_name, asked_for}

-- the number that the digits write, if they are nothing but digits and it fits 32 bits
abbrev pub Reads : ℕ → List ℕ → Option ℕ → Type 0
Reads radix ds r = SomeIff r (IsNumeral radix ds × (digits_value radix ds < 2 ^ 32)) (digits_value radix ds)

-- whether a word begins with 0x or 0X
abbrev pub hexadecimal : List ℕ → Bool
hexadecimal w = slice_index w 0 == 48 && (slice_index w 1 == 120 || slice_index w 1 == 88)

abbrev pub Typed : List ℕ → Option ℕ → Type 0
Typed w r = MatchBool (hexadecimal w) (Reads 16 (drop 2 w) r) (Reads 10 w r)

-- a number for each word: what the word at its place says
abbrev pub AllTyped : List (Bor (List ℕ)) → List ℕ → Type 0
AllTyped words numbers = (length numbers ≡ length words) × ((k : ℕ) (d : Bor (List ℕ)) → k < length words → Typed (slice_index_or words k d).now (Some (slice_index numbers k)))

-- one word is a relation's name, the other says the number of a variable, and this is asked under them
abbrev pub AskedTyped : List ℕ → List ℕ → Asked → Type 0
AskedTyped relation variable a = (r : Relation) × (v : ℕ) × (relation ≡ relation_name r) × Typed variable (Some v) × (a ≡ asked_for r v)
