-- The forms of the lines of each kind of text.
use Rattle.std.specs.Prelude.{ℕ, ◌^◌, ◌-◌, List, [], ◌∷◌, ℤ, pos, neg_ℤ, codes}
use Rattle.dimacs_lines.specs.Limits.{most_count, most_nodes}
use Rattle.dimacs_records.specs.declared.kinds.TextKind.{TextKind}
use Rattle.dimacs_records.specs.declared.kinds.TextKind.TheVariants.{Max, Min, Graph, Queries, Solution, Cut, Potentials, Labels, Distances}

-- the type of a field: this word, one of these two words, or a number in this range
pub data FieldType : Type 0 where
  Word : List ℕ → FieldType
  Either : List ℕ → List ℕ → FieldType
  Number : ℤ → ℤ → FieldType

abbrev pub Nodes : FieldType
Nodes = Number (pos 0) (pos most_nodes)

abbrev pub Count : FieldType
Count = Number (pos 0) (pos most_count)

abbrev pub Id : FieldType
Id = Number (pos 1) (pos most_nodes)

abbrev pub Whole : FieldType
Whole = Number (neg_ℤ (pos (2 ^ 63))) (pos (2 ^ 63 - 1))

abbrev pub Wide : FieldType
Wide = Number (neg_ℤ (pos (10 ^ 30))) (pos (10 ^ 30))

abbrev pub Radius : FieldType
Radius = Number (pos 0) (pos (10 ^ 30))

-- the letter of a line and the types of the fields after it; forms with the same letter differ in the number of fields
pub record Form : Type 0 where
  pub letter : List ℕ
  pub types : List FieldType

abbrev pub form : List ℕ → List FieldType → Form
form letter types = record { letter = letter; types = types }

-- the forms of the lines of each kind
abbrev pub forms : TextKind → List Form
forms Max = form (codes "p") (Word (codes "max") ∷ Nodes ∷ Count ∷ [])
    ∷ form (codes "n") (Id ∷ Either (codes "s") (codes "t") ∷ [])
    ∷ form (codes "a") (Id ∷ Id ∷ Whole ∷ []) ∷ []
forms Min = form (codes "p") (Word (codes "min") ∷ Nodes ∷ Count ∷ [])
    ∷ form (codes "n") (Id ∷ Whole ∷ [])
    ∷ form (codes "a") (Id ∷ Id ∷ Whole ∷ Whole ∷ Whole ∷ []) ∷ []
forms Graph = form (codes "p") (Word (codes "sp") ∷ Nodes ∷ Count ∷ [])
    ∷ form (codes "a") (Id ∷ Id ∷ Whole ∷ []) ∷ []
forms Queries = form (codes "p") (Word (codes "aux") ∷ Word (codes "sp") ∷ Either (codes "ss") (codes "p2p") ∷ Count ∷ [])
    ∷ form (codes "s") (Id ∷ [])
    ∷ form (codes "q") (Id ∷ Id ∷ []) ∷ []
forms Solution = form (codes "s") (Wide ∷ [])
    ∷ form (codes "f") (Id ∷ Id ∷ Whole ∷ []) ∷ []
forms Cut = form (codes "p") (Word (codes "cut") ∷ Nodes ∷ Count ∷ [])
    ∷ form (codes "u") (Id ∷ []) ∷ []
forms Potentials = form (codes "p") (Word (codes "pot") ∷ Nodes ∷ Count ∷ [])
    ∷ form (codes "y") (Id ∷ Wide ∷ []) ∷ []
forms Labels = form (codes "p") (Word (codes "dist") ∷ Nodes ∷ Count ∷ [])
    ∷ form (codes "t") (Id ∷ Count ∷ [])
    ∷ form (codes "t") (Id ∷ Count ∷ Radius ∷ [])
    ∷ form (codes "d") (Id ∷ Wide ∷ Id ∷ []) ∷ []
forms Distances = form (codes "p") (Word (codes "distances") ∷ Nodes ∷ Count ∷ [])
    ∷ form (codes "t") (Id ∷ Count ∷ [])
    ∷ form (codes "d") (Id ∷ Wide ∷ []) ∷ []
